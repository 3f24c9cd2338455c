-- `found_books` meets its contract.
use Rattle.books.proofs.Example.{example}
use Rattle.books.proofs.FoundBooks.{found_books}
use Rattle.books.proofs.found_books.Goals as goal

pub returns : goal.returns
returns c = (found_books, example)
