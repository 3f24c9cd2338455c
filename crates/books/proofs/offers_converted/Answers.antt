-- `offers_converted` meets its contract.
use Rattle.books.proofs.Converted.{offers-converted}
use Rattle.books.proofs.offers_converted.Goals as goal

pub returns : goal.returns
returns c = offers-converted
