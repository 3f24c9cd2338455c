-- `offers_told` meets its contract.
use Rattle.books.proofs.OffersTold.{offers-told}
use Rattle.books.proofs.offers_told.Goals as goal

pub returns : goal.returns
returns c = offers-told
