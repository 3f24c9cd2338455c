-- `keep` meets its contract: an entry, or nothing, as the verdict leaves.
use mathlib.Core.Path.{sym}
use Rattle.book.proofs.OfferLaws.{left-none, left_one}
use Rattle.book.proofs.keep.Goals as goal

pub returns-in-Some : goal.returns-in-Some
returns-in-Some c = λ q. left_one _ _ _ _ _ (sym (c.in-Some.ensures _ q)) (c.put_kept.ensures q)

pub returns-in_default : goal.returns-in_default
returns-in_default c = λ q. left-none _ _ _ (sym (c.in_default.ensures _ q))
