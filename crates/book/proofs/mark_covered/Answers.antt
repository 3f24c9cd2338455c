-- `mark_covered` meets its contract: what certifying the previous point does, and nothing where there is none.
use native.Mathlib.Omega.{arith}
use mathlib.Core.Path.{sym}
use Rattle.point.specs.Said.{said}
use Rattle.book.proofs.Tests.{prev-none, prev-some}
use Rattle.book.proofs.OfferLaws.{none-marked}
use Rattle.book.proofs.mark_covered.Goals as goal

pub returns-in-Some : goal.returns-in-Some
returns-in-Some c = λ z r.
    rw (prev-some (said c.args.needs.now.point) _ _ (sym c.in-Some.ensures) c.rounds_back.ensures) (c.certify.ensures z r)

pub returns-in_default : goal.returns-in_default
returns-in_default c =
    let p = said c.args.needs.now.point in
    none-marked _ p _ (λ k. omega (arith, c.slice_known-1.given k)) (prev-none p (sym c.in_default.ensures))
