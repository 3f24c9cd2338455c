use Rattle.std.proofs.Common.{arith, sym, List, ℕ, Option, Some, subst, take}
use Rattle.row_order.specs.Order.{OrderOf, PlaceOf}
use Rattle.row_order.proofs.Laws.{front_ordered, order_rises, next_twice, next_ordered}
use Rattle.row_order.proofs.rising_order.Goals as goal

pub loop-i-init : goal.loop-i-init
loop-i-init c =
    let n = c.rising_front-i.result in
    let rows = c.args.rows.now in
    subst (λ (order : List ℕ). OrderOf rows n (Some order)) (sym c.positions-order.ensures)
    (front_ordered rows n (omega (arith, c.rising_front-i.ensures.within)) c.rising_front-i.ensures.rise)

pub place-requires-clause-order_rises : goal.place-requires-clause-order_rises
place-requires-clause-order_rises c = order_rises _ _ _ c.loop-i.invariant (omega arith)

pub returns-in_err-at : goal.returns-in_err-at
returns-in_err-at c =
    let rows = c.args.rows.now in
    let i = c.loop-i.i in
    let none = subst (λ (o : Option ℕ). PlaceOf rows (take i c.loop-i.order) i o) c.in_err-at.was c.place.ensures in
    rw c.from_residual.ensures (next_twice rows i c.loop-i.order c.loop-i.invariant c.args.n c.loop-i-test.true none)

pub loop-i-preserved : goal.loop-i-preserved
loop-i-preserved c =
    let rows = c.args.rows.now in
    let i = c.loop-i.i in
    let some = subst (λ (o : Option ℕ). PlaceOf rows (take i c.loop-i.order) i o) c.in_ok-at.was c.place.ensures in
    next_ordered rows i c.loop-i.order c.loop-i.invariant c.in_ok-at.at c.put.new.order some c.put.ensures
