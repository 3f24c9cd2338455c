use Rattle.std.proofs.Common.{ℕ, sym, ap, ◌∙◌, ◌+◌, ◌-◌, ◌/◌, ◌<◌, ◌≡◌, arith, length, get_or, map, is_some}
use Rattle.std.proofs.lemmas.List.{length-map, get_or-map}
use Rattle.parts.proofs.Laws.{order-less, order_same, order-more}
use Rattle.map.specs.Rows.{peer_at}
use Rattle.map.proofs.Laws.{find-rising, bracket_up, bracket_down, bracket_none}
use Rattle.map.proofs.Risen.{insert-at}
use Rattle.row_order.proofs.place.Goals as goal

pub returns-in-Equal : goal.returns-in-Equal
returns-in-Equal c =
    let mid : ℕ = c.loop-lo.lo + (c.loop-lo.hi - c.loop-lo.lo) / 2 in
    let peer = peer_at c.args.rows.now in
    let inside : mid < length (map peer c.args.order.now) = omega (arith, c.loop-lo.invariant.within) in
    let here = get_or-map peer c.args.order.now mid 0 0 (omega (arith, length-map c.args.order.now peer)) in
    ap is_some (find-rising _ _ mid c.requires.order_rises.rise inside (here ∙ order_same _ _ (sym c.compare_rows.ensures ∙ c.in-Equal.is)))

pub loop-lo-preserved-in-Less : goal.loop-lo-preserved-in-Less
loop-lo-preserved-in-Less c =
    let mid : ℕ = c.loop-lo.lo + (c.loop-lo.hi - c.loop-lo.lo) / 2 in
    let peer = peer_at c.args.rows.now in
    let inside : mid < length c.args.order.now = omega (arith, c.loop-lo.invariant.within, length-map c.args.order.now peer) in
    let less : get_or (map peer c.args.order.now) mid 0 < peer c.args.i =
    rw (get_or-map peer c.args.order.now mid 0 0 inside) (order-less _ _ (sym c.compare_rows.ensures ∙ c.in-Less.is)) in
    bracket_up _ _ _ _ mid c.requires.order_rises.rise c.loop-lo.invariant (omega arith) (omega arith) _ (omega arith) less

pub loop-lo-preserved : goal.loop-lo-preserved
loop-lo-preserved c =
    let mid : ℕ = c.loop-lo.lo + (c.loop-lo.hi - c.loop-lo.lo) / 2 in
    let peer = peer_at c.args.rows.now in
    let inside : mid < length c.args.order.now = omega (arith, c.loop-lo.invariant.within, length-map c.args.order.now peer) in
    let more : peer c.args.i < get_or (map peer c.args.order.now) mid 0 =
    rw (get_or-map peer c.args.order.now mid 0 0 inside) (order-more _ _ (sym c.compare_rows.ensures ∙ c.in-Greater.is)) in
    bracket_down _ _ _ _ mid c.requires.order_rises.rise c.loop-lo.invariant (omega arith) (omega arith) more

pub returns : goal.returns
returns c =
    let peer = peer_at c.args.rows.now in
    let b = c.loop-lo.invariant in
    let met : c.loop-lo.hi ≡ c.loop-lo.lo = omega (arith, b.ordered) in (
      ap is_some (bracket_none _ _ _ _ c.loop-lo-test.false b),
      omega (arith, b.within, length-map c.args.order.now peer),
      insert-at peer c.args.order.now c.args.i c.loop-lo.lo (rw met at b),
    )
