use Rattle.std.proofs.Common.{ℕ, sym, ◌∙◌, ◌+◌, ◌-◌, ◌/◌, ◌<◌, arith, length, get_or}
use Rattle.parts.specs.Code.{number}
use Rattle.parts.proofs.Laws.{order-less, order_same, order-more}
use Rattle.map.specs.Rows.{peers_of}
use Rattle.map.proofs.Laws.{peers_of-at, find-rising, bracket_up, bracket_down, bracket_none}
use Rattle.map.proofs.search.Goals as goal

pub returns-in-Equal : goal.returns-in-Equal
returns-in-Equal c =
    let inside : c.loop-lo.lo + (c.loop-lo.hi - c.loop-lo.lo) / 2 < length (peers_of c.args.width c.args.rows.now) = omega arith in
    let here = peers_of-at _ _ _ inside ∙ order_same _ _ (sym c.compare_row.ensures ∙ c.in-Equal.is) in
    sym (find-rising _ _ _ c.requires.le_width.1 inside here)

pub loop-lo-preserved-in-Less : goal.loop-lo-preserved-in-Less
loop-lo-preserved-in-Less c =
    let mid : ℕ = c.loop-lo.lo + (c.loop-lo.hi - c.loop-lo.lo) / 2 in
    let inside : mid < length (peers_of c.args.width c.args.rows.now) = omega arith in
    let less : get_or (peers_of c.args.width c.args.rows.now) mid 0 < number c.args.peer =
    rw (peers_of-at c.args.width c.args.rows.now mid inside) (order-less _ _ (sym c.compare_row.ensures ∙ c.in-Less.is))
    in bracket_up _ _ _ _ mid c.requires.le_width.1 c.loop-lo.invariant (omega arith) (omega arith) _ (omega arith) less

pub loop-lo-preserved : goal.loop-lo-preserved
loop-lo-preserved c =
    let inside : c.loop-lo.lo + (c.loop-lo.hi - c.loop-lo.lo) / 2 < length (peers_of c.args.width c.args.rows.now) = omega arith in
    let more = order-more _ _ (sym c.compare_row.ensures ∙ c.in-Greater.is) in
    bracket_down _ _ _ _ _ c.requires.le_width.1 c.loop-lo.invariant (omega arith) (omega arith) (rw (peers_of-at _ _ _ inside) more)

pub returns : goal.returns
returns c = sym (bracket_none _ _ _ _ c.loop-lo-test.false c.loop-lo.invariant)
