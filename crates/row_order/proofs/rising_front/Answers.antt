use Rattle.std.proofs.Common.{◌≡◌, ◌-◌, arith, refl, sym, ◌∙◌, ap, is_lt, ltb-true}
use native.Mathlib.Decide.{dec_lt}
use Rattle.base.specs.Base.{tabulate}
use Rattle.map.specs.Rows.{peer_at, rising}
use Rattle.map.proofs.Laws.{is_lt-order, rising-next}
use Rattle.row_order.proofs.rising_front.Goals as goal

pub loop-i-init : goal.loop-i-init
unfolding rising tabulate
loop-i-init c = refl

pub loop-i-preserved : goal.loop-i-preserved
loop-i-preserved c =
    let i = c.loop-i.i in
    let peer = peer_at c.args.rows.now in
    let compared = ap is_lt (sym c.compare_rows.ensures) ∙ (sym c.is_lt.ensures ∙ c.if-not-is_lt.false) in
    rising-next peer i c.loop-i.auto.i c.loop-i.invariant (ltb-true (peer (i - 1)) (peer i) (sym (is_lt-order _ _) ∙ compared))

pub returns-clause-rise : goal.returns-clause-rise
unfolding rising tabulate
returns-clause-rise c = elim (dec_lt 0 c.args.n) [
  | yes h ↦ (let all : c.loop-i.i ≡ c.args.n = grind (arith, c.loop-i.auto.i-end) in rw all at c.loop-i.invariant)
  | no h ↦ (let none : c.args.n ≡ 0 = omega arith in rw none refl)
]
