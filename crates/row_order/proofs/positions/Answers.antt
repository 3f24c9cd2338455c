use Rattle.std.proofs.Common.{◌≡◌, arith, refl, sym, ◌∙◌, ap, length-set, take_all}
use Rattle.base.specs.Base.{tabulate}
use Rattle.map.specs.Risen.{itself}
use Rattle.row_order.proofs.Laws.{one_written}
use Rattle.row_order.proofs.positions.Goals as goal

pub loop-i-init : goal.loop-i-init
unfolding tabulate
loop-i-init c = record { long = refl; written = refl }

pub loop-i-preserved : goal.loop-i-preserved
loop-i-preserved c =
    let l = c.loop-i.invariant in
    record {
      long = length-set c.loop-i.order c.loop-i.i c.loop-i.i ∙ l.long;
      written = one_written c.loop-i.order c.loop-i.i (omega (arith, l.long)) l.written;
    }

pub returns : goal.returns
returns c =
    let l = c.loop-i.invariant in
    let all : c.loop-i.i ≡ 255 = omega arith in
    sym (take_all c.loop-i.i c.loop-i.order (omega (arith, l.long))) ∙ (l.written ∙ ap (λ n. tabulate itself n 0) all)
