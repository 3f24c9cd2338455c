use Rattle.std.proofs.Common.{arith, ap, ◌∙◌, ◌+◌, ◌-◌, ◌*◌, ◌≡◌}
use Rattle.parts.specs.Bytes.{bytes_at, put_at}
use Rattle.convert.proofs.Laws.{moving_start, moving_step, moving_end}
use Rattle.convert.proofs.put_moved.Goals as goal

pub loop-k-init : goal.loop-k-init
loop-k-init c = moving_start c.args.from c.args.map.now c.args.out.now c.args.at c.requires.room

pub loop-k-preserved : goal.loop-k-preserved
loop-k-preserved c =
    let start = 32 * c.came_from-start.result in
    let wide : start + 32 - start ≡ 32 = omega arith in
    c.put_slice.ensures
    ∙ (ap (λ n. put_at c.loop-k.out (c.args.at + 32 * c.loop-k.k) (bytes_at n c.args.map.now start)) wide
    ∙ (ap (λ i. put_at c.loop-k.out (c.args.at + 32 * c.loop-k.k) (bytes_at 32 c.args.map.now (32 * i))) c.came_from-start.ensures
    ∙ moving_step c.args.from c.args.map.now c.args.out.now c.args.at c.requires.room c.loop-k.k c.loop-k.out c.loop-k-test.true c.loop-k.invariant))

pub returns : goal.returns
returns c = moving_end c.args.from c.args.map.now c.args.out.now c.args.at c.requires.room _ _ c.requires.whole (omega arith) c.loop-k.invariant
