use Rattle.std.proofs.Common.{arith, ap, ◌∙◌, ◌+◌, ◌-◌, ◌*◌, ◌≡◌, get_or}
use Rattle.parts.specs.Bytes.{bytes_at, put_at}
use Rattle.compose.proofs.Fields.{placed_step}
use Rattle.compose.proofs.put.put_blocks.Goals as goal

pub loop-k-preserved : goal.loop-k-preserved
loop-k-preserved c =
    let a = c.args in
    let from = 32 * (a.first + get_or a.order.now c.loop-k.k 0) in
    let wide : from + 32 - from ≡ 32 = omega arith in
    c.put_slice.ensures
    ∙ (ap (λ n. put_at c.loop-k.out (a.at + 32 * c.loop-k.k) (bytes_at n a.rows.now from)) wide
    ∙ placed_step a.rows.now a.first a.order.now a.out.now a.at c.requires.room c.requires.inside c.loop-k.k c.loop-k.out c.loop-k-test.true
    c.loop-k.invariant)
