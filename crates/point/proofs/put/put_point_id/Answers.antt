-- `put_point_id` meets its contract: a number and two ids, one after the other.
use native.Mathlib.Omega.{arith}
use mathlib.Core.Path.{◌∙◌, ap}
use Rattle.parts.specs.Bytes.{little_bytes, big_bytes, put_at}
use Rattle.write.proofs.Laws.{bytes-length, put_three}
use mathlib.Core.List.{append_assoc}
use Prim.Native.Nat.{◌+◌}
use Rattle.point.specs.Code.{point_id_of}
use Rattle.point.proofs.put.put_point_id.Goals as goal

pub returns : goal.returns
unfolding little_bytes
returns c =
    let l = c.args.out.now in
    let i = point_id_of c.args.id in
    let r = little_bytes 4 i.round in
    let d = big_bytes 32 i.digest in
    let p = big_bytes 32 i.author in
    let dl = bytes-length 32 i.digest in
    let pl = bytes-length 32 i.author in
    rw (c.put_id-2.ensures, c.put_id.ensures, c.put_u32.ensures)
    (put_three l c.args.at r d p (c.args.at + 4) (c.args.at + 36) (omega arith) (omega (arith, dl)) (omega (arith, c.requires, pl))
    ∙ ap (put_at l c.args.at) (append_assoc r d p))
