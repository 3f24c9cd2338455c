-- `put_root` meets its contract: a store, an id and a store, one after the other.
use Prim.Native.Nat.{◌<◌}
use native.Mathlib.Omega.{arith}
use mathlib.Core.Path.{refl}
use mathlib.Core.List.{[], ◌∷◌}
use lib.ListN.{length, length-set}
use Rattle.parts.specs.Bytes.{big_bytes}
use Rattle.parts.specs.Code.{number}
use Rattle.rules.specs.Answer.{root_bytes}
use Rattle.answer.proofs.Laws.{set_put}
use Rattle.write.proofs.Laws.{put_three}
use Rattle.answer.proofs.put_root.Goals as goal

pub returns : goal.returns
unfolding root_bytes
returns c =
    let l = c.args.out.now in
    let a = c.args.a in
    let h : 113 < length c.put_id.new.out = rw c.put_id.auto.out (simp length-set (omega arith)) in
    rw (set_put c.put_id.new.out 113 a.values.unknown h, c.put_id.ensures, set_put l 80 a.root_reason (omega arith))
    (put_three l 80 (a.root_reason ∷ []) (big_bytes 32 (number a.peer)) (a.values.unknown ∷ []) 81 113 refl refl (omega arith))
