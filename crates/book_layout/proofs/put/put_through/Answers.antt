-- `put_through` meets its contract: two bytes and an id, one after the other.
use Prim.Native.Nat.{◌+◌}
use native.Mathlib.Omega.{arith}
use mathlib.Core.Path.{◌≡◌, refl}
use mathlib.Core.List.{[], ◌∷◌}
use Rattle.parts.specs.Bytes.{big_bytes}
use Rattle.parts.specs.Code.{number}
use Rattle.point.specs.Code.{through_of}
use Rattle.point.specs.Written.{through_bytes}
use Rattle.write.proofs.Laws.{bytes-length, put_put}
use Rattle.book_layout.proofs.put.put_through.Goals as goal
use Rattle.book_layout.proofs.put.put_through.Goals.{in-Includes, in-Witness}

pub returns : goal.returns
returns c =
    let a = c.args in
    let map = c.match-through.map.0 in
    let peer = c.match-through.map.1 in
    let told : through_bytes (through_of a.through) ≡ map ∷ big_bytes 32 (number peer) =
    elim c.match-through.branch [
      | in-Includes w ↦ rw (w.in-Includes.is, w.map-is)
      | in-Witness w ↦ rw (w.in-Witness.is, w.map-is)
    ] in
    rw (told, c.put_id.ensures, c.put_slice.ensures)
    (put_put a.out.now a.at (a.reason ∷ map ∷ []) (big_bytes 32 (number peer)) (a.at + 2) refl (omega (arith, bytes-length 32 (number peer))))
