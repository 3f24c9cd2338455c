-- `put_head` meets its contract: two stores and an id, one after the other.
use native.Mathlib.Omega.{arith}
use mathlib.Core.Path.{refl, ap, sym, ◌∙◌}
use mathlib.Core.List.{List, [], ◌∷◌, ◌++◌, append_assoc}
use Prim.Native.Nat.{ℕ}
use Rattle.parts.specs.Bytes.{little_bytes, big_bytes, put_at}
use Rattle.point.specs.Written.{id_bytes}
use Rattle.point.proofs.PartsWritten.{id_length}
use Rattle.write.proofs.Laws.{put_is, put_put}
use Rattle.answer.specs.Code.{answer_of}
use Rattle.rules.specs.Answer.{head_bytes}
use Rattle.answer.proofs.put_head.Goals as goal

pub returns : goal.returns
unfolding head_bytes little_bytes
returns c =
    let l = c.args.out.now in
    let a = answer_of c.args.a in
    let xs = a.kind ∷ a.reason ∷ [] in
    let apart = append_assoc (little_bytes 4 a.id.round) (big_bytes 32 a.id.digest) (big_bytes 32 a.id.author) in
    rw (c.put_point_id.ensures, put_is l 0 xs (omega arith))
    (put_put l 0 xs (id_bytes a.id) 2 refl (omega (arith, id_length a.id))
    ∙ ap (λ (t : List ℕ). put_at l 0 (xs ++ t)) (sym apart))
