-- `put_clearing` meets its contract: a byte and an id, one after the other.
use native.Mathlib.Omega.{arith}
use mathlib.Core.Path.{refl, ap, sym, ◌∙◌}
use mathlib.Core.List.{[], ◌∷◌}
use Rattle.parts.specs.Bytes.{put_at}
use Rattle.write.proofs.Laws.{put_put}
use Rattle.point.specs.Code.{point_id_of}
use Rattle.point.specs.Written.{id_bytes}
use Rattle.point.proofs.PartsWritten.{id_length}
use Rattle.rules.specs.Clearing.{clearing_bytes}
use Rattle.clearing.specs.Code.{clearing_in}
use Rattle.clearing.proofs.put.put_clearing.Goals as goal

pub returns-in-ClearedBy : goal.returns-in-ClearedBy
returns-in-ClearedBy c =
    let l = c.args.out.now in
    let i = point_id_of c.in-ClearedBy.id in
    rw (c.put_point_id.ensures, c.put_slice-in-ClearedBy.ensures)
    (put_put l 0 (2 ∷ []) (id_bytes i) 1 refl (omega (arith, id_length i, c.requires))
    ∙ ap (λ x. put_at l 0 (clearing_bytes (clearing_in x))) (sym c.in-ClearedBy.is))
