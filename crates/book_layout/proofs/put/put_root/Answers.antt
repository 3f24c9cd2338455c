-- `put_root` meets its contract: three bytes, an id and what it came through, one after the other.
use native.Mathlib.Omega.{arith}
use mathlib.Core.Path.{refl}
use mathlib.Core.List.{[], ◌∷◌}
use Rattle.reasons.specs.Code.{dependency_of}
use Rattle.point.specs.Written.{id_bytes, through_bytes}
use Rattle.books.specs.Layout.{status_bytes}
use Rattle.point.proofs.PartsWritten.{id_length, through-length}
use Rattle.book_layout.proofs.Laws.{put_right}
use Rattle.book_layout.proofs.put.put_root.Goals as goal

pub returns : goal.returns
unfolding status_bytes
returns c =
    let a = c.args in
    let d = dependency_of a.d in
    rw (c.put_through.ensures, c.put_point_id.ensures, c.put_slice.ensures)
    (put_right a.out.now a.at (1 ∷ 0 ∷ 0 ∷ []) (id_bytes d.to) (d.reason ∷ through_bytes d.through) _ _ refl
    (omega (arith, id_length d.to)) (omega (arith, through-length d.through)))
