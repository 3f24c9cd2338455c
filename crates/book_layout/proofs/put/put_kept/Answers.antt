-- `put_kept` meets its contract: the record, the head of tag 33 and its 105 bytes, one after the other.
use native.Mathlib.Omega.{arith}
use mathlib.Core.Path.{refl}
use mathlib.Core.Bool.{false}
use mathlib.Core.List.{[], ◌∷◌}
use Rattle.books.specs.Layout.{status_bytes, kept_bytes}
use Rattle.book_layout.specs.Code.{status_of}
use Rattle.books.proofs.RoundTrip.{status-length}
use Rattle.book_layout.proofs.Laws.{put_right}
use Rattle.book_layout.proofs.put.put_kept.Goals as goal

pub returns : goal.returns
unfolding kept_bytes
returns c =
    let a = c.args in
    let k = status-length (status_of a.status) false in
    λ q. rw (c.put_status.ensures, c.put_slice.ensures, c.put_run.ensures)
    (put_right a.out.now a.at a.rec.now (33 ∷ 105 ∷ 0 ∷ []) (status_bytes (status_of a.status) false) _ _ refl refl (omega arith))
