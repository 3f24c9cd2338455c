-- The rows of a map, reached one after the other.
use Prim.Native.Nat.{ℕ, ◌+◌, ◌≤◌, ◌<◌}
use native.Mathlib.Numerals.{add-one}
use mathlib.Core.Path.{◌≡◌, refl}
use mathlib.Core.List.{List}
use lib.ListN.{length, get_or, drop, drop_of_length-le}
use lib.Seq.{drop-cons}
use Rattle.map.specs.Rows.{Pair}
use Rattle.point.specs.Point.{PointId, same_id}
use Rattle.rules.specs.Mismatch.{pair_id, is_among}
use Rattle.judge_mismatch.specs.Code.{no_pair}
use Rattle.id_index.specs.declared.Index.{Index}
use Rattle.book_certify.specs.declared.Walk.{Walk}
use Rattle.book_certify.specs.Code.{Adds}
use Rattle.book_certify.proofs.Adds.{adds_none, adds_then}

module _ {s : List ℕ} {x : Index} (l : List Pair) (n round : ℕ) where
  pub rows_next : n < length l → (i : PointId) → i ≡ pair_id round (get_or l n no_pair) → {u v w : Walk} →
      Adds s x (same_id i) u v → Adds s x (is_among round (drop (n + 1) l)) v w → Adds s x (is_among round (drop n l)) u w
  unfolding is_among
  rows_next lt i e a b = rw (drop-cons l n no_pair lt) (adds_then (rw e at a) (rw (add-one n) at b))

  pub rows_end : length l ≤ n → (w : Walk) → Adds s x (is_among round (drop n l)) w w
  unfolding is_among
  rows_end h w = rw (drop_of_length-le l h) (adds_none w (λ j lt. refl))
