-- The list that a book and its marks give consists of bytes.
use Rattle.std.specs.Prelude.{Option, None, Some, is_some}
use Prim.Native.Nat.{ℕ, ◌-◌, ◌<◌}
use native.Mathlib.Omega.{arith}
use mathlib.Core.Path.{◌≡◌, refl}
use mathlib.Core.Bool.{Bool, true, false}
use mathlib.Core.List.{List, [], ◌∷◌, ◌++◌, Memᴰ}
use lib.Dec.{ltb}
use Rattle.base.specs.Base.{pick}
use Rattle.parts.specs.Bytes.{Bytes}
use Rattle.parts.proofs.AllBytes.{AllBytes, none_more, one_more, both}
use Rattle.map.specs.Rows.{Pair}
use Rattle.point.specs.Point.{PointId, AnchorLink, Direct, Indirect, PointInfo, prev_digest, prev_id, target}
use Rattle.point.specs.declared.data.AnchorStageRole.{AnchorStageRole}
use Rattle.point.specs.declared.data.AnchorStageRole.TheVariants.{Proof, Trigger}
use Rattle.reasons.specs.Answer.{flag, role_number}
use Rattle.rules.specs.Mismatch.{pair_id, is_id}
use Rattle.rules.specs.DagPoint.{is_by}
use Rattle.books.specs.Kept.{Status, Valid, TransInvalid, Invalid, IllFormed, Kept, Book, find_kept}
use Rattle.point.specs.Written.{id_bytes}
use Rattle.point.proofs.PartsWritten.{id-bytes}
use Rattle.books.specs.ListFor.{tag16, tag17, entry_as, of_kept, entry_for, of_pairs, of_versions, of_target, list_for}
use Rattle.books.proofs.Find.{find-member}
use Rattle.books.proofs.Shape.{StatusFits, KeptShape, Shape}

chosen : (t : Bool) {a b : List ℕ} → AllBytes a → AllBytes b → AllBytes (pick t a b)
chosen true v w = v
chosen false v w = w

-- ---- ids and tags

flag-below : (t : Bool) → flag t < 256
flag-below true = omega arith
flag-below false = omega arith

tag16-bytes : (state : ℕ) (c f : Bool) (reason : ℕ) → state < 256 → reason < 256 → AllBytes (tag16 state c f reason)
tag16-bytes state c f reason s r =
    one_more (omega arith) (one_more (omega arith) (one_more (omega arith) (one_more s (one_more (flag-below c) (one_more (flag-below f) (one_more r none_more))))))

tag17-bytes : (i : PointId) → AllBytes (tag17 i)
tag17-bytes i = one_more (omega arith) (one_more (omega arith) (one_more (omega arith) (id-bytes i)))

-- ---- an entry in each state

entry-bytes : (k : Kept) → AllBytes k.bytes → (c f : Bool) (x : Status) → StatusFits x → AllBytes (entry_as k c f x)
entry-bytes k w c f Valid h = both (tag16 0 c f 0) (tag16-bytes 0 c f 0 (omega arith) (omega arith)) w
entry-bytes k w c f (TransInvalid d) h =
    both (tag16 1 c f 0) (tag16-bytes 1 c f 0 (omega arith) (omega arith))
    (one_more (omega arith) (one_more (omega arith) (one_more (omega arith)
    (both (id_bytes d.to ++ (d.reason ∷ [])) (both (id_bytes d.to) (id-bytes d.to) (one_more h.reason none_more)) w))))
entry-bytes k w c f (Invalid n) h = both (tag16 2 c f n) (tag16-bytes 2 c f n (omega arith) h) w
entry-bytes k w c f (IllFormed n) h = both (tag16 3 c f n) (tag16-bytes 3 c f n (omega arith) h) (tag17-bytes k.point.id)

role-below : (g : AnchorStageRole) → role_number g < 256
role-below Proof = omega arith
role-below Trigger = omega arith

-- ---- the list

module _ (b : Book) (marked : PointId → Bool) (p : PointInfo) (h : Shape b) where
  kept-bytes : (k : Kept) → Memᴰ k b → AllBytes (of_kept b marked k)
  kept-bytes k m = let o : KeptShape k = h.entries k m in entry-bytes k (record { bytes = o.bytes }) _ _ k.status o.status.fits

  found-bytes : (i : PointId) → AllBytes (entry_for b marked p i (find_kept b i))
  found-bytes i = go (find_kept b i) refl
    where
      go : (o : Option Kept) → find_kept b i ≡ o → AllBytes (entry_for b marked p i o)
      go None e = both (tag16 4 (is_id (prev_id p) i) false 0) (tag16-bytes 4 (is_id (prev_id p) i) false 0 (omega arith) (omega arith)) (tag17-bytes i)
      go (Some k) e = kept-bytes k (find-member b i k e)

  pairs-bytes : (round : ℕ) (l : List Pair) → AllBytes (of_pairs b marked p round l)
  unfolding of_pairs
  pairs-bytes round [] = none_more
  pairs-bytes round (q ∷ l) = both _ (found-bytes (pair_id round q)) (pairs-bytes round l)

  versions-bytes : (l : Book) → ((k : Kept) → Memᴰ k l → Memᴰ k b) → AllBytes (of_versions b marked p l)
  unfolding of_versions
  versions-bytes [] f = none_more
  versions-bytes (k ∷ l) f = both _ (chosen (is_by (p.id.round - 1) p.id.author k.point.id) (kept-bytes k (f k (Memᴰ.head refl))) none_more) (versions-bytes l (λ x m. f x (Memᴰ.tail m)))

  target-bytes : (g : AnchorStageRole) (l : AnchorLink) → AllBytes (of_target b marked p g l)
  target-bytes g (Direct t) = none_more
  target-bytes g (Indirect to t) = one_more (omega arith) (one_more (omega arith) (one_more (omega arith) (one_more (role-below g) (found-bytes to))))

  all-bytes : AllBytes (list_for b marked p)
  unfolding list_for
  all-bytes =
      let proof = target-bytes Proof p.anchor_proof in
      let trigger = target-bytes Trigger p.anchor_trigger in
      both _ (pairs-bytes (p.id.round - 2) p.witness)
      (both _ (pairs-bytes (p.id.round - 1) p.includes)
      (both _ (chosen (is_some (prev_digest p)) none_more (versions-bytes b (λ k m. m)))
      (chosen (ltb (target Proof p).round (target Trigger p).round) (both _ trigger proof) (both _ proof trigger))))

  pub list-bytes : Bytes (list_for b marked p)
  list-bytes = all-bytes.bytes
