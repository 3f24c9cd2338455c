-- The list that a book and its marks give, as bytes, is read back as the entries that the book builds for a point.
use Rattle.std.specs.Prelude.{Option, None, Some, option_map, is_some}
use Prim.Native.Nat.{ℕ, suc, ◌+◌, ◌-◌, ◌^◌, ◌<◌}
use native.Mathlib.Nat.{suc-add}
use native.Mathlib.Omega.{arith}
use mathlib.Core.Path.{◌≡◌, refl, sym, ◌∙◌}
use mathlib.Core.Bool.{Bool, true, false, ◌&&◌, ◌||◌}
use mathlib.Core.List.{List, [], ◌∷◌, ◌++◌, Memᴰ, append_assoc, append-nil}
use lib.ListN.{length}
use lib.Dec.{ltb}
use Rattle.base.specs.Base.{pick}
use Rattle.parts.specs.Bytes.{Bytes}
use Rattle.map.specs.Rows.{Pair}
use Rattle.point.specs.Point.{PointId, AnchorLink, Direct, Indirect, PointInfo, prev_digest, prev_id, source, target_of, target, same_id}
use Rattle.point.specs.Reading.{read_point}
use Rattle.point.specs.declared.data.AnchorStageRole.{AnchorStageRole}
use Rattle.point.specs.declared.data.AnchorStageRole.TheVariants.{Proof, Trigger}
use Rattle.rules.specs.DagPoint as dag
use Rattle.rules.specs.DagPoint.{Entry, IndirectEntry}
use Rattle.rules.specs.Mismatch.{pair_id, is_id}
use Rattle.rules.specs.List.{Listed, read_list, read_list_in, directs, indirects}
use Rattle.books.specs.Kept.{Status, Valid, TransInvalid, Invalid, IllFormed, Kept, Book, find_kept, mark_one, mark}
use Rattle.books.specs.Lists.{is_valid, is_of, first_valid, kept_entry, entry_with, lookup, lookups, versions, direct_list, target_entry, is_trigger_first, indirect_list}
use Rattle.books.specs.ListFor.{tag17, is_kept_valid, is_first_valid, of_kept, entry_for, of_pairs, of_versions, of_target, list_for}
use Rattle.books.proofs.Find.{find-member, find-marked}
use Rattle.point.proofs.Fits.{IdFits, TargetFits, read-fits}
use Rattle.books.proofs.Shape.{Shape}
use Rattle.books.proofs.Written.{Written, tagged, lost-reads, entry-written, Reads, none_read, direct-more, indirect-more}

-- ---- first valid

valid_same : (x : Status) → is_kept_valid x ≡ is_valid x
valid_same Valid = refl
valid_same (TransInvalid d) = refl
valid_same (Invalid n) = refl
valid_same (IllFormed n) = refl

first-valid : (covers : PointId → Bool) (b : Book) (i : PointId) → is_first_valid b i ≡ is_id (first_valid (mark covers b) i.round i.author) i
unfolding is_first_valid first_valid mark mark_one
first-valid covers [] i = refl
first-valid covers (k ∷ b) i = rw (valid_same k.status) (go (is_valid k.status && is_of i.round i.author k) (first-valid covers b i))
  where
    go : (t : Bool) → is_first_valid b i ≡ is_id (first_valid (mark covers b) i.round i.author) i →
        pick t (same_id k.point.id i) (is_first_valid b i) ≡ is_id (pick t (Some k.point.id) (first_valid (mark covers b) i.round i.author)) i
    go true h = refl
    go false h = h

-- ---- the entries of a book

-- with a test that says of each entry whether it is certified once those that are covered are marked
module _ (b : Book) (covers marked : PointId → Bool) (p : PointInfo) (h : Shape b)
    (same : (k : Kept) → Memᴰ k b → marked k.point.id ≡ (k.certified || covers k.point.id)) where
  kept-written : (k : Kept) → Memᴰ k b → Written (of_kept b marked k) (kept_entry (mark covers b) (mark_one covers k))
  unfolding kept_entry mark_one
  kept-written k m =
      rw (same k m, first-valid covers b k.point.id)
      (entry-written k (h.entries k m) (k.certified || covers k.point.id) (is_id (first_valid (mark covers b) k.point.id.round k.point.id.author) k.point.id) k.status (h.entries k m).status)

  lookup-written : (i : PointId) → IdFits i → Written (entry_for b marked p i (find_kept b i)) (lookup (mark covers b) p i)
  unfolding lookup
  lookup-written i f = rw (find-marked covers b i) (go (find_kept b i) refl)
    where
      go : (o : Option Kept) → find_kept b i ≡ o → Written (entry_for b marked p i o) (entry_with (mark covers b) p i (option_map (mark_one covers) o))
      go None e = tagged 4 0 (is_id (prev_id p) i) false (tag17 i) (dag.NotFound i) (λ rest. lost-reads i rest f)
      go (Some k) e = kept-written k (find-member b i k e)

  module _ (m : ℕ) (s : List ℕ) (es : List Entry) (ts : List IndirectEntry) (r : Reads m false s es ts) where
    pairs-more : (round : ℕ) (l : List Pair) → ((q : Pair) → Memᴰ q l → IdFits (pair_id round q)) →
        Reads (length l + m) false (of_pairs b marked p round l ++ s) (lookups (mark covers b) p round l ++ es) ts
    unfolding of_pairs lookups
    pairs-more round [] f = λ n g. r n (omega arith)
    pairs-more round (q ∷ l) f =
        let i : PointId = pair_id round q in
        rw (append_assoc (entry_for b marked p i (find_kept b i)) (of_pairs b marked p round l) s, suc-add (length l) m)
        (direct-more _ _ _ _ _ ts (lookup-written i (f q (Memᴰ.head refl))) (pairs-more round l (λ x n. f x (Memᴰ.tail n))))

    versions-more : (l : Book) → ((k : Kept) → Memᴰ k l → Memᴰ k b) →
        Reads (length l + m) false (of_versions b marked p l ++ s) (versions (mark covers b) (p.id.round - 1) p.id.author (mark covers l) ++ es) ts
    unfolding of_versions versions mark mark_one
    versions-more [] f = λ n g. r n (omega arith)
    versions-more (k ∷ l) f = rw (suc-add (length l) m) (go (is_of (p.id.round - 1) p.id.author k) (versions-more l (λ x n. f x (Memᴰ.tail n))))
      where
        v : List Entry
        v = versions (mark covers b) (p.id.round - 1) p.id.author (mark covers l)

        go : (t : Bool) → Reads (length l + m) false (of_versions b marked p l ++ s) (v ++ es) ts →
            Reads (suc (length l + m)) false ((pick t (of_kept b marked k) [] ++ of_versions b marked p l) ++ s)
            (pick t (kept_entry (mark covers b) (mark_one covers k) ∷ v) v ++ es) ts
        go true rec =
            rw (append_assoc (of_kept b marked k) (of_versions b marked p l) s)
            (direct-more _ _ _ _ _ ts (kept-written k (f k (Memᴰ.head refl))) rec)
        go false rec = λ n g. rec n (omega arith)

    own-more : (t : Bool) → Reads (length b + m) false (pick t [] (of_versions b marked p b) ++ s) (pick t [] (versions (mark covers b) (p.id.round - 1) p.id.author (mark covers b)) ++ es) ts
    own-more true = λ n g. r n (omega arith)
    own-more false = versions-more b (λ k i. i)

  target_more : (m : ℕ) (s : List ℕ) (ts : List IndirectEntry) → ((after : Bool) → Reads m after s [] ts) → (g : AnchorStageRole) (l : AnchorLink) → TargetFits l →
      (after : Bool) → Reads (suc m) after (of_target b marked p g l ++ s) [] (target_entry (mark covers b) p g l ++ ts)
  target_more m s ts r g (Direct t) f after = λ n i. r after n (omega arith)
  target_more m s ts r g (Indirect to t) f after = indirect-more g _ _ m s ts (lookup-written to f) r after

  targets-read : (g e : AnchorStageRole) (l m : AnchorLink) → TargetFits l → TargetFits m →
      Reads 2 false (of_target b marked p g l ++ of_target b marked p e m) [] (target_entry (mark covers b) p g l ++ target_entry (mark covers b) p e m)
  targets-read g e l m f i =
      let last = rw (append-nil (of_target b marked p e m), append-nil (target_entry (mark covers b) p e m)) at (target_more 0 [] [] none_read e m i) in
      target_more 1 _ _ last g l f false

  -- the bytes of both targets, the trigger link's first or not
  abbrev both_targets : Bool → AnchorLink → AnchorLink → List ℕ
  both_targets first proof trigger =
      pick first (of_target b marked p Trigger trigger ++ of_target b marked p Proof proof) (of_target b marked p Proof proof ++ of_target b marked p Trigger trigger)

  -- where a link is direct, their order is all one
  same-order : (i j : PointId) (l m : AnchorLink) → both_targets (ltb (target_of i l).round (target_of j m).round) l m ≡ both_targets (is_trigger_first l m) l m
  same-order i j (Direct t) m = go (ltb i.round (target_of j m).round) (of_target b marked p Trigger m)
    where
      go : (first : Bool) (l : List ℕ) → pick first (l ++ []) l ≡ l
      go true l = append-nil l
      go false l = refl
  same-order i j (Indirect to t) (Direct u) = go (ltb to.round j.round) (of_target b marked p Proof (Indirect to t))
    where
      go : (first : Bool) (l : List ℕ) → pick first l (l ++ []) ≡ l ++ []
      go true l = sym (append-nil l)
      go false l = refl
  same-order i j (Indirect to t) (Indirect other u) = refl

  all-targets : TargetFits p.anchor_proof → TargetFits p.anchor_trigger →
      Reads 2 false (both_targets (ltb (target Proof p).round (target Trigger p).round) p.anchor_proof p.anchor_trigger) [] (indirect_list (mark covers b) p)
  unfolding indirect_list target
  all-targets f i =
      rw (same-order (source Proof p) (source Trigger p) p.anchor_proof p.anchor_trigger) (go (is_trigger_first p.anchor_proof p.anchor_trigger))
    where
      go : (first : Bool) → Reads 2 false (both_targets first p.anchor_proof p.anchor_trigger) [] (pick first
          (target_entry (mark covers b) p Trigger p.anchor_trigger ++ target_entry (mark covers b) p Proof p.anchor_proof)
          (target_entry (mark covers b) p Proof p.anchor_proof ++ target_entry (mark covers b) p Trigger p.anchor_trigger))
      go true = targets-read Trigger Proof p.anchor_trigger p.anchor_proof i f
      go false = targets-read Proof Trigger p.anchor_proof p.anchor_trigger f i

  -- the whole list, of a point that was read
  pub list_read : (bytes : List ℕ) → Bytes bytes → read_point bytes ≡ Some p →
      (l : List Listed) × (read_list (list_for b marked p) ≡ Some l) × (directs l ≡ direct_list (mark covers b) p) × (indirects l ≡ indirect_list (mark covers b) p)
  unfolding list_for read_list_in direct_list
  list_read bytes by r =
      let f = read-fits bytes p by r in
      let id : p.id.round < 256 ^ 4 = f.id.round in
      let own = own-more 2 _ [] (indirect_list (mark covers b) p) (all-targets f.proof.target f.trigger.target) (is_some (prev_digest p)) in
      let inner = pairs-more _ _ _ _ own (p.id.round - 1) p.includes (λ q m. record { round = omega arith; digest = (f.includes.fit q m).1; author = (f.includes.fit q m).0 }) in
      let all = pairs-more _ _ _ _ inner (p.id.round - 2) p.witness (λ q m. record { round = omega arith; digest = (f.witness.fit q m).1; author = (f.witness.fit q m).0 }) in
      let x = all 65535 (omega (arith, h.few, f.includes.few, f.witness.few)) in
      (x.list, x.reads, x.direct ∙ rw (append-nil (pick (is_some (prev_digest p)) [] (versions (mark covers b) (p.id.round - 1) p.id.author (mark covers b)))), x.indirect)
