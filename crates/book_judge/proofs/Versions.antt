-- Laws of the versions of an author: the first one that is Valid in the book's order is the first valid one, since no id stands twice.
use Rattle.std.specs.Prelude.{Option, None, Some, is_some}
use Prim.Native.Nat.{ℕ, ◌+◌, ◌-◌, ◌≤◌}
use mathlib.Core.Path.{◌≡◌, refl, ap, sym, ◌∙◌}
use mathlib.Core.Bool.{Bool, true, false, not, ◌&&◌, ◌||◌, and-false}
use mathlib.Core.List.{List, [], ◌∷◌}
use lib.ListN.{length, drop, drop_of_length-le}
use lib.Seq.{drop-drop}
use lib.Dec.{eqb}
use borrow.Author.Tests.{eqb-true}
use Rattle.base.specs.Base.{pick}
use Rattle.base.proofs.Bool.{and_left, and_right, clash}
use Rattle.base.proofs.Option.{none-some}
use Rattle.point.specs.Point.{PointId, same_id}
use Rattle.point.proofs.Ids.{same_sym, same_refl, eq_same, differ}
use Rattle.schedule.specs.Settings.{Settings}
use Rattle.rules.specs.DagPoint.{Entry, PointView}
use Rattle.judge_step.specs.Code.{Judging, direct_step, direct_fold}
use Rattle.rules.specs.Mismatch.{is_id}
use Rattle.books.specs.Kept.{Kept, Book, find_kept, is_twice}
use Rattle.books.specs.Lists.{is_valid, is_of, first_valid, kept_entry, versions}
use Rattle.books.proofs.Find.{absent-first, once-first, once-rest}
use Rattle.book_layout.specs.Code.{shown}
use Rattle.book_judge.specs.Code.{Versions, is_first, version_step}

-- over the entries of a book
unfoldable pub versions_fold : Settings → Bool → PointView → Versions → List Kept → Versions
unfolding version_step
versions_fold c required p w [] = w
versions_fold c required p w (k ∷ l) = versions_fold c required p (version_step c required p w k) l

-- ---- the first that is Valid is the first valid one

module _ (round author : ℕ) where
  -- the first valid one is kept
  first-kept : (l : Book) (i : PointId) → first_valid l round author ≡ Some i → is_some (find_kept l i) ≡ true
  unfolding first_valid find_kept
  first-kept [] i h = none-some h
  first-kept (k ∷ l) i h = go (is_valid k.status && is_of round author k) (same_id k.point.id i) refl (first-kept l i) h
    where
      go : (t u : Bool) → same_id k.point.id i ≡ u → (first_valid l round author ≡ Some i → is_some (find_kept l i) ≡ true) →
          pick t (Some k.point.id) (first_valid l round author) ≡ Some i → is_some (pick u (Some k) (find_kept l i)) ≡ true
      go t true q rec e = refl
      go true false q rec e = let g : k.point.id ≡ i = cc in clash (same_id k.point.id i) (eq_same _ _ g) q
      go false false q rec e = rec e

  -- what is left of a book after some entries: the first valid one is the first among them, or stood before and is not among them
  abbrev ToCome : Bool → Option PointId → List Kept → Type 0
  ToCome false o l = o ≡ first_valid l round author
  ToCome true o l = (i : PointId) → o ≡ Some i → find_kept l i ≡ None

  -- an entry of another author or round
  come_other : (seen : Bool) (o : Option PointId) (k : Kept) (l : List Kept) → is_of round author k ≡ false → ToCome seen o (k ∷ l) → ToCome seen o l
  unfolding first_valid
  come_other false o k l h t = t ∙ rw (h, and-false (is_valid k.status))
  come_other true o k l h t = λ i e. (absent-first k l i (t i e)).1

  module _ (k : Kept) (l : List Kept) where
    -- the first valid one stood before, or comes after: then it is another
    other-before : (o : Option PointId) → ToCome true o (k ∷ l) → is_id o k.point.id ≡ false
    other-before None t = refl
    other-before (Some i) t = same_sym i k.point.id ∙ (absent-first k l i (t i refl)).0

    other_after : is_twice (k ∷ l) ≡ false → (o : Option PointId) → o ≡ first_valid l round author → is_id o k.point.id ≡ false
    other_after once None e = refl
    other_after once (Some i) e =
        differ i k.point.id (λ same. clash (is_some (find_kept l i)) (first-kept l i (sym e)) (rw same (ap (λ (x : Option Kept). is_some x) (once-first k l once))))

    -- an entry of the author and round is the first valid one if it is Valid and none before it was
    come_own : (seen valid : Bool) (o : Option PointId) → is_twice (k ∷ l) ≡ false → is_of round author k ≡ true → is_valid k.status ≡ valid → ToCome seen o (k ∷ l) →
        ((valid && not seen) ≡ is_id o k.point.id) × ToCome (seen || (valid && not seen)) o l
    unfolding first_valid
    come_own true valid o once h v t = (and-false valid ∙ sym (other-before o t), λ i e. (absent-first k l i (t i e)).1)
    come_own false true o once h v t =
        let e : o ≡ Some k.point.id = t ∙ rw (v, h) in
        (rw e (sym (same_refl k.point.id)), λ i f. let same : k.point.id ≡ i = cc in rw same at (once-first k l once))
    come_own false false o once h v t = let e : o ≡ first_valid l round author = t ∙ rw v in (sym (other_after once o e), e)

  shown-kept : (b : Book) (k : Kept) (first : Bool) → is_of round author k ≡ true → first ≡ is_id (first_valid b round author) k.point.id → shown k first ≡ kept_entry b k
  unfolding kept_entry
  shown-kept b k first h e =
      rw (e, eqb-true k.point.id.round round (and_left (eqb k.point.id.round round) _ h), eqb-true k.point.id.author author (and_right (eqb k.point.id.round round) _ h))

module _ (c : Settings) (required : Bool) (p : PointView) (b : Book) where
  abbrev versions_in : List Kept → List Entry
  versions_in l = versions b (p.id.round - 1) p.id.author l

  abbrev Left : Versions → List Kept → Type 0
  Left w l = ToCome (p.id.round - 1) p.id.author w.seen (first_valid b (p.id.round - 1) p.id.author) l

  versions-judged : (l : List Kept) (w : Versions) → is_twice l ≡ false → Left w l → (versions_fold c required p w l).judging ≡ direct_fold c required p w.judging (versions_in l)
  unfolding versions_fold version_step versions direct_fold
  versions-judged [] w once t = refl
  versions-judged (k ∷ l) w once t = go (is_of (p.id.round - 1) p.id.author k) refl (λ x. versions-judged l x (once-rest k l once))
    where
      next : Versions
      next =
          record {
            judging = direct_step c required p w.judging (shown k (is_first k w.seen));
            seen = w.seen || is_first k w.seen;
          }

      go : (u : Bool) → is_of (p.id.round - 1) p.id.author k ≡ u → ((x : Versions) → Left x l → (versions_fold c required p x l).judging ≡ direct_fold c required p x.judging (versions_in l)) →
          (versions_fold c required p (pick u next w) l).judging ≡ direct_fold c required p w.judging (pick u (kept_entry b k ∷ versions_in l) (versions_in l))
      go true h rec =
          let o = come_own (p.id.round - 1) p.id.author k l w.seen (is_valid k.status) _ once h refl t in
          rec next o.1
          ∙ ap (λ (e : Entry). direct_fold c required p (direct_step c required p w.judging e) (versions_in l)) (shown-kept (p.id.round - 1) p.id.author b k _ h o.0)
      go false h rec = rec w (come_other (p.id.round - 1) p.id.author w.seen _ k l h t)

  -- the versions in the book's order
  pub versions_folded : is_twice b ≡ false → (j : Judging) → (versions_fold c required p (record { judging = j; seen = false }) b).judging ≡ direct_fold c required p j (versions_in b)
  versions_folded once j = versions-judged b (record { judging = j; seen = false }) once refl

-- ---- one entry of the book more

module _ (c : Settings) (required : Bool) (p : PointView) where
  pub version-other : (w : Versions) (k : Kept) → is_of (p.id.round - 1) p.id.author k ≡ false → w ≡ version_step c required p w k
  unfolding version_step
  version-other w k h = rw h

  pub version-own : (w : Versions) (k : Kept) (e : Entry) (first seen : Bool) (j : Judging) → is_of (p.id.round - 1) p.id.author k ≡ true →
      e ≡ shown k first → first ≡ is_first k w.seen → j ≡ direct_step c required p w.judging e → seen ≡ (w.seen || first) →
      record { judging = j; seen = seen } ≡ version_step c required p w k
  unfolding version_step
  version-own w k e first seen j h d f g o = rw (h, g, o, d, f)

  -- the versions so far, over the entries from j on, give what all entries give
  abbrev pub VersionsLeft : Book → Versions → ℕ → Versions → Type 0
  VersionsLeft b all j w = versions_fold c required p w (drop j b) ≡ all

  module _ (b : Book) (all : Versions) (j : ℕ) (w : Versions) (h : VersionsLeft b all j w) where
    pub fold_step : (k : Kept) (rest : Book) (x : Versions) → drop j b ≡ k ∷ rest → x ≡ version_step c required p w k → VersionsLeft b all (j + 1) x
    unfolding versions_fold
    fold_step k rest x e f = rw (sym (drop-drop 1 j b), e, f) (rw e at h)

    pub fold_end : length b ≤ j → w ≡ all
    unfolding versions_fold
    fold_end le = rw (drop_of_length-le b le) at h
