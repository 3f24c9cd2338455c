-- What the index of a book's entries finds is what the plain book has.
use Rattle.std.specs.Prelude.{None, Some, is_some}
use Prim.Native.Nat.{ℕ, zero, suc, ◌<◌}
use native.Mathlib.Omega.{arith}
use mathlib.Core.Path.{◌≡◌, refl, ap, sym, ◌∙◌}
use mathlib.Core.Bool.{Bool, true, false, or-true}
use mathlib.Core.List.{List, [], ◌∷◌, ◌++◌}
use lib.ListN.{length, get_or, take, drop, take-append-drop}
use lib.Seq.{drop-nil}
use Rattle.base.specs.Base.{pick}
use Rattle.base.proofs.Impossible.{impossible}
use Rattle.point.specs.Point.{PointId, same_id}
use Rattle.point.proofs.Ids.{same_sym}
use Rattle.books.specs.Kept.{Kept, Book, find_kept, is_twice}
use Rattle.books.proofs.Find.{find-after, once_around}
use Rattle.id_index.specs.declared.Index.{Index}
use Rattle.id_index.specs.Code.{FoundAt, Once, Twice, Built, count_of, place_in}
use Rattle.book_read.specs.Code.{Placed, Holds}

-- entry j of a book, with the rest after it, is the one of an id
pub record KeptAt (b : Book) (i : PointId) (j : ℕ) : Type 0 where
  pub kept : Kept
  pub rest : Book
  pub there : drop j b ≡ kept ∷ rest
  pub found : find_kept b i ≡ Some kept

pub standing : (b : Book) (j : ℕ) → j < length b → (k : Kept) × (rest : Book) × (drop j b ≡ k ∷ rest)
standing [] j lt = absurd (omega arith)
standing (k ∷ b) zero lt = (k, b, refl)
standing (k ∷ b) (suc j) lt = standing b j (omega arith)

-- a place where an entry stands lies within the book
pub inside : (b : Book) (j : ℕ) (k : Kept) (rest : Book) → drop j b ≡ k ∷ rest → j < length b
inside [] j k rest e = impossible (cc (drop-nil {A = Kept} j))
inside (x ∷ b) zero k rest e = omega arith
inside (x ∷ b) (suc j) k rest e = omega (arith, inside b j k rest e)

not_found : (b : Book) (i : PointId) → ((j : ℕ) (k : Kept) (rest : Book) → drop j b ≡ k ∷ rest → same_id k.point.id i ≡ false) → find_kept b i ≡ None
unfolding find_kept
not_found [] i h = refl
not_found (k ∷ b) i h = rw (h 0 k b refl) (not_found b i (λ j. h (suc j)))

module _ {s : List ℕ} {b : Book} {x : Index} (h : Holds s b x) (i : PointId) where
  -- the entry that the index finds is the book's entry of the id
  pub found-kept : (j : ℕ) → FoundAt s x i (Some j) → KeptAt b i j
  unfolding find_kept
  found-kept j f =
      let p = h.placed in
      let x = standing b j (omega (arith, p.count, f.within)) in
      let k = x.0 in
      let rest = x.1 in
      let e : same_id k.point.id i ≡ true = rw (p.ids j k rest x.2) at f.same in
      let parts : b ≡ take j b ++ k ∷ rest = sym (take-append-drop j b) ∙ ap (◌++◌ (take j b)) x.2 in
      let o = once_around i k rest e (take j b) (rw parts at h.once) in
      record {
        kept = k;
        rest = rest;
        there = x.2;
        found = ap (λ (l : Book). find_kept l i) parts ∙ (find-after (take j b) (k ∷ rest) i o.0 ∙ rw e);
      }

  module _ (f : FoundAt s x i None) where
    pub others : (j : ℕ) (k : Kept) (rest : Book) → drop j b ≡ k ∷ rest → same_id k.point.id i ≡ false
    others j k rest e = rw (h.placed.ids j k rest e) at (f j (omega (arith, h.placed.count, inside b j k rest e)))

    -- an id that the index doesn't find has no entry
    pub absent-kept : find_kept b i ≡ None
    absent-kept = not_found b i others

-- ---- an id that stands twice

not_twice : (b : Book) → ((j k : ℕ) (x y : Kept) (p q : Book) → j < k → drop j b ≡ x ∷ p → drop k b ≡ y ∷ q → same_id x.point.id y.point.id ≡ false) →
    is_twice b ≡ false
unfolding is_twice
not_twice [] h = refl
not_twice (z ∷ b) h =
    rw (not_found b z.point.id (λ k y q e. same_sym y.point.id z.point.id ∙ h 0 (suc k) z y b q (omega arith) refl e))
    (not_twice b (λ j k x y p q lt. h (suc j) (suc k) x y p q (omega arith)))

some-found : (b : Book) (k : ℕ) (y : Kept) (q : Book) (i : PointId) → drop k b ≡ y ∷ q → same_id y.point.id i ≡ true → is_some (find_kept b i) ≡ true
unfolding find_kept
some-found [] k y q i e t = impossible (cc (drop-nil {A = Kept} k))
some-found (w ∷ b) zero y q i e t = let f : w ≡ y = cc in rw (f, t)
some-found (w ∷ b) (suc k) y q i e t = either (same_id w.point.id i) (some-found b k y q i e t)
  where
    either : (c : Bool) → is_some (find_kept b i) ≡ true → is_some (pick c (Some w) (find_kept b i)) ≡ true
    either true h = refl
    either false h = h

is-twice : (b : Book) (j k : ℕ) (x y : Kept) (p q : Book) → j < k → drop j b ≡ x ∷ p → drop k b ≡ y ∷ q → same_id x.point.id y.point.id ≡ true →
    is_twice b ≡ true
unfolding is_twice
is-twice [] j k x y p q lt e f t = impossible (cc (drop-nil {A = Kept} j))
is-twice (z ∷ b) zero zero x y p q lt e f t = absurd (omega arith)
is-twice (z ∷ b) zero (suc k) x y p q lt e f t =
    let g : z ≡ x = cc in
    rw (some-found b k y q z.point.id f (same_sym y.point.id z.point.id ∙ rw g t))
is-twice (z ∷ b) (suc j) zero x y p q lt e f t = absurd (omega arith)
is-twice (z ∷ b) (suc j) (suc k) x y p q lt e f t =
    rw (is-twice b j k x y p q (omega arith) e f t) (or-true (is_some (find_kept b z.point.id)))

module _ {s : List ℕ} {b : Book} {x : Index} (h : Placed s b x) where
  pub once-book : Once s x (count_of x) → is_twice b ≡ false
  once-book o = not_twice b (λ j k y z p q lt e f. rw (h.ids j y p e, h.ids k z q f) at (o j k lt (omega (arith, h.count, inside b k z q f))))

  pub twice-book : Twice s x → is_twice b ≡ true
  twice-book t =
      let u = standing b t.first (omega (arith, h.count, t.after, t.within)) in
      let v = standing b t.second (omega (arith, h.count, t.within)) in
      is-twice b t.first t.second u.0 v.0 u.1 v.1 t.after u.2 v.2 (rw (h.ids t.first u.0 u.1 u.2, h.ids t.second v.0 v.1 v.2) at t.same)

-- the index that is made of the entries stands for them
pub built-placed : {s : List ℕ} {b : Book} {y x : Index} {r : Bool} → Placed s b y → Built s y x r → Placed s b x
built-placed {s} {b} {y} {x} h u =
    let same : (j : ℕ) → place_in x j ≡ place_in y j = λ j. ap (λ (l : List ℕ). get_or l j 0) u.places in
    record {
      count = u.count ∙ h.count;
      starts = λ j k rest e. same j ∙ h.starts j k rest e;
      fronts = λ j k rest e. rw (same j) (h.fronts j k rest e);
      ids = λ j k rest e. rw (same j) (h.ids j k rest e);
    }
