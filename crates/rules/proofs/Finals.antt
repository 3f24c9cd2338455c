-- What the network can force (ticket U11), of lists of entries: the rows of their final reasons, and that these are the reasons that some
-- order gives.
use Rattle.std.specs.Prelude.{Option, None, Some}
use Prim.Native.Nat.{ℕ, suc, ◌+◌, ◌<◌}
use native.Mathlib.Omega.{arith}
use lib.ListN.{length}
use mathlib.Core.Path.{◌≡◌, refl, sym, ap, ◌∙◌, subst}
use mathlib.Core.Logic.{inl, inr}
use mathlib.Core.Bool.{◌&&◌}
use mathlib.Core.List.Memᴰ
use mathlib.Core.List.{List, [], ◌∷◌, ◌++◌, Memᴰ}
use Rattle.base.specs.Base.{is_empty}
use Rattle.rules.specs.Trail.{Row, row, rows_at}
use Rattle.rules.specs.Fired.{reasons_in, reason_of_row}
use Rattle.rules.specs.Force.{list_of}
use Rattle.reasons.specs.Invalid.{InvalidReason}
use Rattle.rules.proofs.All.{All}
use Rattle.rules.proofs.Perms.{members_all, all}

-- ---- rows of entries that give at most one reason each

-- an entry that gives a reason
pub record Giver {A : Type 0} (f : A → Option InvalidReason) (l : List A) (r : InvalidReason) : Type 0 where
  pub entry : A
  pub there : Memᴰ entry l
  pub gives : f entry ≡ Some r

-- the places of rows rise
abbrev pub Apart : List Row → Type 0
Apart [] = Unit
Apart (x ∷ l) = All (λ (y : Row). x.place < y.place) l × Apart l

module _ {A : Type 0} (f : A → Option InvalidReason) (list : ℕ) where
  unfoldable pub rows_from : ℕ → List A → List Row
  rows_from i [] = []
  rows_from i (a ∷ l) = rows_at list i (list_of (f a)) ++ rows_from (suc i) l

  -- a row stands at the place of an entry
  pub record Stands (i : ℕ) (l : List A) (x : Row) : Type 0 where
    pub here : A
    pub before : List A
    pub after : List A
    pub is : l ≡ before ++ (here ∷ after)
    pub place : i + length before ≡ x.place
    pub in_list : x.list ≡ list
    pub gives : f here ≡ Some x.reason

  at-here : (i : ℕ) (x : Row) (o : Option InvalidReason) → Memᴰ x (rows_at list i (list_of o)) →
      (o ≡ Some x.reason) × (x.list ≡ list) × (x.place ≡ i)
  at-here i x None m = absurd (Memᴰ.not-nil m)
  at-here i x (Some r) m =
      let e : x ≡ row list i r = Memᴰ.eq_of_singleton m in
      (ap (λ (y : Row). Some y.reason) (sym e), ap (λ (y : Row). y.list) e, ap (λ (y : Row). y.place) e)

  pub stands : (l : List A) (i : ℕ) (x : Row) → Memᴰ x (rows_from i l) → Stands i l x
  unfolding rows_from
  stands [] i x m = absurd (Memᴰ.not-nil m)
  stands (a ∷ l) i x m = elim (Memᴰ.append_cases (rows_at list i (list_of (f a))) m) [
    | inl n ↦ (let h = at-here i x (f a) n in
        record { here = a; before = []; after = l; is = refl; place = omega (arith, h.2); in_list = h.1; gives = h.0 })
    | inr n ↦ (let s = stands l (suc i) x n in
        record {
          here = s.here;
          before = a ∷ s.before;
          after = s.after;
          is = ap (λ (k : List A). a ∷ k) s.is;
          place = omega (arith, s.place);
          in_list = s.in_list;
          gives = s.gives;
        })
  ]

  row-there : (before : List A) (a : A) (after : List A) (i : ℕ) (r : InvalidReason) → f a ≡ Some r →
      Memᴰ (row list (i + length before) r) (rows_from i (before ++ (a ∷ after)))
  unfolding rows_from
  row-there [] a after i r h =
      let z : i + 0 ≡ i = omega arith in
      Memᴰ.append_left (rows_from (suc i) after)
      (subst (λ (o : Option InvalidReason). Memᴰ (row list (i + 0) r) (rows_at list i (list_of o))) (sym h) (Memᴰ.head (ap (λ (n : ℕ). row list n r) z)))
  row-there (b ∷ before) a after i r h =
      let z : i + suc (length before) ≡ suc i + length before = omega arith in
      Memᴰ.append_right (rows_at list i (list_of (f b))) (Memᴰ.cast (ap (λ (n : ℕ). row list n r) z) (row-there before a after (suc i) r h))

  pub stands-row : (l : List A) (i : ℕ) (x : Row) → Stands i l x → Memᴰ x (rows_from i l)
  stands-row l i x s =
      Memᴰ.cast
      (λ k. record { list = s.in_list k; place = sym s.place k; reason = x.reason })
      (subst (λ (m : List A). Memᴰ (row list (i + length s.before) x.reason) (rows_from i m)) (sym s.is) (row-there s.before s.here s.after i x.reason s.gives))

  pub rows_giver : (l : List A) (i : ℕ) (r : InvalidReason) → Memᴰ r (reasons_in (rows_from i l)) → Giver f l r
  rows_giver l i r m =
      let x = Memᴰ.of_map reason_of_row (rows_from i l) m in
      let s = stands l i x.0 x.1 in
      record {
        entry = s.here;
        there = subst (λ (k : List A). Memᴰ s.here k) (sym s.is) (Memᴰ.append_right s.before (Memᴰ.head refl));
        gives = s.gives ∙ ap Some x.2;
      }

  giver-row : (l : List A) (i : ℕ) (a : A) (r : InvalidReason) → Memᴰ a l → f a ≡ Some r → (n : ℕ) × Memᴰ (row list n r) (rows_from i l)
  unfolding rows_from
  giver-row [] i a r m h = absurd (Memᴰ.not-nil m)
  giver-row (b ∷ l) i a r m h = elim (Memᴰ.cases_cons m) [
    | inl e ↦ (
      i,
      Memᴰ.append_left (rows_from (suc i) l)
          (subst (λ (o : Option InvalidReason). Memᴰ (row list i r) (rows_at list i (list_of o))) (sym h ∙ ap f e) (Memᴰ.head refl)),
    )
    | inr n ↦ (let w = giver-row l (suc i) a r n h in (w.0, Memᴰ.append_right (rows_at list i (list_of (f b))) w.1))
  ]

  pub giver_rows : (l : List A) (i : ℕ) (r : InvalidReason) → Giver f l r → Memᴰ r (reasons_in (rows_from i l))
  giver_rows l i r g = let w = giver-row l i g.entry r g.there g.gives in Memᴰ.map reason_of_row w.1

  -- ---- places, and whether there is a row

  pub apart : (l : List A) (i : ℕ) → Apart (rows_from i l)
  unfolding rows_from
  apart [] i = tt
  apart (a ∷ l) i = go (f a) (apart l (suc i)) (members_all (λ (y : Row). i < y.place) (rows_from (suc i) l) (λ y m. (let s = stands l (suc i) y m in omega (arith, s.place))))
    where
      go : (o : Option InvalidReason) → Apart (rows_from (suc i) l) → All (λ (y : Row). i < y.place) (rows_from (suc i) l) →
          Apart (rows_at list i (list_of o) ++ rows_from (suc i) l)
      go None h g = h
      go (Some r) h g = (g, h)

  pub none-row : (l : List A) (i : ℕ) → is_empty (rows_from i l) ≡ all (λ (a : A). is_empty (list_of (f a))) l
  unfolding rows_from all
  none-row [] i = refl
  none-row (a ∷ l) i = go (f a) (none-row l (suc i))
    where
      go : (o : Option InvalidReason) → is_empty (rows_from (suc i) l) ≡ all (λ (b : A). is_empty (list_of (f b))) l →
          is_empty (rows_at list i (list_of o) ++ rows_from (suc i) l) ≡ (is_empty (list_of o) && all (λ (b : A). is_empty (list_of (f b))) l)
      go None h = h
      go (Some r) h = refl
