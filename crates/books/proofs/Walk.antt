-- What a certificate covers, from round to round: an id is covered if it is the previous point's, or a dependency of a covered entry that
-- passes a mark on. No heights are left in it, and no paths.
use Rattle.std.specs.Prelude.{Some}
use Prim.Native.Nat.{ℕ, ◌+◌, ◌-◌, ◌≤◌}
use native.Mathlib.Omega.{arith}
use mathlib.Core.Path.{◌≡◌, refl, ap, sym, ◌∙◌, subst}
use mathlib.Core.Logic.{◌⊎◌, inl, inr}
use mathlib.Core.Bool.{Bool, true, false, ◌&&◌, ◌||◌}
use mathlib.Core.List.Memᴰ
use mathlib.Core.List.{List, [], ◌∷◌, Memᴰ}
use lib.Dec.{leb}
use borrow.Author.Tests.{leb-true, le-leb}
use Rattle.base.proofs.Bool.{and_left, and_right, and_both, or_first, or_second, or_cases}
use Rattle.base.proofs.Impossible.{impossible}
use Rattle.map.specs.Rows.{Pair}
use Rattle.point.specs.Point.{PointId, Through, Includes, Witness, PointInfo, same_id}
use Rattle.point.proofs.Ids.{eq_same, same_eq}
use Rattle.schedule.specs.Settings.{Settings}
use Rattle.rules.specs.Mismatch.{pair_id, is_among}
use Rattle.books.specs.Kept.{Kept, Book}
use Rattle.books.specs.Spread.{has_deps, covers}
use Rattle.books.specs.FoundBook.{IsDependency, PassesOn, LeadsTo, there, down}
use Rattle.books.proofs.Clear.{among-member}
use Rattle.books.proofs.Shape.{Shape}
use Rattle.books.proofs.Spread.{both_ways, has-deps, passes_on, dependency-below, covers-leads, leads-covers}

-- a test holds of one of a book's entries
abbrev pub any_kept : (Kept → Bool) → Book → Bool
any_kept test [] = false
any_kept test (k ∷ b) = test k || any_kept test b

-- an id is a dependency of a point: of its includes, one round down, or of its witness, two
abbrev pub is_dependency : PointInfo → PointId → Bool
is_dependency p i = is_among (p.id.round - 1) p.includes i || is_among (p.id.round - 2) p.witness i

-- ---- the tests and what they say

module _ (test : Kept → Bool) where
  any-kept : (b : Book) → any_kept test b ≡ true → (k : Kept) × (Memᴰ k b × (test k ≡ true))
  any-kept [] h = impossible (cc)
  any-kept (x ∷ b) h = go (any-kept b) (or_cases (test x) (any_kept test b) h)
    where
      go : (any_kept test b ≡ true → (k : Kept) × (Memᴰ k b × (test k ≡ true))) → (test x ≡ true) ⊎ (any_kept test b ≡ true) →
          (k : Kept) × (Memᴰ k (x ∷ b) × (test k ≡ true))
      go rec (inl e) = (x, (Memᴰ.head refl, e))
      go rec (inr e) = let r = rec e in (r.0, (Memᴰ.tail r.1.0, r.1.1))

  kept_any : (b : Book) (k : Kept) → Memᴰ k b → test k ≡ true → any_kept test b ≡ true
  kept_any [] k m h = absurd (Memᴰ.not-nil m)
  kept_any (x ∷ b) k m h = go (kept_any b k) (Memᴰ.cases_cons m)
    where
      go : (Memᴰ k b → test k ≡ true → any_kept test b ≡ true) → (k ≡ x) ⊎ Memᴰ k b → (test x || any_kept test b) ≡ true
      go rec (inl e) = or_first (test x) _ (ap test (sym e) ∙ h)
      go rec (inr n) = or_second (test x) _ (rec n h)

among-pair : (round : ℕ) (l : List Pair) (i : PointId) → is_among round l i ≡ true → (q : Pair) × (Memᴰ q l × (i ≡ pair_id round q))
unfolding is_among
among-pair round [] i h = impossible (cc)
among-pair round (x ∷ l) i h = go (among-pair round l i) (or_cases (same_id (pair_id round x) i) (is_among round l i) h)
  where
    go : (is_among round l i ≡ true → (q : Pair) × (Memᴰ q l × (i ≡ pair_id round q))) → (same_id (pair_id round x) i ≡ true) ⊎ (is_among round l i ≡ true) →
        (q : Pair) × (Memᴰ q (x ∷ l) × (i ≡ pair_id round q))
    go rec (inl e) = (x, (Memᴰ.head refl, sym (same_eq (pair_id round x) i e)))
    go rec (inr e) = let r = rec e in (r.0, (Memᴰ.tail r.1.0, r.1.1))

module _ (p : PointInfo) (i : PointId) where
  depends-is : (w : Through) → IsDependency p i w → is_dependency p i ≡ true
  depends-is w (inl (q, (m, (e, f)))) =
      or_first (is_among (p.id.round - 1) p.includes i) _ (rw e (among-member (p.id.round - 1) p.includes q m))
  depends-is w (inr (q, (m, (e, f)))) =
      or_second (is_among (p.id.round - 1) p.includes i) _ (rw e (among-member (p.id.round - 2) p.witness q m))

  is-depends : is_dependency p i ≡ true → (w : Through) × IsDependency p i w
  is-depends h = go (or_cases (is_among (p.id.round - 1) p.includes i) _ h)
    where
      go : (is_among (p.id.round - 1) p.includes i ≡ true) ⊎ (is_among (p.id.round - 2) p.witness i ≡ true) → (w : Through) × IsDependency p i w
      go (inl a) = let r = among-pair (p.id.round - 1) p.includes i a in (Includes r.0.peer, inl (r.0, (r.1.0, (r.1.1, refl))))
      go (inr a) = let r = among-pair (p.id.round - 2) p.witness i a in (Witness r.0.peer, inr (r.0, (r.1.0, (r.1.1, refl))))

-- ---- a chain by its last step

module _ (c : Settings) (b : Book) (i : PointId) where
  -- no step, or a last one
  abbrev Ends : PointId → Type 0
  Ends t = (t ≡ i) ⊎ ((k : Kept) × (PassesOn c b k × (((w : Through) × IsDependency k.point i w) × LeadsTo c b k.point.id t)))

  last_step : (t : PointId) → LeadsTo c b i t → Ends t
  last_step t there = inl refl
  last_step t (down k p j w d l) = go (last_step j l)
    where
      go : Ends j → Ends k.point.id
      go (inl e) = inr (k, (p, ((w, subst (λ (x : PointId). IsDependency k.point x w) e d), there)))
      go (inr (x, (px, (dx, lx)))) = inr (x, (px, (dx, down k p j w d lx)))

  step_after : (k : Kept) → PassesOn c b k → (w : Through) → IsDependency k.point i w → (t : PointId) → LeadsTo c b k.point.id t → LeadsTo c b i t
  step_after k p w d t there = down k p i w d there
  step_after k p w d t (down x px j v e l) = down x px j v e (step_after k p w d j l)

-- ---- the law

module _ (c : Settings) (b : Book) (h : Shape b) (t i : PointId) where
  -- an entry hands the mark to i
  abbrev hands_on : Kept → Bool
  hands_on k = has_deps c k && (is_dependency k.point i && covers c b (Some t) k.point.id)

  abbrev within : Bool
  within = leb t.round (i.round + c.commit_history_rounds)

  covers_handed : covers c b (Some t) i ≡ true → (within && (same_id t i || any_kept hands_on b)) ≡ true
  covers_handed e =
      let x = covers-leads c b h i t e in
      and_both within _ (le-leb _ _ x.1) (go x.1 (last_step c b i t x.0))
    where
      go : t.round ≤ i.round + c.commit_history_rounds → Ends c b i t → (same_id t i || any_kept hands_on b) ≡ true
      go under (inl s) = or_first (same_id t i) _ (eq_same t i s)
      go under (inr (k, (p, ((w, d), l)))) =
          let r = leads-covers c b h k.point.id t l (omega (arith, dependency-below c b h k p.0 i w d)) in
          or_second (same_id t i) _ (kept_any hands_on b k p.0 (and_both (has_deps c k) _ (has-deps c b k p) (and_both (is_dependency k.point i) _ (depends-is k.point i w d) r)))

  handed_covers : (within && (same_id t i || any_kept hands_on b)) ≡ true → covers c b (Some t) i ≡ true
  handed_covers e = leads-covers c b h i t (go (or_cases (same_id t i) _ (and_right within _ e))) (leb-true _ _ (and_left within _ e))
    where
      go : (same_id t i ≡ true) ⊎ (any_kept hands_on b ≡ true) → LeadsTo c b i t
      go (inl s) = subst (LeadsTo c b i) (sym (same_eq t i s)) there
      go (inr a) =
          let x = any-kept hands_on b a in
          let k : Kept = x.0 in
          let r = and_right (has_deps c k) _ x.1.1 in
          let d = is-depends k.point i (and_left (is_dependency k.point i) _ r) in
          step_after c b i k (passes_on c b k x.1.0 (and_left (has_deps c k) _ x.1.1)) d.0 d.1 t
          (covers-leads c b h k.point.id t (and_right (is_dependency k.point i) _ r)).0

  pub covers-by_rounds :
      covers c b (Some t) i
      ≡ (leb t.round (i.round + c.commit_history_rounds)
      && (same_id t i || any_kept (λ k. has_deps c k && (is_dependency k.point i && covers c b (Some t) k.point.id)) b))
  covers-by_rounds = both_ways _ _ covers_handed handed_covers
