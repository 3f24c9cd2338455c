-- A certificate covers what a chain of kept dependencies leads to, as far down as the rounds allow.
use Rattle.std.specs.Prelude.{Option, None, Some}
use Prim.Native.Nat.{ℕ, zero, suc, ◌+◌, ◌-◌, ◌≤◌, ◌<◌}
use native.Mathlib.Omega.{arith}
use mathlib.Core.Path.{◌≡◌, refl, ap, sym, ◌∙◌, subst}
use mathlib.Core.Logic.{◌⊎◌, inl, inr}
use mathlib.Core.Bool.{Bool, true, false, not, ◌||◌}
use mathlib.Core.List.Memᴰ
use mathlib.Core.List.{List, [], ◌∷◌, Memᴰ}
use lib.Dec.{ltb}
use borrow.Author.Tests.{ltb-true, lt-ltb}
use Rattle.base.proofs.Bool.{never, clash, and_left, and_right, and_both, or_first, or_second, or_cases}
use Rattle.base.proofs.Impossible.{impossible}
use Rattle.map.specs.Rows.{Pair}
use Rattle.point.specs.Point.{PointId, Through, Includes, Witness, same_id}
use Rattle.point.proofs.Ids.{same_refl, same_eq}
use Rattle.schedule.specs.Settings.{Settings}
use Rattle.rules.specs.Mismatch.{pair_id, is_id}
use Rattle.books.specs.Kept.{Status, Valid, TransInvalid, Invalid, IllFormed, Kept, Book, find_kept, mark}
use Rattle.books.specs.Following.{IsFormed}
use Rattle.books.specs.Spread.{is_ill_formed, has_deps, any_pair, traverse, certifies, covers}
use Rattle.books.specs.FoundBook.{IsDependency, PassesOn, LeadsTo, there, down}
use Rattle.books.proofs.Find.{find-id, find-member, once-found}
use Rattle.books.proofs.Clear.{Covered, prev-covers}
use Rattle.books.proofs.Shape.{Shape, domain-least}

-- two tests that say the same
pub both_ways : (x y : Bool) → (x ≡ true → y ≡ true) → (y ≡ true → x ≡ true) → x ≡ y
both_ways true y f g = sym (f refl)
both_ways false y f g = sym (never y (λ e. clash false (g e) refl))

-- ---- a test on one of a map's dependencies

module _ (test : PointId → Bool) (round : ℕ) where
  any-pair : (l : List Pair) → any_pair test round l ≡ true → (q : Pair) × (Memᴰ q l × (test (pair_id round q) ≡ true))
  any-pair [] h = impossible (cc)
  any-pair (x ∷ l) h = go (any-pair l) (or_cases (test (pair_id round x)) (any_pair test round l) h)
    where
      go : (any_pair test round l ≡ true → (q : Pair) × (Memᴰ q l × (test (pair_id round q) ≡ true))) →
          (test (pair_id round x) ≡ true) ⊎ (any_pair test round l ≡ true) → (q : Pair) × (Memᴰ q (x ∷ l) × (test (pair_id round q) ≡ true))
      go rec (inl e) = (x, (Memᴰ.head refl, e))
      go rec (inr e) = let r = rec e in (r.0, (Memᴰ.tail r.1.0, r.1.1))

  pair-any : (l : List Pair) (q : Pair) → Memᴰ q l → test (pair_id round q) ≡ true → any_pair test round l ≡ true
  pair-any [] q m h = absurd (Memᴰ.not-nil m)
  pair-any (x ∷ l) q m h = go (pair-any l q) (Memᴰ.cases_cons m)
    where
      go : (Memᴰ q l → test (pair_id round q) ≡ true → any_pair test round l ≡ true) → (q ≡ x) ⊎ Memᴰ q l →
          (test (pair_id round x) || any_pair test round l) ≡ true
      go rec (inl e) = or_first (test (pair_id round x)) _ (ap (λ (y : Pair). test (pair_id round y)) (sym e) ∙ h)
      go rec (inr n) = or_second (test (pair_id round x)) _ (rec n h)

-- ---- who passes a mark on

formed_not : (s : Status) → IsFormed s → is_ill_formed s ≡ false
formed_not Valid f = refl
formed_not (TransInvalid d) f = refl
formed_not (Invalid n) f = refl
formed_not (IllFormed n) f = absurd (f n refl)

not_formed : (s : Status) → not (is_ill_formed s) ≡ true → IsFormed s
not_formed Valid h n e = impossible (cc)
not_formed (TransInvalid d) h n e = impossible (cc)
not_formed (Invalid m) h n e = impossible (cc)
not_formed (IllFormed m) h n e = impossible (cc)

module _ (c : Settings) (b : Book) (k : Kept) where
  pub has-deps : PassesOn c b k → has_deps c k ≡ true
  has-deps p = rw (lt-ltb c.genesis_round k.point.id.round p.1.0, formed_not k.status p.1.1)

  pub passes_on : Memᴰ k b → has_deps c k ≡ true → PassesOn c b k
  passes_on m h =
      let r = and_right (ltb c.genesis_round k.point.id.round) _ h in
      (m, (ltb-true c.genesis_round k.point.id.round (and_left (ltb c.genesis_round k.point.id.round) _ h), not_formed k.status r))

-- ---- the point itself is covered

module _ (c : Settings) (b : Book) where
  itself : (i : PointId) (n : ℕ) → certifies c b (suc n) i i ≡ true
  unfolding certifies
  itself i zero = same_refl i
  itself i (suc n) = or_first (same_id i i) _ (same_refl i)

  pub covers-prev : (prev : Option PointId) → Covered prev (mark (covers c b prev) b)
  unfolding covers
  covers-prev prev = prev-covers prev (covers c b prev) (own prev) b
    where
      own : (o : Option PointId) (i : PointId) → is_id o i ≡ true → covers c b o i ≡ true
      own None i e = e
      own (Some t) i e = ap (λ (x : PointId). covers c b (Some t) x) (sym (same_eq t i e)) ∙ itself t c.commit_history_rounds

-- ---- chains

module _ (c : Settings) (b : Book) (h : Shape b) where
  -- a kept point lies at a round from which two can be taken
  pub kept-least : (k : Kept) → Memᴰ k b → 4 ≤ k.point.id.round
  kept-least k m = domain-least k.point (h.entries k m).domain

  -- a dependency lies below
  pub dependency-below : (k : Kept) → Memᴰ k b → (i : PointId) (w : Through) → IsDependency k.point i w → i.round < k.point.id.round
  dependency-below k m i w (inl (q, (n, (e, f)))) = rw e (omega (arith, kept-least k m))
  dependency-below k m i w (inr (q, (n, (e, f)))) = rw e (omega (arith, kept-least k m))

  module _ (i : PointId) where
    pub leads-below : (t : PointId) → LeadsTo c b i t → i.round ≤ t.round
    leads-below t there = omega arith
    leads-below t (down k p j w d l) = omega (arith, leads-below j l, dependency-below k p.0 j w d)

    -- a chain leads there, from as far up as this
    abbrev Reaches : ℕ → PointId → Type 0
    Reaches n t = LeadsTo c b i t × (t.round ≤ i.round + n)

    same-reaches : (n : ℕ) (t : PointId) → same_id t i ≡ true → Reaches n t
    same-reaches n t e = subst (Reaches n) (sym (same_eq t i e)) (there, omega arith)

    -- through an entry, with what is so of its includes and of its witness
    module _ (n : ℕ) (t : PointId) (includes : (j : PointId) → certifies c b (suc n) j i ≡ true → Reaches n j)
        (witness : (j : PointId) → certifies c b n j i ≡ true → LeadsTo c b i j × (j.round < i.round + n)) where
      abbrev goes_on : Option Kept → Bool
      goes_on o = traverse c (λ j. certifies c b (suc n) j i) (λ j. certifies c b n j i) o

      kept-reaches : (k : Kept) → find_kept b t ≡ Some k → goes_on (Some k) ≡ true → Reaches (suc n) k.point.id
      kept-reaches k f e =
          let m = find-member b t k f in
          either (passes_on c b k m (and_left (has_deps c k) _ e)) (kept-least k m)
          (or_cases (any_pair (λ j. certifies c b (suc n) j i) (k.point.id.round - 1) k.point.includes) _ (and_right (has_deps c k) _ e))
        where
          either : PassesOn c b k → 4 ≤ k.point.id.round →
              (any_pair (λ j. certifies c b (suc n) j i) (k.point.id.round - 1) k.point.includes ≡ true)
              ⊎ (any_pair (λ j. certifies c b n j i) (k.point.id.round - 2) k.point.witness ≡ true) → Reaches (suc n) k.point.id
          either p four (inl a) =
              let x = any-pair (λ j. certifies c b (suc n) j i) (k.point.id.round - 1) k.point.includes a in
              let r = includes (pair_id (k.point.id.round - 1) x.0) x.1.1 in
              let under : k.point.id.round - 1 ≤ i.round + n = r.1 in
              (down k p (pair_id (k.point.id.round - 1) x.0) (Includes x.0.peer) (inl (x.0, (x.1.0, (refl, refl)))) r.0, omega (arith, under, four))
          either p four (inr a) =
              let x = any-pair (λ j. certifies c b n j i) (k.point.id.round - 2) k.point.witness a in
              let r = witness (pair_id (k.point.id.round - 2) x.0) x.1.1 in
              let under : k.point.id.round - 2 < i.round + n = r.1 in
              (down k p (pair_id (k.point.id.round - 2) x.0) (Witness x.0.peer) (inr (x.0, (x.1.0, (refl, refl)))) r.0, omega (arith, under, four))

      deeper_reaches : certifies c b (suc (suc n)) t i ≡ true → Reaches (suc n) t
      unfolding certifies
      deeper_reaches e = go (or_cases (same_id t i) _ e)
        where
          found : (o : Option Kept) → find_kept b t ≡ o → goes_on o ≡ true → Reaches (suc n) t
          found None f e = impossible (cc)
          found (Some k) f e = subst (Reaches (suc n)) (find-id b t k f) (kept-reaches k f e)

          go : (same_id t i ≡ true) ⊎ (goes_on (find_kept b t) ≡ true) → Reaches (suc n) t
          go (inl s) = same-reaches (suc n) t s
          go (inr s) = found (find_kept b t) refl s

    certifies-reaches : (n : ℕ) (t : PointId) → certifies c b (suc n) t i ≡ true → Reaches n t
    unfolding certifies
    certifies-reaches zero t e = same-reaches zero t e
    certifies-reaches (suc zero) t e = deeper_reaches zero t (certifies-reaches zero) (λ j f. impossible (cc)) e
    certifies-reaches (suc (suc n)) t e =
        deeper_reaches (suc n) t (certifies-reaches (suc n)) (λ j f. (let r = certifies-reaches n j f in (r.0, omega (arith, r.1)))) e

    -- ---- from a chain to what is covered

    reaches-certifies : (t : PointId) → LeadsTo c b i t → (n : ℕ) → t.round ≤ i.round + n → certifies c b (suc n) t i ≡ true
    reaches-certifies t there n under = itself c b i n
    reaches-certifies t (down k p j w d l) n under =
        go n d under (λ m v. reaches-certifies j l m v)
      where
        four : 4 ≤ k.point.id.round
        four = kept-least k p.0

        step : (m : ℕ) → (any_pair (λ x. certifies c b (suc m) x i) (k.point.id.round - 1) k.point.includes
            || any_pair (λ x. certifies c b m x i) (k.point.id.round - 2) k.point.witness) ≡ true → certifies c b (suc (suc m)) k.point.id i ≡ true
        step m e = unfold certifies in or_second (same_id k.point.id i) _ (rw (once-found b h.once k p.0) (and_both (has_deps c k) _ (has-deps c b k p) e))

        go : (n : ℕ) → IsDependency k.point j w → k.point.id.round ≤ i.round + n →
            ((m : ℕ) → j.round ≤ i.round + m → certifies c b (suc m) j i ≡ true) → certifies c b (suc n) k.point.id i ≡ true
        go zero d under rec = absurd (omega (arith, leads-below j l, dependency-below k p.0 j w d))
        go (suc n) (inl (q, (m, (e, f)))) under rec =
            let at : j.round ≡ k.point.id.round - 1 = ap (λ (x : PointId). x.round) e in
            let r : certifies c b (suc n) j i ≡ true = rec n (omega (arith, four)) in
            step n (or_first _ _ (pair-any (λ x. certifies c b (suc n) x i) (k.point.id.round - 1) k.point.includes q m
            (ap (λ (x : PointId). certifies c b (suc n) x i) (sym e) ∙ r)))
        go (suc zero) (inr (q, (m, (e, f)))) under rec =
            let at : j.round ≡ k.point.id.round - 2 = ap (λ (x : PointId). x.round) e in
            absurd (omega (arith, four, leads-below j l))
        go (suc (suc n)) (inr (q, (m, (e, f)))) under rec =
            let at : j.round ≡ k.point.id.round - 2 = ap (λ (x : PointId). x.round) e in
            let r : certifies c b (suc n) j i ≡ true = rec n (omega (arith, four)) in
            step (suc n) (or_second (any_pair (λ x. certifies c b (suc (suc n)) x i) (k.point.id.round - 1) k.point.includes) _
            (pair-any (λ x. certifies c b (suc n) x i) (k.point.id.round - 2) k.point.witness q m
            (ap (λ (x : PointId). certifies c b (suc n) x i) (sym e) ∙ r)))

    -- ---- the rule

    pub covers-leads : (t : PointId) → covers c b (Some t) i ≡ true → LeadsTo c b i t × (t.round ≤ i.round + c.commit_history_rounds)
    unfolding covers
    covers-leads t e = certifies-reaches c.commit_history_rounds t e

    pub leads-covers : (t : PointId) → LeadsTo c b i t → t.round ≤ i.round + c.commit_history_rounds → covers c b (Some t) i ≡ true
    unfolding covers
    leads-covers t l under = reaches-certifies t l c.commit_history_rounds under
