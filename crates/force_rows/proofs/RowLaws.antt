-- Laws of rows of one reason number, and of rows that stand before one.
use Rattle.std.specs.Prelude.{Option, None, Some}
use Prim.Native.Nat.{ℕ}
use native.Mathlib.Omega.{arith}
use Rattle.std.proofs.lemmas.Bool.Decides.{nat_tests}
use mathlib.Core.Path.{◌≡◌, refl, ap, sym, ◌∙◌}
use mathlib.Core.Logic.{◌⊎◌, inl, inr}
use mathlib.Core.Bool.{Bool, true, false, ◌||◌}
use mathlib.Core.List.Memᴰ
use mathlib.Core.List.{List, [], ◌∷◌, ◌++◌, Memᴰ}
use lib.Dec.{eqb}
use borrow.Author.Tests.{eq-eqb, ne_eqb}
use Rattle.base.specs.Base.{pick, last_of}
use Rattle.base.proofs.Bool.{clash, or_cases, or_first, or_second}
use Rattle.reasons.specs.Invalid.{InvalidReason, invalid_number}
use Rattle.rules.specs.Trail.{Row}
use Rattle.rules.specs.Fired.{reasons_in}
use Rattle.rules.specs.Force.{same_reason, has_reason_of, firsts}
use Rattle.rules.proofs.Decoded.{same-reason_eq, same-reason_refl}
use Rattle.force_rows.specs.Code.{of_number, last_reason, is_same_as}

-- ---- the rows of one number

pub of-append : (k : ℕ) (a b : List Row) → of_number k (a ++ b) ≡ of_number k a ++ of_number k b
unfolding of_number
of-append k [] b = refl
of-append k (r ∷ a) b = go (eqb (invalid_number r.reason) k) (of-append k a b)
  where
    go : (t : Bool) → of_number k (a ++ b) ≡ of_number k a ++ of_number k b →
        pick t (r ∷ of_number k (a ++ b)) (of_number k (a ++ b)) ≡ pick t (r ∷ of_number k a) (of_number k a) ++ of_number k b
    go true h = ap (λ (l : List Row). r ∷ l) h
    go false h = h

pub of-this : (k : ℕ) (r : Row) → invalid_number r.reason ≡ k → of_number k (r ∷ []) ≡ r ∷ []
unfolding of_number
of-this k r e = rw (eq-eqb (invalid_number r.reason) k e) refl

pub of-other : (k : ℕ) (r : Row) → (invalid_number r.reason ≡ k → ⊥) → of_number k (r ∷ []) ≡ []
unfolding of_number
of-other k r n = rw (ne_eqb (invalid_number r.reason) k n) refl

-- ---- a reason that rows before have

pub has_append : (a b : List Row) (x : Row) → has_reason_of (a ++ b) x ≡ (has_reason_of a x || has_reason_of b x)
unfolding has_reason_of
has_append [] b x = refl
has_append (s ∷ l) b x = go (same_reason s.reason x.reason) (has_append l b x)
  where
    go : (t : Bool) → has_reason_of (l ++ b) x ≡ (has_reason_of l x || has_reason_of b x) →
        (t || has_reason_of (l ++ b) x) ≡ ((t || has_reason_of l x) || has_reason_of b x)
    go true h = refl
    go false h = h

has-one : (s x : Row) → has_reason_of (s ∷ []) x ≡ same_reason s.reason x.reason
unfolding has_reason_of
has-one s x = go (same_reason s.reason x.reason)
  where
    go : (t : Bool) → (t || false) ≡ t
    go true = refl
    go false = refl

has-next : (s : Row) (l : List Row) (x : Row) → has_reason_of (s ∷ l) x ≡ (same_reason s.reason x.reason || has_reason_of l x)
unfolding has_reason_of
has-next s l x = refl

has-none : (x : Row) → has_reason_of [] x ≡ false
unfolding has_reason_of
has-none x = refl

has-like : (before : List Row) (x y : Row) → x.reason ≡ y.reason → has_reason_of before x ≡ has_reason_of before y
unfolding has_reason_of
has-like [] x y e = refl
has-like (s ∷ l) x y e =
    ap (λ (r : InvalidReason). same_reason s.reason r || has_reason_of l x) e
    ∙ ap (λ (b : Bool). same_reason s.reason y.reason || b) (has-like l x y e)

pub has-member : (l : List Row) (x : Row) → has_reason_of l x ≡ true → (y : Row) × Memᴰ y l × (y.reason ≡ x.reason)
unfolding has_reason_of
has-member [] x h = clash false h refl
has-member (s ∷ l) x h = elim (or_cases (same_reason s.reason x.reason) (has_reason_of l x) h) [
  | inl e ↦ (s, Memᴰ.head refl, same-reason_eq s.reason x.reason e)
  | inr g ↦ (let m = has-member l x g in (m.0, Memᴰ.tail m.1, m.2))
]

pub member-has : (l : List Row) (x y : Row) → Memᴰ y l → y.reason ≡ x.reason → has_reason_of l x ≡ true
unfolding has_reason_of
member-has [] x y m e = absurd (Memᴰ.not-nil m)
member-has (s ∷ l) x y m e = elim (Memᴰ.cases_cons m) [
  | inl i ↦ or_first (same_reason s.reason x.reason) (has_reason_of l x) (rw (← i, e) (same-reason_refl x.reason))
  | inr n ↦ or_second (same_reason s.reason x.reason) (has_reason_of l x) (member-has l x y n e)
]

-- whether the row after these stays
module _ (r : Row) where
  skipped : (before : List Row) (x : Row) (l : List Row) → has_reason_of before x ≡ true →
      (has_reason_of before r || has_reason_of l r) ≡ (has_reason_of before r || has_reason_of (x ∷ l) r)
  skipped before x l h = go (same_reason x.reason r.reason) refl (has_reason_of before r) refl
    where
      go : (t : Bool) → same_reason x.reason r.reason ≡ t → (u : Bool) → has_reason_of before r ≡ u →
          (has_reason_of before r || has_reason_of l r) ≡ (has_reason_of before r || has_reason_of (x ∷ l) r)
      go t e true f = rw f refl
      go true e false f = clash (has_reason_of before r) (sym (has-like before x r (same-reason_eq x.reason r.reason e)) ∙ h) f
      go false e false f = rw (has-next x l r, e) refl

  kept : (before : List Row) (x : Row) (l : List Row) →
      (has_reason_of (before ++ (x ∷ [])) r || has_reason_of l r) ≡ (has_reason_of before r || has_reason_of (x ∷ l) r)
  kept before x l =
      rw (has_append before (x ∷ []) r, has-one x r, has-next x l r)
      (go (has_reason_of before r) (same_reason x.reason r.reason) (has_reason_of l r))
    where
      go : (a b c : Bool) → ((a || b) || c) ≡ (a || (b || c))
      go true b c = refl
      go false b c = refl

  firsts-from : (before l : List Row) → firsts before (l ++ (r ∷ [])) ≡ firsts before l ++ pick (has_reason_of before r || has_reason_of l r) [] (r ∷ [])
  unfolding firsts
  firsts-from before [] = rw (has-none r) (go (has_reason_of before r))
    where
      go : (t : Bool) → pick t [] (r ∷ []) ≡ pick (t || false) [] (r ∷ [])
      go true = refl
      go false = refl
  firsts-from before (x ∷ l) = go (has_reason_of before x) refl (firsts-from before l) (firsts-from (before ++ (x ∷ [])) l)
    where
      go : (t : Bool) → has_reason_of before x ≡ t →
          firsts before (l ++ (r ∷ [])) ≡ firsts before l ++ pick (has_reason_of before r || has_reason_of l r) [] (r ∷ []) →
          firsts (before ++ (x ∷ [])) (l ++ (r ∷ [])) ≡ firsts (before ++ (x ∷ [])) l ++ pick (has_reason_of (before ++ (x ∷ [])) r || has_reason_of l r) [] (r ∷ []) →
          pick t (firsts before (l ++ (r ∷ []))) (x ∷ firsts (before ++ (x ∷ [])) (l ++ (r ∷ [])))
          ≡ pick t (firsts before l) (x ∷ firsts (before ++ (x ∷ [])) l) ++ pick (has_reason_of before r || has_reason_of (x ∷ l) r) [] (r ∷ [])
      go true e f g = f ∙ ap (λ (b : Bool). firsts before l ++ pick b [] (r ∷ [])) (skipped before x l e)
      go false e f g = ap (λ (k : List Row). x ∷ k) (g ∙ ap (λ (b : Bool). firsts (before ++ (x ∷ [])) l ++ pick b [] (r ∷ [])) (kept before x l))

  pub firsts-next : (l : List Row) → firsts [] (l ++ (r ∷ [])) ≡ firsts [] l ++ pick (has_reason_of l r) [] (r ∷ [])
  firsts-next l = firsts-from [] l ∙ ap (λ (b : Bool). firsts [] l ++ pick (b || has_reason_of l r) [] (r ∷ [])) (has-none r)

-- ---- the last reason

pub last-next : (l : List Row) (r : Row) → last_of (reasons_in (l ++ (r ∷ []))) ≡ Some r.reason
unfolding last_of
last-next [] r = refl
last-next (x ∷ []) r = refl
last-next (x ∷ y ∷ l) r = last-next (y ∷ l) r

pub last-member : (l : List Row) (s : InvalidReason) → last_of (reasons_in l) ≡ Some s → (y : Row) × Memᴰ y l × (y.reason ≡ s)
unfolding last_of
last-member [] s h = absurd (let e : None ≡ Some s = h in cc)
last-member (x ∷ []) s h = (x, Memᴰ.head refl, (let e : Some x.reason ≡ Some s = h in cc))
last-member (x ∷ y ∷ l) s h = let m = last-member (y ∷ l) s h in (m.0, Memᴰ.tail m.1, m.2)

pub of-member : (k : ℕ) (l : List Row) (x : Row) → Memᴰ x (of_number k l) → Memᴰ x l × (invalid_number x.reason ≡ k)
unfolding of_number
of-member k [] x m = absurd (Memᴰ.not-nil m)
of-member k (r ∷ l) x m = go (eqb (invalid_number r.reason) k) refl m (of-member k l x)
  where
    is : eqb (invalid_number r.reason) k ≡ true → invalid_number r.reason ≡ k
    is h = grind (arith, nat_tests)

    go : (t : Bool) → eqb (invalid_number r.reason) k ≡ t → Memᴰ x (pick t (r ∷ of_number k l) (of_number k l)) →
        (Memᴰ x (of_number k l) → Memᴰ x l × (invalid_number x.reason ≡ k)) → Memᴰ x (r ∷ l) × (invalid_number x.reason ≡ k)
    go true e n f = elim (Memᴰ.cases_cons n) [
      | inl i ↦ (Memᴰ.head i, ap (λ (y : Row). invalid_number y.reason) i ∙ is e)
      | inr o ↦ (let p = f o in (Memᴰ.tail p.0, p.1))
    ]
    go false e n f = let p = f n in (Memᴰ.tail p.0, p.1)

pub member-of : (k : ℕ) (l : List Row) (x : Row) → Memᴰ x l → invalid_number x.reason ≡ k → Memᴰ x (of_number k l)
unfolding of_number
member-of k [] x m e = absurd (Memᴰ.not-nil m)
member-of k (r ∷ l) x m e = go (eqb (invalid_number r.reason) k) refl (Memᴰ.cases_cons m) (λ n. member-of k l x n e)
  where
    go : (t : Bool) → eqb (invalid_number r.reason) k ≡ t → (x ≡ r) ⊎ Memᴰ x l → (Memᴰ x l → Memᴰ x (of_number k l)) →
        Memᴰ x (pick t (r ∷ of_number k l) (of_number k l))
    go true q (inl i) f = Memᴰ.head i
    go true q (inr n) f = Memᴰ.tail (f n)
    go false q (inl i) f = clash (eqb (invalid_number r.reason) k) (eq-eqb (invalid_number r.reason) k (ap (λ (y : Row). invalid_number y.reason) (sym i) ∙ e)) q
    go false q (inr n) f = f n

-- a row whose reason is the last one's
pub last-has : (k : ℕ) (l : List Row) (r : Row) → is_same_as (last_reason k l) r.reason ≡ true →
    (has_reason_of l r ≡ true) × (last_reason k l ≡ Some r.reason)
last-has k l r h = go (last_reason k l) refl h
  where
    go : (o : Option InvalidReason) → last_reason k l ≡ o → is_same_as o r.reason ≡ true →
        (has_reason_of l r ≡ true) × (last_reason k l ≡ Some r.reason)
    go None e g = clash false g refl
    go (Some s) e g =
        let i = same-reason_eq s r.reason g in
        let m = last-member (of_number k l) s e in
        (member-has l r m.0 (of-member k l m.0 m.1).0 (m.2 ∙ i), e ∙ ap Some i)
