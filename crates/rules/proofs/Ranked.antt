-- The rows that the network can force (ticket U11): each reason once, at its earliest place, by reason number and then by place.
use Prim.Native.Nat.{◌<◌, ◌≤◌}
use native.Mathlib.Omega.{arith}
use native.Mathlib.Decide.{dec_lt}
use lib.Dec.{eqb}
use borrow.Author.Tests.{ne_eqb}
use mathlib.Core.Path.{◌≡◌, refl, sym, ap, ◌∙◌, subst}
use mathlib.Core.Logic.{◌⊎◌, inl, inr}
use mathlib.Core.Bool.{Bool, true, false, ◌||◌}
use mathlib.Core.List.Memᴰ
use mathlib.Core.List.Permᴰ
use mathlib.Core.List.{List, [], ◌∷◌, ◌++◌, map, Memᴰ, Permᴰ}
use Rattle.base.specs.Base.{pick}
use Rattle.base.proofs.Bool.{clash, or_left, or_none, or_cases}
use Rattle.map.specs.Rows.{rising}
use Rattle.map.specs.Risen.{is_among, has_twice}
use Rattle.map.proofs.Pairs.{rising_tail, rising-above}
use Rattle.map.proofs.Risen.{among-none, among-next, member-perm, risen-perm, risen-rises}
use Rattle.point.specs.declared.data.PointMap.{PointMap}
use Rattle.reasons.specs.Invalid.{InvalidReason, invalid_number}
use Rattle.rules.specs.Trail.{Row, rule_row}
use Rattle.rules.specs.Fired.{reasons_in, reason_of_row}
use Rattle.rules.specs.Force.{same_reason, has_reason_of, firsts, rank, ranked}
use Rattle.rules.proofs.All.{All, all-member}
use Rattle.rules.proofs.Decoded.{same-reason_eq, same-reason_refl}
use Rattle.rules.proofs.Finals.{Apart}

-- ---- whether a row before has an equal reason

pub has-append : (before : List Row) (r x : Row) → has_reason_of (before ++ (r ∷ [])) x ≡ (has_reason_of before x || same_reason r.reason x.reason)
unfolding has_reason_of
has-append [] r x = go (same_reason r.reason x.reason)
  where
    go : (b : Bool) → (b || false) ≡ (false || b)
    go true = refl
    go false = refl
has-append (s ∷ l) r x = go (same_reason s.reason x.reason) (has-append l r x)
  where
    go : (b : Bool) → has_reason_of (l ++ (r ∷ [])) x ≡ (has_reason_of l x || same_reason r.reason x.reason) →
        (b || has_reason_of (l ++ (r ∷ [])) x) ≡ ((b || has_reason_of l x) || same_reason r.reason x.reason)
    go true h = refl
    go false h = h

pub has_same : (before : List Row) (x y : Row) → x.reason ≡ y.reason → has_reason_of before x ≡ has_reason_of before y
unfolding has_reason_of
has_same [] x y e = refl
has_same (s ∷ l) x y e =
    ap (λ (r : InvalidReason). same_reason s.reason r || has_reason_of l x) e ∙ ap (λ (b : Bool). same_reason s.reason y.reason || b) (has_same l x y e)

has-this : (before : List Row) (r x : Row) → r.reason ≡ x.reason → has_reason_of (before ++ (r ∷ [])) x ≡ false → ⊥
has-this before r x e h = clash (same_reason r.reason x.reason) (rw (sym e) (same-reason_refl r.reason)) (go (has_reason_of before x) (sym (has-append before r x) ∙ h))
  where
    go : (b : Bool) → (b || same_reason r.reason x.reason) ≡ false → same_reason r.reason x.reason ≡ false
    go true k = clash true refl k
    go false k = k

-- ---- the rows that stay

pub firsts_member : (before l : List Row) (x : Row) → Memᴰ x (firsts before l) → Memᴰ x l
unfolding firsts
firsts_member before [] x m = m
firsts_member before (r ∷ l) x m = go (has_reason_of before r) m (firsts_member before l x) (firsts_member (before ++ (r ∷ [])) l x)
  where
    go : (b : Bool) → Memᴰ x (pick b (firsts before l) (r ∷ firsts (before ++ (r ∷ [])) l)) → (Memᴰ x (firsts before l) → Memᴰ x l) →
        (Memᴰ x (firsts (before ++ (r ∷ [])) l) → Memᴰ x l) → Memᴰ x (r ∷ l)
    go true n f g = Memᴰ.tail (f n)
    go false n f g = elim (Memᴰ.cases_cons n) [ inl e ↦ Memᴰ.head e | inr o ↦ Memᴰ.tail (g o) ]

-- have a reason that none before has
firsts_new : (before l : List Row) (x : Row) → Memᴰ x (firsts before l) → has_reason_of before x ≡ false
unfolding firsts
firsts_new before [] x m = absurd (Memᴰ.not-nil m)
firsts_new before (r ∷ l) x m = go (has_reason_of before r) refl m (firsts_new before l x) (firsts_new (before ++ (r ∷ [])) l x)
  where
    go : (b : Bool) → has_reason_of before r ≡ b → Memᴰ x (pick b (firsts before l) (r ∷ firsts (before ++ (r ∷ [])) l)) →
        (Memᴰ x (firsts before l) → has_reason_of before x ≡ false) →
        (Memᴰ x (firsts (before ++ (r ∷ [])) l) → has_reason_of (before ++ (r ∷ [])) x ≡ false) →
        has_reason_of before x ≡ false
    go true q n f g = f n
    go false q n f g = elim (Memᴰ.cases_cons n) [
      | inl e ↦ ap (has_reason_of before) e ∙ q
      | inr o ↦ or_left (has_reason_of before x) _ (sym (has-append before r x) ∙ g o)
    ]

-- and each reason is that of one which stays
firsts_stay : (before l : List Row) (y : Row) → Memᴰ y l →
    (has_reason_of before y ≡ true) ⊎ ((x : Row) × Memᴰ x (firsts before l) × (x.reason ≡ y.reason))
unfolding firsts
firsts_stay before [] y m = absurd (Memᴰ.not-nil m)
firsts_stay before (r ∷ l) y m =
    go (has_reason_of before r) refl (Memᴰ.cases_cons m) (firsts_stay before l y) (firsts_stay (before ++ (r ∷ [])) l y)
  where
    Stays : List Row → List Row → Type 0
    Stays b rows = (has_reason_of b y ≡ true) ⊎ ((x : Row) × Memᴰ x rows × (x.reason ≡ y.reason))

    later : Stays (before ++ (r ∷ [])) (firsts (before ++ (r ∷ [])) l) → Stays before (r ∷ firsts (before ++ (r ∷ [])) l)
    later (inl h) = elim (or_cases (has_reason_of before y) (same_reason r.reason y.reason) (sym (has-append before r y) ∙ h)) [
      | inl k ↦ inl k
      | inr k ↦ inr (r, Memᴰ.head refl, same-reason_eq r.reason y.reason k)
    ]
    later (inr s) = inr (s.0, Memᴰ.tail s.1, s.2)

    go : (b : Bool) → has_reason_of before r ≡ b → (y ≡ r) ⊎ Memᴰ y l → (Memᴰ y l → Stays before (firsts before l)) →
        (Memᴰ y l → Stays (before ++ (r ∷ [])) (firsts (before ++ (r ∷ [])) l)) →
        Stays before (pick b (firsts before l) (r ∷ firsts (before ++ (r ∷ [])) l))
    go true q (inl e) f g = inl (ap (has_reason_of before) e ∙ q)
    go true q (inr n) f g = f n
    go false q (inl e) f g = inr (r, Memᴰ.head refl, ap (λ (x : Row). x.reason) (sym e))
    go false q (inr n) f g = later (g n)

pub all-firsts : (P : Row → Type 0) (before l : List Row) → All P l → All P (firsts before l)
unfolding firsts
all-firsts P before [] h = tt
all-firsts P before (r ∷ l) h = go (has_reason_of before r) (all-firsts P before l h.1) (all-firsts P (before ++ (r ∷ [])) l h.1)
  where
    go : (b : Bool) → All P (firsts before l) → All P (firsts (before ++ (r ∷ [])) l) →
        All P (pick b (firsts before l) (r ∷ firsts (before ++ (r ∷ [])) l))
    go true f g = f
    go false f g = (h.0, g)

pub apart-firsts : (before l : List Row) → Apart l → Apart (firsts before l)
unfolding firsts
apart-firsts before [] h = tt
apart-firsts before (r ∷ l) h =
    go (has_reason_of before r) (apart-firsts before l h.1) (apart-firsts (before ++ (r ∷ [])) l h.1)
    (all-firsts (λ (y : Row). r.place < y.place) (before ++ (r ∷ [])) l h.0)
  where
    go : (b : Bool) → Apart (firsts before l) → Apart (firsts (before ++ (r ∷ [])) l) →
        All (λ (y : Row). r.place < y.place) (firsts (before ++ (r ∷ [])) l) →
        Apart (pick b (firsts before l) (r ∷ firsts (before ++ (r ∷ [])) l))
    go true f g k = f
    go false f g k = (k, g)

above-all : (x : Row) (l : List Row) (y : Row) → All (λ (z : Row). x.place < z.place) l → Memᴰ y l → x.place < y.place
above-all x [] y h m = absurd (Memᴰ.not-nil m)
above-all x (z ∷ l) y h m = elim (Memᴰ.cases_cons m) [
  | inl e ↦ subst (λ (w : Row). x.place < w.place) (sym e) h.0
  | inr n ↦ above-all x l y h.1 n
]

-- at the earliest place
first-place : (before l : List Row) (x y : Row) → Apart l → Memᴰ x (firsts before l) → Memᴰ y l → x.reason ≡ y.reason → x.place ≤ y.place
unfolding firsts
first-place before [] x y h m n e = absurd (Memᴰ.not-nil n)
first-place before (r ∷ l) x y h m n e =
    go (has_reason_of before r) refl m (Memᴰ.cases_cons n) (λ k i. first-place before l x y h.1 k i e) (λ k i. first-place (before ++ (r ∷ [])) l x y h.1 k i e)
  where
    -- a row that stays after this one has another reason
    new : (b : List Row) → Memᴰ x (firsts (b ++ (r ∷ [])) l) → y ≡ r → ⊥
    new b k i = has-this b r x (ap (λ (z : Row). z.reason) (sym i) ∙ sym e) (firsts_new (b ++ (r ∷ [])) l x k)

    go : (b : Bool) → has_reason_of before r ≡ b → Memᴰ x (pick b (firsts before l) (r ∷ firsts (before ++ (r ∷ [])) l)) → (y ≡ r) ⊎ Memᴰ y l →
        (Memᴰ x (firsts before l) → Memᴰ y l → x.place ≤ y.place) → (Memᴰ x (firsts (before ++ (r ∷ [])) l) → Memᴰ y l → x.place ≤ y.place) →
        x.place ≤ y.place
    go true q k (inl i) f g =
        let had : has_reason_of before x ≡ true = has_same before x r (e ∙ ap (λ (z : Row). z.reason) i) ∙ q in
        clash (has_reason_of before x) had (firsts_new before l x k)
    go true q k (inr i) f g = f k i
    go false q k i f g = elim (Memᴰ.cases_cons k) [
      | inl j ↦ elim i [
        | inl t ↦ (let s : x.place ≡ y.place = ap (λ (z : Row). z.place) (j ∙ sym t) in omega (arith, s))
        | inr t ↦ (let s : x.place ≡ r.place = ap (λ (z : Row). z.place) j in let u = above-all r l y h.0 t in omega (arith, s, u))
      ]
      | inr j ↦ elim i [ inl t ↦ absurd (new before j t) | inr t ↦ g j t ]
    ]

-- ---- in order

-- places take two bytes, so ranks differ where places do
rank-absent : (x : Row) (l : List Row) → x.place < 65536 → All (λ (y : Row). x.place < y.place) l → All (λ (y : Row). y.place < 65536) l →
    is_among (rank x) (map rank l) ≡ false
rank-absent x [] h f g = among-none (rank x)
rank-absent x (y ∷ l) h f g =
    among-next (rank x) (rank y) (map rank l)
    ∙ or_none (eqb (rank y) (rank x)) _ (ne_eqb (rank y) (rank x) (λ e. (let a = f.0 in let b = g.0 in omega (arith, a, b, e)))) (rank-absent x l h f.1 g.1)

ranks-once : (l : List Row) → Apart l → All (λ (y : Row). y.place < 65536) l → has_twice (map rank l) ≡ false
unfolding has_twice
ranks-once [] h f = refl
ranks-once (x ∷ l) h f = or_none (is_among (rank x) (map rank l)) _ (rank-absent x l f.0 h.0 f.1) (ranks-once l h.1 f.1)

-- rows that rise by number and place, and no two of one reason at two places
pub record InOrder (rows : List Row) : Type 0 where
  pub rises : rising (map rank rows) ≡ true
  pub alone : (x y : Row) → Memᴰ x rows → Memᴰ y rows → x.reason ≡ y.reason → x.place ≡ y.place
  pub low : (x : Row) → Memᴰ x rows → x.place < 65536

module _ (l : List Row) where
  order : Permᴰ (firsts [] l) (ranked l)
  unfolding ranked
  order = risen-perm rank (firsts [] l)

  stays : (x : Row) → Memᴰ x (ranked l) → Memᴰ x (firsts [] l)
  stays x m = member-perm x (Permᴰ.symm order) m

  pub ranked_member : (x : Row) → Memᴰ x (ranked l) → Memᴰ x l
  ranked_member x m = firsts_member [] l x (stays x m)

  pub ranked_stay : (r : InvalidReason) → Memᴰ r (reasons_in l) → Memᴰ r (reasons_in (ranked l))
  unfolding has_reason_of
  ranked_stay r m =
      let y = Memᴰ.of_map reason_of_row l m in
      elim (firsts_stay [] l y.0 y.1) [
        | inl h ↦ clash false h refl
        | inr s ↦ Memᴰ.cast (sym y.2 ∙ sym s.2) (Memᴰ.map reason_of_row (member-perm s.0 order s.1))
      ]

  pub ranked_reason : (r : InvalidReason) → Memᴰ r (reasons_in (ranked l)) → Memᴰ r (reasons_in l)
  ranked_reason r m =
      let x = Memᴰ.of_map reason_of_row (ranked l) m in
      Memᴰ.cast (sym x.2) (Memᴰ.map reason_of_row (ranked_member x.0 x.1))

  pub ranked_earliest : (x y : Row) → Apart l → Memᴰ x (ranked l) → Memᴰ y l → x.reason ≡ y.reason → x.place ≤ y.place
  ranked_earliest x y h m n e = first-place [] l x y h (stays x m) n e

  pub ranked_in_order : Apart l → All (λ (y : Row). y.place < 65536) l → InOrder (ranked l)
  unfolding ranked
  ranked_in_order h f =
      record {
        rises = risen-rises rank (firsts [] l) (ranks-once (firsts [] l) (apart-firsts [] l h) (all-firsts (λ (y : Row). y.place < 65536) [] l f));
        alone =
            λ x y m n e.
            (let a = ranked_earliest x y h m (ranked_member y n) e in
            let b = ranked_earliest y x h n (ranked_member x m) (sym e) in
            omega (arith, a, b));
        low = λ x m. all-member (λ (y : Row). y.place < 65536) l f x (ranked_member x m);
      }

pub rule-in_order : (m : PointMap) → InOrder (rule_row m)
unfolding rising
rule-in_order m =
    record {
      rises = refl;
      alone = λ x y a b e. ap (λ (z : Row). z.place) (Memᴰ.eq_of_singleton a ∙ sym (Memᴰ.eq_of_singleton b));
      low = λ x a. (let e = ap (λ (z : Row). z.place) (Memᴰ.eq_of_singleton a) in omega (arith, e));
    }

pub none-in_order : InOrder []
unfolding rising
none-in_order = record { rises = refl; alone = λ x y a b e. absurd (Memᴰ.not-nil a); low = λ x a. absurd (Memᴰ.not-nil a) }

-- ---- so no reason stands twice

rises-after : (before : List Row) (l : List Row) → rising (map rank (before ++ l)) ≡ true → rising (map rank l) ≡ true
rises-after [] l h = h
rises-after (x ∷ before) l h = rises-after before l (rising_tail (rank x) (map rank (before ++ l)) h)

module _ (rows before after : List Row) (x y : Row) (o : InOrder rows) (h : rows ≡ before ++ (x ∷ after)) (m : Memᴰ y after) where
  earlier : Memᴰ x rows
  earlier = subst (λ (l : List Row). Memᴰ x l) (sym h) (Memᴰ.append_right before (Memᴰ.head refl))

  later : Memᴰ y rows
  later = subst (λ (l : List Row). Memᴰ y l) (sym h) (Memᴰ.append_right before (Memᴰ.tail m))

  less : rank x < rank y
  less =
      rising-above (rank x) (map rank after) (rank y)
      (rises-after before (x ∷ after) (subst (λ (l : List Row). rising (map rank l) ≡ true) h o.rises))
      (Memᴰ.map rank m)

  pub once_after : x.reason ≡ y.reason → ⊥
  once_after e =
      let p : x.place ≡ y.place = o.alone x y earlier later e in
      let n : invalid_number x.reason ≡ invalid_number y.reason = ap (λ (r : InvalidReason). invalid_number r) e in
      let k = less in
      omega (arith, p, n, k)

  pub order_after : (invalid_number x.reason < invalid_number y.reason) ⊎ ((invalid_number x.reason ≡ invalid_number y.reason) × (x.place < y.place))
  order_after =
      let k = less in
      let p = o.low x earlier in
      let q = o.low y later in
      elim (dec_lt (invalid_number x.reason) (invalid_number y.reason)) [
        | yes n ↦ inl n
        | no n ↦ inr (omega (arith, k, p, q), omega (arith, k, p, q))
      ]

pub only : (rows : List Row) (r : InvalidReason) → InOrder rows → Memᴰ r (reasons_in rows) →
    ((s : InvalidReason) → Memᴰ s (reasons_in rows) → s ≡ r) →
    reasons_in rows ≡ r ∷ []
only [] r o m f = absurd (Memᴰ.not-nil m)
only (x ∷ []) r o m f = ap (λ (s : InvalidReason). s ∷ []) (f x.reason (Memᴰ.head refl))
only (x ∷ y ∷ l) r o m f =
    absurd
    (once_after (x ∷ y ∷ l) [] (y ∷ l) x y o refl (Memᴰ.head refl)
    (f x.reason (Memᴰ.head refl) ∙ sym (f y.reason (Memᴰ.tail (Memᴰ.head refl)))))
