-- Laws of rows in rising order: the same elements, which rise where no key is there twice; and only one order of them rises.
use Rattle.std.proofs.Common.{Option, None, Some, option_map, is_some, ℕ, zero, suc, ◌+◌, ◌≤◌, ◌<◌, arith, ◌≡◌, refl, ap, sym, ◌∙◌, List, [], ◌∷◌, ◌++◌, map, ◌⊎◌, inl, inr, Bool, true, false, ◌||◌, length, get_or, take, drop, ltb, eqb, lt-ltb, le-ltb, ltb-true, eq-eqb, ne_eqb}
use native.Mathlib.Decide.{dec_lt, ℕ_discrete}
use mathlib.Core.List.{Memᴰ, Permᴰ, map-append}
use mathlib.Core.List.Memᴰ
use mathlib.Core.List.Permᴰ
use Rattle.base.specs.Base.{pick}
use Rattle.base.proofs.Bool.{never, clash, and_left, and_right, and_both, or_left, or_right, or_none, or_swap, or_first, or_second, or_cases}
use Rattle.base.proofs.Option.{unfound}
use Rattle.map.specs.Rows.{rising, find_from, find}
use Rattle.map.specs.Risen.{insert, inserted, risen, is_among, has_twice}
use Rattle.map.proofs.Laws.{Nowhere, find_nowhere, find_none, find-later, Bracket}
use Rattle.map.proofs.Pairs.{rising_tail, rising-above}

-- ---- a number among others

pub among-none : (x : ℕ) → is_among x [] ≡ false
unfolding find find_from
among-none x = refl

pub among-next : (x y : ℕ) (l : List ℕ) → is_among x (y ∷ l) ≡ (eqb y x || is_among x l)
unfolding find find_from
among-next x y l = ap (λ (o : Option ℕ). is_some (pick (eqb y x) (Some 0) o)) (find-later l x 0) ∙ go (eqb y x) (find_from 0 l x)
  where
    go : (b : Bool) (o : Option ℕ) → is_some (pick b (Some 0) (option_map suc o)) ≡ (b || is_some o)
    go true o = refl
    go false None = refl
    go false (Some n) = refl

pub among-append : (x : ℕ) (l m : List ℕ) → is_among x l ≡ true → is_among x (l ++ m) ≡ true
among-append x [] m h = clash (is_among x []) h (among-none x)
among-append x (y ∷ l) m h = among-next x y (l ++ m) ∙ go (eqb y x) (among-append x l m) (sym (among-next x y l) ∙ h)
  where
    go : (b : Bool) → (is_among x l ≡ true → is_among x (l ++ m) ≡ true) → (b || is_among x l) ≡ true → (b || is_among x (l ++ m)) ≡ true
    go true f k = refl
    go false f k = f k

-- the same for every order of the others
pub among-perm : (x : ℕ) {l m : List ℕ} → Permᴰ l m → is_among x l ≡ is_among x m
among-perm x Permᴰ.nil = refl
among-perm x (Permᴰ.cons {a = a} {b = b} {l₁ = l} {l₂ = m} e d) =
    among-next x a l ∙ (ap (λ (y : ℕ). eqb y x || is_among x l) e ∙ (ap (λ (t : Bool). eqb b x || t) (among-perm x d) ∙ sym (among-next x b m)))
among-perm x (Permᴰ.swap {a = a} {b = b} {a' = a'} {b' = b'} {l = l} e g) =
    two a b l
    ∙ (or_swap (eqb a x) (eqb b x) (is_among x l)
    ∙ (ap (λ (y : ℕ). eqb y x || (eqb a x || is_among x l)) g
    ∙ (ap (λ (y : ℕ). eqb a' x || (eqb y x || is_among x l)) e ∙ sym (two a' b' l))))
  where
    two : (y z : ℕ) (l : List ℕ) → is_among x (y ∷ z ∷ l) ≡ (eqb y x || (eqb z x || is_among x l))
    two y z l = among-next x y (z ∷ l) ∙ ap (λ (t : Bool). eqb y x || t) (among-next x z l)
among-perm x (Permᴰ.trans d g) = among-perm x d ∙ among-perm x g

-- ---- a number that is there twice

eqb_sym : (x y : ℕ) → eqb x y ≡ eqb y x
eqb_sym x y = elim (ℕ_discrete x y) [
  | yes e ↦ eq-eqb x y e ∙ sym (eq-eqb y x (sym e))
  | no d ↦ ne_eqb x y d ∙ sym (ne_eqb y x (λ e. d (sym e)))
]

twice-two : (x y : ℕ) (l : List ℕ) → has_twice (x ∷ y ∷ l) ≡ ((eqb y x || is_among x l) || (is_among y l || has_twice l))
unfolding has_twice
twice-two x y l = ap (λ (t : Bool). t || (is_among y l || has_twice l)) (among-next x y l)

or-turned : (e a b t : Bool) → ((e || a) || (b || t)) ≡ ((e || b) || (a || t))
or-turned true a b t = refl
or-turned false a b t = or_swap a b t

pub twice-perm : {l m : List ℕ} → Permᴰ l m → has_twice l ≡ has_twice m
unfolding has_twice
twice-perm Permᴰ.nil = refl
twice-perm (Permᴰ.cons {a = a} {b = b} {l₁ = l} {l₂ = m} e d) =
    ap (λ (x : ℕ). is_among x l || has_twice l) e
    ∙ (ap (λ (t : Bool). t || has_twice l) (among-perm b d) ∙ ap (λ (t : Bool). is_among b m || t) (twice-perm d))
twice-perm (Permᴰ.swap {a = a} {b = b} {a' = a'} {b' = b'} {l = l} e g) =
    twice-two a b l
    ∙ (or-turned (eqb b a) (is_among a l) (is_among b l) (has_twice l)
    ∙ (ap (λ (t : Bool). (t || is_among b l) || (is_among a l || has_twice l)) (eqb_sym b a)
    ∙ (sym (twice-two b a l)
    ∙ (ap (λ (x : ℕ). has_twice (x ∷ a ∷ l)) g ∙ ap (λ (x : ℕ). has_twice (a' ∷ x ∷ l)) e))))
twice-perm (Permᴰ.trans d g) = twice-perm d ∙ twice-perm g

pub twice-append : (l m : List ℕ) → has_twice l ≡ true → has_twice (l ++ m) ≡ true
unfolding has_twice
twice-append [] m h = clash false h refl
twice-append (x ∷ l) m h = elim (or_cases (is_among x l) (has_twice l) h) [
  | inl f ↦ or_first (is_among x (l ++ m)) (has_twice (l ++ m)) (among-append x l m f)
  | inr f ↦ or_second (is_among x (l ++ m)) (has_twice (l ++ m)) (twice-append l m f)
]

-- a number more at the end
pub twice-last : (x : ℕ) (l : List ℕ) → has_twice (l ++ (x ∷ [])) ≡ (is_among x l || has_twice l)
unfolding has_twice
twice-last x l = twice-perm (Permᴰ.trans (Permᴰ.middle x l []) (Permᴰ.cons refl (Permᴰ.append-nil l)))

-- ---- a number that is there twice stands at two places

-- numbers that differ from place to place
abbrev pub Apart : List ℕ → Type 0
Apart l = (i j : ℕ) → i < j → j < length l → get_or l i 0 ≡ get_or l j 0 → ⊥

absent : (x : ℕ) (l : List ℕ) → Nowhere l x → is_among x l ≡ false
absent x l f = ap is_some (find_nowhere l x f)

pub once-apart : (l : List ℕ) → has_twice l ≡ false → Apart l
unfolding has_twice
once-apart [] h i j = λ k g e. omega arith
once-apart (x ∷ l) h zero zero = λ k g e. omega arith
once-apart (x ∷ l) h zero (suc j) = λ k g e. find_none l x (unfound (find l x) (or_left (is_among x l) (has_twice l) h)) j (omega arith) (sym e)
once-apart (x ∷ l) h (suc i) zero = λ k g e. omega arith
once-apart (x ∷ l) h (suc i) (suc j) = λ k g e. once-apart l (or_right (is_among x l) (has_twice l) h) i j (omega arith) (omega arith) e

pub apart_once : (l : List ℕ) → Apart l → has_twice l ≡ false
unfolding has_twice
apart_once [] f = refl
apart_once (x ∷ l) f =
    or_none (is_among x l) (has_twice l) (absent x l (λ k h e. f 0 (suc k) (omega arith) (omega arith) (sym e)))
    (apart_once l (λ i j h g. f (suc i) (suc j) (omega arith) (omega arith)))

-- ---- numbers that rise

-- one that isn't above it is none of those after it
rising-absent : (x : ℕ) (l : List ℕ) (y : ℕ) → rising (x ∷ l) ≡ true → y ≤ x → is_among y l ≡ false
unfolding rising
rising-absent x [] y r h = among-none y
rising-absent x (z ∷ l) y r h =
    let less : x < z = ltb-true x z (and_left (ltb x z) _ r) in
    let rest = rising-absent z l y (and_right (ltb x z) _ r) (omega arith) in
    among-next y z l ∙ or_none (eqb z y) (is_among y l) (ne_eqb z y (λ e. omega arith)) rest

pub rising-once : (l : List ℕ) → rising l ≡ true → has_twice l ≡ false
unfolding has_twice
rising-once [] r = refl
rising-once (x ∷ l) r = or_none (is_among x l) (has_twice l) (rising-absent x l x r (omega arith)) (rising-once l (rising_tail x l r))

-- ---- the elements of a list in another order

module _ {A : Type 0} (x : A) where
  pub member-perm : {l m : List A} → Permᴰ l m → Memᴰ x l → Memᴰ x m
  member-perm Permᴰ.nil h = h
  member-perm (Permᴰ.cons e d) (Memᴰ.head g) = Memᴰ.head (g ∙ e)
  member-perm (Permᴰ.cons e d) (Memᴰ.tail n) = Memᴰ.tail (member-perm d n)
  member-perm (Permᴰ.swap e g) (Memᴰ.head f) = Memᴰ.tail (Memᴰ.head (f ∙ e))
  member-perm (Permᴰ.swap e g) (Memᴰ.tail (Memᴰ.head f)) = Memᴰ.head (f ∙ g)
  member-perm (Permᴰ.swap e g) (Memᴰ.tail (Memᴰ.tail n)) = Memᴰ.tail (Memᴰ.tail n)
  member-perm (Permᴰ.trans d g) h = member-perm g (member-perm d h)

module _ {A : Type 0} (key : A → ℕ) where
  above : (x : A) (l : List A) (y : A) → rising (map key (x ∷ l)) ≡ true → Memᴰ y l → key x < key y
  above x l y r m = rising-above (key x) (map key l) (key y) r (Memᴰ.map key m)

  -- the first of two lists that rise is the same, if each has the other's
  same-first : (x : A) (l : List A) (y : A) (m : List A) → rising (map key (x ∷ l)) ≡ true → rising (map key (y ∷ m)) ≡ true →
      Memᴰ x (y ∷ m) → Memᴰ y (x ∷ l) → x ≡ y
  same-first x l y m r s h g = elim (Memᴰ.cases_cons h) [
    | inl e ↦ e
    | inr n ↦ elim (Memᴰ.cases_cons g) [
      | inl e ↦ sym e
      | inr o ↦ (let a = above y m x s n in let b = above x l y r o in absurd (omega (arith, a, b)))
    ]
  ]

  -- an element after the first of one is after the first of the other
  same-after : (x : A) (l : List A) (y : A) (m : List A) → rising (map key (x ∷ l)) ≡ true → x ≡ y → (z : A) → Memᴰ z l →
      Memᴰ z (y ∷ m) →
      Memᴰ z m
  same-after x l y m r e z n h = elim (Memᴰ.cases_cons h) [
    | inl f ↦ (let a = above x l z r n in let b : key z ≡ key x = ap key (f ∙ sym e) in absurd (omega (arith, a, b)))
    | inr o ↦ o
  ]

  -- lists that rise and have the same elements are equal
  same-members : (l m : List A) → rising (map key l) ≡ true → rising (map key m) ≡ true →
      ((z : A) → Memᴰ z l → Memᴰ z m) →
      ((z : A) → Memᴰ z m → Memᴰ z l) →
      l ≡ m
  same-members [] [] r s f g = refl
  same-members [] (y ∷ m) r s f g = absurd (Memᴰ.not-nil (g y (Memᴰ.head refl)))
  same-members (x ∷ l) [] r s f g = absurd (Memᴰ.not-nil (f x (Memᴰ.head refl)))
  same-members (x ∷ l) (y ∷ m) r s f g =
      let e = same-first x l y m r s (f x (Memᴰ.head refl)) (g y (Memᴰ.head refl)) in
      let rest = same-members l m (rising_tail (key x) (map key l) r) (rising_tail (key y) (map key m) s)
      (λ z n. same-after x l y m r e z n (f z (Memᴰ.tail n)))
      (λ z n. same-after y m x l s (sym e) z n (g z (Memᴰ.tail n)))
      in ap (λ (z : A). z ∷ l) e ∙ ap (λ (k : List A). y ∷ k) rest

  -- a list has one order that rises
  pub same-rising : {l m : List A} → Permᴰ l m → rising (map key l) ≡ true → rising (map key m) ≡ true → l ≡ m
  same-rising {l} {m} d r s = same-members l m r s (λ z n. member-perm z d n) (λ z n. member-perm z (Permᴰ.symm d) n)

  -- ---- the same elements in order

  insert-perm : (q : A) (l : List A) → Permᴰ (q ∷ l) (insert key q l)
  unfolding insert
  insert-perm q [] = Permᴰ.refl (q ∷ [])
  insert-perm q (x ∷ l) = go (ltb (key q) (key x)) (insert-perm q l)
    where
      go : (b : Bool) → Permᴰ (q ∷ l) (insert key q l) → Permᴰ (q ∷ x ∷ l) (pick b (q ∷ x ∷ l) (x ∷ insert key q l))
      go true d = Permᴰ.refl (q ∷ x ∷ l)
      go false d = Permᴰ.trans (Permᴰ.swap refl refl) (Permᴰ.cons refl d)

  insert-before : (q : A) (done l : List A) → Permᴰ (done ++ (q ∷ l)) (insert key q done ++ l)
  insert-before q done l = Permᴰ.trans (Permᴰ.middle q done l) (Permᴰ.append_right l (insert-perm q done))

  pub inserted-perm : (done l : List A) → Permᴰ (done ++ l) (inserted key done l)
  unfolding inserted
  inserted-perm done [] = Permᴰ.append-nil done
  inserted-perm done (q ∷ l) = Permᴰ.trans (insert-before q done l) (inserted-perm (insert key q done) l)

  pub risen-perm : (l : List A) → Permᴰ l (risen key l)
  risen-perm l = inserted-perm [] l

  insert-length : (q : A) (l : List A) → length (insert key q l) ≡ suc (length l)
  unfolding insert
  insert-length q [] = refl
  insert-length q (x ∷ l) = go (ltb (key q) (key x)) (insert-length q l)
    where
      go : (b : Bool) → length (insert key q l) ≡ suc (length l) → length (pick b (q ∷ x ∷ l) (x ∷ insert key q l)) ≡ suc (suc (length l))
      go true e = refl
      go false e = ap suc e

  inserted-length : (done l : List A) → length (inserted key done l) ≡ length done + length l
  unfolding inserted
  inserted-length done [] = omega arith
  inserted-length done (q ∷ l) = omega (arith, inserted-length (insert key q done) l, insert-length q done)

  pub risen-length : (l : List A) → length (risen key l) ≡ length l
  risen-length l = inserted-length [] l ∙ omega arith

  -- ---- they rise where no key is there twice

  -- an element whose key isn't among others stands below the first of them, or above it
  below-or-above : (q y : A) (l : List A) → is_among (key q) (map key (y ∷ l)) ≡ false →
      (key q < key y) ⊎ ((key y < key q) × (is_among (key q) (map key l) ≡ false))
  below-or-above q y l o =
      let other = sym (among-next (key q) (key y) (map key l)) ∙ o in
      let differs : key y ≡ key q → ⊥ = λ e. clash (eqb (key y) (key q)) (eq-eqb (key y) (key q) e) (or_left (eqb (key y) (key q)) _ other) in
      let rest = or_right (eqb (key y) (key q)) _ other in
      elim (dec_lt (key q) (key y)) [
        | yes g ↦ inl g
        | no g ↦ elim (dec_lt (key y) (key q)) [ yes k ↦ inr (k, rest) | no k ↦ absurd (differs (omega arith)) ]
      ]

  insert-after : (x : ℕ) (q : A) (l : List A) → rising (x ∷ map key l) ≡ true → x < key q → is_among (key q) (map key l) ≡ false →
      rising (x ∷ map key (insert key q l)) ≡ true
  unfolding rising insert
  insert-after x q [] r h o = and_both (ltb x (key q)) true (lt-ltb x (key q) h) refl
  insert-after x q (y ∷ l) r h o = elim (below-or-above q y l o) [
    | inl g ↦ (let below = lt-ltb (key q) (key y) g in
        rw below (and_both (ltb x (key q)) _ (lt-ltb x (key q) h) (and_both (ltb (key q) (key y)) _ below (and_right (ltb x (key y)) _ r))))
    | inr g ↦ rw (le-ltb (key q) (key y) (omega (arith, g.0)))
        (and_both (ltb x (key y)) _ (and_left (ltb x (key y)) _ r) (insert-after (key y) q l (and_right (ltb x (key y)) _ r) g.0 g.1))
  ]

  insert-rises : (q : A) (l : List A) → rising (map key l) ≡ true → is_among (key q) (map key l) ≡ false →
      rising (map key (insert key q l)) ≡ true
  unfolding rising insert
  insert-rises q [] r o = refl
  insert-rises q (y ∷ l) r o = elim (below-or-above q y l o) [
    | inl g ↦ rw (lt-ltb (key q) (key y) g) (and_both (ltb (key q) (key y)) _ (lt-ltb (key q) (key y) g) r)
    | inr g ↦ rw (le-ltb (key q) (key y) (omega (arith, g.0))) (insert-after (key y) q l r g.0 g.1)
  ]

  pub twice-keys : {l m : List A} → Permᴰ l m → has_twice (map key l) ≡ has_twice (map key m)
  twice-keys d = twice-perm (Permᴰ.map key d)

  -- where no key is there twice, that of an element isn't among those before it
  not-before : (q : A) (done l : List A) → has_twice (map key (done ++ (q ∷ l))) ≡ false → is_among (key q) (map key done) ≡ false
  unfolding has_twice
  not-before q done l h =
      let first = sym (twice-keys (Permᴰ.middle q done l)) ∙ h in
      let among = ap (is_among (key q)) (sym (map-append key done l)) ∙ or_left (is_among (key q) (map key (done ++ l))) _ first in
      never (is_among (key q) (map key done)) (λ t. clash _ (among-append (key q) (map key done) (map key l) t) among)

  inserted-rises : (done l : List A) → rising (map key done) ≡ true → has_twice (map key (done ++ l)) ≡ false →
      rising (map key (inserted key done l)) ≡ true
  unfolding inserted
  inserted-rises done [] r h = r
  inserted-rises done (q ∷ l) r h =
      inserted-rises
      (insert key q done)
      l
      (insert-rises q done r (not-before q done l h))
      (sym (twice-keys (insert-before q done l)) ∙ h)

  pub risen-rises : (l : List A) → has_twice (map key l) ≡ false → rising (map key (risen key l)) ≡ true
  unfolding rising
  risen-rises l h = inserted-rises [] l refl h

  -- what rises is left alone
  pub risen-alone : (l : List A) → rising (map key l) ≡ true → risen key l ≡ l
  risen-alone l r = sym (same-rising (risen-perm l) r (risen-rises l (rising-once (map key l) r)))

  -- ---- the same for every order of a list

  pub risen-any_order : {l m : List A} → Permᴰ l m → has_twice (map key l) ≡ false → risen key l ≡ risen key m
  risen-any_order {l} {m} d h =
      same-rising
      (Permᴰ.trans (Permᴰ.symm (risen-perm l)) (Permᴰ.trans d (risen-perm m)))
      (risen-rises l h)
      (risen-rises m (sym (twice-keys d) ∙ h))

  -- ---- one element more

  pub inserted-next : (done l : List A) (q : A) → inserted key done (l ++ (q ∷ [])) ≡ insert key q (inserted key done l)
  unfolding inserted
  inserted-next done [] q = refl
  inserted-next done (x ∷ l) q = inserted-next (insert key x done) l q

  pub risen-next : (l : List A) (q : A) → risen key (l ++ (q ∷ [])) ≡ insert key q (risen key l)
  risen-next l q = inserted-next [] l q

  -- its place is where its key is found to belong by halving
  pub insert-at : (l : List A) (q : A) (n : ℕ) → Bracket (map key l) (key q) n n → insert key q l ≡ take n l ++ (q ∷ drop n l)
  unfolding insert
  insert-at [] q zero b = refl
  insert-at [] q (suc n) b = absurd (omega (arith, b.within))
  insert-at (x ∷ l) q zero b = rw (lt-ltb (key q) (key x) (b.more 0 (omega arith) (omega arith))) refl
  insert-at (x ∷ l) q (suc n) b =
      let later : Bracket (map key l) (key q) n n =
      record {
        ordered = omega arith;
        within = omega (arith, b.within);
        less = λ k h. b.less (suc k) (omega arith);
        more = λ k h g. b.more (suc k) (omega arith) (omega arith);
      }
      in rw (le-ltb (key q) (key x) (omega (arith, b.less 0 (omega arith)))) (ap (λ (m : List A). x ∷ m) (insert-at l q n later))

-- ---- the same of what a function makes of the elements

module _ {A B : Type 0} (f : A → B) (key : B → ℕ) where
  insert-map : (q : A) (l : List A) → map f (insert (λ x. key (f x)) q l) ≡ insert key (f q) (map f l)
  unfolding insert
  insert-map q [] = refl
  insert-map q (x ∷ l) = go (ltb (key (f q)) (key (f x))) (insert-map q l)
    where
      go : (b : Bool) → map f (insert (λ x. key (f x)) q l) ≡ insert key (f q) (map f l) →
          map f (pick b (q ∷ x ∷ l) (x ∷ insert (λ x. key (f x)) q l)) ≡ pick b (f q ∷ f x ∷ map f l) (f x ∷ insert key (f q) (map f l))
      go true e = refl
      go false e = ap (λ (m : List B). f x ∷ m) e

  pub inserted-map : (done l : List A) → map f (inserted (λ x. key (f x)) done l) ≡ inserted key (map f done) (map f l)
  unfolding inserted
  inserted-map done [] = refl
  inserted-map done (q ∷ l) = inserted-map (insert (λ x. key (f x)) q done) l ∙ ap (λ (m : List B). inserted key m (map f l)) (insert-map q done)

  pub risen-map : (l : List A) → map f (risen (λ x. key (f x)) l) ≡ risen key (map f l)
  risen-map l = inserted-map [] l
