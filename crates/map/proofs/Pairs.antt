-- Laws of the pairs of a map: a rising map, and what a peer gets.
use Rattle.std.proofs.Common.{Some, is_some, ℕ, ◌<◌, arith, ◌≡◌, refl, sym, ap, ◌∙◌, ◌⊎◌, inl, inr, Bool, true, false, List, [], ◌∷◌, ltb, eqb, ltb-true, eqb-true, eq-eqb, ne_eqb}
use mathlib.Core.List.{Memᴰ, map, map-id}
use Rattle.base.specs.Base.{pick}
use Rattle.base.proofs.Bool.{clash, and_left, and_right}
use Rattle.base.proofs.Option.{none-some}
use Rattle.map.specs.Rows.{Pair, rising, peers, get}
use Rattle.map.specs.Risen.{peer_of, itself}
use Rattle.map.proofs.Laws.{get-empty, get-next}
use mathlib.Core.List.Memᴰ

pub rising_tail : (x : ℕ) (l : List ℕ) → rising (x ∷ l) ≡ true → rising l ≡ true
unfolding rising
rising_tail x [] r = refl
rising_tail x (y ∷ l) r = and_right (ltb x y) _ r

-- the peers of pairs are their keys, and a peer's key is itself

pub keys-peers : (l : List Pair) → map peer_of l ≡ peers l
unfolding peers
keys-peers [] = refl
keys-peers (q ∷ l) = ap (λ (m : List ℕ). q.peer ∷ m) (keys-peers l)

pub keys-themselves : (l : List ℕ) → map itself l ≡ l
keys-themselves l = map-id l

-- a peer stands below those after it
pub rising-above : (x : ℕ) (l : List ℕ) (y : ℕ) → rising (x ∷ l) ≡ true → Memᴰ y l → x < y
unfolding rising
rising-above x [] y r m = absurd (Memᴰ.not-nil m)
rising-above x (z ∷ l) y r m = go (rising-above z l y (and_right (ltb x z) _ r)) (Memᴰ.cases_cons m)
  where
    less : x < z
    less = ltb-true x z (and_left (ltb x z) _ r)

    go : (Memᴰ y l → z < y) → (y ≡ z) ⊎ Memᴰ y l → x < y
    go rec (inl e) = rw e less
    go rec (inr n) = let h = rec n in omega (arith, less)

pub rising-below : (x : ℕ) (l : List Pair) (q : Pair) → rising (x ∷ peers l) ≡ true → Memᴰ q l → x < q.peer
rising-below x l q r m = rising-above x (map peer_of l) q.peer (ap (λ (k : List ℕ). rising (x ∷ k)) (keys-peers l) ∙ r) (Memᴰ.map peer_of m)

-- a peer of a map is found there
pub get-there : (l : List Pair) (q : Pair) → Memᴰ q l → is_some (get l q.peer) ≡ true
get-there [] q m = absurd (Memᴰ.not-nil m)
get-there (x ∷ l) q m = rw (get-next x l q.peer) (go (eqb x.peer q.peer) refl (get-there l q) (Memᴰ.cases_cons m))
  where
    go : (t : Bool) → eqb x.peer q.peer ≡ t → (Memᴰ q l → is_some (get l q.peer) ≡ true) → (q ≡ x) ⊎ Memᴰ q l →
        is_some (pick t (Some x.digest) (get l q.peer)) ≡ true
    go true h rec w = refl
    go false h rec (inl e) = clash (eqb x.peer q.peer) (eq-eqb x.peer q.peer (ap (λ (z : Pair). z.peer) (sym e))) h
    go false h rec (inr n) = rec n

-- a pair of a rising map is what its peer gets
pub member-get : (l : List Pair) (q : Pair) → rising (peers l) ≡ true → Memᴰ q l → get l q.peer ≡ Some q.digest
unfolding peers
member-get [] q r m = absurd (Memᴰ.not-nil m)
member-get (y ∷ l) q r m = rw (get-next y l q.peer) (go (member-get l q (rising_tail y.peer (peers l) r)) (Memᴰ.cases_cons m))
  where
    go : (Memᴰ q l → get l q.peer ≡ Some q.digest) → (q ≡ y) ⊎ Memᴰ q l →
        pick (eqb y.peer q.peer) (Some y.digest) (get l q.peer) ≡ Some q.digest
    go f (inl e) = rw (eq-eqb y.peer q.peer (ap (λ (z : Pair). z.peer) (sym e))) (ap (λ (z : Pair). Some z.digest) (sym e))
    go f (inr n) =
        let h : y.peer < q.peer = rising-below y.peer l q r n in
        rw (ne_eqb y.peer q.peer (λ e. omega arith)) (f n)

-- what a peer gets is a pair of the map
pub get-member : (l : List Pair) (x d : ℕ) → get l x ≡ Some d → Memᴰ (record { peer = x; digest = d }) l
get-member [] x d h = none-some (sym (get-empty x) ∙ h)
get-member (q ∷ l) x d h = go (eqb q.peer x) refl (get-member l x d) (sym (get-next q l x) ∙ h)
  where
    go : (b : Bool) → eqb q.peer x ≡ b → (get l x ≡ Some d → Memᴰ (record { peer = x; digest = d }) l) →
        pick b (Some q.digest) (get l x) ≡ Some d →
        Memᴰ (record { peer = x; digest = d }) (q ∷ l)
    go true e f k =
        let p : q.peer ≡ x = eqb-true _ _ e in
        let s : q.digest ≡ d = cc in
        Memᴰ.head (λ i. record { peer = sym p i; digest = sym s i })
    go false e f k = Memᴰ.tail (f k)
