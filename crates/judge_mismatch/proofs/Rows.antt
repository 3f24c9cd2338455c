-- Laws of ids, of the rows of a map that have them, and of versions.
use Rattle.std.specs.Prelude.{None, Some}
use Rattle.std.specs.Bool.{then_some}
use Prim.Native.Nat.{ℕ, zero, suc, ◌≤◌, ◌<◌}
use native.Mathlib.Omega.{arith}
use native.Mathlib.Decide.{dec_lt}
use mathlib.Core.Path.{◌≡◌, refl, ap, sym, ◌∙◌}
use mathlib.Core.Bool.{Bool, true, false, not, ◌&&◌, ◌||◌, or-true}
use mathlib.Core.List.{List, [], ◌∷◌}
use lib.ListN.{length, get_or}
use lib.Dec.{eqb}
use borrow.Author.Tests.{eqb-true, eqb-false}
use Rattle.base.specs.Base.{pick}
use Rattle.base.proofs.Bool.{never, clash}
use Rattle.map.specs.Rows.{Pair, rising, find, peers, digests}
use Rattle.map.proofs.Laws.{peers-length, peers-at, digests-at, rising-less, find-some, find_none, find-rising}
use Rattle.point.specs.Point.{PointId, PointInfo, same_id}
use Rattle.point.proofs.Laws.{Readable}
use Rattle.point.proofs.Ids.{same_fields, fields_same}
use Rattle.rules.specs.Mismatch.{has_id, pair_id, is_among}
use Rattle.judge_mismatch.specs.Code.{map_round, map_pairs, maps_in, no_pair, IsRow}

-- ---- tests

pub stood : (a b c : Bool) → b ≡ true → ((a && not b) && c) ≡ false
stood true b c h = rw h
stood false b c h = refl

-- ---- ids

-- whether an id is a dependency of the first maps
unfoldable pub among_to : ℕ → PointInfo → PointId → Bool
among_to zero p i = false
among_to (suc m) p i = is_among (map_round p m) (map_pairs p m) i || among_to m p i

-- the same id in another's place
module _ (a b : PointId) (h : same_id a b ≡ true) where
  same_right : (c : PointId) → same_id c a ≡ same_id c b
  unfolding same_id
  same_right c = let f = same_fields a b h in rw (f.0, f.1, f.2)

  pub has_same : (l : List PointId) → has_id l a ≡ has_id l b
  unfolding has_id
  has_same [] = refl
  has_same (j ∷ l) = rw (same_right j, has_same l)

  among_same : (round : ℕ) (l : List Pair) → is_among round l a ≡ is_among round l b
  unfolding is_among
  among_same round [] = refl
  among_same round (q ∷ l) = rw (same_right (pair_id round q), among_same round l)

  pub among-to-same : (m : ℕ) (p : PointInfo) → among_to m p a ≡ among_to m p b
  unfolding among_to
  among-to-same zero p = refl
  among-to-same (suc m) p = rw (among_same (map_round p m) (map_pairs p m), among-to-same m p)

-- ---- the rows of a map

module _ (round : ℕ) where
  pub among-at : (l : List Pair) (k : ℕ) (i : PointId) → k < length l → same_id (pair_id round (get_or l k no_pair)) i ≡ true → is_among round l i ≡ true
  unfolding is_among
  among-at [] k i h g = absurd (omega arith)
  among-at (q ∷ l) zero i h g = rw g
  among-at (q ∷ l) (suc k) i h g = rw (among-at l k i (omega arith) g) (or-true (same_id (pair_id round q) i))

  pub among_not : (l : List Pair) (k : ℕ) (i : PointId) → k < length l → is_among round l i ≡ false → same_id (pair_id round (get_or l k no_pair)) i ≡ false
  among_not l k i h g = never _ (λ t. clash (is_among round l i) (among-at l k i h t) g)

  among_none : (l : List Pair) (i : PointId) → ((k : ℕ) → k < length l → same_id (pair_id round (get_or l k no_pair)) i ≡ false) → is_among round l i ≡ false
  unfolding is_among
  among_none [] i f = refl
  among_none (q ∷ l) i f = rw (f 0 (omega arith)) (among_none l i (λ k h. f (suc k) (omega arith)))

module _ (round : ℕ) (l : List Pair) (i : PointId) where
  -- an id of another round has no row
  pub row_round : (i.round ≡ round → ⊥) → is_among round l i ≡ false
  row_round d = among_none round l i (λ k h. never _ (λ t. d (sym (same_fields (pair_id round (get_or l k no_pair)) i t).0)))

  peer-of : (k : ℕ) → k < length l → same_id (pair_id round (get_or l k no_pair)) i ≡ true → get_or (peers l) k 0 ≡ i.author
  peer-of k h t = peers-at l k no_pair h ∙ (same_fields (pair_id round (get_or l k no_pair)) i t).2

  -- one whose author has no row
  pub row_nowhere : find (peers l) i.author ≡ None → is_among round l i ≡ false
  row_nowhere e =
      among_none round l i
      (λ k h. never _ (λ t. find_none (peers l) i.author e k (omega (arith, peers-length l)) (peer-of k h t)))

  module _ (n : ℕ) (e : find (peers l) i.author ≡ Some n) where
    pub row_inside : n < length l
    row_inside = omega (arith, (find-some (peers l) i.author n e).inside, peers-length l)

    pub row_here : i.round ≡ round → get_or (digests l) n 0 ≡ i.digest → same_id (pair_id round (get_or l n no_pair)) i ≡ true
    row_here r d =
        fields_same (pair_id round (get_or l n no_pair)) i (sym r) (sym (digests-at l n no_pair row_inside) ∙ d)
        (sym (peers-at l n no_pair row_inside) ∙ (find-some (peers l) i.author n e).here)

    -- one whose author's row has another digest
    pub row_other : rising (peers l) ≡ true → (get_or (digests l) n 0 ≡ i.digest → ⊥) → is_among round l i ≡ false
    row_other r d =
        among_none round l i
        (λ k h. never _
        (λ t. let f = find-rising (peers l) i.author k r (omega (arith, peers-length l)) (peer-of k h t) in
        let same : k ≡ n = cc in
        d (ap (λ (j : ℕ). get_or (digests l) j 0) (sym same)
        ∙ (digests-at l k no_pair h ∙ (same_fields (pair_id round (get_or l k no_pair)) i t).1))))

-- one whose author has a row has that row, or none
pub row_is : (round : ℕ) (l : List Pair) (i : PointId) (n : ℕ) (b : Bool) → find (peers l) i.author ≡ Some n → i.round ≡ round → rising (peers l) ≡ true →
    b ≡ eqb (get_or (digests l) n 0) i.digest → IsRow round l i (then_some b n)
row_is round l i n true e r g d = (row_inside round l i n e, row_here round l i n e r (eqb-true _ _ (sym d)))
row_is round l i n false e r g d = row_other round l i n e g (eqb-false _ _ (sym d))

-- in a rising map an id has one row
pub row_once : (round : ℕ) (l : List Pair) (i : PointId) (j k : ℕ) → rising (peers l) ≡ true → j < length l → k < length l → (j ≡ k → ⊥) →
    same_id (pair_id round (get_or l k no_pair)) i ≡ true → same_id (pair_id round (get_or l j no_pair)) i ≡ false
row_once round l i j k r h g d t =
    never _
    (λ u.
    let a = peer-of round l i j h u in
    let b = peer-of round l i k g t in
    elim (dec_lt j k) [
      | yes f ↦ omega (arith, rising-less (peers l) j k r f (omega (arith, peers-length l)))
      | no f ↦ (let f : k < j = below j k f d in omega (arith, rising-less (peers l) k j r f (omega (arith, peers-length l))))
    ])
  where
    below : (j k : ℕ) → (j < k → ⊥) → (j ≡ k → ⊥) → k < j
    below j k f d = elim (dec_lt k j) [ yes h ↦ h | no h ↦ absurd (d (omega arith)) ]

-- ---- the maps of a point

pub record Maps (p : PointInfo) : Type 0 where
  pub few : (m : ℕ) → length (map_pairs p m) ≤ 255
  pub rise : (m : ℕ) → rising (peers (map_pairs p m)) ≡ true

pub maps_of : (s : List ℕ) (p : PointInfo) → Readable s p → Maps p
maps_of s p r = record { few = few; rise = rise }
  where
    few : (m : ℕ) → length (map_pairs p m) ≤ 255
    few zero = r.includes.few
    few (suc m) = r.witness.few

    rise : (m : ℕ) → rising (peers (map_pairs p m)) ≡ true
    rise zero = r.includes.rise
    rise (suc m) = r.witness.rise

pub maps_few : (presence : ℕ) → maps_in presence ≤ 2
maps_few presence = few (eqb presence 3)
  where
    few : (b : Bool) → pick b 2 1 ≤ 2
    few true = omega arith
    few false = omega arith

pub ruleset row_facts = (row_round, row_nowhere, row_inside, row_here, row_other)
