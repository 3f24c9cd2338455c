-- Laws of rows: their number and places, what rising peers give, and the position of a peer by halving.
use Rattle.std.proofs.Common.{Option, None, Some, option_map, is_some, ℕ, zero, suc, ◌+◌, ◌-◌, ◌*◌, ◌/◌, ◌%◌, ◌≤◌, ◌<◌, add-suc, add-zero, zero-add, mul-le-mul_left, mul_comm, div-le_self, arith, ◌≡◌, refl, ap, sym, ◌∙◌, List, [], ◌∷◌, ◌⊎◌, inl, inr, ⊎_elim, Bool, true, false, ◌&&◌, length, get_or, drop, length-drop, drop-cons, ltb, eqb, ltb-true, eqb-true, eq-eqb, ne_eqb, add-one, is_lt, lt-ltb}
use Rattle.std.proofs.Math.Nat.{mul-div-le, div-add-mod}
use Rattle.std.proofs.Math.Bool.{and-eq-true_iff}
use Rattle.std.proofs.lemmas.Bool.Decides.{nat_tests}
use Rattle.std.specs.List.{list_all, range_with_len}
use native.Mathlib.Decide.{dec_lt, ℕ_discrete}
use Rattle.parts.specs.Bytes.{id_at}
use Rattle.parts.specs.Parts.{order, order_then}
use Rattle.base.specs.Base.{pick, tabulate}
use Rattle.base.proofs.Bool.{and_left, and_right, and_both}
use Rattle.base.proofs.Lists.{tabulate-length, tabulate-at}
use Rattle.base.proofs.Impossible.{impossible}
use Rattle.map.specs.declared.Arrangement.{Arrangement}
use Rattle.map.specs.declared.Arrangement.TheVariants.{Pairs, Columns}
use Rattle.map.specs.Rows.{Pair, pair_at, pairs_in, pairs_of, peer_at, peers_of, rising, well_rowed, find_from, find, peers, digests, get, is_map}

-- ---- rows of any width

module _ (width : ℕ) (s : List ℕ) where
  pub peers_of-length : length (peers_of width s) ≡ length s / width
  unfolding peers_of
  peers_of-length = tabulate-length (peer_at s) (length s / width) 0

  pub peers_of-fits : length (peers_of width s) ≤ length s
  peers_of-fits = omega (arith, peers_of-length, div-le_self (length s) width)

  pub peers_of-at : (i : ℕ) → i < length (peers_of width s) → get_or (peers_of width s) i 0 ≡ peer_at s i
  unfolding peers_of
  peers_of-at i h = tabulate-at (peer_at s) (length s / width) 0 i 0 (rw peers_of-length at h) ∙ ap (peer_at s) (omega arith)

  -- the peers are within the bytes, whatever else a row has
  pub peers_room : 32 ≤ width → 32 * length (peers_of width s) ≤ length s
  peers_room w =
      let narrow = mul-le-mul_left {m = 32} {n = width} (length s / width) w in
      omega (arith, peers_of-length, mul-div-le (length s) width, mul_comm (length s / width) width, mul_comm (length s / width) 32)

-- ---- pairs

pub peers-tabulate : (f : ℕ → Pair) (n i : ℕ) → peers (tabulate f n i) ≡ tabulate (λ k. (f k).peer) n i
unfolding peers tabulate
peers-tabulate f zero i = refl
peers-tabulate f (suc n) i = ap (λ (l : List ℕ). (f i).peer ∷ l) (peers-tabulate f n (suc i))

pub digests-tabulate : (f : ℕ → Pair) (n i : ℕ) → digests (tabulate f n i) ≡ tabulate (λ k. (f k).digest) n i
unfolding digests tabulate
digests-tabulate f zero i = refl
digests-tabulate f (suc n) i = ap (λ (l : List ℕ). (f i).digest ∷ l) (digests-tabulate f n (suc i))

module _ (a : Arrangement) (s : List ℕ) where
  pub pairs_in-length : length (pairs_in a s) ≡ length s / 64
  unfolding pairs_in
  pairs_in-length = tabulate-length (pair_at a s) (length s / 64) 0

  pub pairs_in-at : (i : ℕ) (d : Pair) → i < length (pairs_in a s) → get_or (pairs_in a s) i d ≡ pair_at a s i
  unfolding pairs_in
  pairs_in-at i d h = tabulate-at (pair_at a s) (length s / 64) 0 i d (rw pairs_in-length at h) ∙ ap (pair_at a s) (omega arith)

module _ (s : List ℕ) where
  pub pairs_of-length : length (pairs_of s) ≡ length s / 64
  pairs_of-length = pairs_in-length Columns s

  -- the digests come after the peers, within the bytes
  pub digest-room : (i : ℕ) → i < length (pairs_of s) → 32 * (length s / 64 + i) + 32 ≤ length s
  digest-room i h = omega (arith, pairs_of-length, mul-div-le (length s) 64)

  -- the peers of a map are those of its rows
  pub peers-pairs_of : peers (pairs_of s) ≡ peers_of 64 s
  unfolding pairs_in peers_of pair_at peer_at
  peers-pairs_of = peers-tabulate (pair_at Columns s) (length s / 64) 0

  pub is_map_rows : is_map Columns s ≡ well_rowed 64 s
  unfolding is_map well_rowed
  is_map_rows = ap (λ (l : List ℕ). eqb (length s % 64) 0 && rising l) peers-pairs_of

pub peers-length : (l : List Pair) → length (peers l) ≡ length l
unfolding peers
peers-length [] = refl
peers-length (q ∷ l) = ap suc (peers-length l)

pub digests-length : (l : List Pair) → length (digests l) ≡ length l
unfolding digests
digests-length [] = refl
digests-length (q ∷ l) = ap suc (digests-length l)

pub peers-at : (l : List Pair) (i : ℕ) (d : Pair) → i < length l → get_or (peers l) i 0 ≡ (get_or l i d).peer
unfolding peers
peers-at [] i d h = absurd (omega arith)
peers-at (q ∷ l) zero d h = refl
peers-at (q ∷ l) (suc i) d h = peers-at l i d (omega arith)

pub digests-at : (l : List Pair) (i : ℕ) (d : Pair) → i < length l → get_or (digests l) i 0 ≡ (get_or l i d).digest
unfolding digests
digests-at [] i d h = absurd (omega arith)
digests-at (q ∷ l) zero d h = refl
digests-at (q ∷ l) (suc i) d h = digests-at l i d (omega arith)

-- ---- rising

pub rising_step : (l : List ℕ) (j : ℕ) → suc j < length l → rising (drop j l) ≡ (ltb (get_or l j 0) (get_or l (suc j) 0) && rising (drop (suc j) l))
unfolding rising
rising_step l j h = rw (drop-cons l j 0 (omega arith), drop-cons l (suc j) 0 h)

short : (l : List ℕ) → length l ≤ 1 → rising l ≡ true
unfolding rising
short [] h = refl
short (x ∷ []) h = refl
short (x ∷ y ∷ l) h = absurd (omega arith)

pub rising-end : (l : List ℕ) (j : ℕ) → length l ≤ suc j → rising (drop j l) ≡ true
rising-end l j h = short (drop j l) (omega (arith, length-drop j l))

-- a peer more, above the last
one_above : (f : ℕ → ℕ) (n i : ℕ) → rising (tabulate f (suc n) i) ≡ true → f (i + n) < f (suc (i + n)) →
    rising (tabulate f (suc (suc n)) i) ≡ true
unfolding rising tabulate
one_above f zero i r h =
    let e : i + 0 ≡ i = omega arith in
    and_both (ltb (f i) (f (suc i))) true (lt-ltb (f i) (f (suc i)) (rw e at h)) refl
one_above f (suc n) i r h =
    let e : i + suc n ≡ suc i + n = omega arith in
    let first = and_left (ltb (f i) (f (suc i))) _ r in
    let rest = and_right (ltb (f i) (f (suc i))) _ r in
    and_both (ltb (f i) (f (suc i))) _ first (one_above f n (suc i) rest (rw e at h))

pub rising-next : (f : ℕ → ℕ) (n : ℕ) → 1 ≤ n → rising (tabulate f n 0) ≡ true → f (n - 1) < f n → rising (tabulate f (n + 1) 0) ≡ true
rising-next f zero l r h = absurd (omega arith)
rising-next f (suc n) l r h =
    let before : suc n - 1 ≡ n = omega arith in
    let less : f n < f (suc n) = rw before at h in
    rw add-one (one_above f n 0 r (rw zero-add less))

-- whether the peer at a position stands below the one before it, where f says which peer that is
abbrev pub rises_at : (ℕ → ℕ) → ℕ → Bool
rises_at f j = is_lt (order (f (j - 1)) (f j))

pub is_lt-order : (m n : ℕ) → is_lt (order m n) ≡ ltb m n
unfolding order order_then
is_lt-order m n = grind (arith, nat_tests)

module _ (f : ℕ → ℕ) (l : List ℕ) (same : (i : ℕ) → i < length l → get_or l i 0 ≡ f i) where
  rises_from : (j n : ℕ) → n ≡ length l - suc j → list_all (rises_at f) (range_with_len (suc j) n) ≡ rising (drop j l)
  rises_from j zero e = sym (rising-end l j (omega arith))
  rises_from j (suc n) e =
      let before : suc j - 1 ≡ j = omega arith in
      rw (
        rising_step l j (omega arith),
        same j (omega arith),
        same (suc j) (omega arith),
        ← rises_from (suc j) n (omega arith),
        ← is_lt-order (f j) (f (suc j)),
        add-one,
        before,
      )

  -- peers rise if each stands below the one before it
  pub rises : (n : ℕ) → n ≡ length l - 1 → list_all (rises_at f) (range_with_len 1 n) ≡ rising l
  rises n e = rises_from 0 n e

-- the peers of a map in pairs
module _ (s : List ℕ) where
  pub pair_peers-length : length (peers (pairs_in Pairs s)) ≡ length s / 64
  pair_peers-length = peers-length (pairs_in Pairs s) ∙ pairs_in-length Pairs s

  pub pair_peers-at : (i : ℕ) → i < length (peers (pairs_in Pairs s)) → get_or (peers (pairs_in Pairs s)) i 0 ≡ id_at s (64 * i)
  unfolding pair_at
  pair_peers-at i h =
      let inside : i < length (pairs_in Pairs s) = omega (arith, peers-length (pairs_in Pairs s)) in
      let none = pair_at Pairs s 0 in
      peers-at (pairs_in Pairs s) i none inside ∙ ap (λ (q : Pair). q.peer) (pairs_in-at Pairs s i none inside)

-- neighbours rise
next-rises : (l : List ℕ) (j : ℕ) → rising l ≡ true → suc j < length l → get_or l j 0 < get_or l (suc j) 0
unfolding rising
next-rises [] j r h = absurd (omega arith)
next-rises (x ∷ []) j r h = absurd (omega arith)
next-rises (x ∷ y ∷ l) zero r h = ltb-true x y ((and-eq-true_iff (ltb x y) _).0 r).0
next-rises (x ∷ y ∷ l) (suc j) r h = next-rises (y ∷ l) j ((and-eq-true_iff (ltb x y) _).0 r).1 (omega arith)

later-rises : (l : List ℕ) (i n : ℕ) → rising l ≡ true → i + suc n < length l → get_or l i 0 < get_or l (i + suc n) 0
later-rises l i zero r h = rw (add-suc, add-zero) (next-rises l i r (omega arith))
later-rises l i (suc n) r h =
    let first = later-rises l i n r (omega arith) in
    let then : get_or l (i + suc n) 0 < get_or l (i + suc (suc n)) 0 = rw (add-suc i (suc n)) (next-rises l (i + suc n) r (omega arith)) in
    omega arith

pub rising-less : (l : List ℕ) (i j : ℕ) → rising l ≡ true → i < j → j < length l → get_or l i 0 < get_or l j 0
rising-less l i j r h g =
    let e : i + suc (j - suc i) ≡ j = omega arith in
    rw e at (later-rises l i (j - suc i) r (omega arith))

module _ (width : ℕ) (s : List ℕ) (h : well_rowed width s ≡ true) where
  pub well_rowed-rising : rising (peers_of width s) ≡ true
  unfolding well_rowed
  well_rowed-rising = ((and-eq-true_iff (eqb (length s % width) 0) _).0 h).1

  pub well_rowed-whole : width * length (peers_of width s) ≡ length s
  unfolding well_rowed
  well_rowed-whole =
      rw (peers_of-length width s)
      (let e : length s % width ≡ 0 = eqb-true _ _ ((and-eq-true_iff (eqb (length s % width) 0) _).0 h).0 in omega (arith, div-add-mod (length s) width))

-- ---- the position of a peer

-- the first position of a peer
pub record First (l : List ℕ) (x n : ℕ) : Type 0 where
  pub inside : n < length l
  pub here : get_or l n 0 ≡ x
  pub before : (k : ℕ) → k < n → get_or l k 0 ≡ x → ⊥

-- a peer that stands nowhere
abbrev pub Nowhere : List ℕ → ℕ → Type 0
Nowhere l x = (k : ℕ) → k < length l → get_or l k 0 ≡ x → ⊥

first_next : (y : ℕ) (l : List ℕ) (x n : ℕ) → (y ≡ x → ⊥) → First l x n → First (y ∷ l) x (suc n)
first_next y l x n d f = record { inside = omega (arith, f.inside); here = f.here; before = before-next }
  where
    before-next : (k : ℕ) → k < suc n → get_or (y ∷ l) k 0 ≡ x → ⊥
    before-next zero h = d
    before-next (suc k) h = f.before k (omega arith)

nowhere_next : (y : ℕ) (l : List ℕ) (x : ℕ) → (y ≡ x → ⊥) → Nowhere l x → Nowhere (y ∷ l) x
nowhere_next y l x d b zero h = d
nowhere_next y l x d b (suc k) h = b k (omega arith)

-- each peer has a first position or none
place : (l : List ℕ) (x : ℕ) → ((n : ℕ) × First l x n) ⊎ Nowhere l x
place [] x = inr (λ k h e. omega arith)
place (y ∷ l) x = elim (ℕ_discrete y x) [
  | yes e ↦ inl (0, record { inside = omega arith; here = e; before = λ k h. absurd (omega arith) })
  | no d ↦ ⊎_elim (λ f. inl (suc f.0, first_next y l x f.0 d f.1)) (λ b. inr (nowhere_next y l x d b)) (place l x)
]

from_first : (l : List ℕ) (x n i : ℕ) → First l x n → find_from i l x ≡ Some (i + n)
unfolding find_from
from_first [] x n i f = absurd (omega (arith, f.inside))
from_first (y ∷ l) x zero i f = rw (eq-eqb y x f.here, add-zero i)
from_first (y ∷ l) x (suc n) i f =
    rw (ne_eqb y x (f.before 0 (omega arith)))
    (from_first l x n (suc i) (record { inside = omega (arith, f.inside); here = f.here; before = λ k g. f.before (suc k) (omega arith) }) ∙ ap Some (omega arith))

from_nowhere : (l : List ℕ) (x i : ℕ) → Nowhere l x → find_from i l x ≡ None
unfolding find_from
from_nowhere [] x i b = refl
from_nowhere (y ∷ l) x i b = rw (ne_eqb y x (b 0 (omega arith))) (from_nowhere l x (suc i) (λ k g. b (suc k) (omega arith)))

module _ (l : List ℕ) (x : ℕ) where
  pub find_first : (n : ℕ) → First l x n → find l x ≡ Some n
  unfolding find
  find_first n f = from_first l x n 0 f ∙ ap Some (omega arith)

  pub find_nowhere : Nowhere l x → find l x ≡ None
  unfolding find
  find_nowhere b = from_nowhere l x 0 b

  pub find-some : (n : ℕ) → find l x ≡ Some n → First l x n
  find-some n e = ⊎_elim
      (λ f. let q = find_first f.0 f.1 in let g : f.0 ≡ n = cc in rw g at f.1)
      (λ b. let q = find_nowhere b in impossible (cc))
      (place l x)

  pub find_none : find l x ≡ None → Nowhere l x
  find_none e = ⊎_elim
      (λ f. let q = find_first f.0 f.1 in impossible (cc))
      (λ b. b)
      (place l x)

-- in a rising list a peer has one position
pub find-rising : (l : List ℕ) (x n : ℕ) → rising l ≡ true → n < length l → get_or l n 0 ≡ x → find l x ≡ Some n
find-rising l x n r h e =
    find_first l x n (record { inside = h; here = e; before = λ k g f. omega (arith, rising-less l k n r g h) })

-- ---- the digest beside a peer

pub find-later : (l : List ℕ) (x i : ℕ) → find_from (suc i) l x ≡ option_map suc (find_from i l x)
unfolding find_from
find-later [] x i = refl
find-later (y ∷ l) x i = go (eqb y x) (find-later l x (suc i))
  where
    go : (b : Bool) → find_from (suc (suc i)) l x ≡ option_map suc (find_from (suc i) l x) →
        pick b (Some (suc i)) (find_from (suc (suc i)) l x) ≡ option_map suc (pick b (Some i) (find_from (suc i) l x))
    go true h = refl
    go false h = h

pub get-empty : (x : ℕ) → get [] x ≡ None
unfolding get find find_from peers
get-empty x = refl

-- row by row
pub get-next : (q : Pair) (l : List Pair) (x : ℕ) → get (q ∷ l) x ≡ pick (eqb q.peer x) (Some q.digest) (get l x)
unfolding get find find_from peers digests
get-next q l x = go (eqb q.peer x)
  where
    later : (o : Option ℕ) → option_map (λ n. get_or (q.digest ∷ digests l) n 0) (option_map suc o) ≡ option_map (λ n. get_or (digests l) n 0) o
    later None = refl
    later (Some n) = refl

    go : (b : Bool) →
        option_map (λ n. get_or (q.digest ∷ digests l) n 0) (pick b (Some 0) (find_from 1 (peers l) x))
        ≡ pick b (Some q.digest) (option_map (λ n. get_or (digests l) n 0) (find_from 0 (peers l) x))
    go true = refl
    go false = ap (option_map (λ n. get_or (q.digest ∷ digests l) n 0)) (find-later (peers l) x 0) ∙ later (find_from 0 (peers l) x)

module _ (l : List Pair) (x : ℕ) where
  -- a peer has a position in a map exactly if a digest stands beside it
  pub find-get : is_some (find (peers l) x) ≡ is_some (get l x)
  unfolding get
  find-get = go (find (peers l) x)
    where
      go : (o : Option ℕ) → is_some o ≡ is_some (option_map (λ n. get_or (digests l) n 0) o)
      go None = refl
      go (Some n) = refl

-- the digest beside a peer, from the peer's position among the rows
pub get-rows : (s : List ℕ) (x : ℕ) → get (pairs_of s) x ≡ option_map (λ n. get_or (digests (pairs_of s)) n 0) (find (peers_of 64 s) x)
unfolding get
get-rows s x = rw (peers-pairs_of s)

-- ---- halving: what is known of a rising list while a peer is looked for between lo and hi

pub record Bracket (l : List ℕ) (x lo hi : ℕ) : Type 0 where
  pub ordered : lo ≤ hi
  pub within : hi ≤ length l
  pub less : (k : ℕ) → k < lo → get_or l k 0 < x
  pub more : (k : ℕ) → hi ≤ k → k < length l → x < get_or l k 0

module _ (l : List ℕ) (x lo hi mid : ℕ) (r : rising l ≡ true) (b : Bracket l x lo hi) (from : lo ≤ mid) (to : mid < hi) where
  pub bracket_up : (next : ℕ) → next ≤ mid + 1 → get_or l mid 0 < x → Bracket l x next hi
  bracket_up next h e = record {
    ordered = omega arith;
    within = b.within;
    more = b.more;
    less = λ k g. elim (dec_lt k mid) [
      | yes f ↦ omega (arith, rising-less l k mid r f (omega arith))
      | no f ↦ (let q : k ≡ mid = omega arith in rw q e)
    ];
  }

  pub bracket_down : x < get_or l mid 0 → Bracket l x lo mid
  bracket_down e = record {
    ordered = from;
    within = omega arith;
    less = b.less;
    more = λ k h g. elim (dec_lt mid k) [
      | yes f ↦ omega (arith, rising-less l mid k r f g)
      | no f ↦ (let q : k ≡ mid = omega arith in rw q e)
    ];
  }

pub bracket_none : (l : List ℕ) (x lo hi : ℕ) → hi ≤ lo → Bracket l x lo hi → find l x ≡ None
bracket_none l x lo hi h b =
    find_nowhere l x (λ k g e. elim (dec_lt k lo) [ yes f ↦ omega (arith, b.less k f) | no f ↦ omega (arith, b.more k (omega (arith, b.ordered)) g) ])
