-- Laws of a moved map: it means the same pairs in the other arrangement, and moved back it is the same bytes.
use Prim.Native.Nat.{ℕ, ◌+◌, ◌-◌, ◌*◌, ◌/◌, ◌%◌, ◌≤◌, ◌<◌}
use native.Mathlib.Nat.{zero-add}
use native.Mathlib.Omega.{arith}
use native.Mathlib.Decide.{dec_lt, ℕ_discrete}
use mathlib.Core.Path.{◌≡◌, refl, ap, sym, ◌∙◌}
use mathlib.Core.Bool.{◌&&◌}
use mathlib.Core.List.{List, [], ◌++◌, append-nil}
use lib.ListN.{drop, drop_of_length-le, length, length-append, length-drop, take}
use lib.Seq.{drop_at, drop-drop, take_at, take_all}
use lib.Dec.{eqb}
use borrow.Author.Tests.{lt-ltb, le-ltb, eq-eqb, ne_eqb}
use Rattle.base.specs.Base.{concat, tabulate}
use Rattle.base.proofs.Joined.{tabulate-same, Wide, joined-length, joined-at, cut}
use Rattle.parts.specs.Bytes.{big, bytes_at, big_at, id_at, Bytes}
use Rattle.parts.proofs.Laws.{at_length, at-bytes, rest-bytes}
use Rattle.parts.proofs.AllBytes.{both, joined}
use Rattle.map.specs.declared.Arrangement.{Arrangement}
use Rattle.map.specs.declared.Arrangement.TheVariants.{Pairs, Columns}
use Rattle.map.specs.Rows.{pair_at, pairs_in, peers, rising, is_map}
use Rattle.map.specs.Moved.{other, came_from, moved_block, moved}

-- ---- where a block came from

came-peer : (n i : ℕ) → i < n → came_from Pairs n i ≡ 2 * i
came-peer n i h = rw (lt-ltb i n h) refl

came-digest : (n i : ℕ) → came_from Pairs n (n + i) ≡ 2 * i + 1
came-digest n i =
    let e : n + i - n ≡ i = omega arith in
    rw (le-ltb (n + i) n (omega arith), e) refl

came-even : (n i : ℕ) → came_from Columns n (2 * i) ≡ i
came-even n i =
    let e : 2 * i % 2 ≡ 0 = omega arith in
    rw (eq-eqb (2 * i % 2) 0 e) (omega arith)

came-odd : (n i : ℕ) → came_from Columns n (2 * i + 1) ≡ n + i
came-odd n i = rw (ne_eqb ((2 * i + 1) % 2) 0 (λ e. omega arith)) (omega arith)

-- a block is one of the first half, or one of the second; and it is even or odd
data Half (n k : ℕ) : Type 0 where
  first : k < n → Half n k
  second : (i : ℕ) → i < n → n + i ≡ k → Half n k

half : (n k : ℕ) → k < 2 * n → Half n k
half n k h = elim (dec_lt k n) [ yes l ↦ first l | no l ↦ second (k - n) (omega arith) (omega arith) ]

data Parity (n k : ℕ) : Type 0 where
  even : (i : ℕ) → i < n → 2 * i ≡ k → Parity n k
  odd : (i : ℕ) → i < n → 2 * i + 1 ≡ k → Parity n k

parity : (n k : ℕ) → k < 2 * n → Parity n k
parity n k h = elim (ℕ_discrete (k % 2) 0) [ yes e ↦ even (k / 2) (omega arith) (omega arith) | no d ↦ odd (k / 2) (omega arith) (omega arith) ]

pub came_within : (a : Arrangement) (n k : ℕ) → k < 2 * n → came_from a n k < 2 * n
came_within Pairs n k h = go (half n k h)
  where
    go : Half n k → came_from Pairs n k < 2 * n
    go (first l) = omega (arith, came-peer n k l)
    go (second i l e) = rw (← e) (omega (arith, came-digest n i))
came_within Columns n k h = go (parity n k h)
  where
    go : Parity n k → came_from Columns n k < 2 * n
    go (even i l e) = rw (← e) (omega (arith, came-even n i))
    go (odd i l e) = rw (← e) (omega (arith, came-odd n i))

came-back : (a : Arrangement) (n k : ℕ) → k < 2 * n → came_from a n (came_from (other a) n k) ≡ k
came-back Pairs n k h = go (parity n k h)
  where
    go : Parity n k → came_from Pairs n (came_from Columns n k) ≡ k
    go (even i l e) = rw (← e) (ap (came_from Pairs n) (came-even n i) ∙ came-peer n i l)
    go (odd i l e) = rw (← e) (ap (came_from Pairs n) (came-odd n i) ∙ came-digest n i)
came-back Columns n k h = go (half n k h)
  where
    go : Half n k → came_from Columns n (came_from Pairs n k) ≡ k
    go (first l) = ap (came_from Columns n) (came-peer n k l) ∙ came-even n k
    go (second i l e) = rw (← e) (ap (came_from Columns n) (came-digest n i) ∙ came-odd n i)

-- ---- a moved map

module _ (a : Arrangement) (s : List ℕ) where
  abbrev pub n : ℕ
  n = length s / 64

  whole : 64 * n ≤ length s
  whole = omega arith

  wide : Wide 32 (moved_block a s) (2 * n) 0
  wide i l m = at_length 32 s (32 * came_from a n i) (omega (arith, came_within a n i (omega arith)))

  pub moved-length : length (moved a s) ≡ length s
  unfolding moved
  moved-length =
      omega (
        arith,
        length-append (concat (tabulate (moved_block a s) (2 * n) 0)) (drop (64 * n) s),
        joined-length 32 (moved_block a s) (2 * n) 0 wide,
        length-drop (64 * n) s,
      )

  -- block k is the block that it came from
  pub moved-at : (k : ℕ) → k < 2 * n → bytes_at 32 (moved a s) (32 * k) ≡ moved_block a s k
  unfolding moved
  moved-at k h = joined-at 32 (moved_block a s) k (2 * n) 0 (drop (64 * n) s) h wide ∙ ap (moved_block a s) (zero-add k)

  moved-rest : drop (64 * n) (moved a s) ≡ drop (64 * n) s
  unfolding moved
  moved-rest = drop_at (concat (tabulate (moved_block a s) (2 * n) 0)) (drop (64 * n) s) (64 * n) (omega (arith, joined-length 32 (moved_block a s) (2 * n) 0 wide))

  pub moved-bytes : Bytes s → Bytes (moved a s)
  unfolding moved
  moved-bytes b =
      let blocks = joined (moved_block a s) (2 * n) 0 (λ k. record { bytes = at-bytes 32 s (32 * came_from a n k) b }) in
      (both (concat (tabulate (moved_block a s) (2 * n) 0)) blocks (record { bytes = rest-bytes (64 * n) s b })).bytes

-- what moving gives, by the number of pairs
moved-with : (a : Arrangement) (s : List ℕ) (n : ℕ) → length s / 64 ≡ n →
    moved a s ≡ concat (tabulate (λ k. bytes_at 32 s (32 * came_from a n k)) (2 * n) 0) ++ drop (64 * n) s
unfolding moved
moved-with a s n e = ap (λ m. concat (tabulate (λ k. bytes_at 32 s (32 * came_from a m k)) (2 * m) 0) ++ drop (64 * m) s) e

-- moved back, the bytes are the same
pub moved-back : (a : Arrangement) (s : List ℕ) → moved (other a) (moved a s) ≡ s
moved-back a s =
    let t = moved a s in
    let n = length s / 64 in
    let b = other a in
    let twice : 64 * n ≡ 32 * (0 + 2 * n) = omega arith in
    let same = tabulate-same (λ k. bytes_at 32 t (32 * came_from b n k)) (λ k. bytes_at 32 s (32 * k)) (2 * n) 0
    (λ k l h.
    moved-at a s (came_from b n k) (came_within b n k (omega arith))
    ∙ ap (λ m. bytes_at 32 s (32 * m)) (came-back a n k (omega arith)))
    in
    moved-with b t n (ap (λ m. m / 64) (moved-length a s))
    ∙ (ap (λ l. concat l ++ drop (64 * n) t) same
    ∙ (ap (λ l. concat (tabulate (λ k. bytes_at 32 s (32 * k)) (2 * n) 0) ++ l) (moved-rest a s ∙ ap (λ m. drop m s) twice) ∙ sym (cut 32 s (2 * n) 0)))

id-moved : (a : Arrangement) (s : List ℕ) (k j : ℕ) → k < 2 * (length s / 64) → 32 * came_from a (length s / 64) k ≡ j → id_at (moved a s) (32 * k) ≡ id_at s j
unfolding big_at
id-moved a s k j h e = ap big (moved-at a s k h ∙ ap (bytes_at 32 s) e)

pair-moved : (a : Arrangement) (s : List ℕ) (i : ℕ) → i < length s / 64 → pair_at (other a) (moved a s) i ≡ pair_at a s i
unfolding pair_at
pair-moved Pairs s i h =
    let n = length s / 64 in
    let first = came-peer n i h in
    let second = came-digest n i in
    rw (moved-length Pairs s, id-moved Pairs s i (64 * i) (omega arith) (omega arith), id-moved Pairs s (n + i) (64 * i + 32) (omega arith) (omega arith)) refl
pair-moved Columns s i h =
    let n = length s / 64 in
    let first = came-even n i in
    let second = came-odd n i in
    let here : 64 * i ≡ 32 * (2 * i) = omega arith in
    let beside : 32 * (2 * i) + 32 ≡ 32 * (2 * i + 1) = omega arith in
    rw (here, beside, id-moved Columns s (2 * i) (32 * i) (omega arith) (omega arith), id-moved Columns s (2 * i + 1) (32 * (n + i)) (omega arith) (omega arith)) refl

-- the one fact about bytes: a moved map means the same pairs in the other arrangement
pub moved-means : (a : Arrangement) (s : List ℕ) → pairs_in (other a) (moved a s) ≡ pairs_in a s
unfolding pairs_in
moved-means a s =
    ap (λ m. tabulate (pair_at (other a) (moved a s)) (m / 64) 0) (moved-length a s)
    ∙ tabulate-same (pair_at (other a) (moved a s)) (pair_at a s) (length s / 64) 0 (λ i l h. pair-moved a s i (omega arith))

pub moved-map : (a : Arrangement) (s : List ℕ) → is_map (other a) (moved a s) ≡ is_map a s
unfolding is_map
moved-map a s =
    ap (λ m. eqb (m % 64) 0 && rising (peers (pairs_in (other a) (moved a s)))) (moved-length a s)
    ∙ ap (λ l. eqb (length s % 64) 0 && rising (peers l)) (moved-means a s)

-- two pairs, by the bytes of their peers and digests
pub two-turned : (x d y e : List ℕ) → length x ≡ 32 → length d ≡ 32 → length y ≡ 32 → length e ≡ 32 →
    moved Pairs (x ++ (d ++ (y ++ e))) ≡ x ++ (y ++ (d ++ e))
unfolding concat tabulate
two-turned x d y e lx ld ly le =
    let s = x ++ (d ++ (y ++ e)) in
    let from-d : drop 32 s ≡ d ++ (y ++ e) = drop_at x (d ++ (y ++ e)) 32 lx in
    let from-y : drop 64 s ≡ y ++ e = sym (drop-drop 32 32 s) ∙ (ap (drop 32) from-d ∙ drop_at d (y ++ e) 32 ld) in
    let from-e : drop 96 s ≡ e = sym (drop-drop 32 64 s) ∙ (ap (drop 32) from-y ∙ drop_at y e 32 ly) in
    let none : drop 128 s ≡ [] = drop_of_length-le s {i = 128} (omega (arith, length-append x (d ++ (y ++ e)), length-append d (y ++ e), length-append y e)) in
    let many : length s / 64 ≡ 2 = omega (arith, length-append x (d ++ (y ++ e)), length-append d (y ++ e), length-append y e) in
    moved-with Pairs s 2 many
    ∙ (ap (λ (l : List ℕ). (take 32 s ++ (take 32 (drop 64 s) ++ (take 32 (drop 32 s) ++ (take 32 (drop 96 s) ++ [])))) ++ l) none
    ∙ rw (from-d, from-y, from-e, take_at x (d ++ (y ++ e)) 32 lx, take_at d (y ++ e) 32 ld, take_at y e 32 ly, take_all 32 e (omega arith), append-nil, append-nil) refl)
