-- Laws of the rows of a draft: how many there are, a peer that is there twice, and their orders.
use Rattle.std.specs.Prelude.{Some}
use Prim.Native.Nat.{ℕ, ◌+◌, ◌*◌, ◌/◌, ◌%◌, ◌≤◌, ◌<◌}
use native.Mathlib.Nat.{zero-add}
use native.Mathlib.Omega.{arith}
use mathlib.Core.Path.{◌≡◌, ap, sym, ◌∙◌, subst}
use mathlib.Core.Bool.{Bool, true, ◌||◌}
use mathlib.Core.List.{List, ◌∷◌, ◌++◌, Memᴰ}
use mathlib.Core.List.Permᴰ
use lib.ListN.{length, get_or, take, length-append, length-take}
use lib.Seq.{take_all, length-take-le, get_or-take}
use Rattle.std.proofs.lemmas.Bool.Decides.{nat_tests}
use Rattle.base.specs.Base.{tabulate}
use Rattle.base.proofs.Bool.{and_left, and_right, or_first, or_second}
use Rattle.base.proofs.Lists.{member-at, tabulate-length, tabulate-each}
use Rattle.parts.specs.Bytes.{bytes_at, little_bytes, put_at}
use Rattle.parts.proofs.Laws.{at_split}
use Rattle.map.specs.Rows.{peer_at, peers_of}
use Rattle.map.specs.Risen.{itself, has_twice}
use Rattle.map.proofs.Risen.{member-perm, risen-perm, risen-length}
use Rattle.record.specs.Fields.{field_bytes}
use Rattle.row_order.specs.Order.{OrderOf}
use Rattle.compose.specs.Draft.{Draft, are_rows, are_maps}
use Rattle.compose.specs.Code.{blocks, InOrder, map_by, set_by}
use Rattle.compose.proofs.Fields.{front-inside, blocks-length, blocks_in_order, put_content, put_parts}

module _ (width : ℕ) (s : List ℕ) (h : are_rows width s ≡ true) where
  pub rows_whole : length s % width ≡ 0
  rows_whole = grind (arith, nat_tests)

  pub rows_few : length s / width ≤ 255
  rows_few = grind (arith, nat_tests)

-- the maps of a draft are rows
pub record Maps (d : Draft) : Type 0 where
  pub includes : are_rows 64 d.includes ≡ true
  pub witness : are_rows 64 d.witness ≡ true
  pub evidence : are_rows 32 d.evidence ≡ true

pub are_rows_lem : (d : Draft) → are_maps d ≡ true → Maps d
are_rows_lem d h =
    let later = and_right (are_rows 64 d.includes) _ h in
    record {
      includes = and_left (are_rows 64 d.includes) _ h;
      witness = and_left (are_rows 64 d.witness) _ later;
      evidence = and_right (are_rows 64 d.witness) _ later;
    }

-- ---- a peer that is there twice

module _ (width : ℕ) (s : List ℕ) (h : has_twice (tabulate (peer_at s) (length s / width) 0) ≡ true) where
  twice-rows : has_twice (peers_of width s) ≡ true
  unfolding peers_of
  twice-rows = h

  pub twice_first : (b c : Bool) → (has_twice (peers_of width s) || (b || c)) ≡ true
  twice_first b c = or_first (has_twice (peers_of width s)) (b || c) twice-rows

  pub twice_second : (a c : Bool) → (a || (has_twice (peers_of width s) || c)) ≡ true
  twice_second a c = or_second a (has_twice (peers_of width s) || c) (or_first (has_twice (peers_of width s)) c twice-rows)

  pub twice_third : (a b : Bool) → (a || (b || has_twice (peers_of width s))) ≡ true
  twice_third a b = or_second a (b || has_twice (peers_of width s)) (or_second b (has_twice (peers_of width s)) twice-rows)

pub ruleset twice = (twice_first, twice_second, twice_third)

-- ---- an order's positions are those of rows

module _ (s : List ℕ) (n : ℕ) (order : List ℕ) (o : OrderOf s n (Some order)) where
  pub order-length : length (take n order) ≡ n
  order-length = ap length o.1 ∙ (risen-length (peer_at s) (tabulate itself n 0) ∙ tabulate-length itself n 0)

  pub order-position : (k : ℕ) → k < n → get_or (take n order) k 0 < n
  order-position k h =
      let x = get_or (take n order) k 0 in
      let there : Memᴰ x (take n order) = member-at (take n order) k 0 (omega (arith, order-length)) in
      tabulate-each itself (λ y. y < n) n 0 (λ y g. omega arith) x
      (member-perm x (Permᴰ.symm (risen-perm (peer_at s) (tabulate itself n 0))) (subst (λ l. Memᴰ x l) o.1 there))

  pub order_below : (k : ℕ) → k < n → get_or order k 0 < n
  order_below k h = rw (get_or-take n order k 0 h) at (order-position k h)

-- ---- rows written by an order

module _ (s order : List ℕ) where
  abbrev pairs : ℕ
  pairs = length s / 64

  module _
      (w : length s % 64 ≡ 0)
      (many : length s / 64 ≤ length order)
      (h : (k : ℕ) → k < length s / 64 → get_or order k 0 < length s / 64) where
    long : length (take pairs order) ≡ pairs
    long = length-take-le pairs order many

    peers-long : length (blocks s 0 (take pairs order)) ≡ 32 * pairs
    peers-long = blocks-length s 0 (take pairs order) (front-inside s 0 order pairs many (λ k g. omega (arith, h k g))) ∙ ap (λ n. 32 * n) long

    digests-long : length (blocks s pairs (take pairs order)) ≡ 32 * pairs
    digests-long =
        blocks-length s pairs (take pairs order) (front-inside s pairs order pairs many (λ k g. omega (arith, h k g))) ∙ ap (λ n. 32 * n) long

    pub map_length : length (map_by s order) ≡ length s
    map_length = omega (arith, length-append (blocks s 0 (take pairs order)) (blocks s pairs (take pairs order)), peers-long, digests-long)

    pub map_put : (out : List ℕ) (at tag : ℕ) → at + 3 + length s ≤ length out →
        put_at
        (put_at (put_at out at (tag ∷ little_bytes 2 (length s))) (at + 3) (blocks s 0 (take pairs order)))
        (at + 3 + 32 * pairs)
        (blocks s pairs (take pairs order))
        ≡ put_at out at (field_bytes tag (map_by s order))
    map_put out at tag room =
        let a = peers-long in
        let b = digests-long in
        put_parts out at tag (length s) (blocks s 0 (take pairs order)) (blocks s pairs (take pairs order)) (at + 3 + 32 * pairs)
        (omega arith) (omega arith) (omega arith)

  -- in order they are the map, or the set, as it came
  pub map_in_order : length s % 64 ≡ 0 → pairs ≤ length order → InOrder (take pairs order) → map_by s order ≡ s
  map_in_order w many h =
      let n = 32 * pairs in
      let long : 32 * length (take pairs order) ≡ n = ap (λ k. 32 * k) (length-take-le pairs order many) in
      let piece = λ (first : ℕ). blocks_in_order s first (take pairs order) h ∙ ap (λ k. bytes_at k s (32 * first)) long in
      let split : bytes_at (n + n) s 0 ≡ bytes_at n s 0 ++ bytes_at n s n = rw (zero-add n) at (at_split n n s 0) in
      rw (piece 0, piece pairs) (sym split ∙ take_all (n + n) s (omega arith))

  pub set_in_order : length s % 32 ≡ 0 → length s / 32 ≤ length order → InOrder (take (length s / 32) order) → set_by s order ≡ s
  set_in_order w many h =
      let n = length s / 32 in
      blocks_in_order s 0 (take n order) h
      ∙ take_all (32 * length (take n order)) s (omega (arith, length-take-le n order many))

  module _
      (w : length s % 32 ≡ 0)
      (many : length s / 32 ≤ length order)
      (h : (k : ℕ) → k < length s / 32 → get_or order k 0 < length s / 32) where
    pub set_length : length (set_by s order) ≡ length s
    set_length =
        let n = length s / 32 in
        omega (
          arith,
          blocks-length s 0 (take n order) (front-inside s 0 order n many (λ k g. omega (arith, h k g))),
          length-take-le n order many,
        )

    pub set_put : (out : List ℕ) (at tag : ℕ) → at + 3 + length s ≤ length out →
        put_at (put_at out at (tag ∷ little_bytes 2 (length s))) (at + 3) (set_by s order) ≡ put_at out at (field_bytes tag (set_by s order))
    set_put out at tag room = put_content out at tag (length s) (set_by s order) (sym set_length) (omega (arith, set_length))

-- with their orders both are as long as they were
pub map-whole : (s order : List ℕ) → length s % 64 ≡ 0 → OrderOf s (length s / 64) (Some order) → length (map_by s order) ≡ length s
map-whole s order w o =
    let n = length s / 64 in
    map_length s order w (omega (arith, order-length s n order o, length-take n order)) (order_below s n order o)

pub set-whole : (s order : List ℕ) → length s % 32 ≡ 0 → OrderOf s (length s / 32) (Some order) → length (set_by s order) ≡ length s
set-whole s order w o =
    let n = length s / 32 in
    set_length s order w (omega (arith, order-length s n order o, length-take n order)) (order_below s n order o)
