-- Laws of the order of rows: a row more at its place, and rows that rise already.
use Rattle.std.proofs.Common.{ℕ, suc, ◌+◌, ◌-◌, ◌*◌, ◌≤◌, ◌<◌, arith, ◌≡◌, ap, sym, ◌∙◌, subst, List, [], ◌∷◌, ◌++◌, map, None, Some, true, length, get_or, take, drop, set, ◌||◌, add-one, zero-add, length-append, length-take-le, length-drop, take-suc, take-suc-set, take_at, take-take, append_assoc}
use Rattle.std.proofs.lemmas.List.{drop-take}
use lib.Seq.{set_at}
use Rattle.std.specs.List.{copy_within}
use mathlib.Core.List.{Memᴰ}
use mathlib.Core.List.Permᴰ
use Rattle.base.specs.Base.{tabulate}
use Rattle.base.proofs.Bool.{or_first, or_none}
use Rattle.base.proofs.Lists.{member-at, tabulate-append, tabulate-next, tabulate-take, tabulate-map, tabulate-each}
use Rattle.map.specs.Rows.{peer_at, rising}
use Rattle.map.specs.Risen.{itself, insert, risen, is_among, has_twice}
use Rattle.map.proofs.Risen.{member-perm, risen-perm, risen-rises, risen-alone, risen-next, among-perm, twice-last, twice-append, rising-once}
use Rattle.row_order.specs.Order.{Rising, PlaceOf, OrderOf}

-- ---- positions in their own order

positions-next : (i : ℕ) → tabulate itself (suc i) 0 ≡ tabulate itself i 0 ++ (i ∷ [])
positions-next i = tabulate-next itself i 0 ∙ ap (λ k. tabulate itself i 0 ++ (k ∷ [])) (zero-add i)

pub one_written : (order : List ℕ) (i : ℕ) → i < length order → take i order ≡ tabulate itself i 0 →
    take (i + 1) (set order i i) ≡ tabulate itself (i + 1) 0
one_written order i h e = rw add-one (take-suc-set order i i h ∙ (ap (λ l. l ++ (i ∷ [])) e ∙ sym (positions-next i)))

-- ---- a row put at its place

pub one_put : (order : List ℕ) (at i : ℕ) → at ≤ i → i < length order →
    take (i + 1) (set (copy_within order at i (at + 1)) at i) ≡ take at (take i order) ++ (i ∷ drop at (take i order))
one_put order at i h g =
    let front = take at order in
    let moved = take (i - at) (drop at order) in
    let rest = drop (at + 1 + (i - at)) order in
    let x = get_or order at 0 in
    let split : take (at + 1) order ≡ front ++ (x ∷ []) = rw add-one (take-suc order at 0 (omega arith)) in
    let length-front : length front ≡ at = length-take-le at order (omega arith) in
    let length-moved : length moved ≡ i - at = length-take-le (i - at) (drop at order) (omega (arith, length-drop at order)) in
    let copied : copy_within order at i (at + 1) ≡ front ++ (x ∷ (moved ++ rest)) =
    append_assoc (take (at + 1) order) moved rest ∙ (ap (λ l. l ++ (moved ++ rest)) split ∙ append_assoc front (x ∷ []) (moved ++ rest))
    in
    let front-same : take at (take i order) ≡ front = take-take at i order h in
    let whole : i ≡ at + (i - at) = omega arith in
    let back-same : drop at (take i order) ≡ moved = ap (λ n. drop at (take n order)) whole ∙ drop-take at (i - at) order in
    let written : set (copy_within order at i (at + 1)) at i ≡ (front ++ (i ∷ moved)) ++ rest =
    ap (λ l. set l at i) copied ∙ (set_at front x (moved ++ rest) i at length-front ∙ sym (append_assoc front (i ∷ moved) rest))
    in
    ap (take (i + 1)) written
    ∙ (take_at (front ++ (i ∷ moved)) rest (i + 1) (omega (arith, length-append front (i ∷ moved), length-front, length-moved))
    ∙ sym (ap (λ l. l ++ (i ∷ drop at (take i order))) front-same ∙ ap (λ l. front ++ (i ∷ l)) back-same))

-- ---- the first i rows in order

module _ (rows : List ℕ) where
  abbrev pub peers_before : ℕ → List ℕ
  peers_before i = tabulate (peer_at rows) i 0

  -- one row more
  peers-next : (i : ℕ) → peers_before (suc i) ≡ peers_before i ++ (peer_at rows i ∷ [])
  peers-next i = tabulate-next (peer_at rows) i 0 ∙ ap (λ k. peers_before i ++ (peer_at rows k ∷ [])) (zero-add i)

  peers-positions : (i : ℕ) → map (peer_at rows) (tabulate itself i 0) ≡ peers_before i
  peers-positions i = tabulate-map itself (peer_at rows) i 0

  -- rows that rise are in order
  pub front_ordered : (n : ℕ) → n ≤ 255 → rising (peers_before n) ≡ true → OrderOf rows n (Some (tabulate itself 255 0))
  front_ordered n h r =
      let already = risen-alone (peer_at rows) (tabulate itself n 0) (ap rising (peers-positions n) ∙ r) in
      (rising-once (peers_before n) r, tabulate-take itself n 255 0 h ∙ sym already)

  module _ (i : ℕ) (order : List ℕ) (o : OrderOf rows i (Some order)) where
    -- the positions are those before
    pub order-within : (k : ℕ) → k < length (take i order) → get_or (take i order) k 0 < i
    order-within k h =
        let x = get_or (take i order) k 0 in
        let there = subst (λ (m : List ℕ). Memᴰ x m) o.1 (member-at (take i order) k 0 h) in
        let before = member-perm x (Permᴰ.symm (risen-perm (peer_at rows) (tabulate itself i 0))) there in
        tabulate-each itself (λ y. y < i) i 0 (λ y g. omega arith) x before

    pub order_rises : 32 * i ≤ length rows → Rising rows (take i order)
    order_rises h =
        record {
          within = λ k g. omega (arith, order-within k g);
          rise = ap (λ (m : List ℕ). rising (map (peer_at rows) m)) o.1
              ∙ risen-rises (peer_at rows) (tabulate itself i 0) (ap has_twice (peers-positions i) ∙ o.0);
        }

    -- a peer is among those in order as it is among those before
    among-before : (x : ℕ) → is_among x (map (peer_at rows) (take i order)) ≡ is_among x (peers_before i)
    among-before x =
        ap (λ (m : List ℕ). is_among x (map (peer_at rows) m)) o.1
        ∙ (sym (among-perm x (Permᴰ.map (peer_at rows) (risen-perm (peer_at rows) (tabulate itself i 0)))) ∙ ap (is_among x) (peers-positions i))

    twice-next : has_twice (peers_before (suc i)) ≡ (is_among (peer_at rows i) (map (peer_at rows) (take i order)) || has_twice (peers_before i))
    twice-next =
        let x = peer_at rows i in
        ap has_twice (peers-next i) ∙ (twice-last x (peers_before i) ∙ ap (λ b. b || has_twice (peers_before i)) (sym (among-before x)))

    -- a row whose peer is one of theirs
    pub next_twice : (n : ℕ) → i < n → PlaceOf rows (take i order) i None → OrderOf rows n None
    next_twice n h p =
        let rest = tabulate (peer_at rows) (n - suc i) (suc i) in
        let whole : n ≡ suc i + (n - suc i) = omega arith in
        let parts = ap peers_before whole
        ∙ (tabulate-append (peer_at rows) (suc i) (n - suc i) 0
        ∙ ap (λ k. peers_before (suc i) ++ tabulate (peer_at rows) (n - suc i) k) (zero-add (suc i)))
        in
        ap has_twice parts ∙ twice-append (peers_before (suc i)) rest (twice-next ∙ or_first _ (has_twice (peers_before i)) p)

    -- a row put at its place
    pub next_ordered : (at : ℕ) (next : List ℕ) → PlaceOf rows (take i order) i (Some at) →
        take (i + 1) next ≡ take at (take i order) ++ (i ∷ drop at (take i order)) →
        OrderOf rows (i + 1) (Some next)
    next_ordered at next p e =
        let key = peer_at rows in
        let one_more = sym (risen-next key (tabulate itself i 0) i) ∙ ap (risen key) (sym (positions-next i)) in
        let put = e ∙ (sym p.2 ∙ (ap (insert key i) o.1 ∙ one_more)) in
        rw add-one (twice-next ∙ or_none _ _ p.0 o.0, rw add-one at put)
