-- A point that is handed over, its rows by their orders, has the bytes that are written.
use Rattle.std.specs.Prelude.{Some, map}
use Prim.Native.Nat.{ℕ, suc, ◌+◌, ◌*◌, ◌/◌, ◌%◌, ◌≤◌}
use native.Mathlib.Nat.{zero-add}
use native.Mathlib.Omega.{arith}
use mathlib.Core.Path.{◌≡◌, refl, ap, sym, ◌∙◌}
use mathlib.Core.List.{List, [], ◌∷◌, ◌++◌}
use lib.ListN.{length, take}
use Rattle.base.specs.Base.{tabulate}
use Rattle.base.proofs.Lists.{tabulate-map}
use Rattle.parts.specs.Bytes.{Bytes, id_at, big_bytes}
use Rattle.write.proofs.Numbers.{big-of}
use Rattle.map.specs.declared.Arrangement.TheVariants.{Columns}
use Rattle.map.specs.Rows.{Pair, pair_at, pairs_in, pairs_of, peer_at, peers_of, peers, digests}
use Rattle.map.specs.Risen.{peer_of, itself, risen}
use Rattle.map.specs.Written.{peer_bytes, pairs_bytes}
use Rattle.map.proofs.Risen.{risen-map}
use Rattle.row_order.specs.Order.{OrderOf}
use Rattle.compose.specs.Code.{block_at, blocks, map_by, set_by}
use Rattle.compose.proofs.Fields.{Inside}
use Rattle.compose.proofs.Rows.{order-length, order-position}

peers-map : (f : ℕ → Pair) (l : List ℕ) → peers (map f l) ≡ map (λ i. (f i).peer) l
unfolding peers
peers-map f [] = refl
peers-map f (i ∷ l) = ap (λ m. (f i).peer ∷ m) (peers-map f l)

digests-map : (f : ℕ → Pair) (l : List ℕ) → digests (map f l) ≡ map (λ i. (f i).digest) l
unfolding digests
digests-map f [] = refl
digests-map f (i ∷ l) = ap (λ m. (f i).digest ∷ m) (digests-map f l)

module _ (s : List ℕ) (b : Bytes s) where
  -- ids at positions, counted from a first one
  ids-bytes : (first : ℕ) (f : ℕ → ℕ) → ((i : ℕ) → f i ≡ id_at s (32 * (first + i))) → (l : List ℕ) → Inside s first l →
      peer_bytes (map f l) ≡ blocks s first l
  unfolding peer_bytes blocks
  ids-bytes first f e [] h = refl
  ids-bytes first f e (i ∷ l) h =
      ap (λ t. t ++ peer_bytes (map f l)) (ap (big_bytes 32) (e i) ∙ big-of 32 s (32 * (first + i)) b (h 0 (omega arith)))
      ∙ ap (λ t. block_at s first i ++ t) (ids-bytes first f e l (λ k g. h (suc k) (omega arith)))

  -- a map's pairs in the order of their peers
  module _ (order : List ℕ) (w : length s % 64 ≡ 0) (o : OrderOf s (length s / 64) (Some order)) where
    pairs-risen : risen peer_of (pairs_of s) ≡ map (pair_at Columns s) (take (length s / 64) order)
    unfolding pairs_in pair_at peer_at
    pairs-risen =
        let f = pair_at Columns s in
        let positions = tabulate itself (length s / 64) 0 in
        ap (risen peer_of) (sym (tabulate-map itself f (length s / 64) 0)) ∙ (sym (risen-map f peer_of positions) ∙ ap (map f) (sym o.1))

    inside : (first : ℕ) → 32 * (first + length s / 64) ≤ length s → Inside s first (take (length s / 64) order)
    inside first h k g = omega (arith, order-position s (length s / 64) order o k (omega (arith, order-length s (length s / 64) order o)))

    pub map-written : pairs_bytes (risen peer_of (pairs_of s)) ≡ map_by s order
    unfolding pairs_bytes pair_at
    map-written =
        let f = pair_at Columns s in
        let l = take (length s / 64) order in
        let first = λ (i : ℕ). ap (λ k. id_at s (32 * k)) (sym (zero-add i)) in
        let here : peer_bytes (peers (map f l)) ≡ blocks s 0 l =
        ap peer_bytes (peers-map f l) ∙ ids-bytes 0 (λ i. (f i).peer) first l (inside 0 (omega arith)) in
        let beside : peer_bytes (digests (map f l)) ≡ blocks s (length s / 64) l =
        ap peer_bytes (digests-map f l) ∙ ids-bytes (length s / 64) (λ i. (f i).digest) (λ i. refl) l (inside (length s / 64) (omega arith)) in
        ap pairs_bytes pairs-risen ∙ (ap (λ t. t ++ peer_bytes (digests (map f l))) here ∙ ap (λ t. blocks s 0 l ++ t) beside)

  -- and a set's peers
  module _ (order : List ℕ) (w : length s % 32 ≡ 0) (o : OrderOf s (length s / 32) (Some order)) where
    pub set-written : peer_bytes (risen itself (peers_of 32 s)) ≡ set_by s order
    unfolding peers_of peer_at
    set-written =
        let n = length s / 32 in
        let f = peer_at s in
        let here : risen itself (peers_of 32 s) ≡ map f (take n order) =
        ap (risen itself) (sym (tabulate-map itself f n 0)) ∙ (sym (risen-map f itself (tabulate itself n 0)) ∙ ap (map f) (sym o.1)) in
        ap peer_bytes here
        ∙ ids-bytes 0 f (λ i. ap (λ k. id_at s (32 * k)) (sym (zero-add i))) (take n order)
        (λ k g. omega (arith, order-position s n order o k (omega (arith, order-length s n order o))))
