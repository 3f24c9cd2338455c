-- Laws of the bytes of peers and of pairs: what is written is read back, and whole rows that are read are written again.
use Prim.Native.Nat.{ℕ, zero, suc, ◌+◌, ◌*◌, ◌/◌, ◌%◌, ◌^◌, ◌≤◌, ◌<◌}
use native.Mathlib.Nat.{zero-add, add-zero}
use native.Mathlib.Omega.{arith}
use mathlib.Core.Path.{◌≡◌, refl, ap, sym, ◌∙◌, subst}
use mathlib.Core.List.{List, [], ◌∷◌, ◌++◌, Memᴰ, append_assoc}
use mathlib.Core.Bool.{true}
use lib.ListN.{length, get_or, drop, length-append, get_or-append}
use lib.Seq.{take_at, take_all, drop_at, drop-drop}
use lib.Dec.{eqb}
use borrow.Author.Tests.{eq-eqb}
use Rattle.std.proofs.Common.{get_or-append-add}
use Rattle.base.specs.Base.{tabulate}
use Rattle.base.proofs.Bool.{and_both}
use Rattle.base.proofs.Lists.{member-at, tabulate-is, tabulate-each}
use Rattle.parts.specs.Bytes.{big, bytes_at, big_at, id_at, big_bytes, Bytes}
use Rattle.parts.proofs.Laws.{at_split, big-fits}
use Rattle.parts.proofs.AllBytes.{AllBytes, none_more, both}
use Rattle.write.proofs.Laws.{bytes-length, big-bytes, bytes_below}
use Rattle.write.proofs.Numbers.{big-of}
use Rattle.map.specs.declared.Arrangement.TheVariants.{Columns}
use Rattle.map.specs.Rows.{Pair, pair_at, pairs_in, pairs_of, peer_at, peers_of, peers, digests, rising, well_rowed, is_map}
use Rattle.map.specs.Written.{peer_bytes, pairs_bytes}
use Rattle.map.proofs.Laws.{peers-length, digests-length, peers-at, digests-at, peers-tabulate, digests-tabulate}

-- ---- their length

pub peer_bytes-append : (a b : List ℕ) → peer_bytes (a ++ b) ≡ peer_bytes a ++ peer_bytes b
unfolding peer_bytes
peer_bytes-append [] b = refl
peer_bytes-append (x ∷ a) b = rw (peer_bytes-append a b) (sym (append_assoc (big_bytes 32 x) (peer_bytes a) (peer_bytes b)))

pub peer_bytes-length : (l : List ℕ) → length (peer_bytes l) ≡ 32 * length l
unfolding peer_bytes
peer_bytes-length [] = refl
peer_bytes-length (x ∷ l) = rw (length-append (big_bytes 32 x) (peer_bytes l), bytes-length 32 x, peer_bytes-length l) (omega arith)

pub pairs_bytes-length : (l : List Pair) → length (pairs_bytes l) ≡ 64 * length l
unfolding pairs_bytes
pairs_bytes-length l =
    omega (
      arith,
      length-append (peer_bytes (peers l)) (peer_bytes (digests l)),
      peer_bytes-length (peers l),
      peer_bytes-length (digests l),
      peers-length l,
      digests-length l,
    )

-- ---- they are bytes

no_peers : peer_bytes [] ≡ []
unfolding peer_bytes
no_peers = refl

peers-next : (x : ℕ) (l : List ℕ) → peer_bytes (x ∷ l) ≡ big_bytes 32 x ++ peer_bytes l
unfolding peer_bytes
peers-next x l = refl

pub peer_bytes-are : (l : List ℕ) → AllBytes (peer_bytes l)
peer_bytes-are [] = subst AllBytes (sym no_peers) none_more
peer_bytes-are (x ∷ l) = subst AllBytes (sym (peers-next x l)) (both (big_bytes 32 x) (record { bytes = bytes_below 32 x }) (peer_bytes-are l))

pub pairs_bytes-are : (l : List Pair) → AllBytes (pairs_bytes l)
unfolding pairs_bytes
pairs_bytes-are l = both (peer_bytes (peers l)) (peer_bytes-are (peers l)) (peer_bytes-are (digests l))

-- ---- what fits 32 bytes

abbrev pub IdsFit : List ℕ → Type 0
IdsFit l = (x : ℕ) → Memᴰ x l → x < 256 ^ 32

-- a peer and its digest
abbrev pub PairFits : Pair → Type 0
PairFits q = (q.peer < 256 ^ 32) × (q.digest < 256 ^ 32)

abbrev pub PairsFit : List Pair → Type 0
PairsFit l = (q : Pair) → Memᴰ q l → PairFits q

-- what was read from bytes does
pub peers_of-fit : (s : List ℕ) → Bytes s → IdsFit (peers_of 32 s)
unfolding peers_of peer_at
peers_of-fit s b = tabulate-each (peer_at s) (λ x. x < 256 ^ 32) (length s / 32) 0 (λ k h. big-fits 32 s (32 * k) b (omega arith))

pub pairs_of-fit : (s : List ℕ) → Bytes s → PairsFit (pairs_of s)
unfolding pairs_in pair_at
pairs_of-fit s b =
    tabulate-each (pair_at Columns s) PairFits (length s / 64) 0
    (λ k h. (big-fits 32 s (32 * k) b (omega arith), big-fits 32 s (32 * (length s / 64 + k)) b (omega arith)))

-- ---- read back

peer-there : (l : List ℕ) (i : ℕ) → i < length l → bytes_at 32 (peer_bytes l) (32 * i) ≡ big_bytes 32 (get_or l i 0)
unfolding peer_bytes
peer-there [] i h = absurd (omega arith)
peer-there (x ∷ l) zero h = take_at (big_bytes 32 x) (peer_bytes l) 32 (bytes-length 32 x)
peer-there (x ∷ l) (suc i) h =
    let e : 32 * suc i ≡ 32 + 32 * i = omega arith in
    let g : drop (32 * suc i) (big_bytes 32 x ++ peer_bytes l) ≡ drop (32 * i) (peer_bytes l) =
    rw (e, ← drop-drop (32 * i) 32 (big_bytes 32 x ++ peer_bytes l), drop_at (big_bytes 32 x) (peer_bytes l) 32 (bytes-length 32 x)) refl in
    rw g (peer-there l i (omega arith))

id-back : (l : List ℕ) (i : ℕ) → i < length l → get_or l i 0 < 256 ^ 32 → id_at (peer_bytes l) (32 * i) ≡ get_or l i 0
unfolding big_at
id-back l i h f = ap big (peer-there l i h) ∙ big-bytes 32 (get_or l i 0) f

pub peers-back : (l : List ℕ) → IdsFit l → peers_of 32 (peer_bytes l) ≡ l
unfolding peers_of peer_at
peers-back l f =
    let n : length (peer_bytes l) / 32 ≡ length l = omega (arith, peer_bytes-length l) in
    ap (λ m. tabulate (peer_at (peer_bytes l)) m 0) n
    ∙ tabulate-is (peer_at (peer_bytes l)) l 0 0 (λ i h. ap (peer_at (peer_bytes l)) (zero-add i) ∙ id-back l i h (f _ (member-at l i 0 h)))

module _ (l : List Pair) (f : PairsFit l) where
  pair-back : (i : ℕ) → i < length l → pair_at Columns (pairs_bytes l) i ≡ get_or l i (record { peer = 0; digest = 0 })
  unfolding pair_at pairs_bytes
  pair-back i h =
      let a = peers l in
      let c = digests l in
      let none : Pair = record { peer = 0; digest = 0 } in
      let n : length (pairs_bytes l) / 64 ≡ length l = omega (arith, pairs_bytes-length l) in
      let inside : i < length a = omega (arith, peers-length l) in
      let later : get_or (a ++ c) (length l + i) 0 ≡ (get_or l i none).digest =
      ap (λ m. get_or (a ++ c) (m + i) 0) (sym (peers-length l)) ∙ (get_or-append-add a c i 0 ∙ digests-at l i none h) in
      let first : get_or (a ++ c) i 0 ≡ (get_or l i none).peer = get_or-append a c 0 i inside ∙ peers-at l i none h in
      let fits = f (get_or l i none) (member-at l i none h) in
      let whole : length (a ++ c) ≡ length l + length l = omega (arith, length-append a c, peers-length l, digests-length l) in
      let x : id_at (pairs_bytes l) (32 * i) ≡ (get_or l i none).peer =
      ap (λ s. id_at s (32 * i)) (sym (peer_bytes-append a c)) ∙ (id-back (a ++ c) i (omega arith) (rw first fits.0) ∙ first) in
      let y : id_at (pairs_bytes l) (32 * (length l + i)) ≡ (get_or l i none).digest =
      ap (λ s. id_at s (32 * (length l + i))) (sym (peer_bytes-append a c))
      ∙ (id-back (a ++ c) (length l + i) (omega arith) (rw later fits.1) ∙ later) in
      rw (n, x, y)

  pub pairs-back : pairs_of (pairs_bytes l) ≡ l
  unfolding pairs_in
  pairs-back =
      let s = pairs_bytes l in
      let n : length s / 64 ≡ length l = omega (arith, pairs_bytes-length l) in
      ap (λ m. tabulate (pair_at Columns s) m 0) n
      ∙ tabulate-is (pair_at Columns s) l (record { peer = 0; digest = 0 }) 0 (λ i h. ap (pair_at Columns s) (zero-add i) ∙ pair-back i h)

  -- and pairs whose peers rise are a map
  pub pairs_bytes-map : rising (peers l) ≡ true → is_map Columns (pairs_bytes l) ≡ true
  unfolding is_map
  pairs_bytes-map r =
      let w : length (pairs_bytes l) % 64 ≡ 0 = omega (arith, pairs_bytes-length l) in
      and_both (eqb (length (pairs_bytes l) % 64) 0) _ (eq-eqb _ 0 w) (ap (λ k. rising (peers k)) pairs-back ∙ r)

-- peers that rise are a set
pub peer_bytes-rowed : (l : List ℕ) → IdsFit l → rising l ≡ true → well_rowed 32 (peer_bytes l) ≡ true
unfolding well_rowed
peer_bytes-rowed l f r =
    let w : length (peer_bytes l) % 32 ≡ 0 = omega (arith, peer_bytes-length l) in
    and_both (eqb (length (peer_bytes l) % 32) 0) _ (eq-eqb _ 0 w) (ap rising (peers-back l f) ∙ r)

-- ---- written again

-- the bytes of n ids that stand one after the other
module _ (s : List ℕ) (b : Bytes s) (f : ℕ → ℕ) (h : ℕ) (e : (i : ℕ) → f i ≡ id_at s (32 * (h + i))) where
  rows-again : (n k : ℕ) → 32 * (h + k + n) ≤ length s → peer_bytes (tabulate f n k) ≡ bytes_at (32 * n) s (32 * (h + k))
  unfolding tabulate
  rows-again zero k g = no_peers
  rows-again (suc n) k g =
      let next : 32 * (h + suc k) ≡ 32 * (h + k) + 32 = omega arith in
      let both : 32 * suc n ≡ 32 + 32 * n = omega arith in
      peers-next (f k) (tabulate f n (suc k))
      ∙ rw (e k, rows-again n (suc k) (omega arith), big-of 32 s (32 * (h + k)) b (omega arith), next, both)
      (sym (at_split 32 (32 * n) s (32 * (h + k))))

pub peers-again : (s : List ℕ) → Bytes s → length s % 32 ≡ 0 → peer_bytes (peers_of 32 s) ≡ s
unfolding peers_of peer_at
peers-again s b w =
    let n = length s / 32 in
    rows-again s b (peer_at s) 0 (λ i. ap (λ k. id_at s (32 * k)) (sym (zero-add i))) n 0 (omega arith) ∙ take_all (32 * n) s (omega arith)

pub pairs-again : (s : List ℕ) → Bytes s → length s % 64 ≡ 0 → pairs_bytes (pairs_of s) ≡ s
unfolding pairs_bytes pairs_in pair_at
pairs-again s b w =
    let n = length s / 64 in
    rw (
      peers-tabulate (pair_at Columns s) n 0,
      digests-tabulate (pair_at Columns s) n 0,
      rows-again s b (λ i. id_at s (32 * i)) 0 (λ i. ap (λ k. id_at s (32 * k)) (sym (zero-add i))) n 0 (omega arith),
      rows-again s b (λ i. id_at s (32 * (n + i))) n (λ i. refl) n 0 (omega arith),
    )
    (ap (λ k. bytes_at (32 * n) s 0 ++ bytes_at (32 * n) s (32 * k)) (add-zero n)
    ∙ (ap (λ k. bytes_at (32 * n) s 0 ++ bytes_at (32 * n) s k) (sym (zero-add (32 * n)))
    ∙ (sym (at_split (32 * n) (32 * n) s 0) ∙ take_all (32 * n + 32 * n) s (omega arith))))
