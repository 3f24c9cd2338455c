-- Laws of unknown peers: which they are, their bytes in the buffer, and the walk of rows beside scheduled peers that writes them.
use Rattle.std.specs.Prelude.{is_some}
use Prim.Native.Nat.{ℕ, suc, ◌+◌, ◌*◌, ◌≤◌, ◌<◌}
use native.Mathlib.Numerals.{add-one}
use native.Mathlib.Omega.{arith}
use native.Mathlib.Decide.{dec_lt}
use mathlib.Core.Path.{◌≡◌, refl, ap, sym, ◌∙◌}
use mathlib.Core.List.{List, [], ◌∷◌, ◌++◌, append-nil}
use mathlib.Core.Bool.{Bool, true, false, and-eq-true_iff}
use lib.ListN.{length, get_or, take, length-append}
use lib.Seq.{take-suc, take_all}
use lib.Dec.{ltb}
use borrow.Author.Tests.{ltb-true, lt-ltb, le-ltb}
use Rattle.base.specs.Base.{pick}
use Rattle.base.proofs.Impossible.{impossible}
use Rattle.parts.specs.Bytes.{big_bytes, put_at}
use Rattle.parts.specs.Parts.{order}
use Rattle.std.specs.declared.cmp.Ordering.TheVariants.{Less, Equal, Greater}
use Rattle.parts.proofs.Laws.{order-less, order_same, order-more}
use Rattle.write.proofs.Laws.{bytes-length, put_length, put_put, put_nothing}
use Rattle.map.specs.Rows.{rising, find}
use Rattle.map.proofs.Laws.{Nowhere, peers_of-fits, rising-less, find-rising, find_nowhere}
use Rattle.map.proofs.Pairs.{rising_tail}
use Rattle.map.specs.Written.{peer_bytes}
use Rattle.map.proofs.Written.{peer_bytes-append, peer_bytes-length}
use Rattle.rules.specs.Unknown.{unknown_in}
use Rattle.verify_unknown.specs.Code.{order_at}

-- ---- positions

found_here : (l : List ℕ) (x n : ℕ) → rising l ≡ true → n < length l → get_or l n 0 ≡ x → is_some (find l x) ≡ true
found_here l x n r h e = ap is_some (find-rising l x n r h e)

found_nowhere : (l : List ℕ) (x : ℕ) → Nowhere l x → is_some (find l x) ≡ false
found_nowhere l x b = ap is_some (find_nowhere l x b)

-- ---- the scheduled peer at a position beside a peer

module _ (k : List ℕ) (j x : ℕ) where
  pub order_at_inside : j < length k → order_at k j x ≡ order (get_or k j 0) x
  unfolding order_at
  order_at_inside h = rw (lt-ltb j (length k) h)

  pub order_at_past : length k ≤ j → order_at k j x ≡ Greater
  unfolding order_at
  order_at_past h = rw (le-ltb j (length k) h)

  pub order_at_less : order_at k j x ≡ Less → (j < length k) × (get_or k j 0 < x)
  order_at_less e = elim (dec_lt j (length k)) [
    | yes h ↦ (h, order-less _ _ (sym (order_at_inside h) ∙ e))
    | no h ↦ (let p = order_at_past (omega arith) in impossible (cc))
  ]

  pub order_at_same : order_at k j x ≡ Equal → (j < length k) × (get_or k j 0 ≡ x)
  order_at_same e = elim (dec_lt j (length k)) [
    | yes h ↦ (h, order_same _ _ (sym (order_at_inside h) ∙ e))
    | no h ↦ (let p = order_at_past (omega arith) in impossible (cc))
  ]

  pub order_at_more : order_at k j x ≡ Greater → j < length k → x < get_or k j 0
  order_at_more e h = order-more _ _ (sym (order_at_inside h) ∙ e)

-- ---- which peers are unknown

unknown-append : (k a b : List ℕ) → unknown_in k (a ++ b) ≡ unknown_in k a ++ unknown_in k b
unfolding unknown_in
unknown-append k [] b = refl
unknown-append k (x ∷ a) b = go (is_some (find k x)) (unknown-append k a b)
  where
    go : (t : Bool) → unknown_in k (a ++ b) ≡ unknown_in k a ++ unknown_in k b →
        pick t (unknown_in k (a ++ b)) (x ∷ unknown_in k (a ++ b)) ≡ pick t (unknown_in k a) (x ∷ unknown_in k a) ++ unknown_in k b
    go true e = e
    go false e = ap (λ (l : List ℕ). x ∷ l) e

-- no more are unknown than there are
pub unknown-few : (k l : List ℕ) → length (unknown_in k l) ≤ length l
unfolding unknown_in
unknown-few k [] = omega arith
unknown-few k (x ∷ l) = go (is_some (find k x)) (unknown-few k l)
  where
    go : (t : Bool) → length (unknown_in k l) ≤ length l → length (pick t (unknown_in k l) (x ∷ unknown_in k l)) ≤ suc (length l)
    go true e = omega arith
    go false e = omega arith

-- the first of a rising list and what follows the second rise
skip : (x y : ℕ) (l : List ℕ) → x < y → rising (y ∷ l) ≡ true → rising (x ∷ l) ≡ true
unfolding rising
skip x y [] h r = refl
skip x y (z ∷ l) h r =
    let p = (and-eq-true_iff (ltb y z) (rising (z ∷ l))).0 r in
    let g = ltb-true y z p.0 in
    rw (lt-ltb x z (omega arith)) p.1

rising-from : (k : List ℕ) (x : ℕ) (l : List ℕ) → rising (x ∷ l) ≡ true → rising (x ∷ unknown_in k l) ≡ true
unfolding unknown_in rising
rising-from k x [] r = refl
rising-from k x (y ∷ l) r =
    let p = (and-eq-true_iff (ltb x y) (rising (y ∷ l))).0 r in
    go (is_some (find k y)) p.0 (rising-from k x l (skip x y l (ltb-true x y p.0) p.1)) (rising-from k y l p.1)
  where
    go : (t : Bool) → ltb x y ≡ true → rising (x ∷ unknown_in k l) ≡ true → rising (y ∷ unknown_in k l) ≡ true → rising (x ∷ pick t (unknown_in k l) (y ∷ unknown_in k l)) ≡ true
    go true h e f = e
    go false h e f = rw h f

-- the unknown among rising peers rise
pub unknown-rising : (k l : List ℕ) → rising l ≡ true → rising (unknown_in k l) ≡ true
unfolding unknown_in rising
unknown-rising k [] r = refl
unknown-rising k (x ∷ l) r = go (is_some (find k x)) (unknown-rising k l (rising_tail x l r)) (rising-from k x l r)
  where
    go : (t : Bool) → rising (unknown_in k l) ≡ true → rising (x ∷ unknown_in k l) ≡ true → rising (pick t (unknown_in k l) (x ∷ unknown_in k l)) ≡ true
    go true e f = e
    go false e f = f

-- one row more
module _ (k r : List ℕ) (i : ℕ) (h : i < length r) where
  one_more : unknown_in k (take (i + 1) r) ≡ unknown_in k (take i r) ++ unknown_in k (get_or r i 0 ∷ [])
  one_more = rw (add-one, take-suc r i 0 h) (unknown-append k (take i r) (get_or r i 0 ∷ []))

  known_next : is_some (find k (get_or r i 0)) ≡ true → unknown_in k (take (i + 1) r) ≡ unknown_in k (take i r)
  unfolding unknown_in
  known_next e = one_more ∙ rw e (append-nil (unknown_in k (take i r)))

  unknown-next : is_some (find k (get_or r i 0)) ≡ false → unknown_in k (take (i + 1) r) ≡ unknown_in k (take i r) ++ (get_or r i 0 ∷ [])
  unfolding unknown_in
  unknown-next e = one_more ∙ rw e

-- ---- the bytes of peers

-- where no peer is unknown the buffer is as it was
pub put_none : (old l : List ℕ) → length l ≡ 0 → put_at old 0 (peer_bytes l) ≡ old
unfolding peer_bytes
put_none old [] h = put_nothing old 0
put_none old (x ∷ l) h = absurd (omega arith)

-- one peer more is written after those that are there
put_more : (old l : List ℕ) (x n : ℕ) → n ≡ length l → 32 * n + 32 ≤ length old →
    put_at (put_at old 0 (peer_bytes l)) (32 * n) (big_bytes 32 x) ≡ put_at old 0 (peer_bytes (l ++ (x ∷ [])))
unfolding peer_bytes
put_more old l x n e h =
    put_put old 0 (peer_bytes l) (big_bytes 32 x) (32 * n) (omega (arith, peer_bytes-length l)) (rw (bytes-length 32 x) h)
    ∙ rw (peer_bytes-append l (x ∷ []), append-nil (big_bytes 32 x))

-- ---- the walk: the unknown among the first i rows are written, and the scheduled peers before j are less than the row at i

pub record Walked (k r old out : List ℕ) (i j found : ℕ) : Type 0 where
  pub passed : (a : ℕ) → a < j → i < length r → get_or k a 0 < get_or r i 0
  pub few : found ≤ i
  pub count : found ≡ length (unknown_in k (take i r))
  pub same : length out ≡ length old
  pub bytes : out ≡ put_at old 0 (peer_bytes (unknown_in k (take i r)))

pub walked_start : (k r old : List ℕ) → Walked k r old old 0 0 0
unfolding unknown_in
walked_start k r old = record {
  passed = λ a h. absurd (omega arith);
  few = omega arith;
  count = refl;
  same = refl;
  bytes = sym (put_none old [] refl);
}

module _ (k r old out : List ℕ) (i j found : ℕ) (w : Walked k r old out i j found) where
  pub walked_done : length r ≤ i → (found ≡ length (unknown_in k r)) × (out ≡ put_at old 0 (peer_bytes (unknown_in k r)))
  walked_done h =
      let e : unknown_in k (take i r) ≡ unknown_in k r = ap (unknown_in k) (take_all i r h) in
      (w.count ∙ ap length e, w.bytes ∙ ap (λ (l : List ℕ). put_at old 0 (peer_bytes l)) e)

  module _ (h : i < length r) where
    pub walked_less : order_at k j (get_or r i 0) ≡ Less → Walked k r old out i (j + 1) found
    walked_less o =
        let p = order_at_less k j (get_or r i 0) o in
        record {
          passed = λ a g f. elim (dec_lt a j) [ yes q ↦ w.passed a q h | no q ↦ (let e : a ≡ j = omega arith in rw e p.1) ];
          few = w.few;
          count = w.count;
          same = w.same;
          bytes = w.bytes;
        }

    module _ (rises : rising r ≡ true) (set-rises : rising k ≡ true) where
      -- the scheduled peers that are less than a row are less than the next
      passed-next : (a : ℕ) → a < j → i + 1 < length r → get_or k a 0 < get_or r (i + 1) 0
      passed-next a g f = omega (arith, w.passed a g h, rising-less r i (i + 1) rises (omega arith) f)

      pub walked_same : order_at k j (get_or r i 0) ≡ Equal → Walked k r old out (i + 1) (j + 1) found
      walked_same o =
          let p = order_at_same k j (get_or r i 0) o in
          let e = known_next k r i h (found_here k (get_or r i 0) j set-rises p.0 p.1) in
          record {
            passed = λ a g f. elim (dec_lt a j) [
              | yes q ↦ passed-next a q f
              | no q ↦ (let d : a ≡ j = omega arith in rw (d, p.1) (rising-less r i (i + 1) rises (omega arith) f))
            ];
            few = omega (arith, w.few);
            count = rw e w.count;
            same = w.same;
            bytes = rw e w.bytes;
          }

      -- a row is unknown if it is less than the scheduled peer at j, since those before j are less than the row
      between : (j < length k → get_or r i 0 < get_or k j 0) → Nowhere k (get_or r i 0)
      between m a g e = elim (dec_lt a j) [
        | yes q ↦ omega (arith, w.passed a q h)
        | no q ↦ elim (dec_lt j a) [
          | yes f ↦ omega (arith, m (omega arith), rising-less k j a set-rises f g)
          | no f ↦ (let d : a ≡ j = omega arith in omega (arith, m (omega arith), ap (λ (n : ℕ). get_or k n 0) d))
        ]
      ]

      pub walked_more : 32 * length r ≤ length old → order_at k j (get_or r i 0) ≡ Greater →
          Walked k r old (put_at out (32 * found) (big_bytes 32 (get_or r i 0))) (i + 1) j (found + 1)
      walked_more room o =
          let x = get_or r i 0 in
          let e = unknown-next k r i h (found_nowhere k x (between (order_at_more k j x o))) in
          let n = w.few in
          record {
            passed = passed-next;
            few = omega arith;
            count = sym (ap length e ∙ (length-append (unknown_in k (take i r)) (x ∷ []) ∙ ap (λ (m : ℕ). m + 1) (sym w.count)));
            same = put_length out (32 * found) (big_bytes 32 x) (omega (arith, bytes-length 32 x, w.same)) ∙ w.same;
            bytes = rw (e, w.bytes) (put_more old (unknown_in k (take i r)) x found w.count (omega arith));
          }

-- what the check needs of the walk
pub ruleset walk_facts = (peers_of-fits, order_at_less, order_at_same, walked_less, walked_done)
