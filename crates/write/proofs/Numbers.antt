-- Numbers that were read from bytes: they fit, and their bytes are those read.
use Rattle.std.proofs.Common.{ℕ, suc, ◌+◌, ◌^◌, ◌≤◌, ◌<◌, zero-add, mod-eq_of_lt, arith, ◌≡◌, refl, List, [], ◌∷◌, length}
use Rattle.std.proofs.Math.Nat.{pow-succ'}
use Rattle.std.proofs.Math.Arith.{digits_div}
use Rattle.parts.specs.Bytes.{little, big, bytes_at, little_at, big_at, big_bytes, Bytes}
use Rattle.parts.proofs.Laws.{at_length, big-below, at-bytes}
use Rattle.write.proofs.Laws.{bytes_split}

pub tail_bytes : (x : ℕ) (l : List ℕ) → Bytes (x ∷ l) → Bytes l
tail_bytes x l b k = b (suc k)

little-below : (l : List ℕ) → Bytes l → little l < 256 ^ length l
unfolding little
little-below [] b = omega arith
little-below (x ∷ l) b =
    let h : x < 256 = b 0 in
    let g = little-below l (tail_bytes x l b) in
    omega (arith, pow-succ' 256 (length l))

big-again : (l : List ℕ) → Bytes l → big_bytes (length l) (big l) ≡ l
unfolding big big_bytes
big-again [] b = refl
big-again (x ∷ l) b =
    let h : x < 256 = b 0 in
    let below = big-below l (tail_bytes x l b) in
    let low = rw zero-add at (bytes_split 0 (length l) x (big l) below) in
    rw (digits_div x below, mod-eq_of_lt h, low, big-again l (tail_bytes x l b))

module _ (n : ℕ) (s : List ℕ) (at : ℕ) (b : Bytes s) (h : at + n ≤ length s) where
  pub little-fits : little_at n s at < 256 ^ n
  unfolding little_at
  little-fits = rw (at_length n s at h) at (little-below (bytes_at n s at) (at-bytes n s at b))

  pub big-of : big_bytes n (big_at n s at) ≡ bytes_at n s at
  unfolding big_at
  big-of = rw (at_length n s at h) at (big-again (bytes_at n s at) (at-bytes n s at b))
