-- Laws of the bytes that are printed: the digits that `io::decimal` gives are the definition's, and what is written piece after piece
-- is written in one piece.
use Prim.Native.Nat.{ℕ, zero, suc, ◌+◌, ◌-◌, ◌/◌, ◌%◌, ◌^◌, ◌≤◌, ◌<◌}
use native.Mathlib.Omega.{arith}
use native.Mathlib.Decide.{dec_lt}
use native.Mathlib.Nat.{mod-lt, mod-eq_of_lt, pow-suc, pow-le-pow_right, div-lt_iff_lt-mul, le-div_iff_mul-le}
use mathlib.Core.Path.{◌≡◌, ap, sym, ◌∙◌}
use mathlib.Core.List.{List, ◌∷◌, ◌++◌, append_assoc}
use lib.ListN.{length, length-append}
use lib.Seq.{length-take-le}
use borrow.Author.Tests.{lt-ltb, le-ltb}
use Rattle.io.specs.Counts.{IsPrefixLen}
use Rattle.io.specs.Digits.{last_digits, hex_digit_ascii, IsDigitCount}
use Rattle.parts.specs.Bytes.{put_at}
use Rattle.write.proofs.Laws.{put_put, put_length}
use Rattle.tally_line.specs.declared.Line.{Line}
use Rattle.tally_line.specs.Text.{space, newline, decimal_in, decimal, line_bytes, end_bytes}
use Rattle.tally_line.specs.Code.{Put}

-- ---- digits

last_digit : (n : ℕ) → hex_digit_ascii (n % 10) ≡ 48 + n % 10
last_digit n = rw (lt-ltb (n % 10) 10 (mod-lt n (omega arith)))

more : (n j : ℕ) → IsDigitCount 10 1 n (suc (suc j)) → 10 ^ suc j ≤ n
more n j f = let e : suc (suc j) - 1 ≡ suc j = omega arith in rw e at (f.2 (omega arith))

fewer : (n j : ℕ) → IsDigitCount 10 1 n (suc (suc j)) → IsDigitCount 10 1 (n / 10) (suc j)
fewer n j f = (
  omega arith,
  (div-lt_iff_lt-mul {k = 10} {x = n} {y = 10 ^ suc j} (omega arith)).1 (rw (← pow-suc 10 (suc j)) f.1),
  λ h. let e : suc j - 1 ≡ j = omega arith in rw e ((le-div_iff_mul-le {k = 10} {x = 10 ^ j} {y = n} (omega arith)).1 (rw (← pow-suc 10 j) (more n j f))),
)

ten : (j : ℕ) → 10 ≤ 10 ^ suc j
ten j = pow-le-pow_right {n = 10} (omega arith) {i = 1} {j = suc j} (omega arith)

-- the fewest digits of a number are its decimal
digits_in : (m n k : ℕ) → IsDigitCount 10 1 n k → k ≤ m → last_digits 10 k n ≡ decimal_in m n
unfolding decimal_in
digits_in zero n zero f h = absurd (omega arith)
digits_in zero n (suc k) f h = absurd (omega arith)
digits_in (suc m) n zero f h = absurd (omega (arith, f.0))
digits_in (suc m) n (suc zero) f h =
    let b : n < 10 = f.1 in
    rw (lt-ltb n 10 b, mod-eq_of_lt b, lt-ltb n 10 b)
digits_in (suc m) n (suc (suc j)) f h =
    let b : 10 ≤ n = omega (arith, more n j f, ten j) in
    rw (le-ltb n 10 b, last_digit n, digits_in m (n / 10) (suc j) (fewer n j f) (omega arith))

-- 10 ^ 20 is more than 2 ^ 64
pub digits_most : (n k : ℕ) → n < 2 ^ 64 → IsDigitCount 10 1 n k → k ≤ 20
digits_most n k h f = elim (dec_lt 20 k) [
  | yes g ↦ absurd (omega (arith, pow-le-pow_right {n = 10} (omega arith) {i = 20} {j = k - 1} (omega arith), f.2 (omega arith)))
  | no g ↦ omega arith
]

pub decimal_digits : (n k : ℕ) → IsDigitCount 10 1 n k → k ≤ 20 → last_digits 10 k n ≡ decimal n
unfolding decimal
decimal_digits n k f h = digits_in 20 n k f h

-- ---- pieces

module _ (l : List ℕ) (at : ℕ) (a m : List ℕ) (e : ℕ) (b o : List ℕ) (f : ℕ) where
  pub joined : Put l at a m e → Put m e b o f → f ≤ length l → Put l at (a ++ b) o f
  joined p q h = record {
    written = q.written ∙ ap (λ (x : List ℕ). put_at x e b) p.written ∙ put_put l at a b e (sym p.ends) (omega (arith, q.ends));
    ends = omega (arith, p.ends, q.ends, length-append a b);
  }

-- what was written at the front is counted by where it ends
pub counts : (l a m : List ℕ) (e : ℕ) → Put l 0 a m e → e ≤ length l → IsPrefixLen e m
counts l a m e p h =
    let k : length m ≡ length l = ap length p.written ∙ put_length l 0 a (omega (arith, p.ends)) in
    (omega arith, sym (length-take-le e m (omega arith)))

-- the pieces of a line
pub line_pieces : (l : Line) → decimal l.place ++ space ++ (decimal l.round ++ space) ++ (l.letter ∷ space) ++ (decimal l.reason ++ space) ++ (decimal l.number ++ newline) ≡ line_bytes l
unfolding line_bytes
line_pieces l = simp append_assoc

pub end_pieces : (kept : ℕ) → (101 ∷ 110 ∷ 100 ∷ space) ++ (decimal kept ++ newline) ≡ end_bytes kept
unfolding end_bytes
end_pieces kept = simp append_assoc
