-- Laws of bytes that are written into a list: the bytes of a number, and where they stand.
use Rattle.std.proofs.Common.{ℕ, zero, suc, ◌+◌, ◌*◌, ◌/◌, ◌%◌, ◌^◌, ◌≤◌, ◌<◌, add-zero, zero-add, add-suc, suc-add, mul_assoc, mul_comm, mod-eq_of_lt, arith, ◌≡◌, refl, ap, sym, ◌∙◌, List, [], ◌∷◌, ◌++◌, append_assoc, append-nil, pow-add, length, take, drop, length-append, take-append-drop, take_at, drop_at, length-take-le, drop-drop, set, ◌-◌, ◌⊎◌, inl, inr}
use Rattle.std.proofs.Math.Nat.{pow-succ', one-le-pow, mul-add-div_right, mul-add-mod_self_right, div-div-eq-div-mul, mod-one}
use Rattle.std.proofs.Math.Arith.{digits_div, mod-mul}
use Rattle.std.proofs.Math.Seq.{sets, sets-eq, length-sets, drop-append-add}
use lib.Seq.{set_comm, take-append-le, drop-append-le}
use Rattle.parts.specs.Bytes.{big, bytes_at, big_bytes, put_at, Bytes}
use Rattle.parts.proofs.Laws.{part_front, at_length}

-- ---- the bytes of a number

power : (n : ℕ) → 0 < 256 ^ n
power n = one-le-pow n 256 (omega arith)

pub bytes-length : (n x : ℕ) → length (big_bytes n x) ≡ n
unfolding big_bytes
bytes-length zero x = refl
bytes-length (suc n) x = ap suc (bytes-length n x)

-- read back, a number is what its bytes can hold of it
bytes_rest : (n x : ℕ) → big (big_bytes n x) ≡ x % 256 ^ n
unfolding big big_bytes
bytes_rest zero x = sym (mod-one x)
bytes_rest (suc n) x =
    rw (bytes-length n x, bytes_rest n x, pow-succ' 256 n) (sym (mod-mul x (omega arith) (power n)))

pub big-bytes : (n x : ℕ) → x < 256 ^ n → big (big_bytes n x) ≡ x
big-bytes n x h = bytes_rest n x ∙ mod-eq_of_lt h

-- what stands higher leaves the lower bytes alone
bytes_low : (n x y : ℕ) → big_bytes n (x * 256 ^ n + y) ≡ big_bytes n y
unfolding big_bytes
bytes_low zero x y = refl
bytes_low (suc n) x y =
    let e : x * 256 ^ suc n ≡ x * 256 * 256 ^ n = rw (pow-succ' 256 n) (sym (mul_assoc x 256 (256 ^ n))) in
    rw (e, mul-add-div_right (power n) (x * 256) y, mul-add-mod_self_right x 256 (y / 256 ^ n), bytes_low n (x * 256) y)

-- the bytes of a number of two parts
pub bytes_split : (m n x y : ℕ) → y < 256 ^ n → big_bytes (m + n) (x * 256 ^ n + y) ≡ big_bytes m x ++ big_bytes n y
unfolding big_bytes
bytes_split zero n x y h = rw (zero-add n) (bytes_low n x y)
bytes_split (suc m) n x y h =
    let e : (x * 256 ^ n + y) / 256 ^ (m + n) ≡ x / 256 ^ m =
    rw (pow-add 256 m n, mul_comm (256 ^ m) (256 ^ n), ← div-div-eq-div-mul (x * 256 ^ n + y) (256 ^ n) (256 ^ m), digits_div x h) in
    rw (suc-add m n, e, bytes_split m n x y h)

pub bytes_below : (n x : ℕ) → Bytes (big_bytes n x)
unfolding big_bytes
bytes_below zero x k = omega arith
bytes_below (suc n) x zero = omega arith
bytes_below (suc n) x (suc k) = bytes_below n x k

-- ---- a run of elements in a list

-- nothing is written
pub put_nothing : (l : List ℕ) (at : ℕ) → put_at l at [] ≡ l
unfolding put_at
put_nothing l at = rw (append-nil (take at l), add-zero at) (take-append-drop at l)

-- stores one after the other are one run
pub put_is : (l : List ℕ) (at : ℕ) (vs : List ℕ) → at + length vs ≤ length l → sets l at vs ≡ put_at l at vs
unfolding put_at
put_is l at vs h = sets-eq vs l at h

pub put_length : (l : List ℕ) (at : ℕ) (vs : List ℕ) → at + length vs ≤ length l → length (put_at l at vs) ≡ length l
put_length l at vs h = sym (ap length (put_is l at vs h)) ∙ length-sets l at vs

sets_append : (l : List ℕ) (i : ℕ) (xs ys : List ℕ) → sets l i (xs ++ ys) ≡ sets (sets l i xs) (i + length xs) ys
sets_append l i [] ys = ap (λ (k : ℕ). sets l k ys) (sym (add-zero i))
sets_append l i (x ∷ xs) ys =
    sets_append _ (suc i) xs ys ∙ ap (λ (k : ℕ). sets (sets l i (x ∷ xs)) k ys) (suc-add i (length xs) ∙ sym (add-suc i (length xs)))

-- a run after a run
pub put_put : (l : List ℕ) (at : ℕ) (xs ys : List ℕ) (n : ℕ) → at + length xs ≡ n → n + length ys ≤ length l → put_at (put_at l at xs) n ys ≡ put_at l at (xs ++ ys)
put_put l at xs ys n e h =
    let f : at + length xs ≤ length l = omega arith in
    let g : n + length ys ≤ length (put_at l at xs) = rw (put_length l at xs f) h in
    let k : at + length (xs ++ ys) ≤ length l = rw (length-append xs ys) (omega arith) in
    sym (put_is (put_at l at xs) n ys g)
    ∙ (ap (λ (m : List ℕ). sets m n ys) (sym (put_is l at xs f))
    ∙ (ap (λ (m : ℕ). sets (sets l at xs) m ys) (sym e)
    ∙ (sym (sets_append l at xs ys) ∙ put_is l at (xs ++ ys) k)))

-- a run right after what is there already
pub put_after : (xs ys vs : List ℕ) (n : ℕ) → length xs ≡ n → put_at (xs ++ ys) n vs ≡ (xs ++ vs) ++ drop (length vs) ys
unfolding put_at
put_after xs ys vs n e =
    rw (take_at xs ys n e) (ap (λ (r : List ℕ). xs ++ vs ++ r) (ap (λ (k : ℕ). drop (k + length vs) (xs ++ ys)) (sym e) ∙ drop-append-add xs ys (length vs)))

-- a run that was written is read back
pub put_read : (l : List ℕ) (at : ℕ) (vs : List ℕ) (n : ℕ) → length vs ≡ n → at ≤ length l → bytes_at n (put_at l at vs) at ≡ vs
unfolding put_at
put_read l at vs n e h =
    rw (append_assoc (take at l) vs (drop (at + length vs) l), drop_at (take at l) (vs ++ drop (at + length vs) l) at (length-take-le at l h))
    (take_at vs (drop (at + length vs) l) n e)

-- ---- what a run leaves

put_unfolded : (l : List ℕ) (at : ℕ) (vs : List ℕ) → put_at l at vs ≡ take at l ++ vs ++ drop (at + length vs) l
unfolding put_at
put_unfolded l at vs = refl

put_first : (out rec : List ℕ) → put_at out 0 rec ≡ rec ++ drop (length rec) out
unfolding put_at
put_first out rec = ap (λ n. rec ++ drop n out) (zero-add (length rec))

module _ (s : List ℕ) (at : ℕ) (c : List ℕ) (room : at + length c ≤ length s) where
  put-front : take at (put_at s at c) ≡ take at s
  unfolding put_at
  put-front = rw (append_assoc (take at s) c (drop (at + length c) s)) (take_at (take at s) (c ++ drop (at + length c) s) at (length-take-le at s (omega arith)))

  put-rest : drop (at + length c) (put_at s at c) ≡ drop (at + length c) s
  unfolding put_at
  put-rest =
      let front = length-take-le at s (omega arith) in
      drop_at (take at s ++ c) (drop (at + length c) s) (at + length c) (length-append (take at s) c ∙ omega arith)

  -- what stands before the place or after the bytes that are put there
  pub put-apart : (n i : ℕ) → (i + n ≤ at) ⊎ (at + length c ≤ i) → bytes_at n (put_at s at c) i ≡ bytes_at n s i
  put-apart n i (inl h) =
      sym (part_front at n i (put_at s at c) h) ∙ (ap (λ l. bytes_at n l i) put-front ∙ part_front at n i s h)
  put-apart n i (inr h) =
      let e : at + length c + (i - (at + length c)) ≡ i = omega arith in
      let later = λ (l : List ℕ). sym (ap (λ m. drop m l) (sym e) ∙ sym (drop-drop (i - (at + length c)) (at + length c) l)) in
      ap (take n) (sym (later (put_at s at c)) ∙ (ap (drop (i - (at + length c))) put-rest ∙ later s))

  -- another run as long, at the same place
  pub put-over : (d : List ℕ) → length d ≡ length c → put_at (put_at s at c) at d ≡ put_at s at d
  put-over d e =
      let last = ap (λ n. at + n) e in
      rw (put_unfolded (put_at s at c) at d, put_unfolded s at d, last, put-front, put-rest) refl

-- what stands there already
pub put-same : (s : List ℕ) (n at : ℕ) → at + n ≤ length s → put_at s at (bytes_at n s at) ≡ s
unfolding put_at
put-same s n at h =
    rw (
      at_length n s at h,
      append_assoc (take at s) (bytes_at n s at) (drop (at + n) s),
      ← drop-drop n at s,
      take-append-drop n (drop at s),
      take-append-drop at s,
    ) refl

-- runs that lie apart may be written in either order
set_sets : (l : List ℕ) (i j a : ℕ) (ys : List ℕ) → i < j → sets (set l i a) j ys ≡ set (sets l j ys) i a
set_sets l i j a [] h = refl
set_sets l i j a (y ∷ ys) h = ap (λ m. sets m (suc j) ys) (set_comm l i j a y (λ e. omega arith)) ∙ set_sets (set l j y) i (suc j) a ys (omega arith)

sets_comm : (l : List ℕ) (i j : ℕ) (xs ys : List ℕ) → i + length xs ≤ j → sets (sets l i xs) j ys ≡ sets (sets l j ys) i xs
sets_comm l i j [] ys h = refl
sets_comm l i j (x ∷ xs) ys h = sets_comm (set l i x) (suc i) j xs ys (omega arith) ∙ ap (λ m. sets m (suc i) xs) (set_sets l i j x ys (omega arith))

pub put-either : (l : List ℕ) (i j : ℕ) (xs ys : List ℕ) → i + length xs ≤ j → j + length ys ≤ length l →
    put_at (put_at l i xs) j ys ≡ put_at (put_at l j ys) i xs
put-either l i j xs ys h g =
    let first = put_is l i xs (omega arith) in
    let second = put_is l j ys g in
    rw (
      ← put_is (put_at l i xs) j ys (omega (arith, put_length l i xs (omega arith))),
      ← put_is (put_at l j ys) i xs (omega (arith, put_length l j ys g)),
      ← first,
      ← second,
    ) (sets_comm l i j xs ys h)

-- a run within a run
pub put-inside : (out rec : List ℕ) (at : ℕ) (c : List ℕ) → length rec ≤ length out → at + length c ≤ length rec →
    put_at (put_at out 0 rec) at c ≡ put_at out 0 (put_at rec at c)
put-inside out rec at c h g =
    let rest = drop (length rec) out in
    let whole : put_at out 0 rec ≡ rec ++ rest = put_first out rec in
    rw (whole, put_first out (put_at rec at c), put_length rec at c g, put_unfolded (rec ++ rest) at c, put_unfolded rec at c)
    (rw (
      take-append-le at rec rest (omega arith),
      drop-append-le (at + length c) rec rest g,
      append_assoc (take at rec ++ c) (drop (at + length c) rec) rest,
    ) refl)

-- ---- ids

-- the bytes of a number of four words
bytes_words : (a b c d : ℕ) → b < 2 ^ 64 → c < 2 ^ 64 → d < 2 ^ 64 →
    big_bytes 32 (((a * 2 ^ 64 + b) * 2 ^ 64 + c) * 2 ^ 64 + d) ≡ big_bytes 8 a ++ big_bytes 8 b ++ big_bytes 8 c ++ big_bytes 8 d
bytes_words a b c d hb hc hd =
    bytes_split 24 8 ((a * 2 ^ 64 + b) * 2 ^ 64 + c) d hd ∙ rw (bytes_split 16 8 (a * 2 ^ 64 + b) c hc, bytes_split 8 8 a b hb)

-- the four words of an id
pub put_words : (l : List ℕ) (at a b c d : ℕ) → at + 32 ≤ length l → b < 2 ^ 64 → c < 2 ^ 64 → d < 2 ^ 64 →
    put_at (put_at (put_at (put_at l at (big_bytes 8 a)) (at + 8) (big_bytes 8 b)) (at + 16) (big_bytes 8 c)) (at + 24) (big_bytes 8 d)
    ≡ put_at l at (big_bytes 32 (((a * 2 ^ 64 + b) * 2 ^ 64 + c) * 2 ^ 64 + d))
put_words l at a b c d h hb hc hd =
    let la = bytes-length 8 a in let lb = bytes-length 8 b in let lc = bytes-length 8 c in let ld = bytes-length 8 d in
    let lab : length (big_bytes 8 a ++ big_bytes 8 b) ≡ 16 = simp (length-append, la, lb) in
    let labc : length (big_bytes 8 a ++ big_bytes 8 b ++ big_bytes 8 c) ≡ 24 = simp (length-append, la, lb, lc) in
    rw (put_put l at (big_bytes 8 a) (big_bytes 8 b) (at + 8) (omega arith) (omega arith))
    (rw (put_put l at (big_bytes 8 a ++ big_bytes 8 b) (big_bytes 8 c) (at + 16) (omega arith) (omega arith))
    (rw (put_put l at (big_bytes 8 a ++ big_bytes 8 b ++ big_bytes 8 c) (big_bytes 8 d) (at + 24) (omega arith) (omega arith))
    (ap (put_at l at) (sym (bytes_words a b c d hb hc hd)))))

-- three runs, each after the one before
pub put_three : (l : List ℕ) (at : ℕ) (xs ys zs : List ℕ) (m n : ℕ) → at + length xs ≡ m → m + length ys ≡ n → n + length zs ≤ length l → put_at (put_at (put_at l at xs) m ys) n zs ≡ put_at l at (xs ++ ys ++ zs)
put_three l at xs ys zs m n e f h =
    let k : at + length (xs ++ ys) ≡ n = rw (length-append xs ys) (omega arith) in
    rw (put_put l at xs ys m e (omega arith)) (put_put l at (xs ++ ys) zs n k h)
