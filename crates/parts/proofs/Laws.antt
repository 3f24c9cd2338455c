-- Laws of numbers read from bytes, and of ids: their order is that of their byte strings.
use Rattle.std.proofs.Common.{ℕ, zero, suc, ◌+◌, ◌-◌, ◌*◌, ◌/◌, ◌%◌, ◌^◌, ◌≤◌, ◌<◌, mul-le-mul_left, suc-mul, mul_comm, mul_assoc, add-mul, div-one, arith, pow-add, ◌≡◌, refl, ap, sym, ◌∙◌, List, [], ◌∷◌, ◌++◌, length, get_or, take, drop, length-append, length-take, length-drop, drop-cons, take-suc, take-add, take-take, take_all, drop-drop, length-take-le, get_or-take, get_or-drop, slice_index, nat_cmp, Ordering, Less, Equal, Greater}
use Rattle.std.proofs.Math.Nat.{pow-succ', div-div-eq-div-mul}
use Rattle.std.proofs.Math.ListN.{get_or-eq_default}
use Rattle.std.proofs.lemmas.Bool.Decides.{nat_tests}
use Rattle.std.proofs.lemmas.Cmp.{ranked}
use Rattle.std.specs.Cmp.{nat_cmp_is}
use Rattle.std.specs.Int.{byte_at, byte_worth, bytes_low_first, bytes_high_first, sum_through}
use Rattle.std.specs.Ordering.{MatchOrdering, ordering_then}
use native.Mathlib.Decide.{dec_lt}
use Rattle.parts.specs.Bytes.{little, big, bytes_at, little_at, big_at, little_bytes, big_bytes, Bytes}
use Rattle.parts.specs.Code.{number}
use Rattle.parts.specs.Parts.{order, order_then, order_of_bytes}
use Rattle.parts.specs.declared.Id.{Id}

-- ---- bytes one after the other

pub at_split : (m n : ℕ) (s : List ℕ) (at : ℕ) → bytes_at (m + n) s at ≡ bytes_at m s at ++ bytes_at n s (at + m)
at_split m n s at = rw (take-add m n (drop at s), drop-drop m at s)

pub at_length : (n : ℕ) (s : List ℕ) (at : ℕ) → at + n ≤ length s → length (bytes_at n s at) ≡ n
at_length n s at h = length-take-le n (drop at s) (simp length-drop (omega arith))

pub at_one : (s : List ℕ) (at : ℕ) → at < length s → bytes_at 1 s at ≡ get_or s at 0 ∷ []
at_one s at h = rw (drop-cons s at 0 h)

-- a part of a front is a part of the whole
pub part_front : (e n at : ℕ) (s : List ℕ) → at + n ≤ e → bytes_at n (take e s) at ≡ bytes_at n s at
part_front e n zero s h = take-take n e s (omega arith)
part_front zero n (suc at) s h = absurd (omega arith)
part_front (suc e) n (suc at) [] h = refl
part_front (suc e) n (suc at) (x ∷ s) h = part_front e n at s (omega arith)

little-append : (l m : List ℕ) → little (l ++ m) ≡ little l + 256 ^ length l * little m
unfolding little
little-append [] m = omega arith
little-append (x ∷ l) m = rw (little-append l m) (omega (arith, mul_assoc 256 (256 ^ length l) (little m), ap (λ (k : ℕ). k * little m) (pow-succ' 256 (length l))))

big-append : (l m : List ℕ) → big (l ++ m) ≡ big l * 256 ^ length m + big m
unfolding big
big-append [] m = omega arith
big-append (x ∷ l) m =
    rw (big-append l m, length-append l m, pow-add 256 (length l) (length m))
    (omega (arith, mul_assoc x (256 ^ length l) (256 ^ length m), add-mul (x * 256 ^ length l) (big l) (256 ^ length m)))

module _ (m n : ℕ) (s : List ℕ) (at : ℕ) where
  pub little_split : at + m ≤ length s → little_at (m + n) s at ≡ little_at m s at + 256 ^ m * little_at n s (at + m)
  unfolding little_at
  little_split h = rw (at_split m n s at, little-append (bytes_at m s at) (bytes_at n s (at + m)), at_length m s at h)

  pub big_split : at + m + n ≤ length s → big_at (m + n) s at ≡ big_at m s at * 256 ^ n + big_at n s (at + m)
  unfolding big_at
  big_split h = rw (at_split m n s at, big-append (bytes_at m s at) (bytes_at n s (at + m)), at_length n s (at + m) h)

pub little-one : (s : List ℕ) (at : ℕ) → at < length s → little_at 1 s at ≡ get_or s at 0
unfolding little_at little
little-one s at h = rw (at_one s at h) (omega arith)

-- the four words of an id
pub big_words : (s : List ℕ) (at : ℕ) → at + 32 ≤ length s →
    big_at 32 s at ≡ ((big_at 8 s at * 2 ^ 64 + big_at 8 s (at + 8)) * 2 ^ 64 + big_at 8 s (at + 16)) * 2 ^ 64 + big_at 8 s (at + 24)
big_words s at h = big_split 24 8 s at (omega arith) ∙ rw (big_split 16 8 s at (omega arith), big_split 8 8 s at (omega arith))

-- ---- the order of numbers, digit by digit

-- which of two numbers is less
pub data Three (a b : ℕ) : Type 0 where
  below : a < b → Three a b
  equal : a ≡ b → Three a b
  above : b < a → Three a b

pub three : (a b : ℕ) → Three a b
three a b = elim (dec_lt a b) [ yes h ↦ below h | no h ↦ elim (dec_lt b a) [ yes g ↦ above g | no g ↦ equal (omega arith) ] ]

-- the order of two numbers is what `cmp` answers
order_then-cmp : (m n : ℕ) (rest : Ordering) → order_then m n rest ≡ ordering_then (nat_cmp m n) rest
unfolding order_then
order_then-cmp m n rest = grind (arith, nat_tests)

pub order-cmp : (m n : ℕ) → order m n ≡ nat_cmp m n
unfolding order order_then
order-cmp m n = grind (arith, nat_tests)

module _ (m n : ℕ) where
  says : MatchOrdering (order m n) (m < n) (m ≡ n) (n < m)
  says = ranked m n (order m n) (order-cmp m n)

  pub order-less : order m n ≡ Less → m < n
  order-less e = rw e at says

  pub order_same : order m n ≡ Equal → m ≡ n
  order_same e = rw e at says

  pub order-more : order m n ≡ Greater → n < m
  order-more e = rw e at says

-- a lower first digit makes a lower number
digit_below : (k a b c d : ℕ) → b < k → a < c → a * k + b < c * k + d
digit_below k a b c d hb h = omega (arith, mul-le-mul_left k h, mul_comm k (suc a), mul_comm k c, suc-mul a k)

-- numbers of two digits are compared by their digits
digits_cmp : (k a b c d : ℕ) → b < k → d < k → nat_cmp (a * k + b) (c * k + d) ≡ ordering_then (nat_cmp a c) (nat_cmp b d)
digits_cmp k a b c d hb hd = sym (nat_cmp_is (a * k + b) (c * k + d) (ordering_then (nat_cmp a c) (nat_cmp b d)) (elim (three a c) [
  | below h ↦ rw (← nat_cmp_is a c Less h) (digit_below k a b c d hb h)
  | equal h ↦ (let e : a * k ≡ c * k = ap (λ (n : ℕ). n * k) h in rw (← nat_cmp_is a c Equal h) (elim (three b d) [
    | below g ↦ rw (← nat_cmp_is b d Less g) (omega arith)
    | equal g ↦ rw (← nat_cmp_is b d Equal g) (omega arith)
    | above g ↦ rw (← nat_cmp_is b d Greater g) (omega arith)
  ]))
  | above h ↦ rw (← nat_cmp_is a c Greater h) (digit_below k c d a b hd h)
]))

-- ---- byte strings

pub big-below : (s : List ℕ) → Bytes s → big s < 256 ^ length s
unfolding big
big-below [] b = omega arith
big-below (x ∷ s) b =
    let h = big-below s (λ k. b (suc k)) in
    let g : x < 256 = b 0 in
    let f : (suc x) * 256 ^ length s ≤ 256 * 256 ^ length s = rw (mul_comm (suc x) (256 ^ length s), mul_comm 256 (256 ^ length s)) (mul-le-mul_left (256 ^ length s) g) in
    omega (arith, suc-mul x (256 ^ length s), pow-succ' 256 (length s))

-- the order of the numbers is the order of the byte strings
pub order-of-bytes : (s t : List ℕ) → Bytes s → Bytes t → length s ≡ length t → order (big s) (big t) ≡ order_of_bytes s t
unfolding big order_of_bytes
order-of-bytes [] [] bs bt e = order-cmp 0 0
order-of-bytes [] (y ∷ t) bs bt e = absurd (omega arith)
order-of-bytes (x ∷ s) [] bs bt e = absurd (omega arith)
order-of-bytes (x ∷ s) (y ∷ t) bs bt e =
    let f : length s ≡ length t = omega arith in
    let below-s = big-below s (λ k. bs (suc k)) in
    let below-t : big t < 256 ^ length s = rw f (big-below t (λ k. bt (suc k))) in
    rw (order-cmp, ← f, digits_cmp (256 ^ length s) x (big s) y (big t) below-s below-t, order_then-cmp, ← order-of-bytes s t (λ k. bs (suc k)) (λ k. bt (suc k)) f, order-cmp)

-- ---- ids of the code: four words

-- an id of four zeros is the number 0
pub number_zero : number (record { a = 0; b = 0; c = 0; d = 0 }) ≡ 0
unfolding number
number_zero = refl

-- the words of an id fit
pub record Words (x : Id) : Type 0 where
  pub wa : x.a < 2 ^ 64
  pub wb : x.b < 2 ^ 64
  pub wc : x.c < 2 ^ 64
  pub wd : x.d < 2 ^ 64

-- equal numbers have equal words
pub number_same : (x y : Id) → Words x → Words y → number x ≡ number y → (x.a ≡ y.a) × (x.b ≡ y.b) × (x.c ≡ y.c) × (x.d ≡ y.d)
unfolding number
number_same x y v w e = (omega (arith, v.wa, w.wa), omega (arith, v.wb, w.wb), omega (arith, v.wc, w.wc), omega arith)

-- ---- bytes at places

pub at-bytes : (n : ℕ) (s : List ℕ) (at : ℕ) → Bytes s → Bytes (bytes_at n s at)
at-bytes n s at b k = elim (dec_lt k n) [
  | yes h ↦ rw (get_or-take n (drop at s) k 0 h, get_or-drop at s k 0) (b (at + k))
  | no h ↦ (let e : get_or (bytes_at n s at) k 0 ≡ 0 = get_or-eq_default (bytes_at n s at) 0 (simp length-take (omega arith)) in omega arith)
]

pub rest-bytes : (n : ℕ) (s : List ℕ) → Bytes s → Bytes (drop n s)
rest-bytes n s b k = rw (get_or-drop n s k 0) (b (n + k))

pub big-fits : (n : ℕ) (s : List ℕ) (at : ℕ) → Bytes s → at + n ≤ length s → big_at n s at < 256 ^ n
unfolding big_at
big-fits n s at b h = rw (at_length n s at h) at (big-below (bytes_at n s at) (at-bytes n s at b))

-- ---- the numbers that `from_le_bytes` and `from_be_bytes` read

worth : (i b : ℕ) → byte_worth i b ≡ b * 256 ^ i
worth zero b = omega arith
worth (suc i) b = refl

-- their sums, up to a byte
little_sum : (l : List ℕ) (n : ℕ) → n < length l → sum_through (λ i. byte_worth i (slice_index l i)) n ≡ little (take (suc n) l)
unfolding little
little_sum l zero h = rw (take-suc l 0 0) (omega arith)
little_sum l (suc n) h = rw (take-suc l (suc n) 0, little-append, little_sum l n (omega arith), length-take-le (suc n) l (omega arith)) (omega arith)

big_sum : (l : List ℕ) (m n : ℕ) → n ≤ m → n < length l → sum_through (λ i. byte_worth (m - i) (slice_index l i)) n ≡ big (take (suc n) l) * 256 ^ (m - n)
unfolding big
big_sum l m zero g h = rw (take-suc l 0 0, worth) (omega arith)
big_sum l m (suc n) g h =
    let e : m - n ≡ suc (m - suc n) = omega arith in
    rw (take-suc l (suc n) 0, worth (m - suc n), big_sum l m n (omega arith) (omega arith), big-append, e, pow-succ' 256 (m - suc n))
    (omega arith)

-- of the n bytes at a place
module _ (n : ℕ) (s : List ℕ) (at : ℕ) where
  pub read_little : 0 < n → at + n ≤ length s → little_at n s at ≡ sum_through (λ i. byte_worth i (slice_index (bytes_at n s at) i)) (n - 1)
  unfolding little_at
  read_little h g =
      let long = at_length n s at g in
      let next : suc (n - 1) ≡ n = omega arith in
      rw (little_sum (bytes_at n s at) (n - 1) (omega arith), next, take_all n (bytes_at n s at) (omega arith))

  pub read_big : 0 < n → at + n ≤ length s → big_at n s at ≡ sum_through (λ i. byte_worth (n - 1 - i) (slice_index (bytes_at n s at) i)) (n - 1)
  unfolding big_at
  read_big h g =
      let long = at_length n s at g in
      let next : suc (n - 1) ≡ n = omega arith in
      let none : n - 1 - (n - 1) ≡ 0 = omega arith in
      rw (big_sum (bytes_at n s at) (n - 1) (n - 1) (omega arith) (omega arith), next, none, take_all n (bytes_at n s at) (omega arith))
      (omega arith)

-- ---- the bytes that `to_le_bytes` and `to_be_bytes` make

byte_is : (i x : ℕ) → byte_at i x ≡ x / 256 ^ i % 256
byte_is zero x = rw (div-one x)
byte_is (suc i) x = refl

low_first : (i n x : ℕ) → bytes_low_first i n x ≡ little_bytes n (x / 256 ^ i)
unfolding little_bytes
low_first i zero x = refl
low_first i (suc n) x =
    rw (byte_is i x, low_first (suc i) n x, pow-succ' 256 i, mul_comm 256 (256 ^ i), ← div-div-eq-div-mul x (256 ^ i) 256)

pub write_little : (n x : ℕ) → little_bytes n x ≡ bytes_low_first 0 n x
write_little n x = sym (low_first 0 n x ∙ ap (little_bytes n) (div-one x))

pub write_big : (n x : ℕ) → big_bytes n x ≡ bytes_high_first n x
unfolding big_bytes
write_big zero x = refl
write_big (suc n) x = rw (byte_is n x, write_big n x)

-- ---- a number's bytes, the first lowest, both ways

-- the bytes of a number that was read from bytes are these
pub little-bytes : (l : List ℕ) → Bytes l → little_bytes (length l) (little l) ≡ l
unfolding little little_bytes
little-bytes [] b = refl
little-bytes (x ∷ l) b =
    let h : x < 256 = b 0 in
    let low : (x + 256 * little l) % 256 ≡ x = omega arith in
    let high : (x + 256 * little l) / 256 ≡ little l = omega arith in
    rw (low, high, little-bytes l (λ k. b (suc k)))

pub little-length : (n x : ℕ) → length (little_bytes n x) ≡ n
unfolding little_bytes
little-length zero x = refl
little-length (suc n) x = ap suc (little-length n (x / 256))

-- a number that fits them is read back
pub little-back : (n x : ℕ) → x < 256 ^ n → little (little_bytes n x) ≡ x
unfolding little little_bytes
little-back zero x h = omega arith
little-back (suc n) x h =
    let g : x / 256 < 256 ^ n = omega (arith, pow-succ' 256 n) in
    rw (little-back n (x / 256) g) (omega arith)

pub little-of : (n : ℕ) (s : List ℕ) (at : ℕ) → Bytes s → at + n ≤ length s → little_bytes n (little_at n s at) ≡ bytes_at n s at
unfolding little_at
little-of n s at b h = rw (at_length n s at h) at (little-bytes (bytes_at n s at) (at-bytes n s at b))
