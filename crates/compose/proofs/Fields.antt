-- Laws of fields that are written piece by piece, and of rows that are written one by one.
use Prim.Native.Nat.{ℕ, suc, ◌+◌, ◌*◌, ◌≤◌, ◌<◌}
use native.Mathlib.Nat.{add-zero, zero-add, mul-suc}
use native.Mathlib.Numerals.{add-one}
use native.Mathlib.Omega.{arith}
use mathlib.Core.Path.{◌≡◌, refl, ap, sym, ◌∙◌}
use mathlib.Core.List.{List, [], ◌∷◌, ◌++◌, append_assoc, append-nil}
use lib.ListN.{length, get_or, take, length-append}
use lib.Seq.{take-suc, take_all, length-take-le, get_or-take}
use Rattle.parts.specs.Bytes.{bytes_at, little_bytes, put_at}
use Rattle.parts.proofs.Laws.{at_length, at_split, little-length}
use Rattle.write.proofs.Laws.{put_nothing, put_length, put_put}
use Rattle.record.specs.Record.{rows}
use Rattle.record.specs.Fields.{field_bytes, fields_bytes, record_bytes}
use Rattle.compose.specs.Code.{block_at, blocks, InOrder}

-- ---- a field

pub field_length : (tag : ℕ) (content : List ℕ) → length (field_bytes tag content) ≡ 3 + length content
unfolding field_bytes little_bytes
field_length tag content = omega arith

module _ (out : List ℕ) (at tag n : ℕ) where
  -- its content after its head
  pub put_content : (content : List ℕ) → n ≡ length content → at + 3 + length content ≤ length out →
      put_at (put_at out at (tag ∷ little_bytes 2 n)) (at + 3) content ≡ put_at out at (field_bytes tag content)
  unfolding field_bytes
  put_content content e h =
      let head : at + length (tag ∷ little_bytes 2 n) ≡ at + 3 = omega (arith, little-length 2 n) in
      put_put out at (tag ∷ little_bytes 2 n) content (at + 3) head h ∙ ap (λ m. put_at out at (tag ∷ little_bytes 2 m ++ content)) e

  -- a content of two parts
  pub put_parts : (xs ys : List ℕ) (m : ℕ) → at + 3 + length xs ≡ m → n ≡ length xs + length ys → m + length ys ≤ length out →
      put_at (put_at (put_at out at (tag ∷ little_bytes 2 n)) (at + 3) xs) m ys ≡ put_at out at (field_bytes tag (xs ++ ys))
  put_parts xs ys m f e h =
      let head : length (tag ∷ little_bytes 2 n) ≡ 3 = omega (arith, little-length 2 n) in
      let long = put_length out at (tag ∷ little_bytes 2 n) (omega arith) in
      put_put (put_at out at (tag ∷ little_bytes 2 n)) (at + 3) xs ys m f (omega arith)
      ∙ put_content (xs ++ ys) (omega (arith, length-append xs ys)) (omega (arith, length-append xs ys))

-- of two numbers
pub numbers-long : (n x y : ℕ) → length (little_bytes n x ++ little_bytes n y) ≡ n + n
numbers-long n x y = omega (arith, length-append (little_bytes n x) (little_bytes n y), little-length n x, little-length n y)

pub put_numbers : (out : List ℕ) (at tag w x y m : ℕ) → at + 3 + w ≡ m → m + w ≤ length out →
    put_at (put_at (put_at out at (tag ∷ little_bytes 2 (2 * w))) (at + 3) (little_bytes w x)) m (little_bytes w y)
    ≡ put_at out at (field_bytes tag (little_bytes w x ++ little_bytes w y))
put_numbers out at tag w x y m e h =
    let a = little-length w x in
    let b = little-length w y in
    put_parts out at tag (2 * w) (little_bytes w x) (little_bytes w y) m (omega arith) (omega arith) (omega arith)

-- ---- a record

-- fields that were written one after the other from the front on, and where they end
pub record Laid (old done : List ℕ) (at : ℕ) (new : List ℕ) : Type 0 where
  pub bytes : new ≡ put_at old 0 done
  pub end : at ≡ length done

pub laid_none : (old : List ℕ) → Laid old [] 0 old
laid_none old = record { bytes = sym (put_nothing old 0); end = refl }

-- one field more
pub laid_next : {old done new next : List ℕ} {at after : ℕ} (tag : ℕ) (content : List ℕ) → Laid old done at new →
    next ≡ put_at new at (field_bytes tag content) → after ≡ at + 3 + length content → after ≤ length old →
    Laid old (done ++ field_bytes tag content) after next
laid_next {old} {done} {new} {next} {at} {after} tag content l e f h =
    let long = field_length tag content in
    let here = l.end in
    record {
      bytes =
          e
          ∙ (ap (λ s. put_at s at (field_bytes tag content)) l.bytes
          ∙ put_put old 0 done (field_bytes tag content) at (omega arith) (omega arith));
      end = omega (arith, length-append done (field_bytes tag content));
    }

to_right : (a b c d e f g h i : List ℕ) →
    ((((((((([] ++ a) ++ b) ++ c) ++ d) ++ e) ++ f) ++ g) ++ h) ++ i) ≡ a ++ (b ++ (c ++ (d ++ (e ++ (f ++ (g ++ (h ++ (i ++ []))))))))
to_right a b c d e f g h i = simp (append_assoc, append-nil)

-- nine fields
pub nine_laid : (a b c d e f g h i : List ℕ) →
    ((((((((([] ++ field_bytes 1 a) ++ field_bytes 2 b) ++ field_bytes 3 c) ++ field_bytes 4 d) ++ field_bytes 5 e) ++ field_bytes 6 f)
    ++ field_bytes 7 g) ++ field_bytes 8 h) ++ field_bytes 9 i)
    ≡ record_bytes (a ∷ b ∷ c ∷ d ∷ e ∷ f ∷ g ∷ h ∷ i ∷ [])
unfolding record_bytes fields_bytes rows
nine_laid a b c d e f g h i =
    to_right
    (field_bytes 1 a)
    (field_bytes 2 b)
    (field_bytes 3 c)
    (field_bytes 4 d)
    (field_bytes 5 e)
    (field_bytes 6 f)
    (field_bytes 7 g)
    (field_bytes 8 h)
    (field_bytes 9 i)

-- ---- rows by an order

-- the rows at the positions of an order lie in the bytes
abbrev pub Inside : List ℕ → ℕ → List ℕ → Type 0
Inside s first order = (k : ℕ) → k < length order → 32 * (first + get_or order k 0) + 32 ≤ length s

-- those at its first positions
pub front-inside : (s : List ℕ) (first : ℕ) (order : List ℕ) (n : ℕ) → n ≤ length order →
    ((k : ℕ) → k < n → 32 * (first + get_or order k 0) + 32 ≤ length s) → Inside s first (take n order)
front-inside s first order n h f k l =
    let long = length-take-le n order h in
    rw (get_or-take n order k 0 (omega arith)) (f k (omega arith))

module _ (s : List ℕ) (first : ℕ) where
  pub blocks-length : (order : List ℕ) → Inside s first order → length (blocks s first order) ≡ 32 * length order
  unfolding blocks
  blocks-length [] h = refl
  blocks-length (i ∷ order) h =
      omega (
        arith,
        length-append (block_at s first i) (blocks s first order),
        at_length 32 s (32 * (first + i)) (h 0 (omega arith)),
        blocks-length order (λ k l. h (suc k) (omega arith)),
        mul-suc 32 (length order),
      )

  blocks-append : (a b : List ℕ) → blocks s first (a ++ b) ≡ blocks s first a ++ blocks s first b
  unfolding blocks
  blocks-append [] b = refl
  blocks-append (i ∷ a) b =
      ap (λ l. block_at s first i ++ l) (blocks-append a b) ∙ sym (append_assoc (block_at s first i) (blocks s first a) (blocks s first b))

  blocks-one : (i : ℕ) → blocks s first (i ∷ []) ≡ block_at s first i
  unfolding blocks
  blocks-one i = append-nil (block_at s first i)

  blocks-next : (order : List ℕ) (k : ℕ) → k < length order →
      blocks s first (take (k + 1) order) ≡ blocks s first (take k order) ++ block_at s first (get_or order k 0)
  blocks-next order k h =
      let i = get_or order k 0 in
      ap (λ n. blocks s first (take n order)) (add-one k)
      ∙ (ap (blocks s first) (take-suc order k 0 h)
      ∙ (blocks-append (take k order) (i ∷ []) ∙ ap (λ l. blocks s first (take k order) ++ l) (blocks-one i)))

  -- rows at positions that count up from a first one are one piece of the bytes
  blocks_from : (order : List ℕ) (j : ℕ) → ((k : ℕ) → k < length order → get_or order k 0 ≡ j + k) →
      blocks s first order ≡ bytes_at (32 * length order) s (32 * (first + j))
  unfolding blocks
  blocks_from [] j h = refl
  blocks_from (i ∷ order) j h =
      let here : i ≡ j = omega (arith, h 0 (omega arith)) in
      let later = blocks_from order (suc j) (λ k l. omega (arith, h (suc k) (omega arith))) in
      let next : 32 * (first + j) + 32 ≡ 32 * (first + suc j) = omega arith in
      let many : 32 * length (i ∷ order) ≡ 32 + 32 * length order = omega arith in
      rw (many, here, later, at_split 32 (32 * length order) s (32 * (first + j)), next) refl

  pub blocks_in_order : (order : List ℕ) → InOrder order → blocks s first order ≡ bytes_at (32 * length order) s (32 * first)
  blocks_in_order order h = rw add-zero at (blocks_from order 0 (λ k l. h k l ∙ sym (zero-add k)))

-- the first k of an order's rows are written at a place
abbrev pub Placed : List ℕ → ℕ → List ℕ → List ℕ → ℕ → ℕ → List ℕ → Type 0
Placed s first order old at k new = new ≡ put_at old at (blocks s first (take k order))

module _ (s : List ℕ) (first : ℕ) (order old : List ℕ) (at : ℕ) (room : at + 32 * length order ≤ length old) (h : Inside s first order) where
  pub placed_start : Placed s first order old at 0 old
  unfolding blocks
  placed_start = sym (put_nothing old at)

  front-length : (k : ℕ) → k ≤ length order → length (blocks s first (take k order)) ≡ 32 * k
  front-length k g =
      let n = length-take-le k order g in
      blocks-length s first (take k order) (λ i l. rw (get_or-take k order i 0 (omega arith)) (h i (omega arith))) ∙ ap (λ m. 32 * m) n

  pub placed_step : (k : ℕ) (new : List ℕ) → k < length order → Placed s first order old at k new →
      Placed s first order old at (k + 1) (put_at new (at + 32 * k) (block_at s first (get_or order k 0)))
  placed_step k new g e =
      let i = get_or order k 0 in
      let here = front-length k (omega arith) in
      let wide = at_length 32 s (32 * (first + i)) (h k g) in
      ap (λ l. put_at l (at + 32 * k) (block_at s first i)) e
      ∙ (put_put old at (blocks s first (take k order)) (block_at s first i) (at + 32 * k) (omega arith) (omega arith)
      ∙ ap (put_at old at) (sym (blocks-next s first order k g)))

  pub placed_end : (k : ℕ) (new : List ℕ) → length order ≤ k → Placed s first order old at k new → new ≡ put_at old at (blocks s first order)
  placed_end k new g e = e ∙ ap (λ l. put_at old at (blocks s first l)) (take_all k order g)

pub ruleset placed = (placed_start, placed_step, placed_end)
