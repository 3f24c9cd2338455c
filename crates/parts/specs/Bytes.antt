-- The numbers that bytes stand for, and a list with some of its elements replaced.
use Rattle.std.specs.Prelude.{ℕ, zero, suc, ◌+◌, ◌*◌, ◌/◌, ◌%◌, ◌^◌, ◌<◌, List, [], ◌∷◌, ◌++◌, length, get_or, take, drop}

-- a byte is below 256
abbrev pub Bytes : List ℕ → Type 0
Bytes s = (k : ℕ) → get_or s k 0 < 256

-- document 01: "Multi-byte numbers are little-endian"
unfoldable pub little : List ℕ → ℕ
little [] = 0
little (x ∷ l) = x + 256 * little l

-- a peer or a digest as one number, its first byte highest: then < is the order of byte strings
unfoldable pub big : List ℕ → ℕ
big [] = 0
big (x ∷ l) = x * 256 ^ length l + big l

-- the n bytes at a place
abbrev pub bytes_at : ℕ → List ℕ → ℕ → List ℕ
bytes_at n s at = take n (drop at s)

unfoldable pub little_at : ℕ → List ℕ → ℕ → ℕ
unfolding little
little_at n s at = little (bytes_at n s at)

unfoldable pub big_at : ℕ → List ℕ → ℕ → ℕ
unfolding big
big_at n s at = big (bytes_at n s at)

-- the 32 bytes of a peer or a digest
abbrev pub id_at : List ℕ → ℕ → ℕ
id_at s at = big_at 32 s at

-- the n bytes of a number, the first highest
unfoldable pub big_bytes : ℕ → ℕ → List ℕ
big_bytes zero x = []
big_bytes (suc n) x = x / 256 ^ n % 256 ∷ big_bytes n x

-- the n bytes of a number, the first lowest
unfoldable pub little_bytes : ℕ → ℕ → List ℕ
little_bytes zero x = []
little_bytes (suc n) x = x % 256 ∷ little_bytes n (x / 256)

-- l with vs in the place of the elements from at on
unfoldable pub put_at : List ℕ → ℕ → List ℕ → List ℕ
put_at l at vs = take at l ++ vs ++ drop (at + length vs) l
