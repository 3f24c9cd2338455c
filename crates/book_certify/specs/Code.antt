-- What certifying leaves of a book's bytes, and what its functions promise each other. s is the book's bytes, x its index, w the walk.
use Rattle.std.specs.Prelude.{ℕ, suc, ◌+◌, ◌-◌, ◌≤◌, ◌<◌, ◌≡◌, ◌⊎◌, Bool, true, false, ◌&&◌, List, [], ◌∷◌, length, get_or, drop, replicate, ltb, Option, None, Some}
use Rattle.base.specs.Base.{pick}
use Rattle.record.specs.Record.{next_at, content_at}
use Rattle.map.specs.Rows.{Pair}
use Rattle.point.specs.Point.{PointId, PointInfo}
use Rattle.schedule.specs.Settings.{Settings}
use Rattle.rules.specs.Mismatch.{is_among}
use Rattle.parts.specs.Limits.{most_kept}
use Rattle.id_index.specs.declared.Index.{Index}
use Rattle.id_index.specs.Code.{count_of, place_in, id_in}
use Rattle.books.specs.Kept.{Kept, Book, mark, Opened}
use Rattle.books.specs.Spread.{has_deps, covers}
use Rattle.books.specs.Layout.{book_bytes, read_book}
use Rattle.book_certify.specs.declared.Walk.{Walk}
use Rattle.book_certify.specs.declared.spread.Deps.{Deps}
use Rattle.book_certify.specs.declared.spread.Deps.TheVariants.{Includes, Witness}

-- the book's bytes with the marks of what the certificate of i covers
abbrev pub Certified : Settings → List ℕ → Index → PointId → List ℕ → Type 0
Certified c s x i t =
    (z : Opened) → read_book s ≡ Some z → t ≡ book_bytes z.bytes (length s) (mark (covers c z.book (Some i)) z.book)

-- the book's bytes with the marks of the entries whose ids pass a test
abbrev pub MarkedBy : List ℕ → (PointId → Bool) → List ℕ → Type 0
MarkedBy s test t = (z : Opened) → read_book s ≡ Some z → t ≡ book_bytes z.bytes (length s) (mark test z.book)

-- ---- entries

-- the entries that bytes are read as
abbrev pub entries_of : Option Opened → Book
entries_of None = []
entries_of (Some z) = z.book

abbrev pub book_in : List ℕ → Book
book_in s = entries_of (read_book s)

-- where entry j ends, the last of them at `end`
abbrev pub end_in : Index → ℕ → ℕ → ℕ
end_in x end j = pick (ltb (j + 1) (count_of x)) (place_in x (j + 1)) end

-- how many rounds back a map's dependencies lie
abbrev pub rounds_of : Deps → ℕ
rounds_of Includes = 1
rounds_of Witness = 2

abbrev pub map_back : Deps → PointInfo → List Pair
map_back Includes p = p.includes
map_back Witness p = p.witness

-- the bytes of that map, of a record at the front of a slice
abbrev pub rows_back : Deps → List ℕ → List ℕ
rows_back Includes s = content_at s 82
rows_back Witness s = content_at s (next_at s 82)

-- an entry passes its mark on to an id by that map
abbrev pub passes : Settings → Kept → Deps → PointId → Bool
passes c k deps i = has_deps c k && is_among (k.point.id.round - rounds_of deps) (map_back deps k.point) i

abbrev pub DepsTold : Settings → List ℕ → ℕ → Bool → Type 0
DepsTold c s j r = (k : Kept) (rest : Book) → drop j (book_in s) ≡ k ∷ rest → r ≡ has_deps c k

-- ---- reached entries

-- none is, and none is chained
pub record IsFresh (w : Walk) : Type 0 where
  pub unreached : w.reached ≡ replicate most_kept false
  pub unlinked : w.heads ≡ replicate 256 0

abbrev pub Reached : Walk → ℕ → Type 0
Reached w j = get_or w.reached j false ≡ true

-- a test of ids says which entries are reached
abbrev pub ReachedTold : List ℕ → Index → Walk → (PointId → Bool) → Type 0
ReachedTold s x w test = (j : ℕ) → j < count_of x → test (id_in s x j) ≡ get_or w.reached j false

-- more is reached, and the chains are as they were
pub record Grown (w v : Walk) : Type 0 where
  pub links : v.links ≡ w.links
  pub heads : v.heads ≡ w.heads
  pub kept : (j : ℕ) → Reached w j → Reached v j

-- what is reached in addition is just the entries whose ids pass a test
pub record Adds (s : List ℕ) (x : Index) (test : PointId → Bool) (w v : Walk) : Type 0 where
  pub grown : Grown w v
  pub only : (j : ℕ) → j < count_of x → Reached v j → Reached w j ⊎ (test (id_in s x j) ≡ true)
  pub all : (j : ℕ) → j < count_of x → test (id_in s x j) ≡ true → Reached v j

abbrev pub Taken : Settings → List ℕ → Index → ℕ → Deps → Walk → Walk → Type 0
Taken c s x j deps w v =
    (k : Kept) (rest : Book) → drop j (book_in s) ≡ k ∷ rest → Adds s x (λ i. get_or w.reached j false && passes c k deps i) w v

-- ---- chains by depth

-- k is one more than an entry of a depth below the round `top`, or 0, and what is said holds of those of that depth from k to n
pub record Cursor (s : List ℕ) (x : Index) (top depth n : ℕ) (P : ℕ → Type 0) (k : ℕ) : Type 0 where
  pub within : k ≤ n
  pub there : (j : ℕ) → k ≡ suc j → (id_in s x j).round + depth ≡ top
  pub past : (j : ℕ) → k ≤ j → j < n → (id_in s x j).round + depth ≡ top → P j

-- k is one more than the last of the first n entries that has a depth, or 0 if there is none
abbrev pub IsLast : List ℕ → Index → ℕ → ℕ → ℕ → ℕ → Type 0
IsLast s x top depth n k = Cursor s x top depth n (λ j. ⊥) k

pub record Chained (s : List ℕ) (x : Index) (top history n : ℕ) (w : Walk) : Type 0 where
  pub last : (d : ℕ) → d ≤ history → IsLast s x top d n (get_or w.heads d 0)
  pub before : (j d : ℕ) → j < n → d ≤ history → (id_in s x j).round + d ≡ top → IsLast s x top d j (get_or w.links j 0)

-- the reached entries are as they were
abbrev pub SameReached : Walk → Walk → Type 0
SameReached w v = v.reached ≡ w.reached

-- ---- what is covered

abbrev pub is_covered : Settings → List ℕ → Index → PointId → ℕ → Bool
is_covered c s x t j = covers c (book_in s) (Some t) (id_in s x j)

-- all that is reached is covered
abbrev pub Sound : Settings → List ℕ → Index → PointId → Walk → Type 0
Sound c s x t w = (j : ℕ) → j < count_of x → Reached w j → is_covered c s x t j ≡ true

-- all that is covered less than n deep is reached
abbrev pub Done : Settings → List ℕ → Index → PointId → ℕ → Walk → Type 0
Done c s x t n w = (j : ℕ) → j < count_of x → t.round < (id_in s x j).round + n → is_covered c s x t j ≡ true → Reached w j

-- at a depth, what the entries above it pass their marks on to by a map is reached; r says that all of the depth is
pub record Passed (c : Settings) (s : List ℕ) (x : Index) (t : PointId) (depth : ℕ) (deps : Deps) (w v : Walk) (r : Bool) : Type 0 where
  pub grown : Grown w v
  pub sound : Sound c s x t w → Sound c s x t v
  pub taken : (j : ℕ) (k : Kept) (rest : Book) → drop j (book_in s) ≡ k ∷ rest → k.point.id.round + depth ≡ t.round + rounds_of deps → Reached w j →
      (i : ℕ) → i < count_of x → passes c k deps (id_in s x i) ≡ true → Reached v i
  pub full : r ≡ true → (i : ℕ) → i < count_of x → (id_in s x i).round + depth ≡ t.round → Reached v i

pub record DepthReached (c : Settings) (s : List ℕ) (x : Index) (t : PointId) (depth : ℕ) (w v : Walk) : Type 0 where
  pub grown : Grown w v
  pub sound : Sound c s x t w → Sound c s x t v
  pub done : Done c s x t depth w → Done c s x t (depth + 1) v

-- just what is covered is reached
pub record Walked (c : Settings) (s : List ℕ) (x : Index) (t : PointId) (w : Walk) : Type 0 where
  pub sound : Sound c s x t w
  pub all : (j : ℕ) → j < count_of x → is_covered c s x t j ≡ true → Reached w j
