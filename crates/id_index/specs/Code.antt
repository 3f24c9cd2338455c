-- What an index of the ids in a slice says. s is the slice, x the index.
use Rattle.std.specs.Prelude.{ℕ, suc, ◌+◌, ◌%◌, ◌≤◌, ◌<◌, ◌≡◌, Bool, true, false, List, length, get_or, set, replicate, eqb, Option, None, Some, Result, Ok, Err}
use Rattle.parts.specs.Limits.{most_kept}
use Rattle.std.specs.declared.cmp.Ordering.{Ordering}
use Rattle.std.specs.declared.cmp.Ordering.TheVariants.{Less, Equal, Greater}
use Rattle.point.specs.Point.{PointId, same_id}
use Rattle.point.specs.Reading.{point_id_at}
use Rattle.id_index.specs.declared.Index.{Index}

-- ---- the ids

abbrev pub count_of : Index → ℕ
count_of x = x.count

abbrev pub place_in : Index → ℕ → ℕ
place_in x j = get_or x.places j 0

-- the id of the field at a place, after its tag and length
abbrev pub field_id : List ℕ → ℕ → PointId
field_id s place = point_id_at s (place + 3)

abbrev pub id_in : List ℕ → Index → ℕ → PointId
id_in s x j = field_id s (place_in x j)

-- the fields stand in the slice
abbrev pub Places : List ℕ → Index → Type 0
Places s x = (j : ℕ) → j < count_of x → place_in x j + 71 ≤ length s

-- no place is noted
pub record IsEmpty (x : Index) : Type 0 where
  pub none : count_of x ≡ 0
  pub plain : x.is_sorted ≡ false
  pub unlinked : x.heads ≡ replicate most_kept 0

-- one place more
pub record Added (x : Index) (place : ℕ) (y : Index) : Type 0 where
  pub count : count_of y ≡ count_of x + 1
  pub places : y.places ≡ set x.places (count_of x) place
  pub there : place_in y (count_of x) ≡ place
  pub is_sorted : y.is_sorted ≡ x.is_sorted
  pub links : y.links ≡ x.links
  pub heads : y.heads ≡ x.heads

-- places are noted, and nothing is made of the ids yet
pub record Noted (s : List ℕ) (x : Index) : Type 0 where
  pub places : Places s x
  pub plain : x.is_sorted ≡ false
  pub unlinked : (h : ℕ) → h < most_kept → get_or x.heads h 0 ≡ 0

-- all but the links are the same
pub record SameFront (x y : Index) : Type 0 where
  pub count : count_of y ≡ count_of x
  pub is_sorted : y.is_sorted ≡ x.is_sorted
  pub places : y.places ≡ x.places

-- an id is one of the first n, with this number; or it is none of them
pub record IsAt (s : List ℕ) (x : Index) (n : ℕ) (i : PointId) (j : ℕ) : Type 0 where
  pub within : j < n
  pub same : same_id (id_in s x j) i ≡ true

abbrev pub NoneIs : List ℕ → Index → ℕ → PointId → Type 0
NoneIs s x n i = (j : ℕ) → j < n → same_id (id_in s x j) i ≡ false

-- no id stands twice among the first n
abbrev pub Once : List ℕ → Index → ℕ → Type 0
Once s x n = (j k : ℕ) → j < k → k < n → same_id (id_in s x j) (id_in s x k) ≡ false

-- one does
pub record Twice (s : List ℕ) (x : Index) : Type 0 where
  pub first : ℕ
  pub second : ℕ
  pub after : first < second
  pub within : second < count_of x
  pub same : same_id (id_in s x first) (id_in s x second) ≡ true

-- ---- chains

abbrev pub bucket_of : PointId → ℕ
bucket_of i = i.digest % most_kept

-- k is one more than the last of the first n ids in a bucket, or 0 if there is none
pub record IsLast (s : List ℕ) (x : Index) (bucket n k : ℕ) : Type 0 where
  pub within : k ≤ n
  pub there : (j : ℕ) → k ≡ suc j → bucket_of (id_in s x j) ≡ bucket
  pub absent : (j : ℕ) → k ≤ j → j < n → eqb (bucket_of (id_in s x j)) bucket ≡ false

pub record Chains (s : List ℕ) (x : Index) (n : ℕ) : Type 0 where
  pub last : (h : ℕ) → h < most_kept → IsLast s x h n (get_or x.heads h 0)
  pub before : (j : ℕ) → j < n → IsLast s x (bucket_of (id_in s x j)) j (get_or x.links j 0)

abbrev pub InChain : List ℕ → Index → ℕ → PointId → Result ℕ ℕ → Type 0
InChain s x n i (Ok j) = IsAt s x n i j
InChain s x n i (Err passed) = NoneIs s x n i

-- id j is the last of a bucket
pub record Linked (x : Index) (j h : ℕ) (y : Index) : Type 0 where
  pub front : SameFront x y
  pub links : y.links ≡ set x.links j (get_or x.heads h 0)
  pub heads : y.heads ≡ set x.heads h (j + 1)

abbrev pub Chained : List ℕ → Index → ℕ → Bool → Type 0
Chained s x n r = r ≡ true → Chains s x n × Once s x n

-- ---- the order of ids

pub data Below (a b : PointId) : Type 0 where
  by-digest : a.digest < b.digest → Below a b
  by-author : a.digest ≡ b.digest → a.author < b.author → Below a b
  by-round : a.digest ≡ b.digest → a.author ≡ b.author → a.round < b.round → Below a b

abbrev pub Compared : PointId → PointId → Ordering → Type 0
Compared a b Less = Below a b
Compared a b Equal = same_id a b ≡ true
Compared a b Greater = Below b a

-- the id that is a-th in the order
abbrev pub nth_in : List ℕ → Index → ℕ → PointId
nth_in s x a = id_in s x (get_or x.links a 0)

-- the links have the first n ids in their order
pub record Sorted (s : List ℕ) (x : Index) (n : ℕ) : Type 0 where
  pub within : (a : ℕ) → a < n → get_or x.links a 0 < n
  pub onto : (j : ℕ) → j < n → (a : ℕ) × (a < n) × (get_or x.links a 0 ≡ j)
  pub rising : (a b : ℕ) → a < b → b < n → Below (nth_in s x a) (nth_in s x b)

-- an id stands between those below it and those above it
pub record Between (s : List ℕ) (x : Index) (n : ℕ) (i : PointId) (low high : ℕ) : Type 0 where
  pub ordered : low ≤ high
  pub within : high ≤ n
  pub below : (a : ℕ) → a < low → Below (nth_in s x a) i
  pub above : (a : ℕ) → high ≤ a → a < n → Below i (nth_in s x a)

abbrev pub InOrder : List ℕ → Index → ℕ → PointId → Result ℕ ℕ → Type 0
InOrder s x n i (Ok j) = IsAt s x n i j
InOrder s x n i (Err low) = Between s x n i low low

abbrev pub SortedNext : List ℕ → Index → ℕ → Bool → Type 0
SortedNext s x j true = Sorted s x (j + 1)
SortedNext s x j false = Twice s x

abbrev pub AllSorted : List ℕ → Index → Bool → Type 0
AllSorted s x true = Sorted s x (count_of x)
AllSorted s x false = Twice s x

-- ---- the index

-- an id that is among them is found by it
pub record IsIndex (s : List ℕ) (x : Index) : Type 0 where
  pub places : Places s x
  pub chains : x.is_sorted ≡ false → Chains s x (count_of x)
  pub sorted : x.is_sorted ≡ true → Sorted s x (count_of x)

abbrev pub IndexOf : List ℕ → Index → Bool → Type 0
IndexOf s x true = IsIndex s x × Once s x (count_of x)
IndexOf s x false = Twice s x

-- x was made of the ids that were noted in y
pub record Built (s : List ℕ) (y x : Index) (r : Bool) : Type 0 where
  pub count : count_of x ≡ count_of y
  pub places : x.places ≡ y.places
  pub index : IndexOf s x r

abbrev pub FoundAt : List ℕ → Index → PointId → Option ℕ → Type 0
FoundAt s x i (Some j) = IsAt s x (count_of x) i j
FoundAt s x i None = NoneIs s x (count_of x) i
