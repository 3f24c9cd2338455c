-- The plain book (document 01, "The book"): a list of entries, what a mark does to them, and the slice that they stand in. Offer.antt
-- says when marks are made, Spread.antt how far they reach.
use Rattle.std.specs.Prelude.{ℕ, Bool, false, ◌||◌, List, [], ◌∷◌, Option, None, Some, is_some}
use Rattle.base.specs.Base.{pick}
use Rattle.point.specs.Point.{PointId, PointInfo, same_id}
use Rattle.schedule.specs.Settings.{Settings}
use Rattle.reasons.specs.Invalid.{InvalidDependency}

-- DagPoint of a kept point, its own reason by number; of a trans-invalid one the root cause, and what it came through
pub data Status : Type 0 where
  Valid : Status
  TransInvalid : InvalidDependency → Status
  Invalid : ℕ → Status
  IllFormed : ℕ → Status

-- an entry: the record as it was offered, the point that it says, and "state, certified, reason, root id, root's reason, map and
-- peer it came through"
pub record Kept : Type 0 where
  pub bytes : List ℕ
  pub point : PointInfo
  pub status : Status
  pub certified : Bool

abbrev pub Book : Type 0
Book = List Kept

-- the entry of an id, if it is kept
unfoldable pub find_kept : Book → PointId → Option Kept
unfolding same_id
find_kept [] i = None
find_kept (k ∷ b) i = pick (same_id k.point.id i) (Some k) (find_kept b i)

-- "no id twice"
unfoldable pub is_twice : Book → Bool
unfolding find_kept
is_twice [] = false
is_twice (k ∷ b) = is_some (find_kept b k.point.id) || is_twice b

-- ---- a mark on each entry that a test on ids covers

unfoldable pub mark_one : (PointId → Bool) → Kept → Kept
mark_one covers k = record { bytes = k.bytes; point = k.point; status = k.status; certified = k.certified || covers k.point.id }

unfoldable pub mark : (PointId → Bool) → Book → Book
unfolding mark_one
mark covers [] = []
mark covers (k ∷ b) = mark_one covers k ∷ mark covers b

-- ---- the book in its slice

-- a book that was opened or read: the bytes of its settings, what they say, the slice's length, and its entries
pub record Opened : Type 0 where
  pub bytes : List ℕ
  pub settings : Settings
  pub length : ℕ
  pub book : Book

-- the same with other entries
abbrev pub with_entries : Opened → Book → Opened
with_entries z b = record { bytes = z.bytes; settings = z.settings; length = z.length; book = b }
