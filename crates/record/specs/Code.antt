-- What the code's values stand for.
use Rattle.std.specs.Prelude.{ℕ, ◌+◌, ◌≤◌, ◌&&◌, ◌≡◌, List, length, get_or, drop, leb, eqb, Option, None, Some}
use Rattle.base.specs.Base.{pick}
use Rattle.record.specs.Record.{length_at, end_from, start_of, rows, record_end}
use Rattle.record.specs.declared.Places.{Places}
use Rattle.record.specs.declared.Row.{Row}
use Rattle.record.specs.declared.Shape.{Shape}

-- where the fields of a record start: each by its own number
pub record PlacesOf (s : List ℕ) (r : Places) : Type 0 where
  pub payload : r.payload ≡ start_of s 1
  pub includes : r.includes ≡ start_of s 2
  pub witness : r.witness ≡ start_of s 3
  pub evidence : r.evidence ≡ start_of s 4
  pub anchor_proof : r.anchor_proof ≡ start_of s 5
  pub anchor_trigger : r.anchor_trigger ≡ start_of s 6
  pub role : r.role ≡ start_of s 7
  pub times : r.times ≡ start_of s 8

-- the length in the head at a place, where the tag there is a row's and the length is within the row's limits
unfoldable pub length_if : Row → List ℕ → ℕ → Option ℕ
length_if row s at =
    pick (eqb (get_or s at 0) row.tag && (leb row.least (length_at s at) && leb (length_at s at) row.greatest)) (Some (length_at s at)) None

-- a walk over the nine fields of the record at the front of a slice is at field k, whose head lies in the slice
pub record Walked (s : List ℕ) (k at : ℕ) : Type 0 where
  pub left : record_end s ≡ end_from (drop k rows) s at
  pub start : at ≡ start_of s k
  pub head : at + 3 ≤ length s

-- the places and the end of the record at the front of a slice
pub record Shaped (s : List ℕ) (x : Shape) : Type 0 where
  pub at : PlacesOf s x.at
  pub end : record_end s ≡ Some x.end

abbrev pub ShapeOf : List ℕ → Option Shape → Type 0
ShapeOf s (Some x) = Shaped s x
ShapeOf s None = record_end s ≡ None
