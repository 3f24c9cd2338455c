-- What the code's values of one entry stand for in the plain book.
use Rattle.std.specs.Prelude.{ℕ, ◌+◌, ◌≤◌, ◌≡◌, Bool, List, [], ◌∷◌, length, take, None, Some, Option}
use Rattle.parts.specs.Limits.{tag33_length}
use Rattle.point.specs.Point.{PointInfo}
use Rattle.point.specs.Reading.{read_point}
use Rattle.point.specs.Said.{said}
use Rattle.reasons.specs.Code.{dependency_of}
use Rattle.rules.specs.DagPoint.{Entry}
use Rattle.books.specs.Lists.{dag_point}
use Rattle.books.specs.Kept.{Status, Valid, TransInvalid, Invalid, IllFormed, Kept}
use Rattle.books.specs.Offer.{kept_as}
use Rattle.books.specs.Layout.{kept_front}
use Rattle.book_layout.specs.declared.status.Status as code-status
use Rattle.book_layout.specs.declared.status.Status.TheVariants as case-status
use Rattle.book_layout.specs.declared.read.Kept as code-kept

abbrev pub status_of : code-status.Status → Status
status_of case-status.Valid = Valid
status_of (case-status.TransInvalid d) = TransInvalid (dependency_of d)
status_of (case-status.Invalid n) = Invalid n
status_of (case-status.IllFormed n) = IllFormed n

-- what a verdict on a record leaves in the book
abbrev pub left_of : List ℕ → PointInfo → Option code-status.Status → List Kept
left_of bytes q (Some s) = kept_as bytes q (status_of s) ∷ []
left_of bytes q None = []

-- the bytes of an entry's point are its record's
abbrev pub kept_of : code-kept.Kept → Kept
kept_of k =
    record { bytes = k.point.rec.now; point = said k.point; status = status_of k.status; certified = k.certified }

-- what the judge is told of a kept point
abbrev pub shown : Kept → Bool → Entry
shown k first = record { state = dag_point k.point k.status; certified = k.certified; first_valid = first }

-- an entry stands at the front of a slice, which holds its record, where it begins, and tag 33
pub record KeptAt (s : List ℕ) (k : code-kept.Kept) : Type 0 where
  pub front : kept_front s ≡ Some (record { kept = kept_of k; size = length k.point.rec.now + tag33_length })
  pub part : k.point.rec.now ≡ take (length k.point.rec.now) s
  pub inside : length k.point.rec.now + tag33_length ≤ length s

-- the entry at the front of a slice, whose record takes n bytes
pub record EntryTo (s : List ℕ) (n : ℕ) : Type 0 where
  pub kept : Kept
  pub front : kept_front s ≡ Some (record { kept = kept; size = n + tag33_length })
  pub bytes : kept.bytes ≡ take n s
  pub read : read_point (take n s) ≡ Some kept.point
  pub inside : n + tag33_length ≤ length s

abbrev pub KeptEnd : List ℕ → Option ℕ → Type 0
KeptEnd s (Some n) = EntryTo s n
KeptEnd s None = kept_front s ≡ None
