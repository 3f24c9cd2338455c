-- Fields of a tag, a length and content (document 01, "Records the crews hand over"), and the table of a point record's nine.
use Rattle.std.specs.Prelude.{ℕ, zero, suc, ◌+◌, ◌-◌, min, List, [], ◌∷◌, Bool, ◌&&◌, length, get_or, leb, eqb, Option, None, Some}
use Rattle.base.specs.Base.{pick, is_some_and}
use Rattle.parts.specs.Bytes.{bytes_at, little_at}
use Rattle.record.specs.declared.Row.{Row}

-- ---- one field: "a tag (1 byte), a length (2 bytes) and content"

abbrev pub length_at : List ℕ → ℕ → ℕ
length_at s at = little_at 2 s (at + 1)

-- where the field after the one at a place starts; a field that is cut off ends with the slice
unfoldable pub next_at : List ℕ → ℕ → ℕ
next_at s at = min (at + 3 + length_at s at) (length s)

unfoldable pub content_at : List ℕ → ℕ → List ℕ
unfolding next_at
content_at s at = bytes_at (next_at s at - (at + 3)) s (at + 3)

-- the field at a place lies in the slice and has a row's tag and a length within the row's limits
unfoldable pub field_ok : Row → List ℕ → ℕ → Bool
field_ok row s at =
    leb (at + 3) (length s)
    && (eqb (get_or s at 0) row.tag
    && (leb row.least (length_at s at)
    && (leb (length_at s at) row.greatest
    && leb (at + 3 + length_at s at) (length s))))

-- ---- a row of fields, one after the other

-- where the fields of these rows end, the first of them at a place
unfoldable pub end_from : List Row → List ℕ → ℕ → Option ℕ
unfolding field_ok next_at
end_from [] s at = Some at
end_from (r ∷ rs) s at = pick (field_ok r s at) (end_from rs s (next_at s at)) None

-- where field k starts, counted from 0
unfoldable pub start_of : List ℕ → ℕ → ℕ
unfolding next_at
start_of s zero = 0
start_of s (suc k) = next_at s (start_of s k)

unfoldable pub content_of : List ℕ → ℕ → List ℕ
unfolding start_of content_at
content_of s k = content_at s (start_of s k)

-- ---- point records

abbrev pub field_row : ℕ → ℕ → ℕ → Row
field_row t l g = record { tag = t; least = l; greatest = g }

-- "The reader keeps a fixed table of tag, least and greatest length": pairs are 64 bytes, peers 32, at most 255 of them
unfoldable pub rows : List Row
rows =
    field_row 1 68 68
    ∷ field_row 2 8 8
    ∷ field_row 3 0 16320
    ∷ field_row 4 0 16320
    ∷ field_row 5 0 8160
    ∷ field_row 6 34 102
    ∷ field_row 7 34 102
    ∷ field_row 8 1 3
    ∷ field_row 9 16 16
    ∷ []

unfoldable pub row_of : ℕ → Row
unfolding rows
row_of k = get_or rows k (field_row 0 0 0)

-- where the nine fields at the front of a slice end
unfoldable pub record_end : List ℕ → Option ℕ
unfolding end_from rows
record_end s = end_from rows s 0

-- the nine fields and nothing after them
unfoldable pub well_shaped : List ℕ → Bool
unfolding record_end
well_shaped s = is_some_and (record_end s) (λ e. eqb e (length s))
