-- What reading a book finds: its entries, and where each stands. This serves contracts between crates.
use Rattle.std.specs.Prelude.{ℕ, ◌+◌, ◌-◌, ◌≤◌, ◌<◌, ◌≡◌, false, List, [], ◌∷◌, length, get_or, take, drop, Option, None, Some, option_map}
use Rattle.base.specs.Base.{pick, and_then}
use Rattle.parts.specs.Limits.{settings_length, entries_start, tag33_length, most_kept}
use Rattle.schedule.specs.Settings.{Settings}
use Rattle.schedule.specs.Code.{settings_of}
use Rattle.id_index.specs.declared.Index.{Index}
use Rattle.id_index.specs.Code.{count_of, place_in, id_in, Noted, IsIndex}
use Rattle.books.specs.Kept.{Kept, Book, is_twice, Opened}
use Rattle.books.specs.Offer.{used}
use Rattle.books.specs.Layout.{kept_front, entries_from, read_book}
use Rattle.schedule.specs.declared.settings.Settings as code-settings

-- the entries of b stand in the bytes, entry j from place j of the index x on
pub record Placed (s : List ℕ) (b : Book) (x : Index) : Type 0 where
  pub count : count_of x ≡ length b
  pub starts : (j : ℕ) (k : Kept) (rest : Book) → drop j b ≡ k ∷ rest → place_in x j ≡ entries_start + used (take j b)
  pub fronts : (j : ℕ) (k : Kept) (rest : Book) → drop j b ≡ k ∷ rest
      → kept_front (drop (place_in x j) s) ≡ Some (record { kept = k; size = length k.bytes + tag33_length })
  pub ids : (j : ℕ) (k : Kept) (rest : Book) → drop j b ≡ k ∷ rest → id_in s x j ≡ k.point.id

-- and no id stands twice
pub record Holds (s : List ℕ) (b : Book) (x : Index) : Type 0 where
  pub placed : Placed s b x
  pub once : is_twice b ≡ false

-- entries, and those that are read after them
abbrev pub entries_before : Book → Option Book → Option Book
entries_before [] o = o
entries_before (k ∷ b) o = option_map (λ c. k ∷ c) (entries_before b o)

-- the first entries are read, up to a place, and noted; what stands after it is left to read
pub record Reading (s : List ℕ) (end : ℕ) (x : Index) : Type 0 where
  pub book : Book
  pub placed : Placed s book x
  pub ends : end ≡ entries_start + used book
  pub within : end ≤ length s
  pub left : entries_from most_kept (drop entries_start s) ≡ entries_before book (entries_from (most_kept - count_of x) (drop end s))
  pub noted : Noted s x

-- the book of these settings and entries, if no id stands twice
abbrev pub opened_once : List ℕ → Settings → Book → Option Opened
opened_once s c b = pick (is_twice b) None (Some (record { bytes = take settings_length s; settings = c; length = length s; book = b }))

-- bytes whose entries do not read, or have an id twice: no book, whatever its settings
abbrev pub NoBook : List ℕ → Type 0
NoBook s = (c : Settings) → and_then (entries_from most_kept (drop entries_start s)) (opened_once s c) ≡ None

abbrev pub EntryRead : List ℕ → ℕ → Index → Option ℕ → Type 0
EntryRead s place x (Some end) = (place < end) × Reading s end x
EntryRead s place x None = NoBook s

abbrev pub EntriesRead : List ℕ → Index → Option ℕ → Type 0
EntriesRead s x (Some end) = Reading s end x × (get_or s end 0 ≡ 0)
EntriesRead s x None = NoBook s

-- a book with settings c, whose entries end at a place
pub record IsRead (s : List ℕ) (c : Settings) (end : ℕ) (x : Index) : Type 0 where
  pub opened : Opened
  pub read : read_book s ≡ Some opened
  pub settings : c ≡ opened.settings
  pub whole : opened.length ≡ length s
  pub holds : Holds s opened.book x
  pub ends : end ≡ entries_start + used opened.book
  pub index : IsIndex s x

abbrev pub BookRead : List ℕ → Index → Option (code-settings.Settings × ℕ) → Type 0
BookRead s x (Some b) = IsRead s (settings_of b.0) b.1 x
BookRead s x None = read_book s ≡ None
