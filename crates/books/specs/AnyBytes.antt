-- What is so of any bytes, whether a book was opened in them or not: those that are no book, those that are one, and what opening a
-- slice gives. What is quoted is document 01's.
use Rattle.std.specs.Prelude.{ℕ, suc, ◌≤◌, ◌<◌, ◌≡◌, ◌⊎◌, true, length, T, None, Some}
use mathlib.Core.List.{List, Memᴰ}
use Rattle.parts.specs.Bytes.{Bytes}
use Rattle.parts.specs.Limits.{first_round, last_round, entries_start, most_kept, longest_book}
use Rattle.point.specs.Point.{PointInfo, in_domain}
use Rattle.point.specs.Reading.{read_point}
use Rattle.schedule.specs.Settings.{Settings, read_settings}
use Rattle.rules.specs.Judge.{Number}
use Rattle.rules.specs.List.{is_listable}
use Rattle.books.specs.Kept.{Status, Valid, TransInvalid, Invalid, IllFormed, Kept, Opened}
use Rattle.books.specs.Offer.{Offer}
use Rattle.books.specs.Layout.{read_book}
use Rattle.books.specs.Calls.{open_number, open_bytes, laid_out, offer_bytes}
use Rattle.books.specs.FoundBook.{NoIdTwice}

-- "root-cause rounds 4 to 2,147,483,647"
abbrev pub IsRound : ℕ → Type 0
IsRound n = (first_round ≤ n) × (n ≤ last_round)

-- "1 to 19 for `InvalidReason`, where 1 is `AfterLoadFromDb` with a DAG round and 20 without"
abbrev pub IsReason : ℕ → Type 0
IsReason n = (1 ≤ n) × (n ≤ 20)

-- the domain of an entry: "In a record listed in state 0, 1 or 2, a direct link names a peer of its map", "1 to 16 for `IllFormedReason`"
abbrev pub EntryInDomain : PointInfo → Status → Type 0
EntryInDomain p Valid = T (is_listable p)
EntryInDomain p (TransInvalid d) = T (is_listable p) × (IsRound d.to.round × IsReason d.reason)
EntryInDomain p (Invalid n) = T (is_listable p) × IsReason n
EntryInDomain p (IllFormed n) = (1 ≤ n) × (n ≤ 16)

pub record AnyBytes (s : List ℕ) : Type 0 where
  -- 10: bytes that don't read as a book, "with all lent bytes unchanged"
  pub ten : (o : Offer) → read_book s ≡ None → offer_bytes s o ≡ record { answer = Number 10; peers = o.peers; after = s }
  -- bytes that read as a book are that book in its slice: "settings, entries .. and zeros"; no id "stands twice", there are not "over
  -- 4,096 entries", and the slice is not "over 16,777,216 bytes"
  pub read : (z : Opened) → Bytes s → read_book s ≡ Some z →
      (s ≡ laid_out z) × (NoIdTwice z.book × ((length z.book ≤ most_kept) × (length s ≤ longest_book)))
  -- the settings are those that its bytes say, the slice's length is its length, each entry's point is the one that its record says,
  -- and no "entry lies outside the domain"
  pub says : (z : Opened) → Bytes s → read_book s ≡ Some z →
      (read_settings z.bytes ≡ Some z.settings)
      × ((z.length ≡ length s)
      × ((k : Kept) → Memᴰ k z.book → (read_point k.bytes ≡ Some k.point) × ((in_domain k.point ≡ true) × EntryInDomain k.point k.status)))
  -- opening tests 1, "unreadable or outside limits", then 5, "a slice under 47 or over 16,777,216 bytes"; else it gives 0
  pub one : (settings : List ℕ) → read_settings settings ≡ None → open_number settings (length s) ≡ 1
  pub five : (settings : List ℕ) (c : Settings) → read_settings settings ≡ Some c →
      (length s < entries_start) ⊎ (longest_book < length s) → open_number settings (length s) ≡ 5
  pub opens : (settings : List ℕ) (c : Settings) → read_settings settings ≡ Some c →
      entries_start ≤ length s → length s ≤ longest_book → open_number settings (length s) ≡ 0
  -- opening that gives a number changes nothing
  pub unopened : (settings : List ℕ) (n : ℕ) → open_number settings (length s) ≡ suc n → open_bytes settings s ≡ s
