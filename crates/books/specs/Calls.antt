-- The two calls, on bytes: opening and offering.
use Rattle.std.specs.Prelude.{ℕ, zero, suc, ◌≤◌, ◌⊎◌, ◌||◌, List, [], length, ltb, Option, None, Some}
use Rattle.base.specs.Base.{pick}
use Rattle.parts.specs.Limits.{entries_start, longest_book}
use Rattle.schedule.specs.Settings.{Settings, read_settings}
use Rattle.rules.specs.Judge.{Number}
use Rattle.books.specs.Kept.{Opened}
use Rattle.books.specs.Offer.{Offer, Result, offer, offer_in}
use Rattle.books.specs.Layout.{book_bytes, read_book}

-- ---- opening: 1, then 5, else 0

abbrev pub open_number_with : Option Settings → ℕ → ℕ
open_number_with None len = 1
open_number_with (Some c) len = pick (ltb len entries_start || ltb longest_book len) 5 0

unfoldable pub open_number : List ℕ → ℕ → ℕ
unfolding read_settings
open_number settings len = open_number_with (read_settings settings) len

-- "Opening sets all bytes behind the settings to 0"
abbrev pub opened_as : List ℕ → List ℕ → ℕ → List ℕ
opened_as settings s zero = book_bytes settings (length s) []
opened_as settings s (suc n) = s

unfoldable pub open_bytes : List ℕ → List ℕ → List ℕ
unfolding open_number book_bytes
open_bytes settings s = opened_as settings s (open_number settings (length s))

-- the book that opening leaves
abbrev pub opened : List ℕ → Settings → ℕ → Opened
opened settings c len = record { bytes = settings; settings = c; length = len; book = [] }

-- ---- offering, to any bytes

-- a book in its slice
unfoldable pub laid_out : Opened → List ℕ
unfolding book_bytes
laid_out z = book_bytes z.bytes z.length z.book

abbrev pub in_bytes : Result Opened → Result (List ℕ)
in_bytes x = record { answer = x.answer; peers = x.peers; after = laid_out x.after }

abbrev pub offer_to : List ℕ → Offer → Option Opened → Result (List ℕ)
offer_to s o None = record { answer = Number 10; peers = o.peers; after = s }
offer_to s o (Some z) = in_bytes (offer z o)

unfoldable pub offer_bytes : List ℕ → Offer → Result (List ℕ)
unfolding read_book offer_in laid_out
offer_bytes s o = offer_to s o (read_book s)

-- the numbers that an offer to a book can get: 2 to 6, 11 and 12
abbrev pub IsOfferNumber : ℕ → Type 0
IsOfferNumber n = ((2 ≤ n) × (n ≤ 6)) ⊎ ((11 ≤ n) × (n ≤ 12))
