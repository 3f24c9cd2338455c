-- Every list of offers over converted records gets what the originals got (document 02, U5): "A point means the same in both: every
-- judging result over converted records is the result that the originals had before this ticket". What the originals had is the plain
-- book's, by the statement on found books as it stood before this ticket: `offer_in Pairs` is the plain book's text with maps read as
-- pairs. No book of pairs is read any more: "old books start anew".
use Rattle.std.specs.Prelude.{ℕ, ◌≤◌, ◌≡◌, length, Some}
use mathlib.Core.List.{List, map}
use Rattle.parts.specs.Limits.{entries_start, longest_book}
use Rattle.map.specs.declared.Arrangement.TheVariants.{Pairs}
use Rattle.point.specs.Converted.{converted}
use Rattle.schedule.specs.Settings.{Settings, read_settings}
use Rattle.rules.specs.Judge.{JudgeAnswer}
use Rattle.books.specs.Kept.{Kept, Opened, with_entries}
use Rattle.books.specs.Offer.{Offer, offer_of, offer_in}
use Rattle.books.specs.Run.{Run, run, AreBytes}
use Rattle.books.specs.Calls.{open_bytes, opened, laid_out, offer_bytes}

-- an offer of "one point record from the old arrangement to the new one"; its schedule, leader flag and peer buffer are as they were
abbrev pub converted_offer : Offer → Offer
converted_offer o = offer_of o.schedule o.leader (converted Pairs o.bytes) o.peers

-- what an offer got: its answer, and the peer buffer after it
pub record Got : Type 0 where
  pub answer : JudgeAnswer
  pub peers : List ℕ

-- what all offers of a run got, in order
abbrev pub got_in : {S : Type 0} → Run S → List Got
got_in x = map (λ m. record { answer = m.result.answer; peers = m.result.peers }) x.moments

-- an entry with its record converted, and a book of such entries: points, statuses and marks are as they were
abbrev pub converted_kept : Kept → Kept
converted_kept k = record { bytes = converted Pairs k.bytes; point = k.point; status = k.status; certified = k.certified }

abbrev pub converted_book : Opened → Opened
converted_book z = with_entries z (map converted_kept z.book)

-- of the call's offers over converted records, on a slice's bytes, and of the originals, offered to the plain book as it was: all get
-- the same, and the bytes that are left are that book with its records converted
abbrev pub SameResults : Run (List ℕ) → Run Opened → Type 0
SameResults now before = (got_in now ≡ got_in before) × (now.last ≡ laid_out (converted_book before.last))

-- of every list of offers to a book, as the statement on found books has it; what is handed over now are bytes, as of every call
abbrev pub OffersConverted : Type 0
OffersConverted =
    (settings slice : List ℕ) (c : Settings) (l : List Offer) → read_settings settings ≡ Some c →
    entries_start ≤ length slice → length slice ≤ longest_book → AreBytes (map converted_offer l) →
    SameResults
    (run offer_bytes (open_bytes settings slice) (map converted_offer l))
    (run (offer_in Pairs) (opened settings c (length slice)) l)
