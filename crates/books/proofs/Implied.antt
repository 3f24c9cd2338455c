-- What follows from the statement on found books: of any plain runs of which the statement is so after every list of offers to a slice, be
-- they those of `offer` or not.
use Rattle.std.specs.Prelude.{Some}
use Prim.Native.Nat.{ℕ}
use mathlib.Core.Path.{◌≡◌, ap, ◌∙◌}
use mathlib.Core.List.{List}
use Rattle.schedule.specs.Settings.{Settings, read_settings}
use Rattle.books.specs.Kept.{Opened}
use Rattle.books.specs.Offer.{Offer}
use Rattle.books.specs.Run.{Run, run, AreBytes}
use Rattle.books.specs.Calls.{offer_bytes}
use Rattle.books.specs.FoundBook.{FoundBook, Implied}
use Rattle.books.proofs.Find.{no_id-twice}
use Rattle.books.proofs.Kept.{any-marks}
use Rattle.books.proofs.Read.{ReadAs, read-as}
use Rattle.books.proofs.Built.{Grown, every-grown}
use Rattle.books.proofs.Clean.{clean-judged, caught-judged}

-- of a book that is built of judged points and has the shape of a book
implied : (settings : List ℕ) (c : Settings) (len : ℕ) (found : Run (List ℕ)) (plain : Run Opened) → FoundBook settings c len found plain →
    read_settings settings ≡ Some c → Grown c plain.last.book → Implied c len found plain
implied settings c len found plain h r grown =
    let read : ReadAs found.last plain.last = read-as found.last plain.last h.reads in
    let set : read_settings plain.last.bytes ≡ Some c = ap read_settings h.stays.0 ∙ r in
    record {
      long = read.whole ∙ h.stays.1.1;
      once = no_id-twice plain.last.book read.once;
      few = read.few;
      connected = any-marks c plain.last.book grown.built;
      clean = λ o w. clean-judged found plain o _ (h.next o w) w c set grown.shape h.marks;
      caught = λ o w. caught-judged found plain o _ (h.next o w) w c set grown.shape h.marks;
    }

-- the book after every list is one
pub all-implied : (settings : List ℕ) (c : Settings) (len : ℕ) (slice : List ℕ) (plain : List Offer → Run Opened) →
    read_settings settings ≡ Some c →
    ((l : List Offer) → AreBytes l → FoundBook settings c len (run offer_bytes slice l) (plain l)) →
    (l : List Offer) → AreBytes l → Implied c len (run offer_bytes slice l) (plain l)
all-implied settings c len slice plain r every l w =
    implied settings c len (run offer_bytes slice l) (plain l) (every l w) r (every-grown settings c len slice plain r every l w)
