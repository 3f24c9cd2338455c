-- `read_book` meets its contract: the settings, the entries, the zeros after them, and no id twice.
use Rattle.std.specs.Prelude.{option_map}
use mathlib.Core.Path.{ap, sym, subst, ◌∙◌}
use Rattle.schedule.specs.Code.{settings_of}
use Rattle.id_index.specs.Code.{Built}
use Rattle.book_read.proofs.Steps.{too_short, too_long, no_settings, no_book, no_zeros, id-twice, book-read}
use Rattle.book_read.proofs.read_book.Goals as goal
use Rattle.book_read.proofs.read_book.Goals.{then-book-lt-ENTRIES_START-via-then-book-lt-ENTRIES_START, then-book-lt-ENTRIES_START-via-else-book-lt-ENTRIES_START+then-book-gt-LONGEST_BOOK}

pub returns-then-book-lt-ENTRIES_START : goal.returns-then-book-lt-ENTRIES_START
returns-then-book-lt-ENTRIES_START c = elim c.then-book-lt-ENTRIES_START.branch [
  | then-book-lt-ENTRIES_START-via-then-book-lt-ENTRIES_START w ↦ too_short _ w.if-book-lt-ENTRIES_START.true
  | then-book-lt-ENTRIES_START-via-else-book-lt-ENTRIES_START+then-book-gt-LONGEST_BOOK w ↦ too_long _ w.if-book-gt-LONGEST_BOOK.true
]

pub returns-in_err-conf : goal.returns-in_err-conf
returns-in_err-conf c =
    rw c.from_residual.ensures
    (no_settings _ c.if-book-gt-LONGEST_BOOK.false (sym c.read_settings.ensures ∙ ap (option_map settings_of) c.in_err-conf.was))

pub returns-in_err-end : goal.returns-in_err-end
returns-in_err-end c = rw c.from_residual-in_err-end.ensures (no_book _ c.if-book-gt-LONGEST_BOOK.false c.in_err-end.ensures)

pub returns-then-not-is_zeros : goal.returns-then-not-is_zeros
returns-then-not-is_zeros c =
    let read = c.in_ok-end.ensures in
    no_zeros _ c.if-book-gt-LONGEST_BOOK.false read.0 read.1 (sym c.is_zeros.ensures ∙ c.if-not-is_zeros.true)

pub returns-then-not-build : goal.returns-then-not-build
returns-then-not-build c =
    let read = c.in_ok-end.ensures in
    id-twice _ c.if-book-gt-LONGEST_BOOK.false read.0 read.1 (sym c.is_zeros.ensures ∙ c.if-not-is_zeros.false)
    (subst (Built _ _ _) c.if-not-build.true c.build.ensures)

pub returns : goal.returns
returns c =
    let read = c.in_ok-end.ensures in
    book-read _ c.if-book-gt-LONGEST_BOOK.false read.0 read.1 (sym c.is_zeros.ensures ∙ c.if-not-is_zeros.false)
    (settings_of c.in_ok-conf.conf) (sym c.read_settings.ensures ∙ ap (option_map settings_of) c.in_ok-conf.was)
    (subst (Built _ _ _) c.if-not-build.false c.build.ensures)
