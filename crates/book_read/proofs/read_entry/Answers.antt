-- `read_entry` meets its contract: the entry at a place, if it reads, goes after those that are read.
use Prim.Native.Nat.{◌<◌}
use native.Mathlib.Omega.{arith}
use mathlib.Core.Path.{◌≡◌, ap, sym, ◌∙◌}
use mathlib.Core.Bool.{false}
use lib.ListN.{get_or}
use lib.Dec.{eqb}
use borrow.Author.Tests.{not-true}
use Rattle.base.proofs.Lists.{rest}
use Rattle.books.specs.Layout.{kept_front}
use Rattle.id_index.specs.Code.{count_of}
use Rattle.book_read.proofs.Steps.{entry_at, too_many, no_entry, entry-added}
use Rattle.book_read.proofs.read_entry.Goals as goal
use Rattle.book_read.proofs.read_entry.Goals.{Else-count-eq-MOST_KEPT}

begins : (c : Else-count-eq-MOST_KEPT) → eqb (get_or c.args.book.now c.args.place 0) 0 ≡ false
begins c = not-true _ c.requires.book_len_bound.1

room : (c : Else-count-eq-MOST_KEPT) → count_of c.args.index.now < 4096
room c = omega (arith, c.if-count-eq-MOST_KEPT.false, c.count.ensures, c.args.index.now.room)

pub returns-then-count-eq-MOST_KEPT : goal.returns-then-count-eq-MOST_KEPT
returns-then-count-eq-MOST_KEPT c =
    too_many c.requires.reading (not-true _ c.requires.book_len_bound.1) (sym c.count.ensures ∙ c.if-count-eq-MOST_KEPT.true)

pub returns-in_err-size : goal.returns-in_err-size
returns-in_err-size c =
    let at = (goal.at.returns-in_err-size c).Else-count-eq-MOST_KEPT in
    rw c.from_residual.ensures (no_entry c.requires.reading (begins at) (room at)
    (ap kept_front (sym (rest c.args.place c.args.book.now)) ∙ c.in_err-size.ensures))

pub returns : goal.returns
returns c =
    let at = (goal.at.returns c).Else-count-eq-MOST_KEPT in
    let to = c.in_ok-size.ensures in
    let kept = entry_at _ _ _ (rest c.args.place c.args.book.now) c.in_ok-size.size to c.requires.reading.within in
    (omega arith, entry-added c.requires.reading (begins at) (room at) c.in_ok-size.size to.kept kept c.add.ensures)
