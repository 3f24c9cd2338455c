-- `judge_needed` meets its contract: what was read of the book serves after the marks.
use native.Mathlib.Omega.{arith}
use mathlib.Core.Path.{sym}
use Rattle.parts.specs.Bytes.{Bytes}
use Rattle.book_read.proofs.Marked.{marked-holds, marked-index}
use Rattle.book_judge.proofs.Looked.{held-entries}
use Rattle.book.proofs.judge_needed.Goals as goal
use Rattle.book.proofs.judge_needed.Goals.{After-mark_covered}

bytes : (c : After-mark_covered) → Bytes c.args.book.now
bytes c k = omega (arith, c.slice_known-1.given k)

pub invariant_of-indexed : goal.invariant_of-indexed
invariant_of-indexed c =
    let h = c.requires.read in
    let at = goal.at.invariant_of-indexed c in
    record { entries = ∣ held-entries (marked-holds (bytes at.After-mark_covered) h.read _ (c.mark_covered.ensures h.opened h.read) h.holds) (marked-index (bytes at.After-mark_covered) h.read _ (c.mark_covered.ensures h.opened h.read) h.holds h.index) ∣₁ }

pub returns : goal.returns
returns c = λ h d.
    let w = bytes (goal.at.returns c).After-mark_covered in
    let e = c.mark_covered.ensures h.opened h.read in
    (c.judge_book-verdict.ensures _ (marked-holds w h.read _ e h.holds) d, λ q. rw (sym e) (c.keep.ensures q))
