-- `write_marks` meets its contract: the entries before j have their marks.
use native.Mathlib.Omega.{arith}
use Prim.Native.Nat.{◌<◌}
use Rattle.parts.specs.Bytes.{Bytes}
use Rattle.id_index.specs.Code.{count_of}
use Rattle.book_certify.proofs.Entries.{stands, entry_at, entry-end, entry-within}
use Rattle.book_certify.proofs.Marking.{marking_start, marking_step, marking_end}
use Rattle.book_certify.proofs.Walk.write_marks.Goals as goal
use Rattle.book_certify.proofs.Walk.write_marks.Goals.{After-count-j-end, In-loop-j}

bytes : (c : After-count-j-end) → Bytes c.args.book.now
bytes c k = omega (arith, c.type_inv.book k)

number : (c : In-loop-j) → c.loop-j.j < count_of c.args.index.now
number c = omega (arith, c.loop-j-test.true, c.count-j-end.ensures)

pub loop-j-init : goal.loop-j-init
loop-j-init c test told = marking_start c.requires.1 (bytes (goal.at.loop-j-init c).After-count-j-end) test

pub mark_reached-requires : goal.mark_reached-requires
mark_reached-requires c =
    let h = stands (bytes (goal.at.mark_reached-requires c).After-count-j-end) c.requires.1 in
    let lt = number (goal.at.mark_reached-requires c).In-loop-j in
    let y = entry_at h c.loop-j.j lt in
    let e = entry-end h c.loop-j.j y.0 y.1 y.2 in
    let f = entry-within h c.loop-j.j y.0 y.1 y.2 in
    record { j_bound = lt; end_least = omega (arith, e); end_in_bounds = omega (arith, e, f, c.loop-j.auto.book) }

pub loop-j-preserved : goal.loop-j-preserved
loop-j-preserved c test told =
    marking_step c.requires.1 (bytes (goal.at.loop-j-preserved c).After-count-j-end) test c.loop-j.j c.loop-j.book c.mark_reached.new.book c.args.self.now (number (goal.at.loop-j-preserved c).In-loop-j) told (c.loop-j.invariant test told) c.mark_reached.ensures

pub returns : goal.returns
returns c test told =
    marking_end c.requires.1 (bytes (goal.at.returns c).After-count-j-end) test c.loop-j.j c.loop-j.book (omega (arith, c.loop-j-test.false, c.count-j-end.ensures)) (c.loop-j.invariant test told)
