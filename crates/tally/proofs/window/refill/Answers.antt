-- `refill` meets its contract: what is at hand was moved to the front, and more was read after it.
use Rattle.tally.proofs.Laws.{refilled}
use Rattle.tally.proofs.window.refill.Goals as goal

pub returns-clause-refilled : goal.returns-clause-refilled
returns-clause-refilled g c =
    let a = c.args in
    let r = c.read_after in
    let moved = rw c.copy_within.ensures.after at r.ensures.front in
    refilled a.buf.now a.w r.new.buf _ r.result c.requires.0 c.requires.1 c.copy_within.ensures.len moved r.ensures.filled
