-- `schedule_end` meets its contract. The invariant: the schedule ends where what is left of it from `at` on ends.
use Prim.Native.Nat.{◌+◌, ◌-◌}
use native.Mathlib.Omega.{arith}
use mathlib.Core.Path.{◌≡◌, sym, ◌∙◌}
use borrow.Author.Rules.{rules}
use Rattle.base.specs.Base.{pick}
use Rattle.record.specs.Record.{next_at}
use Rattle.record.proofs.Laws.{next-within}
use Rattle.tally_feed.specs.Tally.{last_known_end, schedule_end_from, schedule_end}
use Rattle.tally_feed.proofs.Laws.{schedule-start, from_step, from-none}
use Rattle.tally_feed.proofs.front.schedule_end.Goals as goal
use Rattle.tally_feed.proofs.front.schedule_end.Goals.{After-field_ok}

-- one turn: the span at `at` and what is left it, or the last known round
turn : (c : After-field_ok) →
    let s = c.args.s.now in
    schedule_end s ≡ pick c.field_ok.result (schedule_end_from (4 - (c.loop.counter + 1)) s (next_at s c.loop.at)) (last_known_end s c.loop.at)
turn c =
    rw c.field_ok.ensures (c.loop.invariant.2 ∙ from_step (4 - c.loop.counter) (4 - (c.loop.counter + 1)) c.args.s.now c.loop.at (omega arith))

pub loop-init : goal.loop-init
loop-init c = (search rules, search rules, schedule-start _)

pub returns-then-not-field_ok : goal.returns-then-not-field_ok
returns-then-not-field_ok c = c.last_known_end.ensures ∙ sym (turn (goal.at.returns-then-not-field_ok c).After-field_ok ∙ rw c.if-not-field_ok.true)

pub loop-preserved : goal.loop-preserved
loop-preserved c =
    let s = c.args.s.now in
    (search rules, omega (arith, next-within s c.loop.at, c.next-at.ensures), turn (goal.at.loop-preserved c).After-field_ok ∙ rw (c.if-not-field_ok.false, c.next-at.ensures))

pub returns : goal.returns
returns c =
    let e : 4 - c.loop.counter ≡ 0 = omega arith in
    c.last_known_end-2.ensures ∙ sym (c.loop.invariant.2 ∙ rw (e, from-none c.args.s.now c.loop.at))
