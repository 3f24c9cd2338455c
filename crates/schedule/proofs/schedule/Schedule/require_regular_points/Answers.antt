-- `schedule::schedule::Schedule::require_regular_points` meets its contract.
use Rattle.std.proofs.Common.{◌≡◌, ◌+◌, None, Some, arith}
use Rattle.schedule.specs.Schedule.{span_for, require_regular_points}
use Rattle.schedule.specs.Code.{schedule_of}
use Rattle.schedule.proofs.Laws.{span-past}
use Rattle.schedule.proofs.schedule.Schedule.require_regular_points.Goals as goal

pub returns-in_err-i : goal.returns-in_err-i
unfolding require_regular_points
returns-in_err-i c s = rw (c.from_residual.ensures, ← c.in_err-i.ensures s)

pub returns-in_err-checked_add : goal.returns-in_err-checked_add
unfolding require_regular_points
returns-in_err-checked_add c s =
    rw (c.from_residual-in_err-checked_add.ensures, ← c.in_ok-i.ensures s, span-past (schedule_of s c.args.self) (c.args.round + 4) (omega (arith, c.in_err-checked_add.ensures)))

pub returns-in_err-j : goal.returns-in_err-j
unfolding require_regular_points
returns-in_err-j c s =
    let later : None ≡ span_for (schedule_of s c.args.self) (c.args.round + 4) = rw c.in_ok-checked_add.ensures.1 at (c.in_err-j.ensures s) in
    rw (c.from_residual-in_err-j.ensures, ← c.in_ok-i.ensures s, ← later)

pub returns : goal.returns
unfolding require_regular_points
returns c s =
    let later : Some c.in_ok-j.j ≡ span_for (schedule_of s c.args.self) (c.args.round + 4) = rw c.in_ok-checked_add.ensures.1 at (c.in_ok-j.ensures s) in
    rw (← c.in_ok-i.ensures s, ← later)
