-- `schedule_end` meets its contract. The invariant: the schedule ends where what is left of it from `at` on ends.
use Prim.Native.Nat.{◌-◌, ◌≤◌}
use mathlib.Core.Path.{◌≡◌}
use lib.ListN.{length}
use Rattle.tally_feed.specs.Tally.{schedule_end_from, schedule_end}
use Rattle.tally_feed.proofs.front.schedule_end.Given as goal

abbrev pub invariant-loop : goal.invariant-loop
invariant-loop l = (l.counter ≤ 4) × (l.at ≤ length l.s) × (schedule_end l.s ≡ schedule_end_from (4 - l.counter) l.s l.at)

abbrev pub decreases-loop : goal.decreases-loop
decreases-loop l = 4 - l.counter
