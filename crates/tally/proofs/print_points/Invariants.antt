-- `print_points` meets its contract. The invariant: the window lies in the buffer, and the schedule in its own.
use Rattle.std.proofs.Common.{◌-◌}
use Rattle.tally.specs.Code.{Stands}
use Rattle.tally.proofs.print_points.Given as goal

abbrev pub invariant-loop-s : goal.invariant-loop-s
invariant-loop-s g l = Stands 65536 32675 l.s

abbrev pub decreases-loop-s : goal.decreases-loop-s
decreases-loop-s g l = 18446744073709551615 - l.s.place
