-- `walk_list` meets its contract. The invariant: the walk so far, over what is left of the list, gives what the walk over the whole gives.
use mathlib.Core.Path.{◌≡◌}
use lib.ListN.{length}
use Rattle.schedule.specs.Code.{settings_of}
use Rattle.rules.specs.List.{list_from, read_list}
use Rattle.judge_step.specs.Code.{judging_of}
use Rattle.judge_list.specs.Code.{walk_with, walk_start, viewed_of}
use Rattle.judge_list.proofs.walk_list.Given as goal

abbrev pub invariant-loop-rest : goal.invariant-loop-rest
invariant-loop-rest l =
    let p = viewed_of l.by.view l.point.info in
    walk_with (settings_of l.by.conf) l.required p (record { judging = judging_of l.judging; uncovered = l.uncovered }) (list_from l.left l.indirect_seen l.rest)
    ≡ walk_with (settings_of l.by.conf) l.required p walk_start (read_list l.list)

abbrev pub decreases-loop-rest : goal.decreases-loop-rest
decreases-loop-rest l = length l.rest
