-- `put_directs` meets its contract: the rows of the entries before those that are left are put.
use lib.ListN.{length}
use Rattle.schedule.specs.Code.{settings_of}
use Rattle.judge_valid.specs.Code.{point_view_of}
use Rattle.trail.proofs.WalkLaws.{Directs}
use Rattle.trail.proofs.walk.put_directs.Given as goal

abbrev pub invariant-loop-quick : goal.invariant-loop-quick
invariant-loop-quick l =
    Directs (settings_of l.by.conf) l.by.required (point_view_of l.by.view) l.list l.initial.out l.out l.left l.rows l.entry

abbrev pub decreases-loop-quick : goal.decreases-loop-quick
decreases-loop-quick l = length l.left
