-- `put_indirects` meets its contract: the rows of the entries before those that are left are put.
use mathlib.Core.Path.{◌≡◌}
use lib.ListN.{length}
use Rattle.point.specs.Point.{PointInfo}
use Rattle.schedule.specs.Code.{settings_of}
use Rattle.rules.specs.DagPoint.{point_view}
use Rattle.judge_valid.specs.Code.{point_view_of}
use Rattle.trail.proofs.WalkLaws.{Indirects, Left}
use Rattle.trail.proofs.walk.put_indirects.Given as goal

abbrev pub invariant-loop-left : goal.invariant-loop-left
invariant-loop-left l =
    Left l.left l.rows l.target
    × ((p : PointInfo) → point_view_of l.by.view ≡ point_view p → Indirects (settings_of l.by.conf) p l.list l.initial.out l.out l.left l.rows l.target)

abbrev pub decreases-loop-left : goal.decreases-loop-left
decreases-loop-left l = length l.left
