-- `put_number` meets its contract: the rows of the entries before those that are left are put.
use mathlib.Core.Path.{◌≡◌}
use lib.ListN.{length}
use Rattle.point.specs.Point.{PointInfo}
use Rattle.schedule.specs.Code.{settings_of}
use Rattle.rules.specs.DagPoint.{point_view}
use Rattle.judge_valid.specs.Code.{point_view_of}
use Rattle.force_rows.specs.Code.{Matching}
use Rattle.force_rows.proofs.WalkLaws.{Left, Going}
use Rattle.force_rows.proofs.walk.put_number.Given as goal

abbrev pub invariant-loop-left : goal.invariant-loop-left
invariant-loop-left l =
    Left l.left l.n l.so_far.rows l.number l.so_far.next l.entry
    × ((p : PointInfo) → point_view_of l.by.view ≡ point_view p → Matching p l.list →
    Going (settings_of l.by.conf) l.by.required p l.is_target l.number l.n l.list l.initial.out l.out l.left l.so_far l.entry)

abbrev pub decreases-loop-left : goal.decreases-loop-left
decreases-loop-left l = length l.left
