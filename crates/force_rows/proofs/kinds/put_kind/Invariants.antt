-- `put_kind` meets its contract: the rows of the numbers below the next one are put.
use Prim.Native.Nat.{◌-◌, ◌*◌, ◌≤◌}
use mathlib.Core.Path.{◌≡◌}
use Rattle.point.specs.Point.{PointInfo}
use Rattle.schedule.specs.Code.{settings_of}
use Rattle.rules.specs.DagPoint.{point_view}
use Rattle.judge_valid.specs.Code.{point_view_of}
use Rattle.judge_mismatch.specs.Code.{listed}
use Rattle.force_rows.specs.Code.{kind_rows, Matching}
use Rattle.force_rows.proofs.Order.{Below}
use Rattle.force_rows.proofs.kinds.put_kind.Given as goal

abbrev pub invariant-loop-w : goal.invariant-loop-w
invariant-loop-w l =
    (l.w.rows ≤ 65535 * l.w.next)
    × ((p : PointInfo) → point_view_of l.by.view ≡ point_view p → Matching p l.list →
    Below (kind_rows (settings_of l.by.conf) l.by.required p l.is_target 0 (listed l.list)) l.fn.out l.out l.w)

abbrev pub decreases-loop-w : goal.decreases-loop-w
decreases-loop-w l = 255 - l.w.next
