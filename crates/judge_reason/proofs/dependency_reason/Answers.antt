-- `dependency_reason` meets its contract: a point that is there is checked against its rows.
use Rattle.schedule.specs.Code.{settings_of}
use Rattle.rules.specs.Validate.{point_rows}
use Rattle.judge_valid.specs.Code.{point_view_of}
use Rattle.judge_reason.proofs.Laws.{at_hand_lem}
use Rattle.judge_reason.proofs.dependency_reason.Goals as goal

pub returns-in-Some : goal.returns-in-Some
returns-in-Some c =
    let by = c.args.by.now in
    let rows = point_rows (settings_of by.conf) by.required c.args.is_prev_point (point_view_of by.view) in
    rw (at_hand_lem rows c.args.entry.now _ c.in-Some.point c.in-Some.is c.point.ensures, ← c.from.ensures) c.check_dependency.ensures
