-- `indirect_reason` meets its contract: a point that is there is checked against its rows.
use Rattle.schedule.specs.Code.{settings_of}
use Rattle.rules.specs.Validate.{indirect_point_rows}
use Rattle.judge_valid.specs.Code.{point_view_of}
use Rattle.judge_reason.proofs.Laws.{at_hand_lem}
use Rattle.judge_reason.proofs.indirect_reason.Goals as goal

pub returns-in-Some : goal.returns-in-Some
returns-in-Some c =
    let by = c.args.by.now in
    let rows = indirect_point_rows (settings_of by.conf) c.args.role (point_view_of by.view) in
    rw (at_hand_lem rows c.args.entry.now _ c.in-Some.point c.in-Some.is c.point.ensures, ← c.from.ensures) c.check_indirect.ensures
