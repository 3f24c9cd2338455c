-- `put_indirect` meets its contract: a point that is there is checked against its rows.
use Rattle.schedule.specs.Code.{settings_of}
use Rattle.rules.specs.Validate.{indirect_point_rows}
use Rattle.judge_valid.specs.Code.{point_view_of}
use Rattle.judge_reason.proofs.Laws.{at_hand_lem}
use Rattle.trail_reasons.proofs.Laws.{put_rule, absent-few}
use Rattle.trail_reasons.proofs.entry.put_indirect.Goals as goal

pub returns-in-Some-clause-put : goal.returns-in-Some-clause-put
returns-in-Some-clause-put c =
    let by = c.args.by.now in
    let rows = indirect_point_rows (settings_of by.conf) c.args.role (point_view_of by.view) in
    rw (at_hand_lem rows c.args.entry.now _ c.in-Some.point c.in-Some.is c.point.ensures, ← c.from.ensures) c.put_target.ensures.put

pub returns-in-None-clause-put : goal.returns-in-None-clause-put
returns-in-None-clause-put c =
    let by = c.args.by.now in
    let rows = indirect_point_rows (settings_of by.conf) c.args.role (point_view_of by.view) in
    let e = c.args.entry.now in
    put_rule _ _ _ _ (c.absent_reason.ensures e.rec.now rows c.in-None.ensures) (absent-few rows e.rec.now e.state c.in-None.ensures)
    _ _ _ _ c.put_reason.ensures.put
