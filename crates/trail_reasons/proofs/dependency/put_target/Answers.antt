-- `put_target` meets its contract: its rules one after the other.
use Rattle.schedule.specs.Code.{settings_of}
use Rattle.judge_valid.specs.Code.{point_view_of, dep_view_of}
use Rattle.rules.proofs.FewReasons.{time-few}
use Rattle.trail_reasons.proofs.Laws.{put_rule, put_next, target_role-few, target-are}
use Rattle.trail_reasons.proofs.dependency.put_target.Goals as goal

pub returns-clause-put : goal.returns-clause-put
returns-clause-put c =
    let by = c.args.by.now in
    let s = settings_of by.conf in
    let p = point_view_of by.view in
    let q = dep_view_of c.args.q.now in
    let time = put_rule _ _ _ _ c.check_time.ensures (time-few p q s) _ _ _ _ c.put_reason-n.ensures.put in
    rw (← target-are s c.args.role p q)
    (put_next _ _ _ _ c.target_reason.ensures (target_role-few c.args.role p q) _ _ _ _ c.put_reason.ensures.put _ _ _ time)
