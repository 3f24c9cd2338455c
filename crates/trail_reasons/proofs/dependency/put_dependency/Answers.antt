-- `put_dependency` meets its contract: its rules one after the other.
use Rattle.schedule.specs.Code.{settings_of}
use Rattle.point.specs.declared.data.AnchorStageRole.TheVariants.{Proof, Trigger}
use Rattle.judge_valid.specs.Code.{point_view_of, dep_view_of}
use Rattle.trail_rows.proofs.Laws.{put_more}
use Rattle.rules.proofs.FewReasons.{time-few, newer-few}
use Rattle.trail_reasons.proofs.Laws.{put_rule, put_next, prev-few, rows-are}
use Rattle.trail_reasons.proofs.dependency.put_dependency.Goals as goal

pub returns-clause-put : goal.returns-clause-put
returns-clause-put c =
    let by = c.args.by.now in
    let s = settings_of by.conf in
    let p = point_view_of by.view in
    let q = dep_view_of c.args.q.now in
    let b = c.args.is_prev_point in
    let prev = put_rule _ _ _ _ c.prev_reason.ensures (prev-few by.required b p q) _ _ _ _ c.put_reason-n.ensures.put in
    let time = put_next _ _ _ _ c.check_time.ensures (time-few p q s) _ _ _ _ c.put_reason-n-2.ensures.put _ _ _ prev in
    let proof = put_next _ _ _ _ c.check_newer.ensures (newer-few p q Proof) _ _ _ _ c.put_reason-n-3.ensures.put _ _ _ time in
    let trigger = put_next _ _ _ _ c.check_newer-2.ensures (newer-few p q Trigger) _ _ _ _ c.put_reason-n-4.ensures.put _ _ _ proof in
    rw (← rows-are s by.required b p q) (put_more _ _ _ _ _ _ _ _ _ _ trigger c.put_anchor.ensures.put)
