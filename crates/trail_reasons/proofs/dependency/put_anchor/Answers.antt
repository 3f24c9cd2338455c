-- `put_anchor` meets its contract: its rules one after the other.
use Rattle.schedule.specs.Code.{settings_of}
use Rattle.point.specs.declared.data.AnchorStageRole.TheVariants.{Proof, Trigger}
use Rattle.judge_valid.specs.Code.{point_view_of, dep_view_of}
use Rattle.trail_rows.proofs.Laws.{put_more}
use Rattle.rules.proofs.FewReasons.{target-few}
use Rattle.trail_reasons.proofs.Laws.{put_rule, put_next, anchors-are}
use Rattle.trail_reasons.proofs.dependency.put_anchor.Goals as goal

pub returns-clause-put : goal.returns-clause-put
returns-clause-put c =
    let s = settings_of c.args.conf.now in
    let p = point_view_of c.args.p.now in
    let q = dep_view_of c.args.q.now in
    let first = put_rule _ _ _ _ c.check_target.ensures (target-few p q s Proof) _ _ _ _ c.put_reason-n.ensures.put in
    let targets = put_next _ _ _ _ c.check_target-2.ensures (target-few p q s Trigger) _ _ _ _ c.put_reason-n-2.ensures.put _ _ _ first in
    let source = put_more _ _ _ _ _ _ _ _ _ _ targets c.put_source-n.ensures.put in
    rw (← anchors-are s p q) (put_more _ _ _ _ _ _ _ _ _ _ source c.put_source.ensures.put)
