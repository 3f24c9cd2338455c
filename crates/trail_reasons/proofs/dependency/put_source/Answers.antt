-- `put_source` meets its contract: its two rules one after the other.
use mathlib.Core.Path.{sym, ◌∙◌}
use Rattle.judge_valid.specs.Code.{point_view_of, dep_view_of}
use Rattle.trail_rows.proofs.Laws.{put_none}
use Rattle.rules.proofs.FewReasons.{carried-few}
use Rattle.trail_reasons.proofs.Laws.{put_rule, put_next, path-few, source-is, source_none}
use Rattle.trail_reasons.proofs.dependency.put_source.Goals as goal

pub returns-then-not-is_source-clause-put : goal.returns-then-not-is_source-clause-put
returns-then-not-is_source-clause-put c =
    let p = point_view_of c.args.p.now in
    let q = dep_view_of c.args.q.now in
    rw (source_none c.args.role p q (sym c.is_source.ensures ∙ c.if-not-is_source.true)) (put_none c.args.out.now c.args.n)

pub returns-clause-put : goal.returns-clause-put
returns-clause-put c =
    let p = point_view_of c.args.p.now in
    let q = dep_view_of c.args.q.now in
    let path = put_rule _ _ _ _ c.check_path.ensures (path-few c.args.role p q) _ _ _ _ c.put_reason-n.ensures.put in
    rw (← source-is c.args.role p q (sym c.is_source.ensures ∙ c.if-not-is_source.false))
    (put_next _ _ _ _ c.check_carried.ensures (carried-few p q c.args.role) _ _ _ _ c.put_reason.ensures.put _ _ _ path)
