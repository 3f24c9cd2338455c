-- `judge_target` meets its contract: a direct link has no entry; an indirect one has that of its target.
use mathlib.Core.Path.{ap, ◌∙◌}
use Rattle.judge_valid.specs.Code.{point_view_of}
use Rattle.point.specs.Code.{point_id_of, through_of, link_of}
use Rattle.schedule.specs.Code.{settings_of}
use Rattle.judge_step.specs.Code.{indirect_fold, judging_of}
use Rattle.book_judge.proofs.Looked.{target-judged}
use Rattle.book_judge.proofs.judge_target.Goals as goal

pub returns-in_default : goal.returns-in_default
unfolding indirect_fold
returns-in_default c = λ b q a e. rw c.in_default.is

pub returns : goal.returns
returns c = λ b q a e.
    let x = c.in-Indirect.indirect in
    let j = judging_of c.args.so_far in
    target-judged c.lookup-entry.result b q (point_id_of x.to) (c.lookup-entry.ensures.looked_up b q a).1
    (settings_of c.args.by.now.conf) (point_view_of c.args.by.now.view) a.view j (judging_of c.with_indirect.result) c.args.role (through_of x.through) (link_of c.args.link) (ap link_of c.in-Indirect.is) e
    (λ first. c.with_indirect.ensures ∙ c.indirect_gives-gives.ensures first j)
