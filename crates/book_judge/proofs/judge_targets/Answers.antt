-- `judge_targets` meets its contract: the two targets in either order.
use mathlib.Core.Path.{refl, sym, ◌∙◌}
use Rattle.point.specs.Code.{point_of}
use Rattle.schedule.specs.Code.{settings_of}
use Rattle.judge_step.specs.Code.{judging_of}
use Rattle.book_judge.proofs.Laws.{trigger-first, proof-first}
use Rattle.book_judge.proofs.judge_targets.Goals as goal

pub returns-then-is_trigger_first : goal.returns-then-is_trigger_first
returns-then-is_trigger_first c =
    λ b s a.
    let q = point_of s c.args.info in
    trigger-first (settings_of c.args.by.now.conf) q b (judging_of c.args.so_far) (judging_of c.judge_target-first.result) (judging_of c.judge_target.result)
    (sym c.is_trigger_first.ensures ∙ c.if-is_trigger_first.true) (c.judge_target-first.ensures b q a refl) (c.judge_target.ensures b q a refl)

pub returns : goal.returns
returns c =
    λ b s a.
    let q = point_of s c.args.info in
    proof-first (settings_of c.args.by.now.conf) q b (judging_of c.args.so_far) (judging_of c.judge_target-first-2.result) (judging_of c.judge_target-2.result)
    (sym c.is_trigger_first.ensures ∙ c.if-is_trigger_first.false) (c.judge_target-first-2.ensures b q a refl) (c.judge_target-2.ensures b q a refl)
