-- `judge_over_list` meets its contract: the returns after the last of the numbers.
use Rattle.std.specs.Prelude.{Some}
use Rattle.std.proofs.lemmas.Grind.{common_steps}
use native.Mathlib.Omega.{arith}
use mathlib.Core.Path.{sym, ◌∙◌}
use mathlib.Core.Bool.{false}
use Rattle.point.specs.Said.{said}
use Rattle.schedule.specs.Code.{settings_of}
use Rattle.rules.specs.List.{read_list}
use Rattle.judge_list.specs.Code.{judged_list_of}
use Rattle.judge.proofs.Laws.{Mismatch, Over, answer-witness, answer-verdict}
use Rattle.judge.proofs.judge_over_list.Goals as goal
use Rattle.judge.proofs.judge_over_list.Goals.{Else-is_mismatch}

-- what judging over the list came to, and that the list is no mismatch
judged : (c : Else-is_mismatch) → Over (settings_of c.args.conf) c.args.required (said c.args.point.now) (read_list c.args.list.now) (Some (judged_list_of c.in_ok-judged.judged))
judged c = grind (arith, common_steps)

fits : (c : Else-is_mismatch) → Mismatch c.args.presence (said c.args.point.now) (read_list c.args.list.now) false
fits c l e = sym c.if-is_mismatch.false ∙ c.is_mismatch.ensures l e

pub returns-then-lacks_witness : goal.returns-then-lacks_witness
returns-then-lacks_witness c =
    let at = (goal.at.returns-then-lacks_witness c).Else-is_mismatch in
    c.no_round.ensures
    ∙ answer-witness _ _ _ _ c.requires _ _ (judged at) (fits at) c.if-judged.false (sym c.if-lacks_witness.true ∙ c.lacks_witness.ensures)

pub returns : goal.returns
returns c =
    let at = (goal.at.returns c).Else-is_mismatch in
    answer-verdict _ _ _ _ c.requires _ _ (judged at) (fits at) c.if-judged.false (sym c.if-lacks_witness.false ∙ c.lacks_witness.ensures)
