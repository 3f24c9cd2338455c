-- `waits_for` meets its contract, by what judging says before the list.
use Rattle.std.proofs.lemmas.Grind.{common_steps}
use native.Mathlib.Omega.{arith}
use mathlib.Core.Path.{ap, sym, ◌∙◌}
use Rattle.std.specs.Prelude.{Ok}
use Rattle.parts.specs.Limits.{peers_room}
use Rattle.judge.specs.Code.{before_of}
use Rattle.clearing.proofs.Laws.{with-refused, with-admitted, with-judged}
use Rattle.clearing.proofs.waits_for.Goals as goal

pub returns-in_err-input : goal.returns-in_err-input
returns-in_err-input c = with-refused _ _ _ _ _ _ (c.in_err-input.ensures peers_room) (grind (arith, common_steps))

pub returns-in_err-before_list : goal.returns-in_err-before_list
returns-in_err-before_list c =
    with-admitted _ _ _ _ _ (c.in_ok-input.ensures peers_room) _ _ c.in_err-before_list.ensures.same (grind (arith, common_steps))

pub returns-in-Judged : goal.returns-in-Judged
returns-in-Judged c =
    with-judged _ _ _ _ _ (c.in_ok-input.ensures peers_room) _
    (sym (ap (λ b. before_of (Ok b)) c.in-Judged.is) ∙ c.in_ok-before_list.ensures.same)

pub returns-in-Needed : goal.returns-in-Needed
returns-in-Needed c =
    with-admitted _ _ _ _ _ (c.in_ok-input.ensures peers_room) _ _
    (sym (ap (λ b. before_of (Ok b)) c.in-Needed.is) ∙ c.in_ok-before_list.ensures.same) c.over_list.ensures
