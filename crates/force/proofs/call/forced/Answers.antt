-- `forced` meets its contract: what the tests, and what is known before the list, leave to show.
use Rattle.std.proofs.lemmas.Grind.{common_steps}
use native.Mathlib.Omega.{arith}
use Rattle.std.specs.Prelude.{Ok}
use Prim.Native.Nat.{◌≤◌}
use mathlib.Core.Path.{refl, ap, sym, ◌∙◌}
use Rattle.parts.specs.Limits.{peers_room}
use Rattle.reasons.specs.Code.{verdict_of}
use Rattle.judge.specs.Code.{before_of}
use Rattle.judge.proofs.Laws.{tested-admitted}
use Rattle.force.proofs.CallLaws.{called_number, called_from, called_refused, called_judged}
use Rattle.force.proofs.call.forced.Goals as goal

room : peers_room ≤ peers_room
room = omega arith

pub returns-in_err-input : goal.returns-in_err-input
returns-in_err-input c =
    called_number _ _ _ _ _ c.from_residual.result c.in_err-input.field-0.0 (grind (arith, common_steps)) (sym (c.in_err-input.ensures peers_room))

pub returns-in_err-before_list : goal.returns-in_err-before_list
returns-in_err-before_list c =
    called_refused _ _ _ _ _ _ (tested-admitted _ _ _ (c.in_ok-input.ensures peers_room) room) _ c.in_err-before_list.ensures.same
    c.from_residual-in_err-before_list.result c.in_err-before_list.field-0.0 (grind (arith, common_steps)) refl

pub returns-in-Judged : goal.returns-in-Judged
returns-in-Judged c =
    called_judged _ _ _ _ _ _ (tested-admitted _ _ _ (c.in_ok-input.ensures peers_room) room) _
    (sym (ap (λ b. before_of (Ok b)) c.in-Judged.is) ∙ c.in_ok-before_list.ensures.same) (verdict_of c.in-Judged.field-0) refl

pub returns-in-Needed : goal.returns-in-Needed
returns-in-Needed c =
    called_from _ _ _ _ _ _ (tested-admitted _ _ _ (c.in_ok-input.ensures peers_room) room) _
    (sym (ap (λ b. before_of (Ok b)) c.in-Needed.is) ∙ c.in_ok-before_list.ensures.same) _ _ c.forced_needed.ensures
