-- `are_targets` meets its contract: what is left of the list, with the roles that stood, gives what the whole list gives.
use Rattle.std.specs.Prelude.{is_some}
use mathlib.Core.Path.{refl, ap, sym, ◌∙◌}
use Rattle.point.specs.Code.{point_of}
use Rattle.judge_mismatch.proofs.Heads.{directs-last}
use Rattle.judge_mismatch.proofs.Laws.{Stood, stood-proof, stood-trigger, targets-left, target-false, target-again, target-true, target-told, no_direct}
use Rattle.judge_mismatch.proofs.targets.are_targets.Goals as goal
use Rattle.judge_mismatch.proofs.targets.are_targets.Goals.{Joined-role, in-Proof, in-Trigger, then-stood-via-then-stood, then-stood-via-else-stood+then-not-is_target}

stood : (c : Joined-role) → Stood c.in-Some-aim.role c.loop-head.proof c.loop-head.trigger c.match-role.stood c.match-role.proof c.match-role.trigger
stood c = elim c.match-role.branch [
  | in-Proof w ↦ stood-proof _ _ _ _ _ _ w.in-Proof.is (w.stood-is ∙ w.replace-stood.ensures.value) (w.proof-is ∙ w.replace-stood.ensures.after) w.trigger-is
  | in-Trigger w ↦ stood-trigger _ _ _ _ _ _ w.in-Trigger.is (w.stood-is ∙ w.replace-stood-in-Trigger.ensures.value) w.proof-is (w.trigger-is ∙ w.replace-stood-in-Trigger.ensures.after)
]

pub loop-head-init : goal.loop-head-init
loop-head-init c = rw (c.into_iter-head-iterator.ensures.into_iter_gives, c.entries-head-items.ensures.left) (c.requires, λ s. refl)

pub returns-in_default : goal.returns-in_default
returns-in_default c = no_direct c.in-Some.ensures.steps.front c.in_default.is c.loop-head.invariant.0

pub returns-then-stood : goal.returns-then-stood
returns-then-stood c =
    let at = goal.at.returns-then-stood c in
    let f = c.in-Some.ensures.steps.front in
    λ s.
    sym (sym (c.loop-head.invariant.1 s) ∙ (elim c.then-stood.branch [
      | then-stood-via-then-stood w ↦ target-again f _ c.in-Some-aim.is _ _ _ (sym (stood at.Joined-role).before ∙ w.if-stood.true)
      | then-stood-via-else-stood+then-not-is_target w ↦ target-false f _ c.in-Some-aim.is (point_of s c.args.info) _ _ (target-told c.in-Some-aim.role s c.args.info _ w.is_target.ensures w.anchor_link.ensures ∙ w.if-not-is_target.true)
    ]))

pub loop-head-preserved : goal.loop-head-preserved
loop-head-preserved c =
    let at = goal.at.loop-head-preserved c in
    let f = c.in-Some.ensures.steps.front in
    let t = stood at.Joined-role in (
      (directs-last f (ap is_some c.in-Some-aim.is)).1,
      λ s. rw (t.now.0, t.now.1) (sym (target-true f _ c.in-Some-aim.is (point_of s c.args.info) _ _ (target-told c.in-Some-aim.role s c.args.info _ c.is_target.ensures c.anchor_link.ensures ∙ c.if-not-is_target.false) (sym t.before ∙ c.if-stood.false))) ∙ c.loop-head.invariant.1 s,
    )

pub returns : goal.returns
returns c = λ s. sym (sym (c.loop-head.invariant.1 s) ∙ targets-left _ _ _ c.in-None.ensures.steps.0)
