-- `trail_needed` meets its contract: what a verdict that isn't Invalid, and the rows of one that is, leave to show.
use Rattle.std.proofs.lemmas.Grind.{common_steps}
use Rattle.std.specs.Prelude.{Ok, Err, option_map, None}
use native.Mathlib.Omega.{arith}
use mathlib.Core.Path.{◌≡◌, ap, sym, ◌∙◌, subst}
use Rattle.point.specs.Said.{said}
use Rattle.schedule.specs.Code.{settings_of}
use Rattle.reasons.specs.Code.{reason_of, verdict_of}
use Rattle.reasons.specs.Verdict.{Invalid}
use Rattle.rules.specs.Judge.{Given, needed, judge_from}
use Rattle.rules.specs.Trail.{trail_from}
use Rattle.trail.specs.Call.{Told}
use Rattle.trail_rows.specs.Code.{Filled}
use Rattle.trail.specs.Code.{ReasonOf, rows_over}
use Rattle.trail.proofs.CallLaws.{told-none, told-filled, told-short, other-rows, invalid-rows, alone_told}
use Rattle.trail.proofs.call.trail_needed.Goals as goal
use Rattle.trail.proofs.call.trail_needed.Goals.{After-then_some-alone}

pub returns-in_default : goal.returns-in_default
returns-in_default c =
    let none : ReasonOf (verdict_of c.in_ok-verdict.verdict) None = subst (λ o. ReasonOf (verdict_of c.in_ok-verdict.verdict) (option_map reason_of o)) c.in_default.is c.invalid_reason.ensures in
    told-none _ _ _ c.in_ok-verdict.verdict c.in_ok-verdict.ensures
    (other-rows (settings_of c.args.conf) c.args.required (said c.args.point.now) c.args.list.now c.args.presence _ (sym c.in_ok-verdict.ensures) none)

-- the verdict is Invalid
invalid : (c : After-then_some-alone) →
    judge_from (settings_of c.args.conf) c.args.presence (said c.args.point.now) c.args.list.now (needed c.args.required) ≡ Given (Invalid (reason_of c.in-Some.reason))
invalid c =
    let some = subst (λ o. ReasonOf (verdict_of c.in_ok-verdict.verdict) (option_map reason_of o)) c.in-Some.is c.invalid_reason.ensures in
    sym c.in_ok-verdict.ensures ∙ ap Given some

rows-are : (c : After-then_some-alone) →
    trail_from (settings_of c.args.conf) c.args.presence (said c.args.point.now) c.args.list.now (needed c.args.required)
    ≡ rows_over (settings_of c.args.conf) c.args.required (said c.args.point.now) c.args.list.now (option_map reason_of c.then_some-alone.result)
rows-are c =
    invalid-rows (settings_of c.args.conf) c.args.required (said c.args.point.now) c.args.list.now c.args.presence _ _ (invalid c) c.is_by_presence.ensures
    ∙ ap (rows_over (settings_of c.args.conf) c.args.required (said c.args.point.now) c.args.list.now) (sym (alone_told _ _ _ c.then_some-alone.ensures))

pub returns-in_err-rows : goal.returns-in_err-rows
returns-in_err-rows c =
    let at = (goal.at.returns-in_err-rows c).After-then_some-alone in
    let r = c.in_err-rows.field-0.0 in
    let e : c.from_residual-in_err-rows.result ≡ Err r = grind (arith, common_steps) in
    subst (Told _ _ _ _) (sym e)
    (told-short _ _ _ c.in_ok-verdict.verdict c.in_ok-verdict.ensures c.fill.new.trail r
    (subst (λ l. Filled 15 l c.args.trail.now c.fill.new.trail (Err r)) (sym (rows-are at)) (c.in_err-rows.ensures (said c.args.point.now) c.from.ensures)))

pub returns : goal.returns
returns c =
    let at = (goal.at.returns c).After-then_some-alone in
    told-filled _ _ _ c.in_ok-verdict.verdict c.in_ok-verdict.ensures c.fill.new.trail c.in_ok-rows.rows
    (subst (λ l. Filled 15 l c.args.trail.now c.fill.new.trail (Ok c.in_ok-rows.rows)) (sym (rows-are at)) (c.in_ok-rows.ensures (said c.args.point.now) c.from.ensures))
