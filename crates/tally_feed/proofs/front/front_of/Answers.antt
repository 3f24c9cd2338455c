-- `front_of` meets its contract: a lemma for each thing that was found, and each `return` cites the law of its case.
use Rattle.std.specs.Prelude.{Some, None, Err}
use Rattle.std.proofs.lemmas.Grind.{common_steps}
use Prim.Native.Nat.{ℕ, ◌-◌}
use native.Mathlib.Omega.{arith}
use mathlib.Core.Path.{◌≡◌, ap, sym, ◌∙◌}
use mathlib.Core.List.{List}
use lib.ListN.{length, take, drop}
use lib.Seq.{take_all, length-take-le}
use Rattle.schedule.specs.Settings.{read_settings}
use Rattle.schedule.specs.Code.{settings_of, schedule_of}
use Rattle.schedule.specs.Schedule.{read_schedule}
use Rattle.base.proofs.Lists.{rest}
use Rattle.parts.specs.Limits.{settings_length}
use Rattle.reasons.specs.Refusal.{numbered}
use Rattle.reasons.specs.declared.refusal.Refusal.TheVariants as refusal
use Rattle.tally_feed.specs.Tally.{schedule_end}
use Rattle.tally_feed.proofs.Laws.{schedule-inside, schedule-most, short-settings, front_unset, front_endless, front-unread, front_read, begins}
use Rattle.tally_feed.proofs.front.front_of.Goals as goal
use Rattle.tally_feed.proofs.front.front_of.Goals.{In_ok-ok_or, In_ok-end}

has-settings : (c : In_ok-ok_or) → read_settings (take settings_length c.args.feed.now) ≡ Some (settings_of c.in_ok-ok_or.field-0)
has-settings c = grind (arith, common_steps)

-- where the schedule ends
has_end : (c : In_ok-end) → schedule_end (drop settings_length c.args.feed.now) ≡ Some c.in_ok-end.end
has_end c =
    let e : c.schedule_end.result ≡ Some c.in_ok-end.end = grind (arith, common_steps) in
    sym (c.schedule_end.ensures ∙ ap schedule_end (rest settings_length c.args.feed.now)) ∙ e

abbrev after : List ℕ → List ℕ
after s = take (length s - settings_length) (drop settings_length s)

pub returns-then-feed-lt-SETTINGS_LENGTH-clause-same : goal.returns-then-feed-lt-SETTINGS_LENGTH-clause-same
returns-then-feed-lt-SETTINGS_LENGTH-clause-same c =
    let s = c.args.feed.now in
    sym (front_unset s (ap read_settings (take_all settings_length s (omega (arith, c.if-feed-lt-SETTINGS_LENGTH.true))) ∙ short-settings s c.if-feed-lt-SETTINGS_LENGTH.true))

pub returns-in_err-ok_or-clause-same : goal.returns-in_err-ok_or-clause-same
returns-in_err-ok_or-clause-same c =
    let e : c.from_residual.result ≡ Err refusal.Settings = grind (arith, common_steps) in
    let n : read_settings (take settings_length c.args.feed.now) ≡ None = grind (arith, common_steps) in
    ap numbered e ∙ sym (front_unset c.args.feed.now n)

pub returns-in_err-end-clause-same : goal.returns-in_err-end-clause-same
returns-in_err-end-clause-same c =
    let at = goal.at.returns-in_err-end-clause-same c in
    let s = c.args.feed.now in
    let e : c.from_residual-in_err-end.result ≡ Err refusal.Schedule = grind (arith, common_steps) in
    let n : c.schedule_end.result ≡ None = grind (arith, common_steps) in
    ap numbered e ∙ sym (front_endless s _ (has-settings at.In_ok-ok_or) (sym (c.schedule_end.ensures ∙ ap schedule_end (rest settings_length s)) ∙ n))

pub slice_bounds-read_schedule-end : goal.slice_bounds-read_schedule-end
slice_bounds-read_schedule-end c =
    let e : c.schedule_end.result ≡ Some c.in_ok-end.end = grind (arith, common_steps) in
    sym (length-take-le c.in_ok-end.end (after c.args.feed.now) (schedule-inside _ _ (sym c.schedule_end.ensures ∙ e)))

pub returns-in_err-ok_or-2-clause-same : goal.returns-in_err-ok_or-2-clause-same
returns-in_err-ok_or-2-clause-same c =
    let at = goal.at.returns-in_err-ok_or-2-clause-same c in
    let s = c.args.feed.now in
    let n = c.in_ok-end.end in
    let e : c.from_residual-in_err-ok_or-2.result ≡ Err refusal.Schedule = grind (arith, common_steps) in
    let u : read_schedule (take n (after s)) ≡ None = grind (arith, common_steps) in
    ap numbered e ∙ sym (front-unread s _ (has-settings at.In_ok-ok_or) n (has_end at.In_ok-end) (sym (ap (λ (t : List ℕ). read_schedule (take n t)) (rest settings_length s)) ∙ u))

pub overflow_add-result : goal.overflow_add-result
overflow_add-result c = omega (arith, schedule-most _ _ (has_end (goal.at.overflow_add-result c).In_ok-end))

pub returns : goal.returns
returns c =
    let at = goal.at.returns c in
    let s = c.args.feed.now in
    let n = c.in_ok-end.end in
    let u : read_schedule (take n (after s)) ≡ Some (schedule_of (take n (after s)) c.in_ok-ok_or-2.field-0) = grind (arith, common_steps) in
    record {
      same = sym (front_read s _ (has-settings at.In_ok-ok_or) n (has_end at.In_ok-end) _ (sym (ap (λ (t : List ℕ). read_schedule (take n t)) (rest settings_length s)) ∙ u));
      begins = begins s n (has_end at.In_ok-end) c.if-feed-lt-SETTINGS_LENGTH.false;
    }
