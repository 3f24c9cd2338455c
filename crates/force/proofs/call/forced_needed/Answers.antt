-- `forced_needed` meets its contract: a verdict was given, and the rows are put.
use mathlib.Core.Path.{ap, sym, ◌∙◌, subst}
use Rattle.point.specs.Said.{said}
use Rattle.schedule.specs.Code.{settings_of}
use Rattle.reasons.specs.Code.{verdict_of}
use Rattle.rules.specs.Judge.{needed, judge_from}
use Rattle.rules.specs.Force.{forceable_from}
use Rattle.trail_rows.specs.Code.{Filled}
use Rattle.force.specs.Code.{rows_over}
use Rattle.force.proofs.CallLaws.{told_filled, rows_are, list_reads, list_matches}
use Rattle.force.proofs.call.forced_needed.Goals as goal

pub returns : goal.returns
returns c =
    let conf = settings_of c.args.conf in
    let p = said c.args.point.now in
    let v = verdict_of c.in_ok-judge_needed.field-0 in
    let given = c.in_ok-judge_needed.ensures in
    let same = rows_are conf c.args.required p c.args.list.now c.args.presence v (sym given) ∙ ap (rows_over conf c.args.required p c.args.list.now) (sym c.missing_map.ensures) in
    told_filled (judge_from conf c.args.presence p c.args.list.now (needed c.args.required))
    (forceable_from conf c.args.presence p c.args.list.now (needed c.args.required)) c.args.out.now v given c.fill.new.out c.fill.result
    (subst (λ rows. Filled 17 rows c.args.out.now c.fill.new.out c.fill.result) (sym same)
    (c.fill.ensures p c.from.ensures (λ none. list_matches conf c.args.required p c.args.list.now c.args.presence v (sym given) (sym c.missing_map.ensures ∙ none))))

pub fill-requires : goal.fill-requires
fill-requires c =
    λ none.
    list_reads (settings_of c.args.conf) c.args.required (said c.args.point.now) c.args.list.now c.args.presence _ (sym c.in_ok-judge_needed.ensures)
    (sym c.missing_map.ensures ∙ none)
