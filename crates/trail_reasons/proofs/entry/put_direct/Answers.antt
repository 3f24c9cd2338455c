-- `put_direct` meets its contract: an entry by how it is taken, if the quick test says nothing of it.
use mathlib.Core.Path.{ap, sym, ◌∙◌}
use Rattle.schedule.specs.Code.{settings_of}
use Rattle.rules.specs.Validate.{as_version, aside}
use Rattle.judge_entries.specs.Entry.{entry_of}
use Rattle.judge_valid.specs.Code.{point_view_of}
use Rattle.judge_reason.specs.Code.{taken_of}
use Rattle.trail_rows.proofs.Laws.{put_none}
use Rattle.trail_reasons.proofs.Laws.{put_rule, version-few, taken_trail, dependency-trail, quick-none}
use Rattle.trail_reasons.proofs.entry.put_direct.Goals as goal

pub returns-then-passes-clause-put : goal.returns-then-passes-clause-put
returns-then-passes-clause-put c =
    let by = c.args.by.now in
    let none = c.passes.ensures c.if-passes.true in
    rw (quick-none (settings_of by.conf) by.required (point_view_of by.view) c.args.quick.now c.args.entry.now c.requires.quick none)
    (put_none c.args.out.now c.args.n)

pub returns-in-AsDependency-clause-put : goal.returns-in-AsDependency-clause-put
returns-in-AsDependency-clause-put c =
    let by = c.args.by.now in
    let s = settings_of by.conf in
    let p = point_view_of by.view in
    let e = c.args.entry.now in
    let how = sym (ap taken_of c.in-AsDependency.is) ∙ c.how_taken.ensures in
    rw (
      ← taken_trail s by.required p (entry_of e) _ _ how (c.id.ensures e.rec.now),
      ← dependency-trail s by.required p (entry_of e) c.in-AsDependency.is_prev_point,
    )
    c.put_as_dependency.ensures.put

pub returns-in-AsVersion-clause-put : goal.returns-in-AsVersion-clause-put
returns-in-AsVersion-clause-put c =
    let by = c.args.by.now in
    let s = settings_of by.conf in
    let p = point_view_of by.view in
    let e = c.args.entry.now in
    let how = sym (ap taken_of c.in-AsVersion.is) ∙ c.how_taken.ensures in
    rw (← taken_trail s by.required p (entry_of e) as_version _ how (c.id.ensures e.rec.now))
    (put_rule _ _ _ _ (c.version_reason-reason.ensures e.rec.now) (version-few (entry_of e) (entry_of e).state) _ _ _ _ c.put_reason.ensures.put)

pub returns-in-Aside-clause-put : goal.returns-in-Aside-clause-put
returns-in-Aside-clause-put c =
    let by = c.args.by.now in
    let s = settings_of by.conf in
    let p = point_view_of by.view in
    let e = c.args.entry.now in
    let how = sym (ap taken_of c.in-Aside.is) ∙ c.how_taken.ensures in
    rw (← taken_trail s by.required p (entry_of e) aside _ how (c.id.ensures e.rec.now)) (put_none c.args.out.now c.args.n)
