-- `direct_gives` meets its contract: a dropped entry, and any other by how it is taken.
use Rattle.std.specs.Prelude.{Option, None}
use mathlib.Core.Path.{◌≡◌, ap, sym, ◌∙◌}
use mathlib.Core.Bool.{false}
use Rattle.point.specs.Code.{point_id_of}
use Rattle.schedule.specs.Settings.{Settings}
use Rattle.schedule.specs.Code.{settings_of}
use Rattle.reasons.specs.Invalid.{InvalidReason}
use Rattle.rules.specs.DagPoint.{Entry, entry_id, is_dropped, PointView}
use Rattle.rules.specs.Validate.{nothing, as_version, aside, version_trail}
use Rattle.judge_entries.specs.Entry.{entry_of}
use Rattle.judge_valid.specs.Code.{point_view_of}
use Rattle.judge_reason.specs.Code.{taken_of}
use Rattle.judge_step.specs.Code.{Gives, dependency_as}
use Rattle.judge_step.proofs.Laws.{last-nothing, found_as, found-dependency, gives-dropped, gives_found}
use Rattle.judge_step.proofs.step.direct_gives.Goals as goal
use Rattle.judge_step.proofs.step.direct_gives.Goals.{After-how_taken}

abbrev conf : After-how_taken → Settings
conf c = settings_of c.args.by.now.conf

abbrev view : After-how_taken → PointView
view c = point_view_of c.args.by.now.view

abbrev entry : After-how_taken → Entry
entry c = entry_of c.args.entry.now

-- the entry is not dropped, and goes by the id
there : (c : After-how_taken) → is_dropped (entry c).state ≡ false
there c = sym (c.is_dropped.ensures c.args.entry.now.rec.now) ∙ c.if-is_dropped.false

same : (c : After-how_taken) → point_id_of c.id.result ≡ entry_id (entry c).state
same c = c.id.ensures c.args.entry.now.rec.now

pub returns-then-is_dropped : goal.returns-then-is_dropped
returns-then-is_dropped c =
    let by = c.args.by.now in
    let e = c.args.entry.now in
    gives-dropped (settings_of by.conf) by.required (point_view_of by.view) (entry_of e) None None
    (sym (c.is_dropped.ensures e.rec.now) ∙ c.if-is_dropped.true)

pub returns-in-AsDependency : goal.returns-in-AsDependency
returns-in-AsDependency c =
    let h = (goal.at.returns-in-AsDependency c).After-how_taken in
    let b = c.in-AsDependency.is_prev_point in
    gives_found (conf h) c.args.by.now.required (view h) (entry h) (dependency_as (conf h) c.args.by.now.required b (view h) (entry h)) _ (there h)
    (found-dependency (conf h) c.args.by.now.required (view h) (entry h) b _ (sym (ap taken_of c.in-AsDependency.is) ∙ c.how_taken.ensures) (same h))
    c.dependency_gives.ensures

pub returns-in-AsVersion : goal.returns-in-AsVersion
returns-in-AsVersion c =
    let h = (goal.at.returns-in-AsVersion c).After-how_taken in
    let gives : Option InvalidReason → Gives = λ o. record { reason = o; root = None; dropped = false } in
    gives_found (conf h) c.args.by.now.required (view h) (entry h) (record { trail = version_trail (entry h) (entry h).state; root = None }) _ (there h)
    (found_as (conf h) c.args.by.now.required (view h) (entry h) as_version _ (sym (ap taken_of c.in-AsVersion.is) ∙ c.how_taken.ensures) (same h))
    (ap gives (c.version_reason.ensures c.args.entry.now.rec.now))

pub returns-in-Aside : goal.returns-in-Aside
returns-in-Aside c =
    let h = (goal.at.returns-in-Aside c).After-how_taken in
    gives_found (conf h) c.args.by.now.required (view h) (entry h) nothing _ (there h)
    (found_as (conf h) c.args.by.now.required (view h) (entry h) aside _ (sym (ap taken_of c.in-Aside.is) ∙ c.how_taken.ensures) (same h))
    last-nothing
