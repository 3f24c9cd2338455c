-- `dependency_gives` meets its contract: the reason and the root cause by what was called for them.
use Rattle.std.specs.Prelude.{Option}
use Prim.Native.Nat.{ℕ}
use mathlib.Core.Path.{◌≡◌, ap, ◌∙◌}
use mathlib.Core.Bool.{Bool}
use Rattle.point.specs.Point.{PointId, Through}
use Rattle.schedule.specs.Settings.{Settings}
use Rattle.schedule.specs.Code.{settings_of}
use Rattle.reasons.specs.Invalid.{InvalidDependency}
use Rattle.rules.specs.DagPoint.{DagPoint, entry_id}
use Rattle.rules.specs.Validate.{record_of, direct_through, point_rows}
use Rattle.judge_entries.specs.Entry.{entry_of}
use Rattle.judge_valid.specs.Code.{point_view_of}
use Rattle.judge_step.proofs.Laws.{all_found}
use Rattle.judge_step.proofs.step.dependency_gives.Goals as goal

-- what it came through goes by the id
recorded : (c : Settings) (round : ℕ) (certified : Bool) (d : DagPoint) (t : Through) (i : PointId) (o : Option InvalidDependency) →
    o ≡ record_of c round certified t d → t ≡ direct_through round i → i ≡ entry_id d → o ≡ record_of c round certified (direct_through round (entry_id d)) d
recorded c round certified d t i o h g e = h ∙ ap (λ (x : Through). record_of c round certified x d) (g ∙ ap (direct_through round) e)

pub returns : goal.returns
returns c =
    let by = c.args.by.now in
    let e = entry_of c.args.entry.now in
    let conf = settings_of by.conf in
    let p = point_view_of by.view in
    all_found conf p.id.round (direct_through p.id.round (entry_id e.state)) (point_rows conf by.required c.args.is_prev_point p) e _ _
    c.dependency_reason.ensures
    (recorded conf p.id.round e.certified e.state _ _ _ c.root_of.ensures c.direct_through-direct.ensures (c.id.ensures c.args.entry.now.rec.now))
