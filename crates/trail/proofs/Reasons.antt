-- A verdict over lists that isn't Invalid has no rows.
use Rattle.std.specs.Prelude.{Option, None, Some}
use mathlib.Core.Path.{◌≡◌, refl, ◌∙◌}
use mathlib.Core.Bool.{Bool}
use mathlib.Core.List.{List, []}
use Rattle.base.specs.Base.{last_of}
use Rattle.base.proofs.Tables.{last_none}
use Rattle.point.specs.Point.{PointInfo}
use Rattle.schedule.specs.Settings.{Settings}
use Rattle.reasons.specs.Invalid.{InvalidReason, InvalidDependency}
use Rattle.rules.specs.DagPoint.{Entry, IndirectEntry}
use Rattle.rules.specs.Validate.{result_with, over_lists}
use Rattle.rules.specs.Trail.{list_rows}
use Rattle.rules.specs.Fired.{all_findings}
use Rattle.rules.proofs.Rows.{no_rows, list-reasons}
use Rattle.trail.specs.Code.{ReasonOf}

no-last : (o : Option InvalidReason) (w : Option InvalidDependency) → ReasonOf (result_with o w) None → o ≡ None
no-last None w h = refl
no-last (Some r) w h = absurd (h r refl)

pub no-rows : (c : Settings) (required : Bool) (p : PointInfo) (es : List Entry) (ts : List IndirectEntry) →
    ReasonOf (over_lists c required p es ts) None → list_rows c required p es ts ≡ []
unfolding over_lists
no-rows c required p es ts h =
    let all = all_findings c required p es ts in
    no_rows _ (list-reasons c required p es ts ∙ last_none all.trail (no-last (last_of all.trail) all.root h))
