-- Laws of the final reason of an entry, as the code finds it.
use Rattle.std.specs.Prelude.{Option, None, Some, option_map}
use mathlib.Core.Path.{◌≡◌, refl, ap, sym, ◌∙◌}
use mathlib.Core.Bool.{Bool, true, false}
use mathlib.Core.List.{[], ◌∷◌}
use Rattle.base.specs.Base.{pick, last_of}
use Rattle.point.specs.Point.{PointInfo}
use Rattle.point.specs.declared.data.AnchorStageRole.{AnchorStageRole}
use Rattle.schedule.specs.Settings.{Settings}
use Rattle.reasons.specs.Code.{reason_of}
use Rattle.reasons.specs.Invalid.{InvalidReason, DependencyRoundDropped, InvalidDependency}
use Rattle.rules.specs.DagPoint.{Entry, PointView, point_view, is_dropped}
use Rattle.rules.specs.List.{Listed}
use Rattle.rules.specs.Validate.{entry_findings, indirect_findings, dependency, dependency_trail, indirect_point_rows}
use Rattle.rules.specs.Force.{list_of, direct_final}
use Rattle.judge_step.specs.Code.{Gives, Judging, start, with_direct, direct_step, DirectGives, gives_of}
use Rattle.judge_step.specs.declared.step.Gives as code
use Rattle.force_rows.specs.Code.{final_in}

from-start : (b : Bool) (o : Option InvalidReason) (d : Option InvalidDependency) →
    (with_direct start (record { reason = o; root = d; dropped = b })).direct ≡ pick b (Some DependencyRoundDropped) o
from-start true o d = refl
from-start false None d = refl
from-start false (Some r) d = refl

final-list : (b : Bool) (o : Option InvalidReason) → list_of (pick b (Some DependencyRoundDropped) o) ≡ pick b (DependencyRoundDropped ∷ []) (list_of o)
final-list true o = refl
final-list false o = refl

module _ (c : Settings) (required : Bool) where
  module _ (v : PointView) (e : Entry) where
    told : (g : Gives) (b : Bool) → b ≡ g.dropped → DirectGives c required v e g →
        list_of (pick b (Some DependencyRoundDropped) g.reason) ≡ direct_final c required v e
    unfolding direct_step
    told g b d h =
        let o = last_of (entry_findings c required v e).trail in
        let same : pick g.dropped (Some DependencyRoundDropped) g.reason ≡ pick (is_dropped e.state) (Some DependencyRoundDropped) o =
        sym (from-start g.dropped g.reason g.root) ∙ (ap (λ (j : Judging). j.direct) (h start) ∙ from-start (is_dropped e.state) o (entry_findings c required v e).root) in
        rw d (ap list_of same ∙ final-list (is_dropped e.state) o)

    pub told_dropped : (x : code.Gives) → x.dropped ≡ true → DirectGives c required v e (gives_of x) →
        DependencyRoundDropped ∷ [] ≡ direct_final c required v e
    told_dropped x d = told (gives_of x) true (sym d)

    pub told_found : (x : code.Gives) → x.dropped ≡ false → DirectGives c required v e (gives_of x) →
        list_of (option_map reason_of x.reason) ≡ direct_final c required v e
    told_found x d = told (gives_of x) false (sym d)

  module _ (p : PointInfo) (x : Listed) (v : PointView) (k : v ≡ point_view p) (o : Option InvalidReason) where
    pub final_target : (g : AnchorStageRole) → x.aim ≡ Some g → o ≡ last_of (dependency_trail (indirect_point_rows c g v) x.entry.state) →
        list_of o ≡ final_in c required p x
    unfolding indirect_findings dependency
    final_target g a h = rw (a, ← k) (ap list_of h)

    pub final_direct : x.aim ≡ None → list_of o ≡ direct_final c required v x.entry → list_of o ≡ final_in c required p x
    final_direct a h = rw (a, ← k) h
