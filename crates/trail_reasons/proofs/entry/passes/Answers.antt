-- `passes` meets its contract: a point that is there goes by the quick test.
use Rattle.std.proofs.Common.{inl, inr}
use Rattle.std.specs.Prelude.{Some}
use mathlib.Core.Path.{◌≡◌, ap}
use Rattle.point.proofs.Laws.{readable}
use Rattle.point.specs.declared.info.PointInfo.{PointInfo}
use Rattle.judge_entries.specs.Code.{info_of}
use Rattle.trail_reasons.proofs.entry.passes.Goals as goal
use Rattle.trail_reasons.proofs.entry.passes.Goals.{In-Valid}

there : (c : In-Valid) → (i : PointInfo) × (info_of c.args.entry.now.state ≡ Some i)
there c =
    elim c.in-Valid.is [
      | inl v ↦ (v.0, ap info_of v.1)
      | inr w ↦ (elim w [ inl t ↦ (t.0, ap info_of t.3) | inr n ↦ (n.0, ap info_of n.2) ])
    ]

pub is_quick-requires : goal.is_quick-requires
is_quick-requires c =
    let i = there (goal.at.is_quick-requires c).In-Valid in
    (readable _ _ (c.args.entry.now.read i.0 i.1).read).shaped

pub returns-in-Valid : goal.returns-in-Valid
returns-in-Valid c = λ h. (there (goal.at.returns-in-Valid c).In-Valid, c.is_quick.ensures h)
