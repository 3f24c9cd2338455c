-- The rules that have their own place in the code, and the entries that no rule is asked of.
use Rattle.std.specs.Prelude.{◌≡◌, Bool, List, [], ◌∷◌, Some}
use Rattle.base.specs.Base.{pick}
use Rattle.point.specs.Point.{is_anchor_stage}
use Rattle.point.specs.declared.data.AnchorStageRole.{AnchorStageRole}
use Rattle.reasons.specs.Invalid.{InvalidReason, AnchorLinkRole}
use Rattle.rules.specs.DagPoint.{PointView, DepView}
use Rattle.rules.specs.Validate.{proof_row, indirect_row}
use Rattle.point.specs.declared.info.PointInfo as code-info
use Rattle.judge_entries.specs.Code.{info_of}
use Rattle.judge_entries.specs.declared.entry.Entry as code-entry
use Rattle.judge_valid.specs.Code.{IsQuick}
use Rattle.judge_valid.specs.declared.quick.Quick as code-quick

-- the previous point's rule
abbrev pub prev_row : Bool → Bool → PointView → DepView → List InvalidReason
prev_row required is_prev_point p q = pick is_prev_point (proof_row required p q) []

-- the second row of `indirect_point_rows`
abbrev pub indirect_target_row : AnchorStageRole → PointView → DepView → List InvalidReason
indirect_target_row g p q = pick (is_anchor_stage g q.role) (indirect_row g p q) (AnchorLinkRole g q.id ∷ [])

-- an entry's point is there, and passed the quick test
abbrev pub Passes : code-quick.Quick → code-entry.Entry → Type 0
Passes q e = ((i : code-info.PointInfo) × (info_of e.state ≡ Some i)) × IsQuick q e.rec.now
