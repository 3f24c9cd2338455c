-- What the code's values stand for, and what its functions promise each other.
use Rattle.std.specs.Prelude.{ℕ, ◌-◌, ◌/◌, ◌^◌, ◌≡◌, Bool, false, not, List, [], Some, option_map}
use Rattle.base.specs.Base.{when, concat}
use Rattle.parts.specs.Code.{number}
use Rattle.point.specs.Point.{PointInfo, top, same_id}
use Rattle.point.specs.Reading.{read_point}
use Rattle.point.specs.Code.{point_id_of}
use Rattle.point.specs.declared.data.AnchorStageRole.{AnchorStageRole}
use Rattle.point.specs.declared.data.AnchorStageRole.TheVariants.{Proof, Trigger}
use Rattle.schedule.specs.Settings.{Settings}
use Rattle.reasons.specs.Invalid.{InvalidReason, AnchorLinkBadPath}
use Rattle.rules.specs.DagPoint.{is_by, LinkIds, PointView, links_in, DepView, dep_view, top_in}
use Rattle.rules.specs.Validate.{point_rows}
use Rattle.judge_valid.specs.declared.brief.Brief as code-brief
use Rattle.judge_valid.specs.declared.quick.Quick as code-quick
use Rattle.judge_valid.specs.declared.view.LinkIds as code-links
use Rattle.judge_valid.specs.declared.view.PointView as code-point
use Rattle.judge_valid.specs.declared.view.DepView as code-dep

abbrev pub link_ids_of : code-links.LinkIds → LinkIds
link_ids_of l = record { target = point_id_of l.target; source = point_id_of l.source }

abbrev pub point_view_of : code-point.PointView → PointView
point_view_of p =
    record {
      id = point_id_of p.id;
      role = p.role;
      time = p.time;
      anchor_time = p.anchor_time;
      prev_digest = option_map number p.prev_digest;
      proof = link_ids_of p.proof;
      trigger = link_ids_of p.trigger;
    }

abbrev pub dep_view_of : code-dep.DepView → DepView
dep_view_of q =
    record {
      id = point_id_of q.id;
      role = q.role;
      time = q.time;
      anchor_time = q.anchor_time;
      proof_top = point_id_of q.proof_top;
      trigger_top = point_id_of q.trigger_top;
    }

-- ---- the two parts of `source_row`: whether a dependency is a link's source, and what its top gives of one

abbrev pub is_source : AnchorStageRole → PointView → DepView → Bool
is_source g p q = same_id q.id (links_in g p).source

abbrev pub path_row : AnchorStageRole → PointView → DepView → List InvalidReason
path_row g p q = when (not (same_id (top_in g q) (links_in g p).target)) (AnchorLinkBadPath g q.id)

-- ---- the quick test

-- of the 32 bytes that a number stands for the first eight
unfoldable pub first_word : ℕ → ℕ
first_word n = n / 2 ^ 64 / 2 ^ 64 / 2 ^ 64

-- the few numbers of a dependency
pub record BriefOf (q : PointInfo) (b : code-brief.Brief) : Type 0 where
  pub round : b.round ≡ q.id.round
  pub digest : b.digest ≡ first_word q.id.digest
  pub author : b.author ≡ first_word q.id.author
  pub proof_top_round : b.proof_top_round ≡ (top Proof q).round
  pub trigger_top_round : b.trigger_top_round ≡ (top Trigger q).round
  pub time : b.time ≡ q.time

-- what the test asks of the judged point and the settings
pub record QuickOf (c : Settings) (p : PointView) (r : code-quick.Quick) : Type 0 where
  pub before : r.before ≡ p.id.round - 1
  pub author : r.author ≡ first_word p.id.author
  pub proof_target : r.proof_target ≡ first_word p.proof.target.digest
  pub proof_source : r.proof_source ≡ first_word p.proof.source.digest
  pub trigger_target : r.trigger_target ≡ first_word p.trigger.target.digest
  pub trigger_source : r.trigger_source ≡ first_word p.trigger.source.digest
  pub proof_target_round : r.proof_target_round ≡ p.proof.target.round
  pub trigger_target_round : r.trigger_target_round ≡ p.trigger.target.round
  pub time : r.time ≡ p.time
  pub skew : r.skew ≡ c.clock_skew_millis

-- a point that is not the author's at the round before, and gives no reason as a dependency
pub record GivesNoReason (c : Settings) (p : PointView) (q : PointInfo) : Type 0 where
  pub other : is_by (p.id.round - 1) p.id.author q.id ≡ false
  pub rows : (required : Bool) → concat (point_rows c required false p (dep_view q)) ≡ []

-- so does the point of a record that passed the test
abbrev pub IsQuick : code-quick.Quick → List ℕ → Type 0
IsQuick r s = (c : Settings) (p : PointView) (q : PointInfo) → QuickOf c p r → read_point s ≡ Some q → GivesNoReason c p q
