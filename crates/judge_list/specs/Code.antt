-- What the code's values stand for, and what its functions promise each other.
use Rattle.std.specs.Prelude.{◌≡◌, Bool, true, false, ◌||◌, List, [], ◌∷◌, ℕ, ◌-◌, Option, None, Some, option_map, is_some}
use Rattle.point.specs.Point.{PointInfo, prev_id, PointId, Through, through}
use Rattle.schedule.specs.Settings.{Settings}
use Rattle.reasons.specs.Verdict.{Verdict}
use Rattle.reasons.specs.Code.{verdict_of}
use Rattle.rules.specs.Validate.{over_lists}
use Rattle.rules.specs.List.{Listed, directs, indirects}
use Rattle.rules.specs.Mismatch.{uncovered, uncovers}
use Rattle.judge_list.specs.declared.JudgedList as code
use Rattle.point.specs.Code.{link_of}
use Rattle.point.specs.declared.data.AnchorStageRole.{AnchorStageRole}
use Rattle.point.specs.declared.data.AnchorStageRole.TheVariants.{Proof, Trigger}
use Rattle.rules.specs.DagPoint.{Entry, PointView, point_view}
use Rattle.judge_step.specs.Code.{Judging, start, Gives, with_direct, with_indirect, direct_step, indirect_step, judging_of}
use Rattle.judge_valid.specs.Code.{point_view_of}
use Rattle.point.specs.declared.info.PointInfo as code-info
use Rattle.judge_valid.specs.declared.view.PointView as code_view
use Rattle.judge_list.specs.declared.Walk as code-walk

pub record ListJudged : Type 0 where
  pub verdict : Verdict
  pub uncovered : Bool

abbrev pub judged_with : Settings → Bool → PointInfo → Option (List Listed) → Option ListJudged
judged_with c required p None = None
judged_with c required p (Some l) =
    Some (record {
      verdict = over_lists c required p (directs l) (indirects l);
      uncovered = uncovered (prev_id p) (directs l) (indirects l);
    })

-- what the code's value stands for
abbrev pub judged_list_of : code.JudgedList → ListJudged
judged_list_of x = record { verdict = verdict_of x.verdict; uncovered = x.uncovered }

pub record Walk : Type 0 where
  pub judging : Judging
  pub uncovered : Bool

-- of the judged point: what judging asks of it, and what its links go through
pub record Viewed : Type 0 where
  pub view : PointView
  pub proof : Through
  pub trigger : Through

unfoldable pub viewed : PointInfo → Viewed
unfolding point_view
viewed p = record { view = point_view p; proof = through p.anchor_proof; trigger = through p.anchor_trigger }

-- an entry is judged by what it is for
abbrev pub step_as : Option AnchorStageRole → Settings → Bool → Viewed → Judging → Entry → Judging
step_as None c required p j e = direct_step c required p.view j e
step_as (Some Proof) c required p j e = indirect_step c p.view Proof p.proof j e
step_as (Some Trigger) c required p j e = indirect_step c p.view Trigger p.trigger j e

-- PointInfo::prev_id, of a digest that may be missing
abbrev pub prev_of : PointId → Option ℕ → Option PointId
prev_of i o = option_map (λ d. record { round = i.round - 1; digest = d; author = i.author }) o

abbrev pub prev_in : PointView → Option PointId
prev_in p = prev_of p.id p.prev_digest

unfoldable pub walk_step : Settings → Bool → Viewed → Walk → Listed → Walk
unfolding direct_step indirect_step uncovers
walk_step c required p w x =
    record {
      judging = step_as x.aim c required p w.judging x.entry;
      uncovered = w.uncovered || uncovers (prev_in p.view) x.entry;
    }

unfoldable pub walk_fold : Settings → Bool → Viewed → Walk → List Listed → Walk
unfolding walk_step
walk_fold c required p w [] = w
walk_fold c required p w (x ∷ l) = walk_fold c required p (walk_step c required p w x) l

-- over a list, if it could be read
abbrev pub walk_with : Settings → Bool → Viewed → Walk → Option (List Listed) → Option Walk
walk_with c required p w None = None
walk_with c required p w (Some l) = Some (walk_fold c required p w l)

abbrev pub walk_start : Walk
walk_start = record { judging = start; uncovered = false }

abbrev pub viewed_of : code_view.PointView → code-info.PointInfo → Viewed
viewed_of p i =
    record {
      view = point_view_of p;
      proof = through (link_of i.anchor_proof);
      trigger = through (link_of i.anchor_trigger);
    }

abbrev pub walk_of : code-walk.Walk → Walk
walk_of w = record { judging = judging_of w.judging; uncovered = w.uncovered }

-- what was found, and then what an entry gives
abbrev pub with_listed : Bool → Judging → Gives → Judging
with_listed true j g = with_indirect j g
with_listed false j g = with_direct j g

-- what an entry gives makes its step, if the direct list has ended or not
abbrev pub ListedGives : Settings → Bool → Viewed → Bool → Option AnchorStageRole → Entry → Gives → Type 0
ListedGives c required p ended aim e g = (j : Judging) → j.ended ≡ ended → with_listed (is_some aim) j g ≡ step_as aim c required p j e
