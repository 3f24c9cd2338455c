-- What the code's values stand for, and judging as a step from entry to entry. This serves contracts below the public call's and
-- follows the code; proofs/Laws.antt leads from it to `over_lists`.
use Rattle.reasons.specs.Code.{reason_of, dependency_of}
use Rattle.std.specs.Prelude.{◌≡◌, Bool, true, false, not, ◌&&◌, List, [], ◌∷◌, Option, None, Some, is_some, option_map}
use Rattle.base.specs.Base.{pick, last_of}
use Rattle.point.specs.Point.{Through, PointInfo, through, anchor_link}
use Rattle.point.specs.declared.data.AnchorStageRole.{AnchorStageRole}
use Rattle.schedule.specs.Settings.{Settings}
use Rattle.reasons.specs.Invalid.{InvalidReason, DependencyRoundDropped, InvalidDependency}
use Rattle.reasons.specs.Verdict.{Verdict}
use Rattle.rules.specs.DagPoint.{Entry, IndirectEntry, entry_id, is_dropped, PointView, point_view}
use Rattle.rules.specs.Validate.{Findings, direct_through, join, dependency, point_rows, entry_findings, indirect_point_rows, result_with}
use Rattle.point.specs.declared.info.PointInfo as code-info
use Rattle.judge_entries.specs.declared.entry.Entry as code-entry
use Rattle.judge_entries.specs.declared.entry.DagPoint.TheVariants as case-point
use Rattle.judge_valid.specs.Code.{IsQuick}
use Rattle.judge_valid.specs.declared.quick.Quick as code-quick
use Rattle.judge_step.specs.declared.step.Gives as code_gives
use Rattle.judge_step.specs.declared.step.Judging as code-judging

-- ---- judging so far: the last reason of the direct entries and of the indirect ones, the root cause recorded, and whether a
-- dropped entry has ended the direct list
pub record Judging : Type 0 where
  pub direct : Option InvalidReason
  pub indirect : Option InvalidReason
  pub recorded : Option InvalidDependency
  pub ended : Bool

-- a later reason replaces an earlier one
abbrev pub later_of : Option InvalidReason → Option InvalidReason → Option InvalidReason
later_of old None = old
later_of old (Some reason) = Some reason

abbrev pub or_dropped : Option InvalidReason → Option InvalidReason
or_dropped None = Some DependencyRoundDropped
or_dropped (Some reason) = Some reason

abbrev pub start : Judging
start = record { direct = None; indirect = None; recorded = None; ended = false }

-- ---- what an entry gives: its last reason, the root cause that it records, and that it is dropped
pub record Gives : Type 0 where
  pub reason : Option InvalidReason
  pub root : Option InvalidDependency
  pub dropped : Bool

abbrev pub is_nothing : Gives → Bool
is_nothing g = not g.dropped && (not (is_some g.reason) && not (is_some g.root))

-- the step of a direct entry
abbrev pub with_direct : Judging → Gives → Judging
with_direct j g =
    pick j.ended j
    (pick g.dropped
    (record { direct = or_dropped j.direct; indirect = j.indirect; recorded = j.recorded; ended = true })
    (record {
      direct = later_of j.direct g.reason;
      indirect = j.indirect;
      recorded = join j.recorded g.root;
      ended = false;
    }))

-- the step of the entry of an indirect link's target
abbrev pub with_indirect : Judging → Gives → Judging
with_indirect j g =
    record {
      direct = j.direct;
      indirect = later_of j.indirect g.reason;
      recorded = join j.recorded g.root;
      ended = j.ended;
    }

-- one step of check_valid
unfoldable pub direct_step : Settings → Bool → PointView → Judging → Entry → Judging
unfolding last_of join entry_findings
direct_step c required p j e =
    with_direct j (record {
      reason = last_of (entry_findings c required p e).trail;
      root = (entry_findings c required p e).root;
      dropped = is_dropped e.state;
    })

-- all that an entry gives which is not dropped
abbrev pub gives_all : Findings → Gives
gives_all f = record { reason = last_of f.trail; root = f.root; dropped = false }

-- one step of check_indirect_links, of an entry that was reached through t
unfoldable pub indirect_step : Settings → PointView → AnchorStageRole → Through → Judging → Entry → Judging
unfolding last_of join dependency indirect_point_rows
indirect_step c p g t j e = with_indirect j (gives_all (dependency c p.id.round t (indirect_point_rows c g p) e))

-- of an entry that is taken as a dependency, or as the previous point
abbrev pub dependency_as : Settings → Bool → Bool → PointView → Entry → Findings
dependency_as c required is_prev_point p e =
    dependency c p.id.round (direct_through p.id.round (entry_id e.state)) (point_rows c required is_prev_point p) e

-- an entry, but for whether it is first valid
abbrev pub as_first : Bool → Entry → Entry
as_first first e = record { state = e.state; certified = e.certified; first_valid = first }

-- what an entry gives makes its step, whatever was found before it
abbrev pub DirectGives : Settings → Bool → PointView → Entry → Gives → Type 0
DirectGives c required p e g = (j : Judging) → with_direct j g ≡ direct_step c required p j e

abbrev pub IndirectGives : Settings → PointView → AnchorStageRole → Through → Entry → Gives → Type 0
IndirectGives c p role t e g = (j : Judging) → with_indirect j g ≡ indirect_step c p role t j e

abbrev pub gives_of : code_gives.Gives → Gives
gives_of x = record { reason = option_map reason_of x.reason; root = option_map dependency_of x.recorded; dropped = x.dropped }

abbrev pub judging_of : code-judging.Judging → Judging
judging_of j =
    record {
      direct = option_map reason_of j.direct;
      indirect = option_map reason_of j.indirect;
      recorded = option_map dependency_of j.recorded;
      ended = j.ended;
    }

-- an entry that passed the quick test
abbrev pub Quiet : code-quick.Quick → code-entry.Entry → Type 0
Quiet q e = ((i : code-info.PointInfo) × (e.state ≡ case-point.Valid i)) × IsQuick q e.rec.now

-- ---- judging over lists, entry by entry

unfoldable pub direct_fold : Settings → Bool → PointView → Judging → List Entry → Judging
unfolding direct_step
direct_fold c required p j [] = j
direct_fold c required p j (e ∷ l) = direct_fold c required p (direct_step c required p j e) l

-- an indirect entry goes through its link's map and peer
abbrev pub target_step : Settings → PointInfo → AnchorStageRole → Judging → Entry → Judging
target_step c p g j e = indirect_step c (point_view p) g (through (anchor_link g p)) j e

unfoldable pub indirect_fold : Settings → PointInfo → Judging → List IndirectEntry → Judging
unfolding indirect_step point_view
indirect_fold c p j [] = j
indirect_fold c p j (a ∷ l) = indirect_fold c p (target_step c p a.role j a.entry) l

-- what judging has found, once both lists are done: "Indirect entries are judged only if the direct ones gave no reason"
abbrev pub result_of : Judging → Verdict
result_of j = result_with (later_of j.indirect j.direct) j.recorded
