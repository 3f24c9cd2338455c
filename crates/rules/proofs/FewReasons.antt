-- How many reasons the rules of an entry give at most: each but a source's, which are two, gives one.
use Rattle.std.specs.Prelude.{Option, None, Some}
use Prim.Native.Nat.{ℕ, ◌+◌, ◌≤◌}
use native.Mathlib.Omega.{arith}
use lib.ListN.{length, length-append}
use mathlib.Core.Bool.{Bool, true, false, not}
use mathlib.Core.List.{List, [], ◌∷◌, ◌++◌}
use Rattle.base.specs.Base.{pick, when, concat}
use Rattle.point.specs.Point.{Sticky, sticky_anchors, is_anchor_stage, same_id}
use Rattle.point.specs.declared.data.AnchorStageRole.{AnchorStageRole}
use Rattle.point.specs.declared.data.AnchorStageRole.TheVariants.{Proof, Trigger}
use Rattle.schedule.specs.Settings.{Settings}
use Rattle.reasons.specs.Invalid.{InvalidReason, AnchorLink, AnchorLinkRole, AnchorLinkBadPath}
use Rattle.rules.specs.DagPoint.{PointView, links_in, DepView, top_in}
use Rattle.rules.specs.Validate.{indirect_row, indirect_point_rows, first_only, proof_row}
use Rattle.rules.specs.Validate.{trigger_proof_row, time_row, newer_row, sticky_row, reached_row, target_row, anchor_time_row, carried_row}
use Rattle.rules.specs.Validate.{source_row, anchor_rows, point_rows}

module _ {A : Type 0} where
  pub few-when : (b : Bool) (x : A) → length (when b x) ≤ 1
  few-when true x = omega arith
  few-when false x = omega arith

  pub few-pick : (n : ℕ) (b : Bool) (l m : List A) → length l ≤ n → length m ≤ n → length (pick b l m) ≤ n
  few-pick n true l m f g = f
  few-pick n false l m f g = g

  pub few-append : (m n : ℕ) (a b : List A) → length a ≤ m → length b ≤ n → length (a ++ b) ≤ m + n
  few-append m n a b f g = omega (arith, length-append a b, f, g)

few-first_only : (l : List InvalidReason) → length (first_only l) ≤ 1
few-first_only [] = omega arith
few-first_only (x ∷ l) = omega arith

module _ (p : PointView) (q : DepView) where
  pub newer-few : (g : AnchorStageRole) → length (newer_row g p q) ≤ 1
  unfolding newer_row
  newer-few g = few-when _ _

  pub proof-few : (required : Bool) → length (proof_row required p q) ≤ 1
  unfolding proof_row
  proof-few required = few-first_only _

  trigger-few : (is_target : Bool) → length (trigger_proof_row p q is_target) ≤ 1
  unfolding trigger_proof_row
  trigger-few b = few-when _ _

  anchor-time-few : length (anchor_time_row p q) ≤ 1
  unfolding anchor_time_row
  anchor-time-few = few-when _ _

  pub carried-few : (g : AnchorStageRole) → length (carried_row g p q) ≤ 1
  unfolding carried_row
  carried-few Proof = anchor-time-few
  carried-few Trigger =
      few-pick 1 (same_id q.id (links_in Trigger p).target) [] (trigger_proof_row p q false) (omega arith) (trigger-few false)

  source-few : (g : AnchorStageRole) → length (source_row g p q) ≤ 2
  unfolding source_row
  source-few g =
      let bad = when (not (same_id (top_in g q) (links_in g p).target)) (AnchorLinkBadPath g q.id) in
      few-pick 2 (same_id q.id (links_in g p).source) (bad ++ carried_row g p q) []
      (few-append 1 1 bad (carried_row g p q) (few-when _ _) (carried-few g))
      (omega arith)

  -- of what an indirect link leads to, and has the role
  pub inherited-few : (g : AnchorStageRole) → length (indirect_row g p q) ≤ 1
  inherited-few Proof = anchor-time-few
  inherited-few Trigger = trigger-few true

  module _ (c : Settings) where
    pub time-few : length (time_row c p q) ≤ 1
    unfolding time_row
    time-few = few-when _ _

    sticky-few : (o : Option Sticky) → length (sticky_row c q o) ≤ 1
    unfolding sticky_row
    sticky-few None = omega arith
    sticky-few (Some k) = few-when _ _

    reached-few : (g : AnchorStageRole) → length (reached_row c g p q) ≤ 1
    unfolding reached_row
    reached-few Proof = sticky-few (sticky_anchors p.role)
    reached-few Trigger = trigger-few true

    pub target-few : (g : AnchorStageRole) → length (target_row c g p q) ≤ 1
    unfolding target_row
    target-few g =
        few-pick 1 (same_id q.id (links_in g p).target) (pick (is_anchor_stage g q.role) (reached_row c g p q) (AnchorLink g q.id ∷ [])) []
        (few-pick 1 (is_anchor_stage g q.role) (reached_row c g p q) (AnchorLink g q.id ∷ []) (reached-few g) (omega arith))
        (omega arith)

    anchor-few : length (concat (anchor_rows c p q)) ≤ 6
    unfolding anchor_rows concat
    anchor-few =
        few-append 1 5 (target_row c Proof p q) _ (target-few Proof)
        (few-append 1 4 (target_row c Trigger p q) _ (target-few Trigger)
        (few-append 2 2 (source_row Proof p q) _ (source-few Proof)
        (few-append 2 0 (source_row Trigger p q) [] (source-few Trigger) (omega arith))))

    -- of a direct entry
    pub point-few : (required is_prev_point : Bool) → length (concat (point_rows c required is_prev_point p q)) ≤ 10
    unfolding point_rows concat
    point-few required b =
        few-append 1 9 (pick b (proof_row required p q) []) _ (few-pick 1 b (proof_row required p q) [] (proof-few required) (omega arith))
        (few-append 1 8 (time_row c p q) _ time-few
        (few-append 1 7 (newer_row Proof p q) _ (newer-few Proof)
        (few-append 1 6 (newer_row Trigger p q) _ (newer-few Trigger)
        (few-append 6 0 (concat (anchor_rows c p q)) [] anchor-few (omega arith)))))

    -- of an indirect one
    pub indirect-few : (g : AnchorStageRole) → length (concat (indirect_point_rows c g p q)) ≤ 2
    unfolding indirect_point_rows concat
    indirect-few g =
        let role = AnchorLinkRole g q.id ∷ [] in
        few-append 1 1 (time_row c p q) _ time-few
        (few-append 1 0 (pick (is_anchor_stage g q.role) (indirect_row g p q) role) []
        (few-pick 1 (is_anchor_stage g q.role) (indirect_row g p q) role (inherited-few g) (omega arith))
        (omega arith))
