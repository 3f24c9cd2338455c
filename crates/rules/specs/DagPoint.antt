-- What is known of a point's dependencies (dag_point.rs; document 01, "A dependency entry"), and what judging asks of the
-- point and of a dependency.
use Rattle.std.specs.Prelude.{ℕ, Bool, true, false, ◌&&◌, eqb, Option}
use Rattle.point.specs.Point.{PointId, PointInfo, prev_digest, source, target, top, no_point}
use Rattle.point.specs.declared.data.AnchorStageRole.{AnchorStageRole}
use Rattle.point.specs.declared.data.AnchorStageRole.TheVariants.{Proof, Trigger}
use Rattle.point.specs.declared.data.PointRole.{PointRole}

-- DagPoint, dag_point.rs 21-40, or that it was dropped with its round. A trans-invalid one has its root cause and that one's reason.
pub data DagPoint : Type 0 where
  Valid : PointInfo → DagPoint
  TransInvalid : (point : PointInfo) (root : PointId) (root_reason : ℕ) → DagPoint
  Invalid : (point : PointInfo) (reason : ℕ) → DagPoint
  IllFormed : (id : PointId) (reason : ℕ) → DagPoint
  NotFound : PointId → DagPoint
  Dropped : DagPoint

-- tag 16: state with its reason number, "certified (0 or 1), first valid (0 or 1)"
pub record Entry : Type 0 where
  pub state : DagPoint
  pub certified : Bool
  pub first_valid : Bool

-- "Entries for indirect targets begin with tag 19: 0 proof, 1 trigger"
pub record IndirectEntry : Type 0 where
  pub role : AnchorStageRole
  pub entry : Entry

abbrev pub entry_id : DagPoint → PointId
entry_id (Valid q) = q.id
entry_id (TransInvalid q root n) = q.id
entry_id (Invalid q n) = q.id
entry_id (IllFormed i n) = i
entry_id (NotFound i) = i
entry_id Dropped = no_point

abbrev pub is_dropped : DagPoint → Bool
is_dropped (Valid q) = false
is_dropped (TransInvalid q root n) = false
is_dropped (Invalid q n) = false
is_dropped (IllFormed i n) = false
is_dropped (NotFound i) = false
is_dropped Dropped = true

-- a point of a round by an author
abbrev pub is_by : ℕ → ℕ → PointId → Bool
is_by round author i = eqb i.round round && eqb i.author author

-- ---- of the judged point

-- check_valid's anchor_links: the target and the source of a link
pub record LinkIds : Type 0 where
  pub target : PointId
  pub source : PointId

pub record PointView : Type 0 where
  pub id : PointId
  pub role : PointRole
  pub time : ℕ
  pub anchor_time : ℕ
  pub prev_digest : Option ℕ
  pub proof : LinkIds
  pub trigger : LinkIds

unfoldable pub link_ids : AnchorStageRole → PointInfo → LinkIds
unfolding target source
link_ids g p = record { target = target g p; source = source g p }

unfoldable pub point_view : PointInfo → PointView
unfolding prev_digest link_ids
point_view p =
    record {
      id = p.id;
      role = p.role;
      time = p.time;
      anchor_time = p.anchor_time;
      prev_digest = prev_digest p;
      proof = link_ids Proof p;
      trigger = link_ids Trigger p;
    }

abbrev pub links_in : AnchorStageRole → PointView → LinkIds
links_in Proof p = p.proof
links_in Trigger p = p.trigger

-- ---- of a dependency

pub record DepView : Type 0 where
  pub id : PointId
  pub role : PointRole
  pub time : ℕ
  pub anchor_time : ℕ
  pub proof_top : PointId
  pub trigger_top : PointId

unfoldable pub dep_view : PointInfo → DepView
unfolding top
dep_view q =
    record { id = q.id; role = q.role; time = q.time; anchor_time = q.anchor_time; proof_top = top Proof q; trigger_top = top Trigger q }

abbrev pub top_in : AnchorStageRole → DepView → PointId
top_in Proof q = q.proof_top
top_in Trigger q = q.trigger_top
