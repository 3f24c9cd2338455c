-- The root cause that an entry records: what holds of the causes that entries have holds of it, and the peer that it came through fits
-- its bytes.
use Rattle.std.specs.Prelude.{None, Some}
use Prim.Native.Nat.{ℕ, ◌+◌, ◌-◌, ◌^◌, ◌<◌}
use mathlib.Core.Bool.{Bool, true, false, ◌||◌}
use lib.Dec.{leb, eqb}
use Rattle.base.specs.Base.{pick}
use Rattle.base.proofs.Option.{IfSome}
use Rattle.point.specs.Point.{PointId, Through, Includes, Witness, PointInfo, through_peer, through, anchor_link}
use Rattle.point.specs.declared.data.AnchorStageRole.{AnchorStageRole}
use Rattle.point.specs.declared.data.AnchorStageRole.TheVariants.{Proof, Trigger}
use Rattle.schedule.specs.Settings.{Settings}
use Rattle.reasons.specs.Invalid.{InvalidDependency}
use Rattle.rules.specs.DagPoint.{DagPoint, Valid, TransInvalid, Invalid, IllFormed, NotFound, Dropped, entry_id}
use Rattle.rules.specs.Validate.{record_of, direct_through}
use Rattle.point.proofs.Fits.{PointFits}

-- what is recorded, R being what holds of a cause's id and its reason's number
pub record Recorded (R : PointId → ℕ → Type 0) (d : InvalidDependency) : Type 0 where
  pub root : R d.to d.reason
  pub through : through_peer d.through < 256 ^ 32

-- what an entry must give for it
abbrev pub Rooted : (PointId → ℕ → Type 0) → DagPoint → Type 0
Rooted R (Valid q) = Unit
Rooted R (TransInvalid q root n) = (q.id.author < 256 ^ 32) × R root n
Rooted R (Invalid q n) = (q.id.author < 256 ^ 32) × R q.id n
Rooted R (IllFormed i n) = Unit
Rooted R (NotFound i) = Unit
Rooted R Dropped = Unit

module _ (R : PointId → ℕ → Type 0) (c : Settings) (round : ℕ) (certified : Bool) where
  unless-recorded : (t : Bool) (d : InvalidDependency) → Recorded R d → IfSome (Recorded R) (pick t None (Some d))
  unless-recorded true d h = tt
  unless-recorded false d h = h

  pub of-recorded : (t : Through) (d : DagPoint) → through_peer t < 256 ^ 32 → Rooted R d → IfSome (Recorded R) (record_of c round certified t d)
  unfolding record_of
  of-recorded t (Valid q) u h = tt
  of-recorded t (TransInvalid q root n) u h =
      unless-recorded (certified || leb (root.round + c.commit_history_rounds) (round - 1)) (record { to = root; reason = n; through = t }) (record { root = h.1; through = u })
  of-recorded t (Invalid q n) u h = unless-recorded certified (record { to = q.id; reason = n; through = t }) (record { root = h.1; through = u })
  of-recorded t (IllFormed i n) u h = tt
  of-recorded t (NotFound i) u h = tt
  of-recorded t Dropped u h = tt

  own-peer : (i : PointId) → i.author < 256 ^ 32 → through_peer (direct_through round i) < 256 ^ 32
  own-peer i h = go (eqb i.round (round - 1))
    where
      go : (t : Bool) → through_peer (pick t (Includes i.author) (Witness i.author)) < 256 ^ 32
      go true = h
      go false = h

  pub direct-recorded : (d : DagPoint) → Rooted R d → IfSome (Recorded R) (record_of c round certified (direct_through round (entry_id d)) d)
  unfolding record_of
  direct-recorded (Valid q) h = tt
  direct-recorded (TransInvalid q root n) h = of-recorded (direct_through round q.id) (TransInvalid q root n) (own-peer q.id h.0) h
  direct-recorded (Invalid q n) h = of-recorded (direct_through round q.id) (Invalid q n) (own-peer q.id h.0) h
  direct-recorded (IllFormed i n) h = tt
  direct-recorded (NotFound i) h = tt
  direct-recorded Dropped h = tt

pub link-peer : (p : PointInfo) → PointFits p → (g : AnchorStageRole) → through_peer (through (anchor_link g p)) < 256 ^ 32
link-peer p f Proof = f.proof.through
link-peer p f Trigger = f.trigger.through
