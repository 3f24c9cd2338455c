-- What judging finds (InvalidReason, verifier.rs 94-133, and InvalidDependency, verifier.rs 157-160), and document 01's number and
-- values of each reason.
use Rattle.std.specs.Prelude.{ℕ, Bool, true, false, ◌&&◌, ◌||◌, leb, eqb, Option, None, Some}
use Rattle.base.specs.Base.{pick}
use Rattle.point.specs.Point.{PointId, Through, no_point}
use Rattle.point.specs.declared.data.AnchorStageRole.{AnchorStageRole}
use Rattle.point.specs.declared.data.PointMap.{PointMap}
use Rattle.reasons.specs.Answer.{Answer, answer, map_number, role_number, flag}

-- InvalidReason. AfterLoadFromDb is never given by judging. "A dependency's own reason is carried by number only".
pub data InvalidReason : Type 0 where
  NoRoundInDag : PointMap → InvalidReason
  DependencyRoundDropped : InvalidReason
  NotTrigger : PointId → InvalidReason
  TerminalTriggerBeforeLastProof : PointId → InvalidReason
  TimeNotGreaterThanInPrevPoint : PointId → InvalidReason
  AnchorProofDoesntInheritAnchorTime : PointId → InvalidReason
  AnchorTimeNotInheritedFromProof : PointId → InvalidReason
  MustHaveReferencedPrevPoint : PointId → InvalidReason
  MustHaveSkippedRound : PointId → InvalidReason
  DependencyTimeTooFarInFuture : PointId → InvalidReason
  NewerAnchorInDependency : (role : AnchorStageRole) (dependency : PointId) → InvalidReason
  AnchorLink : (role : AnchorStageRole) (dependency : PointId) → InvalidReason
  AnchorLinkRole : (role : AnchorStageRole) (dependency : PointId) → InvalidReason
  AnchorLinkBadPath : (role : AnchorStageRole) (dependency : PointId) → InvalidReason
  BadStickySequence : (dependency : PointId) (prev_seq_no : Option ℕ) (seq_no : ℕ) → InvalidReason
  TriggerProofMismatch : (dependency : PointId) (is_target : Bool) → InvalidReason
  DepIllFormed : (dependency : PointId) (reason : ℕ) → InvalidReason
  DepNotFound : PointId → InvalidReason

-- number, point, map, role, first and second number
abbrev pub named : ℕ → PointId → ℕ → ℕ → ℕ → ℕ → Answer
named n i m g a b = answer 2 n i m g a b 0 0 0

-- 2^32−1 where there is none
abbrev pub prev_seq_no : Option ℕ → ℕ
prev_seq_no None = 4294967295
prev_seq_no (Some n) = n

-- "Reason numbers count the variants as declared: .. 1 to 19 for `InvalidReason`, where 1 is `AfterLoadFromDb` with a DAG
-- round and 20 without". Each has the point id that it names; 16 the seq_no and the previous one, 17 a 1 if it is of the target, 18
-- the dependency's ill-formed number.
abbrev pub invalid_answer : InvalidReason → Answer
invalid_answer (NoRoundInDag m) = named 2 no_point (map_number m) 255 0 0
invalid_answer DependencyRoundDropped = named 3 no_point 255 255 0 0
invalid_answer (NotTrigger i) = named 4 i 255 255 0 0
invalid_answer (TerminalTriggerBeforeLastProof i) = named 5 i 255 255 0 0
invalid_answer (TimeNotGreaterThanInPrevPoint i) = named 6 i 255 255 0 0
invalid_answer (AnchorProofDoesntInheritAnchorTime i) = named 7 i 255 255 0 0
invalid_answer (AnchorTimeNotInheritedFromProof i) = named 8 i 255 255 0 0
invalid_answer (MustHaveReferencedPrevPoint i) = named 9 i 255 255 0 0
invalid_answer (MustHaveSkippedRound i) = named 10 i 255 255 0 0
invalid_answer (DependencyTimeTooFarInFuture i) = named 11 i 255 255 0 0
invalid_answer (NewerAnchorInDependency g i) = named 12 i 255 (role_number g) 0 0
invalid_answer (AnchorLink g i) = named 13 i 255 (role_number g) 0 0
invalid_answer (AnchorLinkRole g i) = named 14 i 255 (role_number g) 0 0
invalid_answer (AnchorLinkBadPath g i) = named 15 i 255 (role_number g) 0 0
invalid_answer (BadStickySequence i o n) = named 16 i 255 255 n (prev_seq_no o)
invalid_answer (TriggerProofMismatch i b) = named 17 i 255 255 (flag b) 0
invalid_answer (DepIllFormed i n) = named 18 i 255 255 n 0
invalid_answer (DepNotFound i) = named 19 i 255 255 0 0

abbrev pub invalid_number : InvalidReason → ℕ
invalid_number r = (invalid_answer r).reason

-- InvalidReason::has_dag_round, verifier.rs 147-153: "Reason numbers 2, 3 and 20 have no DAG round"; none of a number that counts no reason
unfoldable pub dag_round : ℕ → Option Bool
dag_round n =
    pick (eqb n 2 || (eqb n 3 || eqb n 20)) (Some false)
    (pick (leb 1 n && leb n 19) (Some true) None)

abbrev pub is_yes : Option Bool → Bool
is_yes None = false
is_yes (Some b) = b

abbrev pub has_dag_round : ℕ → Bool
has_dag_round n = is_yes (dag_round n)

-- InvalidDependency: the root cause, its reason's number, and what it came through
pub record InvalidDependency : Type 0 where
  pub to : PointId
  pub reason : ℕ
  pub through : Through
