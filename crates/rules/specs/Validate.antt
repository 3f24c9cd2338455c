-- Judging: check_valid, check_indirect_links, dependency, is_proof_ok and check_trigger_proof of verifier.rs. What an entry says
-- against a point is the list of reasons that it sets, in the order of the source: the trail. A later reason replaces an
-- earlier one, so the verdict's reason is the trail's last.
use Rattle.std.specs.Prelude.{ℕ, ◌+◌, ◌-◌, Bool, true, false, not, ◌&&◌, ◌||◌, List, [], ◌∷◌, ◌++◌, leb, ltb, eqb, Option, None, Some}
use Rattle.base.specs.Base.{pick, when, concat, last_of, is_empty}
use Rattle.point.specs.Point.{PointId, Through, Includes, Witness, PointInfo, is_anchor_proof, is_anchor_trigger, is_anchor_stage, Sticky, sticky_anchors, through}
use Rattle.point.specs.Point.{anchor_link, same_id}
use Rattle.point.specs.declared.data.AnchorStageRole.{AnchorStageRole}
use Rattle.point.specs.declared.data.AnchorStageRole.TheVariants.{Proof, Trigger}
use Rattle.point.specs.declared.data.PointMap.TheVariants as map
use Rattle.point.specs.declared.data.PointRole.{PointRole}
use Rattle.schedule.specs.Settings.{Settings}
use Rattle.rules.specs.DagPoint.{DagPoint, Valid, TransInvalid, Invalid, IllFormed, NotFound, Dropped, Entry, IndirectEntry, entry_id, is_dropped, is_by}
use Rattle.rules.specs.DagPoint.{PointView, point_view, links_in, DepView, dep_view, top_in}
use Rattle.reasons.specs.Invalid.{InvalidReason, NoRoundInDag, DependencyRoundDropped, NotTrigger, TerminalTriggerBeforeLastProof}
use Rattle.reasons.specs.Invalid.{TimeNotGreaterThanInPrevPoint, AnchorProofDoesntInheritAnchorTime, AnchorTimeNotInheritedFromProof}
use Rattle.reasons.specs.Invalid.{MustHaveReferencedPrevPoint, MustHaveSkippedRound, DependencyTimeTooFarInFuture, NewerAnchorInDependency, AnchorLink}
use Rattle.reasons.specs.Invalid.{AnchorLinkRole, AnchorLinkBadPath, BadStickySequence, TriggerProofMismatch, DepIllFormed, DepNotFound, has_dag_round}
use Rattle.reasons.specs.Invalid.{InvalidDependency}
use Rattle.reasons.specs.Verdict as verdict

-- ---- is_proof_ok, verifier.rs 716-760: of the previous point q, the first reason alone

-- "Some((_, false)) = proven.sticky_anchors()": a proof that is not its sequence's last
abbrev pub is_open : Option Sticky → Bool
is_open None = false
is_open (Some k) = not k.is_last

-- is_proof_ok returns at its first reason
abbrev pub first_only : List InvalidReason → List InvalidReason
first_only [] = []
first_only (x ∷ l) = x ∷ []

-- after a proof stands a trigger, and no terminal one before the sequence's last; neither is asked where regular points are
-- required: is_proof_ok, verifier.rs 739-742, 743-746
abbrev pub not_trigger : Bool → PointRole → PointRole → Bool
not_trigger required own proven = not required && (is_anchor_proof proven && not (is_anchor_trigger own))

abbrev pub ends_too_soon : Bool → PointRole → PointRole → Bool
ends_too_soon required own proven = not required && (is_anchor_proof proven && (not (is_anchor_proof own) && is_open (sticky_anchors proven)))

unfoldable pub proof_row : Bool → PointView → DepView → List InvalidReason
unfolding concat
proof_row required p q =
    first_only (concat
    (when (not_trigger required p.role q.role) (NotTrigger q.id)
    ∷ when (ends_too_soon required p.role q.role) (TerminalTriggerBeforeLastProof q.id)
    ∷ when (leb p.time q.time) (TimeNotGreaterThanInPrevPoint q.id)
    ∷ when (is_anchor_proof p.role && not (eqb p.anchor_time q.time)) (AnchorProofDoesntInheritAnchorTime q.id)
    ∷ []))

-- ---- check_trigger_proof, verifier.rs 643-653

unfoldable pub trigger_proof_row : PointView → DepView → Bool → List InvalidReason
unfolding same_id
trigger_proof_row p q is_target =
    when (leb (links_in Proof p).target.round (top_in Proof q).round && not (same_id (links_in Proof p).target (top_in Proof q)))
    (TriggerProofMismatch q.id is_target)

-- ---- check_valid, verifier.rs 385-550, of a dependency q whose point is at hand

-- "max_allowed_dep_time": check_valid, verifier.rs 406-407, 478-481; check_indirect_links, verifier.rs 615-618
unfoldable pub time_row : Settings → PointView → DepView → List InvalidReason
time_row c p q = when (ltb (p.time + c.clock_skew_millis) q.time) (DependencyTimeTooFarInFuture q.id)

-- the dependency's top has a greater round than the link's target: check_valid, verifier.rs 483-487
unfoldable pub newer_row : AnchorStageRole → PointView → DepView → List InvalidReason
newer_row g p q = when (ltb (links_in g p).target.round (top_in g q).round) (NewerAnchorInDependency g q.id)

abbrev pub seq_no : Option Sticky → Option ℕ
seq_no None = None
seq_no (Some k) = Some k.seq_no

-- "seq_no.checked_add(1)" is n: of 255 that is None, and here it is 256, which no seq_no n is
abbrev pub follows : Option ℕ → ℕ → Bool
follows None n = false
follows (Some m) n = eqb (m + 1) n

-- is_sticky_sequence_ok, of a proof with a sequence number above 0: it is within the limit and follows the target's:
-- check_valid, verifier.rs 498-514
unfoldable pub sticky_row : Settings → DepView → Option Sticky → List InvalidReason
sticky_row c q None = []
sticky_row c q (Some k) =
    when (ltb 0 k.seq_no && not (leb k.seq_no c.sticky_anchors && follows (seq_no (sticky_anchors q.role)) k.seq_no))
    (BadStickySequence q.id (seq_no (sticky_anchors q.role)) k.seq_no)

-- of a link's target that has the role: check_valid, verifier.rs 498-514, 515-519
unfoldable pub reached_row : Settings → AnchorStageRole → PointView → DepView → List InvalidReason
unfolding sticky_row trigger_proof_row
reached_row c Proof p q = sticky_row c q (sticky_anchors p.role)
reached_row c Trigger p q = trigger_proof_row p q true

-- of a link's target: it must have the link's role (is_anchor_stage); check_valid, verifier.rs 489-496
unfoldable pub target_row : Settings → AnchorStageRole → PointView → DepView → List InvalidReason
unfolding same_id reached_row
target_row c g p q =
    pick (same_id q.id (links_in g p).target)
    (pick (is_anchor_stage g q.role) (reached_row c g p q) (AnchorLink g q.id ∷ []))
    []

-- "exclusion: anchor proof inherits time from candidate": any other point has the anchor time of what its proof link leads to:
-- check_valid, verifier.rs 531-537; check_indirect_links, verifier.rs 625-631
unfoldable pub anchor_time_row : PointView → DepView → List InvalidReason
anchor_time_row p q =
    when (not (is_anchor_proof p.role) && not (eqb q.anchor_time p.anchor_time)) (AnchorTimeNotInheritedFromProof q.id)

-- of a link's source, what the link carries on: check_valid, verifier.rs 531-537, 538-544
unfoldable pub carried_row : AnchorStageRole → PointView → DepView → List InvalidReason
unfolding anchor_time_row same_id trigger_proof_row
carried_row Proof p q = anchor_time_row p q
carried_row Trigger p q = pick (same_id q.id (links_in Trigger p).target) [] (trigger_proof_row p q false)

-- of a link's source, its top is the link's target: check_valid, verifier.rs 523-529
unfoldable pub source_row : AnchorStageRole → PointView → DepView → List InvalidReason
unfolding same_id carried_row
source_row g p q =
    pick (same_id q.id (links_in g p).source)
    (when (not (same_id (top_in g q) (links_in g p).target)) (AnchorLinkBadPath g q.id) ++ carried_row g p q)
    []

-- of a dependency that is a link's target or source
unfoldable pub anchor_rows : Settings → PointView → DepView → List (List InvalidReason)
unfolding target_row source_row
anchor_rows c p q =
    target_row c Proof p q
    ∷ target_row c Trigger p q
    ∷ source_row Proof p q
    ∷ source_row Trigger p q
    ∷ []

-- the rows of one dependency, in the source's order
unfoldable pub point_rows : Settings → Bool → Bool → PointView → DepView → List (List InvalidReason)
unfolding concat proof_row time_row newer_row anchor_rows
point_rows c required is_prev_point p q =
    pick is_prev_point (proof_row required p q) []
    ∷ time_row c p q
    ∷ newer_row Proof p q
    ∷ newer_row Trigger p q
    ∷ concat (anchor_rows c p q)
    ∷ []

-- ---- dependency, verifier.rs 656-713

-- what entries give: the reasons that they set, the last of which is `invalid_reason`, and `latest_invalid_dep`
pub record Findings : Type 0 where
  pub trail : List InvalidReason
  pub root : Option InvalidDependency

-- a dependency whose point is at hand is checked against the rows; "invalidating deps (ill and not found) are not checked against"
unfoldable pub dependency_trail : (DepView → List (List InvalidReason)) → DagPoint → List InvalidReason
unfolding concat dep_view
dependency_trail rows (Valid q) = concat (rows (dep_view q))
dependency_trail rows (TransInvalid q root n) = concat (rows (dep_view q))
dependency_trail rows (Invalid q n) = concat (rows (dep_view q))
dependency_trail rows (IllFormed i n) = DepIllFormed i n ∷ []
dependency_trail rows (NotFound i) = DepNotFound i ∷ []
dependency_trail rows Dropped = []

-- what an entry records, reached through t from a point of a round. The window is of trans-invalid entries alone:
-- "while r−1 is less than the root's round plus commit_history_rounds".
unfoldable pub record_of : Settings → ℕ → Bool → Through → DagPoint → Option InvalidDependency
record_of c round certified t (Valid q) = None
record_of c round certified t (TransInvalid q root n) =
    pick (certified || leb (root.round + c.commit_history_rounds) (round - 1))
    None
    (Some (record { to = root; reason = n; through = t }))
record_of c round certified t (Invalid q n) = pick certified None (Some (record { to = q.id; reason = n; through = t }))
record_of c round certified t (IllFormed i n) = None
record_of c round certified t (NotFound i) = None
record_of c round certified t Dropped = None

-- "A new one replaces the old if its round is greater, or equal and only the new reason has a DAG round"
unfoldable pub is_newer : InvalidDependency → InvalidDependency → Bool
is_newer old new =
    ltb old.to.round new.to.round
    || (eqb old.to.round new.to.round && (not (has_dag_round old.reason) && has_dag_round new.reason))

unfoldable pub join : Option InvalidDependency → Option InvalidDependency → Option InvalidDependency
unfolding is_newer
join None new = new
join (Some old) None = Some old
join (Some old) (Some new) = pick (is_newer old new) (Some new) (Some old)

abbrev pub nothing : Findings
nothing = record { trail = []; root = None }

-- what entries gave, and then one more
abbrev pub joined : Findings → Findings → Findings
joined old new = record { trail = old.trail ++ new.trail; root = join old.root new.root }

-- what a dependency of a point of a round gives, reached through t
unfoldable pub dependency : Settings → ℕ → Through → (DepView → List (List InvalidReason)) → Entry → Findings
unfolding dependency_trail record_of
dependency c round t rows e = record { trail = dependency_trail rows e.state; root = record_of c round e.certified t e.state }

-- ---- check_valid, verifier.rs 385-550, of one direct entry

-- how an entry is taken: a dependency, the previous point, a version of the author's point at r-1 where none is referenced,
-- or not at all: check_valid, verifier.rs 421-461
pub data Taken : Type 0 where
  as_dependency : Taken
  as_prev_point : Taken
  as_version : Taken
  aside : Taken

abbrev pub taken_own : PointId → Option ℕ → Taken
taken_own i None = as_version
taken_own i (Some d) = pick (eqb d i.digest) as_prev_point aside

unfoldable pub taken : PointView → PointId → Taken
taken p i = pick (is_by (p.id.round - 1) p.id.author i) (taken_own i p.prev_digest) as_dependency

-- a direct entry came through its author's place: includes at r-1, else witness
abbrev pub direct_through : ℕ → PointId → Through
direct_through round i = pick (eqb i.round (round - 1)) (Includes i.author) (Witness i.author)

-- a version that is first valid, or not found but certified, had to be referenced; a trans-invalid, invalid or ill-formed one had
-- to be skipped; any other gives nothing. Versions give 9 or 10 and nothing else: check_valid, verifier.rs 432-442, 443-447, 448-453
abbrev pub version_trail : Entry → DagPoint → List InvalidReason
version_trail e (Valid q) = when e.first_valid (MustHaveReferencedPrevPoint q.id)
version_trail e (TransInvalid q root n) = MustHaveSkippedRound q.id ∷ []
version_trail e (Invalid q n) = MustHaveSkippedRound q.id ∷ []
version_trail e (IllFormed i n) = MustHaveSkippedRound i ∷ []
version_trail e (NotFound i) = when e.certified (MustHaveReferencedPrevPoint i)
version_trail e Dropped = []

abbrev pub findings_as : Settings → Bool → PointView → Taken → Entry → Findings
findings_as c required p as_dependency e = dependency c p.id.round (direct_through p.id.round (entry_id e.state)) (point_rows c required false p) e
findings_as c required p as_prev_point e = dependency c p.id.round (direct_through p.id.round (entry_id e.state)) (point_rows c required true p) e
findings_as c required p as_version e = record { trail = version_trail e e.state; root = None }
findings_as c required p aside e = nothing

unfoldable pub entry_findings : Settings → Bool → PointView → Entry → Findings
unfolding taken dependency point_rows
entry_findings c required p e = findings_as c required p (taken p (entry_id e.state)) e

-- the loop: "A dropped entry ends the direct list and sets its reason only if none is set": check_valid, verifier.rs 413-418
unfoldable pub check_valid : Settings → Bool → PointView → Findings → List Entry → Findings
unfolding join entry_findings
check_valid c required p old [] = old
check_valid c required p old (e ∷ l) =
    pick (is_dropped e.state)
    (record { trail = old.trail ++ when (is_empty old.trail) DependencyRoundDropped; root = old.root })
    (check_valid c required p (joined old (entry_findings c required p e)) l)

-- ---- check_indirect_links, verifier.rs 552-641

-- of an indirect link's target that has the role: the anchor time of a proof, check_trigger_proof of a trigger:
-- check_indirect_links, verifier.rs 625-631, 632-636
abbrev pub indirect_row : AnchorStageRole → PointView → DepView → List InvalidReason
indirect_row Proof p q = anchor_time_row p q
indirect_row Trigger p q = trigger_proof_row p q true

-- check_indirect_links, verifier.rs 615-618, 620-623
unfoldable pub indirect_point_rows : Settings → AnchorStageRole → PointView → DepView → List (List InvalidReason)
unfolding time_row anchor_time_row trigger_proof_row
indirect_point_rows c g p q =
    time_row c p q
    ∷ pick (is_anchor_stage g q.role) (indirect_row g p q) (AnchorLinkRole g q.id ∷ [])
    ∷ []

-- an indirect entry came through its link's map and peer
unfoldable pub indirect_findings : Settings → PointInfo → IndirectEntry → Findings
unfolding dependency indirect_point_rows point_view
indirect_findings c p a =
    dependency c p.id.round (through (anchor_link a.role p)) (indirect_point_rows c a.role (point_view p)) a.entry

-- the loop: a dropped entry gives nothing, "one old link doesn't mean others are unreachable"
unfoldable pub check_indirect_links : Settings → PointInfo → Findings → List IndirectEntry → Findings
unfolding join indirect_findings
check_indirect_links c p old [] = old
check_indirect_links c p old (a ∷ l) = check_indirect_links c p (joined old (indirect_findings c p a)) l

-- ---- validate, verifier.rs 176-291

abbrev pub result_with : Option InvalidReason → Option InvalidDependency → verdict.Verdict
result_with (Some reason) d = verdict.Invalid reason
result_with None (Some d) = verdict.TransInvalid d
result_with None None = verdict.Valid

-- "Indirect entries are judged only if the direct ones gave no reason"; "Invalid wins over a record": validate, verifier.rs 264-280, 282-288
unfoldable pub over_lists : Settings → Bool → PointInfo → List Entry → List IndirectEntry → verdict.Verdict
unfolding last_of check_valid check_indirect_links point_view
over_lists c required p es ts =
    let direct = check_valid c required (point_view p) nothing es in
    let all = pick (is_empty direct.trail) (check_indirect_links c p direct ts) direct in
    result_with (last_of all.trail) all.root

-- validate, verifier.rs 208-211, 221-224, 237-239, of a point above genesis, past check_ill_formed: regular points required or not,
-- how many rounds are present, the two lists. "Presence 0 and 1 give `NoRoundInDag` of evidence and of includes, the list unread. With
-- presence 2, .. a non-empty witness gives `NoRoundInDag(Witness)` before any other reason."
unfoldable pub validate : Settings → Bool → ℕ → PointInfo → List Entry → List IndirectEntry → verdict.Verdict
unfolding over_lists
validate c required presence p es ts =
    pick (eqb presence 0) (verdict.Invalid (NoRoundInDag map.Evidence))
    (pick (eqb presence 1) (verdict.Invalid (NoRoundInDag map.Includes))
    (pick (eqb presence 2 && not (is_empty p.witness)) (verdict.Invalid (NoRoundInDag map.Witness))
    (over_lists c required p es ts)))
