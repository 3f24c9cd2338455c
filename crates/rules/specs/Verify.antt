-- Verification: BasicVerifier (verifier.rs) as the table of its tests in the order in which they are made. The answer is the
-- first fault; no fault is a pass.
use Rattle.std.specs.Prelude.{ℕ, ◌-◌, Bool, true, false, not, ◌&&◌, ◌||◌, List, [], ◌∷◌, length, leb, ltb, eqb, Option, None, Some, is_some}
use Rattle.base.specs.Base.{pick, when, concat, first_of, is_empty}
use Rattle.parts.specs.Parts.{one_f, majority, majority_of_others}
use Rattle.map.specs.Rows.{find, peers}
use Rattle.point.specs.Point.{Includes, Witness, AnchorLink, Direct, Indirect, PointInfo, is_anchor_trigger, requires_prev_point, through_round, point_map, digest_safe}
use Rattle.point.specs.Point.{prev_digest, Sticky, sticky_anchors, through, target_round}
use Rattle.point.specs.declared.data.PointRole.{PointRole}
use Rattle.point.specs.declared.data.PointRole.TheVariants.{Regular, AnchorProof, AnchorTrigger, Genesis}
use Rattle.point.specs.declared.data.AnchorStageRole.TheVariants.{Proof, Trigger}
use Rattle.point.specs.declared.data.PointMap.{PointMap}
use Rattle.point.specs.declared.data.PointMap.TheVariants as map
use Rattle.schedule.specs.Settings.{Settings}
use Rattle.schedule.specs.Schedule.{Schedule, peers_for}
use Rattle.map.specs.Written.{peer_bytes}
use Rattle.rules.specs.Unknown.{unknown_in}
use Rattle.reasons.specs.declared.ill_formed.StructureIssue.{StructureIssue}
use Rattle.reasons.specs.declared.ill_formed.StructureIssue.TheVariants.{ExpectedGenesis, BadGenesisPrevPoint, AuthorInMap, TriggerBadProofLink, Link}
use Rattle.reasons.specs.declared.ill_formed.StructureIssue.TheVariants.{AnchorTime, NoPrevPoint}
use Rattle.reasons.specs.declared.ill_formed.IllFormedReason.TheVariants.{BeforeGenesis, UnknownAuthor, FalseGenesis, TooLargePayload, Structure}
use Rattle.reasons.specs.declared.ill_formed.IllFormedReason.TheVariants.{TooManyStickyAnchors, BadLastStickyFlag, LinksAcrossGenesis, MustBeEmpty}
use Rattle.reasons.specs.declared.ill_formed.IllFormedReason.TheVariants.{UnknownPeers, UnknownPeerInAnchorLink, LackOfPeers}
use Rattle.reasons.specs.declared.ill_formed.VerifyError.{VerifyError}
use Rattle.reasons.specs.declared.ill_formed.VerifyError.TheVariants.{Fail, IllFormed}
use Rattle.parts.specs.Bytes.{put_at}
use Rattle.reasons.specs.IllFormed.{error_answer}

-- ---- BasicVerifierInner::new, verifier.rs 795-888

-- peer_count_genesis, verifier.rs 800-810, and peer_count, verifier.rs 812-819: one peer at genesis, three or more above it;
-- below genesis no count is asked
unfoldable pub bad_count : Settings → ℕ → ℕ → Bool
bad_count c round len =
    pick (ltb round c.genesis_round) false
    (pick (eqb round c.genesis_round) (not (eqb len 1)) (ltb len 3))

-- "unknown peers in anchor {0:?} link target", of an indirect link alone: new, verifier.rs 878-885
unfoldable pub unknown_target : Schedule → AnchorLink → Bool
unfolding find peers_for
unknown_target s (Direct t) = false
unknown_target s (Indirect to t) = not (is_some (find (peers_for s to.round) to.author))

-- the peer set of a round, asked for a map
unfoldable pub vset_row : Settings → Schedule → ℕ → PointMap → List VerifyError
unfolding bad_count peers_for
vset_row c s round m =
    when (bad_count c round (length (peers_for s round)))
    (Fail (record { len = length (peers_for s round); round = round; map = m }))

unfoldable pub new_rows : Settings → Schedule → PointInfo → List (List VerifyError)
unfolding vset_row unknown_target find peers_for
new_rows c s p =
    when (ltb p.id.round c.genesis_round) (IllFormed BeforeGenesis)
    ∷ vset_row c s p.id.round map.Evidence
    ∷ when (not (is_some (find (peers_for s p.id.round) p.id.author))) (IllFormed UnknownAuthor)
    ∷ vset_row c s (p.id.round - 1) map.Includes
    ∷ vset_row c s (p.id.round - 2) map.Witness
    ∷ when (unknown_target s p.anchor_proof) (IllFormed (UnknownPeerInAnchorLink Proof))
    ∷ when (unknown_target s p.anchor_trigger) (IllFormed (UnknownPeerInAnchorLink Trigger))
    ∷ []

-- ---- check_well_formed, verifier.rs 892-926

-- AnchorLink::Direct(Through::Includes(author)): a genesis point's links, and the proof link of a trigger
unfoldable pub links_own : ℕ → AnchorLink → Bool
links_own author (Direct (Includes x)) = eqb x author
links_own author (Direct (Witness x)) = false
links_own author (Indirect to t) = false

abbrev pub is_genesis : PointRole → Bool
is_genesis Regular = false
is_genesis (AnchorProof n l) = false
is_genesis AnchorTrigger = false
is_genesis Genesis = true

abbrev pub is_zero : Option ℕ → Bool
is_zero None = false
is_zero (Some d) = eqb d 0

-- PointInfo::check_structure(true), info.rs 168-190
unfoldable pub genesis_structure_rows : PointInfo → List (List StructureIssue)
unfolding links_own prev_digest
genesis_structure_rows p =
    when (not (is_genesis p.role)) (ExpectedGenesis true)
    ∷ when (not (eqb p.time p.anchor_time)) AnchorTime
    ∷ when
    (not (is_zero (prev_digest p)) || (not (links_own p.id.author p.anchor_proof) || not (links_own p.id.author p.anchor_trigger)))
    BadGenesisPrevPoint
    ∷ []

-- an indirect link's target does not lie below its source's round
unfoldable pub target_too_new : ℕ → AnchorLink → Bool
target_too_new round (Direct t) = false
target_too_new round (Indirect to t) = leb (through_round t round) to.round

-- a link whose peer is not in its map, or whose target is too new
unfoldable pub bad_link : PointInfo → AnchorLink → Bool
unfolding digest_safe target_too_new
bad_link p l = not (is_some (digest_safe p (through l))) || target_too_new p.id.round l

abbrev pub equal : Bool → Bool → Bool
equal true b = b
equal false b = not b

-- PointData::check_non_genesis_structure, data.rs 172-174, 176-184: the author's own points
unfoldable pub own_point_rows : PointInfo → List (List StructureIssue)
unfolding prev_digest find
own_point_rows p =
    when (requires_prev_point p.role && not (is_some (prev_digest p))) NoPrevPoint
    ∷ when (equal (is_empty p.evidence) (is_some (prev_digest p))) (AuthorInMap map.Includes)
    ∷ when (is_some (find p.evidence p.id.author)) (AuthorInMap map.Evidence)
    ∷ when (is_some (find (peers p.witness) p.id.author)) (AuthorInMap map.Witness)
    ∷ []

-- check_non_genesis_structure, data.rs 186-193, 195-220, 222-225: its anchor links and its times
unfoldable pub link_rows : PointInfo → List (List StructureIssue)
unfolding links_own bad_link
link_rows p =
    when (is_anchor_trigger p.role && not (links_own p.id.author p.anchor_proof)) TriggerBadProofLink
    ∷ when (bad_link p p.anchor_proof) (Link Proof (point_map (through p.anchor_proof)))
    ∷ when (bad_link p p.anchor_trigger) (Link Trigger (point_map (through p.anchor_trigger)))
    ∷ when (leb p.time p.anchor_time) AnchorTime
    ∷ []

-- PointInfo::check_structure(false), info.rs 168-190
unfoldable pub structure_rows : PointInfo → List (List StructureIssue)
unfolding concat own_point_rows link_rows
structure_rows p =
    when (is_genesis p.role) (ExpectedGenesis false)
    ∷ concat (own_point_rows p)
    ∷ concat (link_rows p)
    ∷ []

-- a structure issue as a fault
abbrev pub structure : Option StructureIssue → List VerifyError
structure None = []
structure (Some i) = IllFormed (Structure i) ∷ []

-- at genesis: check_well_formed, verifier.rs 894-896, 897-899, 901-902
unfoldable pub genesis_rows : Settings → PointInfo → List (List VerifyError)
unfolding first_of concat genesis_structure_rows
genesis_rows c p =
    when (not (eqb p.id.digest c.genesis_digest)) (IllFormed FalseGenesis)
    ∷ when (ltb 0 p.payload_len) (IllFormed (TooLargePayload p.payload_bytes))
    ∷ structure (first_of (concat (genesis_structure_rows p)))
    ∷ []

-- the sequence number is over the settings' limit, or else the last flag is not that of the limit:
-- check_well_formed, verifier.rs 911-913, 914-916
unfoldable pub sticky_fault : Settings → Option Sticky → List VerifyError
sticky_fault c None = []
sticky_fault c (Some k) =
    pick (ltb c.sticky_anchors k.seq_no)
    (IllFormed (TooManyStickyAnchors k.seq_no) ∷ [])
    (when (not (equal k.is_last (eqb k.seq_no c.sticky_anchors))) (IllFormed BadLastStickyFlag))

-- above genesis: check_well_formed, verifier.rs 905-907, 909, 919-923
unfoldable pub above_rows : Settings → PointInfo → List (List VerifyError)
unfolding first_of concat structure_rows sticky_fault
above_rows c p =
    when (ltb c.payload_batch_bytes p.payload_bytes) (IllFormed (TooLargePayload p.payload_bytes))
    ∷ structure (first_of (concat (structure_rows p)))
    ∷ sticky_fault c (sticky_anchors p.role)
    ∷ when (ltb (target_round Proof p) c.genesis_round || ltb (target_round Trigger p) c.genesis_round) (IllFormed LinksAcrossGenesis)
    ∷ []

unfoldable pub well_formed_rows : Settings → PointInfo → List (List VerifyError)
unfolding genesis_rows above_rows
well_formed_rows c p = pick (eqb p.id.round c.genesis_round) (genesis_rows c p) (above_rows c p)

-- ---- check_peers, verifier.rs 929-994

abbrev pub unknown_row : List ℕ → PointMap → List VerifyError
unknown_row l m = when (not (is_empty l)) (IllFormed (UnknownPeers (length l) m))

abbrev pub lack : ℕ → ℕ → PointMap → VerifyError
lack len n m = IllFormed (LackOfPeers len (record { 0 = one_f n }) m)

-- BasicVerifierInner's scheduled peers: of the point's round, of its includes' and of its witness'. At genesis and just above,
-- where the Rust has none for the witness, those are never asked for.
pub record Scheduled : Type 0 where
  pub same_round : List ℕ
  pub includes : List ℕ
  pub witness : List ℕ

-- at genesis includes are checked against the peers of the point's own round
abbrev pub includes_round : Settings → ℕ → ℕ
includes_round c round = pick (eqb round c.genesis_round) round (round - 1)

unfoldable pub scheduled : Settings → Schedule → PointInfo → Scheduled
unfolding peers_for
scheduled c s p =
    record {
      same_round = peers_for s p.id.round;
      includes = peers_for s (includes_round c p.id.round);
      witness = peers_for s (p.id.round - 2);
    }

-- "inside proving point @ r+0", evidence, where there is some: check_peers, verifier.rs 936-938, 939-946, 947-951
unfoldable pub evidence_rows : Settings → Scheduled → PointInfo → List (List VerifyError)
unfolding unknown_in
evidence_rows c k p =
    pick (is_empty p.evidence) []
    (when (eqb p.id.round c.genesis_round) (IllFormed (MustBeEmpty map.Evidence))
    ∷ unknown_row (unknown_in k.same_round p.evidence) map.Evidence
    ∷ when (ltb (length p.evidence) (majority_of_others (one_f (length k.same_round))))
    (lack (length p.evidence) (length k.same_round) map.Evidence)
    ∷ [])

-- check_peers, verifier.rs 958-965, 966-970
unfoldable pub includes_rows : Scheduled → PointInfo → List (List VerifyError)
unfolding unknown_in
includes_rows k p =
    unknown_row (unknown_in k.includes (peers p.includes)) map.Includes
    ∷ when (ltb (length p.includes) (majority (one_f (length k.includes))))
    (lack (length p.includes) (length k.includes) map.Includes)
    ∷ []

-- no round of the DAG lies two below the point at genesis and just above it: check_peers, verifier.rs 974-978, 979-990
unfoldable pub witness_rows : Settings → Scheduled → PointInfo → List (List VerifyError)
unfolding unknown_in
witness_rows c k p =
    pick (is_empty p.witness) []
    (when (ltb (p.id.round - 2) c.genesis_round) (IllFormed (MustBeEmpty map.Witness))
    ∷ unknown_row (unknown_in k.witness (peers p.witness)) map.Witness
    ∷ [])

unfoldable pub peer_rows : Settings → Scheduled → PointInfo → List (List VerifyError)
unfolding concat evidence_rows includes_rows witness_rows
peer_rows c k p = concat (evidence_rows c k p) ∷ concat (includes_rows k p) ∷ concat (witness_rows c k p) ∷ []

-- ---- BasicVerifier::verify, verifier.rs 775-783

unfoldable pub faults : Settings → Schedule → PointInfo → List VerifyError
unfolding concat new_rows well_formed_rows peer_rows scheduled
faults c s p = concat (concat (new_rows c s p) ∷ concat (well_formed_rows c p) ∷ concat (peer_rows c (scheduled c s p) p) ∷ [])

unfoldable pub verify : Settings → Schedule → PointInfo → Option VerifyError
unfolding first_of faults
verify c s p = first_of (faults c s p)

-- ---- unknown peers

-- those of a map, by its number in the answer
abbrev pub unknown_by : Scheduled → PointInfo → ℕ → List ℕ
unknown_by k p n =
    pick (eqb n 0) (unknown_in k.same_round p.evidence)
    (pick (eqb n 1) (unknown_in k.includes (peers p.includes))
    (unknown_in k.witness (peers p.witness)))

-- "All unknown peers go, rising, into a lent buffer ..; the rest of it keeps its bytes": UnknownPeers is number 12
abbrev pub buffer_with : Scheduled → PointInfo → Option VerifyError → List ℕ → List ℕ
buffer_with k p None buffer = buffer
buffer_with k p (Some e) buffer =
    pick (eqb (error_answer e).reason 12) (put_at buffer 0 (peer_bytes (unknown_by k p (error_answer e).map))) buffer
