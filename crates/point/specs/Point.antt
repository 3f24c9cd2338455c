-- Points as values, and what data.rs, link.rs and info.rs ask of them.
-- Peers and digests are numbers: the 32 bytes read with the first byte highest, so that < is the order of byte strings.
use Rattle.std.specs.Prelude.{ℕ, zero, suc, ◌-◌, Bool, true, false, not, ◌&&◌, List, leb, ltb, eqb, Option, None, Some, option_map, unwrap_or}
use Rattle.base.specs.Base.{pick}
use Rattle.parts.specs.Limits.{first_round, last_round}
use Rattle.map.specs.Rows.{Pair, get}
use Rattle.point.specs.declared.data.PointRole.{PointRole}
use Rattle.point.specs.declared.data.PointRole.TheVariants.{Regular, AnchorProof, AnchorTrigger, Genesis}
use Rattle.point.specs.declared.data.AnchorStageRole.{AnchorStageRole}
use Rattle.point.specs.declared.data.AnchorStageRole.TheVariants.{Proof, Trigger}
use Rattle.point.specs.declared.data.PointMap.{PointMap}
use Rattle.point.specs.declared.data.PointMap.TheVariants as map

-- info.rs, PointId
pub record PointId : Type 0 where
  pub round : ℕ
  pub digest : ℕ
  pub author : ℕ

-- PartialEq of PointId
unfoldable pub same_id : PointId → PointId → Bool
same_id a b = eqb a.round b.round && (eqb a.digest b.digest && eqb a.author b.author)

-- the id of no point: where nothing is named
abbrev pub no_point : PointId
no_point = record { round = 0; digest = 0; author = 0 }

-- link.rs, Through: the map and the peer that a link goes through
pub data Through : Type 0 where
  Includes : ℕ → Through
  Witness : ℕ → Through

-- link.rs, AnchorLink; an indirect one has its target and what it goes through (IndirectLink)
pub data AnchorLink : Type 0 where
  Direct : Through → AnchorLink
  Indirect : (to : PointId) (through : Through) → AnchorLink

-- info.rs, PointInfo, with the fields of PointData (data.rs); no signatures
pub record PointInfo : Type 0 where
  pub id : PointId
  pub payload_len : ℕ
  pub payload_bytes : ℕ
  pub includes : List Pair
  pub witness : List Pair
  pub evidence : List ℕ
  pub anchor_proof : AnchorLink
  pub anchor_trigger : AnchorLink
  pub role : PointRole
  pub time : ℕ
  pub anchor_time : ℕ

-- "point .. rounds 4 to 2,147,483,647; times up to 2^63 − 1"
unfoldable pub in_domain : PointInfo → Bool
in_domain p =
    leb first_round p.id.round
    && (leb p.id.round last_round
    && (leb p.time 9223372036854775807
    && leb p.anchor_time 9223372036854775807))

-- ---- data.rs, PointRole

-- PointRole::is_anchor_proof
abbrev pub is_anchor_proof : PointRole → Bool
is_anchor_proof Regular = false
is_anchor_proof (AnchorProof n l) = true
is_anchor_proof AnchorTrigger = false
is_anchor_proof Genesis = true

-- PointRole::is_anchor_trigger
abbrev pub is_anchor_trigger : PointRole → Bool
is_anchor_trigger Regular = false
is_anchor_trigger (AnchorProof n l) = ltb 0 n
is_anchor_trigger AnchorTrigger = true
is_anchor_trigger Genesis = true

-- PointRole::is_anchor_stage
abbrev pub is_anchor_stage : AnchorStageRole → PointRole → Bool
is_anchor_stage Proof r = is_anchor_proof r
is_anchor_stage Trigger r = is_anchor_trigger r

-- PointRole::requires_prev_point
abbrev pub requires_prev_point : PointRole → Bool
requires_prev_point Regular = false
requires_prev_point (AnchorProof n l) = true
requires_prev_point AnchorTrigger = true
requires_prev_point Genesis = false

-- ---- link.rs

-- AnchorLink::is_wave_far_enough, WAVE_ROUNDS being 4 (wave.rs)
abbrev pub is_wave_far_enough : ℕ → AnchorLink → Bool
is_wave_far_enough round (Direct t) = false
is_wave_far_enough round (Indirect to t) = leb 4 (round - to.round)

-- ---- data.rs, PointData

-- PointData::is_wave_link_ok: of a leader, of a point with a previous one, at a round
unfoldable pub is_wave_link_ok : Bool → Bool → ℕ → AnchorLink → PointRole → Bool
is_wave_link_ok leader prev round l Regular = not (leader && (prev && is_wave_far_enough round l))
is_wave_link_ok leader prev round l (AnchorProof zero last) = leader && is_wave_far_enough round l
is_wave_link_ok leader prev round l (AnchorProof (suc n) last) = true
is_wave_link_ok leader prev round l AnchorTrigger = true
is_wave_link_ok leader prev round l Genesis = true

-- the round, the peer and the map that a link goes through: includes are at r-1, witness at r-2
abbrev pub through_round : Through → ℕ → ℕ
through_round (Includes x) round = round - 1
through_round (Witness x) round = round - 2

abbrev pub through_peer : Through → ℕ
through_peer (Includes x) = x
through_peer (Witness x) = x

abbrev pub point_map : Through → PointMap
point_map (Includes x) = map.Includes
point_map (Witness x) = map.Witness

abbrev pub through_map : Through → PointInfo → List Pair
through_map (Includes x) p = p.includes
through_map (Witness x) p = p.witness

-- AnchorViewSource::digest_safe: the digest beside the peer in the map that a link goes through
unfoldable pub digest_safe : PointInfo → Through → Option ℕ
unfolding get
digest_safe p t = get (through_map t p) (through_peer t)

-- PointData::through_id
unfoldable pub through_id : PointInfo → Through → Option PointId
unfolding digest_safe
through_id p t = option_map (λ d. record { round = through_round t p.id.round; digest = d; author = through_peer t }) (digest_safe p t)

-- ---- info.rs

-- PointInfo::prev_digest
unfoldable pub prev_digest : PointInfo → Option ℕ
unfolding get
prev_digest p = get p.includes p.id.author

-- PointInfo::prev_id
unfoldable pub prev_id : PointInfo → Option PointId
unfolding prev_digest
prev_id p = option_map (λ d. record { round = p.id.round - 1; digest = d; author = p.id.author }) (prev_digest p)

-- the number of a proof in its sequence, and whether it is the last
pub record Sticky : Type 0 where
  pub seq_no : ℕ
  pub is_last : Bool

-- PointInfo::sticky_anchors
abbrev pub sticky_anchors : PointRole → Option Sticky
sticky_anchors Regular = None
sticky_anchors (AnchorProof n l) = Some (record { seq_no = n; is_last = l })
sticky_anchors AnchorTrigger = None
sticky_anchors Genesis = None

abbrev pub through : AnchorLink → Through
through (Direct t) = t
through (Indirect to t) = t

-- the link that PointInfo::anchor views
abbrev pub anchor_link : AnchorStageRole → PointInfo → AnchorLink
anchor_link Proof p = p.anchor_proof
anchor_link Trigger p = p.anchor_trigger

-- AnchorViewSource::id. Where the peer is not in its map the Rust panics ("usage of ill-formed point") and the digest here is 0.
-- No verdict depends on it: verification refuses such a point, and of a dependency only a direct link's target is asked for, which
-- the domain of lists and books covers.
unfoldable pub source : AnchorStageRole → PointInfo → PointId
unfolding digest_safe
source g p =
    record {
      round = through_round (through (anchor_link g p)) p.id.round;
      digest = unwrap_or (digest_safe p (through (anchor_link g p))) 0;
      author = through_peer (through (anchor_link g p));
    }

-- AnchorViewTarget::round
abbrev pub target_round_of : ℕ → AnchorLink → ℕ
target_round_of round (Direct t) = through_round t round
target_round_of round (Indirect to t) = to.round

abbrev pub target_round : AnchorStageRole → PointInfo → ℕ
target_round g p = target_round_of p.id.round (anchor_link g p)

abbrev pub target_of : PointId → AnchorLink → PointId
target_of i (Direct t) = i
target_of i (Indirect to t) = to

-- AnchorViewTarget::id: of a direct link its source
unfoldable pub target : AnchorStageRole → PointInfo → PointId
unfolding source
target g p = target_of (source g p) (anchor_link g p)

-- AnchorViewTop::id: the point itself where it has the role, else its link's target
unfoldable pub top : AnchorStageRole → PointInfo → PointId
unfolding target
top g p = pick (is_anchor_stage g p.role) p.id (target g p)

-- AnchorView by value
pub record AnchorView : Type 0 where
  pub top : PointId
  pub target : PointId
  pub source : PointId

-- PointInfo::anchor
unfoldable pub anchor : AnchorStageRole → PointInfo → AnchorView
unfolding top target source
anchor g p = record { top = top g p; target = target g p; source = source g p }
