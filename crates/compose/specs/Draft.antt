-- A point that is handed over to be written (document 02, U1): what it says, and what the call gives.
use Rattle.std.specs.Prelude.{ℕ, ◌/◌, ◌%◌, Bool, ◌&&◌, ◌||◌, List, [], ◌∷◌, length, get_or, take, leb, ltb, eqb, Option, None, Some, option_map, Err, Ok, Result}
use Rattle.base.specs.Base.{pick, and_then}
use Rattle.parts.specs.Bytes.{put_at}
use Rattle.map.specs.Rows.{peers, peers_of, pairs_of}
use Rattle.map.specs.Risen.{peer_of, itself, risen, has_twice}
use Rattle.point.specs.Point.{PointInfo, AnchorLink, in_domain}
use Rattle.point.specs.declared.data.PointRole.{PointRole}
use Rattle.point.specs.Reading.{point_id_at, read_link, read_role}
use Rattle.point.specs.Written.{point_bytes}

-- "id, payload numbers, the three maps, links, role and times"
pub record Draft : Type 0 where
  pub id : List ℕ
  pub payload_len : ℕ
  pub payload_bytes : ℕ
  pub includes : List ℕ
  pub witness : List ℕ
  pub evidence : List ℕ
  pub anchor_proof : List ℕ
  pub anchor_trigger : List ℕ
  pub role : ℕ
  pub seq_no : ℕ
  pub is_last : ℕ
  pub time : ℕ
  pub anchor_time : ℕ

-- its parts in the order in which the call takes them
abbrev pub draft : List ℕ → ℕ → ℕ → List ℕ → List ℕ → List ℕ → List ℕ → List ℕ → ℕ → ℕ → ℕ → ℕ → ℕ → Draft
draft i len bytes inc wit evi proof trigger r seq last t anchor =
    record {
      id = i;
      payload_len = len;
      payload_bytes = bytes;
      includes = inc;
      witness = wit;
      evidence = evi;
      anchor_proof = proof;
      anchor_trigger = trigger;
      role = r;
      seq_no = seq;
      is_last = last;
      time = t;
      anchor_time = anchor;
    }

-- ---- what a draft says

-- a link is a kind, a map, a peer and a target, and of a direct one no target is read
abbrev pub link_part : List ℕ → List ℕ
link_part s = pick (eqb (get_or s 0 0) 0) (take 34 s) s

-- of a proof alone its number and whether it is the last are read
abbrev pub role_part : Draft → List ℕ
role_part d = pick (eqb d.role 1) (d.role ∷ d.seq_no ∷ d.is_last ∷ []) (d.role ∷ [])

abbrev pub point_by : Draft → AnchorLink → AnchorLink → PointRole → PointInfo
point_by d p t r =
    record {
      id = point_id_at d.id 0;
      payload_len = d.payload_len;
      payload_bytes = d.payload_bytes;
      includes = pairs_of d.includes;
      witness = pairs_of d.witness;
      evidence = peers_of 32 d.evidence;
      anchor_proof = p;
      anchor_trigger = t;
      role = r;
      time = d.time;
      anchor_time = d.anchor_time;
    }

-- the point that was handed over, its maps in the order in which they "arrive"; none where "a kind or map [is] over 1, a role over 3,
-- is_last over 1 of a proof"
unfoldable pub handed_over : Draft → Option PointInfo
unfolding read_link read_role point_id_at
handed_over d =
    and_then (read_link (link_part d.anchor_proof)) (λ p. and_then (read_link (link_part d.anchor_trigger)) (λ t.
    option_map (point_by d p t) (read_role (role_part d))))

-- "Maps arrive in any order and are written rising"
unfoldable pub rearranged : PointInfo → PointInfo
rearranged p =
    record {
      id = p.id;
      payload_len = p.payload_len;
      payload_bytes = p.payload_bytes;
      includes = risen peer_of p.includes;
      witness = risen peer_of p.witness;
      evidence = risen itself p.evidence;
      anchor_proof = p.anchor_proof;
      anchor_trigger = p.anchor_trigger;
      role = p.role;
      time = p.time;
      anchor_time = p.anchor_time;
    }

unfoldable pub composed : PointInfo → List ℕ
unfolding point_bytes rearranged
composed p = point_bytes (rearranged p)

-- ---- the call

-- 3: "a map over 255 or not of whole pairs or peers"
abbrev pub are_rows : ℕ → List ℕ → Bool
are_rows width s = eqb (length s % width) 0 && leb (length s / width) 255

abbrev pub are_maps : Draft → Bool
are_maps d = are_rows 64 d.includes && (are_rows 64 d.witness && are_rows 32 d.evidence)

-- 13: "a peer twice in a map"
abbrev pub any_twice : PointInfo → Bool
any_twice p = has_twice (peers p.includes) || (has_twice (peers p.witness) || has_twice p.evidence)

-- "then 4, 13, 14 are tested": 4 is what can't be read, and a round or a time outside the domain
abbrev pub composition_of : Option PointInfo → ℕ → Result ℕ ℕ
composition_of None size = Err 4
composition_of (Some p) size =
    pick (in_domain p)
    (pick (any_twice p) (Err 13)
    (pick (ltb size (length (composed p))) (Err 14)
    (Ok (length (composed p)))))
    (Err 4)

-- the number, or how many bytes are written into an output of `size`
unfoldable pub composition : Draft → ℕ → Result ℕ ℕ
unfolding handed_over in_domain has_twice composed
composition d size = pick (are_maps d) (composition_of (handed_over d) size) (Err 3)

abbrev pub put_composed : Option PointInfo → List ℕ → List ℕ
put_composed None out = out
put_composed (Some p) out = put_at out 0 (composed p)

-- the output: "behind them [it] keeps its bytes", and with a number it keeps all
abbrev pub output : Draft → List ℕ → Result ℕ ℕ → List ℕ
output d out (Err n) = out
output d out (Ok n) = put_composed (handed_over d) out
