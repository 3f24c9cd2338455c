-- What the bytes of a point record mean, and what the code's values stand for.
use Rattle.std.specs.Prelude.{ℕ, ◌+◌, Bool, ◌&&◌, List, length, get_or, leb, eqb, Option, None, Some, option_map}
use Rattle.base.specs.Base.{pick, and_then}
use Rattle.parts.specs.Bytes.{id_at, little_at}
use Rattle.map.specs.declared.Arrangement.{Arrangement}
use Rattle.map.specs.declared.Arrangement.TheVariants.{Columns}
use Rattle.map.specs.Rows.{peers_of, pairs_in, well_rowed, is_map}
use Rattle.record.specs.Record.{content_of, well_shaped}
use Rattle.point.specs.Point.{PointId, Through, Includes, Witness, AnchorLink, Direct, Indirect, PointInfo}
use Rattle.point.specs.declared.data.PointRole.{PointRole}
use Rattle.point.specs.declared.data.PointRole.TheVariants.{Regular, AnchorProof, AnchorTrigger, Genesis}

-- ---- document 01, the table of tags 1 to 9

-- tag 1: "round (4), digest (32), author (32)"
unfoldable pub point_id_at : List ℕ → ℕ → PointId
point_id_at s at = record { round = little_at 4 s at; digest = id_at s (at + 4); author = id_at s (at + 36) }

-- a map and a peer at a place, of a slice where the map is known to be 0 or 1
abbrev pub through_at : List ℕ → ℕ → Through
through_at s at = pick (eqb (get_or s at 0) 0) (Includes (id_at s (at + 1))) (Witness (id_at s (at + 1)))

-- tags 6 and 7: "map (0 includes, 1 witness), peer (32)", after the kind
unfoldable pub read_through : List ℕ → Option Through
read_through s =
    pick (eqb (get_or s 1 0) 0) (Some (Includes (id_at s 2)))
    (pick (eqb (get_or s 1 0) 1) (Some (Witness (id_at s 2))) None)

-- "kind (0 direct, 1 indirect)"; "indirect adds a target id (68)"
unfoldable pub read_link : List ℕ → Option AnchorLink
unfolding read_through point_id_at
read_link s = and_then (read_through s) (λ t.
    pick (eqb (length s) 34 && eqb (get_or s 0 0) 0) (Some (Direct t))
    (pick (eqb (length s) 102 && eqb (get_or s 0 0) 1) (Some (Indirect (point_id_at s 34) t)) None))

-- tag 8: "0 regular, 1 proof then seq_no (1) and is_last (0 or 1), 2 trigger, 3 genesis"
unfoldable pub read_role : List ℕ → Option PointRole
read_role s =
    pick (eqb (length s) 1)
    (pick (eqb (get_or s 0 0) 0) (Some Regular)
    (pick (eqb (get_or s 0 0) 2) (Some AnchorTrigger)
    (pick (eqb (get_or s 0 0) 3) (Some Genesis) None)))
    (pick (eqb (length s) 3 && (eqb (get_or s 0 0) 1 && leb (get_or s 2 0) 1))
    (Some (AnchorProof (get_or s 1 0) (eqb (get_or s 2 0) 1))) None)

-- tags 3, 4 and 5: whole rows, rising
unfoldable pub maps_ok : Arrangement → List ℕ → Bool
unfolding is_map well_rowed content_of
maps_ok a s = is_map a (content_of s 2) && (is_map a (content_of s 3) && well_rowed 32 (content_of s 4))

-- the point, once its links and its role are read; tag 2: payload length and bytes; tag 9: time and anchor_time
abbrev pub point_in : Arrangement → List ℕ → AnchorLink → AnchorLink → PointRole → PointInfo
point_in a s p t r =
    record {
      id = point_id_at (content_of s 0) 0;
      payload_len = little_at 4 (content_of s 1) 0;
      payload_bytes = little_at 4 (content_of s 1) 4;
      includes = pairs_in a (content_of s 2);
      witness = pairs_in a (content_of s 3);
      evidence = peers_of 32 (content_of s 4);
      anchor_proof = p;
      anchor_trigger = t;
      role = r;
      time = little_at 8 (content_of s 8) 0;
      anchor_time = little_at 8 (content_of s 8) 8;
    }

-- a slice that holds one point record, its maps in this arrangement, or none
unfoldable pub read_point_in : Arrangement → List ℕ → Option PointInfo
unfolding well_shaped maps_ok content_of read_link read_role point_id_at
read_point_in a s =
    pick (well_shaped s && maps_ok a s)
    (and_then (read_link (content_of s 5)) (λ p. and_then (read_link (content_of s 6)) (λ t.
    option_map (point_in a s p t) (read_role (content_of s 7)))))
    None

-- as the calls read it
abbrev pub read_point : List ℕ → Option PointInfo
read_point s = read_point_in Columns s
