-- The bytes of a point: what Reading reads, written.
use Rattle.std.specs.Prelude.{ℕ, List, [], ◌∷◌, ◌++◌}
use Rattle.base.specs.Base.{pick}
use Rattle.parts.specs.Bytes.{big_bytes, little_bytes}
use Rattle.map.specs.Written.{peer_bytes, pairs_bytes}
use Rattle.record.specs.Fields.{record_bytes}
use Rattle.point.specs.Point.{PointId, Through, Includes, Witness, AnchorLink, Direct, Indirect, PointInfo}
use Rattle.point.specs.declared.data.PointRole.{PointRole}
use Rattle.point.specs.declared.data.PointRole.TheVariants.{Regular, AnchorProof, AnchorTrigger, Genesis}

-- "round (4), digest (32), author (32)"
abbrev pub id_bytes : PointId → List ℕ
id_bytes i = little_bytes 4 i.round ++ (big_bytes 32 i.digest ++ big_bytes 32 i.author)

-- "map (0 includes, 1 witness), peer (32)"
abbrev pub through_bytes : Through → List ℕ
through_bytes (Includes x) = 0 ∷ big_bytes 32 x
through_bytes (Witness x) = 1 ∷ big_bytes 32 x

-- "kind (0 direct, 1 indirect)"; "indirect adds a target id (68)"
unfoldable pub link_bytes : AnchorLink → List ℕ
unfolding little_bytes big_bytes
link_bytes (Direct t) = 0 ∷ through_bytes t
link_bytes (Indirect to t) = 1 ∷ through_bytes t ++ id_bytes to

-- "0 regular, 1 proof then seq_no (1) and is_last (0 or 1), 2 trigger, 3 genesis"
unfoldable pub role_bytes : PointRole → List ℕ
role_bytes Regular = 0 ∷ []
role_bytes (AnchorProof n last) = 1 ∷ n ∷ pick last 1 0 ∷ []
role_bytes AnchorTrigger = 2 ∷ []
role_bytes Genesis = 3 ∷ []

-- the contents of a point's nine fields, in the order of their tags
unfoldable pub point_contents : PointInfo → List (List ℕ)
unfolding little_bytes big_bytes peer_bytes pairs_bytes link_bytes role_bytes
point_contents p =
    id_bytes p.id
    ∷ (little_bytes 4 p.payload_len ++ little_bytes 4 p.payload_bytes)
    ∷ pairs_bytes p.includes
    ∷ pairs_bytes p.witness
    ∷ peer_bytes p.evidence
    ∷ link_bytes p.anchor_proof
    ∷ link_bytes p.anchor_trigger
    ∷ role_bytes p.role
    ∷ (little_bytes 8 p.time ++ little_bytes 8 p.anchor_time)
    ∷ []

unfoldable pub point_bytes : PointInfo → List ℕ
unfolding record_bytes point_contents
point_bytes p = record_bytes (point_contents p)
