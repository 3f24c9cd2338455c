-- The record of a draft's contents is that of the point that was handed over.
use Rattle.std.specs.Prelude.{Some}
use Prim.Native.Nat.{ℕ}
use native.Mathlib.Omega.{arith}
use mathlib.Core.Path.{◌≡◌, refl, ap, ◌∙◌, subst}
use mathlib.Core.List.{List, [], ◌∷◌, ◌++◌}
use lib.ListN.{length}
use lib.Seq.{take_all}
use Rattle.base.proofs.Option.{and_then_lem, map-eq-some_iff}
use Rattle.parts.specs.Bytes.{Bytes, little_bytes}
use Rattle.record.specs.Fields.{field_bytes, record_bytes}
use Rattle.point.specs.Point.{PointInfo}
use Rattle.point.specs.Reading.{point_id_at, read_link, read_role}
use Rattle.point.specs.Written.{id_bytes, point_contents, point_bytes}
use Rattle.point.proofs.PartsWritten.{id-again, link-again, role-again}
use Rattle.compose.specs.Draft.{Draft, link_part, role_part, point_by, handed_over, rearranged, composed}
use Rattle.compose.specs.Code.{map_by, set_by, Ordered}
use Rattle.compose.specs.declared.draft.Orders.{Orders}
use Rattle.compose.proofs.Fields.{nine_laid}
use Rattle.compose.proofs.Rows.{Maps, rows_whole}
use Rattle.compose.proofs.Written.{map-written, set-written}

-- ---- what was handed over

-- its links and its role are those that are read of the draft's parts, and it has the rest as it is there
pub record Handed (d : Draft) (p : PointInfo) : Type 0 where
  pub proof : read_link (link_part d.anchor_proof) ≡ Some p.anchor_proof
  pub trigger : read_link (link_part d.anchor_trigger) ≡ Some p.anchor_trigger
  pub role : read_role (role_part d) ≡ Some p.role
  pub point : p ≡ point_by d p.anchor_proof p.anchor_trigger p.role

pub handed : (d : Draft) (p : PointInfo) → handed_over d ≡ Some p → Handed d p
unfolding handed_over
handed d p h =
    let a = and_then_lem (read_link (link_part d.anchor_proof)) _ p h in
    let t = and_then_lem (read_link (link_part d.anchor_trigger)) _ p a.2 in
    let r = (map-eq-some_iff (point_by d a.0 t.0) (read_role (role_part d))).0 t.2 in
    subst (λ q. Handed d q) r.2 (record { proof = a.1; trigger = t.1; role = r.1; point = refl })

-- ---- a draft's contents

module _ (d : Draft) (o : Orders) where
  abbrev payload : List ℕ
  payload = little_bytes 4 d.payload_len ++ little_bytes 4 d.payload_bytes

  abbrev times : List ℕ
  times = little_bytes 8 d.time ++ little_bytes 8 d.anchor_time

  -- of its nine fields, its rows by orders
  pub contents_by : List (List ℕ)
  contents_by =
      d.id
      ∷ payload
      ∷ map_by d.includes o.includes
      ∷ map_by d.witness o.witness
      ∷ set_by d.evidence o.evidence
      ∷ link_part d.anchor_proof
      ∷ link_part d.anchor_trigger
      ∷ role_part d
      ∷ times
      ∷ []

  -- their record is its fields one after the other
  pub record-laid :
      ((((((((([] ++ field_bytes 1 d.id)
      ++ field_bytes 2 payload)
      ++ field_bytes 3 (map_by d.includes o.includes))
      ++ field_bytes 4 (map_by d.witness o.witness))
      ++ field_bytes 5 (set_by d.evidence o.evidence))
      ++ field_bytes 6 (link_part d.anchor_proof))
      ++ field_bytes 7 (link_part d.anchor_trigger))
      ++ field_bytes 8 (role_part d))
      ++ field_bytes 9 times)
      ≡ record_bytes contents_by
  unfolding contents_by
  record-laid =
      nine_laid
      d.id
      payload
      (map_by d.includes o.includes)
      (map_by d.witness o.witness)
      (set_by d.evidence o.evidence)
      (link_part d.anchor_proof)
      (link_part d.anchor_trigger)
      (role_part d)
      times

-- the bytes that a draft lends
pub record AreBytes (d : Draft) : Type 0 where
  pub id : Bytes d.id
  pub includes : Bytes d.includes
  pub witness : Bytes d.witness
  pub evidence : Bytes d.evidence
  pub proof : Bytes (link_part d.anchor_proof)
  pub trigger : Bytes (link_part d.anchor_trigger)

-- two records' contents, one by one
nine-same : {a b c d e f g h i a' b' c' d' e' f' g' h' i' : List ℕ} →
    a ≡ a' → b ≡ b' → c ≡ c' → d ≡ d' → e ≡ e' → f ≡ f' → g ≡ g' → h ≡ h' → i ≡ i' →
    ◌≡◌ {A = List (List ℕ)} (a ∷ b ∷ c ∷ d ∷ e ∷ f ∷ g ∷ h ∷ i ∷ []) (a' ∷ b' ∷ c' ∷ d' ∷ e' ∷ f' ∷ g' ∷ h' ∷ i' ∷ [])
nine-same ea eb ec ed ee ef eg eh ei = cc

module _ (d : Draft) (o : Orders) (p : PointInfo) (h : Handed d p) (m : Maps d) where
  id-same : Bytes d.id → length d.id ≡ 68 → id_bytes (point_id_at d.id 0) ≡ d.id
  id-same b n = id-again d.id 0 b (omega arith) ∙ take_all 68 d.id (omega arith)

  contents-same : Ordered d o → AreBytes d → length d.id ≡ 68 →
      point_contents (rearranged (point_by d p.anchor_proof p.anchor_trigger p.role)) ≡ contents_by d o
  unfolding point_contents rearranged contents_by
  contents-same r b n =
      nine-same
      (id-same b.id n)
      refl
      (map-written d.includes b.includes o.includes (rows_whole 64 d.includes m.includes) r.includes)
      (map-written d.witness b.witness o.witness (rows_whole 64 d.witness m.witness) r.witness)
      (set-written d.evidence b.evidence o.evidence (rows_whole 32 d.evidence m.evidence) r.evidence)
      (link-again (link_part d.anchor_proof) b.proof p.anchor_proof h.proof)
      (link-again (link_part d.anchor_trigger) b.trigger p.anchor_trigger h.trigger)
      (role-again (role_part d) p.role h.role)
      refl

  pub composed-is : Ordered d o → AreBytes d → length d.id ≡ 68 → composed p ≡ record_bytes (contents_by d o)
  unfolding composed point_bytes
  composed-is r b n = ap (λ q. record_bytes (point_contents (rearranged q))) h.point ∙ ap record_bytes (contents-same r b n)
