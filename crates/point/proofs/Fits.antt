-- What a point record can hold, part by part; and that a point that was read from bytes is such.
use Rattle.std.specs.Prelude.{Some}
use Prim.Native.Nat.{ℕ, ◌+◌, ◌^◌, ◌≤◌, ◌<◌}
use native.Mathlib.Omega.{arith}
use mathlib.Core.Path.{◌≡◌}
use mathlib.Core.Bool.{true, ◌&&◌}
use mathlib.Core.List.{List}
use lib.ListN.{length, get_or}
use lib.Dec.{leb, eqb}
use borrow.Author.Tests.{eqb-true}
use Rattle.base.proofs.Bool.{and_left}
use Rattle.base.proofs.Option.{IfSome, pick-has, then_has, has}
use Rattle.parts.specs.Bytes.{Bytes}
use Rattle.parts.proofs.Laws.{big-fits}
use Rattle.map.specs.Rows.{Pair, peers, rising}
use Rattle.map.proofs.Written.{IdsFit, PairsFit, peers_of-fit, pairs_of-fit}
use Rattle.record.specs.Record.{content_of}
use Rattle.record.proofs.Laws.{content-bytes}
use Rattle.write.proofs.Numbers.{little-fits}
use Rattle.point.specs.Point.{PointId, Through, AnchorLink, Direct, Indirect, PointInfo, Sticky, through_peer, through, sticky_anchors}
use Rattle.point.specs.Reading.{point_id_at, read_through, read_link, read_role, read_point}
use Rattle.point.specs.declared.data.PointRole.{PointRole}
use Rattle.point.proofs.Laws.{id_long, payload_long, proof_long, trigger_long, times_long, MapOf, SetOf, readable, parts-of}

-- ---- a point

-- an id fits "round (4), digest (32), author (32)"
pub record IdFits (i : PointId) : Type 0 where
  pub round : i.round < 256 ^ 4
  pub digest : i.digest < 256 ^ 32
  pub author : i.author < 256 ^ 32

-- a seq_no, if a role has one, fits its byte
abbrev pub RoleFits : PointRole → Type 0
RoleFits r = IfSome (λ (k : Sticky). k.seq_no < 256) (sticky_anchors r)

-- a link's target, if it has one, and the peer that it goes through
abbrev pub TargetFits : AnchorLink → Type 0
TargetFits (Direct t) = Unit
TargetFits (Indirect to t) = IdFits to

pub record LinkFits (l : AnchorLink) : Type 0 where
  pub target : TargetFits l
  pub through : through_peer (through l) < 256 ^ 32

-- at most 255 pairs, or peers, that rise
pub record MapFits (l : List Pair) : Type 0 where
  pub few : length l ≤ 255
  pub rise : rising (peers l) ≡ true
  pub fit : PairsFit l

pub record SetFits (l : List ℕ) : Type 0 where
  pub few : length l ≤ 255
  pub rise : rising l ≡ true
  pub fit : IdsFit l

-- what a point record can hold
pub record PointFits (p : PointInfo) : Type 0 where
  pub id : IdFits p.id
  pub payload_len : p.payload_len < 256 ^ 4
  pub payload_bytes : p.payload_bytes < 256 ^ 4
  pub includes : MapFits p.includes
  pub witness : MapFits p.witness
  pub evidence : SetFits p.evidence
  pub proof : LinkFits p.anchor_proof
  pub trigger : LinkFits p.anchor_trigger
  pub role : RoleFits p.role
  pub time : p.time < 256 ^ 8
  pub anchor_time : p.anchor_time < 256 ^ 8

-- ---- of bytes

pub id-fits : (s : List ℕ) (at : ℕ) → Bytes s → at + 68 ≤ length s → IdFits (point_id_at s at)
unfolding point_id_at
id-fits s at b h = record {
  round = little-fits 4 s at b (omega arith);
  digest = big-fits 32 s (at + 4) b (omega arith);
  author = big-fits 32 s (at + 36) b (omega arith);
}

through_fits : (s : List ℕ) → Bytes s → 34 ≤ length s → IfSome (λ (t : Through). through_peer t < 256 ^ 32) (read_through s)
unfolding read_through
through_fits s b h =
    let P = λ (t : Through). through_peer t < 256 ^ 32 in
    let f = big-fits 32 s 2 b (omega arith) in
    pick-has P (eqb (get_or s 1 0) 0) _ _ (λ x. f) (pick-has P (eqb (get_or s 1 0) 1) _ _ (λ x. f) tt)

pub link-fits : (s : List ℕ) → Bytes s → 34 ≤ length s → IfSome LinkFits (read_link s)
unfolding read_link
link-fits s b h =
    then_has LinkFits (read_through s) _ (λ t r.
    let f = has (λ (x : Through). through_peer x < 256 ^ 32) (read_through s) t (through_fits s b h) r in
    pick-has LinkFits (eqb (length s) 34 && eqb (get_or s 0 0) 0) _ _ (λ x. record { target = tt; through = f })
    (pick-has LinkFits (eqb (length s) 102 && eqb (get_or s 0 0) 1) _ _
    (λ x. (let n = eqb-true (length s) 102 (and_left (eqb (length s) 102) _ x) in
    record { target = id-fits s 34 b (omega arith); through = f })) tt))

pub role-fits : (s : List ℕ) → Bytes s → IfSome RoleFits (read_role s)
unfolding read_role
role-fits s b =
    pick-has RoleFits (eqb (length s) 1) _ _
    (λ h. pick-has RoleFits (eqb (get_or s 0 0) 0) _ _ (λ x. tt)
    (pick-has RoleFits (eqb (get_or s 0 0) 2) _ _ (λ x. tt) (pick-has RoleFits (eqb (get_or s 0 0) 3) _ _ (λ x. tt) tt)))
    (pick-has RoleFits (eqb (length s) 3 && (eqb (get_or s 0 0) 1 && leb (get_or s 2 0) 1)) _ _ (λ h. b 1) tt)

map-fits : (s : List ℕ) (l : List Pair) → Bytes s → MapOf s l → MapFits l
map-fits s l b m = record { few = m.few; rise = m.rise; fit = rw m.are (pairs_of-fit s b) }

set-fits : (s l : List ℕ) → Bytes s → SetOf s l → SetFits l
set-fits s l b m = record { few = m.few; rise = m.rise; fit = rw m.are (peers_of-fit s b) }

-- a point that was read from bytes
pub read-fits : (s : List ℕ) (p : PointInfo) → Bytes s → read_point s ≡ Some p → PointFits p
read-fits s p b h =
    let q = readable s p h in
    let w = q.shaped in
    let m = parts-of s p h in
    let of = λ (k : ℕ). content-bytes s k b in
    record {
      id = rw m.id (id-fits (content_of s 0) 0 (of 0) (id_long s w));
      payload_len = rw m.payload_len (little-fits 4 (content_of s 1) 0 (of 1) (omega (arith, payload_long s w)));
      payload_bytes = rw m.payload_bytes (little-fits 4 (content_of s 1) 4 (of 1) (payload_long s w));
      includes = map-fits (content_of s 2) p.includes (of 2) q.includes;
      witness = map-fits (content_of s 3) p.witness (of 3) q.witness;
      evidence = set-fits (content_of s 4) p.evidence (of 4) q.evidence;
      proof = has LinkFits (read_link (content_of s 5)) p.anchor_proof (link-fits (content_of s 5) (of 5) (proof_long s w)) m.proof;
      trigger = has LinkFits (read_link (content_of s 6)) p.anchor_trigger (link-fits (content_of s 6) (of 6) (trigger_long s w)) m.trigger;
      role = has RoleFits (read_role (content_of s 7)) p.role (role-fits (content_of s 7) (of 7)) m.role;
      time = rw m.time (little-fits 8 (content_of s 8) 0 (of 8) (omega (arith, times_long s w)));
      anchor_time = rw m.anchor_time (little-fits 8 (content_of s 8) 8 (of 8) (times_long s w));
    }
