-- Laws of points: what a record of the right shape holds, and what one gives that was read.
use Rattle.std.specs.Prelude.{Option, None, Some, option_map}
use Prim.Native.Nat.{ℕ, ◌*◌, ◌≤◌}
use native.Mathlib.Omega.{arith}
use mathlib.Core.Path.{◌≡◌, refl, sym, ◌∙◌}
use mathlib.Core.Bool.{true, ◌&&◌, and-eq-true_iff}
use mathlib.Core.List.{List}
use lib.ListN.{length}
use Rattle.base.specs.Base.{and_then}
use Rattle.base.proofs.Option.{picked, none-some}
use Rattle.parts.specs.Bytes.{little_at}
use Rattle.map.specs.declared.Arrangement.{Arrangement}
use Rattle.map.specs.declared.Arrangement.TheVariants.{Columns}
use Rattle.map.specs.Rows.{Pair, peers_of, pairs_of, peers, rising, well_rowed, is_map}
use Rattle.map.proofs.Laws.{peers_of-length, pairs_of-length, peers-pairs_of, is_map_rows, well_rowed-rising, well_rowed-whole}
use Rattle.record.specs.Record.{rows, row_of, content_of, well_shaped}
use Rattle.record.proofs.Laws.{start_first, start_last, content-least, content-greatest, third-start, start-most}
use Rattle.point.specs.Point.{Through, Includes, Witness, AnchorLink, PointInfo, through_map, anchor_link}
use Rattle.point.specs.Reading.{point_id_at, read_link, read_role, maps_ok, point_in, read_point, read_point_in}
use Rattle.point.specs.Code.{point_of, link_in, Reads}
use Rattle.point.specs.declared.data.PointRole.{PointRole}
use Rattle.point.specs.declared.data.AnchorStageRole.{AnchorStageRole}
use Rattle.point.specs.declared.data.AnchorStageRole.TheVariants.{Proof, Trigger}
use Rattle.point.specs.declared.info.PointInfo as code-info

-- ---- what a record of the right shape holds

module _ (s : List ℕ) (w : well_shaped s ≡ true) where
  pub id_long : 68 ≤ length (content_of s 0)
  unfolding row_of rows
  id_long = content-least s w 0 (omega arith)

  pub payload_long : 8 ≤ length (content_of s 1)
  unfolding row_of rows
  payload_long = content-least s w 1 (omega arith)

  pub proof_long : 34 ≤ length (content_of s 5)
  unfolding row_of rows
  proof_long = content-least s w 5 (omega arith)

  pub trigger_long : 34 ≤ length (content_of s 6)
  unfolding row_of rows
  trigger_long = content-least s w 6 (omega arith)

  pub role_long : 1 ≤ length (content_of s 7)
  unfolding row_of rows
  role_long = content-least s w 7 (omega arith)

  pub times_long : 16 ≤ length (content_of s 8)
  unfolding row_of rows
  times_long = content-least s w 8 (omega arith)

pub ruleset shape_facts = (start_first, third-start, start_last, start-most, id_long, payload_long, proof_long, trigger_long, role_long, times_long)

-- ---- a point that was read

-- a map's bytes and its pairs: whole rows, at most 255, whose peers rise
pub record MapOf (s : List ℕ) (l : List Pair) : Type 0 where
  pub are : l ≡ pairs_of s
  pub rise : rising (peers l) ≡ true
  pub few : length l ≤ 255
  pub whole : length s ≡ 64 * length l

-- a set's bytes and its peers
pub record SetOf (s l : List ℕ) : Type 0 where
  pub are : l ≡ peers_of 32 s
  pub rise : rising l ≡ true
  pub few : length l ≤ 255
  pub whole : length s ≡ 32 * length l

-- what a record gives that was read as a point
pub record Readable (s : List ℕ) (p : PointInfo) : Type 0 where
  pub shaped : well_shaped s ≡ true
  pub includes : MapOf (content_of s 2) p.includes
  pub witness : MapOf (content_of s 3) p.witness
  pub evidence : SetOf (content_of s 4) p.evidence

map_of : (s : List ℕ) (l : List Pair) → l ≡ pairs_of s → is_map Columns s ≡ true → length s ≤ 16320 → MapOf s l
map_of s l e m h =
    let w = sym (is_map_rows s) ∙ m in
    let n : length s ≡ 64 * length (pairs_of s) = omega (arith, well_rowed-whole 64 s w, pairs_of-length s, peers_of-length 64 s) in
    record { are = e; rise = rw (e, peers-pairs_of s) (well_rowed-rising 64 s w); few = rw e (omega arith); whole = rw e n }

set-of : (s l : List ℕ) → l ≡ peers_of 32 s → well_rowed 32 s ≡ true → length s ≤ 8160 → SetOf s l
set-of s l e w h =
    let n = well_rowed-whole 32 s w in
    record { are = e; rise = rw e (well_rowed-rising 32 s w); few = rw e (omega arith); whole = rw e (sym n) }

-- what a point has of its record, whatever its links and its role
pub record PartsOf (s : List ℕ) (a b : Option AnchorLink) (r : Option PointRole) (p : PointInfo) : Type 0 where
  pub id : p.id ≡ point_id_at (content_of s 0) 0
  pub payload_len : p.payload_len ≡ little_at 4 (content_of s 1) 0
  pub payload_bytes : p.payload_bytes ≡ little_at 4 (content_of s 1) 4
  pub includes : p.includes ≡ pairs_of (content_of s 2)
  pub witness : p.witness ≡ pairs_of (content_of s 3)
  pub evidence : p.evidence ≡ peers_of 32 (content_of s 4)
  pub proof : a ≡ Some p.anchor_proof
  pub trigger : b ≡ Some p.anchor_trigger
  pub role : r ≡ Some p.role
  pub time : p.time ≡ little_at 8 (content_of s 8) 0
  pub anchor_time : p.anchor_time ≡ little_at 8 (content_of s 8) 8

-- what is read of a record past its tests: up to its links and its role
abbrev pub reads : Arrangement → List ℕ → Option AnchorLink → Option AnchorLink → Option PointRole → Option PointInfo
reads a s x y r = and_then x (λ p. and_then y (λ t. option_map (point_in a s p t) r))

parts_with : (s : List ℕ) (a b : Option AnchorLink) (r : Option PointRole) (p : PointInfo) → reads Columns s a b r ≡ Some p → PartsOf s a b r p
parts_with s None b r p e = none-some e
parts_with s (Some x) None r p e = none-some e
parts_with s (Some x) (Some y) None p e = none-some e
parts_with s (Some x) (Some y) (Some r) p e =
    record {
      id = cc;
      payload_len = cc;
      payload_bytes = cc;
      includes = cc;
      witness = cc;
      evidence = cc;
      proof = cc;
      trigger = cc;
      role = cc;
      time = cc;
      anchor_time = cc;
    }

pub parts-of : (s : List ℕ) (p : PointInfo) → read_point s ≡ Some p → PartsOf s (read_link (content_of s 5)) (read_link (content_of s 6)) (read_role (content_of s 7)) p
unfolding read_point_in
parts-of s p h = parts_with s _ _ (read_role (content_of s 7)) p (picked (well_shaped s && maps_ok Columns s) _ p h).1

pub readable : (s : List ℕ) (p : PointInfo) → read_point s ≡ Some p → Readable s p
unfolding read_point_in maps_ok row_of rows
readable s p h =
    let all = picked (well_shaped s && maps_ok Columns s) _ p h in
    let w = (and-eq-true_iff (well_shaped s) _).0 all.0 in
    let i = (and-eq-true_iff (is_map Columns (content_of s 2)) _).0 w.1 in
    let j = (and-eq-true_iff (is_map Columns (content_of s 3)) _).0 i.1 in
    let m = parts-of s p h in
    record {
      shaped = w.0;
      includes = map_of _ _ m.includes i.0 (content-greatest s w.0 2 (omega arith));
      witness = map_of _ _ m.witness j.0 (content-greatest s w.0 3 (omega arith));
      evidence = set-of _ _ m.evidence j.1 (content-greatest s w.0 4 (omega arith));
    }

-- the map that a link goes through rises
pub through_rises : (s : List ℕ) (p : PointInfo) (t : Through) → read_point s ≡ Some p → rising (peers (through_map t p)) ≡ true
through_rises s p (Includes x) h = (readable s p h).includes.rise
through_rises s p (Witness x) h = (readable s p h).witness.rise

pub through_few : (s : List ℕ) (p : PointInfo) (t : Through) → read_point s ≡ Some p → length (through_map t p) ≤ 255
through_few s p (Includes x) h = (readable s p h).includes.few
through_few s p (Witness x) h = (readable s p h).witness.few

-- the same of the record of a point of the code
module _ (s : List ℕ) (i : code-info.PointInfo) (r : Reads s i) where
  pub reads_shaped : well_shaped s ≡ true
  reads_shaped = (readable s _ r.read).shaped

  pub includes_rise : rising (peers (pairs_of (content_of s 2))) ≡ true
  includes_rise = (readable s _ r.read).includes.rise

  pub includes_few : length (pairs_of (content_of s 2)) ≤ 255
  includes_few = (readable s _ r.read).includes.few

  pub read_rises : (t : Through) → rising (peers (through_map t (point_of s i))) ≡ true
  read_rises t = through_rises s _ t r.read

  pub read_few : (t : Through) → length (through_map t (point_of s i)) ≤ 255
  read_few t = through_few s _ t r.read

pub ruleset read_facts = (shape_facts, reads_shaped, includes_rise, includes_few, read_rises, read_few)

-- the link of a role, of the code's point and of the point that it stands for
pub link_in_lem : (g : AnchorStageRole) (s : List ℕ) (i : code-info.PointInfo) → link_in g i ≡ anchor_link g (point_of s i)
link_in_lem Proof s i = refl
link_in_lem Trigger s i = refl
