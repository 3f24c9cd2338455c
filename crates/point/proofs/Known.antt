-- Laws of records whose shape is known: when they are points, and what those that are points give.
use Rattle.std.specs.Prelude.{Option, None, Some, is_some}
use Prim.Native.Nat.{ℕ}
use native.Mathlib.Omega.{arith}
use mathlib.Core.Path.{◌≡◌, refl}
use mathlib.Core.Bool.{Bool, true, false, ◌&&◌}
use mathlib.Core.List.{List}
use lib.Dec.{leb}
use Rattle.base.specs.Base.{pick}
use Rattle.base.proofs.Impossible.{impossible}
use Rattle.parts.specs.Bytes.{little_at}
use Rattle.map.specs.declared.Arrangement.{Arrangement}
use Rattle.map.specs.declared.Arrangement.TheVariants.{Columns}
use Rattle.record.specs.Record.{content_of, well_shaped}
use Rattle.point.specs.Point.{AnchorLink, PointInfo, in_domain}
use Rattle.point.specs.declared.data.PointRole.{PointRole}
use Rattle.point.specs.Reading.{point_id_at, read_link, read_role, maps_ok, read_point, read_point_in}
use Rattle.point.proofs.Laws.{shape_facts, reads, parts-of}

-- a choice that gives something
module _ {A : Type 0} where
  pub picked-some : (b : Bool) (x : A) → is_some (pick b (Some x) None) ≡ true → pick b (Some x) None ≡ Some x
  picked-some true x h = refl
  picked-some false x h = impossible (cc)

module _ (g : Arrangement) (s : List ℕ) (w m : Bool) (a b : Option AnchorLink) (r : Option PointRole) where
  abbrev choice : Option PointInfo
  choice = pick (w && m) (reads g s a b r) None

  choice_some : is_some choice ≡ (w && (m && (is_some a && (is_some b && is_some r))))
  choice_some = grind arith

  choice_read : is_some choice ≡ true → choice ≡ reads g s a b r
  choice_read h = grind arith

-- a record is a point in an arrangement exactly if it has the shape, and its maps, its links and its role can be read
pub some_in : (g : Arrangement) (s : List ℕ) →
    is_some (read_point_in g s)
    ≡ (well_shaped s && (maps_ok g s && (is_some (read_link (content_of s 5)) && (is_some (read_link (content_of s 6)) && is_some (read_role (content_of s 7))))))
unfolding read_point_in
some_in g s = choice_some g s (well_shaped s) (maps_ok g s) (read_link (content_of s 5)) (read_link (content_of s 6)) (read_role (content_of s 7))

module _ (s : List ℕ) where
  pub point_some : is_some (read_point s)
      ≡ (well_shaped s && (maps_ok Columns s && (is_some (read_link (content_of s 5)) && (is_some (read_link (content_of s 6)) && is_some (read_role (content_of s 7))))))
  point_some = some_in Columns s

  module _ (h : is_some (read_point s) ≡ true) where
    pub point_shaped : well_shaped s ≡ true
    point_shaped = grind (arith, point_some)

    pub point_proof : is_some (read_link (content_of s 5)) ≡ true
    point_proof = grind (arith, point_some)

    pub point_trigger : is_some (read_link (content_of s 6)) ≡ true
    point_trigger = grind (arith, point_some)

    pub point_role : is_some (read_role (content_of s 7)) ≡ true
    point_role = grind (arith, point_some)

    pub point_read : read_point s ≡ reads Columns s (read_link (content_of s 5)) (read_link (content_of s 6)) (read_role (content_of s 7))
    unfolding read_point_in
    point_read = choice_read Columns s (well_shaped s) (maps_ok Columns s) (read_link (content_of s 5)) (read_link (content_of s 6)) (read_role (content_of s 7)) h

pub ruleset point_facts = (shape_facts, point_shaped, point_proof, point_trigger, point_role, point_read)

-- what the domain asks of a point stands in its record
pub domain_by : (s : List ℕ) (q : PointInfo) → read_point s ≡ Some q →
    in_domain q
    ≡ (leb 4 (little_at 4 (content_of s 0) 0)
    && (leb (little_at 4 (content_of s 0) 0) 2147483647
    && (leb (little_at 8 (content_of s 8) 0) 9223372036854775807
    && leb (little_at 8 (content_of s 8) 8) 9223372036854775807)))
unfolding in_domain point_id_at
domain_by s q h = let m = parts-of s q h in rw (m.id, m.time, m.anchor_time)
