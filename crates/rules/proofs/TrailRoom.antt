-- A trail of eight bytes more than the list has room for all rows (Room.antt): a dropped entry ends the direct list, so there is one at most.
use Rattle.std.specs.Prelude.{Some}
use Prim.Native.Nat.{ℕ, ◌+◌, ◌*◌, ◌≤◌}
use native.Mathlib.Omega.{arith}
use lib.Dec.{leb, eqb}
use lib.ListN.{length, length-append}
use mathlib.Core.Path.{◌≡◌, refl, ap}
use mathlib.Core.Bool.{Bool, false, not, ◌||◌}
use mathlib.Core.List.{List, [], ◌∷◌, ◌++◌}
use Rattle.base.specs.Base.{when, is_empty}
use Rattle.point.specs.Point.{PointInfo}
use Rattle.schedule.specs.Settings.{Settings}
use Rattle.reasons.specs.Invalid.{DependencyRoundDropped}
use Rattle.rules.specs.DagPoint.{Entry, IndirectEntry, point_view, is_dropped}
use Rattle.rules.specs.List.{Listed, read_list, read_list_in, directs, indirects}
use Rattle.rules.specs.Validate.{nothing, entry_findings, indirect_findings}
use Rattle.rules.specs.Judge.{Tested, refused, admitted, Before, answered, needed, before}
use Rattle.rules.specs.Trail.{direct_rows, indirect_rows, list_rows, trail, trail_over, trail_from, trail_with}
use Rattle.rules.proofs.Folds.{direct_trail, indirect_trail, direct-trail, indirect-trail}
use Rattle.rules.proofs.Rows.{reasons-length, direct-reasons, indirect-reasons}
use Rattle.rules.proofs.FewReasons.{few-when, few-pick}
use Rattle.rules.proofs.Room.{entry-few, target_entry-few, total, most_direct, most_indirect, most_listed}
use Rattle.rules.proofs.Room.{directs-most, indirects-most, list-room, ruled-few, call-room}

module _ (c : Settings) (required : Bool) (p : PointInfo) where
  direct_trail-few : (es : List Entry) (set : Bool) → length (direct_trail c required (point_view p) set es) ≤ total most_direct es + 1
  unfolding direct_trail total
  direct_trail-few [] set = omega arith
  direct_trail-few (e ∷ l) set =
      let own = (entry_findings c required (point_view p) e).trail in
      let rest = direct_trail c required (point_view p) (set || not (is_empty own)) l in
      few-pick _ (is_dropped e.state) (when (not set) DependencyRoundDropped) (own ++ rest)
      (omega (arith, few-when (not set) DependencyRoundDropped))
      (omega (arith, length-append own rest, entry-few c required (point_view p) e, direct_trail-few l (set || not (is_empty own))))

  indirect_trail-few : (ts : List IndirectEntry) → length (indirect_trail c p ts) ≤ total most_indirect ts
  unfolding indirect_trail total
  indirect_trail-few [] = omega arith
  indirect_trail-few (a ∷ l) =
      let own = (indirect_findings c p a).trail in
      omega (arith, length-append own (indirect_trail c p l), target_entry-few c p a, indirect_trail-few l)

  direct_rows-few : (es : List Entry) → length (direct_rows c required (point_view p) 0 [] es) ≤ total most_direct es + 1
  direct_rows-few es =
      let rows = direct_rows c required (point_view p) 0 [] es in
      let e = ap length (direct-reasons c required (point_view p) es 0 [] nothing refl) in
      let d = ap length (direct-trail c required (point_view p) es nothing) in
      omega (arith, reasons-length rows, e, d, direct_trail-few es false)

  indirect_rows-few : (ts : List IndirectEntry) → length (indirect_rows c p 0 [] ts) ≤ total most_indirect ts
  indirect_rows-few ts =
      let rows = indirect_rows c p 0 [] ts in
      let e = ap length (indirect-reasons c p ts 0 [] nothing refl) in
      let d = ap length (indirect-trail c p ts nothing) in
      omega (arith, reasons-length rows, e, d, indirect_trail-few ts)

  list_rows-few : (l : List Listed) → length (list_rows c required p (directs l) (indirects l)) ≤ total most_listed l + 1
  unfolding list_rows
  list_rows-few l =
      let direct = direct_rows c required (point_view p) 0 [] (directs l) in
      few-pick _ (is_empty direct) (indirect_rows c p 0 [] (indirects l)) direct
      (omega (arith, indirect_rows-few (indirects l), indirects-most l))
      (omega (arith, direct_rows-few (directs l), directs-most l))

  -- of a list that reads
  pub list_rows-room : (s : List ℕ) (l : List Listed) → read_list s ≡ Some l → 8 * length (list_rows c required p (directs l) (indirects l)) ≤ length s + 8
  unfolding read_list_in
  list_rows-room s l h = omega (arith, list_rows-few l, list-room 65535 false s l h)

  trail-few : (presence : ℕ) (l : List Listed) → length (trail c required presence p (directs l) (indirects l)) ≤ total most_listed l + 1
  unfolding trail
  trail-few presence l = ruled-few p presence (total most_listed l) (list_rows c required p (directs l) (indirects l)) (list_rows-few l)

pub trail_room : (leader presence : ℕ) (list : List ℕ) (t : Tested) → 8 * length (trail_with leader presence list t) ≤ length list + 8
unfolding trail_with directs indirects total
trail_room leader presence list (refused n) = omega arith
trail_room leader presence list (admitted i) = go (before i.settings i.schedule (eqb leader 1) i.point)
  where
    go : (b : Before) → 8 * length (trail_from i.settings presence i.point list b) ≤ length list + 8
    go (answered a) = omega arith
    go (needed required) =
        call-room (trail_over i.settings required presence i.point) (trail i.settings required presence i.point [] []) refl
        (trail-few i.settings required i.point presence)
        (trail-few i.settings required i.point presence [])
        (leb 2 presence)
        list
