-- `walk` meets its contract. The invariant of the entries is `Gone`, that of the maps `Marking`, with their laws.
use Prim.Native.Nat.{◌-◌}
use mathlib.Core.List.{List}
use lib.ListN.{length}
use Rattle.point.specs.Point.{PointId}
use Rattle.point.specs.Code.{point_id_of}
use Rattle.point.specs.Said.{said}
use Rattle.judge_mismatch.specs.Maps.{MapsMarked}
use Rattle.judge_mismatch.proofs.Laws.{Marking, Gone}
use Rattle.judge_mismatch.proofs.walk.walk.Given as goal

abbrev pub invariant-loop-map : goal.invariant-loop-map
invariant-loop-map l = (before : List PointId) → MapsMarked (said l.point) before l.initial.maps → Marking (said l.point) (point_id_of l.id) before l.map-index l.found l.maps

abbrev pub invariant-entries : goal.invariant-entries
invariant-entries l = Gone (said l.point) l.list.bytes.now l.initial.maps l.maps l.dropped l.left

abbrev pub decreases-entries : goal.decreases-entries
decreases-entries l = length l.left.list.now - l.left.at
