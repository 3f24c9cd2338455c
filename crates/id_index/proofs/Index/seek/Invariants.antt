-- `seek` meets its contract: the id stands between those below `low` and those from `high` on (`Between`).
use Prim.Native.Nat.{◌-◌}
use Rattle.point.specs.Code.{point_id_of}
use Rattle.id_index.specs.Code.{Between}
use Rattle.id_index.proofs.Index.seek.Given as goal

abbrev pub invariant-loop-low : goal.invariant-loop-low
invariant-loop-low l = Between l.s l.self l.n (point_id_of l.id) l.low l.high

abbrev pub decreases-loop-low : goal.decreases-loop-low
decreases-loop-low l = l.high - l.low
