-- `map::search` meets its contract. The invariant: `lo` and `hi` bracket the peer (`Bracket`). The measure is `hi - lo`.
use Prim.Native.Nat.{◌-◌}
use Rattle.parts.specs.Code.{number}
use Rattle.map.specs.Rows.{peers_of}
use Rattle.map.proofs.Laws.{Bracket}
use Rattle.map.proofs.search.Given as goal

abbrev pub invariant-loop-lo : goal.invariant-loop-lo
invariant-loop-lo l = Bracket (peers_of l.width l.rows) (number l.peer) l.lo l.hi

abbrev pub decreases-loop-lo : goal.decreases-loop-lo
decreases-loop-lo l = l.hi - l.lo
