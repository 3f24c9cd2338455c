-- `place` meets its contract: `lo` and `hi` bracket the row's peer among those of the order (`Bracket`). The measure is `hi - lo`.
use Rattle.std.proofs.Common.{◌-◌, map}
use Rattle.map.specs.Rows.{peer_at}
use Rattle.map.proofs.Laws.{Bracket}
use Rattle.row_order.proofs.place.Given as goal

abbrev pub invariant-loop-lo : goal.invariant-loop-lo
invariant-loop-lo l = Bracket (map (peer_at l.rows) l.order) (peer_at l.rows l.i) l.lo l.hi

abbrev pub decreases-loop-lo : goal.decreases-loop-lo
decreases-loop-lo l = l.hi - l.lo
