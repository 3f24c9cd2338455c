-- `rising_front`: the peers before row i rise.
use Rattle.std.proofs.Common.{◌≡◌, true}
use Rattle.base.specs.Base.{tabulate}
use Rattle.map.specs.Rows.{peer_at, rising}
use Rattle.row_order.proofs.rising_front.Given as goal

abbrev pub invariant-loop-i : goal.invariant-loop-i
invariant-loop-i l = rising (tabulate (peer_at l.rows) l.i 0) ≡ true
