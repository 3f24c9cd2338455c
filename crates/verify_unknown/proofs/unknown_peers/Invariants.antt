-- `unknown::unknown_peers` meets its contract: the invariant is `Walked`, and the measure is what is left of the rows and of the scheduled peers.
use Prim.Native.Nat.{◌+◌, ◌-◌}
use lib.ListN.{length}
use Rattle.map.specs.Rows.{peers_of}
use Rattle.verify_unknown.proofs.Laws.{Walked}
use Rattle.verify_unknown.proofs.unknown_peers.Given as goal

abbrev pub invariant-loop-i : goal.invariant-loop-i
invariant-loop-i l = Walked (peers_of 32 l.scheduled) (peers_of l.width l.rows) l.initial.out l.out l.i l.j l.found

abbrev pub decreases-loop-i : goal.decreases-loop-i
decreases-loop-i l = (l.n - l.i) + (length (peers_of 32 l.scheduled) - l.j)
