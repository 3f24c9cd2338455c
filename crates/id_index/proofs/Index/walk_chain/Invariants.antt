-- `walk_chain`: the chain goes down through the ids of the id's bucket, and from the link on none is the id (`Search`).
use Prim.Native.Nat.{◌+◌, ◌≤◌}
use Rattle.point.specs.Code.{point_id_of}
use Rattle.id_index.proofs.Laws.{Search}
use Rattle.id_index.proofs.Index.walk_chain.Given as goal

abbrev pub invariant-loop-j : goal.invariant-loop-j
invariant-loop-j l = record {
  search : Search l.s l.self l.n (point_id_of l.id) l.link;
  few : l.passed + l.link ≤ l.n;
}

abbrev pub decreases-loop-j : goal.decreases-loop-j
decreases-loop-j l = l.link
