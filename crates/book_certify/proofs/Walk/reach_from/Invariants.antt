-- `reach_from` meets its contract: a cursor goes over the depth and one over those above it (`Passing`).
use Prim.Native.Nat.{◌+◌}
use Rattle.point.specs.Code.{point_id_of}
use Rattle.schedule.specs.Code.{settings_of}
use Rattle.book_certify.proofs.Passing.{Passing}
use Rattle.book_certify.proofs.Walk.reach_from.Given as goal

abbrev pub invariant-loop-j : goal.invariant-loop-j
invariant-loop-j l =
    Passing (settings_of l.by.conf) l.by.book.now l.by.index.now (point_id_of l.by.prev) l.depth l.deps l.initial.self l.left l.above l.self

abbrev pub decreases-loop-j : goal.decreases-loop-j
decreases-loop-j l = l.left + l.above
