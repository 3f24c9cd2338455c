-- `read_entries` meets its contract: entry by entry (`Reading`), each turn goes on in the book.
use Prim.Native.Nat.{◌-◌}
use lib.ListN.{length}
use Rattle.book_read.specs.Code.{Reading}
use Rattle.book_read.proofs.read_entries.Given as goal

abbrev pub invariant-loop-index : goal.invariant-loop-index
invariant-loop-index l = Reading l.book l.end l.index

abbrev pub decreases-loop-index : goal.decreases-loop-index
decreases-loop-index l = length l.book - l.end
