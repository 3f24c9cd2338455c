-- `put_run` meets its contract. The invariant: the first `j` bytes are in place (`paste`).
use mathlib.Core.Path.{◌≡◌}
use lib.ListN.{length}
use lib.Seq.{paste}
use Rattle.write.proofs.put_run.Given as goal

abbrev pub invariant-loop-j : goal.invariant-loop-j
invariant-loop-j l = (length l.out ≡ length l.initial.out) × (l.out ≡ paste l.initial.out l.at l.src l.j)
