-- `put_moved` meets its contract: the blocks before k stand where they belong.
use Rattle.convert.proofs.Laws.{Moving}
use Rattle.convert.proofs.put_moved.Given as goal

abbrev pub invariant-loop-k : goal.invariant-loop-k
invariant-loop-k l = Moving l.from l.map l.initial.out l.at l.k l.out
