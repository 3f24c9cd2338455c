-- `put_blocks` meets its contract: the rows before k stand where they belong.
use Rattle.compose.proofs.Fields.{Placed}
use Rattle.compose.proofs.put.put_blocks.Given as goal

abbrev pub invariant-loop-k : goal.invariant-loop-k
invariant-loop-k l = Placed l.rows l.first l.order l.initial.out l.at l.k l.out
