-- `schedule::schedule::read_spans` meets its contract. The invariant: after the spans that are stored stands what is left to read from `end` on.
use Rattle.schedule.proofs.Laws.{Filled}
use Rattle.schedule.proofs.schedule.read_spans.Given as goal

abbrev pub invariant-loop-count : goal.invariant-loop-count
invariant-loop-count l = Filled l.s l.spans l.count l.end
