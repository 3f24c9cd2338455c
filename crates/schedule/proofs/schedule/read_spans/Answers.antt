-- `schedule::schedule::read_spans` meets its contract.
use Rattle.std.proofs.Common.{arith}
use Rattle.schedule.proofs.Laws.{filled-full, filled-end, filled-step}
use Rattle.schedule.proofs.schedule.read_spans.Goals as goal

pub returns-in_default : goal.returns-in_default
returns-in_default c = filled-end _ _ _ _ c.loop-count.invariant (omega arith) c.in_default.ensures

pub loop-count-preserved : goal.loop-count-preserved
loop-count-preserved c = filled-step _ _ _ _ c.loop-count.invariant (omega arith) _ _ c.in-Some.ensures c.next-end.ensures

pub returns : goal.returns
returns c = filled-full _ _ _ _ c.loop-count.invariant (omega arith)
