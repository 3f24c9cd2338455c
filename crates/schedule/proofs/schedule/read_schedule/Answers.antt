-- `schedule::schedule::read_schedule` meets its contract.
use Rattle.std.proofs.Common.{arith}
use Rattle.schedule.proofs.Laws.{read_empty, read_fallen, read_unknown, read_whole}
use Rattle.schedule.proofs.schedule.read_schedule.Goals as goal
use Rattle.schedule.proofs.schedule.read_schedule.Goals.{then-count-eq0-via-then-count-eq0, then-count-eq0-via-else-count-eq0+then-not-are_firsts_rising}

pub returns-then-count-eq0-clause-same : goal.returns-then-count-eq0-clause-same
returns-then-count-eq0-clause-same c = elim c.then-count-eq0.branch [
  | then-count-eq0-via-then-count-eq0 w ↦ read_empty _ _ c.read_spans-count.ensures w.if-count-eq0.true
  | then-count-eq0-via-else-count-eq0+then-not-are_firsts_rising w ↦ read_fallen _ _ c.read_spans-count.ensures w.if-not-are_firsts_rising.ensures
]

pub returns-in_err-last_known-clause-same : goal.returns-in_err-last_known-clause-same
returns-in_err-last_known-clause-same c =
    rw c.from_residual.ensures
    (read_unknown _ _ c.read_spans-count.ensures (omega arith) c.if-count-eq0.false c.if-not-are_firsts_rising.ensures c.in_err-last_known.ensures)

pub returns-clause-same : goal.returns-clause-same
returns-clause-same c = read_whole _ _ c.read_spans-count.ensures (omega arith) c.if-count-eq0.false c.if-not-are_firsts_rising.ensures _ c.in_ok-last_known.ensures
