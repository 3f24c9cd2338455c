-- `begin_points` meets its contract: the schedule's bytes are copied.
use Rattle.tally.proofs.Laws.{first-schedule}
use Rattle.tally.proofs.points.begin_points.Goals as goal

pub returns-clause-copied : goal.returns-clause-copied
returns-clause-copied c =
    let a = c.args in
    let l = c.requires.held in
    first-schedule a.schedule.now _ a.buf.now a.w a.start l.0 l.1 l.2 c.requires.begins.0 c.put_slice.ensures
