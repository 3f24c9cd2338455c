-- `Kept::entry` keeps the ghost field of an entry: its state was read from the point's record.
use Rattle.book_layout.proofs.read.Kept.entry.Goals as goal

pub invariant_of-result : goal.invariant_of-result
invariant_of-result c = record { read = c.dag_point.ensures.from _ c.args.self.now.point.reads }
