-- `seek` meets its contract: the middle one of those in question is the id, or what lies on one side of it is passed over.
use native.Mathlib.Omega.{arith}
use Rattle.id_index.proofs.Laws.{between_above, between_below}
use Rattle.id_index.proofs.Index.seek.Goals as goal

pub loop-low-preserved-in-Less : goal.loop-low-preserved-in-Less
loop-low-preserved-in-Less c = between_above c.requires.1.1 c.loop-low.invariant (omega arith) (omega arith) (grind (arith, c.in-Less.ensures))

pub loop-low-preserved : goal.loop-low-preserved
loop-low-preserved c = between_below c.requires.1.1 c.loop-low.invariant (omega arith) (omega arith) (grind (arith, c.in-Greater.ensures))
