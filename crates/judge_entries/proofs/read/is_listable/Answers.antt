-- `is_listable` meets its contract: whether the point lies in the domain doesn't depend on its record.
use native.Mathlib.Omega.{arith}
use Rattle.std.proofs.lemmas.Grind.{common_steps}
use Rattle.rules.specs.List.{is_listable}
use Rattle.judge_entries.proofs.read.is_listable.Goals as goal

pub returns-then-is_named : goal.returns-then-is_named
unfolding is_listable
returns-then-is_named c = let d = c.is_in_domain.ensures c.args.point.now.rec.now in grind (arith, common_steps)

pub returns-else-is_named : goal.returns-else-is_named
unfolding is_listable
returns-else-is_named c = let d = c.is_in_domain.ensures c.args.point.now.rec.now in grind (arith, common_steps)
