-- `check_genesis_structure` meets its contract: `==` of the previous digest and zeros.
use Rattle.std.proofs.Common.{rules}
use Rattle.std.proofs.lemmas.Grind.{common_steps}
use native.Mathlib.Omega.{arith}
use Rattle.rules.specs.Verify.{genesis_structure_rows}
use Rattle.verify_well_formed.proofs.Laws.{point_rows, zero_digest}
use Rattle.verify_well_formed.proofs.check_genesis_structure.Goals as goal

pub returns-then-ne-2 : goal.returns-then-ne-2
unfolding genesis_structure_rows
returns-then-ne-2 c = grind (arith, common_steps, point_rows, zero_digest c.prev_digest.result (search rules))

pub returns : goal.returns
unfolding genesis_structure_rows
returns c = grind (arith, common_steps, point_rows, zero_digest c.prev_digest.result (search rules))
