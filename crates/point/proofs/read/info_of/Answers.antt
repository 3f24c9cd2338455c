-- `info_of` meets its contract: each field is what the reader's definition says, since the record is known to be a point.
use native.Mathlib.Omega.{arith}
use Rattle.std.proofs.lemmas.Grind.{common_steps}
use Rattle.point.proofs.Known.{point_facts}
use Rattle.point.proofs.read.info_of.Goals as goal

pub returns : goal.returns
returns c = record { read = grind (arith, common_steps, point_facts); includes = omega arith; witness = omega arith; evidence = omega arith }
