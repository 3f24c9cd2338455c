-- `answers_told` meets its contract.
use Rattle.rules.proofs.Told.{told}
use Rattle.rules.proofs.answers_told.Goals as goal

pub returns : goal.returns
returns c = told
