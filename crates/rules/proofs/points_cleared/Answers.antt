-- `points_cleared` meets its contract.
use Rattle.rules.proofs.Cleared.{cleared}
use Rattle.rules.proofs.points_cleared.Goals as goal

pub returns : goal.returns
returns c = cleared
