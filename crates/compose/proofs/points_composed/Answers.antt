-- `points_composed` meets its contract.
use Rattle.compose.proofs.Composed.{points_composed}
use Rattle.compose.proofs.points_composed.Goals as goal

pub returns : goal.returns
returns c = points_composed
