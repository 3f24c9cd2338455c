-- `rules_fired` meets its contract.
use Rattle.rules.proofs.Fired.{fired}
use Rattle.rules.proofs.rules_fired.Goals as goal

pub returns : goal.returns
returns c = fired
