-- `network_forces` meets its contract.
use Rattle.rules.proofs.Forced.{forced}
use Rattle.rules.proofs.network_forces.Goals as goal

pub returns : goal.returns
returns c = forced
