-- `records_joined` meets its contract.
use Rattle.rules.proofs.Joined.{joined}
use Rattle.rules.proofs.records_joined.Goals as goal

pub returns : goal.returns
returns c = joined
