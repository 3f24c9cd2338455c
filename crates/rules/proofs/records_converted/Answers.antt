use Rattle.rules.proofs.Converted.{records}
use Rattle.rules.proofs.records_converted.Goals as goal

pub returns : goal.returns
returns c = records
