-- `any_order` meets its contract.
use Rattle.rules.proofs.AnyOrder.{any_order}
use Rattle.rules.proofs.any_order.Goals as goal

pub returns : goal.returns
returns c = any_order
