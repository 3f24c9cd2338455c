use Rattle.std.proofs.Common.{arith, ap, ◌∙◌, ◌+◌, take, set}
use Rattle.row_order.proofs.Laws.{one_put}
use Rattle.row_order.proofs.put.Goals as goal

pub returns : goal.returns
returns c =
    ap (λ l. take (c.args.i + 1) (set l c.args.at c.args.i)) c.copy_within.ensures.after
    ∙ one_put c.args.order.now c.args.at c.args.i c.requires.0 (omega (arith, c.told-order))
