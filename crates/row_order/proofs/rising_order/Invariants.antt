-- `rising_order`: the rows before i are in order (`OrderOf`).
use Rattle.std.proofs.Common.{Some}
use Rattle.row_order.specs.Order.{OrderOf}
use Rattle.row_order.proofs.rising_order.Given as goal

abbrev pub invariant-loop-i : goal.invariant-loop-i
invariant-loop-i l = OrderOf l.rows l.i (Some l.order)
