-- `positions`: those before i are written.
use Rattle.std.proofs.Common.{◌≡◌, take, length}
use Rattle.base.specs.Base.{tabulate}
use Rattle.map.specs.Risen.{itself}
use Rattle.row_order.proofs.positions.Given as goal

abbrev pub invariant-loop-i : goal.invariant-loop-i
invariant-loop-i l = record {
  long : length l.order ≡ 255;
  written : take l.i l.order ≡ tabulate itself l.i 0;
}
