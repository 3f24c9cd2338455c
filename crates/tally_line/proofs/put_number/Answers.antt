-- `put_number` meets its contract: a byte after a number.
use native.Mathlib.Omega.{arith}
use Rattle.tally_line.specs.Text.{decimal}
use Rattle.tally_line.proofs.Laws.{joined}
use Rattle.tally_line.proofs.put_number.Goals as goal

pub returns-clause-put : goal.returns-clause-put
returns-clause-put c =
    let a = c.args in
    joined a.out.now a.at (decimal a.n) _ _ _ _ _ c.put_decimal-end.ensures.put c.put.ensures (omega arith)
