-- `record::next_if_ok` meets its contract: the walk goes on where a head has room after a field that fits, and else there is no record.
use Rattle.std.proofs.Common.{arith, leb-true, leb-false}
use Rattle.record.specs.Record.{rows, row_of}
use Rattle.record.proofs.Laws.{walk_unfit, walk_step}
use Rattle.record.proofs.next_if_ok.Goals as goal

pub returns-in_err-end : goal.returns-in_err-end
unfolding row_of rows
returns-in_err-end c = rw c.from_residual.ensures (walk_unfit _ c.args.k _ c.requires.at_value (omega arith) c.in_err-end.ensures)

pub returns : goal.returns
unfolding row_of rows
returns c =
    rw c.then_some.ensures
    (walk_step _ c.args.k _ _ c.requires.at_value c.requires.k_bound c.in_ok-end.ensures _ (λ t. omega (arith, leb-true _ _ t)) (λ f. omega (arith, leb-false _ _ f)))
