-- `record::record_end` meets its contract.
use Rattle.std.proofs.Common.{◌≡◌, sym, ◌∙◌, arith, add-one}
use Rattle.record.specs.Record.{field_ok, rows, row_of}
use Rattle.record.proofs.Laws.{next-within, fitting, end-start, end-last, walk_off, walk_past}
use Rattle.record.proofs.record_end.Goals as goal
use Rattle.record.proofs.record_end.Goals.{After-field_ok}

-- the row is the table's
tested : (c : After-field_ok) → c.field_ok.result ≡ field_ok (row_of c.loop-row.row-index) c.args.s.now c.loop-row.at
unfolding row_of rows
tested c = c.field_ok.ensures

pub loop-row-init : goal.loop-row-init
loop-row-init c = (omega arith, end-start _)

pub returns-then-not-field_ok : goal.returns-then-not-field_ok
returns-then-not-field_ok c =
    sym (walk_off _ _ _ c.loop-row.invariant.1 (omega arith) (sym (tested (goal.at.returns-then-not-field_ok c).After-field_ok) ∙ c.if-not-field_ok.true))

pub field_end-at-requires : goal.field_end-at-requires
field_end-at-requires c = (fitting _ _ _ (sym c.field_ok.ensures ∙ c.if-not-field_ok.false)).end

pub loop-row-preserved : goal.loop-row-preserved
loop-row-preserved c = (
  omega (arith, next-within),
  rw (add-one, c.field_end-at.ensures) (walk_past _ _ _ c.loop-row.invariant.1 (omega arith) (sym (tested (goal.at.loop-row-preserved c).After-field_ok) ∙ c.if-not-field_ok.false)),
)

pub returns : goal.returns
returns c = let e : c.loop-row.row-index ≡ 9 = omega arith in cc (end-last c.args.s.now c.loop-row.at)
