-- `direct_reason` meets its contract, from what the entry gives.
use Rattle.force_rows.proofs.EntryLaws.{told_dropped, told_found}
use Rattle.force_rows.proofs.entry.direct_reason.Goals as goal

pub returns-then-gives : goal.returns-then-gives
returns-then-gives c = told_dropped _ _ _ _ _ c.if-gives.true c.direct_gives-gives.ensures

pub returns-else-gives : goal.returns-else-gives
returns-else-gives c = told_found _ _ _ _ _ c.if-gives.false c.direct_gives-gives.ensures
