-- `record::record_end` meets its contract. The invariant: the record ends where the fields of the rows that are left end, the first of them at `at`.
use Prim.Native.Nat.{◌≤◌}
use mathlib.Core.Path.{◌≡◌}
use lib.ListN.{length, drop}
use Rattle.record.specs.Record.{rows, end_from, record_end}
use Rattle.record.proofs.record_end.Given as goal

abbrev pub invariant-loop-row : goal.invariant-loop-row
invariant-loop-row l = (l.at ≤ length l.s) × (record_end l.s ≡ end_from (drop l.row-index rows) l.s l.at)
