-- `reach_rows` meets its contract: what the rows that are left add, with what is reached, is what all of them add.
use lib.ListN.{drop}
use Rattle.map.specs.Rows.{pairs_of}
use Rattle.rules.specs.Mismatch.{is_among}
use Rattle.book_certify.specs.declared.Walk.{Walk}
use Rattle.book_certify.specs.Code.{Adds}
use Rattle.book_certify.proofs.Walk.reach_rows.Given as goal

abbrev pub invariant-loop-i : goal.invariant-loop-i
invariant-loop-i l =
    (v : Walk) → Adds l.by.book.now l.by.index.now (is_among l.round (drop l.i (pairs_of l.rows))) l.self v → Adds l.by.book.now l.by.index.now (is_among l.round (pairs_of l.rows)) l.initial.self v
