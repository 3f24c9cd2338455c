-- `reach_rows` meets its contract: what the rows that are left add, with what is reached, is what all of them add.
use native.Mathlib.Omega.{arith}
use Prim.Native.Nat.{◌<◌}
use lib.ListN.{length}
use Rattle.map.specs.Rows.{pairs_of}
use Rattle.judge_mismatch.specs.Code.{no_pair}
use Rattle.point.proofs.Maps.{pairs_many}
use Rattle.book_certify.proofs.Rows.{rows_next, rows_end}
use Rattle.book_certify.proofs.Walk.reach_rows.Goals as goal
use Rattle.book_certify.proofs.Walk.reach_rows.Goals.{In-loop-i}

within : (c : In-loop-i) → c.loop-i.i < length (pairs_of c.args.rows.now)
within c = omega (arith, c.loop-i-test.true, c.count-i-end.ensures, pairs_many c.args.rows.now)

pub pair_id-requires : goal.pair_id-requires
pair_id-requires c = within (goal.at.pair_id-requires c).In-loop-i

pub loop-i-preserved : goal.loop-i-preserved
loop-i-preserved c v f =
    let lt = within (goal.at.loop-i-preserved c).In-loop-i in
    let rows = c.args.rows.now in
    c.loop-i.invariant v (rows_next (pairs_of rows) c.loop-i.i c.args.round lt _ (c.pair_id.ensures no_pair) c.reach_id.ensures f)

pub returns : goal.returns
returns c =
    let rows = c.args.rows.now in
    c.loop-i.invariant c.loop-i.self (rows_end (pairs_of rows) c.loop-i.i c.args.round (omega (arith, c.loop-i-test.false, c.count-i-end.ensures, pairs_many rows)) c.loop-i.self)
