-- `reach_depth` meets its contract: by one pass, or by two.
use native.Mathlib.Omega.{arith}
use Rattle.point.specs.Code.{point_id_of}
use Rattle.schedule.specs.Code.{settings_of}
use Rattle.book_certify.proofs.Chains.{chained_grown}
use Rattle.book_certify.proofs.Entries.{stands}
use Rattle.book_certify.proofs.Depths.{reached-first, reached-both}
use Rattle.book_certify.proofs.Walk.reach_depth.Goals as goal

pub returns-then-depth-lt2 : goal.returns-then-depth-lt2
returns-then-depth-lt2 c =
    let by = c.args.by.now in
    reached-first (settings_of by.conf) (stands by.bytes c.requires.read) (point_id_of by.prev) c.args.depth c.requires.depth_least (omega (arith, c.if-depth-lt2.true)) c.reach_from.ensures

pub reach_from-requires-2-clause-chained : goal.reach_from-requires-2-clause-chained
reach_from-requires-2-clause-chained c = chained_grown c.requires.chained c.reach_from.ensures.grown

pub returns : goal.returns
returns c =
    let by = c.args.by.now in
    reached-both (settings_of by.conf) (stands by.bytes c.requires.read) (point_id_of by.prev) c.args.depth c.requires.depth_least c.reach_from.ensures c.reach_from-2.ensures
