-- `descend` meets its contract: what is covered above the depth is reached.
use Prim.Native.Nat.{◌+◌}
use native.Mathlib.Omega.{arith}
use Rattle.point.specs.Code.{point_id_of}
use Rattle.schedule.specs.Code.{settings_of}
use Rattle.book_certify.proofs.Chains.{chained_grown}
use Rattle.book_certify.proofs.Entries.{stands}
use Rattle.book_certify.proofs.Depths.{all_done}
use Rattle.book_certify.proofs.Walk.descend.Goals as goal

pub reach_depth-requires-clause-chained : goal.reach_depth-requires-clause-chained
reach_depth-requires-clause-chained c = chained_grown c.requires.chained c.loop-depth.invariant.grown

pub returns : goal.returns
returns c =
    let by = c.args.by.now in
    let i = c.loop-depth.invariant in
    record {
      sound = i.sound;
      all = all_done (settings_of by.conf) (stands by.bytes c.requires.read) (point_id_of by.prev) c.loop-depth.self c.loop-depth.depth (omega (arith, c.loop-depth-test.false, c.from-history.ensures)) i.done;
    }

-- after the last depth
pub returns-2 : goal.returns-2
returns-2 c =
    let by = c.args.by.now in
    let i = c.loop-depth.invariant in
    let d = c.reach_depth.ensures in
    record {
      sound = d.sound i.sound;
      all = all_done (settings_of by.conf) (stands by.bytes c.requires.read) (point_id_of by.prev) c.reach_depth.new.self (c.loop-depth.depth + 1) (omega (arith, c.from-history.ensures)) (d.done i.done);
    }
