-- `schedule::schedule::Schedule::peers_for` meets its contract.
use Rattle.std.proofs.Common.{arith}
use Rattle.schedule.proofs.Laws.{span-inside, peers-at, no_peers}
use Rattle.schedule.proofs.schedule.Schedule.peers_for.Goals as goal

pub offset_bounds-self-i : goal.offset_bounds-self-i
offset_bounds-self-i c = omega (arith, span-inside _ _ _ _ (c.in-Some.ensures c.args.s.now))

pub bounds-self-i : goal.bounds-self-i
bounds-self-i c = omega (arith, span-inside _ _ _ _ (c.in-Some.ensures c.args.s.now))

pub returns-in-Some : goal.returns-in-Some
returns-in-Some c = let p = peers-at _ _ _ _ (c.in-Some.ensures c.args.s.now) _ c.part.ensures in record { same = p.0; bytes = p.1 }

pub returns-in-None : goal.returns-in-None
returns-in-None c = let p = no_peers _ _ _ (c.in-None.ensures c.args.s.now) in record { same = p.0; bytes = p.1 }
