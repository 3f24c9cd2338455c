use Rattle.std.proofs.Common.{sym, arith}
use Rattle.map.proofs.Laws.{peers_of-length, peers_room}
use Rattle.map.proofs.count.Goals as goal

pub returns-clause-many : goal.returns-clause-many
returns-clause-many c = sym (peers_of-length _ _)

pub returns-clause-room : goal.returns-clause-room
returns-clause-room c = omega (arith, peers_of-length c.args.width c.args.rows.now, peers_room c.args.width c.args.rows.now c.requires)
