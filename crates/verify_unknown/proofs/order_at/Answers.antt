use Rattle.std.proofs.Common.{arith, length}
use borrow.Author.Tests.{lt-ltb}
use Rattle.map.specs.Rows.{peers_of}
use Rattle.map.proofs.Laws.{peers_of-at}
use Rattle.verify_unknown.specs.Code.{order_at}
use Rattle.verify_unknown.proofs.order_at.Goals as goal

pub returns-then-j-count : goal.returns-then-j-count
unfolding order_at
returns-then-j-count c = rw (lt-ltb c.args.j (length (peers_of 32 c.args.scheduled.now)) (omega arith), peers_of-at 32 c.args.scheduled.now c.args.j (omega arith)) c.compare_rows.ensures
