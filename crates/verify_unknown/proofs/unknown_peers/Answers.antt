-- `unknown::unknown_peers` meets its contract: a step of the walk keeps the invariant, by the laws of `Walked`.
use native.Mathlib.Omega.{arith}
use mathlib.Core.Path.{sym, ◌∙◌}
use Rattle.map.proofs.Laws.{peers_of-at}
use Rattle.verify_unknown.proofs.Laws.{walked_start, walked_less, walked_same, walked_more}
use Rattle.verify_unknown.proofs.unknown_peers.Goals as goal

pub loop-i-init : goal.loop-i-init
loop-i-init c = walked_start _ _ _

pub loop-i-preserved-in-Equal : goal.loop-i-preserved-in-Equal
loop-i-preserved-in-Equal c =
    let here = peers_of-at c.args.width c.args.rows.now c.loop-i.i (omega arith) in
    walked_same _ _ _ _ _ _ _ c.loop-i.invariant (omega arith) c.requires.rows_value c.requires.scheduled_value
    (rw here (sym c.order_at.ensures ∙ c.in-Equal.is))

pub loop-i-preserved-in-Less : goal.loop-i-preserved-in-Less
loop-i-preserved-in-Less c =
    let here = peers_of-at c.args.width c.args.rows.now c.loop-i.i (omega arith) in
    walked_less _ _ _ _ _ _ _ c.loop-i.invariant (omega arith) (rw here (sym c.order_at.ensures ∙ c.in-Less.is))

pub loop-i-preserved : goal.loop-i-preserved
loop-i-preserved c =
    let here = peers_of-at c.args.width c.args.rows.now c.loop-i.i (omega arith) in
    rw (c.put_id.ensures, c.peer_at-peer.ensures, ← here)
    (walked_more _ _ _ _ _ _ _ c.loop-i.invariant (omega arith) c.requires.rows_value c.requires.scheduled_value c.requires.rows_in_bounds
    (rw here (sym c.order_at.ensures ∙ c.in-Greater.is)))
