-- `verify` meets its contract: what the tests after the three readers leave to show.
use Rattle.std.proofs.lemmas.Grind.{common_steps}
use native.Mathlib.Omega.{arith}
use borrow.Author.Tests.{lt-ltb, le-ltb}
use mathlib.Core.Path.{ap, sym, ◌∙◌}
use Rattle.rules.specs.Judge.{verified_from}
use Rattle.verify.proofs.Laws.{verified_back, read_all}
use Rattle.verify.proofs.verify.Goals as goal

pub returns-then-not-is_in_domain-clause-same : goal.returns-then-not-is_in_domain-clause-same
returns-then-not-is_in_domain-clause-same c =
    rw (read_all _ _ _ _ _ _ _ _ _ _ _ c.read_settings.ensures c.in_ok-conf.ensures.ok_part c.read_peer_schedule.ensures c.in_ok-schedule.ensures.ok_part c.read_point.ensures c.in_ok-point.ensures.ok_part)
    (grind (arith, common_steps, c.is_in_domain.ensures c.in_ok-point.point.rec.now))

pub returns-then-not-is_in_domain-clause-buffer : goal.returns-then-not-is_in_domain-clause-buffer
returns-then-not-is_in_domain-clause-buffer c =
    rw (read_all _ _ _ _ _ _ _ _ _ _ _ c.read_settings.ensures c.in_ok-conf.ensures.ok_part c.read_peer_schedule.ensures c.in_ok-schedule.ensures.ok_part c.read_point.ensures c.in_ok-point.ensures.ok_part)
    (grind (arith, common_steps, c.is_in_domain.ensures c.in_ok-point.point.rec.now))

pub returns-then-peers-lt-PEERS_ROOM-clause-same : goal.returns-then-peers-lt-PEERS_ROOM-clause-same
returns-then-peers-lt-PEERS_ROOM-clause-same c =
    rw (read_all _ _ _ _ _ _ _ _ _ _ _ c.read_settings.ensures c.in_ok-conf.ensures.ok_part c.read_peer_schedule.ensures c.in_ok-schedule.ensures.ok_part c.read_point.ensures c.in_ok-point.ensures.ok_part)
    (grind (arith, common_steps, c.is_in_domain.ensures c.in_ok-point.point.rec.now, lt-ltb))

pub returns-then-peers-lt-PEERS_ROOM-clause-buffer : goal.returns-then-peers-lt-PEERS_ROOM-clause-buffer
returns-then-peers-lt-PEERS_ROOM-clause-buffer c =
    rw (read_all _ _ _ _ _ _ _ _ _ _ _ c.read_settings.ensures c.in_ok-conf.ensures.ok_part c.read_peer_schedule.ensures c.in_ok-schedule.ensures.ok_part c.read_point.ensures c.in_ok-point.ensures.ok_part)
    (grind (arith, common_steps, c.is_in_domain.ensures c.in_ok-point.point.rec.now, lt-ltb))

pub returns-clause-same : goal.returns-clause-same
returns-clause-same c =
    let found = sym (verified_back c.verify_point.result) ∙ ap verified_from c.verify_point.ensures.same in
    rw (read_all _ _ _ _ _ _ _ _ _ _ _ c.read_settings.ensures c.in_ok-conf.ensures.ok_part c.read_peer_schedule.ensures c.in_ok-schedule.ensures.ok_part c.read_point.ensures c.in_ok-point.ensures.ok_part)
    (grind (arith, common_steps, c.is_in_domain.ensures c.in_ok-point.point.rec.now, le-ltb, found))

pub returns-clause-buffer : goal.returns-clause-buffer
returns-clause-buffer c =
    rw (read_all _ _ _ _ _ _ _ _ _ _ _ c.read_settings.ensures c.in_ok-conf.ensures.ok_part c.read_peer_schedule.ensures c.in_ok-schedule.ensures.ok_part c.read_point.ensures c.in_ok-point.ensures.ok_part)
    (grind (arith, common_steps, c.is_in_domain.ensures c.in_ok-point.point.rec.now, le-ltb))
