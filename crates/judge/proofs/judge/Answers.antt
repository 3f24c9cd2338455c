-- `judge` meets its contract: what the test of the peer buffer's length and the last returns leave to show.
use Rattle.std.proofs.lemmas.Grind.{common_steps}
use native.Mathlib.Omega.{arith}
use mathlib.Core.Path.{◌≡◌, refl, ap, sym, ◌∙◌}
use Rattle.std.specs.Prelude.{Ok}
use lib.ListN.{length}
use Rattle.reasons.specs.declared.refusal.Refusal.TheVariants.{Short}
use Rattle.rules.specs.Judge.{admitted, tested, flags_ok}
use Rattle.judge.specs.Code.{before_of}
use Rattle.judge.specs.Input.{input_of}
use Rattle.judge.proofs.Laws.{tested-short, tested-admitted, answer-number, answer-taken}
use Rattle.judge.proofs.judge.Goals as goal
use Rattle.judge.proofs.judge.Goals.{Else-peers-lt-PEERS_ROOM}

taken : (c : Else-peers-lt-PEERS_ROOM) →
    let a = c.args in
    tested a.settings.now a.schedule.now a.rec.now (flags_ok a.leader a.presence) (length a.peers.now) ≡ admitted (input_of c.in_ok-input.input)
taken c = tested-admitted _ _ _ (c.in_ok-input.ensures _) c.if-peers-lt-PEERS_ROOM.false

pub returns-then-peers-lt-PEERS_ROOM : goal.returns-then-peers-lt-PEERS_ROOM
returns-then-peers-lt-PEERS_ROOM c =
    let h = answer-number _ _ _ _ Short _ (tested-short _ _ _ (c.in_ok-input.ensures _) c.if-peers-lt-PEERS_ROOM.true) in
    record { same = h.0; buffer = h.1 }

pub returns-in_err-verdict : goal.returns-in_err-verdict
returns-in_err-verdict c =
    let at = (goal.at.returns-in_err-verdict c).Else-peers-lt-PEERS_ROOM in
    let h = answer-taken _ _ _ _ _ c.from_residual-in_err-verdict.result _ _ _ (taken at) c.in_err-verdict.ensures.same (grind (arith, common_steps)) c.in_err-verdict.ensures.buffer in
    record { same = h.0; buffer = h.1 }

pub returns-in-Judged : goal.returns-in-Judged
returns-in-Judged c =
    let at = (goal.at.returns-in-Judged c).Else-peers-lt-PEERS_ROOM in
    let h = answer-taken _ _ _ _ _ (Ok c.in-Judged.verdict) _ _ _ (taken at) (sym (ap (λ b. before_of (Ok b)) c.in-Judged.is) ∙ c.in_ok-verdict.ensures.same) refl c.in_ok-verdict.ensures.buffer in
    record { same = h.0; buffer = h.1 }

pub returns-in-Needed : goal.returns-in-Needed
returns-in-Needed c =
    let at = (goal.at.returns-in-Needed c).Else-peers-lt-PEERS_ROOM in
    let h = answer-taken _ _ _ _ _ c.judge_needed.result _ _ _ (taken at) (sym (ap (λ b. before_of (Ok b)) c.in-Needed.is) ∙ c.in_ok-verdict.ensures.same) c.judge_needed.ensures c.in_ok-verdict.ensures.buffer in
    record { same = h.0; buffer = h.1 }
