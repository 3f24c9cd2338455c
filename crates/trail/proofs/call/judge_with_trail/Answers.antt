-- `judge_with_trail` meets its contract: what the tests, and what is known before the list, leave to show.
use Rattle.std.proofs.lemmas.Grind.{common_steps}
use native.Mathlib.Omega.{arith}
use Rattle.std.specs.Prelude.{Ok}
use mathlib.Core.Path.{◌≡◌, refl, ap, sym, ◌∙◌}
use lib.ListN.{length}
use Rattle.rules.specs.Judge.{admitted, tested, flags_ok, verify_buffer}
use Rattle.judge.specs.Code.{before_of}
use Rattle.judge.specs.Input.{input_of}
use Rattle.judge.proofs.Laws.{tested-short, tested-admitted}
use Rattle.reasons.specs.declared.refusal.Refusal.TheVariants.{Short}
use Rattle.trail.proofs.CallLaws.{called-number, called-from, called-refused, called-judged}
use Rattle.trail.proofs.call.judge_with_trail.Goals as goal
use Rattle.trail.proofs.call.judge_with_trail.Goals.{Else-peers-lt-PEERS_ROOM}

taken : (c : Else-peers-lt-PEERS_ROOM) →
    let a = c.args in
    tested a.settings.now a.schedule.now a.rec.now (flags_ok a.leader a.presence) (length a.peers.now) ≡ admitted (input_of c.in_ok-input.input)
taken c = tested-admitted _ _ _ (c.in_ok-input.ensures _) c.if-peers-lt-PEERS_ROOM.false

pub returns-in_err-input-clause-told : goal.returns-in_err-input-clause-told
returns-in_err-input-clause-told c =
    called-number _ _ _ _ _ c.from_residual.result c.in_err-input.field-0.0 (grind (arith, common_steps)) (sym (c.in_err-input.ensures _))

pub returns-then-peers-lt-PEERS_ROOM-clause-told : goal.returns-then-peers-lt-PEERS_ROOM-clause-told
returns-then-peers-lt-PEERS_ROOM-clause-told c =
    called-number _ _ _ _ _ _ Short refl (tested-short _ _ _ (c.in_ok-input.ensures _) c.if-peers-lt-PEERS_ROOM.true)

pub returns-in_err-verdict-clause-told : goal.returns-in_err-verdict-clause-told
returns-in_err-verdict-clause-told c =
    let at = (goal.at.returns-in_err-verdict-clause-told c).Else-peers-lt-PEERS_ROOM in
    called-refused _ _ _ _ _ _ (taken at) _ c.in_err-verdict.ensures.same c.from_residual-in_err-verdict.result c.in_err-verdict.field-0.0 (grind (arith, common_steps)) refl

pub returns-in-Judged-clause-told : goal.returns-in-Judged-clause-told
returns-in-Judged-clause-told c =
    let at = (goal.at.returns-in-Judged-clause-told c).Else-peers-lt-PEERS_ROOM in
    called-judged _ _ _ _ _ _ (taken at) _ (sym (ap (λ b. before_of (Ok b)) c.in-Judged.is) ∙ c.in_ok-verdict.ensures.same) c.in-Judged.verdict refl

pub returns-in-Needed-clause-told : goal.returns-in-Needed-clause-told
returns-in-Needed-clause-told c =
    let at = (goal.at.returns-in-Needed-clause-told c).Else-peers-lt-PEERS_ROOM in
    called-from _ _ _ _ _ _ (taken at) _ (sym (ap (λ b. before_of (Ok b)) c.in-Needed.is) ∙ c.in_ok-verdict.ensures.same) _ _ c.trail_needed.ensures

pub returns-in-Needed-clause-buffer : goal.returns-in-Needed-clause-buffer
returns-in-Needed-clause-buffer c =
    let at = (goal.at.returns-in-Needed-clause-buffer c).Else-peers-lt-PEERS_ROOM in
    c.in_ok-verdict.ensures.buffer ∙ ap (λ t. verify_buffer t c.args.peers.now) (sym (taken at))
