-- `judge_input` meets its contract: a number, a verdict before the list is needed, or what judging by it needs.
use Rattle.std.specs.Prelude.{Ok, Err}
use Rattle.std.proofs.lemmas.Grind.{common_steps}
use native.Mathlib.Omega.{arith}
use mathlib.Core.Path.{◌≡◌, refl, ap, sym, ◌∙◌, subst}
use Rattle.judge.specs.Code.{before_of}
use Rattle.books.specs.Offer.{offer_of, before_in}
use Rattle.book.specs.Code.{input_of, Decides}
use Rattle.book.proofs.OfferLaws.{ready-refused, ready-judged}
use Rattle.book.proofs.decide.judge_input.Goals as goal

pub returns-in_err-verdict : goal.returns-in_err-verdict
returns-in_err-verdict c = λ s x w h.
    let k = c.in_err-verdict in
    let e : c.from_residual.result ≡ Err k.field-0.0 = grind (arith, common_steps) in
    let a = c.args in
    subst (λ r. Decides s (offer_of a.input.now.schedule.bytes.now a.leader a.input.now.point.rec.now a.peers.now) r x c.before_list.new.peers) (sym e) (ready-refused h w _ k.ensures.buffer _ (sym k.ensures.same))

pub returns-in-Judged : goal.returns-in-Judged
returns-in-Judged c = λ s x w h.
    let k = c.in_ok-verdict in
    ready-judged h w _ k.ensures.buffer _ (sym k.ensures.same ∙ ap (λ b. before_of (Ok b)) c.in-Judged.is)

pub returns-in-Needed : goal.returns-in-Needed
unfolding before_in
returns-in-Needed c = λ s x w h.
    let a = c.args in
    let k = c.in_ok-verdict in
    record {
      input = input_of a.input.now;
      ready = h;
      bytes = refl;
      point = refl;
      list = sym k.ensures.same ∙ ap (λ b. before_of (Ok b)) c.in-Needed.is;
      peers = k.ensures.buffer;
    }
