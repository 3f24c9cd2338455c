-- `begin` meets its contract: the book is opened where the front was read.
use Rattle.std.specs.Prelude.{Err}
use Rattle.std.proofs.lemmas.Grind.{common_steps}
use native.Mathlib.Omega.{arith}
use mathlib.Core.Path.{◌≡◌, ap, sym, ◌∙◌}
use lib.ListN.{length, take}
use lib.Seq.{length-take-le}
use Rattle.parts.specs.Limits.{settings_length}
use Rattle.reasons.specs.Refusal.{refusal_number, numbered}
use Rattle.tally_feed.specs.Tally.{begun_book}
use Rattle.tally_feed.proofs.Laws.{begin-unread, begin-refused, begin_open, unopened, refused-some}
use Rattle.tally_feed.proofs.front.begin.Goals as goal

pub returns-in_err-start-clause-same : goal.returns-in_err-start-clause-same
returns-in_err-start-clause-same c =
    let e : c.from_residual.result ≡ Err c.in_err-start.field-0.0 = grind (arith, common_steps) in
    ap numbered e ∙ sym (begin-unread (length c.args.book.now) c.args.feed.now _ (sym c.in_err-start.ensures.same))

pub slice_bounds-open-end : goal.slice_bounds-open-end
slice_bounds-open-end c = sym (length-take-le settings_length c.args.feed.now (omega (arith, c.in_ok-start.ensures.begins.0, c.in_ok-start.ensures.begins.1)))

pub returns-in_err-open : goal.returns-in_err-open
returns-in_err-open c =
    let s = c.args.feed.now in
    let b = c.args.book.now in
    let r = c.in_err-open.field-0.0 in
    let k = c.in_err-open.ensures in
    let e : c.from_residual-in_err-open.result ≡ Err r = grind (arith, common_steps) in
    record {
      same = ap numbered e ∙ sym (begin-refused (length b) s c.in_ok-start.start (sym c.in_ok-start.ensures.same) (refusal_number r) (sym k.value) (refused-some r));
      opened = k.book_after ∙ unopened (take settings_length s) b (λ z. refused-some r (k.value ∙ z)) ∙ ap (λ x. begun_book (take settings_length s) b (numbered x)) (sym e);
      begins = rw e tt;
    }

pub returns : goal.returns
returns c =
    let k = c.in_ok-open.ensures in
    record {
      same = sym (begin_open (length c.args.book.now) c.args.feed.now c.in_ok-start.start (sym c.in_ok-start.ensures.same) (sym k.value));
      opened = k.book_after;
      begins = c.in_ok-start.ensures.begins;
    }
