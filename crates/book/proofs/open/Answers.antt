-- `open` meets its contract: each `return` cites the law of its number.
use Rattle.std.specs.Prelude.{◌≤◌, length, Err, Some, None}
use Rattle.std.proofs.lemmas.Grind.{common_steps}
use native.Mathlib.Omega.{arith}
use mathlib.Core.Path.{◌≡◌, ap, ◌∙◌}
use Rattle.schedule.specs.Settings.{read_settings}
use Rattle.schedule.specs.Code.{settings_of}
use Rattle.reasons.specs.Refusal.{refused_number}
use Rattle.reasons.specs.declared.refusal.Refusal.TheVariants as refusal
use Rattle.books.proofs.RoundTrip.{settings-length}
use Rattle.book.proofs.OpenLaws.{no_settings, unfit, zeroed, is_open}
use Rattle.book.proofs.open.Goals as goal
use Rattle.book.proofs.open.Goals.{In_ok-ok_or}

has-settings : (c : In_ok-ok_or) → read_settings c.args.settings.now ≡ Some (settings_of c.in_ok-ok_or.field-0)
has-settings c = grind (arith, common_steps)

pub returns-in_err-ok_or : goal.returns-in_err-ok_or
returns-in_err-ok_or c =
    let e : c.from_residual.result ≡ Err refusal.Settings = grind (arith, common_steps) in
    let n : read_settings c.args.settings.now ≡ None = grind (arith, common_steps) in
    let h = no_settings c.args.settings.now c.args.book.now n in
    record { value = ap refused_number e ∙ h.0; book_after = h.1 }

pub returns-then-book-lt-ENTRIES_START : goal.returns-then-book-lt-ENTRIES_START
returns-then-book-lt-ENTRIES_START c =
    let h = unfit c.args.settings.now c.args.book.now _ (has-settings (goal.at.returns-then-book-lt-ENTRIES_START c).In_ok-ok_or) c.then-book-lt-ENTRIES_START.either in
    record { value = h.0; book_after = h.1 }

pub put_slice-requires : goal.put_slice-requires
put_slice-requires c = omega (arith, settings-length _ _ (has-settings (goal.at.put_slice-requires c).In_ok-ok_or))

pub returns : goal.returns
returns c =
    let o = is_open _ c.args.book.now _ (has-settings (goal.at.returns c).In_ok-ok_or) (omega (arith, c.if-book-lt-ENTRIES_START.false)) (omega (arith, c.if-book-gt-LONGEST_BOOK.false)) in
    let l = settings-length _ _ (has-settings (goal.at.returns c).In_ok-ok_or) in
    let n : 47 ≤ length c.put_slice.new.out = omega (arith, c.put_slice.auto.out, c.if-book-lt-ENTRIES_START.false) in
    let z = zeroed c.put_slice.new.out c.fill.new.self n (c.fill.ensures.after (λ y h. h)) in
    record { value = o.0; book_after = z ∙ (rw c.put_slice.ensures o.1) }
