-- `read_entry` meets its contract: a dependency, or the target that tag 19 tells.
use native.Mathlib.Omega.{arith}
use Rattle.std.proofs.lemmas.Grind.{common_steps}
use Rattle.std.proofs.lemmas.Bool.Decides.{nat_tests}
use mathlib.Core.Path.{◌≡◌, refl, sym, ◌∙◌}
use mathlib.Core.Bool.{true}
use Rattle.base.proofs.Lists.{rest}
use Rattle.record.specs.Record.{field_row, field_ok}
use Rattle.judge_entries.proofs.Laws.{sized, read_empty, read-direct, read-proof, read-trigger, read_roleless}
use Rattle.judge_entries.proofs.read.read_entry.Goals as goal
use Rattle.judge_entries.proofs.read.read_entry.Goals.{Else-not-field_ok}

fits : (c : Else-not-field_ok) → field_ok (field_row 19 1 1) c.args.s.now 0 ≡ true
fits c = sym c.field_ok.ensures ∙ c.if-not-field_ok.false

pub returns-then-is_empty-clause-same : goal.returns-then-is_empty-clause-same
returns-then-is_empty-clause-same c = grind (arith, common_steps, nat_tests, read_empty)

pub returns-then-s-ne19 : goal.returns-then-s-ne19
returns-then-s-ne19 c =
    let e = c.entry_at.ensures.same ∙ sym (read-direct c.args.s.now c.if-s-ne19.true) in
    record { same = e; sized = sized _ _ e; placed = c.entry_at.ensures.placed c.args.s.now refl }

pub returns-in-0 : goal.returns-in-0
returns-in-0 c =
    let s = c.args.s.now in
    let e = c.entry_at-in-0.ensures.same ∙ rw (rest 4 s) (sym (read-proof s c.if-s-ne19.false (fits (goal.at.returns-in-0 c).Else-not-field_ok) c.in-0.is)) in
    record { same = e; sized = sized _ _ e; placed = c.entry_at-in-0.ensures.placed s (sym (rest 4 s)) }

pub returns-in-1 : goal.returns-in-1
returns-in-1 c =
    let s = c.args.s.now in
    let e = c.entry_at-in-1.ensures.same ∙ rw (rest 4 s) (sym (read-trigger s c.if-s-ne19.false (fits (goal.at.returns-in-1 c).Else-not-field_ok) c.in-1.is)) in
    record { same = e; sized = sized _ _ e; placed = c.entry_at-in-1.ensures.placed s (sym (rest 4 s)) }

pub returns-in_default-clause-same : goal.returns-in_default-clause-same
returns-in_default-clause-same c =
    sym (read_roleless _ c.if-s-ne19.false (fits (goal.at.returns-in_default-clause-same c).Else-not-field_ok) (λ e. omega arith) (λ e. omega arith))
