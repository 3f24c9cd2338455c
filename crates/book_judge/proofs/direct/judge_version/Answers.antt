-- `judge_version` meets its contract: an entry that is no version, and one that is.
use mathlib.Core.Bool.{Bool, not, ◌&&◌, ◌||◌}
use mathlib.Core.Path.{◌≡◌, ap, sym, ◌∙◌}
use Prim.Native.Nat.{◌-◌}
use Rattle.judge_valid.specs.Code.{point_view_of}
use Rattle.parts.specs.Code.{number}
use Rattle.schedule.specs.Code.{settings_of}
use Rattle.judge_step.specs.Code.{judging_of}
use Rattle.rules.specs.DagPoint.{is_by}
use Rattle.books.specs.Kept.{Kept}
use Rattle.books.specs.Lists.{is_of, is_valid}
use Rattle.id_index.specs.Code.{id_in}
use Rattle.book_layout.specs.Code.{shown}
use Rattle.book_judge.specs.Code.{versions_of, VersionJudged}
use Rattle.book_judge.proofs.Looked.{same-kept}
use Rattle.book_judge.proofs.Versions.{version-other, version-own}
use Rattle.book_judge.proofs.direct.judge_version.Goals as goal
use Rattle.book_judge.proofs.direct.judge_version.Goals.{After-is_own_before, After-judge_entry}

-- the test of the id
tested : (c : After-is_own_before) (k : Kept) →
    id_in c.args.book.now.bytes.now c.args.book.now.index.now c.args.j ≡ k.point.id →
    is_of (c.args.by.now.view.id.round - 1) (number c.args.by.now.view.id.author) k ≡ c.is_own_before.result
tested c k i = sym (c.is_own_before.ensures ∙ ap (is_by _ _) (c.id.ensures ∙ i))

pub returns-then-not-is_own_before : goal.returns-then-not-is_own_before
returns-then-not-is_own_before c =
    λ k size e i.
    version-other (settings_of c.args.by.now.conf) c.args.by.now.required (point_view_of c.args.by.now.view) (versions_of c.args.so_far) k (tested (goal.at.returns-then-not-is_own_before c).After-is_own_before k i ∙ c.if-not-is_own_before.true)

-- with whether a Valid one was seen, up to this entry
own : (c : After-judge_entry) (seen : Bool) → seen ≡ (c.args.so_far.seen || c.is_first-first.result) →
    VersionJudged (settings_of c.args.by.now.conf) c.args.by.now.required c.args.by.now.view c.args.book.now.bytes.now c.args.book.now.index.now c.args.j (versions_of c.args.so_far)
    (record { judging = judging_of c.judge_entry.result; seen = seen })
own c seen e = λ k size h i.
    let same = same-kept _ _ c.kept-kept.ensures k size h in
    version-own (settings_of c.args.by.now.conf) c.args.by.now.required (point_view_of c.args.by.now.view) (versions_of c.args.so_far) k _ c.is_first-first.result seen _
    (sym (c.is_own_before.ensures ∙ ap (is_by _ _) (c.id.ensures ∙ i)) ∙ c.if-not-is_own_before.false) (c.entry.ensures.shown ∙ ap (λ (x : Kept). shown x c.is_first-first.result) same)
    (c.is_first-first.ensures ∙ ap (λ (x : Kept). is_valid x.status && not c.args.so_far.seen) same) c.judge_entry.ensures e

pub returns-then-so_far : goal.returns-then-so_far
returns-then-so_far c = own (goal.at.returns-then-so_far c).After-judge_entry _ (rw c.if-so_far.true)

pub returns-else-so_far : goal.returns-else-so_far
returns-else-so_far c = own (goal.at.returns-else-so_far c).After-judge_entry _ (rw c.if-so_far.false)
