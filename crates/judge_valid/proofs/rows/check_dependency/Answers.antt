-- `check_dependency` meets its contract: the rows are asked from the last to the first, which is that of the previous point alone.
use Rattle.std.specs.Prelude.{option_map}
use Rattle.std.specs.Option.{option_or}
use Rattle.std.proofs.Common.{rules}
use mathlib.Core.Bool.{Bool}
use mathlib.Core.Path.{◌≡◌, sym, ◌∙◌}
use mathlib.Core.List.{List, [], ◌∷◌}
use Rattle.base.specs.Base.{pick, concat, last_of}
use Rattle.point.specs.declared.data.AnchorStageRole.TheVariants.{Proof, Trigger}
use Rattle.reasons.specs.Code.{reason_of}
use Rattle.reasons.specs.Invalid.{InvalidReason}
use Rattle.schedule.specs.Settings.{Settings}
use Rattle.schedule.specs.Code.{settings_of}
use Rattle.rules.specs.DagPoint.{PointView, DepView}
use Rattle.rules.specs.Validate.{proof_row, time_row, newer_row, anchor_rows, point_rows}
use Rattle.base.proofs.Tables.{last-of-one}
use Rattle.judge_valid.specs.Code.{point_view_of, dep_view_of}
use Rattle.judge_valid.proofs.Laws.{or_else_told, or_none, last_empty, rows_last}
use Rattle.judge_valid.proofs.rows.check_dependency.Goals as goal
use Rattle.judge_valid.proofs.rows.check_dependency.Goals.{After-or_else-later}

-- the rows after the first
abbrev after : Settings → PointView → DepView → List (List InvalidReason)
after s p q = time_row s p q ∷ newer_row Proof p q ∷ newer_row Trigger p q ∷ concat (anchor_rows s p q) ∷ []

table : (s : Settings) (required is_prev : Bool) (p : PointView) (q : DepView) →
    last_of (concat (point_rows s required is_prev p q)) ≡ option_or (last_of (concat (after s p q))) (last_of (pick is_prev (proof_row required p q) []))
unfolding point_rows
table s required is_prev p q = rows_last (pick is_prev (proof_row required p q) []) (after s p q)

later : (c : After-or_else-later) → option_map reason_of c.or_else-later.result ≡ last_of (concat (after (settings_of c.args.by.now.conf) (point_view_of c.args.by.now.view) (dep_view_of c.args.q.now)))
later c =
    let s = settings_of c.args.by.now.conf in
    let p = point_view_of c.args.by.now.view in
    let q = dep_view_of c.args.q.now in
    or_else_told _ _ _ _ (last_of (time_row s p q)) c.or_else-later.ensures
    (or_else_told _ _ _ _ (last_of (newer_row Proof p q)) c.or_else-2.ensures
    (or_else_told _ _ _ _ (last_of (newer_row Trigger p q)) c.or_else.ensures c.check_links.ensures (λ k. search rules))
    (λ k. search rules))
    (λ k. search rules)
    ∙ sym (rows_last _ _ ∙ rw (rows_last (newer_row Proof p q), rows_last (newer_row Trigger p q), last-of-one))

pub returns-then-is_prev_point : goal.returns-then-is_prev_point
returns-then-is_prev_point c =
    let by = c.args.by.now in
    let p = point_view_of by.view in
    let q = dep_view_of c.args.q.now in
    rw (table (settings_of by.conf) by.required c.args.is_prev_point p q, c.if-is_prev_point.true)
    (or_else_told _ _ _ _ (last_of (proof_row by.required p q)) c.or_else-then-is_prev_point.ensures (later (goal.at.returns-then-is_prev_point c).After-or_else-later) (λ k. search rules))

pub returns : goal.returns
returns c =
    let by = c.args.by.now in
    rw (table (settings_of by.conf) by.required c.args.is_prev_point (point_view_of by.view) (dep_view_of c.args.q.now), c.if-is_prev_point.false, last_empty)
    (later (goal.at.returns c).After-or_else-later ∙ sym (or_none _))
