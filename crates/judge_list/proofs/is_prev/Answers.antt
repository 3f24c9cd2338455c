-- `is_prev` meets its contract: an id of the author at the round before goes by the previous digest.
use Rattle.std.specs.Prelude.{option_map}
use Rattle.parts.specs.Code.{number}
use Rattle.std.proofs.Common.{rules}
use mathlib.Core.Path.{sym, ◌∙◌}
use Rattle.point.specs.Code.{point_id_of}
use Rattle.judge_list.proofs.Laws.{prev-other, prev-digested}
use Rattle.judge_list.proofs.is_prev.Goals as goal

pub returns-then-is_own_before : goal.returns-then-is_own_before
returns-then-is_own_before c =
    let a = c.args in
    prev-digested (point_id_of a.p.now.id) (point_id_of a.id) a.p.now.prev_digest _ (sym c.is_own_before.ensures ∙ c.if-is_own_before.true) (search rules)

pub returns-else-is_own_before : goal.returns-else-is_own_before
returns-else-is_own_before c =
    let a = c.args in
    c.if-is_own_before.false
    ∙ sym (prev-other (point_id_of a.p.now.id) _ (option_map number a.p.now.prev_digest) (sym c.is_own_before.ensures ∙ c.if-is_own_before.false))
