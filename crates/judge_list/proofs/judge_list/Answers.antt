-- `judge_list` meets its contract: what the walk came to, by the laws of the walk.
use Rattle.std.specs.Prelude.{option_map}
use mathlib.Core.Path.{refl, ap, sym, ◌∙◌}
use Rattle.point.specs.Said.{said}
use Rattle.schedule.specs.Code.{settings_of}
use Rattle.reasons.specs.Code.{verdict_of}
use Rattle.rules.specs.List.{read_list}
use Rattle.judge_list.specs.Code.{walk_of}
use Rattle.judge_list.proofs.WalkLaws.{judged-unread, judged-walked}
use Rattle.judge_list.proofs.judge_list.Goals as goal

pub returns-in_err-walk : goal.returns-in_err-walk
returns-in_err-walk c =
    let a = c.args in
    rw c.from_residual.ensures
    (judged-unread (settings_of a.conf) a.required (said a.point.now) (read_list a.list.now)
    (sym (ap (option_map walk_of) c.in_err-walk.was) ∙ c.walk_list.ensures))

pub returns : goal.returns
returns c =
    let a = c.args in
    judged-walked (settings_of a.conf) a.required (said a.point.now) a.list.now _ (walk_of c.in_ok-walk.walk) (verdict_of c.verdict.result) refl
    (sym (ap (option_map walk_of) c.in_ok-walk.was) ∙ c.walk_list.ensures)
    c.verdict.ensures
