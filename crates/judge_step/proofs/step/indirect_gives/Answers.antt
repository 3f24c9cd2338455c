-- `indirect_gives` meets its contract: the reason and the root cause by what was called for them.
use mathlib.Core.Path.{ap}
use Rattle.point.specs.Code.{through_of}
use Rattle.schedule.specs.Code.{settings_of}
use Rattle.rules.specs.Validate.{indirect_point_rows}
use Rattle.judge_entries.specs.Entry.{entry_of}
use Rattle.judge_valid.specs.Code.{point_view_of}
use Rattle.judge_step.specs.Code.{Gives, with_indirect, indirect_step, as_first}
use Rattle.judge_step.proofs.Laws.{all_found}
use Rattle.judge_step.proofs.step.indirect_gives.Goals as goal

pub returns : goal.returns
unfolding indirect_step
returns c = λ first j.
    let conf = settings_of c.args.by.now.conf in
    let p = point_view_of c.args.by.now.view in
    ap (λ (g : Gives). with_indirect j g)
    (all_found conf p.id.round (through_of c.args.through) (indirect_point_rows conf c.args.role p) (as_first first (entry_of c.args.entry.now)) _ _
    c.indirect_reason.ensures
    c.root_of.ensures)
