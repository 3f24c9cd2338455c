-- `is_quick` meets its contract: no test says that the dependency may give something.
use Rattle.std.proofs.Common.{rules}
use mathlib.Core.Path.{ap, ◌∙◌}
use Rattle.point.specs.Reading.{read_point}
use Rattle.judge_valid.proofs.QuickLaws.{passes}
use Rattle.judge_valid.proofs.quick.is_quick.Goals as goal

pub returns : goal.returns
returns c = λ h conf p q k e.
    passes conf p q _ _ k (c.brief_of.ensures q (ap read_point c.find.ensures ∙ e))
    (search rules)
    (search rules)
    (search rules)
    (search rules)
