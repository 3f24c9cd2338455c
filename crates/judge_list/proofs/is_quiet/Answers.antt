-- `is_quiet` meets its contract: an entry that is for a dependency goes by the quick test.
use Rattle.base.proofs.Option.{unfound}
use Rattle.judge_list.proofs.is_quiet.Goals as goal

pub returns-then-is_none : goal.returns-then-is_none
returns-then-is_none c = λ h. (unfound _ c.if-is_none.ensures, c.is_quiet.ensures h)
