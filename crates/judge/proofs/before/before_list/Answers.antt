-- `before_list` meets its contract: a verification that didn't pass ends it.
use mathlib.Core.Path.{refl}
use Rattle.judge.proofs.Laws.{before_failed, before-passed}
use Rattle.judge.proofs.before.before_list.Goals as goal

pub returns-clause-same : goal.returns-clause-same
returns-clause-same c = before_failed _ _ _ _ _ c.in-Err.ensures.same _ _ refl c.into.ensures

pub returns-in_default-clause-same : goal.returns-in_default-clause-same
returns-in_default-clause-same c = before-passed _ _ _ _ _ c.in_default.ensures.same _ refl (c.before_verified.ensures _)
