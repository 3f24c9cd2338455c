-- `judge_needed` meets its contract: without the includes' round in the DAG no list is needed.
use mathlib.Core.Path.{◌∙◌}
use Rattle.judge.proofs.Laws.{answer-evidence, answer-includes}
use Rattle.judge.proofs.judge_needed.Goals as goal

pub returns-in-0 : goal.returns-in-0
returns-in-0 c = c.no_round.ensures ∙ answer-evidence _ _ _ _ _ c.in-0.is

pub returns-in-1 : goal.returns-in-1
returns-in-1 c = c.no_round-in-1.ensures ∙ answer-includes _ _ _ _ _ c.in-1.is
