-- `judge_entry` meets its contract: what the entry gives makes its step.
use mathlib.Core.Path.{◌∙◌}
use Rattle.book_judge.proofs.direct.judge_entry.Goals as goal

pub returns : goal.returns
returns c = c.with_direct.ensures ∙ c.direct_gives-gives.ensures _
