-- `schedule::schedule::are_firsts_rising` meets its contract.
use Rattle.std.proofs.Common.{ltb, rules}
use Rattle.std.proofs.lemmas.List.Sorted.{answers_always}
use Rattle.schedule.proofs.Laws.{rising-is}
use Rattle.schedule.proofs.schedule.are_firsts_rising.Goals as goal

pub returns : goal.returns
returns c = rising-is _ _ (c.is_sorted_by.ensures.cases (λ a b. ltb a.first b.first) (answers_always _ _ _ (λ f x r g h. search rules)))
