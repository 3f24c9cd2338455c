-- `brings` meets its contract: a version records nothing.
use mathlib.Core.Path.{sym, ◌∙◌}
use Rattle.clearing.proofs.Laws.{brings-given, brings-nothing}
use Rattle.clearing.proofs.search.brings.Goals as goal

pub returns-then-is_given : goal.returns-then-is_given
returns-then-is_given c = λ p v. brings-given _ _ _ p _ v _ _ c.records.ensures (sym c.is_given.ensures ∙ c.if-is_given.true)

pub returns-else-is_given : goal.returns-else-is_given
returns-else-is_given c = λ p v. c.if-is_given.false ∙ brings-nothing _ _ _ p _ v _ (sym c.is_given.ensures ∙ c.if-is_given.false)
