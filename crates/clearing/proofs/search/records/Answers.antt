-- `records` meets its contract: it makes no difference what the dependency was reached through.
use mathlib.Core.Path.{sym, ap, ◌∙◌}
use Rattle.std.specs.Prelude.{is_some}
use Rattle.base.proofs.Option.{map-some}
use Rattle.clearing.proofs.Laws.{record-any}
use Rattle.clearing.proofs.search.records.Goals as goal

pub returns : goal.returns
returns c = λ t.
    c.is_some.ensures ∙ (sym (map-some _ _) ∙ (ap is_some (c.record_of.ensures _) ∙ record-any _ _ _ _ t _))
