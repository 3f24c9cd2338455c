-- `record::fields::Fields::find` meets its contract: a record of the right shape is one that stands at its own front.
use Rattle.std.specs.Prelude.{is_some}
use mathlib.Core.Path.{ap}
use Rattle.record.proofs.Laws.{shaped-end}
use Rattle.record.proofs.fields.Fields.find.Goals as goal

pub known_shape-requires : goal.known_shape-requires
known_shape-requires c = ap is_some (shaped-end _ c.requires)
