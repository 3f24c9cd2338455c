-- `build` meets its contract: the ids are chained, or else sorted.
use mathlib.Core.Path.{refl}
use Rattle.id_index.proofs.Laws.{front_then_lem, built_sorted}
use Rattle.id_index.proofs.Index.build.Goals as goal

pub returns : goal.returns
returns c =
    built_sorted refl refl refl (front_then_lem c.chain.ensures.same_front c.sort.ensures.same_front) c.requires.places c.if-not-sort.ensures.all_sorted refl
