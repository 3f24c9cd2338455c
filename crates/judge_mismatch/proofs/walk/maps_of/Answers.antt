-- `maps_of` meets its contract: no row is marked.
use mathlib.Core.Path.{ap, ◌∙◌}
use Rattle.map.specs.Rows.{pairs_of}
use Rattle.point.specs.Said.{said}
use Rattle.judge_mismatch.proofs.Laws.{marked-none, maps-two}
use Rattle.judge_mismatch.proofs.walk.maps_of.Goals as goal

pub returns : goal.returns
returns c =
    maps-two (said c.args.point.now)
    (marked-none (c.new.ensures.round ∙ c.rounds_back.ensures) (ap pairs_of (c.new.ensures.rows ∙ c.includes.ensures)) c.new.ensures.seen)
    (marked-none (c.new-2.ensures.round ∙ c.rounds_back-2.ensures) (ap pairs_of (c.new-2.ensures.rows ∙ c.witness.ensures)) c.new-2.ensures.seen)
