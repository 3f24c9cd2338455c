-- What the walk over a map and the scheduled peers asks.
use Rattle.std.specs.Prelude.{ℕ, length, get_or, ltb, List}
use Rattle.base.specs.Base.{pick}
use Rattle.parts.specs.Parts.{order}
use Rattle.std.specs.declared.cmp.Ordering.{Ordering}
use Rattle.std.specs.declared.cmp.Ordering.TheVariants.{Greater}

-- how the scheduled peer at a position stands to a peer; past the last position the scheduled side counts as greater
unfoldable pub order_at : List ℕ → ℕ → ℕ → Ordering
unfolding order
order_at scheduled j x = pick (ltb j (length scheduled)) (order (get_or scheduled j 0) x) Greater
