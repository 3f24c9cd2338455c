-- Peers of a map that are not scheduled.
use Rattle.std.specs.Prelude.{ℕ, List, [], ◌∷◌, is_some}
use Rattle.base.specs.Base.{pick}
use Rattle.map.specs.Rows.{find}

-- check_peers, verifier.rs 929-994: `keys().filter(|id| !scheduled.contains(id))`
unfoldable pub unknown_in : List ℕ → List ℕ → List ℕ
unfolding find
unknown_in scheduled [] = []
unknown_in scheduled (x ∷ l) = pick (is_some (find scheduled x)) (unknown_in scheduled l) (x ∷ unknown_in scheduled l)
