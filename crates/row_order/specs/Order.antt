-- What an order of rows is: their positions, by the peers that stand there.
use Rattle.std.specs.Prelude.{ℕ, ◌+◌, ◌*◌, ◌<◌, ◌≤◌, ◌≡◌, true, false, List, ◌∷◌, ◌++◌, map, length, get_or, take, drop, Option, None, Some}
use Rattle.base.specs.Base.{tabulate}
use Rattle.map.specs.Rows.{peer_at, rising}
use Rattle.map.specs.Risen.{itself, insert, risen, is_among, has_twice}

-- positions of rows, whose peers rise
pub record Rising (rows order : List ℕ) : Type 0 where
  pub within : (k : ℕ) → k < length order → 32 * get_or order k 0 + 32 ≤ length rows
  pub rise : rising (map (peer_at rows) order) ≡ true

-- where row i belongs among those; none if its peer is one of theirs
abbrev pub PlaceOf : List ℕ → List ℕ → ℕ → Option ℕ → Type 0
PlaceOf rows order i None = is_among (peer_at rows i) (map (peer_at rows) order) ≡ true
PlaceOf rows order i (Some at) =
    (is_among (peer_at rows i) (map (peer_at rows) order) ≡ false)
    × (at ≤ length order)
    × (insert (peer_at rows) i order ≡ take at order ++ i ∷ drop at order)

-- the positions of the first n rows in the rising order of their peers; none if one of these is there twice
abbrev pub OrderOf : List ℕ → ℕ → Option (List ℕ) → Type 0
OrderOf rows n None = has_twice (tabulate (peer_at rows) n 0) ≡ true
OrderOf rows n (Some order) =
    (has_twice (tabulate (peer_at rows) n 0) ≡ false) × (take n order ≡ risen (peer_at rows) (tabulate itself n 0))
