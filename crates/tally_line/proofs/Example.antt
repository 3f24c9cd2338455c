-- Document 01's example, byte for byte.
use mathlib.Core.Path.{◌≡◌, refl}
use mathlib.Core.List.{[], ◌∷◌, ◌++◌}
use Rattle.tally_line.specs.declared.Line.{Line}
use Rattle.tally_line.specs.Text.{lines_bytes, end_bytes}

abbrev valid : Line
valid = record { place = 1; round = 10; letter = 86; reason = 0; number = 0 }

abbrev again : Line
again = record { place = 2; round = 10; letter = 45; reason = 0; number = 11 }

-- "1 10 V 0 0", "2 10 - 0 11", "end 1"
pub example : lines_bytes (valid ∷ again ∷ []) ++ end_bytes 1
    ≡ 49 ∷ 32 ∷ 49 ∷ 48 ∷ 32 ∷ 86 ∷ 32 ∷ 48 ∷ 32 ∷ 48 ∷ 10
    ∷ 50 ∷ 32 ∷ 49 ∷ 48 ∷ 32 ∷ 45 ∷ 32 ∷ 48 ∷ 32 ∷ 49 ∷ 49 ∷ 10
    ∷ 101 ∷ 110 ∷ 100 ∷ 32 ∷ 49 ∷ 10 ∷ []
unfolding lines_bytes end_bytes
example = refl
