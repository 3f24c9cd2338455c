-- What a walk comes to. It stands apart from Code, for the struct Walked.
use Rattle.std.specs.Prelude.{ℕ, ◌≤◌, ◌<◌, ◌≡◌, List, [], option_map}
use mathlib.Core.List.{Memᴰ}
use Rattle.reasons.specs.Code.{reason_of}
use Rattle.reasons.specs.Invalid.{invalid_number}
use Rattle.rules.specs.Trail.{Row}
use Rattle.rules.specs.Force.{firsts}
use Rattle.trail_rows.specs.Code.{Put}
use Rattle.force_rows.specs.Code.{of_number, last_reason}
use Rattle.force_rows.specs.declared.walk.Walked as code

-- of these rows those of number k were put after n others, each reason once; which of them is the last; and no row has a number between k
-- and the next
pub record NumberPut (rows : List Row) (k n : ℕ) (old new : List ℕ) (w : code.Walked) : Type 0 where
  pub put : Put old n (of_number k (firsts [] rows)) new w.rows
  pub last : option_map reason_of w.last ≡ last_reason k rows
  pub above : (x : Row) → Memᴰ x rows → k < invalid_number x.reason → w.next ≤ invalid_number x.reason
