-- What the functions of the trail promise each other.
use Rattle.std.specs.Prelude.{ℕ, ◌*◌, ◌≤◌, ◌≡◌, Bool, List, [], ◌∷◌, length, take, Option, None, Some}
use Rattle.point.specs.Point.{PointInfo}
use Rattle.schedule.specs.Settings.{Settings}
use Rattle.reasons.specs.Invalid.{InvalidReason}
use Rattle.reasons.specs.Verdict.{Verdict, Invalid}
use Rattle.rules.specs.List.{directs, indirects}
use Rattle.rules.specs.Trail.{Row, row, rows_bytes, list_rows}
use Rattle.judge_mismatch.specs.Code.{listed}

-- the reason of an Invalid verdict
abbrev pub ReasonOf : Verdict → Option InvalidReason → Type 0
ReasonOf v None = (r : InvalidReason) → v ≡ Invalid r → ⊥
ReasonOf v (Some r) = v ≡ Invalid r

-- the rows over a list that reads, or of a reason that stands alone
abbrev pub rows_over : Settings → Bool → PointInfo → List ℕ → Option InvalidReason → List Row
rows_over c required p s None = list_rows c required p (directs (listed s)) (indirects (listed s))
rows_over c required p s (Some r) = row 0 0 r ∷ []

-- a slice in which as many rows were put as there are: all of them stand in its front, if they fit
pub record Kept (rows : List Row) (kept : List ℕ) (m : ℕ) : Type 0 where
  pub count : m ≡ length rows
  pub bytes : 8 * m ≤ length kept → take (8 * m) kept ≡ rows_bytes rows
