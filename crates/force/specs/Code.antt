-- What the call tells.
use Rattle.std.specs.Prelude.{ℕ, ◌≡◌, Bool, not, ◌&&◌, List, eqb, Option, None, Some, Result}
use Rattle.base.specs.Base.{pick, is_empty}
use Rattle.point.specs.Point.{PointInfo}
use Rattle.point.specs.declared.data.PointMap.{PointMap}
use Rattle.point.specs.declared.data.PointMap.TheVariants as maps
use Rattle.schedule.specs.Settings.{Settings}
use Rattle.reasons.specs.Refusal.{numbered, filled_number, filled_count}
use Rattle.reasons.specs.declared.refusal.Refusal.{Refusal}
use Rattle.rules.specs.List.{directs, indirects}
use Rattle.rules.specs.Trail.{Row, rule_row}
use Rattle.rules.specs.Force.{finals, ranked, number_told, count_told, list_told}
use Rattle.judge_mismatch.specs.Code.{listed}

-- the map whose round the presence rules miss
abbrev pub missing : ℕ → PointInfo → Option PointMap
missing presence p =
    pick (eqb presence 0) (Some maps.Evidence)
    (pick (eqb presence 1) (Some maps.Includes)
    (pick (eqb presence 2 && not (is_empty p.witness)) (Some maps.Witness) None))

-- the rows over a list that reads, or the presence rule's
abbrev pub rows_over : Settings → Bool → PointInfo → List ℕ → Option PointMap → List Row
rows_over c required p s None = ranked (finals c required p (directs (listed s)) (indirects (listed s)))
rows_over c required p s (Some m) = rule_row m

-- of what the definition gives, over a lent list
pub record Told (given : Result (List Row) ℕ) (old new : List ℕ) (r : Result ℕ Refusal) : Type 0 where
  pub number : filled_number (numbered r) ≡ number_told given
  pub count : (k : ℕ) → filled_count (numbered r) k ≡ count_told given k
  pub written : new ≡ list_told given old
