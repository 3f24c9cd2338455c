-- What the walk over the direct entries comes to. It stands apart from Code, for the struct Walked.
use Rattle.std.specs.Prelude.{ℕ, ◌<◌, ◌≡◌, Bool, true, List, [], is_some}
use Rattle.schedule.specs.Settings.{Settings}
use Rattle.rules.specs.DagPoint.{PointView}
use Rattle.rules.specs.List.{read_list, directs, indirects}
use Rattle.rules.specs.Trail.{direct_rows}
use Rattle.judge_mismatch.specs.Code.{listed}
use Rattle.trail_rows.specs.Code.{Put}
use Rattle.trail.specs.declared.walk.Walked as code

-- the rows were put; where there are none, all indirect entries are left, and nothing else
pub record DirectsPut (c : Settings) (required : Bool) (p : PointView) (s old new : List ℕ) (w : code.Walked) : Type 0 where
  pub put : Put old 0 (direct_rows c required p 0 [] (directs (listed s))) new w.rows
  pub few : w.rows < 1000000
  pub reads : w.rows ≡ 0 → is_some (read_list w.left.now) ≡ true
  pub last : w.rows ≡ 0 → directs (listed w.left.now) ≡ []
  pub targets : w.rows ≡ 0 → indirects (listed w.left.now) ≡ indirects (listed s)
