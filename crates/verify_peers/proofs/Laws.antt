-- Laws of checks of peers.
use Rattle.std.specs.Option.{option_or}
use mathlib.Core.Path.{◌≡◌}
use Rattle.base.specs.Base.{concat, first_of}
use Rattle.base.proofs.Firsts.{row_steps, first_when, three_rows}
use Rattle.base.proofs.Lists.{empty-length}
use Rattle.point.specs.Point.{PointInfo}
use Rattle.point.proofs.Maps.{map_facts}
use Rattle.schedule.specs.Settings.{Settings}
use Rattle.verify_unknown.proofs.Laws.{put_none, unknown-few}
use Rattle.rules.specs.Verify.{Scheduled, evidence_rows, includes_rows, witness_rows, peer_rows}

-- what check_known needs: no more peers are unknown than there are
pub ruleset known_facts = (row_steps, empty-length, unknown-few)

-- what the checks of the three maps need: without unknown peers the buffer is as it was
pub ruleset peer_facts = (row_steps, empty-length, put_none, map_facts)

-- the first fault is that of evidence, else of includes, else of witness
module _ (c : Settings) (k : Scheduled) (p : PointInfo) where
  pub peer_first : first_of (concat (peer_rows c k p)) ≡
      option_or (first_of (concat (evidence_rows c k p))) (option_or (first_of (concat (includes_rows k p))) (first_of (concat (witness_rows c k p))))
  unfolding peer_rows
  peer_first = three_rows (concat (evidence_rows c k p)) (concat (includes_rows k p)) (concat (witness_rows c k p))
