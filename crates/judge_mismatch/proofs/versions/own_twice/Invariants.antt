-- `own_twice` meets its contract: what is left has a version twice exactly if the list has one.
use mathlib.Core.Path.{◌≡◌}
use lib.ListN.{length}
use Rattle.point.specs.Code.{point_id_of}
use Rattle.judge_mismatch.specs.Code.{is_twice_in, own_in}
use Rattle.judge_mismatch.proofs.versions.own_twice.Given as goal

abbrev pub invariant-loop-left : goal.invariant-loop-left
invariant-loop-left l = is_twice_in (own_in (point_id_of l.own) l.left.bytes.now) ≡ is_twice_in (own_in (point_id_of l.own) l.list.bytes.now)

abbrev pub decreases-loop-left : goal.decreases-loop-left
decreases-loop-left l = length l.left.bytes.now
