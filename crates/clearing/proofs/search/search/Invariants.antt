-- `search` meets its contract: what was found, with what is left, answers as the whole list does.
use Rattle.std.specs.Prelude.{option_map}
use lib.ListN.{length}
use Rattle.point.specs.Code.{point_id_of}
use Rattle.schedule.specs.Code.{settings_of}
use Rattle.judge_valid.specs.Code.{point_view_of}
use Rattle.clearing.proofs.Laws.{Keeps}
use Rattle.clearing.proofs.search.search.Given as goal

abbrev pub invariant-loop-left : goal.invariant-loop-left
invariant-loop-left l =
    Keeps (settings_of l.by.conf) l.by.required (point_view_of l.by.view) l.list (option_map point_id_of l.first) l.left

abbrev pub decreases-loop-left : goal.decreases-loop-left
decreases-loop-left l = length l.left
