-- `are_targets` meets its contract: what is left of the list, with the roles that stood, gives what the whole list gives.
use mathlib.Core.Path.{◌≡◌}
use Prim.Native.Nat.{ℕ}
use mathlib.Core.Bool.{false}
use mathlib.Core.List.{List, []}
use Rattle.point.specs.Code.{point_of}
use Rattle.rules.specs.List.{directs, indirects}
use Rattle.judge_mismatch.specs.Code.{listed}
use Rattle.judge_mismatch.specs.Entries.{left_of}
use Rattle.rules.specs.Mismatch.{all_targets}
use Rattle.judge_mismatch.proofs.targets.are_targets.Given as goal

abbrev pub invariant-loop-head : goal.invariant-loop-head
invariant-loop-head l =
    (directs (left_of l.head-iterator) ≡ [])
    × ((s : List ℕ) → all_targets (point_of s l.info) l.proof l.trigger (indirects (left_of l.head-iterator)) ≡ all_targets (point_of s l.info) false false (indirects (listed l.list.bytes.now)))
