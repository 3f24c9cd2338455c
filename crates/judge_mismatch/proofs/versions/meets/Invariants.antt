-- `meets` meets its contract: what is left meets the index exactly if all of it does (`Meeting`).
use Rattle.point.specs.Code.{point_id_of}
use Rattle.judge_mismatch.proofs.Own.{Meeting}
use Rattle.judge_mismatch.proofs.versions.meets.Given as goal

abbrev pub invariant-loop-head : goal.invariant-loop-head
invariant-loop-head l = Meeting (point_id_of l.own) l.list l.left.bytes.now l.index l.head-iterator
