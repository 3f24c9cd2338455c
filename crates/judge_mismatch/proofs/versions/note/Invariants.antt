-- `note` meets its contract: the versions before what is left are the block (`Noting`).
use Rattle.point.specs.Code.{point_id_of}
use Rattle.judge_mismatch.proofs.Own.{Noting}
use Rattle.judge_mismatch.proofs.versions.note.Given as goal

abbrev pub invariant-loop-at : goal.invariant-loop-at
invariant-loop-at l = Noting (point_id_of l.own) l.list.bytes.now l.index l.at-iterator
