-- `write_marks` meets its contract: the entries before j have their marks.
use mathlib.Core.Bool.{Bool}
use Rattle.point.specs.Point.{PointId}
use Rattle.book_certify.specs.Code.{ReachedTold}
use Rattle.book_certify.proofs.Marking.{Marking}
use Rattle.book_certify.proofs.Walk.write_marks.Given as goal

abbrev pub invariant-loop-j : goal.invariant-loop-j
invariant-loop-j l =
    (test : PointId → Bool) → ReachedTold l.initial.book l.index l.self test → Marking l.initial.book test l.j l.book
