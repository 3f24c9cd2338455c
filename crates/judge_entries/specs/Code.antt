-- What the code's values stand for.
use Rattle.std.specs.Prelude.{ℕ, List, Option, None, Some}
use Rattle.std.specs.Option.{ForSome}
use Rattle.point.specs.Code.{point_id_of, point_of, Reads}
use Rattle.point.specs.declared.info.PointInfo as code-info
use Rattle.rules.specs.DagPoint.{DagPoint, Valid, TransInvalid, Invalid, IllFormed, NotFound, Dropped}
use Rattle.judge_entries.specs.declared.entry.DagPoint as code
use Rattle.judge_entries.specs.declared.entry.DagPoint.TheVariants as case

-- of an entry's record, which stands apart
abbrev pub dag_point_of : List ℕ → code.DagPoint → DagPoint
dag_point_of s (case.Valid i) = Valid (point_of s i)
dag_point_of s (case.TransInvalid i root n) = TransInvalid (point_of s i) (point_id_of root) n
dag_point_of s (case.Invalid i n) = Invalid (point_of s i) n
dag_point_of s (case.IllFormed i n) = IllFormed (point_id_of i) n
dag_point_of s (case.NotFound i) = NotFound (point_id_of i)
dag_point_of s case.Dropped = Dropped

-- what was read of an entry's point, if it has one
abbrev pub info_of : code.DagPoint → Option code-info.PointInfo
info_of (case.Valid i) = Some i
info_of (case.TransInvalid i root n) = Some i
info_of (case.Invalid i n) = Some i
info_of (case.IllFormed i n) = None
info_of (case.NotFound i) = None
info_of case.Dropped = None

-- it was read from this record
abbrev pub ReadFrom : List ℕ → code.DagPoint → Type 0
ReadFrom s d = ForSome (info_of d) (Reads s)
