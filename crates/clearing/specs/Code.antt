-- What the code's values stand for, and what its functions promise each other.
use Rattle.std.specs.Prelude.{ℕ, Bool, true, false, not, List, Option, None, Some, Err, Ok, Result}
use Rattle.base.specs.Base.{pick}
use Rattle.point.specs.Point.{PointId, PointInfo, same_id}
use Rattle.point.specs.Code.{point_id_of}
use Rattle.schedule.specs.Settings.{Settings}
use Rattle.reasons.specs.Refusal.{refusal_number}
use Rattle.reasons.specs.Verdict.{Verdict, Fail, IllFormed, Invalid, TransInvalid, Valid}
use Rattle.reasons.specs.declared.refusal.Refusal.{Refusal}
use Rattle.rules.specs.Validate.{Taken, as_dependency, as_prev_point, as_version, aside}
use Rattle.rules.specs.Judge.{Before, judge_from}
use Rattle.rules.specs.Clearing as definition
use Rattle.rules.specs.Clearing.{Clearing, NotWaiting, NoSingleMark, ClearedBy, recording_from, all_same, by_one}
use Rattle.clearing.specs.declared.Clearing as code
use Rattle.clearing.specs.declared.Clearing.TheVariants as case

abbrev pub clearing_in : code.Clearing → Clearing
clearing_in case.NotWaiting = NotWaiting
clearing_in case.NoSingleMark = NoSingleMark
clearing_in (case.ClearedBy i) = ClearedBy (point_id_of i)

abbrev pub clearing_of : Result code.Clearing Refusal → Result Clearing ℕ
clearing_of (Err r) = Err (refusal_number r)
clearing_of (Ok x) = Ok (clearing_in x)

-- what is answered of a point of which this is known before the list
abbrev pub clearing_from : Settings → ℕ → PointInfo → List ℕ → Before → Result Clearing ℕ
clearing_from c presence p list b = definition.clearing_of (judge_from c presence p list b) (recording_from c presence p list b)

abbrev pub is_trans_invalid : Verdict → Bool
is_trans_invalid (Fail u) = false
is_trans_invalid (IllFormed r) = false
is_trans_invalid (Invalid r) = false
is_trans_invalid (TransInvalid d) = true
is_trans_invalid Valid = false

-- an entry that is taken so may record something
abbrev pub is_dependency : Taken → Bool
is_dependency as_dependency = true
is_dependency as_prev_point = true
is_dependency as_version = false
is_dependency aside = false

-- whether a point is another than the one that was found first, if any was
abbrev pub is_other : Option PointId → PointId → Bool
is_other None i = false
is_other (Some first) i = not (same_id i first)

-- `by_one` of the one that was found first, if any was, and more
abbrev pub by_one_after : Option PointId → List PointId → Clearing
by_one_after None l = by_one l
by_one_after (Some first) l = pick (all_same first l) (ClearedBy first) NoSingleMark
