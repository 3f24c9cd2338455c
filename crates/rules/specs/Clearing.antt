-- Ticket U13 of document 02, "Which certificate would clear it": what the call says of a trans-invalid point.
use Rattle.std.specs.Prelude.{ℕ, Bool, true, ◌&&◌, List, [], ◌∷◌, replicate, leb, eqb, Option, None, Some, is_some, Err, Ok, Result}
use Rattle.base.specs.Base.{pick}
use Rattle.parts.specs.Bytes.{put_at}
use Rattle.parts.specs.Limits.{peers_room}
use Rattle.point.specs.Point.{PointId, PointInfo, same_id}
use Rattle.point.specs.Written.{id_bytes}
use Rattle.point.specs.declared.data.AnchorStageRole.{AnchorStageRole}
use Rattle.schedule.specs.Settings.{Settings}
use Rattle.reasons.specs.Invalid.{InvalidDependency}
use Rattle.reasons.specs.Verdict.{Verdict, Fail, IllFormed, Invalid, TransInvalid, Valid}
use Rattle.rules.specs.DagPoint.{Entry, point_view, entry_id}
use Rattle.rules.specs.Validate.{entry_findings, indirect_findings}
use Rattle.rules.specs.List.{Listed, read_list}
use Rattle.rules.specs.Judge.{Tested, refused, admitted, tested, flags_ok, JudgeAnswer, Number, Given, Before, answered, needed, before, judge_with}

-- ---- the recording points

-- what an entry brings to the record, direct or indirect
abbrev pub brought : Settings → Bool → PointInfo → Option AnchorStageRole → Entry → Option InvalidDependency
brought c required p None e = (entry_findings c required (point_view p) e).root
brought c required p (Some g) e = (indirect_findings c p (record { role = g; entry = e })).root

-- the points of the entries that bring something, whether it stayed or not
unfoldable pub recording : Settings → Bool → PointInfo → List Listed → List PointId
unfolding entry_findings indirect_findings point_view
recording c required p [] = []
recording c required p (x ∷ l) =
    pick (is_some (brought c required p x.aim x.entry)) (entry_id x.entry.state ∷ recording c required p l) (recording c required p l)

-- of a call whose verdict is over a list; else there is none
abbrev pub recording_over : Settings → Bool → PointInfo → Option (List Listed) → List PointId
recording_over c required p None = []
recording_over c required p (Some l) = recording c required p l

abbrev pub recording_from : Settings → ℕ → PointInfo → List ℕ → Before → List PointId
recording_from c presence p list (answered x) = []
recording_from c presence p list (needed required) = pick (leb 2 presence) (recording_over c required p (read_list list)) []

unfoldable pub recording_with : ℕ → ℕ → List ℕ → Tested → List PointId
unfolding before recording
recording_with leader presence list (refused n) = []
recording_with leader presence list (admitted i) =
    recording_from i.settings presence i.point list (before i.settings i.schedule (eqb leader 1) i.point)

-- ---- what the call says

pub data Clearing : Type 0 where
  NotWaiting : Clearing
  NoSingleMark : Clearing
  ClearedBy : PointId → Clearing

-- whether all points are one
unfoldable pub all_same : PointId → List PointId → Bool
unfolding same_id
all_same i [] = true
all_same i (j ∷ l) = same_id j i && all_same i l

-- one mark clears a point of which all recording entries are, "wherever that point stands in the lists". "If no single mark does, say so"
unfoldable pub by_one : List PointId → Clearing
unfolding all_same
by_one [] = NoSingleMark
by_one (i ∷ l) = pick (all_same i l) (ClearedBy i) NoSingleMark

-- "For verdicts of other kinds it answers 'not waiting'"
abbrev pub cleared_of : Verdict → List PointId → Clearing
cleared_of (Fail u) ids = NotWaiting
cleared_of (IllFormed r) ids = NotWaiting
cleared_of (Invalid r) ids = NotWaiting
cleared_of (TransInvalid d) ids = by_one ids
cleared_of Valid ids = NotWaiting

abbrev pub clearing_of : JudgeAnswer → List PointId → Result Clearing ℕ
clearing_of (Number n) ids = Err n
clearing_of (Given v) ids = Ok (cleared_of v ids)

-- "This call .. [takes and tests] what judging does, without a peer buffer": as judging with one that is large enough
abbrev pub tested_without : List ℕ → List ℕ → List ℕ → ℕ → ℕ → Tested
tested_without settings schedule rec leader presence = tested settings schedule rec (flags_ok leader presence) peers_room

abbrev pub clearing_with : ℕ → ℕ → List ℕ → Tested → Result Clearing ℕ
clearing_with leader presence list t = clearing_of (judge_with leader presence list t) (recording_with leader presence list t)

-- ---- 69 bytes: 0 not waiting, 1 no single mark, 2 this point; then its id

abbrev pub clearing_bytes : Clearing → List ℕ
clearing_bytes NotWaiting = replicate 69 0
clearing_bytes NoSingleMark = 1 ∷ replicate 68 0
clearing_bytes (ClearedBy i) = 2 ∷ id_bytes i

abbrev pub clearing_number : Result Clearing ℕ → ℕ
clearing_number (Err n) = n
clearing_number (Ok x) = 0

-- with a number the answer keeps what it held
abbrev pub clearing_answer : Result Clearing ℕ → List ℕ → List ℕ
clearing_answer (Err n) old = old
clearing_answer (Ok x) old = put_at old 0 (clearing_bytes x)
