-- The public calls: document 01's numbers 1 to 5, then verification's verdict, or the whole of Verifier::validate, verifier.rs 176-291, with
-- the numbers in its way: genesis, 6, check_ill_formed, presence, 7, 8, 9, and the verdict.
use Rattle.std.specs.Prelude.{ℕ, Bool, not, ◌&&◌, true, false, List, [], ltb, leb, eqb, Option, None, Some, Err, Ok, Result}
use Rattle.base.specs.Base.{pick}
use Rattle.parts.specs.Limits.{peers_room}
use Rattle.map.specs.declared.Arrangement.{Arrangement}
use Rattle.map.specs.declared.Arrangement.TheVariants.{Columns}
use Rattle.point.specs.Point.{PointInfo, in_domain, prev_id}
use Rattle.point.specs.Reading.{read_point_in}
use Rattle.schedule.specs.Settings.{Settings, read_settings}
use Rattle.schedule.specs.Schedule.{Schedule, read_schedule}
use Rattle.reasons.specs.declared.ill_formed.VerifyError.{VerifyError}
use Rattle.rules.specs.Verify.{scheduled, verify, buffer_with}
use Rattle.reasons.specs.Verdict.{Verdict, IllFormed, Valid, of_error}
use Rattle.rules.specs.DagPoint.{Entry, IndirectEntry}
use Rattle.rules.specs.Validate.{validate}
use Rattle.rules.specs.CheckIllFormed.{wave_checked}
use Rattle.reasons.specs.declared.ill_formed.WaveChecked.{WaveChecked}
use Rattle.rules.specs.List.{Listed, read_list_in, directs, indirects}
use Rattle.rules.specs.Mismatch.{mismatch, uncovered}
use Rattle.reasons.specs.declared.ill_formed.WaveChecked.TheVariants as case-wave

-- ---- the numbers 1 to 5

-- what a call that read its input goes on with
pub record Input : Type 0 where
  pub settings : Settings
  pub schedule : Schedule
  pub point : PointInfo

-- the first of the numbers 1 to 5 that applies, or the input
pub data Tested : Type 0 where
  refused : ℕ → Tested
  admitted : Input → Tested

-- `others` says that the call's own tests of 4 passed
abbrev pub tested_with : Option Settings → Option Schedule → Option PointInfo → Bool → ℕ → Tested
tested_with None s p others size = refused 1
tested_with (Some c) None p others size = refused 2
tested_with (Some c) (Some s) None others size = refused 3
tested_with (Some c) (Some s) (Some p) others size =
    pick (not (in_domain p && others)) (refused 4)
    (pick (ltb size peers_room) (refused 5)
    (admitted (record { settings = c; schedule = s; point = p })))

-- "Verifying and judging test them in number order"
unfoldable pub tested_in : Arrangement → List ℕ → List ℕ → List ℕ → Bool → ℕ → Tested
unfolding read_settings read_schedule read_point_in in_domain
tested_in a settings schedule rec others size = tested_with (read_settings settings) (read_schedule schedule) (read_point_in a rec) others size

-- as the calls test it
abbrev pub tested : List ℕ → List ℕ → List ℕ → Bool → ℕ → Tested
tested settings schedule rec others size = tested_in Columns settings schedule rec others size

-- ---- the call `verify`

abbrev pub verified_from : Option VerifyError → Result Unit VerifyError
verified_from None = Ok tt
verified_from (Some e) = Err e

-- what verification found, or a number of document 01 in its place
abbrev pub VerifyAnswer : Type 0
VerifyAnswer = Result (Result Unit VerifyError) ℕ

abbrev pub verify_with : Tested → VerifyAnswer
verify_with (refused n) = Err n
verify_with (admitted i) = Ok (verified_from (verify i.settings i.schedule i.point))

-- what the peer buffer holds after verifying, and after judging too
abbrev pub verify_buffer : Tested → List ℕ → List ℕ
verify_buffer (refused n) buffer = buffer
verify_buffer (admitted i) buffer =
    buffer_with (scheduled i.settings i.schedule i.point) i.point (verify i.settings i.schedule i.point) buffer

-- ---- the call `judge`

-- a number of document 01 in place of a verdict, or the verdict
pub data JudgeAnswer : Type 0 where
  Number : ℕ → JudgeAnswer
  Given : Verdict → JudgeAnswer

-- ---- before any list is read: an answer, or that the list is needed if presence is 2 or 3, regular points required or not

pub data Before : Type 0 where
  answered : JudgeAnswer → Before
  needed : Bool → Before

-- "A verification that didn't pass ends the judgement there. Genesis is then Valid. Else `check_ill_formed`": validate, verifier.rs 192-197
abbrev pub before_with : Option VerifyError → Bool → WaveChecked → Before
before_with (Some e) genesis wave = answered (Given (of_error e))
before_with None true wave = answered (Given Valid)
before_with None false case-wave.Horizon = answered (Number 6)
before_with None false (case-wave.IllFormed r) = answered (Given (IllFormed r))
before_with None false (case-wave.Sound required) = needed required

unfoldable pub before : Settings → Schedule → Bool → PointInfo → Before
unfolding verify wave_checked
before c s leader p = before_with (verify c s p) (eqb p.id.round c.genesis_round) (wave_checked s leader p)

-- ---- the list

-- 8, 9, and the verdict over the direct and the indirect entries
abbrev pub over_entries : Settings → Bool → ℕ → PointInfo → List Entry → List IndirectEntry → JudgeAnswer
over_entries c required presence p es ts =
    pick (mismatch presence p es ts) (Number 8)
    (pick (uncovered (prev_id p) es ts) (Number 9)
    (Given (validate c required presence p es ts)))

abbrev pub over_list : Settings → Bool → ℕ → PointInfo → Option (List Listed) → JudgeAnswer
over_list c required presence p None = Number 7
over_list c required presence p (Some l) = over_entries c required presence p (directs l) (indirects l)

-- "Presence 0 and 1 .., the list unread"
abbrev pub judge_from_in : Arrangement → Settings → ℕ → PointInfo → List ℕ → Before → JudgeAnswer
judge_from_in a c presence p list (answered x) = x
judge_from_in a c presence p list (needed required) =
    pick (leb 2 presence) (over_list c required presence p (read_list_in a list))
    (Given (validate c required presence p [] []))

-- what is tested of the call's own numbers for 4
abbrev pub flags_ok : ℕ → ℕ → Bool
flags_ok leader presence = leb leader 1 && leb presence 3

unfoldable pub judge_with_in : Arrangement → ℕ → ℕ → List ℕ → Tested → JudgeAnswer
unfolding before read_list_in mismatch uncovered validate
judge_with_in a leader presence list (refused n) = Number n
judge_with_in a leader presence list (admitted i) =
    judge_from_in a i.settings presence i.point list (before i.settings i.schedule (eqb leader 1) i.point)

-- as the call judges
abbrev pub judge_from : Settings → ℕ → PointInfo → List ℕ → Before → JudgeAnswer
judge_from c presence p list x = judge_from_in Columns c presence p list x

abbrev pub judge_with : ℕ → ℕ → List ℕ → Tested → JudgeAnswer
judge_with leader presence list x = judge_with_in Columns leader presence list x
