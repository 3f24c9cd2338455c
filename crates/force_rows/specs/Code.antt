-- What the walks promise each other of rows.
use Rattle.std.specs.Prelude.{ℕ, ◌≡◌, Bool, true, false, List, [], ◌∷◌, eqb, Option, None, Some}
use Rattle.base.specs.Base.{pick, last_of}
use Rattle.point.specs.Point.{PointInfo}
use Rattle.schedule.specs.Settings.{Settings}
use Rattle.reasons.specs.Invalid.{InvalidReason, invalid_number}
use Rattle.point.specs.declared.data.AnchorStageRole.{AnchorStageRole}
use Rattle.rules.specs.DagPoint.{Entry, point_view}
use Rattle.rules.specs.Validate.{indirect_findings}
use Rattle.rules.specs.List.{Listed, directs, indirects}
use Rattle.rules.specs.Mismatch.{mismatch}
use Rattle.rules.specs.Trail.{Row}
use Rattle.rules.specs.Fired.{reasons_in}
use Rattle.rules.specs.Force.{list_of, direct_final, direct_finals, indirect_finals, same_reason, has_reason_of}
use Rattle.judge_mismatch.specs.Code.{listed}

-- the final reason of an entry, which is direct or stands for a link
abbrev pub final_for : Settings → Bool → PointInfo → Entry → Option AnchorStageRole → List InvalidReason
final_for c required p e None = direct_final c required (point_view p) e
final_for c required p e (Some g) = list_of (last_of (indirect_findings c p (record { role = g; entry = e })).trail)

abbrev pub final_in : Settings → Bool → PointInfo → Listed → List InvalidReason
final_in c required p x = final_for c required p x.entry x.aim

-- the numbers of the lists in a row
abbrev pub list_number : Bool → ℕ
list_number false = 1
list_number true = 2

-- the rows of the indirect entries, or of the direct ones, from place i on
abbrev pub kind_rows : Settings → Bool → PointInfo → Bool → ℕ → List Listed → List Row
kind_rows c required p false i l = direct_finals c required (point_view p) i (directs l)
kind_rows c required p true i l = indirect_finals c p i (indirects l)

-- number 8 was not given
abbrev pub Matching : PointInfo → List ℕ → Type 0
Matching p s = (presence : ℕ) × (mismatch presence p (directs (listed s)) (indirects (listed s)) ≡ false)

-- the rows of one reason number
unfoldable pub of_number : ℕ → List Row → List Row
of_number k [] = []
of_number k (r ∷ l) = pick (eqb (invalid_number r.reason) k) (r ∷ of_number k l) (of_number k l)

-- the last reason of that number
abbrev pub last_reason : ℕ → List Row → Option InvalidReason
last_reason k l = last_of (reasons_in (of_number k l))

abbrev pub is_same_as : Option InvalidReason → InvalidReason → Bool
is_same_as None r = false
is_same_as (Some s) r = same_reason s r

-- if an earlier row has a reason, the last of its number has it
abbrev pub Near : List Row → Row → Type 0
Near rows r = has_reason_of rows r ≡ true → is_same_as (last_reason (invalid_number r.reason) rows) r.reason ≡ true
