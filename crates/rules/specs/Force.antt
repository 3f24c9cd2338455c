-- Ticket U11 of document 02, "What the network can force": the reasons that some order of arrival gives, and what the call gives.
use Rattle.std.specs.Prelude.{ℕ, suc, ◌+◌, ◌*◌, Bool, true, false, not, ◌&&◌, ◌||◌, List, [], ◌∷◌, ◌++◌, length, leb, ltb, eqb, Option, None, Some, Err, Ok, Result}
use Rattle.base.specs.Base.{pick, last_of, is_empty}
use Rattle.parts.specs.Bytes.{put_at}
use Rattle.map.specs.Risen.{risen}
use Rattle.point.specs.Point.{PointInfo, same_id}
use Rattle.point.specs.declared.data.PointMap.TheVariants as maps
use Rattle.schedule.specs.Settings.{Settings}
use Rattle.reasons.specs.Invalid.{InvalidReason, DependencyRoundDropped, BadStickySequence, invalid_answer, invalid_number}
use Rattle.rules.specs.DagPoint.{Entry, IndirectEntry, PointView, point_view, is_dropped}
use Rattle.rules.specs.Validate.{entry_findings, indirect_findings}
use Rattle.rules.specs.List.{Listed, read_list, directs, indirects}
use Rattle.rules.specs.Judge.{Tested, refused, admitted, JudgeAnswer, Number, Given, Before, answered, needed, before, judge_with}
use Rattle.rules.specs.Trail.{Row, rows_at, rule_row, rows_bytes}

-- ---- "the final reasons of the direct entries that give one"

abbrev pub list_of : Option InvalidReason → List InvalidReason
list_of None = []
list_of (Some reason) = reason ∷ []

-- an entry's final reason; "With a dropped one, `DependencyRoundDropped` joins them"
abbrev pub direct_final : Settings → Bool → PointView → Entry → List InvalidReason
direct_final c required p e = pick (is_dropped e.state) (DependencyRoundDropped ∷ []) (list_of (last_of (entry_findings c required p e).trail))

-- from place i on
unfoldable pub direct_finals : Settings → Bool → PointView → ℕ → List Entry → List Row
unfolding last_of entry_findings
direct_finals c required p i [] = []
direct_finals c required p i (e ∷ l) = rows_at 1 i (direct_final c required p e) ++ direct_finals c required p (suc i) l

-- "dropped ones add nothing"
unfoldable pub indirect_finals : Settings → PointInfo → ℕ → List IndirectEntry → List Row
unfolding last_of indirect_findings
indirect_finals c p i [] = []
indirect_finals c p i (a ∷ l) = rows_at 2 i (list_of (last_of (indirect_findings c p a).trail)) ++ indirect_finals c p (suc i) l

-- "If the direct entries give none, the same is asked of the indirect entries"
unfoldable pub finals : Settings → Bool → PointInfo → List Entry → List IndirectEntry → List Row
unfolding direct_finals indirect_finals point_view
finals c required p es ts =
    let direct = direct_finals c required (point_view p) 0 es in
    pick (is_empty direct) (indirect_finals c p 0 ts) direct

-- ---- "each once, .. by reason number and then by the entry's place"

-- the previous seq_no that a reason names
abbrev pub named_prev : InvalidReason → Option ℕ
named_prev (BadStickySequence i o n) = o
named_prev r = None

abbrev pub same_prev : Option ℕ → Option ℕ → Bool
same_prev None None = true
same_prev (Some m) (Some n) = eqb m n
same_prev o p = false

-- reasons are equal if the number and all that they name are. The previous seq_no is compared itself: in an answer, a number stands for none
abbrev pub same_reason : InvalidReason → InvalidReason → Bool
same_reason r s =
    let a = invalid_answer r in
    let b = invalid_answer s in
    eqb a.reason b.reason
    && (same_id a.id b.id
    && (eqb a.map b.map
    && (eqb a.role b.role
    && (eqb a.first b.first && same_prev (named_prev r) (named_prev s)))))

unfoldable pub has_reason_of : List Row → Row → Bool
unfolding same_id
has_reason_of [] r = false
has_reason_of (s ∷ l) r = same_reason s.reason r.reason || has_reason_of l r

-- "equal reasons, and drops, take the earliest place": a row stays unless one before has an equal reason
unfoldable pub firsts : List Row → List Row → List Row
unfolding has_reason_of
firsts before [] = []
firsts before (r ∷ l) = pick (has_reason_of before r) (firsts before l) (r ∷ firsts (before ++ (r ∷ [])) l)

-- a place takes two bytes
abbrev pub rank : Row → ℕ
rank r = invalid_number r.reason * 65536 + r.place

unfoldable pub ranked : List Row → List Row
unfolding firsts
ranked l = risen rank (firsts [] l)

-- ---- of a judgement: "The presence rules leave one reason only"

unfoldable pub forceable : Settings → Bool → ℕ → PointInfo → List Entry → List IndirectEntry → List Row
unfolding ranked finals
forceable c required presence p es ts =
    pick (eqb presence 0) (rule_row maps.Evidence)
    (pick (eqb presence 1) (rule_row maps.Includes)
    (pick (eqb presence 2 && not (is_empty p.witness)) (rule_row maps.Witness)
    (ranked (finals c required p es ts))))

-- ---- of a call, as the trail's (Trail.antt)

abbrev pub forceable_over : Settings → Bool → ℕ → PointInfo → Option (List Listed) → List Row
forceable_over c required presence p None = []
forceable_over c required presence p (Some l) = forceable c required presence p (directs l) (indirects l)

abbrev pub forceable_from : Settings → ℕ → PointInfo → List ℕ → Before → List Row
forceable_from c presence p list (answered x) = []
forceable_from c presence p list (needed required) =
    pick (leb 2 presence) (forceable_over c required presence p (read_list list)) (forceable c required presence p [] [])

unfoldable pub forceable_with : ℕ → ℕ → List ℕ → Tested → List Row
unfolding before forceable
forceable_with leader presence list (refused n) = []
forceable_with leader presence list (admitted i) =
    forceable_from i.settings presence i.point list (before i.settings i.schedule (eqb leader 1) i.point)

-- "17, the lent list is too short for the reasons; it comes last"
abbrev pub forced_of : JudgeAnswer → List Row → ℕ → Result (List Row) ℕ
forced_of (Number n) rows size = Err n
forced_of (Given v) rows size = pick (ltb size (8 * length rows)) (Err 17) (Ok rows)

abbrev pub force_with : ℕ → ℕ → List ℕ → Tested → ℕ → Result (List Row) ℕ
force_with leader presence list t size = forced_of (judge_with leader presence list t) (forceable_with leader presence list t) size

-- the number, 0 where there is none
abbrev pub number_told : Result (List Row) ℕ → ℕ
number_told (Err n) = n
number_told (Ok rows) = 0

-- how many rows were written, where `old` stood before; and the lent list: with a number both keep what they held
abbrev pub count_told : Result (List Row) ℕ → ℕ → ℕ
count_told (Err n) old = old
count_told (Ok rows) old = length rows

abbrev pub list_told : Result (List Row) ℕ → List ℕ → List ℕ
list_told (Err n) old = old
list_told (Ok rows) old = put_at old 0 (rows_bytes rows)
