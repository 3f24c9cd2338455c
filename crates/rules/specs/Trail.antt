-- Ticket U2 of document 02, "Every rule that fired": the rows of a judgement, and what the call gives.
use Rattle.std.specs.Prelude.{ℕ, suc, ◌*◌, Bool, not, ◌&&◌, List, [], ◌∷◌, ◌++◌, map, length, leb, ltb, eqb, Option, None, Some}
use Rattle.base.specs.Base.{pick, when, is_empty}
use Rattle.parts.specs.Bytes.{little_bytes, put_at}
use Rattle.point.specs.Point.{PointInfo}
use Rattle.point.specs.declared.data.PointMap.{PointMap}
use Rattle.point.specs.declared.data.PointMap.TheVariants as maps
use Rattle.schedule.specs.Settings.{Settings}
use Rattle.reasons.specs.Invalid.{InvalidReason, NoRoundInDag, DependencyRoundDropped, invalid_answer}
use Rattle.rules.specs.DagPoint.{Entry, IndirectEntry, PointView, point_view, is_dropped}
use Rattle.rules.specs.Validate.{entry_findings, indirect_findings}
use Rattle.rules.specs.List.{Listed, read_list, directs, indirects}
use Rattle.rules.specs.Judge.{Tested, refused, admitted, JudgeAnswer, Number, Given, Before, answered, needed, before}

-- ---- "one row .. per reason as it is set, in the order of judging"

-- "the list (0 none, 1 direct, 2 indirect), the entry's place in that list (.. from 0)", and the reason
pub record Row : Type 0 where
  pub list : ℕ
  pub place : ℕ
  pub reason : InvalidReason

abbrev pub row : ℕ → ℕ → InvalidReason → Row
row list place reason = record { list = list; place = place; reason = reason }

-- the reasons of an entry
abbrev pub rows_at : ℕ → ℕ → List InvalidReason → List Row
rows_at list place reasons = map (row list place) reasons

-- of a dropped entry: "A dropped entry after an earlier reason adds none"
abbrev pub dropped_rows : ℕ → List Row → List Row
dropped_rows i old = rows_at 1 i (when (is_empty old) DependencyRoundDropped)

-- check_valid, verifier.rs 385-550, of entries from place i on; a dropped one ends it
unfoldable pub direct_rows : Settings → Bool → PointView → ℕ → List Row → List Entry → List Row
unfolding entry_findings
direct_rows c required p i old [] = old
direct_rows c required p i old (e ∷ l) =
    pick (is_dropped e.state)
    (old ++ dropped_rows i old)
    (direct_rows c required p (suc i) (old ++ rows_at 1 i (entry_findings c required p e).trail) l)

-- check_indirect_links, verifier.rs 552-641
unfoldable pub indirect_rows : Settings → PointInfo → ℕ → List Row → List IndirectEntry → List Row
unfolding indirect_findings
indirect_rows c p i old [] = old
indirect_rows c p i old (a ∷ l) = indirect_rows c p (suc i) (old ++ rows_at 2 i (indirect_findings c p a).trail) l

-- "Indirect entries are judged only if the direct ones gave no reason": validate, verifier.rs 264-280
unfoldable pub list_rows : Settings → Bool → PointInfo → List Entry → List IndirectEntry → List Row
unfolding direct_rows indirect_rows point_view
list_rows c required p es ts =
    let direct = direct_rows c required (point_view p) 0 [] es in
    pick (is_empty direct) (indirect_rows c p 0 [] ts) direct

-- "If the presence rule set the reason, its row stands alone, with place 0 and role 255": the list is 0
abbrev pub rule_row : PointMap → List Row
rule_row m = row 0 0 (NoRoundInDag m) ∷ []

-- validate, verifier.rs 208-211, 221-224, 237-239, in its order
unfoldable pub trail : Settings → Bool → ℕ → PointInfo → List Entry → List IndirectEntry → List Row
unfolding list_rows
trail c required presence p es ts =
    pick (eqb presence 0) (rule_row maps.Evidence)
    (pick (eqb presence 1) (rule_row maps.Includes)
    (pick (eqb presence 2 && not (is_empty p.witness)) (rule_row maps.Witness)
    (list_rows c required p es ts)))

-- ---- of a call: "Only reasons of Invalid have rows", so there is none where an answer was given before the list or the presence was
-- asked, and with a number

abbrev pub trail_over : Settings → Bool → ℕ → PointInfo → Option (List Listed) → List Row
trail_over c required presence p None = []
trail_over c required presence p (Some l) = trail c required presence p (directs l) (indirects l)

abbrev pub trail_from : Settings → ℕ → PointInfo → List ℕ → Before → List Row
trail_from c presence p list (answered x) = []
trail_from c presence p list (needed required) =
    pick (leb 2 presence) (trail_over c required presence p (read_list list)) (trail c required presence p [] [])

unfoldable pub trail_with : ℕ → ℕ → List ℕ → Tested → List Row
unfolding before trail
trail_with leader presence list (refused n) = []
trail_with leader presence list (admitted i) =
    trail_from i.settings presence i.point list (before i.settings i.schedule (eqb leader 1) i.point)

-- ---- eight bytes a row

-- "the list .., the entry's place in that list (2 bytes ..), the reason number, the role that it names (0 proof, 1 trigger) or 255, and
-- three zeros"
abbrev pub row_bytes : Row → List ℕ
row_bytes r = r.list ∷ little_bytes 2 r.place ++ (invalid_answer r.reason).reason ∷ (invalid_answer r.reason).role ∷ 0 ∷ 0 ∷ 0 ∷ []

unfoldable pub rows_bytes : List Row → List ℕ
unfolding little_bytes
rows_bytes [] = []
rows_bytes (r ∷ l) = row_bytes r ++ rows_bytes l

-- ---- the call, over a trail of so many bytes

-- "15, the trail has space for fewer rows than there are, tested after judging"
abbrev pub fitted : JudgeAnswer → List Row → ℕ → JudgeAnswer
fitted (Number n) rows size = Number n
fitted (Given v) rows size = pick (ltb size (8 * length rows)) (Number 15) (Given v)

-- how many rows were written, where `old` stood before; and the trail: with a number both keep what they held
abbrev pub rows_told : JudgeAnswer → List Row → ℕ → ℕ
rows_told (Number n) rows old = old
rows_told (Given v) rows old = length rows

abbrev pub trail_told : JudgeAnswer → List Row → List ℕ → List ℕ
trail_told (Number n) rows old = old
trail_told (Given v) rows old = put_at old 0 (rows_bytes rows)
