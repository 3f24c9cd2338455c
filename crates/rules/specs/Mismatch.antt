-- Number 8: "an entry is neither a dependency nor, without previous digest, a version of the author at r−1; or an id twice among the
-- direct entries; or more dependencies lacking than dropped entries; or an indirect entry that no indirect link names, or a role
-- twice". And number 9.
use Rattle.std.specs.Prelude.{ℕ, zero, suc, ◌+◌, ◌-◌, Bool, true, false, not, ◌&&◌, ◌||◌, List, [], ◌∷◌, ltb, eqb, Option, None, Some, is_some}
use Rattle.base.specs.Base.{pick, is_empty}
use Rattle.map.specs.Rows.{Pair}
use Rattle.point.specs.Point.{PointId, AnchorLink, Direct, Indirect, PointInfo, prev_digest, anchor_link, same_id}
use Rattle.point.specs.declared.data.AnchorStageRole.{AnchorStageRole}
use Rattle.point.specs.declared.data.AnchorStageRole.TheVariants.{Proof, Trigger}
use Rattle.rules.specs.DagPoint.{DagPoint, Entry, IndirectEntry, entry_id, is_dropped, is_by}

-- ---- the direct entries

unfoldable pub has_id : List PointId → PointId → Bool
unfolding same_id
has_id [] i = false
has_id (j ∷ l) i = same_id j i || has_id l i

-- the dependency of a pair: includes are at r-1, witness at r-2
abbrev pub pair_id : ℕ → Pair → PointId
pair_id round q = record { round = round; digest = q.digest; author = q.peer }

unfoldable pub is_among : ℕ → List Pair → PointId → Bool
unfolding same_id
is_among round [] i = false
is_among round (q ∷ l) i = same_id (pair_id round q) i || is_among round l i

-- "without previous digest, a version of the author at r−1"
unfoldable pub is_version : PointInfo → PointId → Bool
unfolding prev_digest
is_version p i = not (is_some (prev_digest p)) && is_by (p.id.round - 1) p.id.author i

-- "With presence 2, witness and indirect entries are absent (one that stands there gives 8 ..)"
unfoldable pub has_place : ℕ → PointInfo → PointId → Bool
unfolding is_among is_version
has_place presence p i =
    is_among (p.id.round - 1) p.includes i
    || ((eqb presence 3 && is_among (p.id.round - 2) p.witness i)
    || is_version p i)

-- every entry has its place, and no id stands twice; `before` are the ids that stood before. A dropped entry has no id.
unfoldable pub all_placed : ℕ → PointInfo → List PointId → List Entry → Bool
unfolding has_place has_id
all_placed presence p before [] = true
all_placed presence p before (e ∷ l) =
    pick (is_dropped e.state) (all_placed presence p before l)
    ((has_place presence p (entry_id e.state) && not (has_id before (entry_id e.state)))
    && all_placed presence p (entry_id e.state ∷ before) l)

abbrev pub id_then : DagPoint → List PointId → List PointId
id_then d l = pick (is_dropped d) l (entry_id d ∷ l)

unfoldable pub ids_of : List Entry → List PointId
ids_of [] = []
ids_of (e ∷ l) = id_then e.state (ids_of l)

unfoldable pub dropped_in : List Entry → ℕ
dropped_in [] = zero
dropped_in (e ∷ l) = pick (is_dropped e.state) (suc (dropped_in l)) (dropped_in l)

-- how many of a map's dependencies are not among these ids
unfoldable pub lacking_in : ℕ → List Pair → List PointId → ℕ
unfolding has_id
lacking_in round [] ids = zero
lacking_in round (q ∷ l) ids = pick (has_id ids (pair_id round q)) (lacking_in round l ids) (suc (lacking_in round l ids))

-- "only includes can lack" with presence 2
unfoldable pub lacking : ℕ → PointInfo → List PointId → ℕ
unfolding lacking_in
lacking presence p ids =
    lacking_in (p.id.round - 1) p.includes ids
    + pick (eqb presence 3) (lacking_in (p.id.round - 2) p.witness ids) zero

-- ---- the indirect entries

-- the target of an indirect link has the entry's id; a dropped entry needs such a link all the same
abbrev pub is_target_of : AnchorLink → DagPoint → Bool
is_target_of (Direct t) d = false
is_target_of (Indirect to t) d = is_dropped d || same_id (entry_id d) to

abbrev pub same_role : AnchorStageRole → AnchorStageRole → Bool
same_role Proof Proof = true
same_role Proof Trigger = false
same_role Trigger Proof = false
same_role Trigger Trigger = true

-- whether one of the role stood before, by the two flags
abbrev pub stood_before : AnchorStageRole → Bool → Bool → Bool
stood_before Proof proof trigger = proof
stood_before Trigger proof trigger = trigger

-- every entry is its link's target, and no role stands twice; the flags say which roles stood before
unfoldable pub all_targets : PointInfo → Bool → Bool → List IndirectEntry → Bool
unfolding same_id
all_targets p proof trigger [] = true
all_targets p proof trigger (a ∷ l) =
    (is_target_of (anchor_link a.role p) a.entry.state && not (stood_before a.role proof trigger))
    && all_targets p (proof || same_role a.role Proof) (trigger || same_role a.role Trigger) l

-- ---- number 8

unfoldable pub mismatch : ℕ → PointInfo → List Entry → List IndirectEntry → Bool
unfolding all_placed dropped_in lacking ids_of all_targets
mismatch presence p es ts =
    not (all_placed presence p [] es)
    || (ltb (dropped_in es) (lacking presence p (ids_of es))
    || (not (all_targets p false false ts)
    || (not (eqb presence 3) && not (is_empty ts))))

-- ---- number 9: "the previous point's entry, read anywhere in the list, is not certified": check_valid, verifier.rs 424-429

abbrev pub is_id : Option PointId → PointId → Bool
is_id None i = false
is_id (Some j) i = same_id j i

-- an entry leaves the previous point uncovered; a dropped one has no id
unfoldable pub uncovers : Option PointId → Entry → Bool
unfolding same_id
uncovers prev e = not (is_dropped e.state) && (not e.certified && is_id prev (entry_id e.state))

unfoldable pub any_uncovers : Option PointId → List Entry → Bool
unfolding uncovers
any_uncovers prev [] = false
any_uncovers prev (e ∷ l) = uncovers prev e || any_uncovers prev l

unfoldable pub entries_in : List IndirectEntry → List Entry
entries_in [] = []
entries_in (a ∷ l) = a.entry ∷ entries_in l

unfoldable pub uncovered : Option PointId → List Entry → List IndirectEntry → Bool
unfolding any_uncovers entries_in
uncovered prev es ts = any_uncovers prev es || any_uncovers prev (entries_in ts)
