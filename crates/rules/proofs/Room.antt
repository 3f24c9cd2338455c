-- An entry that was not dropped has eight bytes or more for each reason that it sets. So rows that are one more at most than the reasons of
-- a list's entries have room in eight bytes more than the list's.
use Rattle.std.specs.Prelude.{Option, None, Some, is_some, option_map, unwrap_or}
use Prim.Native.Nat.{ℕ, zero, suc, ◌+◌, ◌*◌, ◌≤◌}
use native.Mathlib.Omega.{arith}
use lib.Dec.{leb, eqb}
use lib.ListN.{length, get_or, drop, length-drop}
use mathlib.Core.Path.{◌≡◌, refl, sym, ap}
use mathlib.Core.Logic.{◌⊎◌, inl, inr}
use mathlib.Core.Bool.{Bool, true, false, not, ◌&&◌}
use mathlib.Core.List.{List, [], ◌∷◌}
use Rattle.base.specs.Base.{pick, concat, is_empty}
use Rattle.base.proofs.Option.{IfSome, pick-has, map-has, has}
use Rattle.record.specs.Record.{field_row, field_ok, rows, row_of, start_of, record_end}
use Rattle.record.proofs.Laws.{front-field, start-before}
use Rattle.point.specs.Point.{PointInfo}
use Rattle.point.specs.Reading.{point_id_at}
use Rattle.point.specs.declared.data.AnchorStageRole.{AnchorStageRole}
use Rattle.point.specs.declared.data.PointMap.TheVariants as maps
use Rattle.map.specs.declared.Arrangement.TheVariants.{Columns}
use Rattle.schedule.specs.Settings.{Settings}
use Rattle.reasons.specs.Invalid.{InvalidReason, dag_round}
use Rattle.reasons.specs.Invalid.{MustHaveReferencedPrevPoint}
use Rattle.rules.specs.DagPoint.{DagPoint, Valid, TransInvalid, Invalid, IllFormed, NotFound, Dropped, Entry, entry_id}
use Rattle.rules.specs.DagPoint.{IndirectEntry, PointView, point_view, DepView, dep_view}
use Rattle.rules.specs.List.{record_front, Stated, record_at, is_root, read_state, read_state_in, Listed, entry_at, entry_at_in}
use Rattle.rules.specs.List.{role_of, read_entry, read_entry_in, list_from, read_list, read_list_in, directs, indirects}
use Rattle.rules.specs.Validate.{Taken, as_dependency, as_prev_point, as_version, aside, taken, version_trail, dependency_trail, dependency}
use Rattle.rules.specs.Validate.{findings_as, entry_findings, indirect_point_rows, indirect_findings}
use Rattle.rules.specs.Validate.{point_rows}
use Rattle.rules.specs.Trail.{Row, rule_row}
use Rattle.rules.proofs.FewReasons.{few-when, few-pick, point-few, indirect-few}
use Rattle.rules.proofs.Pieces.{record_front_lem, entry-front, Step, list_zero, list_suc}

-- ---- how many reasons an entry sets at most

abbrev pub most : DagPoint → ℕ
most (Valid q) = 10
most (TransInvalid q root n) = 10
most (Invalid q n) = 10
most (IllFormed i n) = 1
most (NotFound i) = 1
most Dropped = 0

state-few : (rows : DepView → List (List InvalidReason)) → ((q : DepView) → length (concat (rows q)) ≤ 10) →
    (d : DagPoint) → length (dependency_trail rows d) ≤ most d
unfolding dependency_trail
state-few rows f (Valid q) = f (dep_view q)
state-few rows f (TransInvalid q root n) = f (dep_view q)
state-few rows f (Invalid q n) = f (dep_view q)
state-few rows f (IllFormed i n) = omega arith
state-few rows f (NotFound i) = omega arith
state-few rows f Dropped = omega arith

version-few : (e : Entry) (d : DagPoint) → length (version_trail e d) ≤ most d
version-few e (Valid q) = omega (arith, few-when e.first_valid (MustHaveReferencedPrevPoint q.id))
version-few e (TransInvalid q root n) = omega arith
version-few e (Invalid q n) = omega arith
version-few e (IllFormed i n) = omega arith
version-few e (NotFound i) = few-when _ _
version-few e Dropped = omega arith

pub entry-few : (c : Settings) (required : Bool) (p : PointView) (e : Entry) → length (entry_findings c required p e).trail ≤ most e.state
unfolding entry_findings dependency
entry-few c required p e = go (taken p (entry_id e.state))
  where
    go : (t : Taken) → length (findings_as c required p t e).trail ≤ most e.state
    go as_dependency = state-few (point_rows c required false p) (λ q. point-few p q c required false) e.state
    go as_prev_point = state-few (point_rows c required true p) (λ q. point-few p q c required true) e.state
    go as_version = version-few e e.state
    go aside = omega arith

pub target_entry-few : (c : Settings) (p : PointInfo) (a : IndirectEntry) → length (indirect_findings c p a).trail ≤ most a.entry.state
unfolding indirect_findings dependency
target_entry-few c p a =
    state-few (indirect_point_rows c a.role (point_view p)) (λ q. omega (arith, indirect-few (point_view p) q c a.role)) a.entry.state

-- ---- the bytes of an entry

-- tags 1 and 2 alone take 82
record-long : (s : List ℕ) (n : ℕ) → record_end s ≡ Some n → 82 ≤ n
unfolding start_of row_of rows
record-long s n h =
    let a = front-field s n h 0 (omega arith) in
    let b = front-field s n h 1 (omega arith) in
    omega (arith, a.next, a.least, b.next, b.least, start-before s n h 2 (omega arith))

most_ten : (d : DagPoint) → most d ≤ 10
most_ten (Valid q) = omega arith
most_ten (TransInvalid q root n) = omega arith
most_ten (Invalid q n) = omega arith
most_ten (IllFormed i n) = omega arith
most_ten (NotFound i) = omega arith
most_ten Dropped = omega arith

-- with the seven bytes of tag 16 there are eight for each reason that an entry in this state sets
abbrev StateRoom : Stated → Type 0
StateRoom y = 8 * most y.point ≤ 7 + y.size

record-room : (state : PointInfo → DagPoint) (front : ℕ) (s : List ℕ) → IfSome StateRoom (record_at state front s)
record-room state front s =
    map-has StateRoom (λ x. record { point = state x.point; size = front + x.size }) (record_front (drop front s))
    (λ x e. omega (arith, record-long (drop front s) x.size (record_front_lem Columns (drop front s) x e).end, most_ten (state x.point)))

guarded : (b : Bool) (o : Option Stated) → IfSome StateRoom o → IfSome StateRoom (pick b o None)
guarded b o h = pick-has StateRoom b o None (λ e. h) tt

state-room : (state reason : ℕ) (s : List ℕ) → IfSome StateRoom (read_state state reason s)
unfolding read_state_in
state-room state reason s =
    let root = λ (q : PointInfo). TransInvalid q (point_id_at s 3) (get_or s 71 0) in
    let id = field_ok (field_row 17 68 68) s 0 in
    pick-has StateRoom (eqb state 0) _ _ (λ e. guarded (eqb reason 0) _ (record-room Valid 0 s))
    (pick-has StateRoom (eqb state 1) _ _ (λ e. guarded (eqb reason 0 && is_root s) _ (record-room root 72 s))
    (pick-has StateRoom (eqb state 2) _ _ (λ e. guarded (is_some (dag_round reason)) _ (record-room (λ q. Invalid q reason) 0 s))
    (pick-has StateRoom (eqb state 3) _ _ (λ e. guarded (leb 1 reason && leb reason 16) _ (guarded id _ (omega arith)))
    (pick-has StateRoom (eqb state 4) _ _ (λ e. guarded (eqb reason 0) _ (guarded id _ (omega arith)))
    (guarded (eqb state 5 && eqb reason 0) _ (omega arith))))))

abbrev EntryRoom : Listed → Type 0
EntryRoom x = 8 * most x.entry.state ≤ x.size

at-room : (aim : Option AnchorStageRole) (front : ℕ) (s : List ℕ) → IfSome EntryRoom (entry_at aim front s)
unfolding entry_at_in
at-room aim front s =
    let o = read_state (get_or s 3 0) (get_or s 6 0) (drop 7 s) in
    pick-has EntryRoom (field_ok (field_row 16 4 4) s 0 && (leb (get_or s 4 0) 1 && leb (get_or s 5 0) 1)) _ None
    (λ e. map-has EntryRoom _ o (λ y h.
    (let r = has StateRoom o y (state-room (get_or s 3 0) (get_or s 6 0) (drop 7 s)) h in omega (arith, r))))
    tt

entry-room : (s : List ℕ) → IfSome EntryRoom (read_entry s)
unfolding read_entry_in
entry-room s =
    pick-has EntryRoom (eqb (get_or s 0 0) 19) _ _
    (λ e. pick-has EntryRoom (field_ok (field_row 19 1 1) s 0 && leb (get_or s 3 0) 1) _ None
    (λ f. at-room (Some (role_of (get_or s 3 0))) 4 (drop 4 s))
    tt)
    (at-room None 0 s)

-- ---- the bytes of a list

-- the sum over a list
unfoldable pub total : {A : Type 0} → (A → ℕ) → List A → ℕ
total f [] = 0
total f (x ∷ l) = f x + total f l

abbrev pub most_direct : Entry → ℕ
most_direct e = most e.state

abbrev pub most_indirect : IndirectEntry → ℕ
most_indirect a = most a.entry.state

abbrev pub most_listed : Listed → ℕ
most_listed x = most x.entry.state

pub directs-most : (l : List Listed) → total most_direct (directs l) ≤ total most_listed l
unfolding directs total
directs-most [] = omega arith
directs-most (x ∷ l) = go (is_some x.aim) (directs-most l)
  where
    go : (b : Bool) → total most_direct (directs l) ≤ total most_listed l →
        total most_direct (pick b (directs l) (x.entry ∷ directs l)) ≤ most x.entry.state + total most_listed l
    go true h = omega (arith, h)
    go false h = omega (arith, h)

pub indirects-most : (l : List Listed) → total most_indirect (indirects l) ≤ total most_listed l
unfolding indirects total
indirects-most [] = omega arith
indirects-most (x ∷ l) = go x.aim (indirects-most l)
  where
    go : (o : Option AnchorStageRole) → total most_indirect (indirects l) ≤ total most_listed l →
        total most_indirect (unwrap_or (option_map (λ g. record { role = g; entry = x.entry } ∷ indirects l) o) (indirects l))
        ≤ most x.entry.state + total most_listed l
    go None h = omega (arith, h)
    go (Some g) h = omega (arith, h)

pub list-room : (n : ℕ) (b : Bool) (s : List ℕ) (l : List Listed) → list_from n b s ≡ Some l → 8 * total most_listed l ≤ length s
unfolding total
list-room zero b s l h = let k : total most_listed l ≡ 0 = sym (ap (total most_listed) (list_zero b s l h).1) in omega (arith, k)
list-room (suc n) b s l h = go (list_suc n b s l h) (list-room n)
  where
    go : ((length s ≡ 0) × ([] ≡ l)) ⊎ Step n b s l →
        ((b : Bool) (s : List ℕ) (l : List Listed) → list_from n b s ≡ Some l → 8 * total most_listed l ≤ length s) →
        8 * total most_listed l ≤ length s
    go (inl e) f = let k : total most_listed l ≡ 0 = sym (ap (total most_listed) e.1) in omega (arith, k)
    go (inr u) f =
        let k : total most_listed l ≡ most u.first.entry.state + total most_listed u.rest = sym (ap (total most_listed) u.is) in
        let m = f (is_some u.first.aim) (drop u.first.size s) u.rest u.more in
        let r = has EntryRoom (read_entry s) u.first (entry-room s) u.reads in
        omega (arith, k, m, r, length-drop u.first.size s, (entry-front s u.first u.reads).within)

-- ---- the rows of a call

-- with those of the presence rules, which stand alone
pub ruled-few : (p : PointInfo) (presence n : ℕ) (rows : List Row) → length rows ≤ n + 1 →
    length
    (pick (eqb presence 0) (rule_row maps.Evidence)
    (pick (eqb presence 1) (rule_row maps.Includes)
    (pick (eqb presence 2 && not (is_empty p.witness)) (rule_row maps.Witness) rows)))
    ≤ n + 1
ruled-few p presence n rows h =
    few-pick _ (eqb presence 0) (rule_row maps.Evidence) _ (omega arith)
    (few-pick _ (eqb presence 1) (rule_row maps.Includes) _ (omega arith)
    (few-pick _ (eqb presence 2 && not (is_empty p.witness)) (rule_row maps.Witness) rows (omega arith) h))

-- rows of a list that is read if the presence says so
pub call-room : (over : Option (List Listed) → List Row) (unread : List Row) → over None ≡ [] →
    ((l : List Listed) → length (over (Some l)) ≤ total most_listed l + 1) → length unread ≤ 1 →
    (is_read : Bool) (s : List ℕ) → 8 * length (pick is_read (over (read_list s)) unread) ≤ length s + 8
unfolding read_list_in
call-room over unread none few one false s = omega (arith, one)
call-room over unread none few one true s = go (read_list s) refl
  where
    go : (o : Option (List Listed)) → read_list s ≡ o → 8 * length (over o) ≤ length s + 8
    go None e = let z : length (over None) ≡ 0 = ap length none in omega (arith, z)
    go (Some l) e = omega (arith, few l, list-room 65535 false s l e)
