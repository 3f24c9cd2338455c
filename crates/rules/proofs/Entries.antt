-- The entries of a list that was read from bytes: their numbers fit the bytes that they were read from.
use Rattle.std.specs.Prelude.{option_map, unwrap_or, Option, None, Some, is_some}
use Prim.Native.Nat.{ℕ, zero, suc}
use native.Mathlib.Omega.{arith}
use mathlib.Core.Path.{◌≡◌}
use mathlib.Core.Bool.{Bool, true, false, ◌&&◌}
use mathlib.Core.List.{List, [], ◌∷◌}
use lib.ListN.{length, get_or, take, drop}
use lib.Dec.{leb, eqb}
use borrow.Author.Tests.{leb-true}
use Rattle.base.specs.Base.{pick}
use Rattle.base.proofs.Bool.{and_left, and_right}
use Rattle.base.proofs.Option.{IfSome, pick-has, then_has, map-has, has}
use Rattle.parts.specs.Bytes.{Bytes}
use Rattle.parts.proofs.Laws.{at-bytes, rest-bytes}
use Rattle.record.specs.Record.{field_row, field_ok, record_end}
use Rattle.record.proofs.Laws.{fitting}
use Rattle.point.specs.Point.{PointId, PointInfo}
use Rattle.point.specs.Reading.{point_id_at, read_point}
use Rattle.point.specs.declared.data.AnchorStageRole.{AnchorStageRole}
use Rattle.reasons.specs.Invalid.{dag_round}
use Rattle.rules.specs.DagPoint.{DagPoint, Valid, TransInvalid, Invalid, IllFormed, NotFound}
use Rattle.rules.specs.List.{is_listable, Stated, RecordFront, record_front, record_front_in, record_at, id_at17, is_root, read_state, read_state_in, Listed, entry_at, entry_at_in, read_entry, read_entry_in, is_in_order, list_from, list_from_in, read_list, read_list_in, directs, indirects}
use Rattle.point.proofs.Fits.{IdFits, PointFits, id-fits, read-fits}
use Rattle.rules.proofs.All.{All}
use Rattle.rules.proofs.Reasons.{StateFits, EntryFits, IndirectFits}

abbrev StatedFits : Stated → Type 0
StatedFits x = StateFits x.point

abbrev pub ListedFits : Listed → Type 0
ListedFits x = EntryFits x.entry

front_fits : (s : List ℕ) → Bytes s → IfSome (λ (x : RecordFront). PointFits x.point) (record_front s)
unfolding record_front_in
front_fits s b =
    then_has (λ (x : RecordFront). PointFits x.point) (record_end s) _ (λ n e.
    then_has (λ (x : RecordFront). PointFits x.point) (read_point (take n s)) _ (λ q r.
    pick-has (λ (x : RecordFront). PointFits x.point) (is_listable q) _ _ (λ h. read-fits (take n s) q (at-bytes n s 0 b) r) tt))

record_fits : (state : PointInfo → DagPoint) → ((q : PointInfo) → PointFits q → StateFits (state q)) → (front : ℕ) (s : List ℕ) → Bytes s →
    IfSome StatedFits (record_at state front s)
record_fits state f front s b =
    map-has StatedFits _ (record_front (drop front s)) (λ x e.
    f x.point (has (λ (y : RecordFront). PointFits y.point) (record_front (drop front s)) x (front_fits (drop front s) (rest-bytes front s b)) e))

id-at-fits : (state : PointId → DagPoint) → ((i : PointId) → IdFits i → StateFits (state i)) → (s : List ℕ) → Bytes s → IfSome StatedFits (id_at17 state s)
id-at-fits state f s b =
    pick-has StatedFits (field_ok (field_row 17 68 68) s 0) _ _
    (λ h. (let w = fitting (field_row 17 68 68) s 0 h in f (point_id_at s 3) (id-fits s 3 b (omega (arith, w.least, w.end)))))
    tt

root-fits : (s : List ℕ) → Bytes s → is_root s ≡ true → IdFits (point_id_at s 3)
unfolding is_root
root-fits s b h =
    let w = fitting (field_row 18 69 69) s 0 (and_left (field_ok (field_row 18 69 69) s 0) _ h) in
    id-fits s 3 b (omega (arith, w.least, w.end))

state-fits : (state reason : ℕ) (s : List ℕ) → Bytes s → IfSome StatedFits (read_state state reason s)
unfolding read_state_in
state-fits state reason s b =
    pick-has StatedFits (eqb state 0) _ _
    (λ x. pick-has StatedFits (eqb reason 0) _ _ (λ y. record_fits Valid (λ q f. f) 0 s b) tt)
    (pick-has StatedFits (eqb state 1) _ _
    (λ x. pick-has StatedFits (eqb reason 0 && is_root s) _ _
    (λ y. (let r = root-fits s b (and_right (eqb reason 0) _ y) in record_fits (λ q. TransInvalid q (point_id_at s 3) (get_or s 71 0)) (λ q f. (f, r)) 72 s b)) tt)
    (pick-has StatedFits (eqb state 2) _ _
    (λ x. pick-has StatedFits (is_some (dag_round reason)) _ _ (λ y. record_fits (λ q. Invalid q reason) (λ q f. f) 0 s b) tt)
    (pick-has StatedFits (eqb state 3) _ _
    (λ x. pick-has StatedFits (leb 1 reason && leb reason 16) _ _
    (λ y. (let n = leb-true reason 16 (and_right (leb 1 reason) _ y) in id-at-fits (λ i. IllFormed i reason) (λ i f. (f, omega (arith, n))) s b)) tt)
    (pick-has StatedFits (eqb state 4) _ _
    (λ x. pick-has StatedFits (eqb reason 0) _ _ (λ y. id-at-fits NotFound (λ i f. f) s b) tt)
    (pick-has StatedFits (eqb state 5 && eqb reason 0) _ _ (λ x. tt) tt)))))

at-fits : (aim : Option AnchorStageRole) (front : ℕ) (s : List ℕ) → Bytes s → IfSome ListedFits (entry_at aim front s)
unfolding entry_at_in
at-fits aim front s b =
    pick-has ListedFits (field_ok (field_row 16 4 4) s 0 && (leb (get_or s 4 0) 1 && leb (get_or s 5 0) 1)) _ _
    (λ h. map-has ListedFits _ (read_state (get_or s 3 0) (get_or s 6 0) (drop 7 s)) (λ x e.
    has StatedFits (read_state (get_or s 3 0) (get_or s 6 0) (drop 7 s)) x (state-fits (get_or s 3 0) (get_or s 6 0) (drop 7 s) (rest-bytes 7 s b)) e))
    tt

entry-fits : (s : List ℕ) → Bytes s → IfSome ListedFits (read_entry s)
unfolding read_entry_in
entry-fits s b =
    pick-has ListedFits (eqb (get_or s 0 0) 19) _ _
    (λ h. pick-has ListedFits (field_ok (field_row 19 1 1) s 0 && leb (get_or s 3 0) 1) _ _ (λ y. at-fits _ 4 (drop 4 s) (rest-bytes 4 s b)) tt)
    (at-fits None 0 s b)

from-fits : (n : ℕ) (seen : Bool) (s : List ℕ) → Bytes s → IfSome (All ListedFits) (list_from n seen s)
unfolding list_from_in
from-fits zero seen s b = pick-has (All ListedFits) (eqb (length s) 0) (Some []) None (λ h. tt) tt
from-fits (suc n) seen s b =
    pick-has (All ListedFits) (eqb (length s) 0) _ _ (λ h. tt)
    (then_has (All ListedFits) (read_entry s) _ (λ x e.
    pick-has (All ListedFits) (is_in_order seen x.aim) _ _
    (λ h. map-has (All ListedFits) _ (list_from n (is_some x.aim) (drop x.size s)) (λ l r. (
      has ListedFits (read_entry s) x (entry-fits s b) e,
      has (All ListedFits) (list_from n (is_some x.aim) (drop x.size s)) l (from-fits n (is_some x.aim) (drop x.size s) (rest-bytes x.size s b)) r,
    )))
    tt))

pub list-fits : (s : List ℕ) → Bytes s → IfSome (All ListedFits) (read_list s)
unfolding read_list_in
list-fits s b = from-fits 65535 false s b

pub directs_fit : (l : List Listed) → All ListedFits l → All EntryFits (directs l)
unfolding directs
directs_fit [] h = tt
directs_fit (x ∷ l) h = go (is_some x.aim) (directs_fit l h.1)
  where
    go : (b : Bool) → All EntryFits (directs l) → All EntryFits (pick b (directs l) (x.entry ∷ directs l))
    go true r = r
    go false r = (h.0, r)

pub indirects_fit : (l : List Listed) → All ListedFits l → All IndirectFits (indirects l)
unfolding indirects
indirects_fit [] h = tt
indirects_fit (x ∷ l) h = go x.aim (indirects_fit l h.1)
  where
    go : (o : Option AnchorStageRole) → All IndirectFits (indirects l) →
        All IndirectFits (unwrap_or (option_map (λ g. record { role = g; entry = x.entry } ∷ indirects l) o) (indirects l))
    go None r = r
    go (Some g) r = (h.0, r)
