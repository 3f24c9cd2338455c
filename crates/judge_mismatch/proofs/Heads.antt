-- Laws of an entry at the front of a list that reads: where its parts stand, and what is left it.
use Rattle.std.specs.Prelude.{Option, None, Some, is_some, ◌⊎◌}
use Rattle.std.proofs.Common.{inl, inr}
use Prim.Native.Nat.{ℕ, zero, suc, ◌+◌, ◌-◌, ◌≤◌, ◌<◌}
use native.Mathlib.Omega.{arith}
use mathlib.Core.Path.{◌≡◌, refl, ap, sym, ◌∙◌}
use mathlib.Core.Bool.{Bool, true, false, ◌&&◌}
use mathlib.Core.List.{List, [], ◌∷◌}
use lib.ListN.{length, get_or, take, drop, length-drop}
use lib.Seq.{get_or-drop, drop-drop}
use lib.Dec.{leb, eqb}
use borrow.Author.Tests.{eq-eqb, ne_eqb}
use Rattle.base.specs.Base.{pick, and_then}
use Rattle.base.proofs.Bool.{and_left}
use Rattle.base.proofs.Option.{picked, some_of, none-some, some-none, some-injective, map-eq-some_iff}
use Rattle.base.proofs.Lists.{rest}
use Rattle.base.proofs.Impossible.{impossible}
use Rattle.record.specs.Record.{field_row, field_ok, rows, row_of, next_at, content_at, start_of, content_of, record_end}
use Rattle.record.proofs.Laws.{fitting, front-field, end-within, front-content}
use Rattle.point.specs.Point.{PointId, PointInfo}
use Rattle.point.specs.Reading.{point_id_at}
use Rattle.point.specs.declared.data.AnchorStageRole.{AnchorStageRole}
use Rattle.point.proofs.Ids.{id-front, id_shift}
use Rattle.point.proofs.Laws.{parts-of}
use Rattle.rules.specs.DagPoint.{DagPoint, Valid, TransInvalid, Invalid, IllFormed, NotFound, Dropped, entry_id, is_dropped}
use Rattle.rules.specs.List.{RecordFront, Stated, Listed, record_front, record_at, id_at17, is_root, read_state, read_state_in, entry_at, entry_at_in, role_of, read_entry, read_entry_in, list_from, list_from_in, read_list, read_list_in, directs, indirects}
use Rattle.map.specs.declared.Arrangement.TheVariants.{Columns}
use Rattle.reasons.specs.Invalid.{dag_round}
use Rattle.rules.proofs.Pieces.{StepIn, list_zero_in, list_suc_in}
use Rattle.judge_entries.proofs.Order.{list_then, Parted, parted, in_order_lem, after-target}
use Rattle.judge_entries.proofs.Laws.{listed_as, fronted}
use Rattle.judge_mismatch.specs.Code.{Head, head_of, id_of, head_from, flags_at, aim_at, id_place, id_after, placed_at, end_in, entry_end, listed}
use Rattle.judge_mismatch.specs.Entries.{Front}

-- ---- the record at the front

-- what a record that was read at the front of a list gives
record FrontIs (s : List ℕ) (x : RecordFront) : Type 0 where
  end : record_end s ≡ Some x.size
  room : 71 ≤ length s
  small : x.size ≤ length s
  id : x.point.id ≡ point_id_at s 3

module _ (s : List ℕ) (n : ℕ) (h : record_end s ≡ Some n) where
  first_field : (71 ≤ length s) × (next_at s 0 ≡ 71)
  unfolding start_of row_of rows
  first_field = let f = front-field s n h 0 (omega arith) in (omega (arith, f.least, f.end), omega (arith, f.least, f.greatest, f.next))

  first-id : point_id_at (content_of (take n s) 0) 0 ≡ point_id_at s 3
  unfolding content_of start_of content_at
  first-id =
      let e : next_at s 0 - 3 ≡ 68 = omega (arith, first_field.1) in
      rw (front-content s n h 0 (omega arith), e, id-front 68 0 (drop 3 s) (omega arith)) (id_shift 3 0 s)

front-is : (s : List ℕ) (x : RecordFront) → record_front s ≡ Some x → FrontIs s x
front-is s x h =
    let f = fronted s x h in
    record {
      end = f.end;
      room = (first_field s x.size f.end).0;
      small = end-within s x.size f.end;
      id = (parts-of (take x.size s) x.point f.reads).id ∙ first-id s x.size f.end;
    }

-- ---- what stands after the flags, which end at k

record StateIs (s : List ℕ) (k state : ℕ) (y : Stated) : Type 0 where
  id-room : (state ≡ 5 → ⊥) → k + id_place state + 68 ≤ length s
  id : id_of y.point ≡ id_after state k s
  end : entry_end state k s ≡ Some (k + y.size)
  small : k + y.size ≤ length s

-- a record's parts
record Recorded (s : List ℕ) (k : ℕ) (q : PointInfo) (n : ℕ) : Type 0 where
  end : end_in k s ≡ Some (k + n)
  room : k + 71 ≤ length s
  small : k + n ≤ length s
  id : q.id ≡ point_id_at s (k + 3)

recorded : (s : List ℕ) (k : ℕ) (x : RecordFront) → record_front (drop k s) ≡ Some x → Recorded s k x.point x.size
unfolding end_in
recorded s k x h =
    let f = front-is (drop k s) x h in
    let l = length-drop k s in
    record {
      end = rw f.end;
      room = omega (arith, f.room);
      small = omega (arith, f.small, f.room);
      id = f.id ∙ id_shift k 3 s;
    }

stated : (state : PointInfo → DagPoint) (front : ℕ) (s : List ℕ) (y : Stated) → record_at state front s ≡ Some y →
    (x : RecordFront) × (record_front (drop front s) ≡ Some x) × (y.point ≡ state x.point) × (y.size ≡ front + x.size)
stated state front s y h =
    let x = (map-eq-some_iff _ (record_front (drop front s))).0 h in
    (x.0, x.1, ap (λ (z : Stated). z.point) (sym x.2), ap (λ (z : Stated). z.size) (sym x.2))

id_17 : (state : PointId → DagPoint) (s : List ℕ) (k : ℕ) (y : Stated) → id_at17 state (drop k s) ≡ Some y →
    (k + 71 ≤ length s) × (y.point ≡ state (point_id_at s (k + 3))) × (y.size ≡ 71)
id_17 state s k y h =
    let p = picked (field_ok (field_row 17 68 68) (drop k s) 0) _ y h in
    let f = fitting (field_row 17 68 68) (drop k s) 0 p.0 in
    let e : y.point ≡ state (point_id_at (drop k s) 3) = cc in
    (omega (arith, length-drop k s, f.least, f.end), e ∙ ap state (id_shift k 3 s), cc)

-- states 0 and 2: a record
record_state : (state : ℕ) (of : PointInfo → DagPoint) (s : List ℕ) (k : ℕ) (y : Stated) →
    ((q : PointInfo) → id_of (of q) ≡ Some q.id) → eqb state 5 ≡ false → eqb state 1 ≡ false →
    entry_end state k s ≡ end_in k s → record_at of 0 (drop k s) ≡ Some y → StateIs s k state y
unfolding id_after
record_state state of s k y told d one e h =
    let p = stated of 0 (drop k s) y h in
    let r = recorded s k p.0 p.1 in
    record {
      id-room = λ z. rw one (omega (arith, r.room));
      id = ap id_of p.2 ∙ (told p.0.point ∙ rw (d, one) (ap Some r.id));
      end = e ∙ (r.end ∙ ap Some (omega (arith, p.3)));
      small = omega (arith, r.small, p.3);
    }

-- state 1: a record after a root cause
root-state : (of : PointInfo → DagPoint) (s : List ℕ) (k : ℕ) (y : Stated) →
    ((q : PointInfo) → id_of (of q) ≡ Some q.id) → record_at of 72 (drop k s) ≡ Some y → StateIs s k 1 y
unfolding id_after entry_end
root-state of s k y told h =
    let p = stated of 72 (drop k s) y h in
    let r = recorded s (k + 72) p.0 (ap record_front (sym (drop-drop 72 k s)) ∙ p.1) in
    record {
      id-room = λ z. omega (arith, r.room);
      id = ap id_of p.2 ∙ (told p.0.point ∙ ap Some (r.id ∙ ap (point_id_at s) (omega arith)));
      end = r.end ∙ ap Some (omega (arith, p.3));
      small = omega (arith, r.small, p.3);
    }

-- states 3 and 4: an id
id-state : (state : ℕ) (of : PointId → DagPoint) (s : List ℕ) (k : ℕ) (y : Stated) →
    ((i : PointId) → id_of (of i) ≡ Some i) → eqb state 5 ≡ false → eqb state 1 ≡ false →
    entry_end state k s ≡ Some (k + 71) → id_at17 of (drop k s) ≡ Some y → StateIs s k state y
unfolding id_after
id-state state of s k y told d one e h =
    let p = id_17 of s k y h in
    record {
      id-room = λ z. rw one (omega (arith, p.0));
      id = ap id_of p.1 ∙ (told (point_id_at s (k + 3)) ∙ rw (d, one));
      end = e ∙ ap Some (omega (arith, p.2));
      small = omega (arith, p.0, p.2);
    }

state-is : (state reason : ℕ) (s : List ℕ) (k : ℕ) (y : Stated) → k ≤ length s → read_state state reason (drop k s) ≡ Some y → StateIs s k state y
unfolding read_state_in id_after entry_end
state-is zero reason s k y g h = record_state 0 Valid s k y (λ q. refl) refl refl refl (picked (eqb reason 0) _ y h).1
state-is (suc zero) reason s k y g h =
    root-state (λ q. TransInvalid q (point_id_at (drop k s) 3) (get_or (drop k s) 71 0)) s k y (λ q. refl) (picked (eqb reason 0 && is_root (drop k s)) _ y h).1
state-is (suc (suc zero)) reason s k y g h = record_state 2 (λ q. Invalid q reason) s k y (λ q. refl) refl refl refl (picked (is_some (dag_round reason)) _ y h).1
state-is (suc (suc (suc zero))) reason s k y g h = id-state 3 (λ i. IllFormed i reason) s k y (λ i. refl) refl refl refl (picked (leb 1 reason && leb reason 16) _ y h).1
state-is (suc (suc (suc (suc zero)))) reason s k y g h = id-state 4 NotFound s k y (λ i. refl) refl refl refl (picked (eqb reason 0) _ y h).1
state-is (suc (suc (suc (suc (suc zero))))) reason s k y g h =
    let p = (picked (eqb reason 0) _ y h).1 in
    let point : y.point ≡ Dropped = cc in
    let size : y.size ≡ 0 = cc in
    record {
      id-room = λ z. absurd (z refl);
      id = ap id_of point;
      end = ap Some (omega arith);
      small = omega arith;
    }
state-is (suc (suc (suc (suc (suc (suc n)))))) reason s k y g h =
    let m = suc (suc (suc (suc (suc (suc n))))) in
    let none-there : ◌≡◌ {A = Option Stated} None (Some y) =
    simp (ne_eqb m 0 (λ e. omega arith), ne_eqb m 1 (λ e. omega arith), ne_eqb m 2 (λ e. omega arith), ne_eqb m 3 (λ e. omega arith), ne_eqb m 4 (λ e. omega arith), ne_eqb m 5 (λ e. omega arith)) at h
    in
    none-some none-there

-- ---- an entry whose flags start at f

pub record EntryIs (aim : Option AnchorStageRole) (f : ℕ) (s : List ℕ) (x : Listed) : Type 0 where
  pub room : f + 7 ≤ length s
  pub for : x.aim ≡ aim
  pub id-room : (get_or s (f + 3) 0 ≡ 5 → ⊥) → f + 7 + id_place (get_or s (f + 3) 0) + 68 ≤ length s
  pub id : id_of x.entry.state ≡ id_after (get_or s (f + 3) 0) (f + 7) s
  pub end : entry_end (get_or s (f + 3) 0) (f + 7) s ≡ Some x.size
  pub least : 7 ≤ x.size
  pub small : x.size ≤ length s

entry-is : (aim : Option AnchorStageRole) (f : ℕ) (s : List ℕ) (x : Listed) → entry_at aim f (drop f s) ≡ Some x → EntryIs aim f s x
unfolding entry_at_in
entry-is aim f s x h =
    let t = drop f s in
    let p = picked (field_ok (field_row 16 4 4) t 0 && (leb (get_or t 4 0) 1 && leb (get_or t 5 0) 1)) _ x h in
    let fit = fitting (field_row 16 4 4) t 0 (and_left (field_ok (field_row 16 4 4) t 0) _ p.0) in
    let room : f + 7 ≤ length s = omega (arith, length-drop f s, fit.least, fit.end) in
    let q = (map-eq-some_iff (listed_as aim f t) (read_state (get_or t 3 0) (get_or t 6 0) (drop 7 t))).0 p.1 in
    let state = ap (λ (z : Listed). z.entry.state) (sym q.2) in
    let size = ap (λ (z : Listed). z.size) (sym q.2) in
    let read : read_state (get_or s (f + 3) 0) (get_or t 6 0) (drop (f + 7) s) ≡ Some q.0 = rw (← get_or-drop f s 3 0, ← drop-drop 7 f s) q.1 in
    let st = state-is (get_or s (f + 3) 0) (get_or t 6 0) s (f + 7) q.0 room read in
    record {
      room = room;
      for = ap (λ (z : Listed). z.aim) (sym q.2);
      id-room = st.id-room;
      id = ap id_of state ∙ st.id;
      end = st.end ∙ ap Some (omega (arith, size));
      least = omega (arith, size);
      small = omega (arith, size, st.small);
    }

entry-from : (b ok : Bool) (g : AnchorStageRole) (s : List ℕ) (x : Listed) →
    pick b (pick ok (entry_at (Some g) 4 (drop 4 s)) None) (entry_at None 0 s) ≡ Some x →
    entry_at (pick b (Some g) None) (pick b 4 0) (drop (pick b 4 0) s) ≡ Some x
entry-from true ok g s x h = (picked ok _ x h).1
entry-from false ok g s x h = h

-- what an entry that was read shows of its bytes
pub head-is : (s : List ℕ) (x : Listed) → read_entry s ≡ Some x → EntryIs (aim_at s) (flags_at s) s x
unfolding read_entry_in
head-is s x h =
    entry-is (aim_at s) (flags_at s) s x
    (entry-from (eqb (get_or s 0 0) 19) (field_ok (field_row 19 1 1) s 0 && leb (get_or s 3 0) 1) (role_of (get_or s 3 0)) s x h)

-- a record that ends has its start inside
pub end-inside : (at : ℕ) (s : List ℕ) → is_some (end_in at s) ≡ true → at ≤ length s
unfolding end_in
end-inside at s h = inside (record_end (drop at s)) refl h
  where
    inside : (o : Option ℕ) → o ≡ record_end (drop at s) → is_some (placed_at at o) ≡ true → at ≤ length s
    inside None e g = impossible (cc)
    inside (Some n) e g = omega (arith, length-drop at s, (first_field (drop at s) n (sym e)).0)

module _ (at : ℕ) (s : List ℕ) where
  -- a record that ends stands there
  pub end-there : is_some (end_in at s) ≡ true → is_some (record_end (take (length s - at) (drop at s))) ≡ true
  unfolding end_in
  end-there h = rw (rest at s) (go (record_end (drop at s)) refl h)
    where
      go : (o : Option ℕ) → o ≡ record_end (drop at s) → is_some (placed_at at o) ≡ true → is_some o ≡ true
      go None e g = g
      go (Some n) e g = refl

  -- where a record ends is known where `known_end` says it
  module _ (n : ℕ) (e : record_end (take (length s - at) (drop at s)) ≡ Some n) where
    ends : record_end (drop at s) ≡ Some n
    ends = rw (rest at s) at e

    pub end_known : end_in at s ≡ Some (at + n)
    unfolding end_in
    end_known = ap (placed_at at) ends

    pub end_within : at + n ≤ length s
    end_within = omega (arith, length-drop at s, end-within (drop at s) n ends, (first_field (drop at s) n ends).0)

pub ruleset end_facts = (end-inside, end-there, end_known, end_within)

pub head_made : (s : List ℕ) (x : Listed) (aim : Option AnchorStageRole) (id : Option PointId) (size : ℕ) → read_entry s ≡ Some x →
    aim ≡ x.aim → id ≡ id_of x.entry.state → size ≡ x.size →
    Some (record { aim = aim; id = id; size = size }) ≡ head_from (read_entry s)
head_made s x aim id size e a i z = same a i z ∙ ap head_from (sym e)
  where
    same : aim ≡ x.aim → id ≡ id_of x.entry.state → size ≡ x.size → Some (record { aim = aim; id = id; size = size }) ≡ Some (head_of x)
    same a i z = rw (a, i, z)

-- what the code asks of an entry that can be read, and what it makes of it
module _ (s : List ℕ) (r : is_some (read_entry s) ≡ true) where
  read-is : EntryIs (aim_at s) (flags_at s) s (some_of (read_entry s) r).0
  read-is = head-is s (some_of (read_entry s) r).0 (some_of (read_entry s) r).1

  module _ (f : ℕ) (e : f ≡ flags_at s) where
    pub entry-room : f + 7 ≤ length s
    entry-room = rw e read-is.room

    pub entry-id-room : (state : ℕ) → state ≡ get_or s (f + 3) 0 → (state ≡ 5 → ⊥) → f + 7 + id_place state + 68 ≤ length s
    entry-id-room state g d = rw (g, e) (read-is.id-room (rw (← e, ← g) d))

    pub entry-ends : is_some (entry_end (get_or s (f + 3) 0) (f + 7) s) ≡ true
    entry-ends = rw e (ap is_some read-is.end)

    pub entry-head : (aim : Option AnchorStageRole) (id : Option PointId) (size : ℕ) → aim ≡ aim_at s → id ≡ id_after (get_or s (f + 3) 0) (f + 7) s →
        entry_end (get_or s (f + 3) 0) (f + 7) s ≡ Some size → Some (record { aim = aim; id = id; size = size }) ≡ head_from (read_entry s)
    entry-head aim id size a i z =
        let h : EntryIs (aim_at s) f s (some_of (read_entry s) r).0 = rw e read-is in
        let g = h.end in
        head_made s (some_of (read_entry s) r).0 aim id size (some_of (read_entry s) r).1 (a ∙ sym h.for) (i ∙ sym h.id) (cc)

pub ruleset head_facts = (entry-room, entry-id-room, entry-ends, entry-head)

-- ---- lists that read

-- a direct entry stands first among the direct ones, an indirect one among the others
pub directs-here : (x : Listed) (l : List Listed) → x.aim ≡ None → directs (x ∷ l) ≡ x.entry ∷ directs l
unfolding directs
directs-here x l e = rw e

pub directs-after : (x : Listed) (l : List Listed) (g : AnchorStageRole) → x.aim ≡ Some g → directs (x ∷ l) ≡ directs l
unfolding directs
directs-after x l g e = rw e

pub indirects-here : (x : Listed) (l : List Listed) (g : AnchorStageRole) → x.aim ≡ Some g → indirects (x ∷ l) ≡ record { role = g; entry = x.entry } ∷ indirects l
unfolding indirects
indirects-here x l g e = rw e

pub indirects-after : (x : Listed) (l : List Listed) → x.aim ≡ None → indirects (x ∷ l) ≡ indirects l
unfolding indirects
indirects-after x l e = rw e

list_zero : (c : Bool) (s : List ℕ) → list_from zero c s ≡ pick (eqb (length s) 0) (Some []) None
unfolding list_from_in
list_zero c s = refl

list_suc : (n : ℕ) (c : Bool) (s : List ℕ) → list_from (suc n) c s ≡ pick (eqb (length s) 0) (Some []) (and_then (read_entry s) (list_then (list_from n) c s))
unfolding list_from_in
list_suc n c s = refl

-- what a list reads as, if its front does
turn : (b : Bool) (m k : Option (List Listed)) (l : List Listed) → (m ≡ Some l → k ≡ Some l) → pick b (Some []) m ≡ Some l → pick b (Some []) k ≡ Some l
turn true m k l f h = h
turn false m k l f h = f h

-- with one entry more allowed
more_with : (f g : Bool → List ℕ → Option (List Listed)) (c : Bool) (s : List ℕ) (o : Option Listed) (l : List Listed) →
    ((c : Bool) (s : List ℕ) (l : List Listed) → f c s ≡ Some l → g c s ≡ Some l) →
    and_then o (list_then f c s) ≡ Some l → and_then o (list_then g c s) ≡ Some l
more_with f g c s o l more h =
    let p = parted f c s o l h in
    rw (p.read, p.ordered, more _ _ p.left p.follows) (ap Some p.are)

list-more : (n : ℕ) (c : Bool) (s : List ℕ) (l : List Listed) → list_from n c s ≡ Some l → list_from (suc n) c s ≡ Some l
list-more zero c s l h =
    list_suc zero c s ∙ turn (eqb (length s) 0) None _ l (λ e. none-some e) (sym (list_zero c s) ∙ h)
list-more (suc n) c s l h =
    list_suc (suc n) c s
    ∙ turn (eqb (length s) 0) _ _ l (more_with (list_from n) (list_from (suc n)) c s (read_entry s) l (list-more n)) (sym (list_suc n c s) ∙ h)

-- what may stand after an indirect entry may stand anywhere
any_with : (f : Bool → List ℕ → Option (List Listed)) (c : Bool) (s : List ℕ) (o : Option Listed) (l : List Listed) →
    and_then o (list_then f c s) ≡ Some l → and_then o (list_then f false s) ≡ Some l
any_with f c s o l h = let p = parted f c s o l h in rw (p.read, p.follows) (ap Some p.are)

any_order : (n : ℕ) (c : Bool) (s : List ℕ) (l : List Listed) → list_from (suc n) c s ≡ Some l → list_from (suc n) false s ≡ Some l
any_order n c s l h =
    list_suc n false s ∙ turn (eqb (length s) 0) _ _ l (any_with (list_from n) c s (read_entry s) l) (sym (list_suc n c s) ∙ h)

-- the first entry of a list that reads
first-from : (n : ℕ) (s : List ℕ) (l : List Listed) → 0 < length s → list_from (suc n) false s ≡ Some l → Parted (list_from n) false s (read_entry s) l
first-from n s l g h =
    parted (list_from n) false s (read_entry s) l
    (rw (ne_eqb (length s) 0 (λ e. omega arith)) at (sym (list_suc n false s) ∙ h))

pub listed-is : (s : List ℕ) (l : List Listed) → read_list s ≡ Some l → listed s ≡ l
unfolding listed
listed-is s l h = rw h

pub record Next (s : List ℕ) (x : Listed) : Type 0 where
  pub entry : read_entry s ≡ Some x
  pub all : listed s ≡ x ∷ listed (drop x.size s)
  pub left : is_some (read_list (drop x.size s)) ≡ true
  pub last : is_some x.aim ≡ true → directs (listed (drop x.size s)) ≡ []

read-list : (s : List ℕ) → read_list s ≡ list_from 65535 false s
unfolding read_list_in
read-list s = refl

-- what is left the first entry of a list that reads
left-from : (n : ℕ) (s : List ℕ) (l : List Listed) → 0 < length s → list_from (suc n) false s ≡ Some l →
    (x : Listed) × (r : List Listed) × (read_entry s ≡ Some x) × (l ≡ x ∷ r) × (list_from (suc n) false (drop x.size s) ≡ Some r)
    × (is_some x.aim ≡ true → directs r ≡ [])
left-from n s l g h =
    let f = first-from n s l g h in
    let b = is_some f.first.aim in
    let t = drop f.first.size s in
    let r = f.left in
    (f.first, r, f.read, sym f.are, any_order n b t r (list-more n b t r f.follows), λ e. after-target r (in_order_lem n true t r (ap (λ (c : Bool). list_from n c t) (sym e) ∙ f.follows)))

next_with : (s t : List ℕ) (l r : List Listed) (x : Listed) → t ≡ drop x.size s → read_list s ≡ Some l → read_list t ≡ Some r → read_entry s ≡ Some x → l ≡ x ∷ r →
    (is_some x.aim ≡ true → directs r ≡ []) → Next s x
next_with s t l r x d h g e a f =
    let whole : listed t ≡ r = listed-is t r g in
    record {
      entry = e;
      all = listed-is s l h ∙ (a ∙ ap (λ (k : List Listed). x ∷ k) (sym whole ∙ ap listed d));
      left = ap (λ (k : List ℕ). is_some (read_list k)) (sym d) ∙ ap is_some g;
      last = λ b. ap (λ (k : List ℕ). directs (listed k)) (sym d) ∙ (ap directs whole ∙ f b);
    }

pub next_of : (s : List ℕ) → is_some (read_list s) ≡ true → 0 < length s → (x : Listed) × Next s x
next_of s h g =
    let l = some_of (read_list s) h in
    let f = left-from 65534 s l.0 g (sym (read-list s) ∙ l.1) in
    let t = drop f.0.size s in
    (f.0, next_with s t l.0 f.1 f.0 refl l.1 (read-list t ∙ f.4) f.2 f.3 f.5)

pub listed-end : (s : List ℕ) → length s ≡ 0 → listed s ≡ []
listed-end s h =
    let more = and_then (read_entry s) (list_then (list_from 65534) false s) in
    listed-is s [] (read-list s ∙ (list_suc 65534 false s ∙ ap (λ (b : Bool). pick b (Some []) more) (eq-eqb (length s) 0 h)))

-- the first of a list that reads and isn't empty
pub next-is : (s : List ℕ) (x : Listed) → is_some (read_list s) ≡ true → 0 < length s → read_entry s ≡ Some x → Next s x
next-is s x r g e =
    let n = next_of s r g in
    let same : n.0 ≡ x = some-injective _ _ (sym n.1.entry ∙ e) in
    rw (← same) n.1

-- how many entries there are
few-from : (n : ℕ) (b : Bool) (s : List ℕ) (l : List Listed) → list_from n b s ≡ Some l → length l ≤ n
few-from zero b s l h = rw (← (list_zero_in Columns b s l h).1) (omega arith)
few-from (suc n) b s l h = go (list_suc_in Columns n b s l h) (few-from n)
  where
    go : ((length s ≡ 0) × ([] ≡ l)) ⊎ StepIn Columns n b s l →
        ((b : Bool) (s : List ℕ) (l : List Listed) → list_from n b s ≡ Some l → length l ≤ n) → length l ≤ suc n
    go (inl e) f = rw (← e.1) (omega arith)
    go (inr u) f = let m = f (is_some u.first.aim) (drop u.first.size s) u.rest u.more in rw (← u.is) (omega arith)

pub few-listed : (s : List ℕ) → is_some (read_list s) ≡ true → length (listed s) ≤ 65535
unfolding read_list_in
few-listed s r =
    let l = some_of (read_list s) r in
    rw (listed-is s l.0 l.1) (few-from 65535 false s l.0 l.1)

-- ---- an entry of the code at the front of a list that reads

record Stands (s : List ℕ) (h : Head) : Type 0 where
  front : Front (listed s) h (listed (drop h.size s))
  least : 7 ≤ h.size
  small : h.size ≤ length s
  left : is_some (read_list (drop h.size s)) ≡ true

stands-first : (s : List ℕ) (h : Head) (x : Listed) → Next s x → Some h ≡ head_from (read_entry s) → Stands s h
stands-first s h x n e =
    let g : Some h ≡ Some (head_of x) = e ∙ ap head_from n.entry in
    let i = head-is s x n.entry in
    let size : h.size ≡ x.size = cc in
    record {
      front = record {
        first = x;
        all = n.all ∙ ap (λ (k : ℕ). x ∷ listed (drop k s)) (sym size);
        for = cc;
        id = cc;
        last = λ b. ap (λ (k : ℕ). directs (listed (drop k s))) size ∙ n.last b;
      };
      least = omega (arith, i.least);
      small = omega (arith, i.small);
      left = ap (λ (k : ℕ). is_some (read_list (drop k s))) size ∙ n.left;
    }

-- an entry has an id exactly if it was not dropped
kept : (d : DagPoint) (i : PointId) → Some i ≡ id_of d → (is_dropped d ≡ false) × (i ≡ entry_id d)
kept d i h = by (is_dropped d) refl h
  where
    by : (b : Bool) → b ≡ is_dropped d → Some i ≡ pick b None (Some (entry_id d)) → (is_dropped d ≡ false) × (i ≡ entry_id d)
    by true e h = some-none h
    by false e h = (sym e, cc)

gone : (d : DagPoint) → None ≡ id_of d → is_dropped d ≡ true
gone d h = by (is_dropped d) refl h
  where
    by : (b : Bool) → b ≡ is_dropped d → None ≡ pick b None (Some (entry_id d)) → is_dropped d ≡ true
    by true e h = sym e
    by false e h = none-some h

module _ {l r : List Listed} {h : Head} (f : Front l h r) where
  pub front_kept : (i : PointId) → h.id ≡ Some i → (is_dropped f.first.entry.state ≡ false) × (i ≡ entry_id f.first.entry.state)
  front_kept i e = kept f.first.entry.state i (sym e ∙ f.id)

  pub front_dropped : h.id ≡ None → is_dropped f.first.entry.state ≡ true
  front_dropped e = gone f.first.entry.state (sym e ∙ f.id)

  pub directs-next : h.aim ≡ None → directs l ≡ f.first.entry ∷ directs r
  directs-next e = ap directs f.all ∙ directs-here f.first r (sym f.for ∙ e)

  pub indirects-same : h.aim ≡ None → indirects l ≡ indirects r
  indirects-same e = ap indirects f.all ∙ indirects-after f.first r (sym f.for ∙ e)

  pub indirects-next : (g : AnchorStageRole) → h.aim ≡ Some g → indirects l ≡ record { role = g; entry = f.first.entry } ∷ indirects r
  indirects-next g e = ap indirects f.all ∙ indirects-here f.first r g (sym f.for ∙ e)

  -- from an indirect entry on there is no direct one
  pub directs-last : is_some h.aim ≡ true → (directs l ≡ []) × (directs r ≡ [])
  directs-last e =
      let none = f.last (ap is_some (sym f.for) ∙ e) in
      let g = some_of h.aim e in
      (ap directs f.all ∙ (directs-after f.first r g.0 (sym f.for ∙ g.1) ∙ none), none)

-- ---- places in a list that reads

pub reads_end : (s : List ℕ) (at : ℕ) → length s ≤ at → listed (drop at s) ≡ []
reads_end s at h = listed-end (drop at s) (omega (arith, length-drop at s))

module _ (s : List ℕ) (at : ℕ) (r : is_some (read_list (drop at s)) ≡ true) (g : at < length s) where
  next_at_lem : (x : Listed) × Next (drop at s) x
  next_at_lem = next_of (drop at s) r (omega (arith, length-drop at s))

  pub entry-reads : is_some (read_entry (take (length s - at) (drop at s))) ≡ true
  entry-reads = ap (λ (t : List ℕ). is_some (read_entry t)) (rest at s) ∙ ap is_some next_at_lem.1.entry

  module _ (h : Head) (e : Some h ≡ head_from (read_entry (take (length s - at) (drop at s)))) where
    pub entry-given : Some h ≡ head_from (read_entry (drop at s))
    entry-given = e ∙ ap (λ (t : List ℕ). head_from (read_entry t)) (rest at s)

    stands : Stands (drop at s) h
    stands = stands-first (drop at s) h next_at_lem.0 next_at_lem.1 entry-given

    past : drop h.size (drop at s) ≡ drop (at + h.size) s
    past = drop-drop h.size at s

    pub entry-front : Front (listed (drop at s)) h (listed (drop (at + h.size) s))
    entry-front = rw (← past) stands.front

    pub entry-within : at + h.size ≤ length s
    entry-within = omega (arith, stands.small, length-drop at s)

    pub entry-least : 7 ≤ h.size
    entry-least = stands.least

    pub entry-left : is_some (read_list (drop (at + h.size) s)) ≡ true
    entry-left = ap (λ (t : List ℕ). is_some (read_list t)) (sym past) ∙ stands.left

pub ruleset entry_facts = (entry-reads, entry-within, entry-least)
