-- An entry at the front of bytes is some bytes and a record after them, or some bytes alone. What these say is the same whatever follows
-- them, and for either arrangement.
use Rattle.std.specs.Prelude.{option_map, Option, None, Some, is_some}
use Prim.Native.Nat.{ℕ, ◌+◌, ◌≤◌}
use native.Mathlib.Omega.{arith}
use mathlib.Core.Path.{◌≡◌, refl, sym, ap, ◌∙◌}
use mathlib.Core.Bool.{Bool, true, false, ◌&&◌}
use mathlib.Core.List.{List}
use lib.ListN.{length, get_or, drop, length-drop}
use lib.Seq.{drop-drop}
use lib.Dec.{leb, eqb}
use Rattle.base.specs.Base.{pick}
use Rattle.base.proofs.Bool.{and_left, and_right, and_both, pick_true, pick-false}
use Rattle.base.proofs.Option.{none-some, picked, map-eq-some_iff}
use Rattle.parts.specs.Bytes.{little_at, big_at}
use Rattle.map.specs.declared.Arrangement.{Arrangement}
use Rattle.record.specs.Record.{field_row, field_ok}
use Rattle.record.proofs.Laws.{Agree, part_same, byte_same, fitting, field-length, field-same}
use Rattle.point.specs.Point.{PointId, PointInfo}
use Rattle.point.specs.Reading.{point_id_at}
use Rattle.point.specs.declared.data.AnchorStageRole.{AnchorStageRole}
use Rattle.reasons.specs.Invalid.{dag_round}
use Rattle.rules.specs.DagPoint.{DagPoint, Valid, TransInvalid, Invalid, IllFormed, NotFound, Dropped, Entry}
use Rattle.rules.specs.List.{Stated, RecordFront, record_front_in, record_at_in, id_at17, is_root, read_state_in, Listed, entry_at_in, role_of, read_entry_in}

-- ---- bytes at the front

pub agree_self : (e : ℕ) (s : List ℕ) → e ≤ length s → Agree e s s
agree_self e s h = record { same = refl; in_left = h; in_right = h }

module _ (e : ℕ) (s t : List ℕ) (a : Agree e s t) where
  pub shorter : (n : ℕ) → n ≤ e → Agree n s t
  shorter n h =
      record {
        same = sym (part_same e s t a n 0 (omega arith));
        in_left = omega (arith, a.in_left);
        in_right = omega (arith, a.in_right);
      }

  -- the bytes after the first k
  pub agree_after : (k n : ℕ) → k + n ≤ e → Agree n (drop k s) (drop k t)
  agree_after k n h =
      let l = length-drop k s in
      let r = length-drop k t in
      record { same = sym (part_same e s t a n k h); in_left = omega (arith, a.in_left); in_right = omega (arith, a.in_right) }

  id-alike : 71 ≤ e → point_id_at t 3 ≡ point_id_at s 3
  unfolding point_id_at little_at big_at
  id-alike h = rw (part_same e s t a 4 3 (omega arith), part_same e s t a 32 7 (omega arith), part_same e s t a 32 39 (omega arith))

  field_alike : (tag n : ℕ) → field_ok (field_row tag n n) s 0 ≡ true → 3 + n ≤ e → field_ok (field_row tag n n) t 0 ≡ true
  field_alike tag n h k = let f = fitting (field_row tag n n) s 0 h in field-same e s t a 0 (omega (arith, f.greatest)) (field_row tag n n) f

-- ---- what stands after tag 16

abbrev StateReader : Type 0
StateReader = Arrangement → List ℕ → Option Stated

-- what a reader takes from the front: k bytes and a record after them, or k bytes alone
data StateFront (f : StateReader) (s : List ℕ) : Type 0 where
  record_after : (k : ℕ) (state : PointInfo → DagPoint) (within : k ≤ length s)
      (alike : (b : Arrangement) (t : List ℕ) → Agree k s t → f b t ≡ record_at_in b state k t) → StateFront f s
  alone : (k : ℕ) (point : DagPoint) (within : k ≤ length s)
      (alike : (b : Arrangement) (t : List ℕ) → Agree k s t → f b t ≡ Some (record { point = point; size = k })) → StateFront f s

abbrev OfState : StateReader → List ℕ → Type 0
OfState f s = (a : Arrangement) (x : Stated) → f a s ≡ Some x → StateFront f s

id-at : (state : PointId → DagPoint) (s : List ℕ) → OfState (λ b. id_at17 state) s
id-at state s a x h =
    let k = picked (field_ok (field_row 17 68 68) s 0) _ x h in
    alone 71 (state (point_id_at s 3)) (field-length 17 68 s k.0)
    (λ b t g. rw (field_alike 71 s t g 17 68 k.0 (omega arith), id-alike 71 s t g (omega arith)) refl)

pub root_length : (s : List ℕ) → is_root s ≡ true → 72 ≤ length s
unfolding is_root
root_length s h = field-length 18 69 s (and_left (field_ok (field_row 18 69 69) s 0) _ h)

root_alike : (s t : List ℕ) → Agree 72 s t → is_root s ≡ true → is_root t ≡ true
unfolding is_root little_at
root_alike s t a h =
    let f = and_left (field_ok (field_row 18 69 69) s 0) _ h in
    rw (field_alike 72 s t a 18 69 f (omega arith), part_same 72 s t a 4 3 (omega arith), byte_same 72 s t a 71 (omega arith))
    (and_right (field_ok (field_row 18 69 69) s 0) _ h)

guarded : (b : Bool) (f : StateReader) (s : List ℕ) → (b ≡ true → OfState f s) → OfState (λ c t. pick b (f c t) None) s
guarded true f s g a x h = g refl a x h
guarded false f s g a x h = none-some h

by_state : (a b d e g : Bool) (f0 f1 f2 f3 f4 f5 : StateReader) (s : List ℕ) →
    OfState f0 s → OfState f1 s → OfState f2 s → OfState f3 s → OfState f4 s → OfState f5 s →
    OfState (λ c t. pick a (f0 c t) (pick b (f1 c t) (pick d (f2 c t) (pick e (f3 c t) (pick g (f4 c t) (f5 c t)))))) s
by_state true b d e g f0 f1 f2 f3 f4 f5 s o0 o1 o2 o3 o4 o5 = o0
by_state false true d e g f0 f1 f2 f3 f4 f5 s o0 o1 o2 o3 o4 o5 = o1
by_state false false true e g f0 f1 f2 f3 f4 f5 s o0 o1 o2 o3 o4 o5 = o2
by_state false false false true g f0 f1 f2 f3 f4 f5 s o0 o1 o2 o3 o4 o5 = o3
by_state false false false false true f0 f1 f2 f3 f4 f5 s o0 o1 o2 o3 o4 o5 = o4
by_state false false false false false f0 f1 f2 f3 f4 f5 s o0 o1 o2 o3 o4 o5 = o5

rooted : (state : List ℕ → PointInfo → DagPoint) (reason : ℕ) (s : List ℕ) → ((t : List ℕ) → Agree 72 s t → state t ≡ state s) →
    OfState (λ c t. pick (eqb reason 0 && is_root t) (record_at_in c (state t) 72 t) None) s
rooted state reason s f a x h =
    let k = picked (eqb reason 0 && is_root s) _ x h in
    let r = and_right (eqb reason 0) _ k.0 in
    record_after 72 (state s) (root_length s r) (λ b t g. rw (and_left (eqb reason 0) _ k.0, root_alike s t g r, f t g) refl)

before-all : (state : PointInfo → DagPoint) (s : List ℕ) → OfState (λ c. record_at_in c state 0) s
before-all state s a x h = record_after 0 state (omega arith) (λ b t g. refl)

state-front : (state reason : ℕ) (s : List ℕ) → OfState (λ c. read_state_in c state reason) s
unfolding read_state_in
state-front state reason s =
    let root : List ℕ → PointInfo → DagPoint = λ t q. TransInvalid q (point_id_at t 3) (get_or t 71 0) in
    by_state (eqb state 0) (eqb state 1) (eqb state 2) (eqb state 3) (eqb state 4)
    (λ c t. pick (eqb reason 0) (record_at_in c Valid 0 t) None)
    (λ c t. pick (eqb reason 0 && is_root t) (record_at_in c (root t) 72 t) None)
    (λ c t. pick (is_some (dag_round reason)) (record_at_in c (λ q. Invalid q reason) 0 t) None)
    (λ c t. pick (leb 1 reason && leb reason 16) (id_at17 (λ i. IllFormed i reason) t) None)
    (λ c t. pick (eqb reason 0) (id_at17 NotFound t) None)
    (λ c t. pick (eqb state 5 && eqb reason 0) (Some (record { point = Dropped; size = 0 })) None)
    s
    (guarded (eqb reason 0) (λ c. record_at_in c Valid 0) s (λ e. before-all Valid s))
    (rooted root reason s (λ t g. rw (id-alike 72 s t g (omega arith), byte_same 72 s t g 71 (omega arith))))
    (guarded (is_some (dag_round reason)) (λ c. record_at_in c (λ q. Invalid q reason) 0) s (λ e. before-all (λ q. Invalid q reason) s))
    (guarded (leb 1 reason && leb reason 16) (λ c. id_at17 (λ i. IllFormed i reason)) s (λ e. id-at (λ i. IllFormed i reason) s))
    (guarded (eqb reason 0) (λ c. id_at17 NotFound) s (λ e. id-at NotFound s))
    (guarded (eqb state 5 && eqb reason 0) (λ c t. Some (record { point = Dropped; size = 0 })) s
    (λ e a x h. alone 0 Dropped (omega arith) (λ b t g. refl)))

-- ---- an entry

-- the entry of a record that stands after k bytes
abbrev pub entry_of : Option AnchorStageRole → (PointInfo → Entry) → ℕ → RecordFront → Listed
entry_of aim made k x = record { aim = aim; entry = made x.point; size = k + x.size }

-- what a reader of entries takes from the front, `front` bytes after their start: k bytes and a record after them, or k bytes alone
pub data EntryFront (f : Arrangement → List ℕ → Option Listed) (front : ℕ) (s : List ℕ) : Type 0 where
  before_record : (k : ℕ) (aim : Option AnchorStageRole) (made : PointInfo → Entry) (least : 7 ≤ k) (within : k ≤ length s)
      (alike : (b : Arrangement) (t : List ℕ) → Agree k s t →
      f b t ≡ option_map (entry_of aim made (front + k)) (record_front_in b (drop k t))) → EntryFront f front s
  without_record : (k : ℕ) (x : Listed) (least : 7 ≤ k) (within : k ≤ length s) (size : x.size ≡ front + k)
      (alike : (b : Arrangement) (t : List ℕ) → Agree k s t → f b t ≡ Some x) → EntryFront f front s

-- with the bytes of the flags
abbrev flagged : ℕ → ℕ → DagPoint → Entry
flagged k f p = record { state = p; certified = eqb k 1; first_valid = eqb f 1 }

module _ (aim : Option AnchorStageRole) (front : ℕ) where
  -- what tag 16 says, `front` bytes after the start
  abbrev listed : ℕ → ℕ → Stated → Listed
  listed k f x = record { aim = aim; entry = flagged k f x.point; size = front + 7 + x.size }

  resized : (n k f : ℕ) (state : PointInfo → DagPoint) (o : Option RecordFront) →
      option_map (listed k f) (option_map (λ x. record { point = state x.point; size = n + x.size }) o)
      ≡ option_map (entry_of aim (λ q. flagged k f (state q)) (front + (7 + n))) o
  resized n k f state None = refl
  resized n k f state (Some x) = ap (λ (z : ℕ). Some (record { aim = aim; entry = flagged k f (state x.point); size = z })) (omega arith)

module _ (aim : Option AnchorStageRole) (front : ℕ) (s : List ℕ) where
  abbrev tagged : Bool
  tagged = field_ok (field_row 16 4 4) s 0 && (leb (get_or s 4 0) 1 && leb (get_or s 5 0) 1)

  abbrev says : Stated → Listed
  says x = listed aim front (get_or s 4 0) (get_or s 5 0) x

  abbrev read_on : StateReader
  read_on b t = read_state_in b (get_or s 3 0) (get_or s 6 0) t

  at-is : (n : ℕ) (b : Arrangement) (t : List ℕ) → tagged ≡ true → 7 ≤ n → Agree n s t →
      entry_at_in b aim front t ≡ option_map says (read_on b (drop 7 t))
  unfolding entry_at_in
  at-is n b t h l a =
      let o = and_left (field_ok (field_row 16 4 4) s 0) _ h in
      rw (
        field_alike n s t a 16 4 o (omega arith),
        byte_same n s t a 3 (omega arith),
        byte_same n s t a 4 (omega arith),
        byte_same n s t a 5 (omega arith),
        byte_same n s t a 6 (omega arith),
        and_right (field_ok (field_row 16 4 4) s 0) _ h,
      ) refl

  at_front : tagged ≡ true → StateFront read_on (drop 7 s) → EntryFront (λ c. entry_at_in c aim front) front s
  at_front h (record_after n state w r) =
      let d = length-drop 7 s in
      let l = field-length 16 4 s (and_left (field_ok (field_row 16 4 4) s 0) _ h) in
      let made : PointInfo → Entry = λ q. flagged (get_or s 4 0) (get_or s 5 0) (state q) in
      before_record (7 + n) aim made (omega arith) (omega arith)
      (λ b t a.
      at-is (7 + n) b t h (omega arith) a
      ∙ ap (option_map says) (r b (drop 7 t) (agree_after (7 + n) s t a 7 n (omega arith)))
      ∙ resized aim front n (get_or s 4 0) (get_or s 5 0) state (record_front_in b (drop n (drop 7 t)))
      ∙ ap (λ (y : List ℕ). option_map (entry_of aim made (front + (7 + n))) (record_front_in b y)) (drop-drop n 7 t))
  at_front h (alone n point w r) =
      let d = length-drop 7 s in
      let l = field-length 16 4 s (and_left (field_ok (field_row 16 4 4) s 0) _ h) in
      without_record (7 + n) (says (record { point = point; size = n })) (omega arith) (omega arith) (omega arith)
      (λ b t a.
      at-is (7 + n) b t h (omega arith) a ∙ ap (option_map says) (r b (drop 7 t) (agree_after (7 + n) s t a 7 n (omega arith))))

  entry_at_front : (a : Arrangement) (x : Listed) → entry_at_in a aim front s ≡ Some x → EntryFront (λ c. entry_at_in c aim front) front s
  unfolding entry_at_in
  entry_at_front a x h =
      let k = picked tagged _ x h in
      let y = (map-eq-some_iff _ (read_on a (drop 7 s))).0 k.1 in
      at_front k.0 (state-front (get_or s 3 0) (get_or s 6 0) (drop 7 s) a y.0 y.1)

pub direct_is : (b : Arrangement) (s : List ℕ) → eqb (get_or s 0 0) 19 ≡ false → read_entry_in b s ≡ entry_at_in b None 0 s
unfolding read_entry_in
direct_is b s t = pick-false (eqb (get_or s 0 0) 19) _ _ t

pub indirect-is : (b : Arrangement) (s : List ℕ) → eqb (get_or s 0 0) 19 ≡ true → (field_ok (field_row 19 1 1) s 0 && leb (get_or s 3 0) 1) ≡ true →
    read_entry_in b s ≡ entry_at_in b (Some (role_of (get_or s 3 0))) 4 (drop 4 s)
unfolding read_entry_in
indirect-is b s t o = pick_true (eqb (get_or s 0 0) 19) _ _ t ∙ pick_true (field_ok (field_row 19 1 1) s 0 && leb (get_or s 3 0) 1) _ None o

-- tag 16 in front
direct-front : (s : List ℕ) → eqb (get_or s 0 0) 19 ≡ false → EntryFront (λ c. entry_at_in c None 0) 0 s → EntryFront read_entry_in 0 s
direct-front s e f = go f
  where
    same : (k : ℕ) (b : Arrangement) (t : List ℕ) → 7 ≤ k → Agree k s t → read_entry_in b t ≡ entry_at_in b None 0 t
    same k b t l g = direct_is b t (ap (λ (y : ℕ). eqb y 19) (byte_same k s t g 0 (omega arith)) ∙ e)

    go : EntryFront (λ c. entry_at_in c None 0) 0 s → EntryFront read_entry_in 0 s
    go (before_record k aim made l w r) = before_record k aim made l w (λ b t g. same k b t l g ∙ r b t g)
    go (without_record k x l w z r) = without_record k x l w z (λ b t g. same k b t l g ∙ r b t g)

-- tag 19 in front
module _ (s : List ℕ) (e : eqb (get_or s 0 0) 19 ≡ true) (o : (field_ok (field_row 19 1 1) s 0 && leb (get_or s 3 0) 1) ≡ true) where
  indirect-same : (k : ℕ) (b : Arrangement) (t : List ℕ) → 4 ≤ k → Agree k s t →
      read_entry_in b t ≡ entry_at_in b (Some (role_of (get_or s 3 0))) 4 (drop 4 t)
  indirect-same k b t l g =
      let y = byte_same k s t g 3 (omega arith) in
      indirect-is b t (ap (λ (z : ℕ). eqb z 19) (byte_same k s t g 0 (omega arith)) ∙ e)
      (and_both _ _ (field_alike k s t g 19 1 (and_left (field_ok (field_row 19 1 1) s 0) _ o) (omega arith))
      (ap (λ (z : ℕ). leb z 1) y ∙ and_right (field_ok (field_row 19 1 1) s 0) _ o))
      ∙ ap (λ (z : ℕ). entry_at_in b (Some (role_of z)) 4 (drop 4 t)) y

  indirect-front : EntryFront (λ c. entry_at_in c (Some (role_of (get_or s 3 0))) 4) 4 (drop 4 s) → EntryFront read_entry_in 0 s
  indirect-front (before_record k aim made l w r) =
      let d = length-drop 4 s in
      before_record (4 + k) aim made (omega arith) (omega arith)
      (λ b t g.
      indirect-same (4 + k) b t (omega arith) g
      ∙ r b (drop 4 t) (agree_after (4 + k) s t g 4 k (omega arith))
      ∙ ap (λ (y : List ℕ). option_map (entry_of aim made (4 + k)) (record_front_in b y)) (drop-drop k 4 t)
      ∙ ap (λ (n : ℕ). option_map (entry_of aim made n) (record_front_in b (drop (4 + k) t))) (omega arith))
  indirect-front (without_record k x l w z r) =
      let d = length-drop 4 s in
      without_record (4 + k) x (omega arith) (omega arith) (omega arith)
      (λ b t g. indirect-same (4 + k) b t (omega arith) g ∙ r b (drop 4 t) (agree_after (4 + k) s t g 4 k (omega arith)))

-- an entry that can be read begins so
pub split_entry : (a : Arrangement) (s : List ℕ) (x : Listed) → read_entry_in a s ≡ Some x → EntryFront read_entry_in 0 s
unfolding read_entry_in
split_entry a s x h = go (eqb (get_or s 0 0) 19) refl h
  where
    go : (b : Bool) → eqb (get_or s 0 0) 19 ≡ b →
        pick b (pick (field_ok (field_row 19 1 1) s 0 && leb (get_or s 3 0) 1) (entry_at_in a (Some (role_of (get_or s 3 0))) 4 (drop 4 s)) None)
        (entry_at_in a None 0 s) ≡ Some x →
        EntryFront read_entry_in 0 s
    go true t k =
        let w = picked (field_ok (field_row 19 1 1) s 0 && leb (get_or s 3 0) 1) _ x k in
        indirect-front s t w.0 (entry_at_front (Some (role_of (get_or s 3 0))) 4 (drop 4 s) a x w.1)
    go false t k = direct-front s t (entry_at_front None 0 s a x k)
