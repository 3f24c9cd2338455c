-- Laws of an entry that can be read: what reading it tested holds.
use Rattle.std.specs.Prelude.{Option, None, Some, option_map, is_some}
use Rattle.std.proofs.Common.{length-take-le}
use Prim.Native.Nat.{ℕ, ◌+◌, ◌-◌, ◌≤◌, ◌<◌}
use native.Mathlib.Nat.{zero-add}
use native.Mathlib.Omega.{arith}
use mathlib.Core.Path.{◌≡◌, refl, ap, sym, ◌∙◌}
use mathlib.Core.Bool.{Bool, true, false, ◌&&◌}
use mathlib.Core.List.{List}
use lib.ListN.{length, get_or, take, drop}
use lib.Dec.{eqb, leb}
use borrow.Author.Tests.{eqb-true, eq-eqb, ne_eqb, leb-true}
use Rattle.base.specs.Base.{pick}
use Rattle.base.proofs.Bool.{and_left, and_right, clash}
use Rattle.base.proofs.Impossible.{impossible}
use Rattle.base.proofs.Lists.{rest}
use Rattle.base.proofs.Option.{some_of, some-injective, map-some}
use Rattle.record.specs.Record.{field_row, field_ok, record_end}
use Rattle.record.proofs.Laws.{field-length, end-within}
use Rattle.point.specs.Point.{PointId, PointInfo}
use Rattle.point.specs.Reading.{point_id_at, read_point}
use Rattle.point.specs.Said.{said}
use Rattle.point.specs.declared.data.AnchorStageRole.{AnchorStageRole}
use Rattle.point.specs.declared.data.AnchorStageRole.TheVariants.{Proof, Trigger}
use Rattle.point.specs.declared.info.Point as code
use Rattle.rules.specs.DagPoint.{DagPoint, Valid, TransInvalid, Invalid, IllFormed, NotFound, Dropped}
use Rattle.rules.specs.List.{Stated, Listed, record_front, record_at, is_root, read_state, read_state_in, entry_at, entry_at_in, role_of, read_entry, read_entry_in}
use Rattle.rules.proofs.Pieces.{some_bytes, entry-front}
use Rattle.rules.proofs.Fronts.{root_length}
use Rattle.judge_entries.specs.Entry.{record_front_of}
use Rattle.judge_entries.proofs.Laws.{fronted, flags_long, target_long, listed_as, state_within, read-direct, read-proof, read-trigger}

-- ---- a record

module _ (s : List ℕ) (r : is_some (record_front s) ≡ true) where
  pub record-ends : is_some (record_end s) ≡ true
  record-ends = let x = some_of (record_front s) r in ap is_some (fronted s x.0 x.1).end

  module _ (n : ℕ) (e : record_end s ≡ Some n) where
    pub record-room : n ≤ length s
    record-room = end-within s n e

    size-is : (some_of (record_front s) r).0.size ≡ n
    size-is = let x = some_of (record_front s) r in some-injective _ _ (sym (fronted s x.0 x.1).end ∙ e)

    pub record-size : n ≡ length (take n s)
    record-size = sym (length-take-le n s record-room)

    pub record-reads : is_some (read_point (take n s)) ≡ true
    record-reads = let x = some_of (record_front s) r in rw (← size-is) (ap is_some (fronted s x.0 x.1).reads)

    pub record-is : (p : code.Point) → p.rec.now ≡ take n s → record_front s ≡ Some (record_front_of p)
    record-is p same =
        let x = some_of (record_front s) r in
        let size : x.0.size ≡ length p.rec.now = size-is ∙ sym (ap length same ∙ length-take-le n s record-room) in
        let here : read_point p.rec.now ≡ Some x.0.point = ap read_point (same ∙ ap (λ (k : ℕ). take k s) (sym size-is)) ∙ (fronted s x.0 x.1).reads in
        let point : x.0.point ≡ said p = some-injective _ _ (sym here ∙ p.reads.read) in
        x.1 ∙ (λ i. Some (record { point = point i; size = size i }))

pub ruleset record_facts = (record-ends, record-room, record-size, record-reads, record-is)

-- ---- what stands after the flags, by the state

there : {A : Type 0} (b : Bool) (o : Option A) → is_some (pick b o None) ≡ true → (b ≡ true) × (is_some o ≡ true) × (pick b o None ≡ o)
there true o h = (refl, h, refl)
there false o h = impossible (cc)

-- a record in its state, so many bytes after the flags
module _ (state : PointInfo → DagPoint) (front : ℕ) (s part : List ℕ) (e : part ≡ drop front s) where
  front-of : is_some (record_at state front s) ≡ true → is_some (record_front part) ≡ true
  front-of h = ap (λ (t : List ℕ). is_some (record_front t)) e ∙ (sym (map-some _ (record_front (drop front s))) ∙ h)

  at-is : (p : code.Point) → record_front part ≡ Some (record_front_of p) → record_at state front s ≡ Some (record { point = state (said p); size = front + length p.rec.now })
  at-is p h = ap (option_map _) (ap record_front (sym e) ∙ h)

module _ (reason : ℕ) (s : List ℕ) where
  module _ (r : is_some (read_state 0 reason s) ≡ true) where
    valid-there : (is_some (record_at Valid 0 s) ≡ true) × (read_state 0 reason s ≡ record_at Valid 0 s)
    unfolding read_state_in
    valid-there = let h = there (eqb reason 0) (record_at Valid 0 s) r in (h.1, h.2)

    pub valid-front : is_some (record_front s) ≡ true
    valid-front = front-of Valid 0 s s refl valid-there.0

    pub valid-is : (p : code.Point) → record_front s ≡ Some (record_front_of p) →
        read_state 0 reason s ≡ Some (record { point = Valid (said p); size = length p.rec.now })
    valid-is p h =
        valid-there.1 ∙ (at-is Valid 0 s s refl p h ∙ ap (λ (n : ℕ). Some (record { point = Valid (said p); size = n })) (zero-add (length p.rec.now)))

  module _ (r : is_some (read_state 2 reason s) ≡ true) where
    invalid-there : (is_some (record_at (λ q. Invalid q reason) 0 s) ≡ true) × (read_state 2 reason s ≡ record_at (λ q. Invalid q reason) 0 s)
    unfolding read_state_in
    invalid-there = let h = there _ (record_at (λ q. Invalid q reason) 0 s) r in (h.1, h.2)

    pub invalid-front : is_some (record_front s) ≡ true
    invalid-front = front-of (λ q. Invalid q reason) 0 s s refl invalid-there.0

    pub invalid-is : (p : code.Point) → record_front s ≡ Some (record_front_of p) →
        read_state 2 reason s ≡ Some (record { point = Invalid (said p) reason; size = length p.rec.now })
    invalid-is p h =
        invalid-there.1
        ∙ (at-is (λ q. Invalid q reason) 0 s s refl p h
        ∙ ap (λ (n : ℕ). Some (record { point = Invalid (said p) reason; size = n })) (zero-add (length p.rec.now)))

  module _ (r : is_some (read_state 1 reason s) ≡ true) where
    abbrev trans : PointInfo → DagPoint
    trans q = TransInvalid q (point_id_at s 3) (get_or s 71 0)

    trans-there : (is_root s ≡ true) × (is_some (record_at trans 72 s) ≡ true) × (read_state 1 reason s ≡ record_at trans 72 s)
    unfolding read_state_in
    trans-there =
        let h = there (eqb reason 0 && is_root s) (record_at trans 72 s) r in
        (and_right (eqb reason 0) (is_root s) h.0, h.1, h.2)

    pub trans-room : 72 ≤ length s
    trans-room = root_length s trans-there.0

    pub trans-front : is_some (record_front (take (length s - 72) (drop 72 s))) ≡ true
    trans-front = front-of trans 72 s _ (rest 72 s) trans-there.1

    pub trans-is : (p : code.Point) (i : PointId) → i ≡ point_id_at s 3 → record_front (take (length s - 72) (drop 72 s)) ≡ Some (record_front_of p) →
        read_state 1 reason s ≡ Some (record { point = TransInvalid (said p) i (get_or s 71 0); size = 72 + length p.rec.now })
    trans-is p i e h =
        trans-there.2 ∙ (at-is trans 72 s _ (rest 72 s) p h
        ∙ ap (λ (j : PointId). Some (record { point = TransInvalid (said p) j (get_or s 71 0); size = 72 + length p.rec.now })) (sym e))

  module _ (r : is_some (read_state 3 reason s) ≡ true) where
    abbrev id_there : Bool
    id_there = field_ok (field_row 17 68 68) s 0

    ill-formed-there : (id_there ≡ true) × (read_state 3 reason s ≡ Some (record { point = IllFormed (point_id_at s 3) reason; size = 71 }))
    unfolding read_state_in
    ill-formed-there =
        let h = there (leb 1 reason && leb reason 16) _ r in
        let g = there id_there (Some (record { point = IllFormed (point_id_at s 3) reason; size = 71 })) h.1 in
        (g.0, h.2 ∙ g.2)

    pub ill-formed-room : 71 ≤ length s
    ill-formed-room = field-length 17 68 s ill-formed-there.0

    pub ill-formed-is : (i : PointId) → i ≡ point_id_at s 3 → read_state 3 reason s ≡ Some (record { point = IllFormed i reason; size = 71 })
    ill-formed-is i e =
        ill-formed-there.1 ∙ ap (λ (j : PointId). Some (record { point = IllFormed j reason; size = 71 })) (sym e)

  module _ (r : is_some (read_state 4 reason s) ≡ true) where
    not-found-there : (field_ok (field_row 17 68 68) s 0 ≡ true) × (read_state 4 reason s ≡ Some (record { point = NotFound (point_id_at s 3); size = 71 }))
    unfolding read_state_in
    not-found-there =
        let h = there (eqb reason 0) _ r in
        let g = there (field_ok (field_row 17 68 68) s 0) (Some (record { point = NotFound (point_id_at s 3); size = 71 })) h.1 in
        (g.0, h.2 ∙ g.2)

    pub not-found-room : 71 ≤ length s
    not-found-room = field-length 17 68 s not-found-there.0

    pub not-found-is : (i : PointId) → i ≡ point_id_at s 3 → read_state 4 reason s ≡ Some (record { point = NotFound i; size = 71 })
    not-found-is i e =
        not-found-there.1 ∙ ap (λ (j : PointId). Some (record { point = NotFound j; size = 71 })) (sym e)

  module _ (state : ℕ) (h : 4 < state) (r : is_some (read_state state reason s) ≡ true) where
    pub dropped_is : read_state state reason s ≡ Some (record { point = Dropped; size = 0 })
    unfolding read_state_in
    dropped_is =
        let e : read_state state reason s ≡ pick (eqb state 5 && eqb reason 0) (Some (record { point = Dropped; size = 0 })) None =
        rw (ne_eqb state 0 (λ e. omega arith), ne_eqb state 1 (λ e. omega arith), ne_eqb state 2 (λ e. omega arith), ne_eqb state 3 (λ e. omega arith), ne_eqb state 4 (λ e. omega arith)) refl in
        e ∙ (there (eqb state 5 && eqb reason 0) _ (sym (ap is_some e) ∙ r)).2

pub ruleset valid_facts = (valid-front, valid-is)

pub ruleset invalid_facts = (invalid-front, invalid-is)

pub ruleset trans_facts = (trans-room, trans-front, trans-is)

pub ruleset ill_formed_facts = (ill-formed-room, ill-formed-is)

pub ruleset not_found_facts = (not-found-room, not-found-is)

-- ---- an entry

module _ (aim : Option AnchorStageRole) (front : ℕ) (s : List ℕ) (r : is_some (entry_at aim front s) ≡ true) where
  flags-fit : (get_or s 4 0 ≤ 1) × (get_or s 5 0 ≤ 1)
  unfolding entry_at_in
  flags-fit =
      let h = there (field_ok (field_row 16 4 4) s 0 && (leb (get_or s 4 0) 1 && leb (get_or s 5 0) 1)) _ r in
      let g = and_right (field_ok (field_row 16 4 4) s 0) _ h.0 in
      (leb-true _ _ (and_left (leb (get_or s 4 0) 1) _ g), leb-true _ _ (and_right (leb (get_or s 4 0) 1) _ g))

  flags-there : (field_ok (field_row 16 4 4) s 0 ≡ true)
      × (is_some (read_state (get_or s 3 0) (get_or s 6 0) (drop 7 s)) ≡ true)
      × (entry_at aim front s ≡ option_map (listed_as aim front s) (read_state (get_or s 3 0) (get_or s 6 0) (drop 7 s)))
  unfolding entry_at_in
  flags-there =
      let h = there (field_ok (field_row 16 4 4) s 0 && (leb (get_or s 4 0) 1 && leb (get_or s 5 0) 1)) _ r in
      (and_left (field_ok (field_row 16 4 4) s 0) _ h.0, sym (map-some _ (read_state (get_or s 3 0) (get_or s 6 0) (drop 7 s))) ∙ h.1, h.2)

  pub entry-room : 7 ≤ length s
  entry-room = flags_long s flags-there.0

  pub state-reads : is_some (read_state (get_or s 3 0) (get_or s 6 0) (take (length s - 7) (drop 7 s))) ≡ true
  state-reads = ap (λ (t : List ℕ). is_some (read_state (get_or s 3 0) (get_or s 6 0) t)) (rest 7 s) ∙ flags-there.1

  module _ (x : Stated) (e : read_state (get_or s 3 0) (get_or s 6 0) (take (length s - 7) (drop 7 s)) ≡ Some x) where
    pub entry-is : entry_at aim front s ≡ Some (listed_as aim front s x)
    entry-is =
        flags-there.2 ∙ ap (option_map (listed_as aim front s)) (ap (read_state (get_or s 3 0) (get_or s 6 0)) (sym (rest 7 s)) ∙ e)

    pub entry-size : 7 + x.size ≤ length s
    entry-size = state_within s x flags-there.0 flags-fit.0 flags-fit.1 (ap (read_state (get_or s 3 0) (get_or s 6 0)) (sym (rest 7 s)) ∙ e)

pub ruleset entry_facts = (entry-room, state-reads, entry-is, entry-size)

-- ---- by what it is for

one_left : (n : ℕ) → n ≤ 1 → (n ≡ 0 → ⊥) → n ≡ 1
one_left n h g = omega arith

module _ (s : List ℕ) (r : is_some (read_entry s) ≡ true) where
  pub some-bytes : 1 ≤ length s
  some-bytes = some_bytes s (some_of (read_entry s) r).0 (some_of (read_entry s) r).1

  module _ (h : get_or s 0 0 ≡ 19 → ⊥) where
    pub direct-reads : is_some (entry_at None 0 s) ≡ true
    direct-reads = ap is_some (sym (read-direct s h)) ∙ r

  module _ (h : get_or s 0 0 ≡ 19) where
    target-there : (field_ok (field_row 19 1 1) s 0 ≡ true) × (get_or s 3 0 ≤ 1)
    unfolding read_entry_in
    target-there =
        let role = field_ok (field_row 19 1 1) s 0 && leb (get_or s 3 0) 1 in
        let x = entry_at (Some (role_of (get_or s 3 0))) 4 (drop 4 s) in
        let g : is_some (pick role x None) ≡ true =
        sym (ap (λ (b : Bool). is_some (pick b (pick role x None) (entry_at None 0 s))) (eq-eqb (get_or s 0 0) 19 h)) ∙ r in
        let f = there role x g in
        (and_left (field_ok (field_row 19 1 1) s 0) _ f.0, leb-true _ _ (and_right (field_ok (field_row 19 1 1) s 0) _ f.0))

    pub target-room : 4 ≤ length s
    target-room = target_long s target-there.0

    pub proof-is : get_or s 3 0 ≡ 0 → read_entry s ≡ entry_at (Some Proof) 4 (take (length s - 4) (drop 4 s))
    proof-is g = rw (rest 4 s) (read-proof s h target-there.0 g)

    pub trigger-is : (get_or s 3 0 ≡ 0 → ⊥) → read_entry s ≡ entry_at (Some Trigger) 4 (take (length s - 4) (drop 4 s))
    trigger-is g = let m = target-there.1 in rw (rest 4 s) (read-trigger s h target-there.0 (one_left (get_or s 3 0) m g))

    pub proof-reads : get_or s 3 0 ≡ 0 → is_some (entry_at (Some Proof) 4 (take (length s - 4) (drop 4 s))) ≡ true
    proof-reads g = ap is_some (sym (proof-is g)) ∙ r

    pub trigger-reads : (get_or s 3 0 ≡ 0 → ⊥) → is_some (entry_at (Some Trigger) 4 (take (length s - 4) (drop 4 s))) ≡ true
    trigger-reads g = ap is_some (sym (trigger-is g)) ∙ r

  pub four-bytes : 4 ≤ length s
  four-bytes = go (eqb (get_or s 0 0) 19) refl
    where
      go : (b : Bool) → b ≡ eqb (get_or s 0 0) 19 → 4 ≤ length s
      go true e = target-room (eqb-true _ _ (sym e))
      go false e = let f = entry-room None 0 s (direct-reads (λ h. clash _ (eq-eqb (get_or s 0 0) 19 h) (sym e))) in omega (arith, f)

pub entry-sized : (s : List ℕ) (x : Listed) → read_entry s ≡ Some x → (0 < x.size) × (x.size ≤ length s)
entry-sized s x e = let f = entry-front s x e in (f.least, f.within)

pub ruleset aimed_facts = (entry-sized, some-bytes, four-bytes, direct-reads, read-direct, target-room, proof-is, trigger-is, proof-reads, trigger-reads)
