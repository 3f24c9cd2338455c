-- Laws of entries: the steps of reading one.
use Rattle.std.proofs.lemmas.Bool.Decides.{nat_tests}
use Rattle.std.specs.Prelude.{Option, None, Some, option_map}
use Rattle.std.proofs.Common.{length-take-le}
use Rattle.std.proofs.lemmas.List.{drop-drop}
use Prim.Native.Nat.{ℕ, ◌+◌, ◌-◌, ◌≤◌, ◌<◌}
use native.Mathlib.Omega.{arith}
use mathlib.Core.Path.{◌≡◌, refl, ap, sym, ◌∙◌}
use mathlib.Core.Bool.{Bool, true, false, ◌&&◌}
use mathlib.Core.List.{List, [], ◌∷◌}
use lib.ListN.{length, get_or, take, drop}
use lib.Dec.{eqb}
use borrow.Author.Tests.{le-leb, lt-leb, eq-eqb, ne_eqb}
use Rattle.base.specs.Base.{pick}
use Rattle.base.proofs.Option.{picked, and_then_lem}
use Rattle.record.specs.Record.{field_row, field_ok, record_end}
use Rattle.record.proofs.Laws.{field-length, fitting, end-within}
use Rattle.rules.proofs.Pieces.{entry-front}
use Rattle.point.specs.Point.{PointId, PointInfo}
use Rattle.point.specs.Reading.{point_id_at, read_point}
use Rattle.point.specs.Said.{said}
use Rattle.point.specs.declared.info.Point as code
use Rattle.point.specs.declared.data.AnchorStageRole.{AnchorStageRole}
use Rattle.point.specs.declared.data.AnchorStageRole.TheVariants.{Proof, Trigger}
use Rattle.rules.specs.DagPoint.{DagPoint, TransInvalid, Dropped}
use Rattle.rules.specs.List.{is_listable, Stated, RecordFront, record_front, record_front_in, record_at, is_root, read_state, read_state_in, Listed, entry_at, entry_at_in, read_entry, read_entry_in}
use Rattle.judge_entries.specs.Entry.{record_front_of, listed_of, Sized, EndsWith}
use Rattle.judge_entries.specs.declared.entry.Listed as code-listed

-- ---- the record of a listed point

pub front_endless : (s : List ℕ) → record_end s ≡ None → record_front s ≡ None
unfolding record_front_in
front_endless s h = rw h

-- the part of a slice up to where its record ends
module _ (s : List ℕ) (n : ℕ) (e : record_end s ≡ Some n) where
  pub front-within : n ≤ length s
  front-within = end-within s n e

  pub front-unread : read_point (take n s) ≡ None → record_front s ≡ None
  unfolding record_front_in
  front-unread h = rw (e, h)

  module _ (p : code.Point) (same : p.rec.now ≡ take n s) where
    says : read_point (take n s) ≡ Some (said p)
    says = ap read_point (sym same) ∙ p.reads.read

    front-length : length p.rec.now ≡ n
    front-length = ap length same ∙ length-take-le n s front-within

    pub front_unlisted : is_listable (said p) ≡ false → record_front s ≡ None
    unfolding record_front_in
    front_unlisted g = rw (e, says, g)

    pub front-listed : is_listable (said p) ≡ true → record_front s ≡ Some (record_front_of p)
    unfolding record_front_in
    front-listed g = rw (e, says, g, front-length)

    pub front-placed : EndsWith s (length p.rec.now) p.rec.now
    front-placed =
        let z : length p.rec.now - length p.rec.now ≡ 0 = omega arith in
        record { fits = omega arith; part = rw z (rw front-length same) }

-- the parts of a record that was read at the front of a slice
pub record Fronted (s : List ℕ) (x : RecordFront) : Type 0 where
  pub end : record_end s ≡ Some x.size
  pub reads : read_point (take x.size s) ≡ Some x.point

pub fronted : (s : List ℕ) (x : RecordFront) → record_front s ≡ Some x → Fronted s x
unfolding record_front_in
fronted s x h =
    let n = and_then_lem (record_end s) _ x h in
    let q = and_then_lem (read_point (take n.0 s)) _ x n.2 in
    let e : record { point = q.0; size = n.0 } ≡ x = let p = (picked (is_listable q.0) _ x q.2).1 in cc in
    record { end = rw (← e) n.1; reads = rw (← e) q.1 }

-- what a record's state is, where the record at the front of a part was read or was not
module _ (s part : List ℕ) (front : ℕ) (e : part ≡ drop front s) (r : Option code.Point) (h : option_map record_front_of r ≡ record_front part) (state : PointInfo → DagPoint) where
  pub record-none : r ≡ None → record_at state front s ≡ None
  record-none g = let o : record_front (drop front s) ≡ None = ap record_front (sym e) ∙ (sym h ∙ ap (option_map record_front_of) g) in rw o

  pub record-some : (p : code.Point) → r ≡ Some p → record_at state front s ≡ Some (record { point = state (said p); size = front + length p.rec.now })
  record-some p g =
      let o : record_front (drop front s) ≡ Some (record_front_of p) = ap record_front (sym e) ∙ (sym h ∙ ap (option_map record_front_of) g) in
      rw o

-- ---- where a record stands

-- with `front` bytes before the part that ends with it
pub ends_after : (s part rec : List ℕ) (front n : ℕ) → part ≡ drop front s → EndsWith part n rec → EndsWith s (front + n) rec
ends_after s part rec front n e h =
    let m : front + n - length rec ≡ front + (n - length rec) = omega (arith, h.fits) in
    record {
      fits = omega (arith, h.fits);
      part = rw m (h.part ∙ ap (take (length rec)) (ap (drop (n - length rec)) e ∙ drop-drop (n - length rec) front s));
    }

-- ---- how long a slice is in which these were found

pub flags_long : (s : List ℕ) → field_ok (field_row 16 4 4) s 0 ≡ true → 7 ≤ length s
flags_long = field-length 16 4

pub target_long : (s : List ℕ) → field_ok (field_row 19 1 1) s 0 ≡ true → 4 ≤ length s
target_long = field-length 19 1

-- ---- what stands after the flags, by the state

pub state_trans : (s : List ℕ) (i : PointId) → is_root s ≡ true → i ≡ point_id_at s 3 → read_state 1 0 s ≡ record_at (λ q. TransInvalid q i (get_or s 71 0)) 72 s
unfolding read_state_in
state_trans s i h e = rw (h, e)

-- the rows of the states other than 2 and 3, where the reason is not 0
none_of_four : (a b d e : Bool) (x : Option Stated) → pick a None (pick b None (pick d None (pick (e && false) x None))) ≡ None
none_of_four true b d e x = refl
none_of_four false true d e x = refl
none_of_four false false true e x = refl
none_of_four false false false true x = refl
none_of_four false false false false x = refl

module _ (state reason : ℕ) (s : List ℕ) (not2 : state ≡ 2 → ⊥) (not3 : state ≡ 3 → ⊥) where
  pub state-numbered : (reason ≡ 0 → ⊥) → read_state state reason s ≡ None
  unfolding read_state_in
  state-numbered h =
      rw (ne_eqb state 2 not2, ne_eqb state 3 not3, ne_eqb reason 0 h)
      (none_of_four (eqb state 0) (eqb state 1) (eqb state 4) (eqb state 5) (Some (record { point = Dropped; size = 0 })))

  pub state-unknown : (state ≡ 0 → ⊥) → (state ≡ 1 → ⊥) → (state ≡ 4 → ⊥) → (state ≡ 5 → ⊥) → read_state state reason s ≡ None
  unfolding read_state_in
  state-unknown not0 not1 not4 not5 =
      rw (ne_eqb state 0 not0, ne_eqb state 1 not1, ne_eqb state 2 not2, ne_eqb state 3 not3, ne_eqb state 4 not4, ne_eqb state 5 not5)

-- ---- an entry

over-one : (n : ℕ) → (n ≡ 0 → ⊥) → (n ≡ 1 → ⊥) → 1 < n
over-one n g h = omega arith

module _ (s : List ℕ) where
  pub read-direct : (get_or s 0 0 ≡ 19 → ⊥) → read_entry s ≡ entry_at None 0 s
  unfolding read_entry_in
  read-direct h = rw (ne_eqb (get_or s 0 0) 19 h)

  module _ (e : get_or s 0 0 ≡ 19) where
    module _ (f : field_ok (field_row 19 1 1) s 0 ≡ true) where
      pub read-proof : get_or s 3 0 ≡ 0 → read_entry s ≡ entry_at (Some Proof) 4 (drop 4 s)
      unfolding read_entry_in
      read-proof h = rw (f, eq-eqb (get_or s 0 0) 19 e, h)

      pub read-trigger : get_or s 3 0 ≡ 1 → read_entry s ≡ entry_at (Some Trigger) 4 (drop 4 s)
      unfolding read_entry_in
      read-trigger h = rw (f, eq-eqb (get_or s 0 0) 19 e, h)

      pub read_roleless : (get_or s 3 0 ≡ 0 → ⊥) → (get_or s 3 0 ≡ 1 → ⊥) → read_entry s ≡ None
      unfolding read_entry_in
      read_roleless g h = rw (f, eq-eqb (get_or s 0 0) 19 e, lt-leb (get_or s 3 0) 1 (over-one (get_or s 3 0) g h))

-- an entry by what stands after its flags
abbrev pub listed_as : Option AnchorStageRole → ℕ → List ℕ → Stated → Listed
listed_as aim front s x =
    record {
      aim = aim;
      entry = record { state = x.point; certified = eqb (get_or s 4 0) 1; first_valid = eqb (get_or s 5 0) 1 };
      size = front + 7 + x.size;
    }

module _ (aim : Option AnchorStageRole) (front : ℕ) (s : List ℕ) (f : field_ok (field_row 16 4 4) s 0 ≡ true) (g : get_or s 4 0 ≤ 1) (h : get_or s 5 0 ≤ 1) where
  pub entry_flagged : entry_at aim front s ≡ option_map (listed_as aim front s) (read_state (get_or s 3 0) (get_or s 6 0) (drop 7 s))
  unfolding entry_at_in
  entry_flagged = rw (f, le-leb (get_or s 4 0) 1 g, le-leb (get_or s 5 0) 1 h)

-- what stands after an entry's flags lies in the slice
pub state_within : (s : List ℕ) (x : Stated) → field_ok (field_row 16 4 4) s 0 ≡ true → get_or s 4 0 ≤ 1 → get_or s 5 0 ≤ 1 →
    read_state (get_or s 3 0) (get_or s 6 0) (drop 7 s) ≡ Some x → 7 + x.size ≤ length s
state_within s x f g h e =
    let tag : get_or s 0 0 ≡ 16 = (fitting (field_row 16 4 4) s 0 f).tag in
    (entry-front s (listed_as None 0 s x) (read-direct s (λ n. absurd (omega arith)) ∙ (entry_flagged None 0 s f g h ∙ ap (option_map (listed_as None 0 s)) e))).within

pub sized : (s : List ℕ) (r : Option code-listed.Listed) → option_map listed_of r ≡ read_entry s → Sized s r
sized s None h = tt
sized s (Some x) h = let f = entry-front s (listed_of x) (sym h) in (f.least, f.within)

pub read_empty : (s : List ℕ) → length s ≡ 0 → read_entry s ≡ None
unfolding read_entry_in entry_at_in field_ok
read_empty [] h = refl
read_empty (b ∷ s) h = absurd (omega arith)

-- the front of an entry
pub ruleset front_read = (target_long, read_empty)

-- what reading an entry rests on
pub ruleset entry_facts = (nat_tests, front_read)
