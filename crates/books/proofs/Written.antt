-- Entries of a list of dependencies, as bytes that are read back: one of them, and one after the other.
use Rattle.std.specs.Prelude.{Option, None, Some, is_some}
use Prim.Native.Nat.{ℕ, zero, suc, ◌+◌, ◌≤◌}
use native.Mathlib.Nat.{zero-add}
use native.Mathlib.Omega.{arith}
use mathlib.Core.Path.{◌≡◌, refl, ap, ◌∙◌}
use mathlib.Core.Bool.{Bool, true, false, ◌&&◌}
use mathlib.Core.List.{List, [], ◌∷◌, ◌++◌}
use lib.ListN.{length, get_or}
use lib.Seq.{take-append_seam, drop-append_seam}
use lib.Dec.{leb, eqb}
use borrow.Author.Tests.{ne_eqb}
use Rattle.base.proofs.Bool.{and_right, and_both, pick_true, pick-false}
use Rattle.parts.specs.Bytes.{little_bytes, big_bytes}
use Rattle.record.specs.Record.{field_row, field_ok}
use Rattle.record.proofs.Laws.{append-end}
use Rattle.point.specs.Point.{PointId}
use Rattle.point.specs.Reading.{point_id_at}
use Rattle.point.specs.declared.data.AnchorStageRole.{AnchorStageRole}
use Rattle.point.specs.declared.data.AnchorStageRole.TheVariants.{Proof, Trigger}
use Rattle.reasons.specs.Invalid.{InvalidDependency, dag_round}
use Rattle.rules.specs.DagPoint as dag
use Rattle.rules.specs.DagPoint.{DagPoint, Entry, IndirectEntry}
use Rattle.reasons.specs.Answer.{flag, role_number}
use Rattle.reasons.proofs.Laws.{flag-back}
use Rattle.rules.specs.List.{is_listable, record_front, record_front_in, is_root, read_state, read_state_in, Listed, entry_at, entry_at_in, read_entry, read_entry_in, is_in_order, list_from, list_from_in, directs, indirects}
use Rattle.books.specs.Kept.{Status, Valid, TransInvalid, Invalid, IllFormed, Kept}
use Rattle.books.specs.Lists.{dag_point}
use Rattle.point.specs.Written.{id_bytes}
use Rattle.books.specs.ListFor.{tag16, tag17, entry_as}
use Rattle.rules.proofs.Decoded.{role-back}
use Rattle.point.proofs.Fits.{IdFits, read-fits}
use Rattle.books.proofs.Shape.{StatusShape, KeptShape}
use Rattle.point.proofs.PartsWritten.{id_length, id-back}
use Rattle.books.proofs.RoundTrip.{flag-fits, kept-shaped, field-there}

-- ---- one entry

-- bytes that are read as an entry, whatever stands after them, for a link or not
pub record Written (e : List ℕ) (x : Entry) : Type 0 where
  pub tag : (rest : List ℕ) → get_or (e ++ rest) 0 0 ≡ 16
  pub reads : (aim : Option AnchorStageRole) (front : ℕ) (rest : List ℕ) → entry_at aim front (e ++ rest) ≡ Some (record { aim = aim; entry = x; size = front + length e })

-- tag 16, and what is read after it
pub tagged : (state reason : ℕ) (c f : Bool) (body : List ℕ) (x : DagPoint) →
    ((rest : List ℕ) → read_state state reason (body ++ rest) ≡ Some (record { point = x; size = length body })) →
    Written (tag16 state c f reason ++ body) (record { state = x; certified = c; first_valid = f })
unfolding entry_at_in
tagged state reason c f body x h =
    record {
      tag = λ rest. refl;
      reads = λ aim front rest.
          let e : front + 7 + length body ≡ front + length (tag16 state c f reason ++ body) = omega arith in
          rw (field-there 16 4 [] (state ∷ flag c ∷ flag f ∷ reason ∷ (body ++ rest)) (omega arith), flag-fits c, flag-fits f, h rest, flag-back c, flag-back f, e);
    }

-- the record of an entry
record_front_lem : (k : Kept) (rest : List ℕ) → KeptShape k → is_listable k.point ≡ true →
    record_front (k.bytes ++ rest) ≡ Some (record { point = k.point; size = length k.bytes })
unfolding record_front_in
record_front_lem k rest o l = rw (append-end k.bytes rest (kept-shaped k o), take-append_seam k.bytes rest, o.read, l)

-- tag 17
id-state : (i : PointId) (rest : List ℕ) → IdFits i → (field_ok (field_row 17 68 68) (tag17 i ++ rest) 0 ≡ true) × (point_id_at (tag17 i ++ rest) 3 ≡ i)
unfolding little_bytes big_bytes
id-state i rest f = (field-there 17 68 [] (id_bytes i ++ rest) (omega arith), id-back i rest f 17 68 0)

pub lost-reads : (i : PointId) (rest : List ℕ) → IdFits i → read_state 4 0 (tag17 i ++ rest) ≡ Some (record { point = dag.NotFound i; size = length (tag17 i) })
unfolding read_state_in
lost-reads i rest f = rw ((id-state i rest f).0, (id-state i rest f).1, id_length i)

ill-formed-reads : (i : PointId) (n : ℕ) (rest : List ℕ) → IdFits i → (leb 1 n && leb n 16) ≡ true →
    read_state 3 n (tag17 i ++ rest) ≡ Some (record { point = dag.IllFormed i n; size = length (tag17 i) })
unfolding read_state_in
ill-formed-reads i n rest f s = rw (s, (id-state i rest f).0, (id-state i rest f).1, id_length i)

-- tag 18 with its root cause
abbrev tag18 : InvalidDependency → List ℕ
tag18 d = 18 ∷ 69 ∷ 0 ∷ (id_bytes d.to ++ (d.reason ∷ []))

module _ (k : Kept) (rest : List ℕ) (o : KeptShape k) where
  valid-reads : is_listable k.point ≡ true → read_state 0 0 (k.bytes ++ rest) ≡ Some (record { point = dag.Valid k.point; size = length k.bytes })
  unfolding read_state_in
  valid-reads l = rw (record_front_lem k rest o l, zero-add (length k.bytes))

  invalid-reads : (n : ℕ) → is_listable k.point ≡ true → is_some (dag_round n) ≡ true →
      read_state 2 n (k.bytes ++ rest) ≡ Some (record { point = dag.Invalid k.point n; size = length k.bytes })
  unfolding read_state_in
  invalid-reads n l r = rw (r, record_front_lem k rest o l, zero-add (length k.bytes))

  module _ (d : InvalidDependency) (f : IdFits d.to) where
    root-reads : (leb 4 d.to.round && (leb d.to.round 2147483647 && is_some (dag_round d.reason))) ≡ true → is_root (tag18 d ++ (k.bytes ++ rest)) ≡ true
    unfolding is_root little_bytes big_bytes point_id_at
    root-reads s =
        rw (field-there 18 69 [] (id_bytes d.to ++ (d.reason ∷ (k.bytes ++ rest))) (omega arith), ap (λ (i : PointId). i.round) (id-back d.to (d.reason ∷ (k.bytes ++ rest)) f 18 69 0)) s

    trans_invalid-reads : is_listable k.point ≡ true → is_root (tag18 d ++ (k.bytes ++ rest)) ≡ true →
        read_state 1 0 ((tag18 d ++ k.bytes) ++ rest) ≡ Some (record { point = dag.TransInvalid k.point d.to d.reason; size = length (tag18 d ++ k.bytes) })
    unfolding read_state_in little_bytes big_bytes
    trans_invalid-reads l r =
        let e : 72 + length k.bytes ≡ length (tag18 d ++ k.bytes) = omega arith in
        rw (r, record_front_lem k rest o l, id-back d.to (d.reason ∷ (k.bytes ++ rest)) f 18 69 0, e)

-- an entry in any state that the book keeps
pub entry-written : (k : Kept) → KeptShape k → (c f : Bool) (x : Status) → StatusShape k.point x →
    Written (entry_as k c f x) (record { state = dag_point k.point x; certified = c; first_valid = f })
entry-written k o c f Valid s = tagged 0 0 c f k.bytes (dag.Valid k.point) (λ rest. valid-reads k rest o s.keepable)
entry-written k o c f (TransInvalid d) s =
    tagged 1 0 c f (tag18 d ++ k.bytes) (dag.TransInvalid k.point d.to d.reason)
    (λ rest. trans_invalid-reads k rest o d s.fits.to s.keepable (root-reads k rest o d s.fits.to (and_right (is_listable k.point) _ s.state)))
entry-written k o c f (Invalid n) s =
    tagged 2 n c f k.bytes (dag.Invalid k.point n) (λ rest. invalid-reads k rest o n s.keepable (and_right (is_listable k.point) _ s.state))
entry-written k o c f (IllFormed n) s =
    tagged 3 n c f (tag17 k.point.id) (dag.IllFormed k.point.id n)
    (λ rest. ill-formed-reads k.point.id n rest (read-fits k.bytes k.point o.bytes o.read).id s.state)

-- ---- entries one after the other

-- what bytes are read as, with at most n entries
pub record Read (n : ℕ) (after : Bool) (s : List ℕ) (es : List Entry) (ts : List IndirectEntry) : Type 0 where
  pub list : List Listed
  pub reads : list_from n after s ≡ Some list
  pub direct : directs list ≡ es
  pub indirect : indirects list ≡ ts

-- the same with any number of entries that is at least m
abbrev pub Reads : ℕ → Bool → List ℕ → List Entry → List IndirectEntry → Type 0
Reads m after s es ts = (n : ℕ) → m ≤ n → Read n after s es ts

pub none_read : (after : Bool) → Reads 0 after [] [] []
unfolding list_from_in directs indirects
none_read after zero h = record { list = []; reads = refl; direct = refl; indirect = refl }
none_read after (suc n) h = record { list = []; reads = refl; direct = refl; indirect = refl }

filled : (s : List ℕ) (t : ℕ) → get_or s 0 0 ≡ suc t → eqb (length s) 0 ≡ false
filled [] t h = absurd (omega arith)
filled (x ∷ s) t h = ne_eqb (suc (length s)) 0 (λ e. omega arith)

-- one more entry in front
more-reads : (n : ℕ) (after : Bool) (e s : List ℕ) (x : Listed) (l : List Listed) (t : ℕ) → get_or (e ++ s) 0 0 ≡ suc t → read_entry (e ++ s) ≡ Some x → x.size ≡ length e →
    is_in_order after x.aim ≡ true → list_from n (is_some x.aim) s ≡ Some l → list_from (suc n) after (e ++ s) ≡ Some (x ∷ l)
unfolding list_from_in
more-reads n after e s x l t b r z i h = rw (filled (e ++ s) t b, r, i, z, drop-append_seam e s, h)

-- an entry that begins with tag 16
read-direct : (s : List ℕ) → get_or s 0 0 ≡ 16 → read_entry s ≡ entry_at None 0 s
unfolding read_entry_in
read-direct s t = pick-false (eqb (get_or s 0 0) 19) _ _ (ap (λ (y : ℕ). eqb y 19) t)

pub direct-more : (e : List ℕ) (x : Entry) (m : ℕ) (s : List ℕ) (es : List Entry) (ts : List IndirectEntry) → Written e x →
    Reads m false s es ts → Reads (suc m) false (e ++ s) (x ∷ es) ts
unfolding directs indirects
direct-more e x m s es ts w r zero h = absurd (omega arith)
direct-more e x m s es ts w r (suc n) h =
    let y : Listed = record { aim = None; entry = x; size = 0 + length e } in
    let z = r n (omega arith) in
    record {
      list = y ∷ z.list;
      reads = more-reads n false e s y z.list 15 (w.tag s) (read-direct (e ++ s) (w.tag s) ∙ w.reads None 0 s) (zero-add (length e)) refl z.reads;
      direct = ap (λ (l : List Entry). x ∷ l) z.direct;
      indirect = z.indirect;
    }

role-fits : (g : AnchorStageRole) → leb (role_number g) 1 ≡ true
role-fits Proof = refl
role-fits Trigger = refl

abbrev tag19 : AnchorStageRole → List ℕ
tag19 g = 19 ∷ 1 ∷ 0 ∷ role_number g ∷ []

-- one that begins with tag 19
read-indirect : (g : AnchorStageRole) (s : List ℕ) → read_entry (tag19 g ++ s) ≡ entry_at (Some g) 4 s
unfolding read_entry_in
read-indirect g s =
    pick_true (field_ok (field_row 19 1 1) (tag19 g ++ s) 0 && leb (role_number g) 1) _ None
    (and_both (field_ok (field_row 19 1 1) (tag19 g ++ s) 0) _ (field-there 19 1 [] (role_number g ∷ s) (omega arith)) (role-fits g))
    ∙ ap (λ (r : AnchorStageRole). entry_at (Some r) 4 s) (role-back g)

-- after it only such entries stand
pub indirect-more : (g : AnchorStageRole) (e : List ℕ) (x : Entry) (m : ℕ) (s : List ℕ) (ts : List IndirectEntry) → Written e x → ((after : Bool) → Reads m after s [] ts) →
    (after : Bool) → Reads (suc m) after ((tag19 g ++ e) ++ s) [] (record { role = g; entry = x } ∷ ts)
unfolding directs indirects
indirect-more g e x m s ts w r after zero h = absurd (omega arith)
indirect-more g e x m s ts w r after (suc n) h =
    let y : Listed = record { aim = Some g; entry = x; size = 4 + length e } in
    let z = r true n (omega arith) in
    record {
      list = y ∷ z.list;
      reads = more-reads n after (tag19 g ++ e) s y z.list 18 refl (read-indirect g (e ++ s) ∙ w.reads (Some g) 4 s) (omega arith) (any after) z.reads;
      direct = z.direct;
      indirect = ap (λ (l : List IndirectEntry). record { role = g; entry = x } ∷ l) z.indirect;
    }
  where
    any : (after : Bool) → is_in_order after (Some g) ≡ true
    any true = refl
    any false = refl
