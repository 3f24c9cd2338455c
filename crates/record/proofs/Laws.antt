-- Laws of fields one after the other, and of records of nine of them.
use Rattle.std.specs.Prelude.{Option, None, Some, MatchOption, is_some}
use Rattle.std.specs.Bool.{then_some}
use Prim.Native.Nat.{ℕ, zero, suc, ◌+◌, ◌-◌, ◌≤◌, ◌<◌}
use native.Mathlib.Omega.{arith}
use native.Mathlib.Decide.{dec_lt}
use mathlib.Core.Path.{◌≡◌, refl, ap, sym, ◌∙◌}
use mathlib.Core.List.{List, [], ◌∷◌, ◌++◌}
use mathlib.Core.Bool.{Bool, true, false}
use lib.ListN.{length, get_or, take, drop, length-take, length-drop, length-append}
use lib.Seq.{drop-cons, take-take, get_or-take, length-take-le, take-length, take-append_seam}
use lib.Dec.{leb, eqb}
use Rattle.std.proofs.lemmas.Bool.Decides.{nat_tests}
use native.Mathlib.Numerals.{add-one}
use borrow.Author.Tests.{eqb-true, le-leb, lt-leb}
use Rattle.base.specs.Base.{pick, is_some_and}
use Rattle.base.proofs.Option.{picked, some_of}
use Rattle.parts.specs.Bytes.{bytes_at, little_at, Bytes}
use Rattle.parts.proofs.Laws.{part_front, at-bytes}
use Rattle.record.specs.declared.Row.{Row}
use Rattle.record.specs.Record.{length_at, next_at, content_at, field_ok, end_from, start_of, content_of, field_row, rows, row_of, record_end, well_shaped}
use Rattle.record.specs.declared.Places.{Places}
use Rattle.record.specs.Code.{PlacesOf, Walked, length_if}

-- ---- one field

module _ (s : List ℕ) (at : ℕ) where
  pub next-within : next_at s at ≤ length s
  unfolding next_at
  next-within = omega arith

  pub next-whole : at + 3 + length_at s at ≤ length s → next_at s at ≡ at + 3 + length_at s at
  unfolding next_at
  next-whole h = omega arith

  pub content-length : length (content_at s at) ≡ next_at s at - (at + 3)
  unfolding content_at
  content-length = simp (length-take, length-drop) (omega (arith, next-within))

-- what a field that fits a row gives
pub record Fitting (row : Row) (s : List ℕ) (at : ℕ) : Type 0 where
  pub head : at + 3 ≤ length s
  pub tag : get_or s at 0 ≡ row.tag
  pub least : row.least ≤ length_at s at
  pub greatest : length_at s at ≤ row.greatest
  pub end : at + 3 + length_at s at ≤ length s
  pub next : next_at s at ≡ at + 3 + length_at s at
  pub content : length (content_at s at) ≡ length_at s at

module _ (row : Row) (s : List ℕ) (at : ℕ) where
  pub fitting : field_ok row s at ≡ true → Fitting row s at
  unfolding field_ok
  fitting h =
      let within : at + 3 + length_at s at ≤ length s = grind (arith, nat_tests) in
      let whole = next-whole s at within in
      record {
        head = omega arith;
        tag = grind (arith, nat_tests);
        least = grind (arith, nat_tests);
        greatest = grind (arith, nat_tests);
        end = within;
        next = whole;
        content = omega (arith, content-length s at, whole);
      }

  -- the last of a field's five tests decides, once the other four hold
  pub field-last : at + 3 ≤ length s → get_or s at 0 ≡ row.tag → row.least ≤ length_at s at → length_at s at ≤ row.greatest →
      field_ok row s at ≡ leb (at + 3 + length_at s at) (length s)
  unfolding field_ok
  field-last h t l g = grind (arith, nat_tests)

-- how many bytes a field of a fixed length takes, at the front
pub field-length : (tag n : ℕ) (s : List ℕ) → field_ok (field_row tag n n) s 0 ≡ true → 3 + n ≤ length s
field-length tag n s h = let f = fitting (field_row tag n n) s 0 h in omega (arith, f.least, f.end)

-- no field whose head is cut off fits
no_head_lem : (row : Row) (s : List ℕ) (at : ℕ) → length s < at + 3 → field_ok row s at ≡ false
unfolding field_ok
no_head_lem row s at h = grind (arith, nat_tests)

-- ---- a row of fields

-- the fields of some rows end after where they start
pub end_after : (rs : List Row) (s : List ℕ) (at n : ℕ) → end_from rs s at ≡ Some n → at ≤ n
unfolding end_from
end_after [] s at n h = let e : at ≡ n = cc in omega arith
end_after (r ∷ rs) s at n h =
    let p = picked (field_ok r s at) (end_from rs s (next_at s at)) n h in
    omega (arith, (fitting r s at p.0).next, end_after rs s (next_at s at) n p.1)

-- the most bytes that fields of some rows take
abbrev pub most : List Row → ℕ
most [] = 0
most (r ∷ rs) = 3 + r.greatest + most rs

pub end-most : (rs : List Row) (s : List ℕ) (at n : ℕ) → end_from rs s at ≡ Some n → n ≤ at + most rs
unfolding end_from
end-most [] s at n h = let e : at ≡ n = cc in omega arith
end-most (r ∷ rs) s at n h =
    let p = picked (field_ok r s at) (end_from rs s (next_at s at)) n h in
    let f = fitting r s at p.0 in
    omega (arith, f.next, f.greatest, end-most rs s (next_at s at) n p.1)

pub start-within : (s : List ℕ) (k : ℕ) → start_of s k ≤ length s
unfolding start_of
start-within s zero = omega arith
start-within s (suc k) = next-within s (start_of s k)

pub start-next : (s : List ℕ) (k : ℕ) → start_of s (k + 1) ≡ next_at s (start_of s k)
unfolding start_of
start-next s k = rw (add-one k)

pub content-bytes : (s : List ℕ) (k : ℕ) → Bytes s → Bytes (content_of s k)
unfolding content_of content_at
content-bytes s k b = at-bytes (next_at s (start_of s k) - (start_of s k + 3)) s (start_of s k + 3) b

-- ---- records

-- where the nine fields end is where the fields of the rows from k on end
pub end-start : (s : List ℕ) → record_end s ≡ end_from (drop 0 rows) s 0
unfolding record_end
end-start s = refl

pub record_most : (s : List ℕ) (n : ℕ) → record_end s ≡ Some n → n ≤ 41126
unfolding record_end rows
record_most s n h = end-most rows s 0 n h

nine : (k : ℕ) → k < 9 → k < length rows
unfolding rows
nine k h = h

pub end_step : (s : List ℕ) (at k : ℕ) → k < 9 →
    end_from (drop k rows) s at ≡ pick (field_ok (row_of k) s at) (end_from (drop (suc k) rows) s (next_at s at)) None
unfolding row_of end_from
end_step s at k h = ap (λ (l : List Row). end_from l s at) (drop-cons rows k (field_row 0 0 0) (nine k h))

pub end-last : (s : List ℕ) (at : ℕ) → end_from (drop 9 rows) s at ≡ Some at
unfolding rows end_from
end-last s at = refl

module _ (s : List ℕ) (e : ℕ) (h : record_end s ≡ Some e) where
  end-left : (k : ℕ) → k ≤ 9 → end_from (drop k rows) s (start_of s k) ≡ Some e
  unfolding start_of
  end-left zero g = sym (end-start s) ∙ h
  end-left (suc k) g =
      let at = start_of s k in
      (picked (field_ok (row_of k) s at) _ e (sym (end_step s at k g) ∙ end-left k (omega arith))).1

  -- field k of nine that stand at the front of a list fits its row
  pub front-field : (k : ℕ) → k < 9 → Fitting (row_of k) s (start_of s k)
  front-field k g =
      let at = start_of s k in
      let rest = end_from (drop (suc k) rows) s (next_at s at) in
      fitting (row_of k) s at (picked _ rest e (sym (end_step s at k g) ∙ end-left k (omega arith))).0

  pub start-before : (k : ℕ) → k ≤ 9 → start_of s k ≤ e
  start-before k g = end_after (drop k rows) s (start_of s k) e (end-left k g)

  pub end_is : start_of s 9 ≡ e
  end_is = let l = end-left 9 (omega arith) in cc (end-last s (start_of s 9))

  pub end-within : e ≤ length s
  end-within = omega (arith, end_is, start-within s 9)

-- a record that is known to stand at the front of a list: where its fields lie, and where it ends
module _ (s : List ℕ) (h : is_some (record_end s) ≡ true) where
  pub known-within : (k at : ℕ) → k < 9 → at ≡ start_of s k → at + 3 + length_at s at ≤ length s
  known-within k at g f = let e = some_of (record_end s) h in rw f (front-field s e.0 e.1 k g).end

  pub known-end : record_end s ≡ Some (start_of s 9)
  known-end = let e = some_of (record_end s) h in e.1 ∙ ap Some (sym (end_is s e.0 e.1))

ends_at : (o : Option ℕ) (n : ℕ) → is_some_and o (λ e. eqb e n) ≡ true → o ≡ Some n
ends_at None n h = cc
ends_at (Some e) n h = ap Some (eqb-true e n h)

pub shaped-end : (s : List ℕ) → well_shaped s ≡ true → record_end s ≡ Some (length s)
unfolding well_shaped
shaped-end s w = ends_at (record_end s) (length s) w

-- the first field of a record starts at its front, and after the last one nothing stands
pub start_first : (s : List ℕ) → start_of s 0 ≡ 0
unfolding start_of
start_first s = refl

pub start_last : (s : List ℕ) → well_shaped s ≡ true → start_of s 9 ≡ length s
start_last s w = end_is s (length s) (shaped-end s w)

pub end-shaped : (s : List ℕ) → record_end s ≡ Some (length s) → well_shaped s ≡ true
unfolding well_shaped
end-shaped s h = grind (arith, nat_tests)

module _ (s : List ℕ) (w : well_shaped s ≡ true) (k : ℕ) (h : k < 9) where
  -- field k of a record of the right shape fits its row
  pub field : Fitting (row_of k) s (start_of s k)
  field = front-field s (length s) (shaped-end s w) k h

  pub content-least : (row_of k).least ≤ length (content_of s k)
  unfolding content_of
  content-least = omega (arith, field.least, field.content)

  pub content-greatest : length (content_of s k) ≤ (row_of k).greatest
  unfolding content_of
  content-greatest = omega (arith, field.greatest, field.content)

module _ (s : List ℕ) (w : well_shaped s ≡ true) where
  -- the first two fields of a record have one length
  pub third-start : start_of s 2 ≡ 82
  unfolding start_of row_of rows
  third-start =
      let a = field s w 0 (omega arith) in
      let b = field s w 1 (omega arith) in
      omega (arith, a.next, a.least, a.greatest, b.next, b.least, b.greatest)

  pub start-most : (k : ℕ) → start_of s k ≤ 41126
  start-most k = omega (arith, start-within s k, record_most s (length s) (shaped-end s w))

-- ---- the walk that tests a record and finds its places

-- the record at the front of a slice is over where its head is cut off
pub head_cut : (s : List ℕ) → length s < 3 → record_end s ≡ None
head_cut s h = end-start s ∙ (end_step s 0 0 (omega arith) ∙ rw (no_head_lem (row_of 0) s 0 h))

module _ (row : Row) (s : List ℕ) (at : ℕ) where
  -- a field whose tag or length is not the row's does not fit
  length-none : length_if row s at ≡ None → field_ok row s at ≡ false
  unfolding length_if field_ok
  length-none h = grind (arith, nat_tests)

  -- else it fits if it lies in the list
  length-some : (n : ℕ) → at + 3 ≤ length s → length_if row s at ≡ Some n → (n ≡ length_at s at) × (field_ok row s at ≡ leb (at + 3 + n) (length s))
  unfolding length_if field_ok
  length-some n g h = grind (arith, nat_tests)

pub walk_start : (s : List ℕ) → 3 ≤ length s → Walked s 0 0
unfolding start_of
walk_start s h = record { left = end-start s; start = refl; head = h }

-- a field that doesn't fit ends the walk, and after one that fits it goes on
module _ (s : List ℕ) (k at : ℕ) (left : record_end s ≡ end_from (drop k rows) s at) (h : k < 9) where
  pub walk_off : field_ok (row_of k) s at ≡ false → record_end s ≡ None
  walk_off f = left ∙ (end_step s at k h ∙ rw f)

  pub walk_past : field_ok (row_of k) s at ≡ true → record_end s ≡ end_from (drop (suc k) rows) s (next_at s at)
  walk_past f = left ∙ (end_step s at k h ∙ rw f)

-- a field whose tag or length is not its row's ends it too
pub walk_unfit : (s : List ℕ) (k at : ℕ) → Walked s k at → k < 9 → None ≡ length_if (row_of k) s at → record_end s ≡ None
walk_unfit s k at w h e = walk_off s k at w.left h (length-none (row_of k) s at (sym e))

module _ (s : List ℕ) (k at n : ℕ) (w : Walked s k at) (h : k < 8) (e : Some n ≡ length_if (row_of k) s at) where
  ok : at + 3 + n ≤ length s → field_ok (row_of k) s at ≡ true
  ok g = (length-some (row_of k) s at n w.head (sym e)).1 ∙ le-leb _ _ g

  next-is : at + 3 + n ≤ length s → next_at s at ≡ at + 3 + n
  next-is g = omega (arith, (fitting (row_of k) s at (ok g)).next, (length-some (row_of k) s at n w.head (sym e)).0)

  past : at + 3 + n ≤ length s → record_end s ≡ end_from (drop (suc k) rows) s (at + 3 + n)
  past g = walk_past s k at w.left (omega arith) (ok g) ∙ rw (next-is g)

  walk_on : at + 3 + n + 3 ≤ length s → Walked s (k + 1) (at + 3 + n)
  unfolding start_of
  walk_on g = record { left = rw add-one (past (omega arith)); start = rw (add-one k, ← w.start) (sym (next-is (omega arith))); head = g }

  -- where no head has room after a field, there is no record
  walk_short : length s < at + 3 + n + 3 → record_end s ≡ None
  walk_short g = elim (dec_lt (length s) (at + 3 + n)) [
    | yes b ↦ walk_off s k at w.left (omega arith) ((length-some (row_of k) s at n w.head (sym e)).1 ∙ lt-leb _ _ b)
    | no b ↦ past (omega arith) ∙ (end_step s (at + 3 + n) (suc k) (omega arith) ∙ rw (no_head_lem (row_of (suc k)) s (at + 3 + n) g))
  ]

  -- by a test for the room of a head after it: the walk goes on to the next field, or there is no record
  pub walk_step : (b : Bool) → (b ≡ true → at + 3 + n + 3 ≤ length s) → (b ≡ false → length s < at + 3 + n + 3) →
      MatchOption (then_some b (at + 3 + n)) (record_end s ≡ None) (Walked s (k + 1))
  walk_step true f g = walk_on (f refl)
  walk_step false f g = walk_short (g refl)

-- ---- what stands in the first e elements depends on those alone

pub record Agree (e : ℕ) (s t : List ℕ) : Type 0 where
  pub same : take e s ≡ take e t
  pub in_left : e ≤ length s
  pub in_right : e ≤ length t

module _ (e : ℕ) (s t : List ℕ) (a : Agree e s t) where
  pub part_same : (n at : ℕ) → at + n ≤ e → bytes_at n t at ≡ bytes_at n s at
  part_same n at h = sym (part_front e n at t h) ∙ (ap (λ (l : List ℕ). bytes_at n l at) (sym a.same) ∙ part_front e n at s h)

  pub byte_same : (at : ℕ) → at < e → get_or t at 0 ≡ get_or s at 0
  byte_same at h = sym (get_or-take e t at 0 h) ∙ (ap (λ (l : List ℕ). get_or l at 0) (sym a.same) ∙ get_or-take e s at 0 h)

  length-same : (at : ℕ) → at + 3 ≤ e → length_at t at ≡ length_at s at
  unfolding little_at
  length-same at h = rw (part_same 2 (at + 1) (omega arith))

  module _ (at : ℕ) (h : at + 3 + length_at s at ≤ e) where
    pub next-same : next_at t at ≡ next_at s at
    next-same =
        let l = length-same at (omega arith) in
        omega (arith, next-whole s at (omega (arith, a.in_left)), next-whole t at (omega (arith, a.in_right)))

    pub content-same : content_at t at ≡ content_at s at
    unfolding content_at
    content-same =
        let n = next-whole s at (omega (arith, a.in_left)) in
        rw next-same (part_same (next_at s at - (at + 3)) (at + 3) (omega arith))

    pub field-same : (row : Row) → Fitting row s at → field_ok row t at ≡ true
    field-same row f =
        let l = length-same at (omega arith) in
        field-last row t at (omega (arith, a.in_right)) (byte_same at (omega arith) ∙ f.tag) (omega (arith, f.least)) (omega (arith, f.greatest))
        ∙ le-leb (at + 3 + length_at t at) (length t) (omega (arith, a.in_right))

  pub ends_same : (rs : List Row) (at n : ℕ) → end_from rs s at ≡ Some n → n ≤ e → end_from rs t at ≡ Some n
  unfolding end_from
  ends_same [] at n h g = h
  ends_same (r ∷ rs) at n h g =
      let p = picked (field_ok r s at) (end_from rs s (next_at s at)) n h in
      let f = fitting r s at p.0 in
      let b : at + 3 + length_at s at ≤ e = omega (arith, f.next, end_after rs s (next_at s at) n p.1) in
      rw (field-same at b r f, next-same at b) (ends_same rs (next_at s at) n p.1 g)

  module _ (n : ℕ) (h : record_end s ≡ Some n) (g : n ≤ e) where
    pub end_same : record_end t ≡ Some n
    unfolding record_end
    end_same = ends_same rows 0 n h g

    -- field k ends at or before the record's end
    within : (k : ℕ) → k < 9 → start_of s k + 3 + length_at s (start_of s k) ≤ e
    unfolding start_of
    within k b = omega (arith, start-before s n h (suc k) b, (front-field s n h k b).next)

    pub start-same : (k : ℕ) → k ≤ 9 → start_of t k ≡ start_of s k
    unfolding start_of
    start-same zero b = refl
    start-same (suc k) b = ap (next_at t) (start-same k (omega arith)) ∙ next-same (start_of s k) (within k b)

    pub contents_same : (k : ℕ) → k < 9 → content_of t k ≡ content_of s k
    unfolding content_of
    contents_same k b = ap (content_at t) (start-same k (omega arith)) ∙ content-same (start_of s k) (within k b)

-- ---- one record after another

pub front_agrees : (e : ℕ) (s : List ℕ) → e ≤ length s → Agree e s (take e s)
front_agrees e s h = record { same = sym (take-take e e s (omega arith)); in_left = h; in_right = rw (length-take-le e s h) (omega arith) }

pub append_agrees : (r t : List ℕ) → Agree (length r) r (r ++ t)
append_agrees r t = record { same = take-length r ∙ sym (take-append_seam r t); in_left = omega arith; in_right = rw (length-append r t) (omega arith) }

module _ (s : List ℕ) (e : ℕ) (h : record_end s ≡ Some e) where
  -- the record at the front of a list, taken alone
  pub front-shaped : well_shaped (take e s) ≡ true
  front-shaped =
      let l = end-within s e h in
      end-shaped (take e s) (rw (length-take-le e s l) (end_same e s (take e s) (front_agrees e s l) e h (omega arith)))

  pub front-content : (k : ℕ) → k < 9 → content_of (take e s) k ≡ content_of s k
  front-content = contents_same e s (take e s) (front_agrees e s (end-within s e h)) e h (omega arith)

  pub front-places : (r : Places) → PlacesOf s r → PlacesOf (take e s) r
  front-places r p =
      let same = start-same e s (take e s) (front_agrees e s (end-within s e h)) e h (omega arith) in
      record {
        payload = p.payload ∙ sym (same 1 (omega arith));
        includes = p.includes ∙ sym (same 2 (omega arith));
        witness = p.witness ∙ sym (same 3 (omega arith));
        evidence = p.evidence ∙ sym (same 4 (omega arith));
        anchor_proof = p.anchor_proof ∙ sym (same 5 (omega arith));
        anchor_trigger = p.anchor_trigger ∙ sym (same 6 (omega arith));
        role = p.role ∙ sym (same 7 (omega arith));
        times = p.times ∙ sym (same 8 (omega arith));
      }

module _ (r t : List ℕ) (w : well_shaped r ≡ true) where
  -- a record with anything after it
  pub append-end : record_end (r ++ t) ≡ Some (length r)
  append-end = end_same (length r) r (r ++ t) (append_agrees r t) (length r) (shaped-end r w) (omega arith)

  pub append-content : (k : ℕ) → k < 9 → content_of (r ++ t) k ≡ content_of r k
  append-content = contents_same (length r) r (r ++ t) (append_agrees r t) (length r) (shaped-end r w) (omega arith)
