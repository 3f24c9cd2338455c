-- Laws of one entry: runs of zeros, the steps of reading it, and how its bytes are put together.
use Rattle.std.specs.Prelude.{Option, None, Some, option_map, is_some}
use Rattle.std.specs.Bool.{then_some}
use Rattle.std.specs.List.{list_all}
use Rattle.std.specs.Simd.{first_chunks}
use Rattle.std.proofs.lemmas.List.{drop-drop}
use Prim.Native.Nat.{ℕ, zero, suc, max, ◌+◌, ◌*◌, ◌≤◌, ◌<◌}
use native.Mathlib.Omega.{arith}
use native.Mathlib.Decide.{ℕ_discrete}
use native.Mathlib.Numerals.{add-one}
use mathlib.Core.Path.{◌≡◌, refl, ap, sym, ◌∙◌}
use mathlib.Core.Bool.{Bool, true, false, ◌&&◌}
use mathlib.Core.List.{List, [], ◌∷◌, ◌++◌, append_assoc}
use lib.ListN.{length, get_or, take, drop}
use lib.Seq.{drop-cons, length-take-le}
use lib.Dec.{leb, eqb}
use borrow.Author.Tests.{le-leb, lt-leb, eq-eqb, ne_eqb}
use Rattle.base.specs.Base.{pick}
use Rattle.base.proofs.Bool.{clash}
use Rattle.base.proofs.Option.{picked, and_then_lem, some_of, unfound}
use Rattle.base.proofs.Impossible.{impossible}
use Rattle.parts.specs.Bytes.{put_at}
use Rattle.parts.specs.Limits.{tag33_length}
use Rattle.write.proofs.Laws.{put_three}
use Rattle.record.specs.Record.{field_row, field_ok, record_end}
use Rattle.record.proofs.Laws.{fitting}
use Rattle.point.specs.Point.{PointId, Through, PointInfo, in_domain}
use Rattle.point.specs.Reading.{point_id_at, through_at, read_point}
use Rattle.point.specs.Said.{said}
use Rattle.point.proofs.Known.{picked-some}
use Rattle.reasons.specs.Invalid.{dag_round}
use Rattle.rules.specs.List.{is_named, is_listable}
use Rattle.books.specs.Kept.{Status, Valid, TransInvalid, Invalid, IllFormed, Kept}
use Rattle.books.specs.Layout.{is_zeros, root_at, is_root_ok, read_status, is_keepable, read_kept, KeptFront, kept_front}
use Rattle.book_layout.specs.Code.{status_of, KeptAt, EntryTo, KeptEnd}
use Rattle.book_layout.specs.declared.read.Kept as code-kept

-- ---- zeros

abbrev pub greatest : List ℕ → ℕ
greatest [] = 0
greatest (x ∷ l) = max x (greatest l)

max_zero : (a b : ℕ) → eqb (max a b) 0 ≡ (eqb a 0 && eqb b 0)
max_zero zero b = let e : max zero b ≡ b = omega arith in rw e
max_zero (suc a) b = ne_eqb (max (suc a) b) 0 (λ e. omega arith) ∙ sym (rw (ne_eqb (suc a) 0 (λ e. omega arith)))

-- the greatest of bytes is 0 exactly if all are
pub zeros_greatest : (s : List ℕ) → eqb (greatest s) 0 ≡ is_zeros s
unfolding is_zeros
zeros_greatest [] = refl
zeros_greatest (x ∷ s) = max_zero x (greatest s) ∙ rw (zeros_greatest s)

and_assoc : (a b c : Bool) → ((a && b) && c) ≡ (a && (b && c))
and_assoc true b c = refl
and_assoc false b c = refl

-- bytes are zeros if those at the front and those after them are
zeros_parts : (n : ℕ) (s : List ℕ) → (is_zeros (take n s) && is_zeros (drop n s)) ≡ is_zeros s
unfolding is_zeros
zeros_parts zero s = refl
zeros_parts (suc n) [] = refl
zeros_parts (suc n) (x ∷ s) = and_assoc (eqb x 0) (is_zeros (take n s)) (is_zeros (drop n s)) ∙ ap (λ b. eqb x 0 && b) (zeros_parts n s)

-- the same by lines of n bytes
pub zeros_lines : (n k : ℕ) (s : List ℕ) → (list_all is_zeros (first_chunks n k s) && is_zeros (drop (k * n) s)) ≡ is_zeros s
zeros_lines n zero s = let e : zero * n ≡ 0 = omega arith in rw e
zeros_lines n (suc k) s =
    let e : suc k * n ≡ n + k * n = omega arith in
    let rest : is_zeros (drop (suc k * n) s) ≡ is_zeros (drop (k * n) (drop n s)) = ap is_zeros (ap (λ m. drop m s) e ∙ sym (drop-drop (k * n) n s)) in
    ap (λ b. (is_zeros (take n s) && list_all is_zeros (first_chunks n k (drop n s))) && b) rest
    ∙ and_assoc (is_zeros (take n s)) (list_all is_zeros (first_chunks n k (drop n s))) (is_zeros (drop (k * n) (drop n s)))
    ∙ ap (λ b. is_zeros (take n s) && b) (zeros_lines n k (drop n s))
    ∙ zeros_parts n s

by_one : (s : List ℕ) (at : ℕ) → at < length s → is_zeros (drop at s) ≡ (eqb (get_or s at 0) 0 && is_zeros (drop (at + 1) s))
unfolding is_zeros
by_one s at h = rw (add-one, drop-cons s at 0)

-- ---- the status that tag 33 says

some-picked : {A : Type 0} (b : Bool) (x : A) → is_some (pick b (Some x) None) ≡ b
some-picked true x = refl
some-picked false x = refl

module _ (t : List ℕ) where
  -- whether a status is there, by the state
  module _ (e : get_or t 0 0 ≡ 0) where
    pub valid_some : 3 ≤ length t → is_some (read_status t) ≡ (eqb (get_or t 2 0) 0 && is_zeros (drop 3 t))
    unfolding read_status
    valid_some h = rw e (some-picked (is_zeros (drop 2 t)) Valid ∙ by_one t 2 (omega arith))

    pub valid : is_some (read_status t) ≡ true → read_status t ≡ Some Valid
    unfolding read_status
    valid = rw e (picked-some (is_zeros (drop 2 t)) Valid)

  module _ (e : get_or t 0 0 ≡ 1) where
    pub trans_some : is_some (read_status t) ≡ (eqb (get_or t 2 0) 0 && is_root_ok t)
    unfolding read_status
    trans_some = rw e (some-picked (eqb (get_or t 2 0) 0 && is_root_ok t) (TransInvalid (root_at t)))

    trans_root : is_some (read_status t) ≡ true → read_status t ≡ Some (TransInvalid (root_at t))
    unfolding read_status
    trans_root = rw e (picked-some (eqb (get_or t 2 0) 0 && is_root_ok t) (TransInvalid (root_at t)))

    pub trans_invalid_lem : (to : PointId) (through : Through) → is_some (read_status t) ≡ true → to ≡ point_id_at t 3 → through ≡ through_at t 72 →
        read_status t ≡ Some (TransInvalid (record { to = to; reason = get_or t 71 0; through = through }))
    trans_invalid_lem to through h f g = trans_root h ∙ rw (f, g)

  module _ (e : get_or t 0 0 ≡ 2) where
    pub invalid_some : is_some (read_status t) ≡ (is_some (dag_round (get_or t 2 0)) && is_zeros (drop 3 t))
    unfolding read_status
    invalid_some = rw e (some-picked (is_some (dag_round (get_or t 2 0)) && is_zeros (drop 3 t)) (Invalid (get_or t 2 0)))

    pub invalid : is_some (read_status t) ≡ true → read_status t ≡ Some (Invalid (get_or t 2 0))
    unfolding read_status
    invalid = rw e (picked-some (is_some (dag_round (get_or t 2 0)) && is_zeros (drop 3 t)) (Invalid (get_or t 2 0)))

  module _ (e : get_or t 0 0 ≡ 3) where
    pub ill_formed_some : is_some (read_status t) ≡ ((leb 1 (get_or t 2 0) && leb (get_or t 2 0) 16) && is_zeros (drop 3 t))
    unfolding read_status
    ill_formed_some = rw e (some-picked ((leb 1 (get_or t 2 0) && leb (get_or t 2 0) 16) && is_zeros (drop 3 t)) (IllFormed (get_or t 2 0)))

    pub ill_formed : is_some (read_status t) ≡ true → read_status t ≡ Some (IllFormed (get_or t 2 0))
    unfolding read_status
    ill_formed = rw e (picked-some ((leb 1 (get_or t 2 0) && leb (get_or t 2 0) 16) && is_zeros (drop 3 t)) (IllFormed (get_or t 2 0)))

  module _ (a : get_or t 0 0 ≡ 0 → ⊥) (b : get_or t 0 0 ≡ 1 → ⊥) (c : get_or t 0 0 ≡ 2 → ⊥) where
    pub status_none : (get_or t 0 0 ≡ 3 → ⊥) → is_some (read_status t) ≡ false
    unfolding read_status
    status_none d = rw (ne_eqb (get_or t 0 0) 0 a, ne_eqb (get_or t 0 0) 1 b, ne_eqb (get_or t 0 0) 2 c, ne_eqb (get_or t 0 0) 3 d)

    -- the state that is left
    pub state_three : is_some (read_status t) ≡ true → get_or t 0 0 ≡ 3
    state_three h = elim (ℕ_discrete (get_or t 0 0) 3) [
      | yes e ↦ e
      | no d ↦ clash (is_some (read_status t)) h (status_none d)
    ]

-- ---- the entry of a record and tag 33

module _ (bytes : List ℕ) (q : PointInfo) (t : List ℕ) where
  pub entry_unflagged : 1 < get_or t 1 0 → is_some (read_kept bytes q t) ≡ false
  unfolding read_kept
  entry_unflagged h = rw (lt-leb (get_or t 1 0) 1 h)

  module _ (h : get_or t 1 0 ≤ 1) where
    pub entry_statusless : is_some (read_status t) ≡ false → is_some (read_kept bytes q t) ≡ false
    unfolding read_kept
    entry_statusless n = rw (le-leb (get_or t 1 0) 1 h, unfound (read_status t) n)

    -- with a status, an entry is up to whether it may be kept
    pub entry_some : (s : Status) → read_status t ≡ Some s → is_some (read_kept bytes q t) ≡ is_keepable q s
    unfolding read_kept
    entry_some s e = rw (le-leb (get_or t 1 0) 1 h, e) (some-picked (is_keepable q s) _)

  -- which point may be kept is up to the state
  module _ (s : Status) (e : read_status t ≡ Some s) where
    keepable-by : is_keepable q s ≡ pick (eqb (get_or t 0 0) 3) (in_domain q) (is_listable q)
    keepable-by = elim (ℕ_discrete (get_or t 0 0) 3) [
      | yes z ↦ rw (eq-eqb (get_or t 0 0) 3 z) (let f = ill_formed t z (ap is_some e) in let x : s ≡ IllFormed (get_or t 2 0) = cc in ap (is_keepable q) x)
      | no d ↦ rw (ne_eqb (get_or t 0 0) 3 d) (other d)
    ]
      where
        other : (get_or t 0 0 ≡ 3 → ⊥) → is_keepable q s ≡ is_listable q
        other d = elim (ℕ_discrete (get_or t 0 0) 0) [
          | yes z ↦ let f = valid t z (ap is_some e) in let x : s ≡ Valid = cc in ap (is_keepable q) x
          | no a ↦ elim (ℕ_discrete (get_or t 0 0) 1) [
            | yes z ↦ let f = trans_root t z (ap is_some e) in let x : s ≡ TransInvalid (root_at t) = cc in ap (is_keepable q) x
            | no b ↦ elim (ℕ_discrete (get_or t 0 0) 2) [
              | yes z ↦ let f = invalid t z (ap is_some e) in let x : s ≡ Invalid (get_or t 2 0) = cc in ap (is_keepable q) x
              | no c ↦ absurd (d (state_three t a b c (ap is_some e)))
            ]
          ]
        ]

  module _ (h : get_or t 1 0 ≤ 1) (g : is_some (read_status t) ≡ true) where
    entry-by : is_some (read_kept bytes q t) ≡ pick (eqb (get_or t 0 0) 3) (in_domain q) (is_listable q)
    entry-by = let s = some_of (read_status t) g in entry_some h s.0 s.1 ∙ keepable-by s.0 s.1

    pub entry_outside : in_domain q ≡ false → is_some (read_kept bytes q t) ≡ false
    unfolding is_listable
    entry_outside d = entry-by ∙ either (eqb (get_or t 0 0) 3)
      where
        either : (b : Bool) → pick b (in_domain q) (is_listable q) ≡ false
        either true = d
        either false = rw d

    module _ (d : in_domain q ≡ true) where
      pub entry_ill_formed : get_or t 0 0 ≡ 3 → is_some (read_kept bytes q t) ≡ true
      entry_ill_formed e = entry-by ∙ rw (eq-eqb (get_or t 0 0) 3 e) d

      pub entry_listed : (get_or t 0 0 ≡ 3 → ⊥) → is_some (read_kept bytes q t) ≡ (is_named q q.anchor_proof && is_named q q.anchor_trigger)
      unfolding is_listable
      entry_listed e = entry-by ∙ rw (ne_eqb (get_or t 0 0) 3 e, d)

  -- an entry has its record, its point, the status and the mark
  pub entry-parts : (k : Kept) → read_kept bytes q t ≡ Some k →
      (s : Status) × (read_status t ≡ Some s) × (k ≡ record { bytes = bytes; point = q; status = s; certified = eqb (get_or t 1 0) 1 })
  unfolding read_kept
  entry-parts k h =
      let s = and_then_lem (read_status t) _ k (picked (leb (get_or t 1 0) 1) _ k h).1 in
      let e = (picked (is_keepable q s.0) _ k s.2).1 in
      (s.0, s.1, cc)

-- ---- the entry at the front of a slice

abbrev sized : ℕ → Option Kept → Option KeptFront
sized n o = option_map (λ k. record { kept = k; size = n }) o

pub front_endless : (s : List ℕ) → record_end s ≡ None → kept_front s ≡ None
unfolding kept_front
front_endless s h = rw h

-- tag 33 after a record
pub tag-inside : (n : ℕ) (s : List ℕ) → field_ok (field_row 33 105 105) s n ≡ true → n + tag33_length ≤ length s
tag-inside n s f =
    let g = fitting (field_row 33 105 105) s n f in
    omega (arith, g.least, g.end)

-- the part of a slice up to where its record ends
module _ (s part : List ℕ) (n : ℕ) (e : record_end s ≡ Some n) (p : part ≡ take n s) where
  pub front-unread : read_point part ≡ None → kept_front s ≡ None
  unfolding kept_front
  front-unread h = rw (e, ← p, h)

  module _ (q : PointInfo) (h : read_point part ≡ Some q) where
    pub front_tagless : field_ok (field_row 33 105 105) s n ≡ false → kept_front s ≡ None
    unfolding kept_front
    front_tagless f = rw (e, ← p, h, f)

    front-tagged : field_ok (field_row 33 105 105) s n ≡ true → kept_front s ≡ sized (n + tag33_length) (read_kept part q (take 105 (drop (n + 3) s)))
    unfolding kept_front
    front-tagged f = rw (e, ← p, h, f)

    -- what is read of tag 33 decides
    module _ (f : field_ok (field_row 33 105 105) s n ≡ true) (tag : List ℕ) (g : tag ≡ take 105 (drop (n + 3) s)) where
      front_read : kept_front s ≡ sized (n + tag33_length) (read_kept part q tag)
      front_read = front-tagged f ∙ rw g

      pub front_no_entry : is_some (read_kept part q tag) ≡ false → kept_front s ≡ None
      front_no_entry d = front_read ∙ rw (unfound (read_kept part q tag) d)

      pub front-entry-to : is_some (read_kept part q tag) ≡ true → EntryTo s n
      front-entry-to d = go (read_kept part q tag) refl d
        where
          go : (o : Option Kept) → read_kept part q tag ≡ o → is_some o ≡ true → EntryTo s n
          go None e d = impossible (cc)
          go (Some k) e d =
              let w = (entry-parts part q tag k e).2 in
              record {
                kept = k;
                front = front_read ∙ rw e;
                bytes = ap (λ (z : Kept). z.bytes) w ∙ p;
                read = rw (← p, ap (λ (z : Kept). z.point) w) h;
                inside = tag-inside n s f;
              }

      pub front-entry : (b : Bool) → is_some (read_kept part q tag) ≡ b → KeptEnd s (then_some b n)
      front-entry true d = front-entry-to d
      front-entry false d = front_no_entry d

-- ---- an entry that is known to stand there

module _ (s : List ℕ) (h : is_some (kept_front s) ≡ true) where
  there : {A : Type 0} (o : Option A) → (o ≡ None → kept_front s ≡ None) → is_some o ≡ true
  there None f = clash (is_some (kept_front s)) h (ap is_some (f refl))
  there (Some x) f = refl

  holds : (b : Bool) → (b ≡ false → kept_front s ≡ None) → b ≡ true
  holds true f = refl
  holds false f = clash (is_some (kept_front s)) h (ap is_some (f refl))

  pub known-end : is_some (record_end s) ≡ true
  known-end = there (record_end s) (front_endless s)

  module _ (part : List ℕ) (n : ℕ) (e : record_end s ≡ Some n) (p : part ≡ take n s) where
    pub known-point : is_some (read_point part) ≡ true
    known-point = there (read_point part) (front-unread s part n e p)

    known-tag : field_ok (field_row 33 105 105) s n ≡ true
    known-tag = let q = some_of (read_point part) known-point in holds (field_ok (field_row 33 105 105) s n) (front_tagless s part n e p q.0 q.1)

    pub known-inside : n + 108 ≤ length s
    known-inside = tag-inside n s known-tag

    module _ (tag : List ℕ) (g : tag ≡ take 105 (drop (n + 3) s)) where
      known-entry : (q : PointInfo) → read_point part ≡ Some q → (k : Kept) × (read_kept part q tag ≡ Some k)
      known-entry q r = some_of (read_kept part q tag) (holds (is_some (read_kept part q tag)) (front_no_entry s part n e p q r known-tag tag g))

      pub known-status : is_some (read_status tag) ≡ true
      known-status =
          let q = some_of (read_point part) known-point in
          let k = known-entry q.0 q.1 in
          ap is_some (entry-parts part q.0 tag k.0 k.1).1

      pub known_kept : (k : code-kept.Kept) → k.point.rec.now ≡ part → read_status tag ≡ Some (status_of k.status) → k.certified ≡ eqb (get_or tag 1 0) 1 → KeptAt s k
      known_kept k f t m =
          let r : read_point part ≡ Some (said k.point) = rw (← f) k.point.reads.read in
          let y = known-entry (said k.point) r in
          let w = entry-parts part (said k.point) tag y.0 y.1 in
          let x : w.0 ≡ status_of k.status = let a = w.1 in cc in
          let z : length part ≡ n = rw p (length-take-le n s (omega (arith, known-inside))) in
          record {
            front = front_read s part n e p (said k.point) r known-tag tag g ∙ rw (y.1, w.2, x, f, m, z);
            part = rw (ap length f ∙ z) (f ∙ p);
            inside = omega (arith, known-inside, z, ap length f);
          }

-- ---- an entry's bytes

-- three runs, each after the one before, grouped to the right
pub put_right : (l : List ℕ) (at : ℕ) (xs ys zs : List ℕ) (m n : ℕ) → at + length xs ≡ m → m + length ys ≡ n → n + length zs ≤ length l →
    put_at (put_at (put_at l at xs) m ys) n zs ≡ put_at l at (xs ++ (ys ++ zs))
put_right l at xs ys zs m n e f h = put_three l at xs ys zs m n e f h ∙ ap (put_at l at) (append_assoc xs ys zs)

-- what the 105 bytes of tag 33 tell of a status, and what they and a record tell of an entry
pub ruleset status_some = (valid_some, trans_some, invalid_some, ill_formed_some, status_none)

pub ruleset status_read = (valid, trans_invalid_lem, invalid, ill_formed, state_three)

pub ruleset entry_told = (entry_unflagged, entry_statusless, entry_outside, entry_ill_formed, entry_listed)
