-- Laws of number 8: the marks, and the walk over the direct entries and the others.
use Rattle.std.specs.Prelude.{Option, None, Some, is_some}
use Prim.Native.Nat.{ℕ, zero, suc, ◌+◌, ◌-◌, ◌≤◌, ◌<◌}
use native.Mathlib.Numerals.{add-one}
use native.Mathlib.Omega.{arith}
use native.Mathlib.Decide.{dec_lt, ℕ_discrete}
use mathlib.Core.Path.{◌≡◌, refl, ap, sym, ◌∙◌}
use mathlib.Core.Logic.{◌⊎◌, inl, inr, ⊎_elim}
use mathlib.Core.Bool.{Bool, true, false, not, ◌&&◌, ◌||◌, or-true, or-false}
use mathlib.Core.List.{List, [], ◌∷◌}
use lib.ListN.{length, get_or, drop, set, replicate, length-drop, length-set, length-replicate}
use Rattle.std.proofs.lemmas.List.{set-get_or}
use lib.Seq.{get_or-set_same, get_or-set_other}
use lib.Dec.{ltb, eqb}
use borrow.Author.Tests.{lt-ltb, le-ltb, not-true, not-false}
use Rattle.base.specs.Base.{pick, is_empty}
use Rattle.base.proofs.Bool.{and_left, and_right, never, clash, or_left, or_right, or_cases, or_inside, cases, first-false, last-false}
use Rattle.base.proofs.Impossible.{impossible}
use Rattle.map.specs.Rows.{Pair, pairs_of, rising, peers}
use Rattle.point.specs.Point.{PointId, PointInfo, AnchorLink, Direct, Indirect, anchor_link, prev_digest, same_id}
use Rattle.point.specs.declared.data.AnchorStageRole.{AnchorStageRole}
use Rattle.point.specs.declared.data.AnchorStageRole.TheVariants.{Proof, Trigger}
use Rattle.point.specs.Code.{point_of, link_in}
use Rattle.point.specs.declared.info.PointInfo as code-info
use Rattle.point.proofs.Laws.{link_in_lem}
use Rattle.point.proofs.Maps.{pairs_many, pairs_peers}
use Rattle.point.proofs.Ids.{same_sym, same_refl}
use Rattle.rules.specs.DagPoint.{DagPoint, Entry, IndirectEntry, entry_id, is_dropped, is_by}
use Rattle.rules.specs.List.{Listed, read_list, directs, indirects}
use Rattle.judge_mismatch.specs.Code.{Head, listed, map_round, map_pairs, maps_in, no_pair, IsRow, own_ids, is_twice_in, is_version_twice, is_new_version, is_target_with, id_of, unmarked}
use Rattle.judge_mismatch.specs.Maps.{Marked, MapsMarked, lacks, zeros, AllPlaced}
use Rattle.judge_mismatch.specs.declared.maps.MarkedMap.{MarkedMap}
use Rattle.judge_mismatch.proofs.Heads.{front_kept, front_dropped, next_of, listed-is, directs-here, indirects-here, reads_end, directs-next, indirects-same, indirects-next}
use Rattle.judge_mismatch.specs.Entries.{left_of, Front}
use Rattle.judge_mismatch.specs.declared.entries.Entries.{Entries}
use Rattle.rules.specs.Mismatch.{is_target_of, same_role, stood_before, all_targets, mismatch, has_id, pair_id, is_among, is_version, has_place, all_placed, ids_of, dropped_in, lacking_in, lacking}
use Rattle.judge_mismatch.proofs.Rows.{Maps, among_to, among-at, among_not, among-to-same, has_same, row_once, stood}
use Rattle.judge_mismatch.proofs.Own.{own-here, own-passed, none-twice, twice-next, own-has, once_tail, version-once}
use Rattle.rules.proofs.Mismatch.{has_first, has-next, has-none}

-- ---- the marks of a map while an entry's id is looked up in it

module _ {round : ℕ} {l : List Pair} {before : List PointId} {y : MarkedMap} (w : Marked round l before y) (x : PointId) where
  -- an id without a row marks none
  mark_absent : is_among round l x ≡ false → Marked round l (x ∷ before) y
  mark_absent a = record {
    at_round = w.at_round;
    rows = w.rows;
    room = w.room;
    seen = λ j b.
        let q = pair_id round (get_or l j no_pair) in
        rw (has-next x q before, same_sym x q, among_not round l j x b a) (w.seen j b);
  }

  module _ (i : ℕ) (h : i < length l) (t : same_id (pair_id round (get_or l i no_pair)) x ≡ true) where
    -- a row that an id stands for before is marked
    marked : get_or y.seen i false ≡ has_id before x
    marked = w.seen i h ∙ has_same (pair_id round (get_or l i no_pair)) x t before

    mark_at : length l ≤ 255 → rising (peers l) ≡ true → (z : MarkedMap) → z.round ≡ y.round → z.rows.now ≡ y.rows.now → z.seen ≡ set y.seen i true →
        Marked round l (x ∷ before) z
    mark_at few rise z a b c = record {
      at_round = a ∙ w.at_round;
      rows = ap pairs_of b ∙ w.rows;
      room = ap length c ∙ (length-set y.seen i true ∙ w.room);
      seen = λ j g. ap (λ (k : List Bool). get_or k j false) c ∙ at j g;
    }
      where
        at : (j : ℕ) → j < length l → get_or (set y.seen i true) j false ≡ has_id (x ∷ before) (pair_id round (get_or l j no_pair))
        at j g =
            let q = pair_id round (get_or l j no_pair) in
            elim (ℕ_discrete j i) [
              | yes e ↦ (let u : same_id x q ≡ true = same_sym x q ∙ rw e t in
                  rw (has-next x q before, u, e) (get_or-set_same y.seen i true false (omega (arith, w.room))))
              | no d ↦ (let u : same_id x q ≡ false = same_sym x q ∙ row_once round l x j i rise g h d t in
                  rw (has-next x q before, u) (get_or-set_other y.seen i j true false d ∙ w.seen j g))
            ]

-- at first no row is marked
pub marked-none : {round : ℕ} {l : List Pair} {x : MarkedMap} → x.round ≡ round → pairs_of x.rows.now ≡ l → x.seen ≡ replicate 255 false → Marked round l [] x
marked-none {round} {l} a b c = record {
  at_round = a;
  rows = b;
  room = ap length c ∙ length-replicate 255 false;
  seen = λ i h. ap (λ (k : List Bool). get_or k i false) c ∙ (not_set 255 i ∙ sym (has-none (pair_id round (get_or l i no_pair))));
}
  where
    not_set : (n k : ℕ) → get_or (replicate n false) k false ≡ false
    not_set zero k = refl
    not_set (suc n) zero = refl
    not_set (suc n) (suc k) = not_set n k

pub maps-two : (p : PointInfo) {a b : MarkedMap} → Marked (map_round p 0) (map_pairs p 0) [] a → Marked (map_round p 1) (map_pairs p 1) [] b →
    MapsMarked p [] (a ∷ (b ∷ []))
maps-two p u v zero x h = u
maps-two p u v (suc zero) x h = v
maps-two p u v (suc (suc m)) x h = absurd (omega arith)

-- ---- the marks while an entry's id goes through the maps

pub record Marking (p : PointInfo) (x : PointId) (before : List PointId) (m : ℕ) (found : Bool) (maps : List MarkedMap) : Type 0 where
  pub within : m ≤ length maps
  pub among : found ≡ among_to m p x
  pub new : found ≡ true → has_id before x ≡ false
  pub done : (k : ℕ) (d : MarkedMap) → k < m → Marked (map_round p k) (map_pairs p k) (x ∷ before) (get_or maps k d)
  pub left : (k : ℕ) (d : MarkedMap) → m ≤ k → k < length maps → Marked (map_round p k) (map_pairs p k) before (get_or maps k d)

among_next : (m : ℕ) (p : PointInfo) (x : PointId) → among_to (m + 1) p x ≡ (is_among (map_round p m) (map_pairs p m) x || among_to m p x)
unfolding among_to
among_next m p x = rw (add-one m)

module _ {p : PointInfo} {x : PointId} {before : List PointId} {m : ℕ} {found : Bool} {maps : List MarkedMap}
    (w : Marking p x before m found maps) (lt : m < length maps) (d : MarkedMap) where
  -- the map that comes next
  here : Marked (map_round p m) (map_pairs p m) before (get_or maps m d)
  here = w.left m d (omega arith) lt

  few : length (map_pairs p m) ≤ 255
  few = let y = get_or maps m d in rw (← here.rows) (omega (arith, pairs_many y.rows.now, y.few))

  rise : rising (peers (map_pairs p m)) ≡ true
  rise = let y = get_or maps m d in rw (← here.rows) (ap rising (pairs_peers y.rows.now) ∙ y.rises)

  module _ (i : ℕ) (row : IsRow (get_or maps m d).round (pairs_of (get_or maps m d).rows.now) x (Some i)) where
    there : (i < length (map_pairs p m)) × (same_id (pair_id (map_round p m) (get_or (map_pairs p m) i no_pair)) x ≡ true)
    there = rw (here.at_round, here.rows) at row

    pub marked-stood : get_or (get_or maps m d).seen i false ≡ true → has_id before x ≡ true
    marked-stood e = sym (marked here x i there.0 there.1) ∙ e

    pub marking_at : get_or (get_or maps m d).seen i false ≡ false → (z : MarkedMap) → z.round ≡ (get_or maps m d).round → z.rows.now ≡ (get_or maps m d).rows.now → z.seen ≡ set (get_or maps m d).seen i true →
        Marking p x before (m + 1) true (set maps m z)
    marking_at e z a b c = record {
      within = omega (arith, length-set maps m z);
      among = sym (among_next m p x ∙ rw (among-at (map_round p m) (map_pairs p m) i x there.0 there.1));
      new = λ _. sym (marked here x i there.0 there.1) ∙ e;
      done = λ k g u. elim (ℕ_discrete k m) [
        | yes r ↦ at_row k g r
        | no n ↦ other k g n (w.done k g (omega arith))
      ];
      left = λ k g u v. other k g (λ r. omega arith) (w.left k g (omega arith) (omega (arith, length-set maps m z)));
    }
      where
        at_row : (k : ℕ) (g : MarkedMap) → k ≡ m → Marked (map_round p k) (map_pairs p k) (x ∷ before) (get_or (set maps m z) k g)
        at_row k g r = rw (r, get_or-set_same maps m z g lt) (mark_at here x i there.0 there.1 few rise z a b c)

        other : {ids : List PointId} (k : ℕ) (g : MarkedMap) → (k ≡ m → ⊥) → Marked (map_round p k) (map_pairs p k) ids (get_or maps k g) → Marked (map_round p k) (map_pairs p k) ids (get_or (set maps m z) k g)
        other k g n r = rw (get_or-set_other maps m k z g n) r

  pub marking_absent : IsRow (get_or maps m d).round (pairs_of (get_or maps m d).rows.now) x None → Marking p x before (m + 1) found (set maps m (get_or maps m d))
  marking_absent row =
      let none : is_among (map_round p m) (map_pairs p m) x ≡ false = rw (here.at_round, here.rows) at row in
      rw (set-get_or maps m d) (record {
        within = omega arith;
        among = w.among ∙ sym (among_next m p x ∙ rw none);
        new = w.new;
        done = λ k g u. elim (ℕ_discrete k m) [
          | yes r ↦ at_row none k g r
          | no n ↦ w.done k g (omega arith)
        ];
        left = λ k g u. w.left k g (omega arith);
      })
    where
      at_row : is_among (map_round p m) (map_pairs p m) x ≡ false → (k : ℕ) (g : MarkedMap) → k ≡ m → Marked (map_round p k) (map_pairs p k) (x ∷ before) (get_or maps k g)
      at_row none k g r = rw r (mark_absent (w.left m g (omega arith) lt) x none)

-- the maps are marked by an id too, which other ids marked before: whether a row has it, which none of them stood for
abbrev IdMarked : PointInfo → List PointId → PointId → List MarkedMap → Bool → Type 0
IdMarked p before i maps found =
    (found ≡ among_to (length maps) p i) × (found ≡ true → has_id before i ≡ false) × MapsMarked p (i ∷ before) maps

pub marking_start : {p : PointInfo} {x : PointId} {before : List PointId} {maps : List MarkedMap} → MapsMarked p before maps → Marking p x before 0 false maps
unfolding among_to
marking_start w = record {
  within = omega arith;
  among = refl;
  new = λ h. clash false h refl;
  done = λ k g h. absurd (omega arith);
  left = λ k g h. w k g;
}

pub marking_end : {p : PointInfo} {x : PointId} {before : List PointId} {m : ℕ} {found : Bool} {maps : List MarkedMap} →
    Marking p x before m found maps → length maps ≤ m → IdMarked p before x maps found
marking_end {p} {x} {before} {m} {found} {maps} w h =
    let whole : m ≡ length maps = omega (arith, w.within) in
    (w.among ∙ ap (λ k. among_to k p x) whole, w.new, λ k d g. w.done k d (omega arith))

-- ---- the walk over the direct entries: what is left gives what the whole list gives, with the ids that stood before

pub record Walking (presence : ℕ) (p : PointInfo) (all rest : List Entry) (maps : List MarkedMap) (dropped : ℕ) : Type 0 where
  pub before : List PointId
  pub placed : all_placed presence p before rest ≡ all_placed presence p [] all
  pub count : dropped + dropped_in rest ≡ dropped_in all
  pub ids : (i : PointId) → (has_id before i || has_id (ids_of rest) i) ≡ has_id (ids_of all) i
  pub fresh : (i : PointId) → among_to (maps_in presence) p i ≡ false → has_id before i ≡ true → has_id (ids_of rest) i ≡ false
  pub marks : MapsMarked p before maps
  pub many : length maps ≡ maps_in presence

walk_start : (presence : ℕ) (p : PointInfo) (all : List Entry) (maps : List MarkedMap) → MapsMarked p [] maps → length maps ≡ maps_in presence → Walking presence p all all maps 0
walk_start presence p all maps w n = record {
  before = [];
  placed = refl;
  count = omega arith;
  ids = λ i. rw (has-none i);
  fresh = λ i a b. clash (has_id [] i) b (has-none i);
  marks = w;
  many = n;
}

-- one entry of the definitions
module _ (e : Entry) (es : List Entry) (d : is_dropped e.state ≡ true) where
  placed-dropped : (presence : ℕ) (p : PointInfo) (before : List PointId) → all_placed presence p before (e ∷ es) ≡ all_placed presence p before es
  unfolding all_placed
  placed-dropped presence p before = rw d

  ids-dropped : ids_of (e ∷ es) ≡ ids_of es
  unfolding ids_of
  ids-dropped = rw d

  count-dropped : dropped_in (e ∷ es) ≡ suc (dropped_in es)
  unfolding dropped_in
  count-dropped = rw d

module _ (e : Entry) (es : List Entry) (x : PointId) (d : is_dropped e.state ≡ false) (same : x ≡ entry_id e.state) where
  placed-here : (presence : ℕ) (p : PointInfo) (before : List PointId) →
      all_placed presence p before (e ∷ es) ≡ ((has_place presence p x && not (has_id before x)) && all_placed presence p (x ∷ before) es)
  unfolding all_placed
  placed-here presence p before = rw (d, same)

  ids-here : ids_of (e ∷ es) ≡ x ∷ ids_of es
  unfolding ids_of
  ids-here = rw (d, same)

  count-here : dropped_in (e ∷ es) ≡ dropped_in es
  unfolding dropped_in
  count-here = rw d

two_or_one : (i w v : Bool) → (i || (w || v)) ≡ ((w || (i || false)) || v)
two_or_one true true v = refl
two_or_one true false v = refl
two_or_one false true v = refl
two_or_one false false v = refl

place_with : (b : Bool) (p : PointInfo) (x : PointId) →
    (is_among (p.id.round - 1) p.includes x || ((b && is_among (p.id.round - 2) p.witness x) || is_version p x)) ≡ (among_to (pick b 2 1) p x || is_version p x)
unfolding among_to
place_with true p x = two_or_one (is_among (p.id.round - 1) p.includes x) (is_among (p.id.round - 2) p.witness x) (is_version p x)
place_with false p x = ap (λ (b : Bool). b || is_version p x) (sym (or-false (is_among (p.id.round - 1) p.includes x)))

has-place : (presence : ℕ) (p : PointInfo) (x : PointId) → has_place presence p x ≡ (among_to (maps_in presence) p x || is_version p x)
unfolding has_place
has-place presence p x = place_with (eqb presence 3) p x

-- an id that stood before and stands again
no_id : (i : PointId) → has_id (ids_of []) i ≡ false
unfolding ids_of
no_id i = has-none i

twice : (es : List Entry) (presence : ℕ) (p : PointInfo) (before : List PointId) (i : PointId) →
    has_id before i ≡ true → has_id (ids_of es) i ≡ true → all_placed presence p before es ≡ false
twice [] presence p before i b h = clash (has_id (ids_of []) i) h (no_id i)
twice (e ∷ es) presence p before i b h =
    let x = entry_id e.state in
    ⊎_elim
    (λ d. placed-dropped e es d presence p before ∙ twice es presence p before i b (ap (λ (l : List PointId). has_id l i) (sym (ids-dropped e es d)) ∙ h))
    (λ d. placed-here e es x d refl presence p before ∙ ⊎_elim
    (λ t. stood (has_place presence p x) (has_id before x) (all_placed presence p (x ∷ before) es) (has_same x i t before ∙ b))
    (λ t. last-false (has_place presence p x && not (has_id before x)) (all_placed presence p (x ∷ before) es)
    (twice es presence p (x ∷ before) i (has-next x i before ∙ rw b (or-true (same_id x i))) t))
    (or_cases (same_id x i) (has_id (ids_of es) i)
    (sym (has-next x i (ids_of es)) ∙ (ap (λ (l : List PointId). has_id l i) (sym (ids-here e es x d refl)) ∙ h))))
    (cases (is_dropped e.state))

-- a version that stands twice
own-twice : (es : List Entry) (presence : ℕ) (p : PointInfo) (before : List PointId) → is_twice_in (own_ids p.id es) ≡ true → all_placed presence p before es ≡ false
own-twice [] presence p before h = clash (is_twice_in (own_ids p.id [])) h (none-twice p.id)
own-twice (e ∷ es) presence p before h =
    let x = entry_id e.state in
    ⊎_elim
    (λ d. placed-dropped e es d presence p before ∙ own-twice es presence p before (ap is_twice_in (sym (own-passed p.id e es (rw d))) ∙ h))
    (λ d. placed-here e es x d refl presence p before
    ∙ last-false (has_place presence p x && not (has_id before x)) (all_placed presence p (x ∷ before) es)
    (⊎_elim
    (λ b. ⊎_elim
    (λ t. twice es presence p (x ∷ before) x (has_first x before) (own-has p.id x b es ∙ t))
    (λ t. own-twice es presence p (x ∷ before) t)
    (or_cases (has_id (own_ids p.id es) x) (is_twice_in (own_ids p.id es)) (sym (twice-next x (own_ids p.id es)) ∙ (ap is_twice_in (sym (own-here p.id e es d b)) ∙ h))))
    (λ b. own-twice es presence p (x ∷ before) (ap is_twice_in (sym (own-passed p.id e es (last-false (not (is_dropped e.state)) _ b))) ∙ h))
    (cases (is_by (p.id.round - 1) p.id.author x))))
    (cases (is_dropped e.state))

module _ {presence : ℕ} {p : PointInfo} {all rest : List Entry} {maps₀ : List MarkedMap} {dropped : ℕ} (w : Walking presence p all rest maps₀ dropped)
    {e : Entry} {es : List Entry} (first : rest ≡ e ∷ es) where
  all_placed_lem : all_placed presence p w.before (e ∷ es) ≡ all_placed presence p [] all
  all_placed_lem = ap (all_placed presence p w.before) (sym first) ∙ w.placed

  all-count : dropped + dropped_in (e ∷ es) ≡ dropped_in all
  all-count = ap (λ (l : List Entry). dropped + dropped_in l) (sym first) ∙ w.count

  all_ids : (i : PointId) → (has_id w.before i || has_id (ids_of (e ∷ es)) i) ≡ has_id (ids_of all) i
  all_ids i = ap (λ (l : List Entry). has_id w.before i || has_id (ids_of l) i) (sym first) ∙ w.ids i

  all-fresh : (i : PointId) → among_to (maps_in presence) p i ≡ false → has_id w.before i ≡ true → has_id (ids_of (e ∷ es)) i ≡ false
  all-fresh i a b = ap (λ (l : List Entry). has_id (ids_of l) i) (sym first) ∙ w.fresh i a b

  walk-dropped : is_dropped e.state ≡ true → Walking presence p all es maps₀ (dropped + 1)
  walk-dropped d = record {
    before = w.before;
    placed = sym (placed-dropped e es d presence p w.before) ∙ all_placed_lem;
    count = omega (arith, count-dropped e es d, all-count);
    ids = λ i. ap (λ (l : List PointId). has_id w.before i || has_id l i) (sym (ids-dropped e es d)) ∙ all_ids i;
    fresh = λ i a b. ap (λ (l : List PointId). has_id l i) (sym (ids-dropped e es d)) ∙ all-fresh i a b;
    marks = w.marks;
    many = w.many;
  }

  module _ {x : PointId} (d : is_dropped e.state ≡ false) (same : x ≡ entry_id e.state) where
    here_or_rest : (i : PointId) → has_id (ids_of (e ∷ es)) i ≡ (same_id x i || has_id (ids_of es) i)
    here_or_rest i = ap (λ (l : List PointId). has_id l i) (ids-here e es x d same) ∙ has-next x i (ids_of es)

    not_placed : ((has_place presence p x && not (has_id w.before x)) && all_placed presence p (x ∷ w.before) es) ≡ false → all_placed presence p [] all ≡ false
    not_placed h = sym (all_placed_lem) ∙ (placed-here e es x d same presence p w.before ∙ h)

    -- a row that is marked already
    walk-twice : has_id w.before x ≡ true → all_placed presence p [] all ≡ false
    walk-twice h = not_placed (stood (has_place presence p x) (has_id w.before x) (all_placed presence p (x ∷ w.before) es) h)

    module _ {found : Bool} (maps : List MarkedMap) (k : IdMarked p w.before x maps found) (many : length maps ≡ maps_in presence) where
      among : found ≡ among_to (maps_in presence) p x
      among = k.0 ∙ ap (λ m. among_to m p x) many

      -- an id that has no place, or that stands again though it has no row
      walk_fails : (found || is_new_version p es x) ≡ false → all_placed presence p [] all ≡ false
      unfolding is_new_version
      walk_fails h =
          let absent : among_to (maps_in presence) p x ≡ false = sym among ∙ or_left found _ h in
          let old = or_right found _ h in
          ⊎_elim
          (λ v. not_placed (last-false (has_place presence p x && not (has_id w.before x)) (all_placed presence p (x ∷ w.before) es)
          (twice es presence p (x ∷ w.before) x (has_first x w.before) (again (is_version p x) (has_id (ids_of es) x) v old))))
          (λ v. not_placed (first-false (has_place presence p x) (not (has_id w.before x)) (all_placed presence p (x ∷ w.before) es) (has-place presence p x ∙ (ap (λ (b : Bool). b || is_version p x) absent ∙ v))))
          (cases (is_version p x))
        where
          again : (v b : Bool) → v ≡ true → (v && not b) ≡ false → b ≡ true
          again true b h g = not-false b g
          again false b h g = clash false h refl

      -- an id that has its place and stands for the first time
      record First : Type 0 where
        place : has_place presence p x ≡ true
        new : has_id w.before x ≡ false
        once : among_to (maps_in presence) p x ≡ false → has_id (ids_of es) x ≡ false

      for-first : (found || is_new_version p es x) ≡ true → First
      unfolding is_new_version
      for-first h =
          ⊎_elim
          (λ f. record {
            place = has-place presence p x ∙ ap (λ (b : Bool). b || is_version p x) (sym among ∙ f);
            new = k.1 f;
            once = λ a. clash found f (among ∙ a);
          })
          (λ n.
          let version = and_left (is_version p x) _ n in
          let once = not-true _ (and_right (is_version p x) _ n) in
          record {
            place = has-place presence p x ∙ (ap (λ (b : Bool). among_to (maps_in presence) p x || b) version ∙ or-true (among_to (maps_in presence) p x));
            new = ⊎_elim
                (λ a. k.1 (among ∙ a))
                (λ a. never _ (λ b. clash (has_id (ids_of (e ∷ es)) x) (here_or_rest x ∙ rw (same_refl x)) (all-fresh x a b)))
                (cases (among_to (maps_in presence) p x));
            once = λ a. once;
          })
          (or_cases found _ h)

      walk-placed : (found || is_new_version p es x) ≡ true → Walking presence p all es maps dropped
      walk-placed h =
          let f = for-first h in
          record {
            before = x ∷ w.before;
            placed = sym (placed-here e es x d same presence p w.before ∙ rw (f.place, f.new)) ∙ all_placed_lem;
            count = omega (arith, count-here e es x d same, all-count);
            ids = λ i. rw (has-next x i w.before) (or_inside (same_id x i) (has_id w.before i) (has_id (ids_of es) i) ∙ (rw (← here_or_rest i) (all_ids i)));
            fresh = λ i a b. fresh i a (or_cases (same_id x i) (has_id w.before i) (sym (has-next x i w.before) ∙ b)) f;
            marks = k.2;
            many = many;
          }
        where
          fresh : (i : PointId) → among_to (maps_in presence) p i ≡ false → (same_id x i ≡ true) ⊎ (has_id w.before i ≡ true) → First → has_id (ids_of es) i ≡ false
          fresh i a c f =
              ⊎_elim
              (λ t. sym (has_same x i t (ids_of es)) ∙ f.once (among-to-same x i t (maps_in presence) p ∙ a))
              (λ b. or_right (same_id x i) (has_id (ids_of es) i) (sym (here_or_rest i) ∙ all-fresh i a b))
              c

none_left : (presence : ℕ) (p : PointInfo) (before : List PointId) → all_placed presence p before [] ≡ true
unfolding all_placed
none_left presence p before = refl

none_dropped : dropped_in [] ≡ 0
unfolding dropped_in
none_dropped = refl

-- at the end of the direct entries
module _ {presence : ℕ} {p : PointInfo} {all : List Entry} {maps : List MarkedMap} {dropped : ℕ} (w : Walking presence p all [] maps dropped) where
  walk-end-placed : all_placed presence p [] all ≡ true
  walk-end-placed = sym w.placed ∙ none_left presence p w.before

  walk-end-count : dropped ≡ dropped_in all
  walk-end-count = omega (arith, w.count, none_dropped)

  walk-end-marks : MapsMarked p (ids_of all) maps
  walk-end-marks m d h =
      let r = w.marks m d h in
      record {
        at_round = r.at_round;
        rows = r.rows;
        room = r.room;
        seen = λ i g.
            let q = pair_id (map_round p m) (get_or (map_pairs p m) i no_pair) in
            r.seen i g ∙ (sym (or-false (has_id w.before q)) ∙ (ap (λ (b : Bool). has_id w.before q || b) (sym (no_id q)) ∙ w.ids q));
      }

-- ---- how many rows lack

unmarked-next : (n : ℕ) (b : Bool) (seen : List Bool) → unmarked (suc n) (b ∷ seen) ≡ pick b (unmarked n seen) (suc (unmarked n seen))
unmarked-next n true seen = refl
unmarked-next n false seen = refl

-- the marks of a map say what lacks
marks-lack : (l : List Pair) (round : ℕ) (ids : List PointId) (seen : List Bool) → length l ≤ length seen →
    ((i : ℕ) → i < length l → get_or seen i false ≡ has_id ids (pair_id round (get_or l i no_pair))) → unmarked (length l) seen ≡ lacking_in round l ids
unfolding lacking_in
marks-lack [] round ids seen n h = refl
marks-lack (q ∷ l) round ids [] n h = absurd (omega arith)
marks-lack (q ∷ l) round ids (b ∷ seen) n h =
    unmarked-next (length l) b seen ∙ rw (h 0 (omega arith), marks-lack l round ids seen (omega arith) (λ i g. h (suc i) (omega arith)))

map-lacks : {round : ℕ} {l : List Pair} {ids : List PointId} {x : MarkedMap} → Marked round l ids x → length l ≤ 255 →
    lacks x ≡ lacking_in round l ids
map-lacks {round} {l} {ids} {x} w few =
    rw (← pairs_many x.rows.now, w.rows) (marks-lack l round ids x.seen (omega (arith, w.room)) w.seen)

zeros-lack : (presence : ℕ) (p : PointInfo) (ids : List PointId) (maps : List MarkedMap) → Maps p → MapsMarked p ids maps → length maps ≡ maps_in presence →
    zeros maps ≡ lacking presence p ids
unfolding lacking
zeros-lack presence p ids maps f w n = by (eqb presence 3) maps w n
  where
    by : (b : Bool) (maps : List MarkedMap) → MapsMarked p ids maps → length maps ≡ pick b 2 1 →
        zeros maps ≡ lacking_in (p.id.round - 1) p.includes ids + pick b (lacking_in (p.id.round - 2) p.witness ids) zero
    by true (x ∷ (y ∷ [])) w n =
        rw (map-lacks (w 0 x (omega arith)) (f.few 0), map-lacks (w 1 x (omega arith)) (f.few 1)) (omega arith)
    by false (x ∷ []) w n = rw (map-lacks (w 0 x (omega arith)) (f.few 0)) (omega arith)
    by true [] w n = absurd (omega arith)
    by true (x ∷ []) w n = absurd (omega arith)
    by true (x ∷ (y ∷ (z ∷ l))) w n = absurd (omega arith)
    by false [] w n = absurd (omega arith)
    by false (x ∷ (y ∷ l)) w n = absurd (omega arith)

-- ---- whether an id stands among the direct entries that are left

aim-cases : (o : Option AnchorStageRole) → (o ≡ None) ⊎ ((g : AnchorStageRole) × (o ≡ Some g))
aim-cases None = inl refl
aim-cases (Some g) = inr (g, refl)

pub no_entries : directs [] ≡ []
unfolding directs
no_entries = refl

-- ---- the indirect entries

target_with : (l : AnchorLink) (d : DagPoint) → is_target_of l d ≡ is_target_with l (id_of d)
target_with (Direct t) d = refl
target_with (Indirect to t) d = by (is_dropped d)
  where
    by : (b : Bool) → (b || same_id (entry_id d) to) ≡ is_target_with (Indirect to t) (pick b None (Some (entry_id d)))
    by true = refl
    by false = refl

targets-step : (p : PointInfo) (proof trigger : Bool) (a : IndirectEntry) (l : List IndirectEntry) → all_targets p proof trigger (a ∷ l) ≡
    ((is_target_of (anchor_link a.role p) a.entry.state && not (stood_before a.role proof trigger))
    && all_targets p (proof || same_role a.role Proof) (trigger || same_role a.role Trigger) l)
unfolding all_targets
targets-step p proof trigger a l = refl

targets-none : (p : PointInfo) (proof trigger : Bool) → all_targets p proof trigger [] ≡ true
unfolding all_targets
targets-none p proof trigger = refl

targets_next : {l r : List Listed} {h : Head} (f : Front l h r) (g : AnchorStageRole) → h.aim ≡ Some g →
    (p : PointInfo) (proof trigger : Bool) → all_targets p proof trigger (indirects l) ≡
    ((is_target_with (anchor_link g p) h.id && not (stood_before g proof trigger))
    && all_targets p (proof || same_role g Proof) (trigger || same_role g Trigger) (indirects r))
targets_next {r = r} {h = h} f g e p proof trigger =
    let more = all_targets p (proof || same_role g Proof) (trigger || same_role g Trigger) (indirects r) in
    let is : is_target_of (anchor_link g p) f.first.entry.state ≡ is_target_with (anchor_link g p) h.id =
    target_with (anchor_link g p) f.first.entry.state ∙ rw f.id
    in
    ap (all_targets p proof trigger) (indirects-next f g e)
    ∙ (targets-step p proof trigger (record { role = g; entry = f.first.entry }) (indirects r)
    ∙ ap (λ (b : Bool). (b && not (stood_before g proof trigger)) && more) is)

-- what the code told of a link
pub target-told : (g : AnchorStageRole) (s : List ℕ) (info : code-info.PointInfo) {link : AnchorLink} (i : Option PointId) {told : Bool} →
    told ≡ is_target_with link i → link ≡ link_in g info → is_target_with (anchor_link g (point_of s info)) i ≡ told
target-told g s info i e d = sym (e ∙ ap (λ (l : AnchorLink). is_target_with l i) (d ∙ link_in_lem g s info))

module _ {l r : List Listed} {h : Head} (f : Front l h r) (g : AnchorStageRole) (e : h.aim ≡ Some g) (p : PointInfo) (proof trigger : Bool) where
  pub target-false : is_target_with (anchor_link g p) h.id ≡ false → all_targets p proof trigger (indirects l) ≡ false
  target-false t = targets_next f g e p proof trigger ∙ first-false (is_target_with (anchor_link g p) h.id) (not (stood_before g proof trigger)) (all_targets p (proof || same_role g Proof) (trigger || same_role g Trigger) (indirects r)) t

  pub target-again : stood_before g proof trigger ≡ true → all_targets p proof trigger (indirects l) ≡ false
  target-again t = targets_next f g e p proof trigger ∙ stood (is_target_with (anchor_link g p) h.id) (stood_before g proof trigger) _ t

  pub target-true : is_target_with (anchor_link g p) h.id ≡ true → stood_before g proof trigger ≡ false →
      all_targets p proof trigger (indirects l) ≡ all_targets p (proof || same_role g Proof) (trigger || same_role g Trigger) (indirects r)
  target-true t n = targets_next f g e p proof trigger ∙ rw (t, n)

-- the roles that stood, once an entry of a role has stood
pub record Stood (g : AnchorStageRole) (proof trigger stood proof_now trigger_now : Bool) : Type 0 where
  pub before : stood ≡ stood_before g proof trigger
  pub now : (proof_now ≡ (proof || same_role g Proof)) × (trigger_now ≡ (trigger || same_role g Trigger))

pub stood-proof : (g : AnchorStageRole) (proof trigger stood proof_now trigger_now : Bool) → g ≡ Proof → stood ≡ proof → proof_now ≡ true → trigger_now ≡ trigger →
    Stood g proof trigger stood proof_now trigger_now
stood-proof Proof proof trigger stood proof_now trigger_now e a b c = record { before = a; now = (b ∙ sym (or-true proof), c ∙ sym (or-false trigger)) }
stood-proof Trigger proof trigger stood proof_now trigger_now e a b c = impossible (cc)

pub stood-trigger : (g : AnchorStageRole) (proof trigger stood proof_now trigger_now : Bool) → g ≡ Trigger → stood ≡ trigger → proof_now ≡ proof → trigger_now ≡ true →
    Stood g proof trigger stood proof_now trigger_now
stood-trigger Proof proof trigger stood proof_now trigger_now e a b c = impossible (cc)
stood-trigger Trigger proof trigger stood proof_now trigger_now e a b c = record { before = a; now = (b ∙ sym (or-false proof), c ∙ sym (or-true trigger)) }

no_listed : indirects [] ≡ []
unfolding indirects
no_listed = refl

pub targets-left : {l : List Listed} (p : PointInfo) (proof trigger : Bool) → l ≡ [] → all_targets p proof trigger (indirects l) ≡ true
targets-left p proof trigger h =
    ap (λ (l : List Listed). all_targets p proof trigger (indirects l)) h
    ∙ (ap (all_targets p proof trigger) no_listed ∙ targets-none p proof trigger)

-- where no direct entry is left none stands first
pub no_direct {ℓ} : {A : Type ℓ} {l r : List Listed} {h : Head} → Front l h r → h.aim ≡ None → directs l ≡ [] → A
no_direct f e n = let d = directs-next f e in impossible (cc)

-- ---- the walk in the list's bytes

pub record Going (presence : ℕ) (p : PointInfo) (l r : List Listed) (maps : List MarkedMap) (dropped : ℕ) : Type 0 where
  pub targets : indirects r ≡ indirects l
  pub walk : Walking presence p (directs l) (directs r) maps dropped
  pub once : is_version_twice p (directs r) ≡ false

module _ {presence : ℕ} {p : PointInfo} {all l r : List Listed} {maps : List MarkedMap} {dropped : ℕ} (g : Going presence p all l maps dropped)
    {h : Head} (f : Front l h r) (a : h.aim ≡ None) where
  once-next : is_version_twice p (f.first.entry ∷ directs r) ≡ false
  once-next = ap (is_version_twice p) (sym (directs-next f a)) ∙ g.once

  pub going_dropped : h.id ≡ None → Going presence p all r maps (dropped + 1)
  going_dropped d = record {
    targets = sym (indirects-same f a) ∙ g.targets;
    walk = walk-dropped g.walk (directs-next f a) (front_dropped f d);
    once = once_tail p _ _ once-next;
  }

  module _ (i : PointId) (e : h.id ≡ Some i) where
    own : (is_dropped f.first.entry.state ≡ false) × (i ≡ entry_id f.first.entry.state)
    own = front_kept f i e

    pub going_twice : has_id g.walk.before i ≡ true → all_placed presence p [] (directs all) ≡ false
    going_twice = walk-twice g.walk (directs-next f a) own.0 own.1

    module _ {found : Bool} (marks : List MarkedMap) (k : IdMarked p g.walk.before i marks found) (n : length marks ≡ maps_in presence) where
      -- no version stands again, so that each is a new one
      new-version : is_version p i ≡ is_new_version p (directs r) i
      new-version = version-once p f.first.entry _ i own.0 own.1 once-next

      pub going_fails : (found || is_version p i) ≡ false → all_placed presence p [] (directs all) ≡ false
      going_fails t = walk_fails g.walk (directs-next f a) own.0 own.1 marks k n (ap (λ (b : Bool). found || b) (sym new-version) ∙ t)

      pub going_placed : (found || is_version p i) ≡ true → Going presence p all r marks dropped
      going_placed t = record {
        targets = sym (indirects-same f a) ∙ g.targets;
        walk = walk-placed g.walk (directs-next f a) own.0 own.1 marks k n (ap (λ (b : Bool). found || b) (sym new-version) ∙ t);
        once = once_tail p _ _ once-next;
      }

-- the walk so far, however many maps there are
pub record Gone (p : PointInfo) (s : List ℕ) (first maps : List MarkedMap) (dropped : ℕ) (e : Entries) : Type 0 where
  pub whole : e.list.now ≡ s
  pub small : dropped ≤ e.at
  pub going : (presence : ℕ) → length first ≡ maps_in presence → Going presence p (listed s) (left_of e) maps dropped

pub gone_start : (p : PointInfo) (s : List ℕ) (maps : List MarkedMap) (e : Entries) → e.list.now ≡ s → e.at ≡ 0 → MapsMarked p [] maps →
    is_version_twice p (directs (listed s)) ≡ false → Gone p s maps maps 0 e
gone_start p s maps e w z m o = record {
  whole = w;
  small = omega arith;
  going = λ presence n. rw (w, z) (record { targets = refl; walk = walk_start presence p (directs (listed s)) maps m n; once = o });
}

-- the walk has ended: nothing direct is left
pub gone_end : {p : PointInfo} {s : List ℕ} {first maps : List MarkedMap} {dropped : ℕ} {e : Entries} → Gone p s first maps dropped e →
    (presence : ℕ) → length first ≡ maps_in presence → directs (left_of e) ≡ [] → AllPlaced presence p s maps dropped e.at
gone_end {p} {s} {first} {maps} {dropped} {e} g presence n d =
    let going = g.going presence n in
    let w : Walking presence p (directs (listed s)) [] maps dropped = rw d at going.walk in
    record {
      placed = walk-end-placed w;
      count = walk-end-count w;
      many = w.many;
      marks = walk-end-marks w;
      within = rw (← g.whole) e.within;
      left = rw (← g.whole) e.reads;
      after = rw (← g.whole) d;
      targets = ap (λ (t : List ℕ). indirects (listed (drop e.at t))) (sym g.whole) ∙ going.targets;
    }

-- ---- number 8

-- the indirect entries of a list without direct ones: none exactly at its end
none-at : (s : List ℕ) (x : Listed) (l : List Listed) → listed s ≡ x ∷ l → directs (listed s) ≡ [] → is_empty (indirects (listed s)) ≡ false
none-at s x l e d =
    ⊎_elim
    (λ a. let n = ap directs e ∙ directs-here x l a in impossible (cc))
    (λ a. ap is_empty (ap indirects e ∙ indirects-here x l a.0 a.1))
    (aim-cases x.aim)

none-left-at : (s : List ℕ) (end : ℕ) → is_some (read_list (drop end s)) ≡ true → directs (listed (drop end s)) ≡ [] →
    not (is_empty (indirects (listed (drop end s)))) ≡ ltb end (length s)
none-left-at s end r d =
    elim (dec_lt end (length s)) [
      | yes h ↦ (let n = next_of (drop end s) r (omega (arith, length-drop end s)) in
          ap not (none-at (drop end s) n.0 _ n.1.all d) ∙ sym (lt-ltb end (length s) h))
      | no h ↦ ap (λ (l : List Listed). not (is_empty (indirects l))) (reads_end s end (omega arith)) ∙ (ap (λ (l : List IndirectEntry). not (is_empty l)) no_listed ∙ sym (le-ltb end (length s) (omega arith)))
    ]

mismatch-is : (presence : ℕ) (p : PointInfo) (es : List Entry) (ts : List IndirectEntry) → mismatch presence p es ts ≡
    (not (all_placed presence p [] es)
    || (ltb (dropped_in es) (lacking presence p (ids_of es))
    || (not (all_targets p false false ts)
    || (not (eqb presence 3) && not (is_empty ts)))))
unfolding mismatch
mismatch-is presence p es ts = refl

second-of : (a l r : Bool) → a ≡ true → (not a || (l || r)) ≡ (l || r)
second-of a l r h = rw h

module _ (presence : ℕ) (p : PointInfo) (s : List ℕ) (l : List Listed) (e : read_list s ≡ Some l) where
  are : listed s ≡ l
  are = listed-is s l e

  pub mismatch_failed : all_placed presence p [] (directs (listed s)) ≡ false → mismatch presence p (directs l) (indirects l) ≡ true
  mismatch_failed h =
      mismatch-is presence p (directs l) (indirects l)
      ∙ rw (ap (λ (k : List Listed). all_placed presence p [] (directs k)) (sym are) ∙ h)

  pub mismatch-twice : is_version_twice p (directs (listed s)) ≡ true → mismatch presence p (directs l) (indirects l) ≡ true
  unfolding is_version_twice
  mismatch-twice h = mismatch_failed (own-twice (directs (listed s)) presence p [] (and_right (not (is_some (prev_digest p))) _ h))

  module _ {maps : List MarkedMap} {dropped end : ℕ} (f : Maps p) (w : AllPlaced presence p s maps dropped end) where
    -- past the walk
    past : mismatch presence p (directs (listed s)) (indirects (listed s)) ≡
        (ltb dropped (zeros maps) || (not (all_targets p false false (indirects (listed (drop end s)))) || (not (eqb presence 3) && ltb end (length s))))
    past =
        mismatch-is presence p (directs (listed s)) (indirects (listed s))
        ∙ (second-of (all_placed presence p [] (directs (listed s))) (ltb (dropped_in (directs (listed s))) (lacking presence p (ids_of (directs (listed s)))))
        (not (all_targets p false false (indirects (listed s))) || (not (eqb presence 3) && not (is_empty (indirects (listed s))))) w.placed
        ∙ rw (
          ← w.count,
          ← zeros-lack presence p (ids_of (directs (listed s))) maps f w.marks w.many,
          ← w.targets,
          none-left-at s end w.left w.after,
        ))

    whole-list : mismatch presence p (directs l) (indirects l) ≡ mismatch presence p (directs (listed s)) (indirects (listed s))
    whole-list = ap (λ (k : List Listed). mismatch presence p (directs k) (indirects k)) (sym are)

    pub mismatch-lacking : dropped < zeros maps → mismatch presence p (directs l) (indirects l) ≡ true
    mismatch-lacking h = whole-list ∙ (past ∙ rw (lt-ltb dropped (zeros maps) h))

    module _ (h : zeros maps ≤ dropped) where
      pub mismatch-absent : (not (eqb presence 3) && ltb end (length s)) ≡ true → mismatch presence p (directs l) (indirects l) ≡ true
      mismatch-absent a = whole-list ∙ (past ∙ rw (le-ltb dropped (zeros maps) h, a) (or-true (not (all_targets p false false (indirects (listed (drop end s)))))))

      pub mismatch-targets : (not (eqb presence 3) && ltb end (length s)) ≡ false →
          mismatch presence p (directs l) (indirects l) ≡ not (all_targets p false false (indirects (listed (drop end s))))
      mismatch-targets a = whole-list ∙ (past ∙ rw (le-ltb dropped (zeros maps) h, a) (or-false (not (all_targets p false false (indirects (listed (drop end s)))))))
