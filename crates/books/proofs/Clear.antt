-- The lists that a book builds for a point never give the numbers 7, 8 and 9: no entry lies outside the domain, each has its place
-- and stands once, none lacks, and the previous point is certified.
use Rattle.std.specs.Prelude.{Option, None, Some, is_some}
use Prim.Native.Nat.{ℕ, zero, ◌-◌, ◌≤◌, ◌<◌}
use native.Mathlib.Omega.{arith}
use mathlib.Core.Path.{◌≡◌, refl, ap, sym, ◌∙◌, subst}
use mathlib.Core.Logic.{◌⊎◌, inl, inr}
use mathlib.Core.Bool.{Bool, true, false, not, ◌&&◌, ◌||◌, not-and_self}
use mathlib.Core.List.Memᴰ
use mathlib.Core.List.{List, [], ◌∷◌, ◌++◌, Memᴰ}
use lib.Dec.{eqb}
use borrow.Author.Tests.{eqb-true, eq-eqb, le-ltb}
use Rattle.base.specs.Base.{pick}
use Rattle.base.proofs.Bool.{and_left, and_right, clash, and_both, last-false, or_first, or_second, or_none}
use Rattle.map.specs.Rows.{Pair, rising, peers, get}
use Rattle.map.proofs.Pairs.{rising_tail, rising-below, get-there}
use Rattle.point.specs.Point.{PointId, Through, AnchorLink, Direct, Indirect, PointInfo, prev_digest, prev_id, anchor_link, same_id}
use Rattle.point.specs.declared.data.AnchorStageRole.{AnchorStageRole}
use Rattle.point.specs.declared.data.AnchorStageRole.TheVariants.{Proof, Trigger}
use Rattle.point.proofs.Ids.{same_refl, eq_same, differ}
use Rattle.rules.specs.DagPoint.{Entry, IndirectEntry, entry_id, is_dropped, is_by}
use Rattle.rules.specs.Validate.{validate}
use Rattle.schedule.specs.Settings.{Settings}
use Rattle.rules.specs.Judge.{JudgeAnswer, Number, Given}
use Rattle.rules.specs.Mismatch.{has_id, pair_id, is_among, is_version, has_place, all_placed, id_then, ids_of, dropped_in, lacking_in, lacking, is_target_of, same_role, stood_before, all_targets, mismatch, is_id, uncovers, any_uncovers, entries_in, uncovered}
use Rattle.rules.proofs.All.{All, all_append}
use Rattle.rules.proofs.Mismatch.{has-next, has-none}
use Rattle.books.specs.Kept.{Status, Valid, TransInvalid, Invalid, IllFormed, Kept, Book, find_kept, is_twice, mark_one, mark}
use Rattle.books.specs.Lists.{dag_point, is_of, kept_entry, entry_with, lookup, lookups, versions, direct_list, target_entry, is_trigger_first, indirect_list}
use Rattle.books.specs.Offer.{is_state_ok, are_states_ok, answer_over}
use Rattle.books.proofs.Find.{find-id, find-member, absent-first, once-first, once-rest, mark-member}

-- ---- the ids of the direct list

pub dag_id : (q : PointInfo) (x : Status) → entry_id (dag_point q x) ≡ q.id
dag_id q Valid = refl
dag_id q (TransInvalid d) = refl
dag_id q (Invalid n) = refl
dag_id q (IllFormed n) = refl

dag_there : (q : PointInfo) (x : Status) → is_dropped (dag_point q x) ≡ false
dag_there q Valid = refl
dag_there q (TransInvalid d) = refl
dag_there q (Invalid n) = refl
dag_there q (IllFormed n) = refl

kept_then : (b : Book) (k : Kept) (l : List PointId) → id_then (kept_entry b k).state l ≡ k.point.id ∷ l
unfolding kept_entry
kept_then b k l = rw (dag_there k.point k.status, dag_id k.point k.status)

-- an entry that is looked up has the id that was asked for
pub lookup-id : (b : Book) (p : PointInfo) (i : PointId) → entry_id (lookup b p i).state ≡ i
unfolding lookup kept_entry
lookup-id b p i = go (find_kept b i) refl
  where
    go : (o : Option Kept) → find_kept b i ≡ o → entry_id (entry_with b p i o).state ≡ i
    go None h = refl
    go (Some k) h = dag_id k.point k.status ∙ find-id b i k h

lookup_then : (b : Book) (p : PointInfo) (i : PointId) (l : List PointId) → id_then (lookup b p i).state l ≡ i ∷ l
unfolding lookup
lookup_then b p i l = go (find_kept b i) refl
  where
    go : (o : Option Kept) → find_kept b i ≡ o → id_then (entry_with b p i o).state l ≡ i ∷ l
    go None h = refl
    go (Some k) h = kept_then b k l ∙ ap (λ (j : PointId). j ∷ l) (find-id b i k h)

then_append : (t : Bool) (i : PointId) (l m : List PointId) → pick t (l ++ m) (i ∷ l ++ m) ≡ pick t l (i ∷ l) ++ m
then_append true i l m = refl
then_append false i l m = refl

ids-append : (a b : List Entry) → ids_of (a ++ b) ≡ ids_of a ++ ids_of b
unfolding ids_of
ids-append [] b = refl
ids-append (e ∷ a) b = ap (id_then e.state) (ids-append a b) ∙ then_append (is_dropped e.state) (entry_id e.state) (ids_of a) (ids_of b)

pair_ids : ℕ → List Pair → List PointId
pair_ids round [] = []
pair_ids round (q ∷ l) = pair_id round q ∷ pair_ids round l

lookups-ids : (b : Book) (p : PointInfo) (round : ℕ) (l : List Pair) → ids_of (lookups b p round l) ≡ pair_ids round l
unfolding ids_of lookups pair_ids
lookups-ids b p round [] = refl
lookups-ids b p round (q ∷ l) =
    lookup_then b p (pair_id round q) (ids_of (lookups b p round l)) ∙ ap (λ (z : List PointId). pair_id round q ∷ z) (lookups-ids b p round l)

pub book_ids : Book → List PointId
book_ids [] = []
book_ids (k ∷ b) = k.point.id ∷ book_ids b

version_ids : ℕ → ℕ → Book → List PointId
version_ids round author [] = []
version_ids round author (k ∷ l) = pick (is_of round author k) (k.point.id ∷ version_ids round author l) (version_ids round author l)

versions-ids : (b : Book) (round author : ℕ) (l : List Kept) → ids_of (versions b round author l) ≡ version_ids round author l
unfolding versions version_ids ids_of
versions-ids b round author [] = refl
versions-ids b round author (k ∷ l) = go (is_of round author k) (versions-ids b round author l)
  where
    go : (t : Bool) → ids_of (versions b round author l) ≡ version_ids round author l →
        ids_of (pick t (kept_entry b k ∷ versions b round author l) (versions b round author l)) ≡ pick t (k.point.id ∷ version_ids round author l) (version_ids round author l)
    go true h = kept_then b k (ids_of (versions b round author l)) ∙ ap (λ (z : List PointId). k.point.id ∷ z) h
    go false h = h

own_ids : Book → PointInfo → List PointId
unfolding version_ids prev_digest
own_ids b p = pick (is_some (prev_digest p)) [] (version_ids (p.id.round - 1) p.id.author b)

witness_ids : PointInfo → List PointId
witness_ids p = pair_ids (p.id.round - 2) p.witness

includes_ids : PointInfo → List PointId
includes_ids p = pair_ids (p.id.round - 1) p.includes

direct-ids : (b : Book) (p : PointInfo) → ids_of (direct_list b p) ≡ witness_ids p ++ (includes_ids p ++ own_ids b p)
unfolding direct_list own_ids witness_ids includes_ids
direct-ids b p =
    let own : List Entry = pick (is_some (prev_digest p)) [] (versions b (p.id.round - 1) p.id.author b) in
    let inner : List Entry = lookups b p (p.id.round - 1) p.includes in
    ids-append (lookups b p (p.id.round - 2) p.witness) (inner ++ own)
    ∙ (ap (λ (z : List PointId). z ++ ids_of (inner ++ own)) (lookups-ids b p (p.id.round - 2) p.witness)
    ∙ ap (λ (z : List PointId). pair_ids (p.id.round - 2) p.witness ++ z)
    (ids-append inner own
    ∙ (ap (λ (z : List PointId). z ++ ids_of own) (lookups-ids b p (p.id.round - 1) p.includes)
    ∙ ap (λ (z : List PointId). pair_ids (p.id.round - 1) p.includes ++ z) (go (is_some (prev_digest p))))))
  where
    go : (t : Bool) → ids_of (pick t [] (versions b (p.id.round - 1) p.id.author b)) ≡ pick t [] (version_ids (p.id.round - 1) p.id.author b)
    go true = unfold ids_of in refl
    go false = versions-ids b (p.id.round - 1) p.id.author b

-- ---- where an id of the direct list comes from

pair-member : (round : ℕ) (l : List Pair) (j : PointId) → Memᴰ j (pair_ids round l) → (q : Pair) × Memᴰ q l × (j ≡ pair_id round q)
unfolding pair_ids
pair-member round [] j m = absurd (Memᴰ.not-nil m)
pair-member round (x ∷ l) j m = go (pair-member round l j) (Memᴰ.cases_cons m)
  where
    go : (Memᴰ j (pair_ids round l) → (q : Pair) × Memᴰ q l × (j ≡ pair_id round q)) →
        (j ≡ pair_id round x) ⊎ Memᴰ j (pair_ids round l) → (q : Pair) × Memᴰ q (x ∷ l) × (j ≡ pair_id round q)
    go rec (inl e) = (x, Memᴰ.head refl, e)
    go rec (inr m') = let w = rec m' in (w.0, Memᴰ.tail w.1, w.2)

pair-stands : (round : ℕ) (l : List Pair) (q : Pair) → Memᴰ q l → Memᴰ (pair_id round q) (pair_ids round l)
unfolding pair_ids
pair-stands round [] q m = absurd (Memᴰ.not-nil m)
pair-stands round (x ∷ l) q m = go (pair-stands round l q) (Memᴰ.cases_cons m)
  where
    go : (Memᴰ q l → Memᴰ (pair_id round q) (pair_ids round l)) → (q ≡ x) ⊎ Memᴰ q l → Memᴰ (pair_id round q) (pair_id round x ∷ pair_ids round l)
    go rec (inl e) = Memᴰ.head (ap (λ (z : Pair). pair_id round z) e)
    go rec (inr m') = Memᴰ.tail (rec m')

version-member : (round author : ℕ) (b : Book) (j : PointId) → Memᴰ j (version_ids round author b) → (is_by round author j ≡ true) × Memᴰ j (book_ids b)
unfolding version_ids book_ids
version-member round author [] j m = absurd (Memᴰ.not-nil m)
version-member round author (k ∷ b) j m = go (is_of round author k) refl (version-member round author b j) m
  where
    go : (t : Bool) → is_of round author k ≡ t →
        (Memᴰ j (version_ids round author b) → (is_by round author j ≡ true) × Memᴰ j (book_ids b)) →
        Memᴰ j (pick t (k.point.id ∷ version_ids round author b) (version_ids round author b)) → (is_by round author j ≡ true) × Memᴰ j (k.point.id ∷ book_ids b)
    go true h rec m = first (Memᴰ.cases_cons m)
      where
        first : (j ≡ k.point.id) ⊎ Memᴰ j (version_ids round author b) → (is_by round author j ≡ true) × Memᴰ j (k.point.id ∷ book_ids b)
        first (inl e) = (subst (λ (z : PointId). is_by round author z ≡ true) (sym e) h, Memᴰ.head e)
        first (inr m') = let w = rec m' in (w.0, Memᴰ.tail w.1)
    go false h rec m = let w = rec m in (w.0, Memᴰ.tail w.1)

-- "with no previous digest, kept versions of that author at r−1"
record Own (b : Book) (p : PointInfo) (j : PointId) : Type 0 where
  without : is_some (prev_digest p) ≡ false
  round : j.round ≡ p.id.round - 1
  author : j.author ≡ p.id.author
  member : Memᴰ j (book_ids b)

own-member : (b : Book) (p : PointInfo) (j : PointId) → Memᴰ j (own_ids b p) → Own b p j
unfolding own_ids
own-member b p j m = go (is_some (prev_digest p)) refl m
  where
    go : (t : Bool) → is_some (prev_digest p) ≡ t → Memᴰ j (pick t [] (version_ids (p.id.round - 1) p.id.author b)) → Own b p j
    go true h m = absurd (Memᴰ.not-nil m)
    go false h m =
        let w = version-member (p.id.round - 1) p.id.author b j m in
        record {
          without = h;
          round = eqb-true _ _ (and_left (eqb j.round (p.id.round - 1)) _ w.0);
          author = eqb-true _ _ (and_right (eqb j.round (p.id.round - 1)) _ w.0);
          member = w.1;
        }

module _ {X : Type 0} (b : Book) (p : PointInfo) (j : PointId)
    (g : (q : Pair) → Memᴰ q p.includes → j ≡ pair_id (p.id.round - 1) q → X)
    (h : Own b p j → X) where
  after-witness : Memᴰ j (includes_ids p ++ own_ids b p) → X
  unfolding includes_ids
  after-witness m = second (Memᴰ.append_cases (includes_ids p) m)
    where
      second : Memᴰ j (includes_ids p) ⊎ Memᴰ j (own_ids b p) → X
      second (inl x) = let w = pair-member (p.id.round - 1) p.includes j x in g w.0 w.1 w.2
      second (inr x) = h (own-member b p j x)

  id-cases : ((q : Pair) → Memᴰ q p.witness → j ≡ pair_id (p.id.round - 2) q → X) → Memᴰ j (witness_ids p ++ (includes_ids p ++ own_ids b p)) → X
  unfolding witness_ids
  id-cases f m = first (Memᴰ.append_cases (witness_ids p) m)
    where
      first : Memᴰ j (witness_ids p) ⊎ Memᴰ j (includes_ids p ++ own_ids b p) → X
      first (inl x) = let w = pair-member (p.id.round - 2) p.witness j x in f w.0 w.1 w.2
      first (inr x) = after-witness x

-- ---- 8: each entry has its place

pub among-member : (round : ℕ) (l : List Pair) (q : Pair) → Memᴰ q l → is_among round l (pair_id round q) ≡ true
unfolding is_among
among-member round [] q m = absurd (Memᴰ.not-nil m)
among-member round (x ∷ l) q m = go (among-member round l q) (Memᴰ.cases_cons m)
  where
    go : (Memᴰ q l → is_among round l (pair_id round q) ≡ true) → (q ≡ x) ⊎ Memᴰ q l →
        (same_id (pair_id round x) (pair_id round q) || is_among round l (pair_id round q)) ≡ true
    go rec (inl e) = or_first _ _ (eq_same (pair_id round x) (pair_id round q) (ap (λ (z : Pair). pair_id round z) (sym e)))
    go rec (inr m') = or_second (same_id (pair_id round x) (pair_id round q)) _ (rec m')

module _ (b : Book) (p : PointInfo) (j : PointId) where
  placed-id : Memᴰ j (witness_ids p ++ (includes_ids p ++ own_ids b p)) → has_place 3 p j ≡ true
  unfolding has_place is_version
  placed-id =
      let included : Bool = is_among (p.id.round - 1) p.includes j in
      let witnessed : Bool = is_among (p.id.round - 2) p.witness j in
      id-cases b p j
      (λ q m e. or_first included (witnessed || is_version p j) (rw e (among-member (p.id.round - 1) p.includes q m)))
      (λ o. or_second included (witnessed || is_version p j) (or_second witnessed (is_version p j)
      (rw (o.without, eq-eqb j.round (p.id.round - 1) o.round, eq-eqb j.author p.id.author o.author))))
      (λ q m e. or_second included (witnessed || is_version p j)
      (or_first witnessed (is_version p j) (rw e (among-member (p.id.round - 2) p.witness q m))))

-- ---- 8: no id twice

abbrev Apart : PointId → List PointId → Type 0
Apart i l = (j : PointId) → Memᴰ j l → i ≡ j → ⊥

abbrev pub Distinct : List PointId → Type 0
Distinct [] = Unit
Distinct (i ∷ l) = ((j : PointId) → Memᴰ j l → i ≡ j → ⊥) × Distinct l

distinct_append : (a b : List PointId) → Distinct a → Distinct b → ((i : PointId) → Memᴰ i a → Apart i b) → Distinct (a ++ b)
distinct_append [] b da db h = db
distinct_append (i ∷ a) b da db h =
    (λ j m e. go j e (Memᴰ.append_cases a m), distinct_append a b da.1 db (λ x m. h x (Memᴰ.tail m)))
  where
    go : (j : PointId) → i ≡ j → Memᴰ j a ⊎ Memᴰ j b → ⊥
    go j e (inl m) = da.0 j m e
    go j e (inr m) = h i (Memᴰ.head refl) j m e

pairs_distinct : (round : ℕ) (l : List Pair) → rising (peers l) ≡ true → Distinct (pair_ids round l)
unfolding pair_ids peers
pairs_distinct round [] r = tt
pairs_distinct round (x ∷ l) r = (
  λ j m e.
      let w = pair-member round l j m in
      let lt : x.peer < w.0.peer = rising-below x.peer l w.0 r w.1 in
      let same : x.peer ≡ w.0.peer = ap (λ (z : PointId). z.author) (e ∙ w.2) in
      omega arith,
  pairs_distinct round l (rising_tail x.peer (peers l) r),
)

versions_distinct : (round author : ℕ) (b : Book) → Distinct (book_ids b) → Distinct (version_ids round author b)
unfolding version_ids book_ids
versions_distinct round author [] d = tt
versions_distinct round author (k ∷ b) d = go (is_of round author k) (versions_distinct round author b d.1)
  where
    go : (t : Bool) → Distinct (version_ids round author b) → Distinct (pick t (k.point.id ∷ version_ids round author b) (version_ids round author b))
    go true rec = (λ j m e. d.0 j (version-member round author b j m).1 e, rec)
    go false rec = rec

own_distinct : (b : Book) (p : PointInfo) → Distinct (book_ids b) → Distinct (own_ids b p)
unfolding own_ids
own_distinct b p d = go (is_some (prev_digest p))
  where
    go : (t : Bool) → Distinct (pick t [] (version_ids (p.id.round - 1) p.id.author b))
    go true = tt
    go false = versions_distinct (p.id.round - 1) p.id.author b d

-- an id that is not found stands nowhere
absent : (b : Book) (i : PointId) → find_kept b i ≡ None → Apart i (book_ids b)
unfolding book_ids
absent [] i h j m e = Memᴰ.not-nil m
absent (k ∷ b) i h j m e = let p = absent-first k b i h in go p.0 (λ n. absent b i p.1 j n e) (Memᴰ.cases_cons m)
  where
    go : same_id k.point.id i ≡ false → (Memᴰ j (book_ids b) → ⊥) → (j ≡ k.point.id) ⊎ Memᴰ j (book_ids b) → ⊥
    go q rec (inl u) = clash (same_id k.point.id i) (eq_same k.point.id i (sym (e ∙ u))) q
    go q rec (inr n) = rec n

pub once_distinct : (b : Book) → is_twice b ≡ false → Distinct (book_ids b)
unfolding is_twice book_ids
once_distinct [] h = tt
once_distinct (k ∷ b) h = (absent b k.point.id (once-first k b h), once_distinct b (once-rest k b h))

module _ (b : Book) (p : PointInfo) (d : Distinct (book_ids b)) (ri : rising (peers p.includes) ≡ true) (rwi : rising (peers p.witness) ≡ true)
    (two : 2 ≤ p.id.round) where
  -- no version is listed where the author is in includes
  included : (i : PointId) → Memᴰ i (includes_ids p) → Apart i (own_ids b p)
  unfolding includes_ids prev_digest
  included i m j mj e =
      let w = pair-member (p.id.round - 1) p.includes i m in
      let o = own-member b p j mj in
      let a : w.0.peer ≡ p.id.author = ap (λ (z : PointId). z.author) (sym w.2 ∙ e) ∙ o.author in
      let g = get-there p.includes w.0 w.1 in
      clash (is_some (get p.includes p.id.author)) (subst (λ (x : ℕ). is_some (get p.includes x) ≡ true) a g) o.without

  below : (i : PointId) → Memᴰ i (witness_ids p) → Apart i (includes_ids p ++ own_ids b p)
  unfolding witness_ids
  below i m j mj e =
      let w = pair-member (p.id.round - 2) p.witness i m in
      let ri2 : i.round ≡ p.id.round - 2 = ap (λ (z : PointId). z.round) w.2 in
      let rj : j.round ≡ p.id.round - 1 = after-witness b p j (λ q n f. ap (λ (z : PointId). z.round) f) (λ o. o.round) mj in
      let eq : i.round ≡ j.round = ap (λ (z : PointId). z.round) e in
      omega arith

  once : Distinct (witness_ids p ++ (includes_ids p ++ own_ids b p))
  unfolding witness_ids includes_ids
  once =
      distinct_append (witness_ids p) (includes_ids p ++ own_ids b p) (pairs_distinct (p.id.round - 2) p.witness rwi)
      (distinct_append (includes_ids p) (own_ids b p) (pairs_distinct (p.id.round - 1) p.includes ri) (own_distinct b p d) included) below

-- entries that have their places, whose ids stand once and not among those before
all_placed_lem : (p : PointInfo) (before : List PointId) (es : List Entry) → ((j : PointId) → Memᴰ j (ids_of es) → has_place 3 p j ≡ true) →
    ((j : PointId) → Memᴰ j (ids_of es) → has_id before j ≡ false) → Distinct (ids_of es) → all_placed 3 p before es ≡ true
unfolding ids_of all_placed
all_placed_lem p before [] f g d = refl
all_placed_lem p before (e ∷ l) f g d = go (is_dropped e.state) f g d (λ z. all_placed_lem p z l)
  where
    go : (t : Bool) → ((j : PointId) → Memᴰ j (pick t (ids_of l) (entry_id e.state ∷ ids_of l)) → has_place 3 p j ≡ true) →
        ((j : PointId) → Memᴰ j (pick t (ids_of l) (entry_id e.state ∷ ids_of l)) → has_id before j ≡ false) →
        Distinct (pick t (ids_of l) (entry_id e.state ∷ ids_of l)) →
        ((z : List PointId) → ((j : PointId) → Memᴰ j (ids_of l) → has_place 3 p j ≡ true) → ((j : PointId) → Memᴰ j (ids_of l) → has_id z j ≡ false) → Distinct (ids_of l) → all_placed 3 p z l ≡ true) →
        pick t (all_placed 3 p before l) ((has_place 3 p (entry_id e.state) && not (has_id before (entry_id e.state))) && all_placed 3 p (entry_id e.state ∷ before) l) ≡ true
    go true f g d rec = rec before f g d
    go false f g d rec =
        let i : PointId = entry_id e.state in
        let here : has_place 3 p i ≡ true = f i (Memᴰ.head refl) in
        let new : has_id before i ≡ false = g i (Memᴰ.head refl) in
        let rest : all_placed 3 p (i ∷ before) l ≡ true = rec (i ∷ before) (λ j m. f j (Memᴰ.tail m))
        (λ j m. has-next i j before ∙ or_none (same_id i j) (has_id before j) (differ i j (d.0 j m)) (g j (Memᴰ.tail m))) d.1 in
        rw (here, new) rest

-- ---- 8: nothing lacks

has-member : (i : PointId) (l : List PointId) → Memᴰ i l → has_id l i ≡ true
unfolding has_id
has-member i [] m = absurd (Memᴰ.not-nil m)
has-member i (j ∷ l) m = go (has-member i l) (Memᴰ.cases_cons m)
  where
    go : (Memᴰ i l → has_id l i ≡ true) → (i ≡ j) ⊎ Memᴰ i l → (same_id j i || has_id l i) ≡ true
    go rec (inl e) = or_first (same_id j i) (has_id l i) (eq_same j i (sym e))
    go rec (inr n) = or_second (same_id j i) (has_id l i) (rec n)

no_lack : (round : ℕ) (ids : List PointId) (l : List Pair) → ((q : Pair) → Memᴰ q l → Memᴰ (pair_id round q) ids) → lacking_in round l ids ≡ zero
unfolding lacking_in
no_lack round ids [] h = refl
no_lack round ids (q ∷ l) h =
    rw (has-member (pair_id round q) ids (h q (Memᴰ.head refl))) (no_lack round ids l (λ x m. h x (Memᴰ.tail m)))

none-lacking : (b : Book) (p : PointInfo) → lacking 3 p (ids_of (direct_list b p)) ≡ zero
unfolding lacking witness_ids includes_ids
none-lacking b p =
    let ids : List PointId = ids_of (direct_list b p) in
    let i : lacking_in (p.id.round - 1) p.includes ids ≡ zero = no_lack (p.id.round - 1) ids p.includes
    (λ q m. subst (λ (l : List PointId). Memᴰ (pair_id (p.id.round - 1) q) l) (sym (direct-ids b p))
    (Memᴰ.append_right (witness_ids p) (Memᴰ.append_left (own_ids b p) (pair-stands (p.id.round - 1) p.includes q m)))) in
    let w : lacking_in (p.id.round - 2) p.witness ids ≡ zero = no_lack (p.id.round - 2) ids p.witness
    (λ q m. subst (λ (l : List PointId). Memᴰ (pair_id (p.id.round - 2) q) l) (sym (direct-ids b p))
    (Memᴰ.append_left (includes_ids p ++ own_ids b p) (pair-stands (p.id.round - 2) p.witness q m))) in
    rw (i, w)

-- ---- 8: the indirect entries

lookup-target : (b : Book) (p : PointInfo) (to : PointId) (t : Through) → is_target_of (Indirect to t) (lookup b p to).state ≡ true
unfolding lookup
lookup-target b p to t = go (find_kept b to) refl
  where
    go : (o : Option Kept) → find_kept b to ≡ o → is_target_of (Indirect to t) (entry_with b p to o).state ≡ true
    go None h = same_refl to
    go (Some k) h =
        unfold kept_entry in
        or_second (is_dropped (dag_point k.point k.status)) _ (eq_same (entry_id (dag_point k.point k.status)) to (dag_id k.point k.status ∙ find-id b to k h))

-- one link's target, and what is after it
module _ (b : Book) (p : PointInfo) where
  one-target : (g : AnchorStageRole) (l : AnchorLink) (proof trigger : Bool) (rest : List IndirectEntry) → anchor_link g p ≡ l → stood_before g proof trigger ≡ false →
      all_targets p proof trigger rest ≡ true → all_targets p (proof || same_role g Proof) (trigger || same_role g Trigger) rest ≡ true →
      all_targets p proof trigger (target_entry b p g l ++ rest) ≡ true
  unfolding all_targets
  one-target g (Direct t) proof trigger rest e s h k = h
  one-target g (Indirect to t) proof trigger rest e s h k = rw (e, lookup-target b p to t, s) k

  last-target : (g : AnchorStageRole) (l : AnchorLink) (proof trigger : Bool) → anchor_link g p ≡ l → stood_before g proof trigger ≡ false →
      all_targets p proof trigger (target_entry b p g l) ≡ true
  unfolding all_targets
  last-target g (Direct t) proof trigger e s = refl
  last-target g (Indirect to t) proof trigger e s = rw (e, lookup-target b p to t, s)

  all-targets : all_targets p false false (indirect_list b p) ≡ true
  unfolding indirect_list
  all-targets = go (is_trigger_first p.anchor_proof p.anchor_trigger)
    where
      go : (t : Bool) → all_targets p false false (pick t
          (target_entry b p Trigger p.anchor_trigger ++ target_entry b p Proof p.anchor_proof)
          (target_entry b p Proof p.anchor_proof ++ target_entry b p Trigger p.anchor_trigger)) ≡ true
      go true =
          one-target Trigger p.anchor_trigger false false (target_entry b p Proof p.anchor_proof) refl refl
          (last-target Proof p.anchor_proof false false refl refl) (last-target Proof p.anchor_proof false true refl refl)
      go false =
          one-target Proof p.anchor_proof false false (target_entry b p Trigger p.anchor_trigger) refl refl
          (last-target Trigger p.anchor_trigger false false refl refl) (last-target Trigger p.anchor_trigger true false refl refl)

pub no_mismatch : (b : Book) (p : PointInfo) → Distinct (book_ids b) → rising (peers p.includes) ≡ true → rising (peers p.witness) ≡ true → 2 ≤ p.id.round →
    mismatch 3 p (direct_list b p) (indirect_list b p) ≡ false
unfolding mismatch
no_mismatch b p d ri rwi two =
    let ids : List PointId = witness_ids p ++ (includes_ids p ++ own_ids b p) in
    let e : ids ≡ ids_of (direct_list b p) = sym (direct-ids b p) in
    let placed : all_placed 3 p [] (direct_list b p) ≡ true = all_placed_lem p [] (direct_list b p)
    (subst (λ (l : List PointId). (j : PointId) → Memᴰ j l → has_place 3 p j ≡ true) e (placed-id b p))
    (λ j m. has-none j) (subst Distinct e (once b p d ri rwi two)) in
    rw (placed, none-lacking b p, le-ltb (dropped_in (direct_list b p)) 0 (omega arith), all-targets b p)

-- ---- 7 and 9: what holds of each kept entry and of each id that is not kept holds of both lists

entries_in-append : (a b : List IndirectEntry) → entries_in (a ++ b) ≡ entries_in a ++ entries_in b
unfolding entries_in
entries_in-append [] b = refl
entries_in-append (x ∷ a) b = ap (λ (l : List Entry). x.entry ∷ l) (entries_in-append a b)

module _ (P : Entry → Type 0) (b : Book) (p : PointInfo)
    (lost : (i : PointId) → P (entry_with b p i None)) (kept : (k : Kept) → Memᴰ k b → P (kept_entry b k)) where
  each_lookup : (i : PointId) → P (lookup b p i)
  unfolding lookup
  each_lookup i = go (find_kept b i) refl
    where
      go : (o : Option Kept) → find_kept b i ≡ o → P (entry_with b p i o)
      go None h = lost i
      go (Some k) h = kept k (find-member b i k h)

  each_lookups : (round : ℕ) (l : List Pair) → All P (lookups b p round l)
  unfolding lookups
  each_lookups round [] = tt
  each_lookups round (q ∷ l) = (each_lookup (pair_id round q), each_lookups round l)

  each_version : (round author : ℕ) (l : Book) → ((k : Kept) → Memᴰ k l → Memᴰ k b) → All P (versions b round author l)
  unfolding versions
  each_version round author [] h = tt
  each_version round author (k ∷ l) h = go (is_of round author k) (each_version round author l (λ x m. h x (Memᴰ.tail m)))
    where
      go : (t : Bool) → All P (versions b round author l) → All P (pick t (kept_entry b k ∷ versions b round author l) (versions b round author l))
      go true rec = (kept k (h k (Memᴰ.head refl)), rec)
      go false rec = rec

  pub each_direct : All P (direct_list b p)
  unfolding direct_list
  each_direct =
      all_append P (lookups b p (p.id.round - 2) p.witness) _ (each_lookups (p.id.round - 2) p.witness)
      (all_append P (lookups b p (p.id.round - 1) p.includes) _ (each_lookups (p.id.round - 1) p.includes) (go (is_some (prev_digest p))))
    where
      go : (t : Bool) → All P (pick t [] (versions b (p.id.round - 1) p.id.author b))
      go true = tt
      go false = each_version (p.id.round - 1) p.id.author b (λ k m. m)

  each_target : (g : AnchorStageRole) (l : AnchorLink) → All P (entries_in (target_entry b p g l))
  unfolding entries_in
  each_target g (Direct t) = tt
  each_target g (Indirect to t) = (each_lookup to, tt)

  both-targets : (g h : AnchorStageRole) (l m : AnchorLink) → All P (entries_in (target_entry b p g l ++ target_entry b p h m))
  both-targets g h l m = rw (entries_in-append (target_entry b p g l) (target_entry b p h m)) (all_append P (entries_in (target_entry b p g l)) (entries_in (target_entry b p h m)) (each_target g l) (each_target h m))

  pub each_indirect : All P (entries_in (indirect_list b p))
  unfolding indirect_list
  each_indirect = go (is_trigger_first p.anchor_proof p.anchor_trigger)
    where
      go : (t : Bool) → All P (entries_in (pick t
          (target_entry b p Trigger p.anchor_trigger ++ target_entry b p Proof p.anchor_proof)
          (target_entry b p Proof p.anchor_proof ++ target_entry b p Trigger p.anchor_trigger)))
      go true = both-targets Trigger Proof p.anchor_trigger p.anchor_proof
      go false = both-targets Proof Trigger p.anchor_proof p.anchor_trigger

abbrev pub StateOk : Entry → Type 0
StateOk e = is_state_ok e.state ≡ true

all-states : (es : List Entry) → All StateOk es → are_states_ok es ≡ true
unfolding are_states_ok
all-states [] h = refl
all-states (e ∷ l) h = and_both (is_state_ok e.state) (are_states_ok l) h.0 (all-states l h.1)

none-uncovers : (prev : Option PointId) (es : List Entry) → All (λ e. uncovers prev e ≡ false) es → any_uncovers prev es ≡ false
unfolding any_uncovers
none-uncovers prev [] h = refl
none-uncovers prev (e ∷ l) h = or_none (uncovers prev e) (any_uncovers prev l) h.0 (none-uncovers prev l h.1)

-- every kept entry lies in the domain of lists
abbrev pub InDomain : Book → Type 0
InDomain b = (k : Kept) → Memᴰ k b → is_state_ok (dag_point k.point k.status) ≡ true

-- the previous point, if kept, is certified
abbrev pub Covered : Option PointId → Book → Type 0
Covered prev b = (k : Kept) → Memᴰ k b → (not k.certified && is_id prev k.point.id) ≡ false

module _ (b : Book) (p : PointInfo) where
  pub no_state_out : InDomain b → (are_states_ok (direct_list b p) && are_states_ok (entries_in (indirect_list b p))) ≡ true
  no_state_out h =
      let kept : (k : Kept) → Memᴰ k b → StateOk (kept_entry b k) = λ k m. unfold kept_entry in h k m in
      and_both (are_states_ok (direct_list b p)) _ (all-states (direct_list b p) (each_direct StateOk b p (λ i. refl) kept))
      (all-states (entries_in (indirect_list b p)) (each_indirect StateOk b p (λ i. refl) kept))

  none-uncovered : Covered (prev_id p) b → uncovered (prev_id p) (direct_list b p) (indirect_list b p) ≡ false
  unfolding uncovered
  none-uncovered h =
      or_none (any_uncovers (prev_id p) (direct_list b p)) _
      (none-uncovers (prev_id p) (direct_list b p) (each_direct (λ e. uncovers (prev_id p) e ≡ false) b p lost kept))
      (none-uncovers (prev_id p) (entries_in (indirect_list b p)) (each_indirect (λ e. uncovers (prev_id p) e ≡ false) b p lost kept))
    where
      lost : (i : PointId) → uncovers (prev_id p) (entry_with b p i None) ≡ false
      lost i = unfold uncovers in not-and_self (is_id (prev_id p) i)

      kept : (k : Kept) → Memᴰ k b → uncovers (prev_id p) (kept_entry b k) ≡ false
      kept k m = unfold uncovers kept_entry in rw (dag_there k.point k.status, dag_id k.point k.status) (h k m)

-- marks that cover the previous point
module _ (prev : Option PointId) (covers : PointId → Bool) (own : (i : PointId) → is_id prev i ≡ true → covers i ≡ true) where
  pub prev-covers : (b : Book) → Covered prev (mark covers b)
  unfolding mark_one
  prev-covers b k m = let x = mark-member covers b k m in subst (λ (z : Kept). (not z.certified && is_id prev z.point.id) ≡ false) (sym x.1.1) (one x.0)
    where
      either : (a t u : Bool) → (u ≡ true → t ≡ true) → (not (a || t) && u) ≡ false
      either true t u f = refl
      either false t true f = rw (f refl)
      either false t false f = last-false (not t) false refl

      one : (x : Kept) → (not (x.certified || covers x.point.id) && is_id prev x.point.id) ≡ false
      one x = either x.certified (covers x.point.id) (is_id prev x.point.id) (own x.point.id)

-- ---- so demand 2 over the lists is the verdict

module _ (c : Settings) (required : Bool) (p : PointInfo) (b : Book) (d : InDomain b) (o : Distinct (book_ids b)) (v : Covered (prev_id p) b)
    (ri : rising (peers p.includes) ≡ true) (rwi : rising (peers p.witness) ≡ true) (two : 2 ≤ p.id.round) where
  pub clear : answer_over c required 3 p (direct_list b p) (indirect_list b p) ≡ Given (validate c required 3 p (direct_list b p) (indirect_list b p))
  unfolding answer_over
  clear = rw (no_state_out b p d, no_mismatch b p o ri rwi two, none-uncovered b p v)

-- of any two lists: a number, or the verdict
pub over-cases : (c : Settings) (required : Bool) (presence : ℕ) (p : PointInfo) (es : List Entry) (ts : List IndirectEntry) (P : JudgeAnswer → Type 0) →
    ((n : ℕ) → P (Number n)) → P (Given (validate c required presence p es ts)) → P (answer_over c required presence p es ts)
unfolding answer_over
over-cases c required presence p es ts P number given =
    go (are_states_ok es && are_states_ok (entries_in ts)) (mismatch presence p es ts) (uncovered (prev_id p) es ts)
  where
    go : (x y z : Bool) → P (pick x (pick y (Number 8) (pick z (Number 9) (Given (validate c required presence p es ts)))) (Number 7))
    go true true z = number 8
    go true false true = number 9
    go true false false = given
    go false y z = number 7
