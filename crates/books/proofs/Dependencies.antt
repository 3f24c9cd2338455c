-- What it says of a point's dependencies that no check gave a reason: each is kept, not ill-formed, and passed every rule.
use Rattle.std.specs.Prelude.{Option, None, Some}
use Prim.Native.Nat.{ℕ, ◌-◌, ◌≤◌}
use native.Mathlib.Omega.{arith}
use mathlib.Core.Path.{◌≡◌, refl, sym, ap, ◌∙◌, subst}
use mathlib.Core.Logic.{◌⊎◌, inl, inr}
use mathlib.Core.Bool.{Bool, true, false, not, ◌&&◌}
use mathlib.Core.List.Memᴰ
use mathlib.Core.List.{List, [], ◌∷◌, Memᴰ}
use lib.Dec.{eqb}
use borrow.Author.Tests.{ltb-false, eqb-true, eq-eqb, ne_eqb, not-false}
use Rattle.base.proofs.Lists.{append-none}
use Rattle.base.proofs.Tables.{AllNone, all_none, row_none}
use Rattle.base.proofs.Impossible.{impossible}
use Rattle.map.specs.Rows.{Pair, rising, peers, get}
use Rattle.map.proofs.Pairs.{member-get, get-member}
use Rattle.point.specs.Point.{PointId, Through, Includes, Witness, PointInfo, is_anchor_proof, through_round, through_peer, digest_safe, prev_digest, through, anchor_link, source, target, top, same_id}
use Rattle.point.specs.declared.data.AnchorStageRole.{AnchorStageRole}
use Rattle.point.specs.declared.data.AnchorStageRole.TheVariants.{Proof, Trigger}
use Rattle.point.proofs.Ids.{same_eq, eq_same}
use Rattle.schedule.specs.Settings.{Settings}
use Rattle.rules.specs.DagPoint.{Entry, entry_id, is_dropped, link_ids, point_view, links_in, dep_view, top_in}
use Rattle.rules.specs.Validate.{newer_row, anchor_time_row, carried_row, source_row, anchor_rows, point_rows, Taken, taken}
use Rattle.rules.proofs.Records.{taken_as, IsTaken}
use Rattle.rules.specs.Passed.{RowsNone, EntryRowsNone}
use Rattle.rules.proofs.Passed.{by_position}
use Rattle.rules.specs.Mismatch.{pair_id}
use Rattle.books.specs.Kept.{Status, Valid, TransInvalid, Invalid, IllFormed, Kept, Book, find_kept}
use Rattle.books.specs.Lists.{dag_point, kept_entry, entry_with, lookup, lookups, direct_list}
use Rattle.books.specs.Following.{IsFormed}
use Rattle.books.proofs.Clear.{lookup-id}
use Rattle.books.proofs.Find.{find-id}
use Rattle.books.proofs.Following.{Inherited, HeldById, Linked}

-- ---- the direct list holds each dependency

lookups-member : (b : Book) (p : PointInfo) (round : ℕ) (l : List Pair) (q : Pair) → Memᴰ q l →
    Memᴰ (lookup b p (pair_id round q)) (lookups b p round l)
unfolding lookups
lookups-member b p round [] q m = absurd (Memᴰ.not-nil m)
lookups-member b p round (x ∷ l) q m = go (lookups-member b p round l q) (Memᴰ.cases_cons m)
  where
    go : (Memᴰ q l → Memᴰ (lookup b p (pair_id round q)) (lookups b p round l)) → (q ≡ x) ⊎ Memᴰ q l →
        Memᴰ (lookup b p (pair_id round q)) (lookup b p (pair_id round x) ∷ lookups b p round l)
    go f (inl e) = Memᴰ.head (ap (λ (z : Pair). lookup b p (pair_id round z)) e)
    go f (inr n) = Memᴰ.tail (f n)

module _ (b : Book) (p : PointInfo) (q : Pair) where
  pub witness-listed : Memᴰ q p.witness → Memᴰ (lookup b p (pair_id (p.id.round - 2) q)) (direct_list b p)
  unfolding direct_list
  witness-listed m = Memᴰ.append_left _ (lookups-member b p (p.id.round - 2) p.witness q m)

  pub includes-listed : Memᴰ q p.includes → Memᴰ (lookup b p (pair_id (p.id.round - 1) q)) (direct_list b p)
  unfolding direct_list
  includes-listed m =
      Memᴰ.append_right (lookups b p (p.id.round - 2) p.witness)
      (Memᴰ.append_left _ (lookups-member b p (p.id.round - 1) p.includes q m))

-- ---- how a dependency is taken: as the previous point or not

module _ (p : PointInfo) (q : Pair) where
  pub includes-taken : rising (peers p.includes) ≡ true → Memᴰ q p.includes → IsTaken (point_view p) (pair_id (p.id.round - 1) q)
  unfolding taken point_view
  includes-taken r m = go (eqb q.peer p.id.author) refl
    where
      own : p.id.author ≡ q.peer → prev_digest p ≡ Some q.digest
      own e = unfold prev_digest in (ap (get p.includes) e ∙ member-get p.includes q r m)

      go : (t : Bool) → eqb q.peer p.id.author ≡ t → IsTaken (point_view p) (pair_id (p.id.round - 1) q)
      go true h = (true, rw (eq-eqb (p.id.round - 1) (p.id.round - 1) refl, h, own (sym (eqb-true _ _ h)), eq-eqb q.digest q.digest refl))
      go false h = (false, rw (eq-eqb (p.id.round - 1) (p.id.round - 1) refl, h))

  pub witness-taken : 2 ≤ p.id.round → IsTaken (point_view p) (pair_id (p.id.round - 2) q)
  unfolding taken point_view
  witness-taken h = (false, rw (ne_eqb (p.id.round - 2) (p.id.round - 1) (λ e. omega arith)))

-- ---- a dependency that no check gave a reason against

record Clean (c : Settings) (b : Book) (p : PointInfo) (required : Bool) (i : PointId) : Type 0 where
  pub entry : Kept
  pub kept : find_kept b i ≡ Some entry
  pub formed : IsFormed entry.status
  pub is_prev_point : Bool
  pub rows : AllNone (point_rows c required is_prev_point (point_view p) (dep_view entry.point))

module _ (c : Settings) (b : Book) (p : PointInfo) (required : Bool) where
  clean-state : (is_prev_point : Bool) (i : PointId) → RowsNone c required is_prev_point (point_view p) (lookup b p i).state → Clean c b p required i
  unfolding lookup kept_entry
  clean-state is_prev_point i h = go (find_kept b i) refl h
    where
      of : (k : Kept) → find_kept b i ≡ Some k → (s : Status) → k.status ≡ s → RowsNone c required is_prev_point (point_view p) (dag_point k.point s) → Clean c b p required i
      of k f Valid e r = record { entry = k; kept = f; formed = λ m q. impossible (cc); is_prev_point = is_prev_point; rows = by_position _ r }
      of k f (TransInvalid d) e r = record { entry = k; kept = f; formed = λ m q. impossible (cc); is_prev_point = is_prev_point; rows = by_position _ r }
      of k f (Invalid n) e r = record { entry = k; kept = f; formed = λ m q. impossible (cc); is_prev_point = is_prev_point; rows = by_position _ r }
      of k f (IllFormed n) e r = absurd r

      go : (o : Option Kept) → find_kept b i ≡ o → RowsNone c required is_prev_point (point_view p) (entry_with b p i o).state → Clean c b p required i
      go None f r = absurd r
      go (Some k) f r = of k f k.status refl r

  taken-rows : (is_prev_point : Bool) (e : Entry) → EntryRowsNone c required (point_view p) (taken_as is_prev_point) e → RowsNone c required is_prev_point (point_view p) e.state
  taken-rows true e h = h
  taken-rows false e h = h

  clean : (i : PointId) → IsTaken (point_view p) i → EntryRowsNone c required (point_view p) (taken (point_view p) (entry_id (lookup b p i).state)) (lookup b p i) → Clean c b p required i
  clean i w h =
      let e : taken (point_view p) (entry_id (lookup b p i).state) ≡ taken_as w.0 = ap (taken (point_view p)) (lookup-id b p i) ∙ w.1 in
      clean-state w.0 i (taken-rows w.0 (lookup b p i) (subst (λ (t : Taken). EntryRowsNone c required (point_view p) t (lookup b p i)) e h))

-- ---- what its rules say

links-target : (g : AnchorStageRole) (p : PointInfo) → (links_in g (point_view p)).target ≡ target g p
unfolding point_view link_ids
links-target Proof p = refl
links-target Trigger p = refl

links-source : (g : AnchorStageRole) (p : PointInfo) → (links_in g (point_view p)).source ≡ source g p
unfolding point_view link_ids
links-source Proof p = refl
links-source Trigger p = refl

top_in_lem : (g : AnchorStageRole) (q : PointInfo) → top_in g (dep_view q) ≡ top g q
unfolding dep_view
top_in_lem Proof q = refl
top_in_lem Trigger q = refl

dep_id : (q : PointInfo) → (dep_view q).id ≡ q.id
unfolding dep_view
dep_id q = refl

-- a dependency of the same id as a link's source has the link's target for its top
module _ (g : AnchorStageRole) (p q : PointInfo) where
  source_row_lem : q.id ≡ source g p → source_row g (point_view p) (dep_view q) ≡ [] → (top g q ≡ target g p) × (carried_row g (point_view p) (dep_view q) ≡ [])
  unfolding source_row
  source_row_lem e h =
      let here : same_id (dep_view q).id (links_in g (point_view p)).source ≡ true = eq_same _ _ (dep_id q ∙ (e ∙ sym (links-source g p))) in
      let n = append-none _ _ (rw here at h) in
      (sym (top_in_lem g q) ∙ (same_eq _ _ (not-false _ (row_none _ _ n.0)) ∙ links-target g p), n.1)

second-of-two : (a b : Bool) → a ≡ true → (a && b) ≡ false → b ≡ false
second-of-two true b e h = h
second-of-two false b e h = impossible (cc)

inherits : (g : AnchorStageRole) (p q : PointInfo) → carried_row g (point_view p) (dep_view q) ≡ [] → Inherited g p q
unfolding carried_row anchor_time_row point_view dep_view
inherits Proof p q h =
    λ r. eqb-true _ _ (not-false _ (second-of-two (not (is_anchor_proof p.role)) (not (eqb q.anchor_time p.anchor_time)) (rw r) (row_none _ _ h)))
inherits Trigger p q h = tt

module _ (c : Settings) (b : Book) (p : PointInfo) (required : Bool) (i : PointId) (w : Clean c b p required i) where
  newer-none : (g : AnchorStageRole) → newer_row g (point_view p) (dep_view w.entry.point) ≡ []
  unfolding point_rows
  newer-none Proof = w.rows.1.1.0
  newer-none Trigger = w.rows.1.1.1.0

  anchors_none : AllNone (anchor_rows c (point_view p) (dep_view w.entry.point))
  unfolding point_rows
  anchors_none = all_none (anchor_rows c (point_view p) (dep_view w.entry.point)) w.rows.1.1.1.1.0

  source-none : (g : AnchorStageRole) → source_row g (point_view p) (dep_view w.entry.point) ≡ []
  unfolding anchor_rows
  source-none Proof = anchors_none.1.1.0
  source-none Trigger = anchors_none.1.1.1.0

  held : HeldById b p i
  unfolding newer_row
  held =
      record {
        entry = w.entry;
        kept = w.kept;
        formed = w.formed;
        topped = λ g. rw (← links-target g p, ← top_in_lem g w.entry.point) (ltb-false _ _ (row_none _ _ (newer-none g)));
      }

  linked : (g : AnchorStageRole) → i ≡ source g p → Linked b p g
  linked g e =
      let s = source_row_lem g p w.entry.point (find-id b i w.entry w.kept ∙ e) (source-none g) in
      record {
        entry = w.entry;
        kept = ap (find_kept b) (sym e) ∙ w.kept;
        formed = w.formed;
        leads = s.0;
        inherited = inherits g p w.entry.point s.1;
      }

-- ---- of a point whose direct list gave no reason

module _ (c : Settings) (b : Book) (p : PointInfo) (required : Bool) (rise : rising (peers p.includes) ≡ true) (second : 2 ≤ p.id.round)
    (passed : (e : Entry) → Memᴰ e (direct_list b p) → (is_dropped e.state ≡ false) × EntryRowsNone c required (point_view p) (taken (point_view p) (entry_id e.state)) e) where
  includes-clean : (q : Pair) → Memᴰ q p.includes → Clean c b p required (pair_id (p.id.round - 1) q)
  includes-clean q m =
      clean c b p required (pair_id (p.id.round - 1) q) (includes-taken p q rise m) (passed _ (includes-listed b p q m)).1

  witness-clean : (q : Pair) → Memᴰ q p.witness → Clean c b p required (pair_id (p.id.round - 2) q)
  witness-clean q m =
      clean c b p required (pair_id (p.id.round - 2) q) (witness-taken p q second) (passed _ (witness-listed b p q m)).1

  -- what a link goes through is a dependency
  through-clean : (t : Through) (d : ℕ) → digest_safe p t ≡ Some d →
      Clean c b p required (record { round = through_round t p.id.round; digest = d; author = through_peer t })
  unfolding digest_safe
  through-clean (Includes x) d h = includes-clean (record { peer = x; digest = d }) (get-member p.includes x d h)
  through-clean (Witness x) d h = witness-clean (record { peer = x; digest = d }) (get-member p.witness x d h)

  pub includes-held : (q : Pair) → Memᴰ q p.includes → HeldById b p (pair_id (p.id.round - 1) q)
  includes-held q m = held c b p required (pair_id (p.id.round - 1) q) (includes-clean q m)

  pub witness-held : (q : Pair) → Memᴰ q p.witness → HeldById b p (pair_id (p.id.round - 2) q)
  witness-held q m = held c b p required (pair_id (p.id.round - 2) q) (witness-clean q m)

  pub source-linked : (g : AnchorStageRole) (d : ℕ) → digest_safe p (through (anchor_link g p)) ≡ Some d → Linked b p g
  unfolding source
  source-linked g d h = linked c b p required _ (through-clean (through (anchor_link g p)) d h) g (rw h)
