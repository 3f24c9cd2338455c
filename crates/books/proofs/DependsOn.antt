-- What a point depends on, through its maps and links, stands in its lists, and what their entries record is what that records.
use Rattle.std.specs.Prelude.{Option, None, Some, option_map, is_some}
use Prim.Native.Nat.{ℕ, ◌+◌, ◌-◌, ◌≤◌}
use native.Mathlib.Omega.{arith}
use mathlib.Core.Path.{◌≡◌, refl, sym, ap, ◌∙◌, subst}
use mathlib.Core.Logic.{◌⊎◌, inl, inr}
use mathlib.Core.Bool.{Bool, true, false, ◌||◌, or-false}
use mathlib.Core.List.Memᴰ
use mathlib.Core.List.{List, [], ◌∷◌, ◌++◌, Memᴰ}
use lib.Dec.{T, leb, ltb, ltb→lt, lt→ltb}
use borrow.Author.Tests.{leb-false, lt-leb, eq-eqb, ne_eqb}
use Rattle.base.specs.Base.{pick}
use Rattle.base.proofs.Bool.{or_left, or_right}
use Rattle.base.proofs.Option.{none-some, some-none, unfound}
use Rattle.base.proofs.Impossible.{impossible}
use Rattle.map.specs.Rows.{Pair, rising, peers}
use Rattle.point.specs.Point.{PointId, Through, Includes, Witness, AnchorLink, Direct, Indirect, PointInfo, prev_digest, through, anchor_link}
use Rattle.point.specs.declared.data.AnchorStageRole.{AnchorStageRole}
use Rattle.point.specs.declared.data.AnchorStageRole.TheVariants.{Proof, Trigger}
use Rattle.schedule.specs.Settings.{Settings}
use Rattle.reasons.specs.Invalid.{InvalidDependency}
use Rattle.rules.specs.DagPoint.{Entry, IndirectEntry, entry_id, point_view}
use Rattle.rules.specs.Validate.{as_version, taken, record_of, direct_through}
use Rattle.rules.specs.Mismatch.{pair_id}
use Rattle.rules.proofs.Records.{NoneIn, taken_as, IsTaken, taken_record, target_record, IsRoot}
use Rattle.books.specs.Kept.{Status, Valid, TransInvalid, Invalid, IllFormed, Kept, Book, find_kept, mark_one, mark}
use Rattle.books.specs.Lists.{dag_point, is_of, kept_entry, entry_with, lookup, lookups, versions, direct_list, target_entry, is_trigger_first, indirect_list}
use Rattle.books.specs.FoundBook.{is_bad, DependsOn, IsRootOf}
use Rattle.books.proofs.Clear.{dag_id, lookup-id}
use Rattle.books.proofs.Find.{find-id, find-marked}
use Rattle.books.proofs.Dependencies.{witness-listed, includes-listed, includes-taken, witness-taken}

-- ---- the entries of what a point depends on

module _ (round : ℕ) (q : Pair) where
  includes-through : direct_through round (pair_id (round - 1) q) ≡ Includes q.peer
  includes-through = rw (eq-eqb (round - 1) (round - 1) refl)

  witness-through : 2 ≤ round → direct_through round (pair_id (round - 2) q) ≡ Witness q.peer
  witness-through h = rw (ne_eqb (round - 2) (round - 1) (λ e. omega arith))

module _ (b : Book) (p : PointInfo) where
  -- the entry of an indirect link's target
  abbrev target_of : AnchorStageRole → PointId → IndirectEntry
  target_of g i = record { role = g; entry = lookup b p i }

  abbrev both_targets : Bool → List IndirectEntry
  both_targets first =
      pick first
      (target_entry b p Trigger p.anchor_trigger ++ target_entry b p Proof p.anchor_proof)
      (target_entry b p Proof p.anchor_proof ++ target_entry b p Trigger p.anchor_trigger)

  target-listed : (g : AnchorStageRole) (i : PointId) (t : Through) → anchor_link g p ≡ Indirect i t → Memᴰ (target_of g i) (indirect_list b p)
  unfolding indirect_list
  target-listed g i t e = go g e (is_trigger_first p.anchor_proof p.anchor_trigger)
    where
      one : (h : AnchorStageRole) (l : AnchorLink) → l ≡ Indirect i t → Memᴰ (target_of h i) (target_entry b p h l)
      one h l f = subst (λ (x : AnchorLink). Memᴰ (target_of h i) (target_entry b p h x)) (sym f) (Memᴰ.head refl)

      go : (h : AnchorStageRole) → anchor_link h p ≡ Indirect i t → (first : Bool) → Memᴰ (target_of h i) (both_targets first)
      go Proof f true = Memᴰ.append_right (target_entry b p Trigger p.anchor_trigger) (one Proof p.anchor_proof f)
      go Proof f false = Memᴰ.append_left _ (one Proof p.anchor_proof f)
      go Trigger f true = Memᴰ.append_left _ (one Trigger p.anchor_trigger f)
      go Trigger f false = Memᴰ.append_right (target_entry b p Proof p.anchor_proof) (one Trigger p.anchor_trigger f)

  -- an entry is that of an indirect link's target
  abbrev IsTarget : IndirectEntry → Type 0
  IsTarget a = (g : AnchorStageRole) × (i : PointId) × (t : Through) × (anchor_link g p ≡ Indirect i t) × (a ≡ target_of g i)

  target-cases : (a : IndirectEntry) → Memᴰ a (indirect_list b p) → IsTarget a
  unfolding indirect_list
  target-cases a m = go (is_trigger_first p.anchor_proof p.anchor_trigger) m
    where
      one : (g : AnchorStageRole) (l : AnchorLink) → anchor_link g p ≡ l → Memᴰ a (target_entry b p g l) → IsTarget a
      one g (Direct t) e n = absurd (Memᴰ.not-nil n)
      one g (Indirect i t) e n = (g, i, t, e, Memᴰ.eq_of_singleton n)

      either : Memᴰ a (target_entry b p Proof p.anchor_proof) ⊎ Memᴰ a (target_entry b p Trigger p.anchor_trigger) → IsTarget a
      either (inl n) = one Proof p.anchor_proof refl n
      either (inr n) = one Trigger p.anchor_trigger refl n

      swapped : Memᴰ a (target_entry b p Trigger p.anchor_trigger) ⊎ Memᴰ a (target_entry b p Proof p.anchor_proof) → IsTarget a
      swapped (inl n) = either (inr n)
      swapped (inr n) = either (inl n)

      go : (first : Bool) → Memᴰ a (both_targets first) → IsTarget a
      go true n = swapped (Memᴰ.append_cases (target_entry b p Trigger p.anchor_trigger) n)
      go false n = either (Memᴰ.append_cases (target_entry b p Proof p.anchor_proof) n)

  -- an entry is that of one of a map's dependencies
  abbrev IsOneOf : ℕ → List Pair → Entry → Type 0
  IsOneOf round l e = (q : Pair) × Memᴰ q l × (e ≡ lookup b p (pair_id round q))

  lookups-cases : (round : ℕ) (l : List Pair) (e : Entry) → Memᴰ e (lookups b p round l) → IsOneOf round l e
  unfolding lookups
  lookups-cases round [] e m = absurd (Memᴰ.not-nil m)
  lookups-cases round (x ∷ l) e m = go (lookups-cases round l e) (Memᴰ.cases_cons m)
    where
      next : IsOneOf round l e → IsOneOf round (x ∷ l) e
      next (q, n, f) = (q, Memᴰ.tail n, f)

      go : (Memᴰ e (lookups b p round l) → IsOneOf round l e) → (e ≡ lookup b p (pair_id round x)) ⊎ Memᴰ e (lookups b p round l) → IsOneOf round (x ∷ l) e
      go rec (inl f) = (x, Memᴰ.head refl, f)
      go rec (inr n) = next (rec n)

  -- or of a version of the author's point, where the point has no previous one
  abbrev IsVersion : Entry → Type 0
  IsVersion e = (k : Kept) × (is_of (p.id.round - 1) p.id.author k ≡ true) × (prev_digest p ≡ None) × (e ≡ kept_entry b k)

  versions-cases : (l : List Kept) (e : Entry) → prev_digest p ≡ None → Memᴰ e (versions b (p.id.round - 1) p.id.author l) → IsVersion e
  unfolding versions
  versions-cases [] e h m = absurd (Memᴰ.not-nil m)
  versions-cases (k ∷ l) e h m = go (is_of (p.id.round - 1) p.id.author k) refl (versions-cases l e h) m
    where
      here : is_of (p.id.round - 1) p.id.author k ≡ true → (Memᴰ e (versions b (p.id.round - 1) p.id.author l) → IsVersion e) →
          (e ≡ kept_entry b k) ⊎ Memᴰ e (versions b (p.id.round - 1) p.id.author l) → IsVersion e
      here f rec (inl s) = (k, f, h, s)
      here f rec (inr n) = rec n

      go : (t : Bool) → is_of (p.id.round - 1) p.id.author k ≡ t → (Memᴰ e (versions b (p.id.round - 1) p.id.author l) → IsVersion e) →
          Memᴰ e (pick t (kept_entry b k ∷ versions b (p.id.round - 1) p.id.author l) (versions b (p.id.round - 1) p.id.author l)) → IsVersion e
      go true f rec n = here f rec (Memᴰ.cases_cons n)
      go false f rec n = rec n

  direct-cases : (e : Entry) → Memᴰ e (direct_list b p) →
      IsOneOf (p.id.round - 2) p.witness e ⊎ (IsOneOf (p.id.round - 1) p.includes e ⊎ IsVersion e)
  unfolding direct_list
  direct-cases e m = first (Memᴰ.append_cases (lookups b p (p.id.round - 2) p.witness) m)
    where
      own : (t : Bool) → is_some (prev_digest p) ≡ t → Memᴰ e (pick t [] (versions b (p.id.round - 1) p.id.author b)) → IsVersion e
      own true h n = absurd (Memᴰ.not-nil n)
      own false h n = versions-cases b e (unfound (prev_digest p) h) n

      second : Memᴰ e (lookups b p (p.id.round - 1) p.includes) ⊎ Memᴰ e (pick (is_some (prev_digest p)) [] (versions b (p.id.round - 1) p.id.author b)) →
          IsOneOf (p.id.round - 1) p.includes e ⊎ IsVersion e
      second (inl n) = inl (lookups-cases (p.id.round - 1) p.includes e n)
      second (inr n) = inr (own (is_some (prev_digest p)) refl n)

      first : Memᴰ e (lookups b p (p.id.round - 2) p.witness) ⊎
          Memᴰ e (lookups b p (p.id.round - 1) p.includes ++ pick (is_some (prev_digest p)) [] (versions b (p.id.round - 1) p.id.author b)) →
          IsOneOf (p.id.round - 2) p.witness e ⊎ (IsOneOf (p.id.round - 1) p.includes e ⊎ IsVersion e)
      first (inl n) = inl (lookups-cases (p.id.round - 2) p.witness e n)
      first (inr n) = inr (second (Memᴰ.append_cases (lookups b p (p.id.round - 1) p.includes) n))

-- a version is not taken as a dependency
version_apart : (b : Book) (p : PointInfo) (e : Entry) → IsVersion b p e → IsTaken (point_view p) (entry_id e.state) → ⊥
unfolding taken point_view kept_entry
version_apart b p e (k, own, unprevious, s) (is_prev_point, h) =
    go is_prev_point (sym (ap (λ (x : Entry). taken (point_view p) (entry_id x.state)) s ∙ rw (dag_id k.point k.status, own, unprevious)) ∙ h)
  where
    go : (t : Bool) → as_version ≡ taken_as t → ⊥
    go true f = impossible (cc)
    go false f = impossible (cc)

-- ---- what they record

module _ (c : Settings) (b : Book) (p : PointInfo) where
  -- what the entry of an id records, through t
  abbrev pub record_at : PointId → Through → Option InvalidDependency
  record_at i t = record_of c p.id.round (lookup b p i).certified t (lookup b p i).state

  looked_taken : (i : PointId) → IsTaken (point_view p) i → IsTaken (point_view p) (entry_id (lookup b p i).state)
  looked_taken i w = (w.0, ap (taken (point_view p)) (lookup-id b p i) ∙ w.1)

  looked_record : (i : PointId) → taken_record c p.id.round (lookup b p i) ≡ record_at i (direct_through p.id.round i)
  looked_record i = ap (λ (j : PointId). record_at i (direct_through p.id.round j)) (lookup-id b p i)

  includes_record : (q : Pair) → taken_record c p.id.round (lookup b p (pair_id (p.id.round - 1) q)) ≡ record_at (pair_id (p.id.round - 1) q) (Includes q.peer)
  includes_record q = looked_record _ ∙ ap (record_at (pair_id (p.id.round - 1) q)) (includes-through p.id.round q)

  target_record_lem : (g : AnchorStageRole) (i : PointId) (t : Through) → anchor_link g p ≡ Indirect i t → target_record c p (target_of b p g i) ≡ record_at i t
  target_record_lem g i t e = ap (λ (l : AnchorLink). record_at i (through l)) e

  module _ (rise : rising (peers p.includes) ≡ true) (second : 2 ≤ p.id.round) where
    witness_record : (q : Pair) → taken_record c p.id.round (lookup b p (pair_id (p.id.round - 2) q)) ≡ record_at (pair_id (p.id.round - 2) q) (Witness q.peer)
    witness_record q = looked_record _ ∙ ap (record_at (pair_id (p.id.round - 2) q)) (witness-through p.id.round q second)

    -- where no entry records, nothing that the point depends on does
    pub depends-none : ((e : Entry) → Memᴰ e (direct_list b p) → IsTaken (point_view p) (entry_id e.state) → taken_record c p.id.round e ≡ None) →
        NoneIn (target_record c p) (indirect_list b p) → (i : PointId) (t : Through) → DependsOn p i t → record_at i t ≡ None
    depends-none direct indirect i t (inl (inl (q, (m, (e, f))))) =
        rw (e, f) (sym (includes_record q) ∙ direct _ (includes-listed b p q m) (looked_taken _ (includes-taken p q rise m)))
    depends-none direct indirect i t (inl (inr (q, (m, (e, f))))) =
        rw (e, f) (sym (witness_record q) ∙ direct _ (witness-listed b p q m) (looked_taken _ (witness-taken p q second)))
    depends-none direct indirect i t (inr (g, e)) = sym (target_record_lem g i t e) ∙ indirect _ (target-listed b p g i t e)

    -- what an entry records is what something that the point depends on does
    abbrev Cause : InvalidDependency → Type 0
    Cause d = (i : PointId) × (t : Through) × DependsOn p i t × (record_at i t ≡ Some d)

    pub cause : (d : InvalidDependency) → IsRoot c p (direct_list b p) (indirect_list b p) d → Cause d
    cause d (inl (e, m, w, h)) = go (direct-cases b p e m)
      where
        go : IsOneOf b p (p.id.round - 2) p.witness e ⊎ (IsOneOf b p (p.id.round - 1) p.includes e ⊎ IsVersion b p e) → Cause d
        go (inl (q, n, s)) =
            (pair_id (p.id.round - 2) q, Witness q.peer, inl (inr (q, (n, (refl, refl)))), sym (witness_record q) ∙ (ap (taken_record c p.id.round) (sym s) ∙ h))
        go (inr (inl (q, n, s))) =
            (pair_id (p.id.round - 1) q, Includes q.peer, inl (inl (q, (n, (refl, refl)))), sym (includes_record q) ∙ (ap (taken_record c p.id.round) (sym s) ∙ h))
        go (inr (inr v)) = absurd (version_apart b p e v w)
    cause d (inr (a, m, h)) = go (target-cases b p a m)
      where
        go : IsTarget b p a → Cause d
        go (g, i, t, f, s) = (i, t, inr (g, f), sym (target_record_lem g i t f) ∙ (ap (target_record c p) (sym s) ∙ h))

-- ---- what a kept one records: it is bad, and has no mark

-- what a choice between none and one gives
unrecorded : (t : Bool) (d : InvalidDependency) → pick t None (Some d) ≡ None → t ≡ true
unrecorded true d h = refl
unrecorded false d h = some-none h

chosen : (t : Bool) (e d : InvalidDependency) → pick t None (Some e) ≡ Some d → (t ≡ false) × (e ≡ d)
chosen true e d h = none-some h
chosen false e d h = (refl, cc)

-- a root cause lies inside the window or is past it
inside : (a b : ℕ) → T (ltb a b) → leb b a ≡ false
inside a b h = lt-leb b a (ltb→lt a b h)

not_past : (a b : ℕ) → leb b a ≡ false → T (ltb a b)
not_past a b h = lt→ltb a b (leb-false b a h)

module _ (c : Settings) (round : ℕ) (certified : Bool) (t : Through) where
  abbrev is_past : InvalidDependency → Bool
  is_past e = leb (e.to.round + c.commit_history_rounds) (round - 1)

  pub bad-certified : (q : PointInfo) (s : Status) → T (is_bad c round s) → record_of c round certified t (dag_point q s) ≡ None → certified ≡ true
  unfolding record_of
  bad-certified q Valid bad h = absurd bad
  bad-certified q (TransInvalid e) bad h =
      sym (or-false certified)
      ∙ (ap (λ (x : Bool). certified || x) (sym (inside (round - 1) (e.to.round + c.commit_history_rounds) bad)) ∙ unrecorded (certified || is_past e) _ h)
  bad-certified q (Invalid n) bad h = unrecorded certified _ h
  bad-certified q (IllFormed n) bad h = absurd bad

  pub record RecordedBy (k : Kept) (d : InvalidDependency) : Type 0 where
    pub unmarked : certified ≡ false
    pub bad : T (is_bad c round k.status)
    pub through : d.through ≡ t
    pub root : IsRootOf k d k.status

  pub recorded-by : (k : Kept) (d : InvalidDependency) → record_of c round certified t (dag_point k.point k.status) ≡ Some d → RecordedBy k d
  unfolding record_of
  recorded-by k d h = go k.status refl h
    where
      go : (s : Status) → k.status ≡ s → record_of c round certified t (dag_point k.point s) ≡ Some d → RecordedBy k d
      go Valid e f = none-some f
      go (TransInvalid x) e f =
          let w = chosen (certified || is_past x) (record { to = x.to; reason = x.reason; through = t }) d f in
          record {
            unmarked = or_left certified (is_past x) w.0;
            bad = rw e (not_past (round - 1) (x.to.round + c.commit_history_rounds) (or_right certified (is_past x) w.0));
            through = ap (λ (y : InvalidDependency). y.through) (sym w.1);
            root = rw e (ap (λ (y : InvalidDependency). y.to) (sym w.1), ap (λ (y : InvalidDependency). y.reason) (sym w.1));
          }
      go (Invalid n) e f =
          let w = chosen certified (record { to = k.point.id; reason = n; through = t }) d f in
          record {
            unmarked = w.0;
            bad = rw e tt;
            through = ap (λ (y : InvalidDependency). y.through) (sym w.1);
            root = rw e (ap (λ (y : InvalidDependency). y.to) (sym w.1), ap (λ (y : InvalidDependency). y.reason) (sym w.1));
          }
      go (IllFormed n) e f = none-some f

-- ---- where those that a test covers are marked

module _ (c : Settings) (b : Book) (covers : PointId → Bool) (p : PointInfo) (i : PointId) (t : Through) where
  abbrev record_with : Option Kept → Option InvalidDependency
  record_with o = record_of c p.id.round (entry_with (mark covers b) p i o).certified t (entry_with (mark covers b) p i o).state

  looked_up : record_at c (mark covers b) p i t ≡ record_with (option_map (mark_one covers) (find_kept b i))
  unfolding lookup
  looked_up = ap record_with (find-marked covers b i)

  pub kept_record : (k : Kept) → find_kept b i ≡ Some k →
      record_at c (mark covers b) p i t ≡ record_of c p.id.round (k.certified || covers i) t (dag_point k.point k.status)
  unfolding kept_entry mark_one
  kept_record k f =
      looked_up
      ∙ (ap (λ (o : Option Kept). record_with (option_map (mark_one covers) o)) f
      ∙ ap (λ (j : PointId). record_of c p.id.round (k.certified || covers j) t (dag_point k.point k.status)) (find-id b i k f))

  -- one that is not kept records nothing
  pub recorded-kept : (d : InvalidDependency) → record_at c (mark covers b) p i t ≡ Some d → (k : Kept) × (find_kept b i ≡ Some k)
  unfolding record_of
  recorded-kept d h = go (find_kept b i) refl
    where
      go : (o : Option Kept) → find_kept b i ≡ o → (k : Kept) × (find_kept b i ≡ Some k)
      go None f = none-some (sym (looked_up ∙ ap (λ (o : Option Kept). record_with (option_map (mark_one covers) o)) f) ∙ h)
      go (Some k) f = (k, f)
