-- The verdict over a list whose entries of one point are marked certified.
use Rattle.std.specs.Prelude.{Option, None, Some, option_map, unwrap_or}
use Prim.Native.Nat.{ℕ, ◌-◌, ◌<◌}
use native.Mathlib.Omega.{arith}
use mathlib.Core.Path.{◌≡◌, refl, sym, ap, ◌∙◌, subst}
use mathlib.Core.Logic.{◌⊎◌, inl, inr}
use mathlib.Core.Bool.{Bool, true, false, not, ◌&&◌, ◌||◌}
use mathlib.Core.List.Memᴰ
use mathlib.Core.List.{List, [], ◌∷◌, map, Memᴰ}
use lib.Dec.{eqb}
use borrow.Author.Tests.{eqb-true}
use Rattle.base.specs.Base.{pick, is_empty, last_of}
use Rattle.base.proofs.Bool.{clash, and_left, and_right, or_second, or_rest}
use Rattle.base.proofs.Option.{none-some}
use Rattle.base.proofs.Impossible.{impossible}
use Rattle.point.specs.Point.{PointId, Through, Includes, Witness, AnchorLink, Direct, Indirect, PointInfo, prev_id, prev_digest, anchor_link, through_round, same_id}
use Rattle.point.specs.declared.data.AnchorStageRole.{AnchorStageRole}
use Rattle.point.specs.declared.data.PointMap.TheVariants as map_of
use Rattle.point.proofs.Ids.{same_eq, eq_same}
use Rattle.schedule.specs.Settings.{Settings}
use Rattle.reasons.specs.Invalid.{NoRoundInDag, InvalidDependency}
use Rattle.reasons.specs.Verdict as verdict
use Rattle.rules.specs.DagPoint.{DagPoint, Valid, TransInvalid, Invalid, IllFormed, NotFound, Dropped, Entry, IndirectEntry, entry_id, is_dropped, is_by, point_view}
use Rattle.rules.specs.List.{Listed, directs, indirects}
use Rattle.rules.specs.Mismatch.{is_target_of, all_targets, mismatch, uncovered}
use Rattle.rules.specs.Validate.{as_dependency, as_version, taken_own, taken, result_with, over_lists, validate}
use Rattle.rules.specs.Judge.{JudgeAnswer, Number, Given, over_entries}
use Rattle.rules.specs.Passed.{has_reason}
use Rattle.rules.specs.AnyOrder.{IsCause, came_through}
use Rattle.rules.specs.Cleared.{is_of, with_mark}
use Rattle.rules.proofs.Folds.{direct_trail, direct_record, indirect_trail, indirect_record, lists_apart}
use Rattle.rules.proofs.Passed.{lists-silent, validate-lists}
use Rattle.rules.proofs.Records.{taken_as, record_taken}
use Rattle.rules.proofs.Greatest.{join_all, earliest, all-absent}
use Rattle.rules.proofs.Brought.{record_for, record_brings}
use Rattle.rules.proofs.Joined.{judging_records}
use Rattle.rules.proofs.Given.{Ordered, recorded_row}
use Rattle.rules.proofs.AnyOrder.{no_record, member_middle}
use Rattle.rules.proofs.Marks.{unmarked}
use Rattle.rules.proofs.Marked.{directs-marked, indirects-marked, mismatch-marked, covered-marked, NoVersion, trail-marked, target_trail}

-- ---- records

module _ (c : Settings) (required : Bool) (p : PointInfo) where
  -- an entry that records is not a dropped one
  pub recording-kept : (x : Listed) (d : InvalidDependency) → record_for c required p x ≡ Some d → is_dropped x.entry.state ≡ false
  recording-kept x d h = go x.entry.state (record_brings c required p x d h).2
    where
      go : (s : DagPoint) → IsCause c p (came_through p x.aim (entry_id x.entry.state)) s d → is_dropped s ≡ false
      go (Valid q) f = refl
      go (TransInvalid q root n) f = refl
      go (Invalid q n) f = refl
      go (IllFormed i n) f = refl
      go (NotFound i) f = refl
      go Dropped f = absurd f

  pub recording_is : (i : PointId) (x : Listed) (d : InvalidDependency) → record_for c required p x ≡ Some d → entry_id x.entry.state ≡ i → is_of i x.entry ≡ true
  recording_is i x d h e = rw (recording-kept x d h) (eq_same (entry_id x.entry.state) i e)

  -- marked, an entry of the point records nothing; and one of another point what it did
  pub marked_none : (i : PointId) (x : Listed) → is_of i x.entry ≡ true → record_for c required p (with_mark i x) ≡ None
  marked_none i x e = go (record_for c required p (with_mark i x)) refl
    where
      go : (o : Option InvalidDependency) → record_for c required p (with_mark i x) ≡ o → o ≡ None
      go None h = refl
      go (Some d) h = clash (x.entry.certified || is_of i x.entry) (or_second x.entry.certified (is_of i x.entry) e) (record_brings c required p (with_mark i x) d h).1

  pub marked_other : (i : PointId) (x : Listed) → is_of i x.entry ≡ false → record_for c required p (with_mark i x) ≡ record_for c required p x
  marked_other i x e = ap (record_for c required p) (unmarked i x e)

-- ---- no version of the author's point is the point of an entry that records

each-target : (p : PointInfo) (ts : List IndirectEntry) (proof trigger : Bool) → all_targets p proof trigger ts ≡ true → (a : IndirectEntry) → Memᴰ a ts →
    is_target_of (anchor_link a.role p) a.entry.state ≡ true
unfolding all_targets
each-target p [] proof trigger h a m = absurd (Memᴰ.not-nil m)
each-target p (x ∷ l) proof trigger h a m = go (Memᴰ.cases_cons m) (each-target p l _ _ (and_right (is_target_of (anchor_link x.role p) x.entry.state && _) _ h) a)
  where
    go : (a ≡ x) ⊎ Memᴰ a l → (Memᴰ a l → is_target_of (anchor_link a.role p) a.entry.state ≡ true) → is_target_of (anchor_link a.role p) a.entry.state ≡ true
    go (inl e) f = rw e (and_left (is_target_of (anchor_link x.role p) x.entry.state) _ (and_left (is_target_of (anchor_link x.role p) x.entry.state && _) _ h))
    go (inr n) f = f n

listed-target : (l : List Listed) (x : Listed) (g : AnchorStageRole) → Memᴰ x l → x.aim ≡ Some g → Memᴰ (record { role = g; entry = x.entry }) (indirects l)
unfolding indirects
listed-target [] x g m e = absurd (Memᴰ.not-nil m)
listed-target (y ∷ l) x g m e = go (Memᴰ.cases_cons m) (λ n. listed-target l x g n e)
  where
    later : (o : Option AnchorStageRole) → Memᴰ (record { role = g; entry = x.entry }) (indirects l) →
        Memᴰ (record { role = g; entry = x.entry }) (unwrap_or (option_map (λ k. record { role = k; entry = y.entry } ∷ indirects l) o) (indirects l))
    later None n = n
    later (Some k) n = Memᴰ.tail n

    go : (x ≡ y) ⊎ Memᴰ x l → (Memᴰ x l → Memᴰ (record { role = g; entry = x.entry }) (indirects l)) →
        Memᴰ (record { role = g; entry = x.entry }) (unwrap_or (option_map (λ k. record { role = k; entry = y.entry } ∷ indirects l) y.aim) (indirects l))
    go (inl q) f =
        let a : y.aim ≡ Some g = sym (ap (λ (z : Listed). z.aim) q) ∙ e in
        rw a (Memᴰ.head (ap (λ (z : Listed). record { role = g; entry = z.entry }) q))
    go (inr n) f = later y.aim (f n)

-- "a version of the author at r−1" stands at r−1, by the author
version-round : (p : PointInfo) (i : PointId) → taken (point_view p) i ≡ as_version → i.round ≡ p.id.round - 1
unfolding taken point_view
version-round p i h = go (is_by (p.id.round - 1) p.id.author i) refl h
  where
    go : (b : Bool) → is_by (p.id.round - 1) p.id.author i ≡ b → pick b (taken_own i (prev_digest p)) as_dependency ≡ as_version → i.round ≡ p.id.round - 1
    go true e k = eqb-true _ _ (and_left (eqb i.round (p.id.round - 1)) _ e)
    go false e k = impossible (cc)

-- verification passed: an indirect link's target lies below the round that the link goes through
abbrev pub TargetsBelow : PointInfo → Type 0
TargetsBelow p = (g : AnchorStageRole) (to : PointId) (t : Through) → anchor_link g p ≡ Indirect to t → to.round < through_round t p.id.round

module _ (c : Settings) (required : Bool) (p : PointInfo) (below : TargetsBelow p) (l : List Listed) (named : all_targets p false false (indirects l) ≡ true) where
  target-lower : (g : AnchorStageRole) (k : AnchorLink) → anchor_link g p ≡ k → (s : DagPoint) → is_dropped s ≡ false → is_target_of k s ≡ true →
      (entry_id s).round < p.id.round - 1
  target-lower g (Direct t) e s d h = impossible (cc)
  target-lower g (Indirect to t) e s d h =
      let i : entry_id s ≡ to = same_eq (entry_id s) to (sym (or_rest (is_dropped s) (same_id (entry_id s) to) d) ∙ h) in
      let r : (entry_id s).round ≡ to.round = ap (λ (j : PointId). j.round) i in
      rw r (go t (below g to t e))
    where
      go : (t : Through) → to.round < through_round t p.id.round → to.round < p.id.round - 1
      go (Includes x) w = let k : to.round < p.id.round - 1 = w in omega arith
      go (Witness x) w = let k : to.round < p.id.round - 2 = w in omega arith

  pub never_version : (x : Listed) (d : InvalidDependency) → Memᴰ x l → record_for c required p x ≡ Some d →
      taken (point_view p) (entry_id x.entry.state) ≡ as_version → ⊥
  never_version x d m h v = go x.aim refl h
    where
      direct : (b : Bool) → taken (point_view p) (entry_id x.entry.state) ≡ taken_as b → ⊥
      direct true e = impossible (cc)
      direct false e = impossible (cc)

      go : (o : Option AnchorStageRole) → x.aim ≡ o → record_for c required p (record { aim = o; entry = x.entry; size = x.size }) ≡ Some d → ⊥
      go None e k = let w = record_taken c required (point_view p) x.entry d k in direct w.0 w.1
      go (Some g) e k =
          let t = each-target p (indirects l) false false named _ (listed-target l x g m e) in
          let w = target-lower g (anchor_link g p) refl x.entry.state (recording-kept c required p x d h) t in
          let r = version-round p (entry_id x.entry.state) v in
          absurd (omega arith)

-- ---- verdicts

-- what a verdict over lists says of numbers 8 and 9
pub record Passing (c : Settings) (required : Bool) (presence : ℕ) (p : PointInfo) (l : List Listed) (v : verdict.Verdict) : Type 0 where
  pub matched : mismatch presence p (directs l) (indirects l) ≡ false
  pub covered : uncovered (prev_id p) (directs l) (indirects l) ≡ false
  pub is : validate c required presence p (directs l) (indirects l) ≡ v

member-mapped : {A B : Type 0} (f : A → B) (l : List A) (x : A) → Memᴰ x l → Memᴰ (f x) (map f l)
member-mapped f [] x m = absurd (Memᴰ.not-nil m)
member-mapped f (y ∷ l) x m = go (Memᴰ.cases_cons m) (member-mapped f l x)
  where
    go : (x ≡ y) ⊎ Memᴰ x l → (Memᴰ x l → Memᴰ (f x) (map f l)) → Memᴰ (f x) (f y ∷ map f l)
    go (inl e) g = Memᴰ.head (ap f e)
    go (inr n) g = Memᴰ.tail (g n)

mapped-member : {A B : Type 0} (f : A → B) (l : List A) (y : B) → Memᴰ y (map f l) → (x : A) × Memᴰ x l × (y ≡ f x)
mapped-member f [] y m = absurd (Memᴰ.not-nil m)
mapped-member f (x ∷ l) y m = go (Memᴰ.cases_cons m) (mapped-member f l y)
  where
    go : (y ≡ f x) ⊎ Memᴰ y (map f l) → (Memᴰ y (map f l) → (z : _) × Memᴰ z l × (y ≡ f z)) → (z : _) × Memᴰ z (x ∷ l) × (y ≡ f z)
    go (inl e) g = (x, Memᴰ.head refl, e)
    go (inr n) g = let w = g n in (w.0, Memᴰ.tail w.1, w.2)

none-joined : {A : Type 0} (f : A → Option InvalidDependency) (l : List A) → ((x : A) → Memᴰ x l → f x ≡ None) → join_all f None l ≡ None
none-joined {A} f l h = go (join_all f None l) refl
  where
    go : (o : Option InvalidDependency) → join_all f None l ≡ o → o ≡ None
    go None e = refl
    go (Some d) e =
        let w = earliest f d l e in
        none-some (sym (h w.entry (subst (Memᴰ w.entry) (sym w.place) (member_middle w.before w.entry w.after))) ∙ w.brings)

module _ (c : Settings) (required : Bool) (presence : ℕ) (p : PointInfo) where
  abbrev pub over : List Listed → JudgeAnswer
  over l = over_entries c required presence p (directs l) (indirects l)

  pub passing : (l : List Listed) (v : verdict.Verdict) → over l ≡ Given v → Passing c required presence p l v
  passing l v = go (mismatch presence p (directs l) (indirects l)) refl (uncovered (prev_id p) (directs l) (indirects l)) refl
    where
      go : (m : Bool) → mismatch presence p (directs l) (indirects l) ≡ m → (u : Bool) → uncovered (prev_id p) (directs l) (indirects l) ≡ u →
          pick m (Number 8) (pick u (Number 9) (Given (validate c required presence p (directs l) (indirects l)))) ≡ Given v → Passing c required presence p l v
      go true e u f h = impossible (cc)
      go false e true f h = impossible (cc)
      go false e false f h = record { matched = e; covered = f; is = cc }

  module _ (l : List Listed) (v : verdict.Verdict) (w : Passing c required presence p l v) (k : has_reason v ≡ false) where
    no-reason : has_reason (validate c required presence p (directs l) (indirects l)) ≡ false
    no-reason = ap has_reason w.is ∙ k

    pub silent_trails : (direct_trail c required (point_view p) false (directs l) ≡ []) × (indirect_trail c p (indirects l) ≡ [])
    silent_trails =
        lists-silent c required p (directs l) (indirects l)
        (ap has_reason (sym (validate-lists c required p (directs l) (indirects l) presence no-reason)) ∙ no-reason)

    pub record_is : Ordered l → v ≡ result_with None (join_all (record_for c required p) None l)
    record_is o =
        sym w.is ∙ judging_records c required presence p l no-reason ∙ ap (result_with None) (recorded_row c required p l silent_trails.0 o)

  -- of other entries the verdict is that over the lists too
  validate-other : (es es' : List Entry) (ts ts' : List IndirectEntry) → has_reason (validate c required presence p es ts) ≡ false →
      validate c required presence p es' ts' ≡ over_lists c required p es' ts'
  unfolding validate
  validate-other es es' ts ts' = go (eqb presence 0) (eqb presence 1) (eqb presence 2 && not (is_empty p.witness))
    where
      go : (x y z : Bool) →
          has_reason
          (pick x (verdict.Invalid (NoRoundInDag map_of.Evidence))
          (pick y (verdict.Invalid (NoRoundInDag map_of.Includes)) (pick z (verdict.Invalid (NoRoundInDag map_of.Witness)) (over_lists c required p es ts))))
          ≡ false →
          pick x (verdict.Invalid (NoRoundInDag map_of.Evidence))
          (pick y (verdict.Invalid (NoRoundInDag map_of.Includes)) (pick z (verdict.Invalid (NoRoundInDag map_of.Witness)) (over_lists c required p es' ts')))
          ≡ over_lists c required p es' ts'
      go true y z k = impossible (cc)
      go false true z k = impossible (cc)
      go false false true k = impossible (cc)
      go false false false k = refl

  quiet-over : (es : List Entry) (ts : List IndirectEntry) → direct_trail c required (point_view p) false es ≡ [] → indirect_trail c p ts ≡ [] →
      has_reason (over_lists c required p es ts) ≡ false
  unfolding last_of
  quiet-over es ts d t = rw (lists_apart c p ts required es, d, t) (go (indirect_record c p (direct_record c required (point_view p) None es) ts))
    where
      go : (o : Option InvalidDependency) → has_reason (result_with None o) ≡ false
      go None = refl
      go (Some d) = refl

  -- no reason comes in by a mark, and where no entry then records, the verdict is Valid
  module _ (i : PointId) (l : List Listed) (v : verdict.Verdict) (w : Passing c required presence p l v) (k : has_reason v ≡ false) where
    abbrev marked_list : List Listed
    marked_list = map (with_mark i) l

    marked-trail : ((e : Entry) → Memᴰ e (directs l) → NoVersion i (point_view p) e) → direct_trail c required (point_view p) false (directs marked_list) ≡ []
    marked-trail f = rw (directs-marked i l) (trail-marked i c required (point_view p) (directs l) (silent_trails l v w k).0 f)

    marked-quiet : ((e : Entry) → Memᴰ e (directs l) → NoVersion i (point_view p) e) → has_reason (validate c required presence p (directs marked_list) (indirects marked_list)) ≡ false
    marked-quiet f =
        ap has_reason (validate-other (directs l) (directs marked_list) (indirects l) (indirects marked_list) (no-reason l v w k))
        ∙ quiet-over (directs marked_list) (indirects marked_list) (marked-trail f)
        (rw (indirects-marked i l) (target_trail i c p (indirects l) ∙ (silent_trails l v w k).1))

    pub marked_valid : ((e : Entry) → Memᴰ e (directs l) → NoVersion i (point_view p) e) → Ordered marked_list →
        ((x : Listed) → Memᴰ x l → record_for c required p (with_mark i x) ≡ None) → over marked_list ≡ Given verdict.Valid
    marked_valid f o n =
        let m : mismatch presence p (directs marked_list) (indirects marked_list) ≡ false =
        rw (directs-marked i l, indirects-marked i l) (mismatch-marked i presence p (directs l) (indirects l) ∙ w.matched)
        in
        let u : uncovered (prev_id p) (directs marked_list) (indirects marked_list) ≡ false =
        rw (directs-marked i l, indirects-marked i l) (covered-marked i (prev_id p) (directs l) (indirects l) w.covered)
        in
        let j = none-joined (record_for c required p) marked_list (λ y z.
        (let q = mapped-member (with_mark i) l y z in ap (record_for c required p) q.2 ∙ n q.0 q.1))
        in
        let r : validate c required presence p (directs marked_list) (indirects marked_list) ≡ verdict.Valid =
        judging_records c required presence p marked_list (marked-quiet f)
        ∙ ap (result_with None) (recorded_row c required p marked_list (marked-trail f) o ∙ j)
        in
        rw (m, u) (ap Given r)

  -- where the verdict is then Valid, no entry records once marked
  pub valid_none : (i : PointId) (l : List Listed) → Ordered (map (with_mark i) l) → over (map (with_mark i) l) ≡ Given verdict.Valid →
      (x : Listed) → Memᴰ x l → record_for c required p (with_mark i x) ≡ None
  valid_none i l o h x m =
      let w = passing (map (with_mark i) l) verdict.Valid h in
      let r = record_is (map (with_mark i) l) verdict.Valid w refl o in
      all-absent (record_for c required p) (map (with_mark i) l)
      (no_record (join_all (record_for c required p) None (map (with_mark i) l)) (sym r))
      (with_mark i x)
      (member-mapped (with_mark i) l x m)
