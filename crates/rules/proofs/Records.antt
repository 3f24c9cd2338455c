-- Laws on recorded root causes: a point's record is that of one of its entries, and where it has none no entry has one.
use Rattle.std.specs.Prelude.{Option, None, Some}
use Prim.Native.Nat.{ℕ}
use lib.Dec.{eqb}
use mathlib.Core.Path.{◌≡◌, refl, ap, sym, ◌∙◌, subst}
use mathlib.Core.Logic.{◌⊎◌, inl, inr}
use mathlib.Core.Bool.{Bool, true, false, not, ◌&&◌}
use mathlib.Core.List.Memᴰ
use mathlib.Core.List.{List, [], ◌∷◌, Memᴰ}
use Rattle.base.specs.Base.{pick, last_of, is_empty}
use Rattle.base.proofs.Option.{none-some}
use Rattle.base.proofs.Impossible.{impossible}
use Rattle.point.specs.Point.{PointId, PointInfo, through, anchor_link}
use Rattle.point.specs.declared.data.PointMap.TheVariants as map
use Rattle.schedule.specs.Settings.{Settings}
use Rattle.reasons.specs.Invalid.{InvalidReason, NoRoundInDag, InvalidDependency}
use Rattle.reasons.specs.Verdict as verdict
use Rattle.reasons.specs.Verdict.{Verdict}
use Rattle.rules.specs.DagPoint.{Entry, IndirectEntry, entry_id, is_dropped, PointView, point_view}
use Rattle.rules.specs.Validate.{Taken, as_dependency, as_prev_point, as_version, aside, taken, record_of, join, direct_through, dependency, findings_as, entry_findings, indirect_findings, result_with, over_lists, validate}
use Rattle.rules.proofs.Joins.{join-absent, join_one}
use Rattle.rules.proofs.Folds.{direct_trail, direct_record, indirect_trail, indirect_record, lists_apart}
use Rattle.rules.specs.Passed.{has_reason}
use Rattle.rules.proofs.Passed.{validate-all}

-- ---- one of a list

-- what all elements lack, and what one has, by what each records
abbrev pub NoneIn : {A : Type 0} → (A → Option InvalidDependency) → List A → Type 0
NoneIn {A} f l = (x : A) → Memᴰ x l → f x ≡ None

abbrev OneIn : {A : Type 0} → (A → Option InvalidDependency) → List A → InvalidDependency → Type 0
OneIn {A} f l d = (x : A) × Memᴰ x l × (f x ≡ Some d)

module _ {A : Type 0} (f : A → Option InvalidDependency) (x : A) (l : List A) where
  none_more : f x ≡ None → NoneIn f l → NoneIn f (x ∷ l)
  none_more h g y m = go (Memᴰ.cases_cons m)
    where
      go : (y ≡ x) ⊎ Memᴰ y l → f y ≡ None
      go (inl e) = ap f e ∙ h
      go (inr n) = g y n

  one_more : (old : Option InvalidDependency) (d : InvalidDependency) → (join old (f x) ≡ Some d) ⊎ OneIn f l d → (old ≡ Some d) ⊎ OneIn f (x ∷ l) d
  one_more old d (inl h) = go (join_one old (f x) d h)
    where
      go : (old ≡ Some d) ⊎ (f x ≡ Some d) → (old ≡ Some d) ⊎ OneIn f (x ∷ l) d
      go (inl e) = inl e
      go (inr e) = inr (x, Memᴰ.head refl, e)
  one_more old d (inr w) = inr (w.0, Memᴰ.tail w.1, w.2)

-- ---- what one entry records

-- an entry is taken as a dependency, or as the previous point
abbrev pub taken_as : Bool → Taken
taken_as true = as_prev_point
taken_as false = as_dependency

abbrev pub IsTaken : PointView → PointId → Type 0
IsTaken p i = (is_prev_point : Bool) × (taken p i ≡ taken_as is_prev_point)

-- what such a one records, and that one of a list does
abbrev pub taken_record : Settings → ℕ → Entry → Option InvalidDependency
taken_record c round e = record_of c round e.certified (direct_through round (entry_id e.state)) e.state

abbrev TakenIn : Settings → PointInfo → List Entry → InvalidDependency → Type 0
TakenIn c p es d = (e : Entry) × Memᴰ e es × IsTaken (point_view p) (entry_id e.state) × (taken_record c p.id.round e ≡ Some d)

-- what an indirect entry records
abbrev pub target_record : Settings → PointInfo → IndirectEntry → Option InvalidDependency
target_record c p a = record_of c p.id.round a.entry.certified (through (anchor_link a.role p)) a.entry.state

-- an entry of two lists records a root cause
abbrev pub IsRoot : Settings → PointInfo → List Entry → List IndirectEntry → InvalidDependency → Type 0
IsRoot c p es ts d = TakenIn c p es d ⊎ OneIn (target_record c p) ts d

module _ (c : Settings) (required : Bool) (p : PointView) (e : Entry) where
  pub taken_record_lem : IsTaken p (entry_id e.state) → (entry_findings c required p e).root ≡ taken_record c p.id.round e
  unfolding entry_findings dependency
  taken_record_lem w = ap (λ (t : Taken). (findings_as c required p t e).root) w.1 ∙ go w.0
    where
      go : (is_prev_point : Bool) → (findings_as c required p (taken_as is_prev_point) e).root ≡ taken_record c p.id.round e
      go true = refl
      go false = refl

  -- others record nothing
  pub record_taken : (d : InvalidDependency) → (entry_findings c required p e).root ≡ Some d → IsTaken p (entry_id e.state)
  unfolding entry_findings dependency
  record_taken d h = go (taken p (entry_id e.state)) refl h
    where
      go : (t : Taken) → taken p (entry_id e.state) ≡ t → (findings_as c required p t e).root ≡ Some d → IsTaken p (entry_id e.state)
      go as_dependency f k = (false, f)
      go as_prev_point f k = (true, f)
      go as_version f k = none-some k
      go aside f k = none-some k

-- ---- what lists record

module _ (c : Settings) (required : Bool) (p : PointView) where
  -- what a direct entry records
  abbrev root_of : Entry → Option InvalidDependency
  root_of e = (entry_findings c required p e).root

  direct-none : (old : Option InvalidDependency) (es : List Entry) → ((e : Entry) → Memᴰ e es → is_dropped e.state ≡ false) →
      direct_record c required p old es ≡ None → (old ≡ None) × NoneIn root_of es
  unfolding direct_record
  direct-none old [] u h = (h, λ e m. absurd (Memᴰ.not-nil m))
  direct-none old (x ∷ l) u h =
      let r = direct-none (join old (root_of x)) l (λ e m. u e (Memᴰ.tail m)) (rw (u x (Memᴰ.head refl)) at h) in
      let j = join-absent old (root_of x) r.0 in
      (j.0, none_more root_of x l j.1 r.1)

  direct-some : (old : Option InvalidDependency) (es : List Entry) (d : InvalidDependency) → direct_record c required p old es ≡ Some d →
      (old ≡ Some d) ⊎ OneIn root_of es d
  unfolding direct_record
  direct-some old [] d h = inl h
  direct-some old (x ∷ l) d h = go (is_dropped x.state) (direct-some (join old (root_of x)) l d) h
    where
      go : (t : Bool) → (direct_record c required p (join old (root_of x)) l ≡ Some d → (join old (root_of x) ≡ Some d) ⊎ OneIn root_of l d) →
          pick t old (direct_record c required p (join old (root_of x)) l) ≡ Some d → (old ≡ Some d) ⊎ OneIn root_of (x ∷ l) d
      go true f k = inl k
      go false f k = one_more root_of x l old d (f k)

module _ (c : Settings) (p : PointInfo) where
  indirect-none : (old : Option InvalidDependency) (ts : List IndirectEntry) → indirect_record c p old ts ≡ None → (old ≡ None) × NoneIn (target_record c p) ts
  unfolding indirect_record indirect_findings dependency
  indirect-none old [] h = (h, λ a m. absurd (Memᴰ.not-nil m))
  indirect-none old (x ∷ l) h =
      let r = indirect-none (join old (target_record c p x)) l h in
      let j = join-absent old (target_record c p x) r.0 in
      (j.0, none_more (target_record c p) x l j.1 r.1)

  indirect-some : (old : Option InvalidDependency) (ts : List IndirectEntry) (d : InvalidDependency) → indirect_record c p old ts ≡ Some d →
      (old ≡ Some d) ⊎ OneIn (target_record c p) ts d
  unfolding indirect_record indirect_findings dependency
  indirect-some old [] d h = inl h
  indirect-some old (x ∷ l) d h = one_more (target_record c p) x l old d (indirect-some (join old (target_record c p x)) l d h)

-- ---- of a verdict

module _ (c : Settings) (required : Bool) (presence : ℕ) (p : PointInfo) (es : List Entry) (ts : List IndirectEntry) where
  -- what both lists record
  abbrev root : Option InvalidDependency
  root = indirect_record c p (direct_record c required (point_view p) None es) ts

  -- what is so of every reason, and of Valid and TransInvalid by what the lists record, is so of the verdict
  root-cases : (P : Verdict → Type 0) → ((r : InvalidReason) → P (verdict.Invalid r)) → ((d : InvalidDependency) → root ≡ Some d → P (verdict.TransInvalid d)) →
      (root ≡ None → P verdict.Valid) → P (validate c required presence p es ts)
  unfolding validate
  root-cases P invalid trans valid = go (eqb presence 0) (eqb presence 1) (eqb presence 2 && not (is_empty p.witness))
    where
      lists : (o : Option InvalidReason) (d : Option InvalidDependency) → root ≡ d → P (result_with o d)
      lists (Some r) d h = invalid r
      lists None (Some d) h = trans d h
      lists None None h = valid h

      go : (x y z : Bool) →
          P
          (pick x (verdict.Invalid (NoRoundInDag map.Evidence))
          (pick y (verdict.Invalid (NoRoundInDag map.Includes)) (pick z (verdict.Invalid (NoRoundInDag map.Witness)) (over_lists c required p es ts))))
      go true y z = invalid (NoRoundInDag map.Evidence)
      go false true z = invalid (NoRoundInDag map.Includes)
      go false false true = invalid (NoRoundInDag map.Witness)
      go false false false =
          let direct : List InvalidReason = direct_trail c required (point_view p) false es in
          rw (lists_apart c p ts required es) (lists (last_of (pick (is_empty direct) (indirect_trail c p ts) direct)) root refl)

  -- a Valid point has no entry that records
  pub valid-entries : validate c required presence p es ts ≡ verdict.Valid →
      ((e : Entry) → Memᴰ e es → IsTaken (point_view p) (entry_id e.state) → taken_record c p.id.round e ≡ None) × NoneIn (target_record c p) ts
  unfolding point_view
  valid-entries h =
      let r = root-cases (λ v. v ≡ verdict.Valid → root ≡ None) (λ x k. impossible (cc)) (λ d f k. impossible (cc)) (λ f k. f) h in
      let i = indirect-none c p (direct_record c required (point_view p) None es) ts r in
      let passed = validate-all c required p es ts presence (ap has_reason h) in
      let d = direct-none c required (point_view p) None es (λ e m. (passed.entries e m).0) i.0 in
      (λ e m w. sym (taken_record_lem c required (point_view p) e w) ∙ d.1 e m, i.1)

  root-entry : (d : InvalidDependency) → root ≡ Some d → IsRoot c p es ts d
  unfolding point_view
  root-entry d h = go (indirect-some c p (direct_record c required (point_view p) None es) ts d h)
    where
      of : (None ≡ Some d) ⊎ OneIn (root_of c required (point_view p)) es d → IsRoot c p es ts d
      of (inl f) = none-some f
      of (inr (e, m, f)) = let w = record_taken c required (point_view p) e d f in inl (e, m, w, sym (taken_record_lem c required (point_view p) e w) ∙ f)

      go : (direct_record c required (point_view p) None es ≡ Some d) ⊎ OneIn (target_record c p) ts d → IsRoot c p es ts d
      go (inl f) = of (direct-some c required (point_view p) None es d f)
      go (inr w) = inr w

  -- the root cause of a TransInvalid point is what one of its entries records
  pub validate-cases : (P : Verdict → Type 0) → ((r : InvalidReason) → P (verdict.Invalid r)) → ((d : InvalidDependency) → IsRoot c p es ts d → P (verdict.TransInvalid d)) → P verdict.Valid →
      P (validate c required presence p es ts)
  validate-cases P invalid trans valid = root-cases P invalid (λ d h. trans d (root-entry d h)) (λ h. valid)

  pub trans_entry : (d : InvalidDependency) → validate c required presence p es ts ≡ verdict.TransInvalid d → IsRoot c p es ts d
  trans_entry d =
      validate-cases (λ v. v ≡ verdict.TransInvalid d → IsRoot c p es ts d) (λ r k. impossible (cc)) (λ e w k. (let f : e ≡ d = cc in subst (IsRoot c p es ts) f w)) (λ k. impossible (cc))
