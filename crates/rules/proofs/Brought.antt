-- What an entry records, in the words of ticket U9: which entries are given to `dependency`, and what they bring.
use Rattle.std.specs.Prelude.{Option, None, Some}
use Prim.Native.Nat.{ℕ, ◌+◌, ◌-◌}
use lib.Dec.{leb, eqb}
use borrow.Author.Tests.{lt-leb, leb-false, eq-eqb, eqb-true}
use mathlib.Core.Path.{◌≡◌, refl, sym, ap, ◌∙◌}
use mathlib.Core.Logic.{inl, inr}
use mathlib.Core.Bool.{Bool, true, false, ◌||◌}
use Rattle.base.specs.Base.{pick}
use Rattle.base.proofs.Bool.{never, and_left, and_right, and_both, or_left, or_right}
use Rattle.base.proofs.Option.{none-some, some-injective, map-eq-some_iff}
use Rattle.base.proofs.Impossible.{impossible}
use Rattle.point.specs.Point.{PointId, Through, PointInfo, prev_digest, prev_id}
use Rattle.point.specs.declared.data.AnchorStageRole.{AnchorStageRole}
use Rattle.point.proofs.Ids.{fields_same, same_eq}
use Rattle.schedule.specs.Settings.{Settings}
use Rattle.reasons.specs.Invalid.{InvalidDependency}
use Rattle.rules.specs.DagPoint.{DagPoint, Valid, TransInvalid, Invalid, IllFormed, NotFound, Dropped, Entry, entry_id, is_by, point_view}
use Rattle.rules.specs.List.{Listed}
use Rattle.rules.specs.Validate.{as_dependency, as_prev_point, as_version, aside, taken_own, taken, record_of, dependency, indirect_findings}
use Rattle.rules.specs.AnyOrder.{IsOwn, IsGiven, IsCause, came_through, Brings}
use Rattle.rules.proofs.Records.{taken_as, IsTaken, target_record, taken_record_lem, record_taken}
use Rattle.rules.proofs.Orders.{root_of}

-- ---- a record is of an uncertified cause

unless : (b : Bool) (x d : InvalidDependency) → pick b None (Some x) ≡ Some d → (b ≡ false) × (d ≡ x)
unless true x d h = none-some h
unless false x d h = (refl, sym (some-injective _ _ h))

module _ (c : Settings) (p : PointInfo) (t : Through) (certified : Bool) where
  record_cause : (s : DagPoint) (d : InvalidDependency) → record_of c p.id.round certified t s ≡ Some d → (certified ≡ false) × IsCause c p t s d
  unfolding record_of
  record_cause (Valid q) d h = none-some h
  record_cause (TransInvalid q root n) d h =
      let u = unless (certified || leb (root.round + c.commit_history_rounds) (p.id.round - 1)) _ d h in
      (or_left certified _ u.0, (leb-false _ _ (or_right certified _ u.0), u.1))
  record_cause (Invalid q n) d h = unless certified _ d h
  record_cause (IllFormed i n) d h = none-some h
  record_cause (NotFound i) d h = none-some h
  record_cause Dropped d h = none-some h

  cause_record : (s : DagPoint) (d : InvalidDependency) → certified ≡ false → IsCause c p t s d → record_of c p.id.round certified t s ≡ Some d
  unfolding record_of
  cause_record (Valid q) d e f = absurd f
  cause_record (TransInvalid q root n) d e f = rw (e, lt-leb (root.round + c.commit_history_rounds) (p.id.round - 1) f.0) (ap Some (sym f.1))
  cause_record (Invalid q n) d e f = rw e (ap Some (sym f))
  cause_record (IllFormed i n) d e f = absurd f
  cause_record (NotFound i) d e f = absurd f
  cause_record Dropped d e f = absurd f

-- ---- the direct entries that are given to `dependency`

module _ (p : PointInfo) (i : PointId) where
  own-test : IsOwn p i → is_by (p.id.round - 1) p.id.author i ≡ true
  own-test w = and_both (eqb i.round (p.id.round - 1)) _ (eq-eqb _ _ w.0) (eq-eqb _ _ w.1)

  test-own : is_by (p.id.round - 1) p.id.author i ≡ true → IsOwn p i
  test-own h =
      let a = and_left (eqb i.round (p.id.round - 1)) _ h in
      (eqb-true _ _ a, eqb-true _ _ (and_right (eqb i.round (p.id.round - 1)) _ h))

  given-taken : IsGiven p None i → IsTaken (point_view p) i
  unfolding taken point_view prev_id
  given-taken (inl f) = (false, rw (never (is_by (p.id.round - 1) p.id.author i) (λ h. f (test-own h))))
  given-taken (inr f) =
      let d = (map-eq-some_iff _ (prev_digest p)).0 f in
      let o : IsOwn p i = (sym (ap (λ (j : PointId). j.round) d.2), sym (ap (λ (j : PointId). j.author) d.2)) in
      let g : d.0 ≡ i.digest = ap (λ (j : PointId). j.digest) d.2 in
      (true, rw (own-test o, d.1, eq-eqb d.0 i.digest g))

  taken-given : IsTaken (point_view p) i → IsGiven p None i
  unfolding taken point_view prev_id
  taken-given (is_prev, h) = go (is_by (p.id.round - 1) p.id.author i) refl (prev_digest p) refl h
    where
      previous : (d : ℕ) → is_by (p.id.round - 1) p.id.author i ≡ true → prev_digest p ≡ Some d → (b : Bool) → eqb d i.digest ≡ b → (k : Bool) →
          pick b as_prev_point aside ≡ taken_as k → prev_id p ≡ Some i
      previous d t e true f k g =
          let o = test-own t in
          rw e (ap Some (same_eq _ i (fields_same _ i (sym o.0) (eqb-true d i.digest f) (sym o.1))))
      previous d t e false f true g = impossible (cc)
      previous d t e false f false g = impossible (cc)

      go : (b : Bool) → is_by (p.id.round - 1) p.id.author i ≡ b → (o : Option ℕ) → prev_digest p ≡ o → pick b (taken_own i o) as_dependency ≡ taken_as is_prev → IsGiven p None i
      go false t o e g = inl (λ w. impossible (cc (own-test w)))
      go true t None e g = never-version is_prev g
        where
          never-version : (k : Bool) → as_version ≡ taken_as k → IsGiven p None i
          never-version true q = impossible (cc)
          never-version false q = impossible (cc)
      go true t (Some d) e g = inr (previous d t e (eqb d i.digest) refl is_prev g)

-- ---- what an entry records

module _ (c : Settings) (required : Bool) (p : PointInfo) where
  abbrev record_by : Option AnchorStageRole → Entry → Option InvalidDependency
  record_by None e = root_of c required (point_view p) e
  record_by (Some g) e = target_record c p (record { role = g; entry = e })

  abbrev pub record_for : Listed → Option InvalidDependency
  record_for x = record_by x.aim x.entry

  abbrev BringsBy : Option AnchorStageRole → Entry → InvalidDependency → Type 0
  BringsBy aim e d =
      IsGiven p aim (entry_id e.state)
      × (e.certified ≡ false)
      × IsCause c p (came_through p aim (entry_id e.state)) e.state d

  record_brings-by : (aim : Option AnchorStageRole) (e : Entry) (d : InvalidDependency) → record_by aim e ≡ Some d → BringsBy aim e d
  unfolding indirect_findings dependency point_view
  record_brings-by None e d h =
      let w = record_taken c required (point_view p) e d h in
      let k = record_cause c p (came_through p None (entry_id e.state)) e.certified e.state d (sym (taken_record_lem c required (point_view p) e w) ∙ h) in
      (taken-given p (entry_id e.state) w, k.0, k.1)
  record_brings-by (Some g) e d h =
      let k = record_cause c p (came_through p (Some g) (entry_id e.state)) e.certified e.state d h in
      (tt, k.0, k.1)

  brings_record_by : (aim : Option AnchorStageRole) (e : Entry) (d : InvalidDependency) → BringsBy aim e d → record_by aim e ≡ Some d
  unfolding indirect_findings dependency point_view
  brings_record_by None e d (w, k, f) =
      taken_record_lem c required (point_view p) e (given-taken p (entry_id e.state) w)
      ∙ cause_record c p (came_through p None (entry_id e.state)) e.certified e.state d k f
  brings_record_by (Some g) e d (w, k, f) = cause_record c p (came_through p (Some g) (entry_id e.state)) e.certified e.state d k f

  pub record_brings : (x : Listed) (d : InvalidDependency) → record_for x ≡ Some d → Brings c p x d
  record_brings x d h = record_brings-by x.aim x.entry d h

  pub brings_record : (x : Listed) (d : InvalidDependency) → Brings c p x d → record_for x ≡ Some d
  brings_record x d h = brings_record_by x.aim x.entry d h
