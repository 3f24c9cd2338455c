-- What judging makes of entries among which a point's are marked certified: numbers 8 and 9, reasons and records.
use Rattle.std.specs.Prelude.{Option, None, Some, option_map, unwrap_or, is_some}
use Prim.Native.Nat.{ℕ}
use mathlib.Core.Path.{◌≡◌, refl, ap, ◌∙◌}
use mathlib.Core.Bool.{Bool, true, false, not, ◌&&◌, ◌||◌, or-false}
use mathlib.Core.List.{List, [], ◌∷◌, ◌++◌, map, Memᴰ}
use Rattle.base.specs.Base.{pick, when, is_empty}
use Rattle.base.proofs.Bool.{or_left, or_right, or_none}
use Rattle.base.proofs.Impossible.{impossible}
use Rattle.point.specs.Point.{PointId, PointInfo}
use Rattle.point.specs.declared.data.AnchorStageRole.{AnchorStageRole}
use Rattle.schedule.specs.Settings.{Settings}
use Rattle.reasons.specs.Invalid.{InvalidReason, DependencyRoundDropped}
use Rattle.rules.specs.DagPoint.{DagPoint, Valid, TransInvalid, Invalid, IllFormed, NotFound, Dropped, Entry, IndirectEntry, entry_id, is_dropped, PointView}
use Rattle.rules.specs.List.{Listed, directs, indirects}
use Rattle.rules.specs.Mismatch.{all_placed, ids_of, dropped_in, all_targets, mismatch, is_id, uncovers, any_uncovers, entries_in, uncovered}
use Rattle.rules.specs.Validate.{Taken, as_dependency, as_prev_point, as_version, aside, taken, version_trail, dependency, findings_as, entry_findings, indirect_findings}
use Rattle.rules.specs.Cleared.{is_of, with_mark}
use Rattle.rules.proofs.Folds.{direct_trail, indirect_trail}

module _ (i : PointId) where
  abbrev pub mark : Entry → Entry
  mark e = record { state = e.state; certified = e.certified || is_of i e; first_valid = e.first_valid }

  abbrev pub mark_target : IndirectEntry → IndirectEntry
  mark_target a = record { role = a.role; entry = mark a.entry }

  pub directs-marked : (l : List Listed) → directs (map (with_mark i) l) ≡ map mark (directs l)
  unfolding directs
  directs-marked [] = refl
  directs-marked (x ∷ l) = go (is_some x.aim) (directs-marked l)
    where
      go : (b : Bool) → directs (map (with_mark i) l) ≡ map mark (directs l) →
          pick b (directs (map (with_mark i) l)) (mark x.entry ∷ directs (map (with_mark i) l)) ≡ map mark (pick b (directs l) (x.entry ∷ directs l))
      go true h = h
      go false h = ap (λ (r : List Entry). mark x.entry ∷ r) h

  pub indirects-marked : (l : List Listed) → indirects (map (with_mark i) l) ≡ map mark_target (indirects l)
  unfolding indirects
  indirects-marked [] = refl
  indirects-marked (x ∷ l) = go x.aim (indirects-marked l)
    where
      go : (o : Option AnchorStageRole) → indirects (map (with_mark i) l) ≡ map mark_target (indirects l) →
          unwrap_or (option_map (λ g. record { role = g; entry = mark x.entry } ∷ indirects (map (with_mark i) l)) o) (indirects (map (with_mark i) l))
          ≡ map mark_target (unwrap_or (option_map (λ g. record { role = g; entry = x.entry } ∷ indirects l) o) (indirects l))
      go None h = h
      go (Some g) h = ap (λ (r : List IndirectEntry). record { role = g; entry = mark x.entry } ∷ r) h

  -- ---- number 8 looks at no flag

  placed-marked : (presence : ℕ) (p : PointInfo) (es : List Entry) (before : List PointId) →
      all_placed presence p before (map mark es) ≡ all_placed presence p before es
  unfolding all_placed
  placed-marked presence p [] before = refl
  placed-marked presence p (e ∷ l) before =
      rw (placed-marked presence p l before, placed-marked presence p l (entry_id e.state ∷ before)) refl

  dropped-marked : (es : List Entry) → dropped_in (map mark es) ≡ dropped_in es
  unfolding dropped_in
  dropped-marked [] = refl
  dropped-marked (e ∷ l) = rw (dropped-marked l) refl

  ids-marked : (es : List Entry) → ids_of (map mark es) ≡ ids_of es
  unfolding ids_of
  ids-marked [] = refl
  ids-marked (e ∷ l) = rw (ids-marked l) refl

  targets-marked : (p : PointInfo) (ts : List IndirectEntry) (proof trigger : Bool) → all_targets p proof trigger (map mark_target ts) ≡ all_targets p proof trigger ts
  unfolding all_targets
  targets-marked p [] proof trigger = refl
  targets-marked p (a ∷ l) proof trigger = rw (targets-marked p l _ _) refl

  none-marked : (ts : List IndirectEntry) → is_empty (map mark_target ts) ≡ is_empty ts
  none-marked [] = refl
  none-marked (a ∷ l) = refl

  pub mismatch-marked : (presence : ℕ) (p : PointInfo) (es : List Entry) (ts : List IndirectEntry) →
      mismatch presence p (map mark es) (map mark_target ts) ≡ mismatch presence p es ts
  unfolding mismatch
  mismatch-marked presence p es ts =
      rw (placed-marked presence p es [], dropped-marked es, ids-marked es, targets-marked p ts false false, none-marked ts) refl

  -- ---- number 9 asks for an uncertified one

  entry-covered : (prev : Option PointId) (e : Entry) → uncovers prev e ≡ false → uncovers prev (mark e) ≡ false
  unfolding uncovers
  entry-covered prev e = go (is_dropped e.state) e.certified (is_of i e)
    where
      go : (d k m : Bool) → (not d && (not k && is_id prev (entry_id e.state))) ≡ false → (not d && (not (k || m) && is_id prev (entry_id e.state))) ≡ false
      go true k m h = refl
      go false true m h = refl
      go false false true h = refl
      go false false false h = h

  any-covered : (prev : Option PointId) (es : List Entry) → any_uncovers prev es ≡ false → any_uncovers prev (map mark es) ≡ false
  unfolding any_uncovers
  any-covered prev [] h = refl
  any-covered prev (e ∷ l) h =
      or_none (uncovers prev (mark e)) _ (entry-covered prev e (or_left (uncovers prev e) _ h)) (any-covered prev l (or_right (uncovers prev e) _ h))

  entries-marked : (ts : List IndirectEntry) → entries_in (map mark_target ts) ≡ map mark (entries_in ts)
  unfolding entries_in
  entries-marked [] = refl
  entries-marked (a ∷ l) = ap (λ (r : List Entry). mark a.entry ∷ r) (entries-marked l)

  pub covered-marked : (prev : Option PointId) (es : List Entry) (ts : List IndirectEntry) → uncovered prev es ts ≡ false →
      uncovered prev (map mark es) (map mark_target ts) ≡ false
  unfolding uncovered
  covered-marked prev es ts h =
      or_none (any_uncovers prev (map mark es)) _
      (any-covered prev es (or_left (any_uncovers prev es) _ h))
      (ap (any_uncovers prev) (entries-marked ts) ∙ any-covered prev (entries_in ts) (or_right (any_uncovers prev es) _ h))

  -- ---- reasons: a mark adds one only to a version of the author's point that was not found

  abbrev pub NoVersion : PointView → Entry → Type 0
  NoVersion v e = (n : PointId) → taken v (entry_id e.state) ≡ as_version → e.state ≡ NotFound n → is_of i e ≡ false

  module _ (c : Settings) (required : Bool) (v : PointView) where
    version-marked : (e : Entry) (s : DagPoint) → ((n : PointId) → s ≡ NotFound n → is_of i e ≡ false) → version_trail (mark e) s ≡ version_trail e s
    version-marked e (Valid q) f = refl
    version-marked e (TransInvalid q root n) f = refl
    version-marked e (Invalid q n) f = refl
    version-marked e (IllFormed j n) f = refl
    version-marked e (NotFound j) f = rw (f j refl, or-false e.certified) refl
    version-marked e Dropped f = refl

    entry-marked : (e : Entry) → NoVersion v e → (entry_findings c required v (mark e)).trail ≡ (entry_findings c required v e).trail
    unfolding entry_findings dependency
    entry-marked e f = go (taken v (entry_id e.state)) refl
      where
        go : (t : Taken) → taken v (entry_id e.state) ≡ t → (findings_as c required v t (mark e)).trail ≡ (findings_as c required v t e).trail
        go as_dependency h = refl
        go as_prev_point h = refl
        go as_version h = version-marked e e.state (λ n k. f n h k)
        go aside h = refl

    pub trail-marked : (es : List Entry) → direct_trail c required v false es ≡ [] → ((e : Entry) → Memᴰ e es → NoVersion v e) →
        direct_trail c required v false (map mark es) ≡ []
    unfolding direct_trail
    trail-marked [] h f = refl
    trail-marked (e ∷ l) h f =
        go (is_dropped e.state) (entry_findings c required v e).trail (entry_findings c required v (mark e)).trail (entry-marked e (f e (Memᴰ.head refl))) h
        (λ k. trail-marked l k (λ d m. f d (Memᴰ.tail m)))
      where
        go : (b : Bool) (t u : List InvalidReason) → u ≡ t →
            pick b (when true DependencyRoundDropped) (t ++ direct_trail c required v (not (is_empty t)) l) ≡ [] →
            (direct_trail c required v false l ≡ [] → direct_trail c required v false (map mark l) ≡ []) →
            pick b (when true DependencyRoundDropped) (u ++ direct_trail c required v (not (is_empty u)) (map mark l)) ≡ []
        go true t u q k g = impossible (cc)
        go false [] u q k g = rw q (g k)
        go false (x ∷ t) u q k g = impossible (cc)

  pub target_trail : (c : Settings) (p : PointInfo) (ts : List IndirectEntry) → indirect_trail c p (map mark_target ts) ≡ indirect_trail c p ts
  unfolding indirect_trail indirect_findings dependency
  target_trail c p [] = refl
  target_trail c p (a ∷ l) = ap (λ (r : List InvalidReason). (indirect_findings c p a).trail ++ r) (target_trail c p l)
