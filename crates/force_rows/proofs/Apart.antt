-- Equal reasons of one number stand one after the other: where number 8 was not given, direct entries have different ids, so their equal
-- reasons are drops; and there are at most two indirect entries.
use Rattle.std.specs.Prelude.{Option, None, Some}
use Prim.Native.Nat.{ℕ, suc, ◌+◌, ◌≤◌}
use native.Mathlib.Omega.{arith}
use mathlib.Core.Path.{◌≡◌, refl, ap, sym, ◌∙◌, subst}
use mathlib.Core.Logic.{◌⊎◌, inl, inr}
use mathlib.Core.Bool.{Bool, true, false, not, ◌&&◌, ◌||◌}
use mathlib.Core.List.Memᴰ
use mathlib.Core.List.{List, [], ◌∷◌, ◌++◌, Memᴰ}
use lib.ListN.{length, length-append}
use Rattle.base.specs.Base.{pick, last_of}
use Rattle.base.proofs.Bool.{clash, and_left, and_right, or_left, or_right}
use Rattle.base.proofs.Option.{IfSome, some-injective}
use Rattle.point.specs.Point.{PointId, PointInfo, anchor_link, same_id}
use Rattle.point.proofs.Ids.{same_refl}
use Rattle.point.specs.declared.data.AnchorStageRole.{AnchorStageRole}
use Rattle.point.specs.declared.data.AnchorStageRole.TheVariants.{Proof, Trigger}
use Rattle.schedule.specs.Settings.{Settings}
use Rattle.reasons.specs.Invalid.{InvalidReason, invalid_number, invalid_answer}
use Rattle.reasons.specs.Invalid.{NoRoundInDag, DependencyRoundDropped, NotTrigger, TerminalTriggerBeforeLastProof, TimeNotGreaterThanInPrevPoint}
use Rattle.reasons.specs.Invalid.{AnchorProofDoesntInheritAnchorTime, AnchorTimeNotInheritedFromProof, MustHaveReferencedPrevPoint}
use Rattle.reasons.specs.Invalid.{MustHaveSkippedRound, DependencyTimeTooFarInFuture, NewerAnchorInDependency, AnchorLink, AnchorLinkRole}
use Rattle.reasons.specs.Invalid.{AnchorLinkBadPath, BadStickySequence, TriggerProofMismatch, DepIllFormed, DepNotFound}
use Rattle.rules.specs.DagPoint.{Entry, IndirectEntry, entry_id, is_dropped, PointView, point_view}
use Rattle.rules.specs.Validate.{entry_findings}
use Rattle.rules.specs.List.{directs, indirects}
use Rattle.rules.specs.Mismatch.{has_id, all_placed, has_place, all_targets, is_target_of, stood_before, same_role, mismatch}
use Rattle.rules.specs.Trail.{Row, rows_at}
use Rattle.rules.specs.Fired.{reasons_in, reason_of_row}
use Rattle.rules.specs.Force.{list_of, direct_finals, indirect_finals}
use Rattle.rules.proofs.All.{All, all-member, last-of-all}
use Rattle.rules.proofs.Perms.{members_all}
use Rattle.rules.proofs.Decoded.{same-reason_refl}
use Rattle.rules.proofs.EntryReasons.{OfPoint, entry-of_entry}
use Rattle.rules.proofs.Finals.{rows_from, rows_giver}
use Rattle.rules.proofs.SomeOrder.{final_of, target_final, direct_rows_from, target_rows_from}
use Rattle.judge_mismatch.specs.Code.{listed}
use Rattle.force_rows.specs.Code.{of_number, last_reason, is_same_as, Near, Matching, kind_rows}
use Rattle.force_rows.proofs.RowLaws.{has-member, last-member, of-member, member-of, of-this}

-- ---- drops

dropped-number : (r : InvalidReason) → invalid_number r ≡ 3 → r ≡ DependencyRoundDropped
dropped-number (NoRoundInDag m) h = absurd (omega (arith, h))
dropped-number DependencyRoundDropped h = refl
dropped-number (NotTrigger i) h = absurd (omega (arith, h))
dropped-number (TerminalTriggerBeforeLastProof i) h = absurd (omega (arith, h))
dropped-number (TimeNotGreaterThanInPrevPoint i) h = absurd (omega (arith, h))
dropped-number (AnchorProofDoesntInheritAnchorTime i) h = absurd (omega (arith, h))
dropped-number (AnchorTimeNotInheritedFromProof i) h = absurd (omega (arith, h))
dropped-number (MustHaveReferencedPrevPoint i) h = absurd (omega (arith, h))
dropped-number (MustHaveSkippedRound i) h = absurd (omega (arith, h))
dropped-number (DependencyTimeTooFarInFuture i) h = absurd (omega (arith, h))
dropped-number (NewerAnchorInDependency g i) h = absurd (omega (arith, h))
dropped-number (AnchorLink g i) h = absurd (omega (arith, h))
dropped-number (AnchorLinkRole g i) h = absurd (omega (arith, h))
dropped-number (AnchorLinkBadPath g i) h = absurd (omega (arith, h))
dropped-number (BadStickySequence i o n) h = absurd (omega (arith, h))
dropped-number (TriggerProofMismatch i b) h = absurd (omega (arith, h))
dropped-number (DepIllFormed i n) h = absurd (omega (arith, h))
dropped-number (DepNotFound i) h = absurd (omega (arith, h))

last-there : (l : List Row) (y : Row) → Memᴰ y l → last_of (reasons_in l) ≡ None → ⊥
unfolding last_of
last-there [] y m h = Memᴰ.not-nil m
last-there (x ∷ []) y m h = (let e : Some x.reason ≡ None = h in cc)
last-there (x ∷ z ∷ l) y m h = last-there (z ∷ l) z (Memᴰ.head refl) h

near-drop : (before : List Row) (r y : Row) → r.reason ≡ DependencyRoundDropped → Memᴰ y before → y.reason ≡ r.reason →
    is_same_as (last_reason (invalid_number r.reason) before) r.reason ≡ true
near-drop before r y d m e = go (last_reason (invalid_number r.reason) before) refl
  where
    k : ℕ
    k = invalid_number r.reason

    go : (o : Option InvalidReason) → last_reason k before ≡ o → is_same_as o r.reason ≡ true
    go None h =
        absurd (last-there (of_number k before) y (member-of k before y m (ap (λ (z : InvalidReason). invalid_number z) e)) h)
    go (Some s) h =
        let z = last-member (of_number k before) s h in
        let n : invalid_number s ≡ 3 =
        ap (λ (z : InvalidReason). invalid_number z) (sym z.2) ∙ ((of-member k before z.0 z.1).1 ∙ ap (λ (z : InvalidReason). invalid_number z) d) in
        rw (dropped-number s n ∙ sym d) (same-reason_refl r.reason)

-- ---- the direct entries

-- rows whose equal reasons are all drops
abbrev Unlike : List Row → Type 0
Unlike [] = Unit
Unlike (x ∷ l) = All (λ (y : Row). x.reason ≡ y.reason → x.reason ≡ DependencyRoundDropped) l × Unlike l

unlike-at : (before after : List Row) (r y : Row) → Unlike (before ++ (r ∷ after)) → Memᴰ y before → y.reason ≡ r.reason → r.reason ≡ DependencyRoundDropped
unlike-at [] after r y h m e = absurd (Memᴰ.not-nil m)
unlike-at (x ∷ before) after r y h m e = elim (Memᴰ.cases_cons m) [
  | inl i ↦ (let s : x.reason ≡ r.reason = ap (λ (z : Row). z.reason) (sym i) ∙ e in
      let f = all-member (λ (z : Row). x.reason ≡ z.reason → x.reason ≡ DependencyRoundDropped) (before ++ (r ∷ after)) h.0 r (Memᴰ.append_right before (Memᴰ.head refl)) in
      sym s ∙ f s)
  | inr n ↦ unlike-at before after r y h.1 n e
]

module _ (presence : ℕ) (p : PointInfo) where
  fresh : (before : List PointId) (l : List Entry) → all_placed presence p before l ≡ true → (e : Entry) → Memᴰ e l → is_dropped e.state ≡ false →
      has_id before (entry_id e.state) ≡ false
  unfolding all_placed has_id
  fresh before [] h e m d = absurd (Memᴰ.not-nil m)
  fresh before (x ∷ l) h e m d = go (is_dropped x.state) refl h (Memᴰ.cases_cons m) (λ z g n. fresh z l g e n d)
    where
      go : (b : Bool) → is_dropped x.state ≡ b →
          pick b (all_placed presence p before l)
          ((has_place presence p (entry_id x.state) && not (has_id before (entry_id x.state))) && all_placed presence p (entry_id x.state ∷ before) l) ≡ true →
          (e ≡ x) ⊎ Memᴰ e l →
          ((z : List PointId) → all_placed presence p z l ≡ true → Memᴰ e l → has_id z (entry_id e.state) ≡ false) →
          has_id before (entry_id e.state) ≡ false
      go true q g (inl i) f = clash (is_dropped x.state) q (ap (λ (y : Entry). is_dropped y.state) (sym i) ∙ d)
      go true q g (inr n) f = f before g n
      go false q g (inl i) f =
          rw i
          (away (has_id before (entry_id x.state))
          (and_right (has_place presence p (entry_id x.state)) _ (and_left (has_place presence p (entry_id x.state) && not (has_id before (entry_id x.state))) _ g)))
        where
          away : (b : Bool) → not b ≡ true → b ≡ false
          away true h = clash false h refl
          away false h = refl
      go false q g (inr n) f =
          or_right (same_id (entry_id x.state) (entry_id e.state)) (has_id before (entry_id e.state))
          (f (entry_id x.state ∷ before) (and_right (has_place presence p (entry_id x.state) && not (has_id before (entry_id x.state))) _ g) n)

  module _ (c : Settings) (required : Bool) (v : PointView) where
    -- what an entry names that is not dropped
    final-id : (e : Entry) (r : InvalidReason) → is_dropped e.state ≡ false → final_of c required v e ≡ Some r → (invalid_answer r).id ≡ entry_id e.state
    final-id e r d h =
        named (last_of (entry_findings c required v e).trail) (last-of-all (OfPoint (entry_id e.state)) (entry_findings c required v e).trail (entry-of_entry c required v e))
        (sym (ap (λ (b : Bool). pick b (Some DependencyRoundDropped) (last_of (entry_findings c required v e).trail)) d) ∙ h)
      where
        named : (o : Option InvalidReason) → IfSome (OfPoint (entry_id e.state)) o → o ≡ Some r → (invalid_answer r).id ≡ entry_id e.state
        named None f g = absurd (cc)
        named (Some s) f g = (subst (OfPoint (entry_id e.state)) (some-injective s r g) f).1

    drop-final : (e : Entry) (r : InvalidReason) → is_dropped e.state ≡ true → final_of c required v e ≡ Some r → r ≡ DependencyRoundDropped
    drop-final e r d h =
        sym (some-injective DependencyRoundDropped r (sym (ap (λ (b : Bool). pick b (Some DependencyRoundDropped) (last_of (entry_findings c required v e).trail)) d) ∙ h))

    apart_from : (before : List PointId) (e : Entry) (l : List Entry) (i : ℕ) (r : InvalidReason) → is_dropped e.state ≡ false →
        final_of c required v e ≡ Some r → all_placed presence p (entry_id e.state ∷ before) l ≡ true → (y : Row) →
        Memᴰ y (rows_from (final_of c required v) 1 (suc i) l) → r ≡ y.reason → r ≡ DependencyRoundDropped
    unfolding has_id
    apart_from before e l i r d h a y m k =
        let g = rows_giver (final_of c required v) 1 l (suc i) y.reason (Memᴰ.map reason_of_row m) in
        go g.entry g.there g.gives (is_dropped g.entry.state) refl
      where
        go : (x : Entry) → Memᴰ x l → final_of c required v x ≡ Some y.reason → (b : Bool) → is_dropped x.state ≡ b → r ≡ DependencyRoundDropped
        go x n f true q = k ∙ drop-final x y.reason q f
        go x n f false q =
            let same : entry_id e.state ≡ entry_id x.state =
            sym (final-id e r d h) ∙ (ap (λ (z : InvalidReason). (invalid_answer z).id) k ∙ final-id x y.reason q f) in
            let none = or_left (same_id (entry_id e.state) (entry_id x.state)) (has_id before (entry_id x.state)) (fresh (entry_id e.state ∷ before) l a x n q) in
            clash (same_id (entry_id e.state) (entry_id x.state)) (rw same (same_refl (entry_id x.state))) none

    unlike : (before : List PointId) (es : List Entry) (i : ℕ) → all_placed presence p before es ≡ true → Unlike (rows_from (final_of c required v) 1 i es)
    unfolding all_placed rows_from
    unlike before [] i h = tt
    unlike before (e ∷ l) i h = go (is_dropped e.state) refl h (λ z a. unlike z l (suc i) a)
      where
        Rest : List Row
        Rest = rows_from (final_of c required v) 1 (suc i) l

        some : (o : Option InvalidReason) → Unlike Rest →
            ((r : InvalidReason) → o ≡ Some r → (y : Row) → Memᴰ y Rest → r ≡ y.reason → r ≡ DependencyRoundDropped) →
            Unlike (rows_at 1 i (list_of o) ++ Rest)
        some None u f = u
        some (Some r) u f = (members_all (λ (y : Row). r ≡ y.reason → r ≡ DependencyRoundDropped) Rest (f r refl), u)

        go : (b : Bool) → is_dropped e.state ≡ b →
            pick b (all_placed presence p before l)
            ((has_place presence p (entry_id e.state) && not (has_id before (entry_id e.state))) && all_placed presence p (entry_id e.state ∷ before) l) ≡ true →
            ((z : List PointId) → all_placed presence p z l ≡ true → Unlike Rest) →
            Unlike (rows_at 1 i (list_of (final_of c required v e)) ++ Rest)
        go true q g u = some (final_of c required v e) (u before g) (λ r k y m s. drop-final e r q k)
        go false q g u =
            let a = and_right (has_place presence p (entry_id e.state) && not (has_id before (entry_id e.state))) _ g in
            some (final_of c required v e) (u (entry_id e.state ∷ before) a) (λ r k. apart_from before e l i r q k a)

    near-direct : (es : List Entry) (done after : List Row) (r : Row) → all_placed presence p [] es ≡ true →
        direct_finals c required v 0 es ≡ done ++ (r ∷ after) → Near done r
    near-direct es done after r a e h =
        let m = has-member done r h in
        let u = subst Unlike (sym (direct_rows_from c required v es 0) ∙ e) (unlike [] es 0 a) in
        near-drop done r m.0 (unlike-at done after r m.0 u m.1 m.2) m.1 m.2

-- ---- the indirect entries

abbrev one_if : Bool → ℕ
one_if true = 1
one_if false = 0

few-targets : (p : PointInfo) (proof trigger : Bool) (ts : List IndirectEntry) → all_targets p proof trigger ts ≡ true →
    length ts + one_if proof + one_if trigger ≤ 2
unfolding all_targets
few-targets p proof trigger [] h = go proof trigger
  where
    go : (a b : Bool) → 0 + one_if a + one_if b ≤ 2
    go true true = omega arith
    go true false = omega arith
    go false true = omega arith
    go false false = omega arith
few-targets p proof trigger (a ∷ l) h =
    go a.role proof trigger
    (and_right (is_target_of (anchor_link a.role p) a.entry.state) _ (and_left (is_target_of (anchor_link a.role p) a.entry.state && not (stood_before a.role proof trigger)) _ h))
    (few-targets p _ _ l (and_right (is_target_of (anchor_link a.role p) a.entry.state && not (stood_before a.role proof trigger)) _ h))
  where
    go : (g : AnchorStageRole) (x y : Bool) → not (stood_before g x y) ≡ true →
        length l + one_if (x || same_role g Proof) + one_if (y || same_role g Trigger) ≤ 2 → suc (length l) + one_if x + one_if y ≤ 2
    go Proof true y h f = clash false h refl
    go Proof false true h f = omega (arith, f)
    go Proof false false h f = omega (arith, f)
    go Trigger x true h f = clash false h refl
    go Trigger true false h f = omega (arith, f)
    go Trigger false false h f = omega (arith, f)

few-rows : {A : Type 0} (f : A → Option InvalidReason) (list i : ℕ) (l : List A) → length (rows_from f list i l) ≤ length l
unfolding rows_from
few-rows f list i [] = omega arith
few-rows f list i (a ∷ l) = go (f a) (few-rows f list (suc i) l)
  where
    go : (o : Option InvalidReason) → length (rows_from f list (suc i) l) ≤ length l →
        length (rows_at list i (list_of o) ++ rows_from f list (suc i) l) ≤ suc (length l)
    go None h = omega (arith, h)
    go (Some r) h = omega (arith, h)

alone : (s : InvalidReason) → is_same_as (last_of (s ∷ [])) s ≡ true
unfolding last_of
alone s = same-reason_refl s

near-one : (done : List Row) (r : Row) → length done ≤ 1 → Near done r
near-one [] r h g = absurd (Memᴰ.not-nil (has-member [] r g).1)
near-one (x ∷ []) r h g =
    let m = has-member (x ∷ []) r g in
    let e : x.reason ≡ r.reason = ap (λ (z : Row). z.reason) (sym (Memᴰ.eq_of_singleton m.1)) ∙ m.2 in
    rw (of-this (invalid_number r.reason) x (ap (λ (z : InvalidReason). invalid_number z) e), e) (alone r.reason)
near-one (x ∷ y ∷ l) r h g = absurd (omega (arith, h))

near-indirect : (c : Settings) (p : PointInfo) (ts : List IndirectEntry) (done after : List Row) (r : Row) → all_targets p false false ts ≡ true →
    indirect_finals c p 0 ts ≡ done ++ (r ∷ after) → Near done r
near-indirect c p ts done after r a e =
    let few = few-targets p false false ts a in
    let rows = few-rows (target_final c p) 2 0 ts in
    let same = ap (λ (l : List Row). length l) (sym (target_rows_from c p ts 0) ∙ e) ∙ length-append done (r ∷ after) in
    near-one done r (omega (arith, few, rows, same))

-- ---- both

pub near : (c : Settings) (required : Bool) (p : PointInfo) (s : List ℕ) (is_target : Bool) (done after : List Row) (r : Row) → Matching p s →
    kind_rows c required p is_target 0 (listed s) ≡ done ++ (r ∷ after) → Near done r
unfolding mismatch
near c required p s false done after r m e =
    near-direct m.0 p c required (point_view p) (directs (listed s)) done after r (truth (all_placed m.0 p [] (directs (listed s))) (or_left _ _ m.1)) e
  where
    truth : (b : Bool) → not b ≡ false → b ≡ true
    truth true h = refl
    truth false h = clash true refl h
near c required p s true done after r m e =
    near-indirect c p (indirects (listed s)) done after r
    (truth (all_targets p false false (indirects (listed s))) (or_left _ _ (or_right _ _ (or_right _ _ m.1)))) e
  where
    truth : (b : Bool) → not b ≡ false → b ≡ true
    truth true h = refl
    truth false h = clash true refl h
