-- Ticket U2's statement holds.
use Rattle.std.specs.Prelude.{Option, None, Some}
use Prim.Native.Nat.{ℕ, ◌+◌, ◌*◌, ◌<◌, ◌≤◌}
use native.Mathlib.Omega.{arith}
use native.Mathlib.Decide.{dec_lt}
use lib.Dec.{ltb, leb, eqb}
use lib.ListN.{length, drop}
use borrow.Author.Tests.{leb-false, eq-eqb, lt-ltb, le-ltb}
use mathlib.Core.Path.{◌≡◌, refl, sym, ap, ◌∙◌, subst}
use mathlib.Core.Logic.{◌⊎◌, inl, inr}
use mathlib.Core.Bool.{Bool, true, false, not, ◌&&◌}
use mathlib.Core.List.{List, [], ◌++◌}
use Rattle.base.specs.Base.{pick, is_empty, last_of}
use Rattle.base.proofs.Bool.{clash}
use Rattle.base.proofs.Option.{has}
use Rattle.base.proofs.Impossible.{impossible}
use Rattle.base.proofs.Tables.{last_none}
use Rattle.parts.specs.Bytes.{little_bytes, put_at}
use Rattle.point.specs.Point.{PointInfo, prev_id}
use Rattle.point.specs.declared.data.PointMap.{PointMap}
use Rattle.point.specs.declared.data.PointMap.TheVariants as maps
use Rattle.schedule.specs.Settings.{Settings}
use Rattle.reasons.specs.Invalid.{InvalidReason, NoRoundInDag, DependencyRoundDropped, NotTrigger, TerminalTriggerBeforeLastProof}
use Rattle.reasons.specs.Invalid.{invalid_answer, invalid_number}
use Rattle.reasons.specs.Invalid.{TimeNotGreaterThanInPrevPoint, AnchorProofDoesntInheritAnchorTime, AnchorTimeNotInheritedFromProof}
use Rattle.reasons.specs.Invalid.{MustHaveReferencedPrevPoint, MustHaveSkippedRound, DependencyTimeTooFarInFuture, NewerAnchorInDependency}
use Rattle.reasons.specs.Invalid.{AnchorLink}
use Rattle.reasons.specs.Invalid.{AnchorLinkRole, AnchorLinkBadPath, BadStickySequence, TriggerProofMismatch, DepIllFormed, DepNotFound}
use Rattle.reasons.specs.Invalid.{InvalidDependency}
use Rattle.reasons.specs.Verdict as verdict
use Rattle.reasons.specs.Verdict.{of_error}
use Rattle.reasons.specs.declared.ill_formed.VerifyError.{VerifyError}
use Rattle.reasons.specs.declared.ill_formed.VerifyError.TheVariants as case-error
use Rattle.reasons.specs.declared.ill_formed.WaveChecked.{WaveChecked}
use Rattle.reasons.specs.declared.ill_formed.WaveChecked.TheVariants as case-wave
use Rattle.rules.specs.DagPoint.{DagPoint, Valid, TransInvalid, Invalid, IllFormed, NotFound, Dropped, Entry, IndirectEntry, point_view}
use Rattle.rules.specs.DagPoint.{is_dropped}
use Rattle.rules.specs.List.{Listed, read_list, directs, indirects}
use Rattle.rules.specs.Mismatch.{mismatch, uncovered}
use Rattle.rules.specs.Verify.{verify, scheduled, buffer_with}
use Rattle.rules.specs.CheckIllFormed.{wave_checked}
use Rattle.rules.specs.Validate.{Findings, nothing, dependency, dependency_trail, indirect_findings, indirect_point_rows, check_valid}
use Rattle.rules.specs.Validate.{check_indirect_links, result_with, over_lists, validate}
use Rattle.rules.specs.Judge.{Input, Tested, refused, admitted, JudgeAnswer, Number, Given, Before, answered, needed, before_with, before}
use Rattle.rules.specs.Judge.{over_entries, over_list, judge_from, judge_with, judge_with_in, verify_buffer}
use Rattle.rules.specs.Told.{Call, judged}
use Rattle.rules.specs.Trail.{Row, direct_rows, indirect_rows, list_rows, rule_row, trail, trail_over, trail_from, trail_with, rows_bytes}
use Rattle.rules.specs.Trail.{fitted, trail_told}
use Rattle.rules.specs.Fired.{reasons_in, tested_of, trail_of, all_findings, RulesFired}
use Rattle.rules.proofs.All.{All, all_append, all-member, last-of-all}
use Rattle.rules.proofs.Folds.{indirect_trail, direct-trail, indirect-trail}
use Rattle.rules.proofs.EntryReasons.{OfEntry, direct-of_entries, indirect-of_entries}
use Rattle.rules.proofs.Rows.{no_rows, list-reasons, rows_length}
use Rattle.rules.proofs.RowsNext.{direct_next, direct_drops, direct-adds_none, indirect_next_lem}
use Rattle.rules.proofs.RowsWithin.{Within, with_within}
use Rattle.rules.proofs.TrailRoom.{trail_room}

-- ---- the verdict and the rows

-- the last row names the reason, and stands alone if it is the presence rule's; with another verdict there is none
abbrev pub RowsOf : verdict.Verdict → List Row → Type 0
RowsOf (verdict.Fail u) rows = rows ≡ []
RowsOf (verdict.IllFormed r) rows = rows ≡ []
RowsOf (verdict.Invalid r) rows = (last_of (reasons_in rows) ≡ Some r) × ((m : PointMap) → r ≡ NoRoundInDag m → rows ≡ rule_row m)
RowsOf (verdict.TransInvalid d) rows = rows ≡ []
RowsOf verdict.Valid rows = rows ≡ []

-- of a trail in which the presence rule's reason does not stand
from_trail : (rows : List Row) (t : List InvalidReason) (d : Option InvalidDependency) →
    reasons_in rows ≡ t → All OfEntry t → RowsOf (result_with (last_of t) d) rows
from_trail rows t d h f = go (last_of t) refl d
  where
    go : (o : Option InvalidReason) → last_of t ≡ o → (d : Option InvalidDependency) → RowsOf (result_with o d) rows
    go (Some r) e d = (
      ap last_of h ∙ e,
      λ m k. clash (eqb (invalid_number (NoRoundInDag m)) 2) refl (subst OfEntry k (has OfEntry (last_of t) r (last-of-all OfEntry t f) e)),
    )
    go None e (Some d) = no_rows rows (h ∙ last_none t e)
    go None e None = no_rows rows (h ∙ last_none t e)

module _ (c : Settings) (required : Bool) (p : PointInfo) (es : List Entry) (ts : List IndirectEntry) where
  pub of_entries : All OfEntry (all_findings c required p es ts).trail
  of_entries =
      go (check_valid c required (point_view p) nothing es)
      (rw (direct-trail c required (point_view p) es nothing) (direct-of_entries c required (point_view p) false es))
    where
      go : (f : Findings) → All OfEntry f.trail → All OfEntry (pick (is_empty f.trail) (check_indirect_links c p f ts) f).trail
      go f h = by (is_empty f.trail)
        where
          by : (b : Bool) → All OfEntry (pick b (check_indirect_links c p f ts) f).trail
          by true = rw (indirect-trail c p ts f) (all_append OfEntry f.trail (indirect_trail c p ts) h (indirect-of_entries c p ts))
          by false = h

  lists_rows : RowsOf (over_lists c required p es ts) (list_rows c required p es ts)
  unfolding over_lists
  lists_rows =
      from_trail (list_rows c required p es ts) (all_findings c required p es ts).trail (all_findings c required p es ts).root
      (list-reasons c required p es ts) of_entries

  validate-rows : (presence : ℕ) → RowsOf (validate c required presence p es ts) (trail c required presence p es ts)
  unfolding validate trail
  validate-rows presence = go (eqb presence 0) (eqb presence 1) (eqb presence 2 && not (is_empty p.witness))
    where
      alone : (n m : PointMap) → NoRoundInDag n ≡ NoRoundInDag m → rule_row n ≡ rule_row m
      alone n m h = let e : n ≡ m = cc in ap rule_row e

      go : (x y z : Bool) →
          RowsOf
          (pick x (verdict.Invalid (NoRoundInDag maps.Evidence))
          (pick y (verdict.Invalid (NoRoundInDag maps.Includes))
          (pick z (verdict.Invalid (NoRoundInDag maps.Witness)) (over_lists c required p es ts))))
          (pick x (rule_row maps.Evidence) (pick y (rule_row maps.Includes) (pick z (rule_row maps.Witness) (list_rows c required p es ts))))
      go true y z = (refl, alone maps.Evidence)
      go false true z = (refl, alone maps.Includes)
      go false false true = (refl, alone maps.Witness)
      go false false false = lists_rows

-- ---- the call

abbrev pub CallRows : JudgeAnswer → List Row → Type 0
CallRows (Number n) rows = Unit
CallRows (Given v) rows = RowsOf v rows

-- what is answered before the list is a number, or a verdict without rows
abbrev pub BeforeRows : Before → Type 0
BeforeRows (answered a) = CallRows a []
BeforeRows (needed required) = Unit

pub before-rows : (o : Option VerifyError) (genesis : Bool) (w : WaveChecked) → BeforeRows (before_with o genesis w)
before-rows (Some (case-error.Fail u)) genesis w = refl
before-rows (Some (case-error.IllFormed r)) genesis w = refl
before-rows None true w = refl
before-rows None false case-wave.Horizon = tt
before-rows None false (case-wave.IllFormed r) = refl
before-rows None false (case-wave.Sound required) = tt

module _ (c : Settings) (presence : ℕ) (p : PointInfo) where
  entries_rows : (required : Bool) (es : List Entry) (ts : List IndirectEntry) →
      CallRows (over_entries c required presence p es ts) (trail c required presence p es ts)
  entries_rows required es ts = go (mismatch presence p es ts) (uncovered (prev_id p) es ts)
    where
      go : (m u : Bool) →
          CallRows (pick m (Number 8) (pick u (Number 9) (Given (validate c required presence p es ts)))) (trail c required presence p es ts)
      go true u = tt
      go false true = tt
      go false false = validate-rows c required p es ts presence

  over_rows : (required : Bool) (o : Option (List Listed)) → CallRows (over_list c required presence p o) (trail_over c required presence p o)
  over_rows required None = tt
  over_rows required (Some l) = entries_rows required (directs l) (indirects l)

  from_rows : (list : List ℕ) (b : Before) → BeforeRows b → CallRows (judge_from c presence p list b) (trail_from c presence p list b)
  from_rows list (answered a) h = h
  from_rows list (needed required) h = go (leb 2 presence)
    where
      go : (b : Bool) →
          CallRows
          (pick b (over_list c required presence p (read_list list)) (Given (validate c required presence p [] [])))
          (pick b (trail_over c required presence p (read_list list)) (trail c required presence p [] []))
      go true = over_rows required (read_list list)
      go false = validate-rows c required p [] [] presence

with_rows : (leader presence : ℕ) (list : List ℕ) (t : Tested) → CallRows (judge_with leader presence list t) (trail_with leader presence list t)
unfolding judge_with_in trail_with before
with_rows leader presence list (refused n) = tt
with_rows leader presence list (admitted i) =
    from_rows i.settings presence i.point list (before i.settings i.schedule (eqb leader 1) i.point)
    (before-rows (verify i.settings i.schedule i.point) (eqb i.point.id.round i.settings.genesis_round)
    (wave_checked i.schedule (eqb leader 1) i.point))

-- of a call that gives a verdict
given_rows : (x : Call) (v : verdict.Verdict) → judged x ≡ Given v → RowsOf v (trail_of x)
given_rows x v h = subst (λ (a : JudgeAnswer). CallRows a (trail_of x)) h (with_rows x.leader x.presence x.list (tested_of x))

only_invalid : (v : verdict.Verdict) (rows : List Row) → RowsOf v rows → ((r : InvalidReason) → v ≡ verdict.Invalid r → ⊥) → rows ≡ []
only_invalid (verdict.Fail u) rows h f = h
only_invalid (verdict.IllFormed r) rows h f = h
only_invalid (verdict.Invalid r) rows h f = absurd (f r refl)
only_invalid (verdict.TransInvalid d) rows h f = h
only_invalid verdict.Valid rows h f = h

-- ---- a call over a list

module _ (c : Settings) (required : Bool) (p : PointInfo) (presence : ℕ) (v : verdict.Verdict)
    (f : (m : PointMap) → v ≡ verdict.Invalid (NoRoundInDag m) → ⊥) where
  -- another reason than the presence rule's is the lists'
  unruled : (es : List Entry) (ts : List IndirectEntry) → validate c required presence p es ts ≡ v →
      (trail c required presence p es ts ≡ list_rows c required p es ts) × ((presence ≡ 0 → ⊥) × (presence ≡ 1 → ⊥))
  unfolding validate trail
  unruled es ts = go (eqb presence 0) (eqb presence 1) (eqb presence 2 && not (is_empty p.witness)) refl refl
    where
      go : (x y z : Bool) → eqb presence 0 ≡ x → eqb presence 1 ≡ y →
          pick x (verdict.Invalid (NoRoundInDag maps.Evidence))
          (pick y (verdict.Invalid (NoRoundInDag maps.Includes))
          (pick z (verdict.Invalid (NoRoundInDag maps.Witness)) (over_lists c required p es ts)))
          ≡ v →
          (pick x (rule_row maps.Evidence) (pick y (rule_row maps.Includes) (pick z (rule_row maps.Witness) (list_rows c required p es ts)))
          ≡ list_rows c required p es ts)
          × ((presence ≡ 0 → ⊥) × (presence ≡ 1 → ⊥))
      go true y z a b h = absurd (f maps.Evidence (sym h))
      go false true z a b h = absurd (f maps.Includes (sym h))
      go false false true a b h = absurd (f maps.Witness (sym h))
      go false false false a b h =
          (refl, (λ e. clash (eqb presence 0) (eq-eqb presence 0 e) a, λ e. clash (eqb presence 1) (eq-eqb presence 1 e) b))

  over-listed : (es : List Entry) (ts : List IndirectEntry) → over_entries c required presence p es ts ≡ Given v →
      trail c required presence p es ts ≡ list_rows c required p es ts
  over-listed es ts = go (mismatch presence p es ts) (uncovered (prev_id p) es ts)
    where
      go : (m u : Bool) → pick m (Number 8) (pick u (Number 9) (Given (validate c required presence p es ts))) ≡ Given v →
          trail c required presence p es ts ≡ list_rows c required p es ts
      go true u h = impossible (cc)
      go false true h = impossible (cc)
      go false false h = (unruled es ts (cc)).0

  needed_rows : (list : List ℕ) (l : List Listed) → read_list list ≡ Some l → judge_from c presence p list (needed required) ≡ Given v →
      trail_from c presence p list (needed required) ≡ list_rows c required p (directs l) (indirects l)
  needed_rows list l r = go (leb 2 presence) refl
    where
      go : (b : Bool) → leb 2 presence ≡ b →
          pick b (over_list c required presence p (read_list list)) (Given (validate c required presence p [] [])) ≡ Given v →
          pick b (trail_over c required presence p (read_list list)) (trail c required presence p [] [])
          ≡ list_rows c required p (directs l) (indirects l)
      go true e h = rw r (over-listed (directs l) (indirects l) (ap (over_list c required presence p) (sym r) ∙ h))
      go false e h =
          let w : validate c required presence p [] [] ≡ v = cc in
          let u = unruled [] [] w in
          let k = leb-false 2 presence e in
          elim (dec_lt 0 presence) [
            | yes g ↦ absurd (u.1.1 (omega arith))
            | no g ↦ absurd (u.1.0 (omega arith))
          ]

given_listed : (x : Call) (i : Input) (required : Bool) (l : List Listed) (v : verdict.Verdict) → tested_of x ≡ admitted i →
    before i.settings i.schedule (eqb x.leader 1) i.point ≡ needed required → read_list x.list ≡ Some l → judged x ≡ Given v →
    ((m : PointMap) → v ≡ verdict.Invalid (NoRoundInDag m) → ⊥) → trail_of x ≡ list_rows i.settings required i.point (directs l) (indirects l)
unfolding judge_with_in trail_with
given_listed x i required l v t b r h f =
    ap (trail_with x.leader x.presence x.list) t
    ∙ ap (trail_from i.settings x.presence i.point x.list) b
    ∙ needed_rows i.settings required i.point x.presence v f x.list l r
    (ap (judge_from i.settings x.presence i.point x.list) (sym b) ∙ ap (judge_with x.leader x.presence x.list) (sym t) ∙ h)

-- ---- the two lists

list-either : (c : Settings) (required : Bool) (p : PointInfo) (es : List Entry) (ts : List IndirectEntry) →
    (is_empty (direct_rows c required (point_view p) 0 [] es) ≡ false →
    list_rows c required p es ts ≡ direct_rows c required (point_view p) 0 [] es)
    × (direct_rows c required (point_view p) 0 [] es ≡ [] → list_rows c required p es ts ≡ indirect_rows c p 0 [] ts)
unfolding list_rows
list-either c required p es ts = (λ h. rw h refl, λ h. rw h refl)

-- a dropped entry for a link gives no reason
dropped-none : (c : Settings) (p : PointInfo) (a : IndirectEntry) → is_dropped a.entry.state ≡ true → (indirect_findings c p a).trail ≡ []
unfolding indirect_findings dependency dependency_trail
dropped-none c p a h = go a.entry.state h
  where
    go : (d : DagPoint) → is_dropped d ≡ true → dependency_trail (indirect_point_rows c a.role (point_view p)) d ≡ []
    go (Valid q) k = impossible (cc)
    go (TransInvalid q root n) k = impossible (cc)
    go (Invalid q n) k = impossible (cc)
    go (IllFormed i n) k = impossible (cc)
    go (NotFound i) k = impossible (cc)
    go Dropped k = refl

-- ---- roles

unnamed_lem : (r : InvalidReason) → (invalid_number r < 12) ⊎ (15 < invalid_number r) → (invalid_answer r).role ≡ 255
unnamed_lem (NoRoundInDag m) h = refl
unnamed_lem DependencyRoundDropped h = refl
unnamed_lem (NotTrigger i) h = refl
unnamed_lem (TerminalTriggerBeforeLastProof i) h = refl
unnamed_lem (TimeNotGreaterThanInPrevPoint i) h = refl
unnamed_lem (AnchorProofDoesntInheritAnchorTime i) h = refl
unnamed_lem (AnchorTimeNotInheritedFromProof i) h = refl
unnamed_lem (MustHaveReferencedPrevPoint i) h = refl
unnamed_lem (MustHaveSkippedRound i) h = refl
unnamed_lem (DependencyTimeTooFarInFuture i) h = refl
unnamed_lem (NewerAnchorInDependency g i) (inl h) = absurd (omega (arith, h))
unnamed_lem (NewerAnchorInDependency g i) (inr h) = absurd (omega (arith, h))
unnamed_lem (AnchorLink g i) (inl h) = absurd (omega (arith, h))
unnamed_lem (AnchorLink g i) (inr h) = absurd (omega (arith, h))
unnamed_lem (AnchorLinkRole g i) (inl h) = absurd (omega (arith, h))
unnamed_lem (AnchorLinkRole g i) (inr h) = absurd (omega (arith, h))
unnamed_lem (AnchorLinkBadPath g i) (inl h) = absurd (omega (arith, h))
unnamed_lem (AnchorLinkBadPath g i) (inr h) = absurd (omega (arith, h))
unnamed_lem (BadStickySequence i o n) h = refl
unnamed_lem (TriggerProofMismatch i b) h = refl
unnamed_lem (DepIllFormed i n) h = refl
unnamed_lem (DepNotFound i) h = refl

-- ---- the lent trail

too_short : (v : verdict.Verdict) (rows : List Row) (size : ℕ) → size < 8 * length rows → fitted (Given v) rows size ≡ Number 15
too_short v rows size h = ap (λ (b : Bool). pick b (Number 15) (Given v)) (lt-ltb size _ (omega arith))

space_enough : (v : verdict.Verdict) (rows : List Row) (size : ℕ) → 8 * length rows ≤ size → fitted (Given v) rows size ≡ Given v
space_enough v rows size h = ap (λ (b : Bool). pick b (Number 15) (Given v)) (le-ltb size _ (omega arith))

told-written : (v : verdict.Verdict) (rows : List Row) (old : List ℕ) →
    trail_told (Given v) rows old ≡ rows_bytes rows ++ drop (8 * length rows) old
unfolding put_at
told-written v rows old =
    let e : 0 + length (rows_bytes rows) ≡ 8 * length rows = omega (arith, rows_length rows) in
    ap (λ (n : ℕ). rows_bytes rows ++ drop n old) e

-- ---- the peer buffer

given_number : (v : verdict.Verdict) (n : ℕ) → Given v ≡ Number n → ◌≡◌ {A = ℕ} 0 1
given_number v n h = cc

-- where verification found something there are no rows, so none lacks space
with-buffer : (leader presence : ℕ) (list : List ℕ) (t : Tested) (size n : ℕ) (peers : List ℕ) →
    fitted (judge_with leader presence list t) (trail_with leader presence list t) size ≡ Number n → verify_buffer t peers ≡ peers
unfolding judge_with_in trail_with before
with-buffer leader presence list (refused m) size n peers h = refl
with-buffer leader presence list (admitted i) size n peers h =
    go (verify i.settings i.schedule i.point) (eqb i.point.id.round i.settings.genesis_round) (wave_checked i.schedule (eqb leader 1) i.point) h
  where
    go : (o : Option VerifyError) (genesis : Bool) (w : WaveChecked) →
        fitted (judge_from i.settings presence i.point list (before_with o genesis w))
        (trail_from i.settings presence i.point list (before_with o genesis w))
        size
        ≡ Number n →
        buffer_with (scheduled i.settings i.schedule i.point) i.point o peers ≡ peers
    go None genesis w h = refl
    go (Some e) genesis w h =
        let z : ltb size (8 * length {A = Row} []) ≡ false = le-ltb size 0 (omega arith) in
        impossible (given_number (of_error e) n (sym (ap (λ (b : Bool). pick b (Number 15) (Given (of_error e))) z) ∙ h))

pub fired : RulesFired
unfolding over_lists direct_rows indirect_rows rows_bytes little_bytes
fired =
    record {
      same = list-reasons;
      verdicts = λ c required p es ts. refl;
      listed = given_listed;
      last = λ x r h. (given_rows x (verdict.Invalid r) h).0;
      others = λ x v h f. only_invalid v (trail_of x) (given_rows x v h) f;
      rule = λ x m h. (given_rows x (verdict.Invalid (NoRoundInDag m)) h).1 m refl;
      rule_bytes = λ m. refl;
      bytes = λ list place r rest. refl;
      places = λ x r m. all-member (Within 65535) (trail_of x) (with_within x.leader x.presence x.list (tested_of x)) r m;
      proofs = λ i. refl;
      triggers = λ i. refl;
      unnamed = unnamed_lem;
      first = λ c required p. refl;
      next = direct_next;
      drops = λ c required p earlier later e. direct_drops c required p earlier e later;
      adds_none = λ c required p earlier later e. direct-adds_none c required p earlier e later;
      indirect_first = λ c p. refl;
      indirect_next = indirect_next_lem;
      indirect_dropped = dropped-none;
      either = list-either;
      short = λ x size v h k. ap (λ (a : JudgeAnswer). fitted a (trail_of x) size) h ∙ too_short v (trail_of x) size k;
      fits = λ x size v h k. ap (λ (a : JudgeAnswer). fitted a (trail_of x) size) h ∙ space_enough v (trail_of x) size k;
      room = λ x. trail_room x.leader x.presence x.list (tested_of x);
      number = λ x size n h. rw h refl;
      buffer = λ x size n peers. with-buffer x.leader x.presence x.list (tested_of x) size n peers;
      written = told-written;
      counted = λ v rows old. refl;
      kept = λ n rows old. refl;
      uncounted = λ n rows old. refl;
    }
