-- A call whose verdict is TransInvalid: what its list holds, and what is judged once a point's flags are set.
use Rattle.std.specs.Prelude.{Option, None, Some, option_map, Ok}
use Prim.Native.Nat.{ℕ}
use native.Mathlib.Omega.{arith}
use native.Mathlib.Decide.{dec_lt}
use lib.Dec.{leb, eqb}
use borrow.Author.Tests.{leb-false, eq-eqb, not-false}
use mathlib.Core.Path.{◌≡◌, refl, sym, ap, ◌∙◌, subst}
use mathlib.Core.Bool.{Bool, true, false, not}
use mathlib.Core.List.{List, [], map, Memᴰ}
use Rattle.base.specs.Base.{pick}
use Rattle.base.proofs.Bool.{clash, never, and_right, or_left, or_right}
use Rattle.base.proofs.Option.{none-some, has}
use Rattle.base.proofs.Impossible.{impossible}
use Rattle.parts.specs.Bytes.{Bytes}
use Rattle.point.specs.Point.{PointId, PointInfo, same_id}
use Rattle.point.proofs.Fits.{IdFits}
use Rattle.point.proofs.Ids.{same_eq, eq_same}
use Rattle.schedule.specs.Settings.{Settings}
use Rattle.schedule.specs.Schedule.{Schedule}
use Rattle.reasons.specs.Invalid.{InvalidDependency}
use Rattle.reasons.specs.Verdict as verdict
use Rattle.reasons.specs.Verdict.{Verdict}
use Rattle.reasons.specs.declared.ill_formed.VerifyError.{VerifyError}
use Rattle.reasons.specs.declared.ill_formed.VerifyError.TheVariants as case-error
use Rattle.reasons.specs.declared.ill_formed.WaveChecked.{WaveChecked}
use Rattle.reasons.specs.declared.ill_formed.WaveChecked.TheVariants as case-wave
use Rattle.rules.specs.DagPoint.{Entry, entry_id, is_dropped, point_view}
use Rattle.rules.specs.List.{Listed, read_list, indirects}
use Rattle.rules.specs.Mismatch.{all_targets, mismatch}
use Rattle.rules.specs.Verify.{verify}
use Rattle.rules.specs.CheckIllFormed.{wave_checked}
use Rattle.rules.specs.Validate.{taken, validate}
use Rattle.rules.specs.Judge.{Tested, refused, admitted, JudgeAnswer, Given, Before, answered, needed, before_with, before, over_list, judge_from, judge_with, judge_with_in}
use Rattle.rules.specs.Passed.{has_reason}
use Rattle.rules.specs.Clearing.{recording, recording_over, recording_from, recording_with, NoSingleMark, ClearedBy, by_one, clearing_of, clearing_with}
use Rattle.rules.specs.Cleared.{is_of, marked, with_mark}
use Rattle.rules.proofs.Verified.{pass_floor, pass_target}
use Rattle.rules.proofs.Brought.{record_for}
use Rattle.rules.proofs.Greatest.{join_all, earliest}
use Rattle.rules.proofs.Given.{Ordered, read-ordered, early}
use Rattle.rules.proofs.AnyOrder.{this_record, member_middle}
use Rattle.rules.proofs.Marks.{marks}
use Rattle.rules.proofs.Marked.{NoVersion}
use Rattle.rules.proofs.Recording.{one-all, none-all, recorded-in, in-recorded}
use Rattle.rules.proofs.ClearingBytes.{id_fits}
use Rattle.rules.proofs.Entries.{ListedFits, list-fits}
use Rattle.rules.proofs.All.{All, all-member}
use Rattle.rules.proofs.MarkedRecords.{recording-kept, recording_is, marked_none, marked_other, TargetsBelow, never_version, Passing, passing, record_is, over, marked_valid, valid_none}

-- ---- before the list

-- what decides before the list is read is not TransInvalid; and where the list is needed, verification passed above genesis
never-waits : (c : Settings) (s : Schedule) (leader : Bool) (p : PointInfo) (d : InvalidDependency) → before c s leader p ≡ answered (Given (verdict.TransInvalid d)) → ⊥
unfolding before
never-waits c s leader p d = go (verify c s p) (eqb p.id.round c.genesis_round) (wave_checked s leader p)
  where
    go : (o : Option VerifyError) (g : Bool) (w : WaveChecked) → before_with o g w ≡ answered (Given (verdict.TransInvalid d)) → ⊥
    go (Some (case-error.Fail u)) g w h = impossible (cc)
    go (Some (case-error.IllFormed r)) g w h = impossible (cc)
    go None true w h = impossible (cc)
    go None false case-wave.Horizon h = impossible (cc)
    go None false (case-wave.IllFormed r) h = impossible (cc)
    go None false (case-wave.Sound required) h = impossible (cc)

needed_passed : (c : Settings) (s : Schedule) (leader : Bool) (p : PointInfo) (required : Bool) → before c s leader p ≡ needed required →
    (verify c s p ≡ None) × (eqb p.id.round c.genesis_round ≡ false)
unfolding before
needed_passed c s leader p required h = go (verify c s p) refl (eqb p.id.round c.genesis_round) refl (wave_checked s leader p) h
  where
    go : (o : Option VerifyError) → verify c s p ≡ o → (g : Bool) → eqb p.id.round c.genesis_round ≡ g → (w : WaveChecked) →
        before_with o g w ≡ needed required → (verify c s p ≡ None) × (eqb p.id.round c.genesis_round ≡ false)
    go (Some e) u g f w k = impossible (cc)
    go None u true f w k = impossible (cc)
    go None u false f w k = (u, f)

targets_below : (c : Settings) (s : Schedule) (leader : Bool) (p : PointInfo) (required : Bool) → before c s leader p ≡ needed required → TargetsBelow p
targets_below c s leader p required h =
    let w = needed_passed c s leader p required h in
    let f = pass_floor c s p w.0 in
    pass_target c s p w.0 (elim (dec_lt c.genesis_round p.id.round) [
      | yes k ↦ k
      | no k ↦ clash (eqb p.id.round c.genesis_round) (eq-eqb p.id.round c.genesis_round (omega arith)) w.1
    ])

-- ---- a call whose verdict is TransInvalid

-- what its list holds, what is said of it, and what is judged once a point's flags are set
pub record Waiting (leader presence : ℕ) (s : List ℕ) (t : Tested) (d : InvalidDependency) : Type 0 where
  pub settings : Settings
  pub point : PointInfo
  pub required : Bool
  pub list : List Listed
  pub read : read_list s ≡ Some list
  pub below : TargetsBelow point
  pub given : over settings required presence point list ≡ Given (verdict.TransInvalid d)
  pub clears : clearing_with leader presence s t ≡ Ok (by_one (recording settings required point list))
  pub marks : (i : PointId) → judge_with leader presence (marked i s) t ≡ over settings required presence point (map (with_mark i) list)

-- what is judged of a list that was read, and the points of it that record
module _ (c : Settings) (presence : ℕ) (p : PointInfo) (s : List ℕ) (b : Before) (required : Bool) (l : List Listed) (e : b ≡ needed required) (f : leb 2 presence ≡ true) (r : read_list s ≡ Some l) where
  judged_over : judge_from c presence p s b ≡ over c required presence p l
  judged_over =
      ap (judge_from c presence p s) e
      ∙ ap (λ (k : Bool). pick k (over_list c required presence p (read_list s)) (Given (validate c required presence p [] []))) f
      ∙ ap (over_list c required presence p) r

  recorded_over : recording_from c presence p s b ≡ recording c required p l
  recorded_over =
      ap (recording_from c presence p s) e
      ∙ ap (λ (k : Bool). pick k (recording_over c required p (read_list s)) []) f
      ∙ ap (recording_over c required p) r

pub waiting : (leader presence : ℕ) (s : List ℕ) (t : Tested) (d : InvalidDependency) → judge_with leader presence s t ≡ Given (verdict.TransInvalid d) →
    Waiting leader presence s t d
unfolding judge_with_in recording_with
waiting leader presence s (refused n) d h = impossible (cc)
waiting leader presence s (admitted i) d h = go (before i.settings i.schedule (eqb leader 1) i.point) refl h
  where
    first : Before
    first = before i.settings i.schedule (eqb leader 1) i.point

    ids : List PointId
    ids = recording_from i.settings presence i.point s first

    from_list : (required : Bool) → before i.settings i.schedule (eqb leader 1) i.point ≡ needed required → leb 2 presence ≡ true →
        (o : Option (List Listed)) → read_list s ≡ o → over_list i.settings required presence i.point o ≡ Given (verdict.TransInvalid d) →
        Waiting leader presence s (admitted i) d
    from_list required e f None r k = impossible (cc)
    from_list required e f (Some l) r k =
        record {
          settings = i.settings;
          point = i.point;
          required = required;
          list = l;
          read = r;
          below = targets_below i.settings i.schedule (eqb leader 1) i.point required e;
          given = k;
          clears = ap (λ (a : JudgeAnswer). clearing_of a ids) (judged_over i.settings presence i.point s first required l e f r ∙ k)
              ∙ ap (λ (m : List PointId). Ok (by_one m)) (recorded_over i.settings presence i.point s first required l e f r);
          marks = λ j. judged_over i.settings presence i.point (marked j s) first required (map (with_mark j) l) e f (marks j s ∙ ap (option_map _) r);
        }

    from-presence : (required : Bool) → before i.settings i.schedule (eqb leader 1) i.point ≡ needed required →
        (b : Bool) → leb 2 presence ≡ b →
        pick b (over_list i.settings required presence i.point (read_list s)) (Given (validate i.settings required presence i.point [] [])) ≡ Given (verdict.TransInvalid d) →
        Waiting leader presence s (admitted i) d
    from-presence required e true f k = from_list required e f (read_list s) refl k
    from-presence required e false f k =
        let v : validate i.settings required presence i.point [] [] ≡ verdict.TransInvalid d = cc in
        clash (has_reason (validate i.settings required presence i.point [] []))
        (early i.settings presence i.point verdict.Valid required [] [] (leb-false 2 presence f)) (ap has_reason v)

    go : (b : Before) → before i.settings i.schedule (eqb leader 1) i.point ≡ b → judge_from i.settings presence i.point s b ≡ Given (verdict.TransInvalid d) →
        Waiting leader presence s (admitted i) d
    go (answered a) e k = absurd (never-waits i.settings i.schedule (eqb leader 1) i.point d (e ∙ ap answered k))
    go (needed required) e k = from-presence required e (leb 2 presence) refl k

module _ (leader presence : ℕ) (s : List ℕ) (t : Tested) (d : InvalidDependency) (w : Waiting leader presence s t d) where
  abbrev recorder : Listed → Option InvalidDependency
  recorder = record_for w.settings w.required w.point

  abbrev ids : List PointId
  ids = recording w.settings w.required w.point w.list

  is_passing : Passing w.settings w.required presence w.point w.list (verdict.TransInvalid d)
  is_passing = passing w.settings w.required presence w.point w.list (verdict.TransInvalid d) w.given

  named_targets : all_targets w.point false false (indirects w.list) ≡ true
  unfolding mismatch
  named_targets =
      not-false _
      (or_left (not (all_targets w.point false false (indirects w.list))) _
      (or_right _ _ (or_right _ _ is_passing.matched)))

  marked_ordered : (i : PointId) → Ordered (map (with_mark i) w.list)
  marked_ordered i = read-ordered (marked i s) (map (with_mark i) w.list) (marks i s ∙ ap (option_map (λ l. map (with_mark i) l)) w.read)

  -- the point of an entry that records is no version of the author's point that was not found
  no-version : (x : Listed) (e : InvalidDependency) → Memᴰ x w.list → recorder x ≡ Some e → (y : Entry) → NoVersion (entry_id x.entry.state) (point_view w.point) y
  no-version x e m h y n v k =
      never (is_of (entry_id x.entry.state) y) (λ o.
      (let i : entry_id y.state ≡ entry_id x.entry.state = same_eq (entry_id y.state) (entry_id x.entry.state) (and_right (not (is_dropped y.state)) _ o) in
      never_version w.settings w.required w.point w.below w.list named_targets x e m h (ap (taken (point_view w.point)) (sym i) ∙ v)))

  -- once the one point is marked of which all recording entries are, none records
  none_after : (i : PointId) → ((k : PointId) → Memᴰ k ids → k ≡ i) → (y : Listed) → Memᴰ y w.list → recorder (with_mark i y) ≡ None
  none_after i f y m = go (is_of i y.entry) refl (recorder y) refl
    where
      go : (b : Bool) → is_of i y.entry ≡ b → (o : Option InvalidDependency) → recorder y ≡ o → recorder (with_mark i y) ≡ None
      go true e o h = marked_none w.settings w.required w.point i y e
      go false e None h = marked_other w.settings w.required w.point i y e ∙ h
      go false e (Some k) h =
          let r = recording_is w.settings w.required w.point i y k h (f (entry_id y.entry.state) (recorded-in w.settings w.required w.point w.list y k m h)) in
          clash (is_of i y.entry) r e

  pub clears_is : (i : PointId) → by_one ids ≡ ClearedBy i → judge_with leader presence (marked i s) t ≡ Given verdict.Valid
  clears_is i h =
      let a = one-all ids i h in
      let x = in-recorded w.settings w.required w.point w.list i a.0 in
      w.marks i
      ∙ marked_valid w.settings w.required presence w.point i w.list (verdict.TransInvalid d) is_passing refl
      (λ y m. subst (λ (k : PointId). NoVersion k (point_view w.point) y) x.4 (no-version x.0 x.1 x.2 x.3 y))
      (marked_ordered i)
      (none_after i a.1)

  -- where a mark clears, every entry that records is of its point
  pub valid_one : (j : PointId) → judge_with leader presence (marked j s) t ≡ Given verdict.Valid → (k : PointId) → Memᴰ k ids → k ≡ j
  valid_one j h k m =
      let x = in-recorded w.settings w.required w.point w.list k m in
      let n = valid_none w.settings w.required presence w.point j w.list (marked_ordered j) (sym (w.marks j) ∙ h) x.0 x.2 in
      go x.0 x.1 x.3 n x.4 (is_of j x.0.entry) refl
    where
      go : (y : Listed) (e : InvalidDependency) → recorder y ≡ Some e → recorder (with_mark j y) ≡ None → entry_id y.entry.state ≡ k →
          (b : Bool) → is_of j y.entry ≡ b → k ≡ j
      go y e r n q true o = sym q ∙ same_eq (entry_id y.entry.state) j (and_right (not (is_dropped y.entry.state)) _ o)
      go y e r n q false o = none-some (sym n ∙ marked_other w.settings w.required w.point j y o ∙ r)

  some-recorded : (k : PointId) × Memᴰ k ids
  some-recorded =
      let r = record_is w.settings w.required presence w.point w.list (verdict.TransInvalid d) is_passing refl (read-ordered s w.list w.read) in
      let e = earliest recorder d w.list (this_record (join_all recorder None w.list) d (sym r)) in (
        entry_id e.entry.entry.state,
        recorded-in w.settings w.required w.point w.list e.entry d
            (subst (Memᴰ e.entry) (sym e.place) (member_middle e.before e.entry e.after)) e.brings,
      )

  pub none_clears : by_one ids ≡ NoSingleMark → (j : PointId) → judge_with leader presence (marked j s) t ≡ Given verdict.Valid → ⊥
  none_clears h j v =
      let o = none-all ids some-recorded.0 some-recorded.1 h j in
      clash (same_id o.0 j) (eq_same o.0 j (valid_one j v o.0 o.1)) o.2

  -- the point of an entry that was read from bytes fits them
  pub recorded-fits : Bytes s → (i : PointId) → by_one ids ≡ ClearedBy i → IdFits i
  recorded-fits b i h =
      let x = in-recorded w.settings w.required w.point w.list i (one-all ids i h).0 in
      let f = all-member ListedFits w.list (has (All ListedFits) (read_list s) w.list (list-fits s b) w.read) x.0 x.2 in
      subst IdFits x.4 (id_fits x.0.entry.state (recording-kept w.settings w.required w.point x.0 x.1 x.3) f)
