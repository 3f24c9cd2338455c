-- Laws of the call: the numbers and the verdict in their order.
use Rattle.std.specs.Prelude.{Option, None, Some, Result, Err}
use Prim.Native.Nat.{ℕ, ◌≤◌, ◌<◌}
use native.Mathlib.Omega.{arith}
use mathlib.Core.Path.{◌≡◌, refl, ap, sym, ◌∙◌}
use mathlib.Core.Bool.{Bool, true, false, not, ◌&&◌}
use mathlib.Core.List.{List}
use lib.Dec.{ltb, eqb}
use borrow.Author.Tests.{ne_eqb, lt-ltb, le-ltb}
use Rattle.base.specs.Base.{pick, is_empty}
use Rattle.base.proofs.Impossible.{impossible}
use Rattle.parts.specs.Limits.{peers_room}
use Rattle.point.specs.Point.{PointInfo, prev_id}
use Rattle.point.proofs.Said.{said_read}
use Rattle.point.specs.declared.data.PointMap.TheVariants as case-map
use Rattle.schedule.specs.Settings.{Settings}
use Rattle.schedule.specs.Schedule.{Schedule}
use Rattle.schedule.proofs.Said.{schedule_read}
use Rattle.reasons.specs.Invalid.{NoRoundInDag}
use Rattle.reasons.specs.Verdict.{Verdict, Invalid, of_error}
use Rattle.reasons.specs.declared.ill_formed.VerifyError.{VerifyError}
use Rattle.rules.specs.Verify.{scheduled, verify, buffer_with}
use Rattle.rules.specs.DagPoint.{Entry, IndirectEntry}
use Rattle.rules.specs.Validate.{over_lists, validate}
use Rattle.rules.specs.Judge.{Input, Tested, refused, admitted, verify_buffer, JudgeAnswer, Given, Before, answered, needed, before_with, before, judge_from, over_list, judge_with, judge_with_in}
use Rattle.rules.specs.CheckIllFormed.{wave_checked}
use Rattle.rules.specs.List.{Listed, directs, indirects}
use Rattle.rules.specs.Mismatch.{mismatch, uncovered}
use Rattle.judge_list.specs.Code.{ListJudged, judged_with}
use Rattle.judge.specs.Code.{judge_answer_of}
use Rattle.reasons.specs.Refusal.{refusal_number}
use Rattle.reasons.specs.declared.refusal.Refusal.{Refusal}
use Rattle.reasons.specs.declared.verdict.Verdict as code-verdict

-- ---- the answer over a list, from what judging came to and the tests that led there

-- what a test told of a list, if it was read
abbrev pub Mismatch : ℕ → PointInfo → Option (List Listed) → Bool → Type 0
Mismatch presence p o b = (l : List Listed) → o ≡ Some l → b ≡ mismatch presence p (directs l) (indirects l)

module _ (c : Settings) (required : Bool) (p : PointInfo) where
  -- what judging over a list came to, if that was read
  abbrev pub Over : Option (List Listed) → Option ListJudged → Type 0
  Over o j = j ≡ judged_with c required p o

  over-is : (l : List Listed) (j : ListJudged) → Over (Some l) (Some j) →
      j
      ≡ record {
        verdict = over_lists c required p (directs l) (indirects l);
        uncovered = uncovered (prev_id p) (directs l) (indirects l);
      }
  over-is l j h = cc

  is-uncovered : (l : List Listed) (j : ListJudged) → Over (Some l) (Some j) → uncovered (prev_id p) (directs l) (indirects l) ≡ j.uncovered
  is-uncovered l j h = sym (ap (λ (k : ListJudged). k.uncovered) (over-is l j h))

module _ (c : Settings) (required : Bool) (presence : ℕ) (p : PointInfo) where
  -- past the numbers
  answer-judged : (l : List Listed) (j : ListJudged) → Over c required p (Some l) (Some j) →
      Mismatch presence p (Some l) false → j.uncovered ≡ false →
      Given (validate c required presence p (directs l) (indirects l)) ≡ over_list c required presence p (Some l)
  answer-judged l j h m u = rw (sym (m l refl), is-uncovered c required p l j h, u)

  module _ (two : 2 ≤ presence) where
    -- whether the witness round lacks
    by-witness : (b : Bool) (es : List Entry) (ts : List IndirectEntry) → b ≡ (eqb presence 2 && not (is_empty p.witness)) →
        validate c required presence p es ts ≡ pick b (Invalid (NoRoundInDag case-map.Witness)) (over_lists c required p es ts)
    unfolding validate
    by-witness true es ts h = rw (← h, ne_eqb presence 0 (λ e. omega (arith, two, e)), ne_eqb presence 1 (λ e. omega (arith, two, e)))
    by-witness false es ts h = rw (← h, ne_eqb presence 0 (λ e. omega (arith, two, e)), ne_eqb presence 1 (λ e. omega (arith, two, e)))

    pub answer-witness : (o : Option (List Listed)) (j : ListJudged) → Over c required p o (Some j) →
        Mismatch presence p o false → j.uncovered ≡ false → true ≡ (eqb presence 2 && not (is_empty p.witness)) →
        Given (Invalid (NoRoundInDag case-map.Witness)) ≡ over_list c required presence p o
    answer-witness None j h m u n = impossible (cc)
    answer-witness (Some l) j h m u n =
        ap Given (sym (by-witness true (directs l) (indirects l) n)) ∙ answer-judged l j h m u

    pub answer-verdict : (o : Option (List Listed)) (j : ListJudged) → Over c required p o (Some j) →
        Mismatch presence p o false → j.uncovered ≡ false → false ≡ (eqb presence 2 && not (is_empty p.witness)) → Given j.verdict ≡ over_list c required presence p o
    answer-verdict None j h m u n = impossible (cc)
    answer-verdict (Some l) j h m u n =
        ap (λ (k : ListJudged). Given k.verdict) (over-is c required p l j h)
        ∙ (ap Given (sym (by-witness false (directs l) (indirects l) n)) ∙ answer-judged l j h m u)

-- ---- before the list

module _ (c : Settings) (presence : ℕ) (p : PointInfo) (list : List ℕ) where
  abbrev pub From : Before → JudgeAnswer → Type 0
  From b a = a ≡ judge_from c presence p list b

  module _ (required : Bool) where
    pub answer-evidence : presence ≡ 0 → From (needed required) (Given (Invalid (NoRoundInDag case-map.Evidence)))
    unfolding validate
    answer-evidence h = rw h

    pub answer-includes : presence ≡ 1 → From (needed required) (Given (Invalid (NoRoundInDag case-map.Includes)))
    unfolding validate
    answer-includes h = rw h

-- ---- what is known before the list

module _ (c : Settings) (s : Schedule) (leader : Bool) (p : PointInfo) (o : Option VerifyError) (e : o ≡ verify c s p) where
  -- a verification that didn't pass
  pub before_failed : (v : Verdict) (x : VerifyError) → o ≡ Some x → v ≡ of_error x → answered (Given v) ≡ before c s leader p
  unfolding before
  before_failed v x f g = rw (← e, f, g)

  -- one that passed
  pub before-passed : (b : Before) → o ≡ None → b ≡ before_with None (eqb p.id.round c.genesis_round) (wave_checked s leader p) → b ≡ before c s leader p
  unfolding before
  before-passed b f g = g ∙ rw (← e, f)

-- ---- the call's answer and the buffer, from what its input was tested for

-- of what numbers 1 to 4 admitted, by the size of the peer buffer
module _ (t : Tested) (i : Input) (size : ℕ) (e : pick (ltb size peers_room) (refused 5) (admitted i) ≡ t) where
  pub tested-short : size < peers_room → t ≡ refused 5
  tested-short g = sym e ∙ ap (λ (b : Bool). pick b (refused 5) (admitted i)) (lt-ltb size peers_room g)

  pub tested-admitted : peers_room ≤ size → t ≡ admitted i
  tested-admitted g = sym e ∙ ap (λ (b : Bool). pick b (refused 5) (admitted i)) (le-ltb size peers_room g)

module _ (leader presence : ℕ) (list : List ℕ) where
  -- the answer stands for what was found, and the buffer holds what it should
  abbrev pub Answered : Tested → Result code-verdict.Verdict Refusal → List ℕ → List ℕ → Type 0
  Answered t a old new = (judge_answer_of a ≡ judge_with leader presence list t) × (new ≡ verify_buffer t old)

  pub answer-number : (t : Tested) (r : Refusal) (old : List ℕ) → t ≡ refused (refusal_number r) → Answered t (Err r) old old
  unfolding judge_with_in
  answer-number t r old h = rw h (refl, refl)

  -- the input was admitted, and this is known before the list
  pub answer-taken : (t : Tested) (i : Input) (a : Result code-verdict.Verdict Refusal) (b : Before) (old new : List ℕ) → t ≡ admitted i →
      b ≡ before i.settings i.schedule (eqb leader 1) i.point → judge_answer_of a ≡ judge_from i.settings presence i.point list b →
      new ≡ buffer_with (scheduled i.settings i.schedule i.point) i.point (verify i.settings i.schedule i.point) old →
      Answered t a old new
  unfolding judge_with_in
  answer-taken t i a b old new h e f g = rw h (f ∙ ap (judge_from i.settings presence i.point list) e, g)

-- what the readers of a schedule and of a record say
pub ruleset parts_read = (schedule_read, said_read)
