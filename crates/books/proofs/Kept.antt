-- Every entry of a book that is built of judged points stands, whatever the marks.
use Rattle.std.specs.Prelude.{Option, None, Some}
use Prim.Native.Nat.{ℕ, ◌≤◌}
use native.Mathlib.Omega.{arith}
use mathlib.Core.Path.{◌≡◌, refl, sym, ap, subst}
use mathlib.Core.Bool.{Bool, true, false}
use mathlib.Core.List.Memᴰ
use mathlib.Core.List.{List, [], ◌∷◌, Memᴰ}
use lib.Dec.{eqb}
use borrow.Author.Tests.{eqb-true}
use Rattle.map.specs.Rows.{rising, peers}
use Rattle.point.specs.Point.{PointInfo}
use Rattle.point.proofs.Laws.{readable}
use Rattle.schedule.specs.Settings.{Settings}
use Rattle.schedule.specs.Schedule.{Schedule}
use Rattle.reasons.specs.IllFormed.{ill_formed_number}
use Rattle.reasons.specs.Invalid.{invalid_number}
use Rattle.reasons.specs.Verdict as verdict
use Rattle.reasons.specs.Verdict.{Verdict, of_error}
use Rattle.reasons.specs.declared.ill_formed.VerifyError.{VerifyError}
use Rattle.reasons.specs.declared.ill_formed.VerifyError.TheVariants as case-error
use Rattle.rules.specs.Verify.{verify}
use Rattle.rules.specs.DagPoint.{IndirectEntry, point_view}
use Rattle.rules.specs.Validate.{validate}
use Rattle.rules.specs.Judge.{Input, admitted, JudgeAnswer, Number, Given, before_with, before}
use Rattle.reasons.specs.declared.ill_formed.WaveChecked.{WaveChecked}
use Rattle.reasons.specs.declared.ill_formed.WaveChecked.TheVariants as case-wave
use Rattle.rules.specs.CheckIllFormed.{wave_checked}
use Rattle.rules.specs.Passed.{has_reason, Passed}
use Rattle.rules.proofs.Passed.{validate-all}
use Rattle.books.specs.Kept.{Status, Valid, TransInvalid, Invalid, IllFormed, Kept, Book}
use Rattle.books.specs.Lists.{direct_list, indirect_list}
use Rattle.books.specs.Offer.{Offer, input_tested, answer_over, answer_with, kept_as, left_by, before_in}
use Rattle.books.specs.AnyMarks.{Built, empty, remarks, judges, AnyMarks}
use Rattle.books.proofs.Clear.{over-cases}
use Rattle.books.proofs.Offered.{tested-input}
use Rattle.books.proofs.Shape.{domain-least}
use Rattle.books.proofs.Following.{Stands, AllStand}
use Rattle.books.proofs.Growth.{all_stand_remarked, all_stand_append}
use Rattle.rules.proofs.Verified.{pass_floor, pass_genesis, pass_link}
use Rattle.books.proofs.Dependencies.{includes-held, witness-held, source-linked}
use Rattle.books.proofs.Found.{found-connected}

-- ---- an entry by its verdict

module _ (c : Settings) (b : Book) (p : PointInfo) where
  ill-formed-stands : (n : ℕ) → Stands c b p (IllFormed n)
  ill-formed-stands n = record { floor = λ f. absurd (f n refl); genesis = λ f. absurd (f n refl); includes = λ u. absurd u; witness = λ u. absurd u; linked = λ u. absurd u }

  module _ (s : Schedule) (pass : verify c s p ≡ None) where
    invalid-stands : (n : ℕ) → Stands c b p (Invalid n)
    invalid-stands n =
        record {
          floor = λ f. pass_floor c s p pass;
          genesis = λ f. pass_genesis c s p pass;
          includes = λ u. absurd u;
          witness = λ u. absurd u;
          linked = λ u. absurd u;
        }

    genesis-stands : p.id.round ≡ c.genesis_round → (x : Status) → Stands c b p x
    genesis-stands e x =
        record {
          floor = λ f. pass_floor c s p pass;
          genesis = λ f. pass_genesis c s p pass;
          includes = λ u a. absurd (omega arith);
          witness = λ u a. absurd (omega arith);
          linked = λ u a. absurd (omega arith);
        }

    usable-stands : rising (peers p.includes) ≡ true → 2 ≤ p.id.round → (required : Bool) (ts : List IndirectEntry) →
        Passed c required (point_view p) (direct_list b p) ts → (x : Status) → Stands c b p x
    usable-stands rise second required ts passed x =
        record {
          floor = λ f. pass_floor c s p pass;
          genesis = λ f. pass_genesis c s p pass;
          includes = λ u a. includes-held c b p required rise second passed.entries;
          witness = λ u a. witness-held c b p required rise second passed.entries;
          linked = λ u a g. (let d = pass_link c s p pass a g in source-linked c b p required rise second passed.entries g d.0 d.1);
        }

-- ---- what a judgement leaves

abbrev Each : Settings → Book → List Kept → Type 0
Each c b l = (k : Kept) → Memᴰ k l → Stands c b k.point k.status

-- a number leaves nothing
abbrev left_from : List ℕ → PointInfo → JudgeAnswer → List Kept
left_from bytes p (Number n) = []
left_from bytes p (Given v) = left_by bytes p v

module _ (c : Settings) (s : Schedule) (b : Book) (bytes : List ℕ) (p : PointInfo) (rise : rising (peers p.includes) ≡ true) (second : 2 ≤ p.id.round) where
  each_none : Each c b []
  each_none k m = absurd (Memᴰ.not-nil m)

  each_one : (x : Status) → Stands c b p x → Each c b (kept_as bytes p x ∷ [])
  each_one x h k m = subst (λ (y : Kept). Stands c b y.point y.status) (sym (Memᴰ.eq_of_singleton m)) h

  each_error : (e : VerifyError) → Each c b (left_by bytes p (of_error e))
  each_error (case-error.Fail u) = each_none
  each_error (case-error.IllFormed r) = each_one (IllFormed (ill_formed_number r)) (ill-formed-stands c b p (ill_formed_number r))

  module _ (pass : verify c s p ≡ None) (required : Bool) where
    each_result : (ts : List IndirectEntry) (v : verdict.Verdict) → validate c required 3 p (direct_list b p) ts ≡ v → Each c b (left_by bytes p v)
    each_result ts (verdict.Fail u) h = each_none
    each_result ts (verdict.IllFormed r) h = each_one (IllFormed (ill_formed_number r)) (ill-formed-stands c b p (ill_formed_number r))
    each_result ts (verdict.Invalid r) h = each_one (Invalid (invalid_number r)) (invalid-stands c b p s pass (invalid_number r))
    each_result ts (verdict.TransInvalid d) h =
        each_one (TransInvalid d) (usable-stands c b p s pass rise second required ts (validate-all c required p (direct_list b p) ts 3 (ap has_reason h)) (TransInvalid d))
    each_result ts verdict.Valid h =
        each_one Valid (usable-stands c b p s pass rise second required ts (validate-all c required p (direct_list b p) ts 3 (ap has_reason h)) Valid)

    -- the numbers 7 to 9 leave nothing
    each_lists : (ts : List IndirectEntry) → Each c b (left_from bytes p (answer_over c required 3 p (direct_list b p) ts))
    each_lists ts =
        over-cases c required 3 p (direct_list b p) ts (λ a. Each c b (left_from bytes p a)) (λ n. each_none)
        (each_result ts (validate c required 3 p (direct_list b p) ts) refl)

  each_before : (o : Option VerifyError) → verify c s p ≡ o → (g : Bool) → eqb p.id.round c.genesis_round ≡ g → (w : WaveChecked) →
      Each c b (left_from bytes p (answer_with c 3 p b (before_with o g w)))
  each_before (Some e) v g t w = each_error e
  each_before None v true t w = each_one Valid (genesis-stands c b p s v (eqb-true _ _ t) Valid)
  each_before None v false t case-wave.Horizon = each_none
  each_before None v false t (case-wave.IllFormed r) = each_one (IllFormed (ill_formed_number r)) (ill-formed-stands c b p (ill_formed_number r))
  each_before None v false t (case-wave.Sound required) = each_lists v required (indirect_list b p)

-- ---- every entry of a book that is built of judged points stands, whatever the marks

module _ (c : Settings) where
  judged-stands : (b : Book) (o : Offer) (i : Input) → input_tested c o ≡ admitted i → (v : Verdict) → answer_with c 3 i.point b (before_in i o.leader) ≡ Given v →
      Each c b (left_by o.bytes i.point v)
  unfolding before_in before
  judged-stands b o i t v e =
      let w = tested-input c o i t in
      let four : 4 ≤ i.point.id.round = domain-least i.point w.3 in
      subst (λ (a : JudgeAnswer). Each c b (left_from o.bytes i.point a)) e
      (subst (λ (x : Settings). Each c b (left_from o.bytes i.point (answer_with c 3 i.point b (before x i.schedule (eqb o.leader 1) i.point)))) (sym w.0)
      (each_before c i.schedule b o.bytes i.point (readable o.bytes i.point w.2).includes.rise (omega arith)
      (verify c i.schedule i.point) refl (eqb i.point.id.round c.genesis_round) refl (wave_checked i.schedule (eqb o.leader 1) i.point)))

  built-stands : (b : Book) → Built c b → AllStand c b
  built-stands b empty = λ k m. absurd (Memᴰ.not-nil m)
  built-stands b (remarks d h marks) = all_stand_remarked c marks d (built-stands d h)
  built-stands b (judges d h o i t v e) = all_stand_append c d (left_by o.bytes i.point v) (built-stands d h) (judged-stands d o i t v e)

pub any-marks : AnyMarks
any-marks c b h = found-connected c b (built-stands c b h)
