-- Numbers, and the bytes of verdicts, tell the answer of a call.
use Rattle.std.specs.Prelude.{Option, None, Some, is_some, Result, Ok, Err}
use Prim.Native.Nat.{ℕ, ◌≤◌}
use native.Mathlib.Omega.{arith}
use mathlib.Core.Path.{◌≡◌, refl, ap, sym, ◌∙◌, subst}
use mathlib.Core.Bool.{Bool, true, false, not, ◌&&◌}
use mathlib.Core.List.{List, []}
use lib.ListN.{length}
use lib.Dec.{ltb, leb, eqb}
use Rattle.base.specs.Base.{pick}
use Rattle.base.proofs.Option.{IfSome, has}
use Rattle.parts.specs.Bytes.{bytes_at, put_at}
use Rattle.parts.specs.Limits.{peers_room}
use Rattle.write.proofs.Laws.{put_read}
use Rattle.point.specs.Point.{PointInfo, in_domain, prev_digest, prev_id, is_wave_link_ok}
use Rattle.point.specs.Reading.{read_point}
use Rattle.point.proofs.Laws.{readable}
use Rattle.schedule.specs.Settings.{Settings, read_settings}
use Rattle.schedule.specs.Schedule.{Schedule, read_schedule, require_regular_points}
use Rattle.schedule.proofs.Laws.{peers-few}
use Rattle.reasons.specs.IllFormed.{ill_formed_answer}
use Rattle.reasons.specs.Verdict as verdict
use Rattle.reasons.specs.Verdict.{of_error}
use Rattle.reasons.specs.declared.ill_formed.IllFormedReason.TheVariants.{NotRegular, BadWaveLink}
use Rattle.reasons.specs.declared.ill_formed.VerifyError.{VerifyError}
use Rattle.reasons.specs.declared.ill_formed.VerifyError.TheVariants as case-error
use Rattle.reasons.specs.declared.ill_formed.WaveChecked.{WaveChecked}
use Rattle.reasons.specs.declared.ill_formed.WaveChecked.TheVariants as case-wave
use Rattle.rules.specs.Verify.{verify}
use Rattle.rules.specs.CheckIllFormed.{is_regular, wave_checked_with, wave_checked}
use Rattle.rules.specs.DagPoint.{Entry, IndirectEntry}
use Rattle.rules.specs.List.{Listed, read_list, directs, indirects}
use Rattle.rules.specs.Mismatch.{mismatch, uncovered}
use Rattle.rules.specs.Validate.{validate}
use Rattle.rules.specs.Judge.{VerifyAnswer, Input, Tested, refused, admitted, tested_with, tested, tested_in, verified_from, verify_with, JudgeAnswer, Number, Given, Before, answered, needed, before_with, before, over_entries, over_list, judge_from, flags_ok, judge_with, judge_with_in}
use Rattle.rules.specs.Answer.{verified_answer, verdict_answer, answer_bytes, verify_number, verify_answer, judge_number, judge_answer}
use Rattle.rules.specs.Told.{Call, OfBytes, verified, judged, Told}
use Rattle.point.proofs.Fits.{read-fits}
use Rattle.rules.proofs.All.{All}
use Rattle.rules.proofs.AnswerBytes.{AnswerFits, answer-length, answer-same}
use Rattle.rules.proofs.Decoded.{verified_of, verified-back, verdict_of, verdict-back}
use Rattle.rules.proofs.Faults.{none-fits, no_point-fits, ill-fits, flag-fits, ErrorFits, verify-fits}
use Rattle.rules.proofs.Reasons.{EntryFits, IndirectFits, VerdictFits, valid-fits, validate-fits}
use Rattle.rules.proofs.Entries.{ListedFits, list-fits, directs_fit, indirects_fit}

-- ---- the numbers 1 to 5

-- what was read, where a call goes on
record Read (s r : List ℕ) (i : Input) : Type 0 where
  schedule : read_schedule s ≡ Some i.schedule
  point : read_point r ≡ Some i.point

module _ (P : Tested → Type 0) (settings schedule point : List ℕ) (refuse : (n : ℕ) → 1 ≤ n → n ≤ 5 → P (refused n))
    (admit : (i : Input) → Read schedule point i → P (admitted i)) where
  tested-cases : (others : Bool) (size : ℕ) → P (tested settings schedule point others size)
  unfolding tested_in
  tested-cases others size = go (read_settings settings) (read_schedule schedule) (read_point point) refl refl
    where
      past : (c : Settings) (s : Schedule) (p : PointInfo) → read_schedule schedule ≡ Some s → read_point point ≡ Some p → (x y : Bool) →
          P (pick x (refused 4) (pick y (refused 5) (admitted (record { settings = c; schedule = s; point = p }))))
      past c s p e f true y = refuse 4 (omega arith) (omega arith)
      past c s p e f false true = refuse 5 (omega arith) (omega arith)
      past c s p e f false false = admit (record { settings = c; schedule = s; point = p }) (record { schedule = e; point = f })

      go : (c : Option Settings) (s : Option Schedule) (p : Option PointInfo) → read_schedule schedule ≡ s → read_point point ≡ p → P (tested_with c s p others size)
      go None s p e f = refuse 1 (omega arith) (omega arith)
      go (Some c) None p e f = refuse 2 (omega arith) (omega arith)
      go (Some c) (Some s) None e f = refuse 3 (omega arith) (omega arith)
      go (Some c) (Some s) (Some p) e f = past c s p e f (not (in_domain p && others)) (ltb size peers_room)

-- ---- what the calls give

module _ (x : Call) where
  -- of a call's answer: a number is in its range, and of bytes a verdict fits
  abbrev VerifyOk : VerifyAnswer → Type 0
  VerifyOk (Err n) = (1 ≤ n) × (n ≤ 5)
  VerifyOk (Ok v) = OfBytes x → AnswerFits (verified_answer v)

  abbrev JudgeOk : JudgeAnswer → Type 0
  JudgeOk (Number n) = (1 ≤ n) × (n ≤ 9)
  JudgeOk (Given v) = OfBytes x → VerdictFits v

  module _ (i : Input) (r : Read x.schedule x.point i) where
    found-fits : OfBytes x → IfSome ErrorFits (verify i.settings i.schedule i.point)
    found-fits b =
        let w = readable x.point i.point r.point in
        verify-fits i.settings i.schedule i.point (read-fits x.point i.point b.0 r.point)
        (λ round. (peers-few x.schedule i.schedule round r.schedule).few) w.evidence.few w.includes.few

    passed_ok : (o : Option VerifyError) → (OfBytes x → IfSome ErrorFits o) → VerifyOk (Ok (verified_from o))
    passed_ok None f b = record { id = no_point-fits; first = none-fits 4; second = none-fits 4; peer = none-fits 32 }
    passed_ok (Some e) f b = f b

    -- 6, or the wave's faults

    abbrev WaveFits : WaveChecked → Type 0
    WaveFits case-wave.Horizon = Unit
    WaveFits (case-wave.IllFormed f) = AnswerFits (ill_formed_answer f)
    WaveFits (case-wave.Sound b) = Unit

    wave_fits : (leader : Bool) → WaveFits (wave_checked i.schedule leader i.point)
    unfolding wave_checked
    wave_fits leader = go (require_regular_points i.schedule i.point.id.round)
      where
        regular : (b : Bool) → WaveFits (pick b (case-wave.Sound true) (case-wave.IllFormed NotRegular))
        regular true = tt
        regular false = ill-fits 15 255 255 0 0 0 (none-fits 4) (none-fits 4)

        link : (b : Bool) → WaveFits (pick b (case-wave.Sound false) (case-wave.IllFormed (BadWaveLink leader)))
        link true = tt
        link false = ill-fits 16 255 255 _ 0 0 (flag-fits leader) (none-fits 4)

        go : (o : Option Bool) → WaveFits (wave_checked_with o leader i.point)
        go None = tt
        go (Some true) = regular (is_regular i.point.role)
        go (Some false) =
            link (is_wave_link_ok leader (is_some (prev_digest i.point)) i.point.id.round i.point.anchor_proof i.point.role)

    error_ok : (e : VerifyError) → ErrorFits e → VerdictFits (of_error e)
    error_ok (case-error.Fail u) f = (f, tt)
    error_ok (case-error.IllFormed q) f = (f, tt)

    abbrev BeforeOk : Before → Type 0
    BeforeOk (answered a) = JudgeOk a
    BeforeOk (needed b) = Unit

    before_ok : (leader : Bool) → BeforeOk (before i.settings i.schedule leader i.point)
    unfolding before
    before_ok leader =
        go (verify i.settings i.schedule i.point) (eqb i.point.id.round i.settings.genesis_round)
        (wave_checked i.schedule leader i.point) found-fits (wave_fits leader)
      where
        go : (o : Option VerifyError) (genesis : Bool) (w : WaveChecked) → (OfBytes x → IfSome ErrorFits o) → WaveFits w → BeforeOk (before_with o genesis w)
        go (Some e) genesis w f g = λ b. error_ok e (f b)
        go None true w f g = λ b. valid-fits
        go None false case-wave.Horizon f g = (omega arith, omega arith)
        go None false (case-wave.IllFormed q) f g = λ b. (g, tt)
        go None false (case-wave.Sound required) f g = tt

    -- the list

    over_ok : (required : Bool) (presence : ℕ) (es : List Entry) (ts : List IndirectEntry) → (OfBytes x → All EntryFits es) → (OfBytes x → All IndirectFits ts) →
        JudgeOk (Given (validate i.settings required presence i.point es ts))
    over_ok required presence es ts f g b =
        validate-fits i.settings required i.point (read-fits x.point i.point b.0 r.point) es ts (f b) (g b) presence

    entries_ok : (required : Bool) (presence : ℕ) (l : List Listed) → read_list x.list ≡ Some l →
        JudgeOk (over_entries i.settings required presence i.point (directs l) (indirects l))
    entries_ok required presence l e =
        go (mismatch presence i.point (directs l) (indirects l)) (uncovered (prev_id i.point) (directs l) (indirects l))
      where
        fits : OfBytes x → All ListedFits l
        fits b = has (All ListedFits) (read_list x.list) l (list-fits x.list b.1) e

        go : (y z : Bool) → JudgeOk (pick y (Number 8) (pick z (Number 9) (Given (validate i.settings required presence i.point (directs l) (indirects l)))))
        go true z = (omega arith, omega arith)
        go false true = (omega arith, omega arith)
        go false false = over_ok required presence (directs l) (indirects l) (λ b. directs_fit l (fits b)) (λ b. indirects_fit l (fits b))

    list_ok : (required : Bool) (presence : ℕ) → JudgeOk (over_list i.settings required presence i.point (read_list x.list))
    list_ok required presence = go (read_list x.list) refl
      where
        go : (o : Option (List Listed)) → read_list x.list ≡ o → JudgeOk (over_list i.settings required presence i.point o)
        go None e = (omega arith, omega arith)
        go (Some l) e = entries_ok required presence l e

    from_ok : (presence : ℕ) (z : Before) → BeforeOk z → JudgeOk (judge_from i.settings presence i.point x.list z)
    from_ok presence (answered a) h = h
    from_ok presence (needed required) h = go (leb 2 presence)
      where
        go : (b : Bool) →
            JudgeOk
            (pick b (over_list i.settings required presence i.point (read_list x.list)) (Given (validate i.settings required presence i.point [] [])))
        go true = list_ok required presence
        go false = over_ok required presence [] [] (λ b. tt) (λ b. tt)

  verified_ok : VerifyOk (verified x)
  verified_ok =
      tested-cases (λ t. VerifyOk (verify_with t)) x.settings x.schedule x.point (λ n a b. (a, b))
      (λ i r. passed_ok i r (verify i.settings i.schedule i.point) (found-fits i r)) true x.size

  judged_ok : JudgeOk (judged x)
  unfolding judge_with_in
  judged_ok =
      tested-cases (λ t. JudgeOk (judge_with x.leader x.presence x.list t)) x.settings x.schedule x.point (λ n a b. (a, omega arith))
      (λ i r. from_ok i r x.presence (before i.settings i.schedule (eqb x.leader 1) i.point) (before_ok i r (eqb x.leader 1))) (flags_ok x.leader x.presence) x.size

-- ---- so

verified-same : (v w : Result Unit VerifyError) → AnswerFits (verified_answer v) → AnswerFits (verified_answer w) → answer_bytes (verified_answer v) ≡ answer_bytes (verified_answer w) → v ≡ w
verified-same v w f g h = sym (verified-back v) ∙ ap verified_of (answer-same (verified_answer v) (verified_answer w) f g h) ∙ verified-back w

verdict-same : (v w : verdict.Verdict) → VerdictFits v → VerdictFits w → answer_bytes (verdict_answer v) ≡ answer_bytes (verdict_answer w) → v ≡ w
verdict-same v w f g h =
    sym (verdict-back v f.1) ∙ ap verdict_of (answer-same (verdict_answer v) (verdict_answer w) f.0 g.0 h) ∙ verdict-back w g.1

-- bytes that were put in front tell what was put
put_same : (s t v w : List ℕ) → length v ≡ 114 → length w ≡ 114 → put_at s 0 v ≡ put_at t 0 w → v ≡ w
put_same s t v w m n h =
    sym (put_read s 0 v 114 m (omega arith)) ∙ ap (λ (l : List ℕ). bytes_at 114 l 0) h ∙ put_read t 0 w 114 n (omega arith)

verify-told : (x y : Call) (s t : List ℕ) → OfBytes x → OfBytes y → verify_number (verified x) ≡ verify_number (verified y) →
    verify_answer (verified x) s ≡ verify_answer (verified y) t → verified x ≡ verified y
verify-told x y s t b d = go (verified x) (verified y) (verified_ok x) (verified_ok y)
  where
    go : (p q : VerifyAnswer) → VerifyOk x p → VerifyOk y q → verify_number p ≡ verify_number q → verify_answer p s ≡ verify_answer q t → p ≡ q
    go (Err n) (Err m) f g e h = ap Err e
    go (Err n) (Ok w) f g e h = absurd (omega (arith, f.0))
    go (Ok v) (Err m) f g e h = absurd (omega (arith, g.0))
    go (Ok v) (Ok w) f g e h =
        ap Ok
        (verified-same v w (f b) (g d) (put_same s t _ _ (answer-length (verified_answer v)) (answer-length (verified_answer w)) h))

judge_told_lem : (x y : Call) (s t : List ℕ) → OfBytes x → OfBytes y → judge_number (judged x) ≡ judge_number (judged y) →
    judge_answer (judged x) s ≡ judge_answer (judged y) t → judged x ≡ judged y
judge_told_lem x y s t b d = go (judged x) (judged y) (judged_ok x) (judged_ok y)
  where
    go : (p q : JudgeAnswer) → JudgeOk x p → JudgeOk y q → judge_number p ≡ judge_number q → judge_answer p s ≡ judge_answer q t → p ≡ q
    go (Number n) (Number m) f g e h = ap Number e
    go (Number n) (Given w) f g e h = absurd (omega (arith, f.0))
    go (Given v) (Number m) f g e h = absurd (omega (arith, g.0))
    go (Given v) (Given w) f g e h =
        ap Given (verdict-same v w (f b) (g d) (put_same s t _ _ (answer-length (verdict_answer v)) (answer-length (verdict_answer w)) h))

verify_zero_lem : (x : Call) → verify_number (verified x) ≡ 0 → (v : Result Unit VerifyError) × (verified x ≡ Ok v)
verify_zero_lem x = go (verified x) (verified_ok x)
  where
    go : (p : VerifyAnswer) → VerifyOk x p → verify_number p ≡ 0 → (v : Result Unit VerifyError) × (p ≡ Ok v)
    go (Err n) f e = absurd (omega (arith, f.0))
    go (Ok v) f e = (v, refl)

judge_zero_lem : (x : Call) → judge_number (judged x) ≡ 0 → (v : verdict.Verdict) × (judged x ≡ Given v)
judge_zero_lem x = go (judged x) (judged_ok x)
  where
    go : (p : JudgeAnswer) → JudgeOk x p → judge_number p ≡ 0 → (v : verdict.Verdict) × (p ≡ Given v)
    go (Number n) f e = absurd (omega (arith, f.0))
    go (Given v) f e = (v, refl)

pub told : Told
told =
    record {
      verify_numbers = λ x n e. subst (VerifyOk x) e (verified_ok x);
      judge_numbers = λ x n e. subst (JudgeOk x) e (judged_ok x);
      verify_zero = verify_zero_lem;
      judge_zero = judge_zero_lem;
      verify_bytes =
          λ x y v w b d e f. verified-same v w (subst (VerifyOk x) e (verified_ok x) b) (subst (VerifyOk y) f (verified_ok y) d);
      judge_bytes =
          λ x y v w b d e f. verdict-same v w (subst (JudgeOk x) e (judged_ok x) b) (subst (JudgeOk y) f (judged_ok y) d);
      verify_told = verify-told;
      judge_told = judge_told_lem;
    }
