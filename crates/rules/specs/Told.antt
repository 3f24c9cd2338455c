-- What a caller of `verify` and `judge` is told by the number returned and the answer's 114 bytes: the whole answer.
use Rattle.std.specs.Prelude.{ℕ, ◌≤◌, ◌≡◌, true, List, Result, Ok, Err}
use Rattle.parts.specs.Bytes.{Bytes}
use Rattle.map.specs.declared.Arrangement.{Arrangement}
use Rattle.map.specs.declared.Arrangement.TheVariants.{Columns}
use Rattle.reasons.specs.Verdict as verdict
use Rattle.reasons.specs.declared.ill_formed.VerifyError.{VerifyError}
use Rattle.rules.specs.Judge.{VerifyAnswer, JudgeAnswer, Number, Given, tested_in, flags_ok, verify_with, judge_with_in}
use Rattle.rules.specs.Answer.{verified_answer, verdict_answer, answer_bytes, verify_number, verify_answer, judge_number, judge_answer}

-- what a call is handed, the peer buffer by its length; `verify` takes no flags and no list
pub record Call : Type 0 where
  pub settings : List ℕ
  pub schedule : List ℕ
  pub point : List ℕ
  pub leader : ℕ
  pub presence : ℕ
  pub list : List ℕ
  pub size : ℕ

-- the slices whose numbers a verdict can name hold bytes, as those of every call do
abbrev pub OfBytes : Call → Type 0
OfBytes x = Bytes x.point × Bytes x.list

-- the same with another record and another list
abbrev pub handing : Call → List ℕ → List ℕ → Call
handing x point list =
    record {
      settings = x.settings;
      schedule = x.schedule;
      point = point;
      leader = x.leader;
      presence = x.presence;
      list = list;
      size = x.size;
    }

-- what is answered of records in an arrangement, and by the calls, which take columns
abbrev pub verified_in : Arrangement → Call → VerifyAnswer
verified_in a x = verify_with (tested_in a x.settings x.schedule x.point true x.size)

abbrev pub judged_in : Arrangement → Call → JudgeAnswer
judged_in a x =
    judge_with_in a x.leader x.presence x.list
    (tested_in a x.settings x.schedule x.point (flags_ok x.leader x.presence) x.size)

abbrev pub verified : Call → VerifyAnswer
verified x = verified_in Columns x

abbrev pub judged : Call → JudgeAnswer
judged x = judged_in Columns x

pub record Told : Type 0 where
  -- a number is one of 1 to 5
  pub verify_numbers : (x : Call) (n : ℕ) → verified x ≡ Err n → (1 ≤ n) × (n ≤ 5)
  -- a number is one of 1 to 9
  pub judge_numbers : (x : Call) (n : ℕ) → judged x ≡ Number n → (1 ≤ n) × (n ≤ 9)
  -- so where 0 is returned there is a verdict; with a verdict it is, by definition
  pub verify_zero : (x : Call) → verify_number (verified x) ≡ 0 → (v : Result Unit VerifyError) × (verified x ≡ Ok v)
  pub judge_zero : (x : Call) → judge_number (judged x) ≡ 0 → (v : verdict.Verdict) × (judged x ≡ Given v)
  -- equal bytes mean equal verdicts
  pub verify_bytes : (x y : Call) (v w : Result Unit VerifyError) → OfBytes x → OfBytes y → verified x ≡ Ok v → verified y ≡ Ok w →
      answer_bytes (verified_answer v) ≡ answer_bytes (verified_answer w) → v ≡ w
  pub judge_bytes : (x y : Call) (v w : verdict.Verdict) → OfBytes x → OfBytes y → judged x ≡ Given v → judged y ≡ Given w →
      answer_bytes (verdict_answer v) ≡ answer_bytes (verdict_answer w) → v ≡ w
  -- so equal numbers returned, with equal bytes left in the lent answers, whatever these held before, mean equal answers
  pub verify_told : (x y : Call) (s t : List ℕ) → OfBytes x → OfBytes y → verify_number (verified x) ≡ verify_number (verified y) →
      verify_answer (verified x) s ≡ verify_answer (verified y) t → verified x ≡ verified y
  pub judge_told : (x y : Call) (s t : List ℕ) → OfBytes x → OfBytes y → judge_number (judged x) ≡ judge_number (judged y) →
      judge_answer (judged x) s ≡ judge_answer (judged y) t → judged x ≡ judged y
