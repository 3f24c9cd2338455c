-- What the call tells. It stands apart from Code, for the struct Trailed.
use Rattle.std.specs.Prelude.{ℕ, ◌≡◌, List, length, Result, Err, Ok}
use Rattle.reasons.specs.Code.{verdict_of}
use Rattle.reasons.specs.Refusal.{refusal_number}
use Rattle.reasons.specs.declared.refusal.Refusal.{Refusal}
use Rattle.rules.specs.Judge.{Tested, JudgeAnswer, Number, Given, judge_with}
use Rattle.rules.specs.Trail.{Row, fitted, rows_told, trail_told, trail_with}
use Rattle.trail.specs.declared.call.Trailed as code

abbrev pub answer_of : Result code.Trailed Refusal → JudgeAnswer
answer_of (Err r) = Number (refusal_number r)
answer_of (Ok t) = Given (verdict_of t.verdict)

-- the count, where k stood before
abbrev pub count_of : Result code.Trailed Refusal → ℕ → ℕ
count_of (Err r) k = k
count_of (Ok t) k = t.rows

-- of a judgement with its rows, over a trail
pub record Told (answer : JudgeAnswer) (rows : List Row) (old new : List ℕ) (r : Result code.Trailed Refusal) : Type 0 where
  pub same : answer_of r ≡ fitted answer rows (length old)
  pub count : (k : ℕ) → count_of r k ≡ rows_told (fitted answer rows (length old)) rows k
  pub written : new ≡ trail_told (fitted answer rows (length old)) rows old

-- the call's answer, over a trail of so many bytes
abbrev pub trail_answer : ℕ → ℕ → List ℕ → Tested → ℕ → JudgeAnswer
trail_answer leader presence list t size = fitted (judge_with leader presence list t) (trail_with leader presence list t) size
