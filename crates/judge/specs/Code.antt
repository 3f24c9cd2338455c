-- What the code's values stand for.
use Rattle.std.specs.Prelude.{Result, Ok, Err}
use Rattle.reasons.specs.Code.{verdict_of}
use Rattle.rules.specs.Judge.{JudgeAnswer, Number, Given, Before, answered, needed}
use Rattle.reasons.specs.declared.refusal.Refusal.{Refusal}
use Rattle.reasons.specs.declared.verdict.Verdict as code-verdict
use Rattle.reasons.specs.Refusal.{refusal_number}
use Rattle.judge.specs.declared.before.Before as code-before
use Rattle.judge.specs.declared.before.Before.TheVariants as case-before

abbrev pub judge_answer_of : Result code-verdict.Verdict Refusal → JudgeAnswer
judge_answer_of (Err r) = Number (refusal_number r)
judge_answer_of (Ok v) = Given (verdict_of v)

abbrev pub before_of : Result code-before.Before Refusal → Before
before_of (Err r) = answered (Number (refusal_number r))
before_of (Ok (case-before.Judged v)) = answered (Given (verdict_of v))
before_of (Ok (case-before.Needed required)) = needed required
