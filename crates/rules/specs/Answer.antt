-- Document 01's answer to a verdict, and the 114 bytes in which a caller gets it.
use Rattle.std.specs.Prelude.{ℕ, List, [], ◌∷◌, ◌++◌, Err, Ok, Result}
use Rattle.parts.specs.Bytes.{big_bytes, little_bytes, put_at}
use Rattle.point.specs.Point.{Through, Includes, Witness, through_peer, no_point}
use Rattle.point.specs.declared.data.PointMap.TheVariants as map
use Rattle.reasons.specs.Answer.{Answer, answer, map_number}
use Rattle.reasons.specs.IllFormed.{ill_formed_answer, error_answer}
use Rattle.reasons.specs.Invalid.{invalid_answer}
use Rattle.reasons.specs.Verdict as verdict
use Rattle.reasons.specs.declared.ill_formed.VerifyError.{VerifyError}
use Rattle.reasons.specs.declared.ill_formed.VerifyError.TheVariants.{Fail}
use Rattle.rules.specs.Judge as judged

-- 3 is ill-formed, 4 fail, 5 that verification passed
abbrev pub verified_answer : Result Unit VerifyError → Answer
verified_answer (Ok tt) = answer 5 0 no_point 255 255 0 0 0 0 0
verified_answer (Err e) = error_answer e

abbrev pub through_number : Through → ℕ
through_number (Includes x) = map_number map.Includes
through_number (Witness x) = map_number map.Witness

-- 0 is valid, 1 trans-invalid, 2 invalid, 3 ill-formed, 4 fail; trans-invalid has the root's id and reason, and the map and the peer
-- that it came through
abbrev pub verdict_answer : verdict.Verdict → Answer
verdict_answer (verdict.Fail u) = error_answer (Fail u)
verdict_answer (verdict.IllFormed r) = ill_formed_answer r
verdict_answer (verdict.Invalid r) = invalid_answer r
verdict_answer (verdict.TransInvalid d) = answer 1 0 d.to (through_number d.through) 255 0 0 d.reason (through_peer d.through) 0
verdict_answer verdict.Valid = answer 0 0 no_point 255 255 0 0 0 0 0

-- ---- the 114 bytes

-- kind, reason and the point id
unfoldable pub head_bytes : Answer → List ℕ
unfolding big_bytes little_bytes
head_bytes a = (a.kind ∷ a.reason ∷ []) ++ little_bytes 4 a.id.round ++ big_bytes 32 a.id.digest ++ big_bytes 32 a.id.author

-- map, role and the two numbers
unfoldable pub number_bytes : Answer → List ℕ
unfolding little_bytes
number_bytes a = (a.map ∷ a.role ∷ []) ++ little_bytes 4 a.first ++ little_bytes 4 a.second

-- the root's reason, the peer it came through, and the count of unknown peers
unfoldable pub root_bytes : Answer → List ℕ
unfolding big_bytes
root_bytes a = (a.root_reason ∷ []) ++ big_bytes 32 a.peer ++ (a.unknown ∷ [])

unfoldable pub answer_bytes : Answer → List ℕ
unfolding head_bytes number_bytes root_bytes
answer_bytes a = head_bytes a ++ number_bytes a ++ root_bytes a

-- ---- what the C calls return and leave in the answer: document 01's number, or 0 for a verdict; with a number no byte changes

abbrev pub verify_number : judged.VerifyAnswer → ℕ
verify_number (Err n) = n
verify_number (Ok v) = 0

abbrev pub verify_answer : judged.VerifyAnswer → List ℕ → List ℕ
verify_answer (Err n) answer = answer
verify_answer (Ok v) answer = put_at answer 0 (answer_bytes (verified_answer v))

abbrev pub judge_number : judged.JudgeAnswer → ℕ
judge_number (judged.Number n) = n
judge_number (judged.Given v) = 0

abbrev pub judge_answer : judged.JudgeAnswer → List ℕ → List ℕ
judge_answer (judged.Number n) answer = answer
judge_answer (judged.Given v) answer = put_at answer 0 (answer_bytes (verdict_answer v))
