-- What the code's values stand for, and an answer made of parts as the code makes it.
use Rattle.std.specs.Prelude.{ℕ}
use Rattle.parts.specs.Code.{number}
use Rattle.point.specs.Point.{PointId, no_point}
use Rattle.point.specs.Code.{point_id_of}
use Rattle.reasons.specs.Answer.{Answer, answer}
use Rattle.answer.specs.declared.Kind.{Kind}
use Rattle.answer.specs.declared.Kind.TheVariants.{Valid, TransInvalid, Invalid, IllFormed, Fail, Verified}
use Rattle.answer.specs.declared.Values as code-values
use Rattle.answer.specs.declared.Answer as code

-- what a reason carries beside its number and the point that it names
pub record Values : Type 0 where
  pub map : ℕ
  pub role : ℕ
  pub first : ℕ
  pub second : ℕ
  pub unknown : ℕ

abbrev pub values : ℕ → ℕ → ℕ → ℕ → ℕ → Values
values m g a b u = record { map = m; role = g; first = a; second = b; unknown = u }

abbrev pub values_in : Answer → Values
values_in a = values a.map a.role a.first a.second a.unknown

-- document 01's number of an answer's kind
abbrev pub kind_number : Kind → ℕ
kind_number Valid = 0
kind_number TransInvalid = 1
kind_number Invalid = 2
kind_number IllFormed = 3
kind_number Fail = 4
kind_number Verified = 5

-- an answer that names a point, and no root cause
abbrev pub named : ℕ → ℕ → PointId → Values → Answer
named k n i v = answer k n i v.map v.role v.first v.second 0 0 v.unknown

-- an answer that names neither
abbrev pub plain : ℕ → ℕ → Values → Answer
plain k n v = named k n no_point v

abbrev pub values_of : code-values.Values → Values
values_of v = values v.map v.role v.first v.second v.unknown

abbrev pub answer_of : code.Answer → Answer
answer_of a =
    answer
    a.kind
    a.reason
    (point_id_of a.id)
    a.values.map
    a.values.role
    a.values.first
    a.values.second
    a.root_reason
    (number a.peer)
    a.values.unknown
