-- What the code's values stand for, and what its functions promise each other.
use Rattle.std.specs.Prelude.{ℕ, ◌≡◌, Bool, List, Option, None, option_map}
use Rattle.base.specs.Base.{pick, last_of}
use Rattle.reasons.specs.Invalid.{InvalidReason}
use Rattle.rules.specs.DagPoint.{DepView, Entry}
use Rattle.rules.specs.Validate.{Taken, as_dependency, as_prev_point, as_version, aside, dependency_trail}
use Rattle.judge_entries.specs.Code.{dag_point_of, info_of}
use Rattle.judge_entries.specs.declared.entry.DagPoint as code-point
use Rattle.reasons.specs.Code.{reason_of}
use Rattle.reasons.specs.declared.invalid.InvalidReason as code-reason
use Rattle.judge_reason.specs.declared.Taken as code-taken
use Rattle.judge_reason.specs.declared.Taken.TheVariants as case-taken

abbrev pub taken_of : code-taken.Taken → Taken
taken_of (case-taken.AsDependency is_prev_point) = pick is_prev_point as_prev_point as_dependency
taken_of case-taken.AsVersion = as_version
taken_of case-taken.Aside = aside

-- an entry whose state is known but for its record
abbrev pub entry_in : List ℕ → code-point.DagPoint → Bool → Bool → Entry
entry_in s d certified first_valid = record { state = dag_point_of s d; certified = certified; first_valid = first_valid }

-- the reason of a dependency whose point is not there, whatever rows others are checked against
abbrev pub AbsentReason : code-point.DagPoint → Option code-reason.InvalidReason → Type 0
AbsentReason d r =
    (s : List ℕ) (rows : DepView → List (List InvalidReason)) → info_of d ≡ None → option_map reason_of r ≡ last_of (dependency_trail rows (dag_point_of s d))
