-- The verdict on a point: that it is ill-formed, invalid, trans-invalid or valid, or that verification failed.
use Rattle.reasons.specs.Invalid.{InvalidReason, InvalidDependency}
use Rattle.reasons.specs.declared.ill_formed.UninitVset.{UninitVset}
use Rattle.reasons.specs.declared.ill_formed.IllFormedReason.{IllFormedReason}
use Rattle.reasons.specs.declared.ill_formed.VerifyError.{VerifyError}
use Rattle.reasons.specs.declared.ill_formed.VerifyError.TheVariants as case-error

pub data Verdict : Type 0 where
  Fail : UninitVset → Verdict
  IllFormed : IllFormedReason → Verdict
  Invalid : InvalidReason → Verdict
  TransInvalid : InvalidDependency → Verdict
  Valid : Verdict

-- the verdict on a point that verification didn't pass
abbrev pub of_error : VerifyError → Verdict
of_error (case-error.Fail u) = Fail u
of_error (case-error.IllFormed r) = IllFormed r
