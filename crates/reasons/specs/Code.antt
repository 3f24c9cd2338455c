-- What the code's values stand for.
use Rattle.point.specs.Code.{point_id_of, through_of}
use Rattle.reasons.specs.Invalid.{InvalidReason, NoRoundInDag, DependencyRoundDropped, NotTrigger, TerminalTriggerBeforeLastProof}
use Rattle.reasons.specs.Invalid.{TimeNotGreaterThanInPrevPoint, AnchorProofDoesntInheritAnchorTime, AnchorTimeNotInheritedFromProof}
use Rattle.reasons.specs.Invalid.{MustHaveReferencedPrevPoint, MustHaveSkippedRound, DependencyTimeTooFarInFuture, NewerAnchorInDependency, AnchorLink}
use Rattle.reasons.specs.Invalid.{AnchorLinkRole, AnchorLinkBadPath, BadStickySequence, TriggerProofMismatch, DepIllFormed, DepNotFound}
use Rattle.reasons.specs.Invalid.{InvalidDependency}
use Rattle.reasons.specs.declared.invalid.InvalidReason as code
use Rattle.reasons.specs.declared.invalid.InvalidReason.TheVariants as case
use Rattle.reasons.specs.declared.invalid.InvalidDependency as code-dependency
use Rattle.reasons.specs.Verdict.{Verdict, Fail, IllFormed, Invalid, TransInvalid, Valid}
use Rattle.reasons.specs.declared.verdict.Verdict as code-verdict
use Rattle.reasons.specs.declared.verdict.Verdict.TheVariants as case-verdict

abbrev pub reason_of : code.InvalidReason → InvalidReason
reason_of (case.NoRoundInDag m) = NoRoundInDag m
reason_of case.DependencyRoundDropped = DependencyRoundDropped
reason_of (case.NotTrigger i) = NotTrigger (point_id_of i)
reason_of (case.TerminalTriggerBeforeLastProof i) = TerminalTriggerBeforeLastProof (point_id_of i)
reason_of (case.TimeNotGreaterThanInPrevPoint i) = TimeNotGreaterThanInPrevPoint (point_id_of i)
reason_of (case.AnchorProofDoesntInheritAnchorTime i) = AnchorProofDoesntInheritAnchorTime (point_id_of i)
reason_of (case.AnchorTimeNotInheritedFromProof i) = AnchorTimeNotInheritedFromProof (point_id_of i)
reason_of (case.MustHaveReferencedPrevPoint i) = MustHaveReferencedPrevPoint (point_id_of i)
reason_of (case.MustHaveSkippedRound i) = MustHaveSkippedRound (point_id_of i)
reason_of (case.DependencyTimeTooFarInFuture i) = DependencyTimeTooFarInFuture (point_id_of i)
reason_of (case.NewerAnchorInDependency g i) = NewerAnchorInDependency g (point_id_of i)
reason_of (case.AnchorLink g i) = AnchorLink g (point_id_of i)
reason_of (case.AnchorLinkRole g i) = AnchorLinkRole g (point_id_of i)
reason_of (case.AnchorLinkBadPath g i) = AnchorLinkBadPath g (point_id_of i)
reason_of (case.BadStickySequence i o n) = BadStickySequence (point_id_of i) o n
reason_of (case.TriggerProofMismatch i b) = TriggerProofMismatch (point_id_of i) b
reason_of (case.DepIllFormed i n) = DepIllFormed (point_id_of i) n
reason_of (case.DepNotFound i) = DepNotFound (point_id_of i)

abbrev pub dependency_of : code-dependency.InvalidDependency → InvalidDependency
dependency_of d = record { to = point_id_of d.to; reason = d.reason; through = through_of d.through }

-- what the code's value stands for
abbrev pub verdict_of : code-verdict.Verdict → Verdict
verdict_of (case-verdict.Fail u) = Fail u
verdict_of (case-verdict.IllFormed r) = IllFormed r
verdict_of (case-verdict.Invalid r) = Invalid (reason_of r)
verdict_of (case-verdict.TransInvalid d) = TransInvalid (dependency_of d)
verdict_of case-verdict.Valid = Valid
