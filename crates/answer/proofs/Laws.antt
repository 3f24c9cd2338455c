-- Laws of the answer: a store is a run of one byte, and an answer is made of its reason's number, the point that it names and what it carries.
use Prim.Native.Nat.{ℕ, ◌<◌}
use native.Mathlib.Omega.{arith}
use mathlib.Core.Path.{◌≡◌, refl}
use mathlib.Core.List.{List, [], ◌∷◌}
use lib.ListN.{length, set}
use Rattle.parts.specs.Bytes.{put_at}
use Rattle.write.proofs.Laws.{put_is}
use Rattle.reasons.specs.IllFormed.{ill_formed_number, ill_formed_answer}
use Rattle.reasons.specs.Invalid.{InvalidReason, NoRoundInDag, DependencyRoundDropped, NotTrigger, TerminalTriggerBeforeLastProof, TimeNotGreaterThanInPrevPoint, AnchorProofDoesntInheritAnchorTime, AnchorTimeNotInheritedFromProof, MustHaveReferencedPrevPoint, MustHaveSkippedRound, DependencyTimeTooFarInFuture, NewerAnchorInDependency, AnchorLink, AnchorLinkRole, AnchorLinkBadPath, BadStickySequence, TriggerProofMismatch, DepIllFormed, DepNotFound, invalid_number, invalid_answer}
use Rattle.reasons.specs.declared.ill_formed.IllFormedReason.{IllFormedReason}
use Rattle.reasons.specs.declared.ill_formed.IllFormedReason.TheVariants.{BeforeGenesis, UnknownAuthor, FalseGenesis, TooLargePayload, Structure, TooManyStickyAnchors, BadLastStickyFlag, LinksAcrossGenesis, MustBeEmpty, UnknownPeers, UnknownPeerInAnchorLink, LackOfPeers, NotRegular, BadWaveLink}
use Rattle.answer.specs.Code.{values_in, named, plain}

-- a store is a run of one
pub set_put : (l : List ℕ) (i x : ℕ) → i < length l → set l i x ≡ put_at l i (x ∷ [])
set_put l i x h = put_is l i (x ∷ []) (omega arith)

-- ---- an answer is made of its reason's number, the point that it names, and what it carries

pub ill_formed_parts : (r : IllFormedReason) → plain 3 (ill_formed_number r) (values_in (ill_formed_answer r)) ≡ ill_formed_answer r
ill_formed_parts BeforeGenesis = refl
ill_formed_parts UnknownAuthor = refl
ill_formed_parts FalseGenesis = refl
ill_formed_parts (TooLargePayload n) = refl
ill_formed_parts (Structure i) = refl
ill_formed_parts (TooManyStickyAnchors n) = refl
ill_formed_parts BadLastStickyFlag = refl
ill_formed_parts LinksAcrossGenesis = refl
ill_formed_parts (MustBeEmpty m) = refl
ill_formed_parts (UnknownPeers n m) = refl
ill_formed_parts (UnknownPeerInAnchorLink g) = refl
ill_formed_parts (LackOfPeers n f m) = refl
ill_formed_parts NotRegular = refl
ill_formed_parts (BadWaveLink b) = refl

pub invalid_parts : (r : InvalidReason) → named 2 (invalid_number r) (invalid_answer r).id (values_in (invalid_answer r)) ≡ invalid_answer r
invalid_parts (NoRoundInDag m) = refl
invalid_parts DependencyRoundDropped = refl
invalid_parts (NotTrigger i) = refl
invalid_parts (TerminalTriggerBeforeLastProof i) = refl
invalid_parts (TimeNotGreaterThanInPrevPoint i) = refl
invalid_parts (AnchorProofDoesntInheritAnchorTime i) = refl
invalid_parts (AnchorTimeNotInheritedFromProof i) = refl
invalid_parts (MustHaveReferencedPrevPoint i) = refl
invalid_parts (MustHaveSkippedRound i) = refl
invalid_parts (DependencyTimeTooFarInFuture i) = refl
invalid_parts (NewerAnchorInDependency g i) = refl
invalid_parts (AnchorLink g i) = refl
invalid_parts (AnchorLinkRole g i) = refl
invalid_parts (AnchorLinkBadPath g i) = refl
invalid_parts (BadStickySequence i o n) = refl
invalid_parts (TriggerProofMismatch i b) = refl
invalid_parts (DepIllFormed i n) = refl
invalid_parts (DepNotFound i) = refl
