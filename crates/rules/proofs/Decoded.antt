-- A verdict can be had back from its answer, where the previous seq_no that it names, if any, is not the number that stands for none.
use Rattle.std.specs.Prelude.{Option, None, Some, Err, Ok, Result}
use Prim.Native.Nat.{ℕ, ◌<◌}
use native.Mathlib.Omega.{arith}
use mathlib.Core.Path.{◌≡◌, refl, sym, ap, ◌∙◌}
use mathlib.Core.Bool.{true, false}
use lib.Dec.{eqb}
use borrow.Author.Tests.{eqb-true, eq-eqb, ne_eqb}
use Rattle.base.specs.Base.{pick}
use Rattle.base.proofs.Bool.{clash, and_left, and_right, and_both}
use Rattle.point.specs.Point.{same_id}
use Rattle.point.proofs.Ids.{same_eq, same_refl}
use Rattle.rules.specs.Force.{named_prev, same_prev, same_reason}
use Rattle.point.specs.Point.{Through, Includes, Witness, through_peer}
use Rattle.point.specs.declared.data.AnchorStageRole.{AnchorStageRole}
use Rattle.point.specs.declared.data.AnchorStageRole.TheVariants.{Proof, Trigger}
use Rattle.point.specs.declared.data.PointMap.{PointMap}
use Rattle.point.specs.declared.data.PointMap.TheVariants as map
use Rattle.reasons.specs.Answer.{Answer, map_number, role_number}
use Rattle.reasons.specs.IllFormed.{issue_answer, ill_formed_answer, error_answer}
use Rattle.reasons.specs.Invalid.{InvalidReason, NoRoundInDag, DependencyRoundDropped, NotTrigger, TerminalTriggerBeforeLastProof}
use Rattle.reasons.specs.Invalid.{TimeNotGreaterThanInPrevPoint, AnchorProofDoesntInheritAnchorTime, AnchorTimeNotInheritedFromProof}
use Rattle.reasons.specs.Invalid.{MustHaveReferencedPrevPoint, MustHaveSkippedRound, DependencyTimeTooFarInFuture, NewerAnchorInDependency, AnchorLink}
use Rattle.reasons.specs.Invalid.{AnchorLinkRole, AnchorLinkBadPath, BadStickySequence, TriggerProofMismatch, DepIllFormed, DepNotFound}
use Rattle.reasons.specs.Invalid.{prev_seq_no, invalid_answer}
use Rattle.reasons.specs.Verdict as verdict
use Rattle.reasons.specs.declared.ill_formed.StructureIssue.{StructureIssue}
use Rattle.reasons.specs.declared.ill_formed.StructureIssue.TheVariants.{ExpectedGenesis, BadGenesisPrevPoint, AuthorInMap, TriggerBadProofLink, Link}
use Rattle.reasons.specs.declared.ill_formed.StructureIssue.TheVariants.{AnchorTime, NoPrevPoint}
use Rattle.reasons.specs.declared.ill_formed.IllFormedReason.{IllFormedReason}
use Rattle.reasons.specs.declared.ill_formed.IllFormedReason.TheVariants.{BeforeGenesis, UnknownAuthor, FalseGenesis, TooLargePayload, Structure}
use Rattle.reasons.specs.declared.ill_formed.IllFormedReason.TheVariants.{TooManyStickyAnchors, BadLastStickyFlag, LinksAcrossGenesis, MustBeEmpty}
use Rattle.reasons.specs.declared.ill_formed.IllFormedReason.TheVariants.{UnknownPeers, UnknownPeerInAnchorLink, LackOfPeers, NotRegular, BadWaveLink}
use Rattle.reasons.specs.declared.ill_formed.VerifyError.{VerifyError}
use Rattle.reasons.specs.declared.ill_formed.VerifyError.TheVariants.{Fail, IllFormed}
use Rattle.reasons.proofs.Laws.{flag-back}
use Rattle.rules.specs.List.{role_of}
use Rattle.rules.specs.Answer.{verified_answer, through_number, verdict_answer}

-- ---- maps, roles and flags

abbrev map_of : ℕ → PointMap
map_of n = pick (eqb n 0) map.Evidence (pick (eqb n 1) map.Includes map.Witness)

map_back : (m : PointMap) → map_of (map_number m) ≡ m
map_back map.Evidence = refl
map_back map.Includes = refl
map_back map.Witness = refl

pub role-back : (g : AnchorStageRole) → role_of (role_number g) ≡ g
role-back Proof = refl
role-back Trigger = refl

abbrev through_of : ℕ → ℕ → Through
through_of n x = pick (eqb n 1) (Includes x) (Witness x)

-- ---- ill-formed reasons

abbrev issue_of : Answer → StructureIssue
issue_of a =
    pick (eqb a.first 1) (ExpectedGenesis (eqb a.second 1))
    (pick (eqb a.first 2) BadGenesisPrevPoint
    (pick (eqb a.first 3) (AuthorInMap (map_of a.map))
    (pick (eqb a.first 4) TriggerBadProofLink
    (pick (eqb a.first 5) (Link (role_of a.role) (map_of a.map))
    (pick (eqb a.first 6) AnchorTime NoPrevPoint)))))

issue_back : (i : StructureIssue) → issue_of (issue_answer i) ≡ i
issue_back (ExpectedGenesis b) = ap ExpectedGenesis (flag-back b)
issue_back BadGenesisPrevPoint = refl
issue_back (AuthorInMap m) = ap AuthorInMap (map_back m)
issue_back TriggerBadProofLink = refl
issue_back (Link g m) = rw (role-back g, map_back m)
issue_back AnchorTime = refl
issue_back NoPrevPoint = refl

abbrev ill_formed_of : Answer → IllFormedReason
ill_formed_of a =
    pick (eqb a.reason 3) BeforeGenesis
    (pick (eqb a.reason 4) UnknownAuthor
    (pick (eqb a.reason 5) FalseGenesis
    (pick (eqb a.reason 6) (TooLargePayload a.first)
    (pick (eqb a.reason 7) (Structure (issue_of a))
    (pick (eqb a.reason 8) (TooManyStickyAnchors a.first)
    (pick (eqb a.reason 9) BadLastStickyFlag
    (pick (eqb a.reason 10) LinksAcrossGenesis
    (pick (eqb a.reason 11) (MustBeEmpty (map_of a.map))
    (pick (eqb a.reason 12) (UnknownPeers a.unknown (map_of a.map))
    (pick (eqb a.reason 13) (UnknownPeerInAnchorLink (role_of a.role))
    (pick (eqb a.reason 14) (LackOfPeers a.first (record { 0 = a.second }) (map_of a.map))
    (pick (eqb a.reason 15) NotRegular
    (BadWaveLink (eqb a.first 1))))))))))))))

-- an ill-formed reason, and the answer's kind
ill-formed-back : (r : IllFormedReason) → ((ill_formed_answer r).kind ≡ 3) × (ill_formed_of (ill_formed_answer r) ≡ r)
ill-formed-back BeforeGenesis = (refl, refl)
ill-formed-back UnknownAuthor = (refl, refl)
ill-formed-back FalseGenesis = (refl, refl)
ill-formed-back (TooLargePayload n) = (refl, refl)
ill-formed-back (Structure i) = (refl, ap Structure (issue_back i))
ill-formed-back (TooManyStickyAnchors n) = (refl, refl)
ill-formed-back BadLastStickyFlag = (refl, refl)
ill-formed-back LinksAcrossGenesis = (refl, refl)
ill-formed-back (MustBeEmpty m) = (refl, ap MustBeEmpty (map_back m))
ill-formed-back (UnknownPeers n m) = (refl, ap (UnknownPeers n) (map_back m))
ill-formed-back (UnknownPeerInAnchorLink g) = (refl, ap UnknownPeerInAnchorLink (role-back g))
ill-formed-back (LackOfPeers n f m) = (refl, ap (LackOfPeers n f) (map_back m))
ill-formed-back NotRegular = (refl, refl)
ill-formed-back (BadWaveLink b) = (refl, ap BadWaveLink (flag-back b))

-- ---- invalid reasons

abbrev prev_of : ℕ → Option ℕ
prev_of n = pick (eqb n 4294967295) None (Some n)

-- a previous seq_no is not the number that stands for none
abbrev pub PrevFits : Option ℕ → Type 0
PrevFits None = Unit
PrevFits (Some n) = n < 4294967295

prev-back : (o : Option ℕ) → PrevFits o → prev_of (prev_seq_no o) ≡ o
prev-back None h = refl
prev-back (Some n) h = rw (ne_eqb n 4294967295 (λ e. omega arith))

-- with the previous seq_no that it names beside it
abbrev reason_of : Option ℕ → Answer → InvalidReason
reason_of o a =
    pick (eqb a.reason 2) (NoRoundInDag (map_of a.map))
    (pick (eqb a.reason 3) DependencyRoundDropped
    (pick (eqb a.reason 4) (NotTrigger a.id)
    (pick (eqb a.reason 5) (TerminalTriggerBeforeLastProof a.id)
    (pick (eqb a.reason 6) (TimeNotGreaterThanInPrevPoint a.id)
    (pick (eqb a.reason 7) (AnchorProofDoesntInheritAnchorTime a.id)
    (pick (eqb a.reason 8) (AnchorTimeNotInheritedFromProof a.id)
    (pick (eqb a.reason 9) (MustHaveReferencedPrevPoint a.id)
    (pick (eqb a.reason 10) (MustHaveSkippedRound a.id)
    (pick (eqb a.reason 11) (DependencyTimeTooFarInFuture a.id)
    (pick (eqb a.reason 12) (NewerAnchorInDependency (role_of a.role) a.id)
    (pick (eqb a.reason 13) (AnchorLink (role_of a.role) a.id)
    (pick (eqb a.reason 14) (AnchorLinkRole (role_of a.role) a.id)
    (pick (eqb a.reason 15) (AnchorLinkBadPath (role_of a.role) a.id)
    (pick (eqb a.reason 16) (BadStickySequence a.id o a.first)
    (pick (eqb a.reason 17) (TriggerProofMismatch a.id (eqb a.first 1))
    (pick (eqb a.reason 18) (DepIllFormed a.id a.first)
    (DepNotFound a.id)))))))))))))))))

reason-told : (r : InvalidReason) → reason_of (named_prev r) (invalid_answer r) ≡ r
reason-told (NoRoundInDag m) = ap NoRoundInDag (map_back m)
reason-told (NewerAnchorInDependency g i) = rw (role-back g)
reason-told (AnchorLink g i) = rw (role-back g)
reason-told (AnchorLinkRole g i) = rw (role-back g)
reason-told (AnchorLinkBadPath g i) = rw (role-back g)
reason-told (TriggerProofMismatch i b) = ap (TriggerProofMismatch i) (flag-back b)
reason-told r = refl

-- from the answer alone, where that seq_no fits
prev_told : (r : InvalidReason) → PrevFits (named_prev r) → reason_of (prev_of (invalid_answer r).second) (invalid_answer r) ≡ reason_of (named_prev r) (invalid_answer r)
prev_told (BadStickySequence i o n) h = rw (prev-back o h)
prev_told r h = refl

of-kind : (r : InvalidReason) → (invalid_answer r).kind ≡ 2
of-kind (NoRoundInDag m) = refl
of-kind r = refl

reason-back : (r : InvalidReason) → PrevFits (named_prev r) → ((invalid_answer r).kind ≡ 2) × (reason_of (prev_of (invalid_answer r).second) (invalid_answer r) ≡ r)
reason-back r h = (of-kind r, prev_told r h ∙ reason-told r)

-- ---- two reasons

answers_same : (o p : Option ℕ) (a b : Answer) → a.reason ≡ b.reason → a.id ≡ b.id → a.map ≡ b.map → a.role ≡ b.role → a.first ≡ b.first → o ≡ p →
    reason_of o a ≡ reason_of p b
answers_same o p a b n i m g f h = rw (n, i, m, g, f, h)

prev_eq : (o p : Option ℕ) → same_prev o p ≡ true → o ≡ p
prev_eq None None h = refl
prev_eq None (Some n) h = clash false h refl
prev_eq (Some m) None h = clash false h refl
prev_eq (Some m) (Some n) h = ap Some (eqb-true m n h)

prev_refl : (o : Option ℕ) → same_prev o o ≡ true
prev_refl None = refl
prev_refl (Some n) = eq-eqb n n refl

pub same-reason_eq : (r s : InvalidReason) → same_reason r s ≡ true → r ≡ s
same-reason_eq r s h =
    let a = invalid_answer r in
    let b = invalid_answer s in
    let h1 = and_right (eqb a.reason b.reason) _ h in
    let h2 = and_right (same_id a.id b.id) _ h1 in
    let h3 = and_right (eqb a.map b.map) _ h2 in
    let h4 = and_right (eqb a.role b.role) _ h3 in
    sym (reason-told r)
    ∙ answers_same (named_prev r) (named_prev s) a b
    (eqb-true _ _ (and_left (eqb a.reason b.reason) _ h))
    (same_eq a.id b.id (and_left (same_id a.id b.id) _ h1))
    (eqb-true _ _ (and_left (eqb a.map b.map) _ h2))
    (eqb-true _ _ (and_left (eqb a.role b.role) _ h3))
    (eqb-true _ _ (and_left (eqb a.first b.first) _ h4))
    (prev_eq _ _ (and_right (eqb a.first b.first) _ h4))
    ∙ reason-told s

pub same-reason_refl : (r : InvalidReason) → same_reason r r ≡ true
same-reason_refl r =
    let a = invalid_answer r in
    and_both (eqb a.reason a.reason) _ (eq-eqb a.reason a.reason refl)
    (and_both (same_id a.id a.id) _ (same_refl a.id)
    (and_both (eqb a.map a.map) _ (eq-eqb a.map a.map refl)
    (and_both (eqb a.role a.role) _ (eq-eqb a.role a.role refl)
    (and_both (eqb a.first a.first) _ (eq-eqb a.first a.first refl)
    (prev_refl (named_prev r))))))

-- ---- verdicts

abbrev error_of : Answer → VerifyError
error_of a = pick (eqb a.kind 4) (Fail (record { len = a.first; round = a.second; map = map_of a.map })) (IllFormed (ill_formed_of a))

error_back : (e : VerifyError) → error_of (error_answer e) ≡ e
error_back (Fail u) = rw (map_back u.map)
error_back (IllFormed r) = rw (ill-formed-back r).0 (ap IllFormed (ill-formed-back r).1)

error_kind : (e : VerifyError) → eqb (error_answer e).kind 5 ≡ false
error_kind (Fail u) = refl
error_kind (IllFormed r) = rw (ill-formed-back r).0

abbrev pub verified_of : Answer → Result Unit VerifyError
verified_of a = pick (eqb a.kind 5) (Ok tt) (Err (error_of a))

pub verified-back : (v : Result Unit VerifyError) → verified_of (verified_answer v) ≡ v
verified-back (Ok tt) = refl
verified-back (Err e) = rw (error_kind e) (ap Err (error_back e))

abbrev pub verdict_of : Answer → verdict.Verdict
verdict_of a =
    pick (eqb a.kind 0) verdict.Valid
    (pick (eqb a.kind 1) (verdict.TransInvalid (record { to = a.id; reason = a.root_reason; through = through_of a.map a.peer }))
    (pick (eqb a.kind 2) (verdict.Invalid (reason_of (prev_of a.second) a))
    (pick (eqb a.kind 3) (verdict.IllFormed (ill_formed_of a))
    (verdict.Fail (record { len = a.first; round = a.second; map = map_of a.map })))))

through-back : (t : Through) → through_of (through_number t) (through_peer t) ≡ t
through-back (Includes x) = refl
through-back (Witness x) = refl

-- the previous seq_no that a verdict names
abbrev pub verdict_prev : verdict.Verdict → Option ℕ
verdict_prev (verdict.Fail u) = None
verdict_prev (verdict.IllFormed r) = None
verdict_prev (verdict.Invalid r) = named_prev r
verdict_prev (verdict.TransInvalid d) = None
verdict_prev verdict.Valid = None

pub verdict-back : (v : verdict.Verdict) → PrevFits (verdict_prev v) → verdict_of (verdict_answer v) ≡ v
verdict-back (verdict.Fail u) h = rw (map_back u.map)
verdict-back (verdict.IllFormed r) h = rw (ill-formed-back r).0 (ap verdict.IllFormed (ill-formed-back r).1)
verdict-back (verdict.Invalid r) h = rw (reason-back r h).0 (ap verdict.Invalid (reason-back r h).1)
verdict-back (verdict.TransInvalid d) h = rw (through-back d.through)
verdict-back verdict.Valid h = refl
