-- Document 01: "Reason numbers count the variants as declared: 1 to 16 for `IllFormedReason`". The values of each
-- are docs/FORMAT.md's ("Answers").
use Rattle.std.specs.Prelude.{ℕ}
use Rattle.point.specs.Point.{no_point}
use Rattle.reasons.specs.Answer.{Answer, answer, map_number, role_number, flag}
use Rattle.reasons.specs.declared.ill_formed.StructureIssue.{StructureIssue}
use Rattle.reasons.specs.declared.ill_formed.StructureIssue.TheVariants.{ExpectedGenesis, BadGenesisPrevPoint, AuthorInMap, TriggerBadProofLink, Link}
use Rattle.reasons.specs.declared.ill_formed.StructureIssue.TheVariants.{AnchorTime, NoPrevPoint}
use Rattle.reasons.specs.declared.ill_formed.IllFormedReason.{IllFormedReason}
use Rattle.reasons.specs.declared.ill_formed.IllFormedReason.TheVariants.{BeforeGenesis, UnknownAuthor, FalseGenesis, TooLargePayload, Structure}
use Rattle.reasons.specs.declared.ill_formed.IllFormedReason.TheVariants.{TooManyStickyAnchors, BadLastStickyFlag, LinksAcrossGenesis, MustBeEmpty}
use Rattle.reasons.specs.declared.ill_formed.IllFormedReason.TheVariants.{UnknownPeers, UnknownPeerInAnchorLink, LackOfPeers, NotRegular, BadWaveLink}
use Rattle.reasons.specs.declared.ill_formed.VerifyError.{VerifyError}
use Rattle.reasons.specs.declared.ill_formed.VerifyError.TheVariants.{Fail, IllFormed}

-- number, map, role, first and second number, count of unknown peers; an ill-formed reason names no point
abbrev pub ill : ℕ → ℕ → ℕ → ℕ → ℕ → ℕ → Answer
ill n m g a b u = answer 3 n no_point m g a b 0 0 u

-- the issues count as declared, 1 to 7; ExpectedGenesis has its flag too
abbrev pub issue_answer : StructureIssue → Answer
issue_answer (ExpectedGenesis b) = ill 7 255 255 1 (flag b) 0
issue_answer BadGenesisPrevPoint = ill 7 255 255 2 0 0
issue_answer (AuthorInMap m) = ill 7 (map_number m) 255 3 0 0
issue_answer TriggerBadProofLink = ill 7 255 255 4 0 0
issue_answer (Link g m) = ill 7 (map_number m) (role_number g) 5 0 0
issue_answer AnchorTime = ill 7 255 255 6 0 0
issue_answer NoPrevPoint = ill 7 255 255 7 0 0

-- 1 and 2, AfterLoadFromDb and EvidenceSigError, have no case: nothing here gives them.
-- 6 has the payload bytes, 8 the seq_no, 14 the length and F of the peer count, 16 the leader flag
abbrev pub ill_formed_answer : IllFormedReason → Answer
ill_formed_answer BeforeGenesis = ill 3 255 255 0 0 0
ill_formed_answer UnknownAuthor = ill 4 255 255 0 0 0
ill_formed_answer FalseGenesis = ill 5 255 255 0 0 0
ill_formed_answer (TooLargePayload n) = ill 6 255 255 n 0 0
ill_formed_answer (Structure i) = ill 7 (issue_answer i).map (issue_answer i).role (issue_answer i).first (issue_answer i).second 0
ill_formed_answer (TooManyStickyAnchors n) = ill 8 255 255 n 0 0
ill_formed_answer BadLastStickyFlag = ill 9 255 255 0 0 0
ill_formed_answer LinksAcrossGenesis = ill 10 255 255 0 0 0
ill_formed_answer (MustBeEmpty m) = ill 11 (map_number m) 255 0 0 0
ill_formed_answer (UnknownPeers n m) = ill 12 (map_number m) 255 0 0 n
ill_formed_answer (UnknownPeerInAnchorLink g) = ill 13 255 (role_number g) 0 0 0
ill_formed_answer (LackOfPeers n f m) = ill 14 (map_number m) 255 n f.0 0
ill_formed_answer NotRegular = ill 15 255 255 0 0 0
ill_formed_answer (BadWaveLink b) = ill 16 255 255 (flag b) 0 0

abbrev pub ill_formed_number : IllFormedReason → ℕ
ill_formed_number r = (ill_formed_answer r).reason

-- a Fail has the peer count and the round
abbrev pub error_answer : VerifyError → Answer
error_answer (Fail u) = answer 4 0 no_point (map_number u.map) 255 u.len u.round 0 0 0
error_answer (IllFormed r) = ill_formed_answer r
