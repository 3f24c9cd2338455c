-- What verification finds in a point that was read from bytes: its answer's numbers fit their bytes.
use Rattle.std.specs.Prelude.{Option, None, Some}
use Prim.Native.Nat.{ℕ, zero, suc, ◌+◌, ◌-◌, ◌/◌, ◌^◌, ◌≤◌, ◌<◌}
use native.Mathlib.Nat.{pow-succ'}
use native.Mathlib.Omega.{arith}
use mathlib.Core.Bool.{Bool, true, false}
use lib.ListN.{length}
use lib.Dec.{eqb}
use Rattle.base.specs.Base.{concat}
use Rattle.base.proofs.Option.{IfSome}
use Rattle.point.specs.Point.{PointInfo, Sticky, sticky_anchors, no_point}
use Rattle.point.specs.declared.data.PointMap.{PointMap}
use Rattle.point.specs.declared.data.PointMap.TheVariants as map
use Rattle.schedule.specs.Settings.{Settings}
use Rattle.schedule.specs.Schedule.{Schedule, peers_for}
use Rattle.reasons.specs.Answer.{answer, map_number, flag}
use Rattle.reasons.specs.IllFormed.{ill, ill_formed_answer, error_answer}
use Rattle.reasons.specs.declared.ill_formed.StructureIssue.{StructureIssue}
use Rattle.reasons.specs.declared.ill_formed.StructureIssue.TheVariants.{ExpectedGenesis, BadGenesisPrevPoint, AuthorInMap, TriggerBadProofLink, Link}
use Rattle.reasons.specs.declared.ill_formed.StructureIssue.TheVariants.{AnchorTime, NoPrevPoint}
use Rattle.reasons.specs.declared.ill_formed.IllFormedReason.TheVariants.{Structure}
use Rattle.reasons.specs.declared.ill_formed.VerifyError.{VerifyError}
use Rattle.rules.specs.Verify.{includes_round, vset_row, new_rows, structure, genesis_rows, sticky_fault, above_rows, well_formed_rows, lack, scheduled, evidence_rows, includes_rows, witness_rows, peer_rows, faults, verify}
use Rattle.point.proofs.Fits.{IdFits, PointFits}
use Rattle.rules.proofs.All.{All, all-pick, all-when, all-concat, first-of-all}
use Rattle.rules.proofs.AnswerBytes.{AnswerFits}

pub none-fits : (n : ℕ) → 0 < 256 ^ n
none-fits zero = omega arith
none-fits (suc n) = let h = none-fits n in omega (arith, pow-succ' 256 n)

pub no_point-fits : IdFits no_point
no_point-fits = record { round = none-fits 4; digest = none-fits 32; author = none-fits 32 }

pub ill-fits : (n m g a b u : ℕ) → a < 256 ^ 4 → b < 256 ^ 4 → AnswerFits (ill n m g a b u)
ill-fits n m g a b u f h = record { id = no_point-fits; first = f; second = h; peer = none-fits 32 }

plain : (n m g u : ℕ) → AnswerFits (ill n m g 0 0 u)
plain n m g u = ill-fits n m g 0 0 u (omega arith) (omega arith)

pub flag-fits : (b : Bool) → flag b < 256 ^ 4
flag-fits true = omega arith
flag-fits false = omega arith

abbrev pub ErrorFits : VerifyError → Type 0
ErrorFits e = AnswerFits (error_answer e)

issue_fits : (i : StructureIssue) → AnswerFits (ill_formed_answer (Structure i))
issue_fits (ExpectedGenesis b) = ill-fits 7 _ _ 1 _ 0 (omega arith) (flag-fits b)
issue_fits BadGenesisPrevPoint = ill-fits 7 _ _ 2 0 0 (omega arith) (omega arith)
issue_fits (AuthorInMap m) = ill-fits 7 _ _ 3 0 0 (omega arith) (omega arith)
issue_fits TriggerBadProofLink = ill-fits 7 _ _ 4 0 0 (omega arith) (omega arith)
issue_fits (Link g m) = ill-fits 7 _ _ 5 0 0 (omega arith) (omega arith)
issue_fits AnchorTime = ill-fits 7 _ _ 6 0 0 (omega arith) (omega arith)
issue_fits NoPrevPoint = ill-fits 7 _ _ 7 0 0 (omega arith) (omega arith)

structure-fits : (o : Option StructureIssue) → All ErrorFits (structure o)
structure-fits None = tt
structure-fits (Some i) = (issue_fits i, tt)

module _ (c : Settings) (s : Schedule) (p : PointInfo) (f : PointFits p) (few : (round : ℕ) → length (peers_for s round) ≤ 255) where
  payload-fits : AnswerFits (ill 6 255 255 p.payload_bytes 0 0)
  payload-fits = ill-fits 6 _ _ _ 0 0 f.payload_bytes (none-fits 4)

  genesis-fits : All (All ErrorFits) (genesis_rows c p)
  unfolding genesis_rows
  genesis-fits = (search (all-when, plain), (search (all-when, payload-fits), (search (structure-fits), tt)))

  vset_fits : (round : ℕ) (m : PointMap) → round < 256 ^ 4 → All ErrorFits (vset_row c s round m)
  unfolding vset_row
  vset_fits round m h = search (all-when, found)
    where
      found : AnswerFits (answer 4 0 no_point (map_number m) 255 (length (peers_for s round)) round 0 0 0)
      found = record { id = no_point-fits; first = omega (arith, few round); second = h; peer = none-fits 32 }

  new-fits : All (All ErrorFits) (new_rows c s p)
  unfolding new_rows
  new-fits =
      let first = f.id.round in
      let second : p.id.round - 1 < 256 ^ 4 = omega arith in
      let third : p.id.round - 2 < 256 ^ 4 = omega arith in (
        search (all-when, plain),
        (
          vset_fits p.id.round map.Evidence first,
          (
            search (all-when, plain),
            (
              vset_fits (p.id.round - 1) map.Includes second,
              (vset_fits (p.id.round - 2) map.Witness third, (search (all-when, plain), (search (all-when, plain), tt))),
            ),
          ),
        ),
      )

  sticky_fits : (o : Option Sticky) → IfSome (λ (k : Sticky). k.seq_no < 256) o → All ErrorFits (sticky_fault c o)
  unfolding sticky_fault
  sticky_fits None h = tt
  sticky_fits (Some k) h = let many = ill-fits 8 255 255 k.seq_no 0 0 (omega arith) (none-fits 4) in search (all-pick, many, all-when, plain)

  above-fits : All (All ErrorFits) (above_rows c p)
  unfolding above_rows
  above-fits = (
    search (all-when, payload-fits),
    (search (structure-fits), (sticky_fits (sticky_anchors p.role) f.role, (search (all-when, plain), tt))),
  )

  well_formed-fits : All (All ErrorFits) (well_formed_rows c p)
  unfolding well_formed_rows
  well_formed-fits = all-pick (All ErrorFits) (eqb p.id.round c.genesis_round) (genesis_rows c p) (above_rows c p) genesis-fits above-fits

  module _ (evidence : length p.evidence ≤ 255) (includes : length p.includes ≤ 255) where
    lack-fits : (len n : ℕ) (m : PointMap) → len ≤ 255 → n ≤ 255 → ErrorFits (lack len n m)
    lack-fits len n m g h = ill-fits 14 (map_number m) 255 len ((n + 1) / 3) 0 (omega arith) (omega arith)

    evidence-fits : All (All ErrorFits) (evidence_rows c (scheduled c s p) p)
    unfolding evidence_rows scheduled
    evidence-fits =
        let short = lack-fits (length p.evidence) (length (peers_for s p.id.round)) map.Evidence evidence (few p.id.round) in
        search (all-pick, all-when, plain, short)

    includes-fits : All (All ErrorFits) (includes_rows (scheduled c s p) p)
    unfolding includes_rows scheduled
    includes-fits =
        let round = includes_round c p.id.round in
        let short = lack-fits (length p.includes) (length (peers_for s round)) map.Includes includes (few round) in
        search (all-when, plain, short)

    witness-fits : All (All ErrorFits) (witness_rows c (scheduled c s p) p)
    unfolding witness_rows scheduled
    witness-fits = search (all-pick, all-when, plain)

    peers_fit : All ErrorFits (concat (peer_rows c (scheduled c s p) p))
    unfolding peer_rows
    peers_fit =
        let k = scheduled c s p in
        all-concat ErrorFits (peer_rows c k p) (
          all-concat ErrorFits (evidence_rows c k p) evidence-fits,
          (all-concat ErrorFits (includes_rows k p) includes-fits, (all-concat ErrorFits (witness_rows c k p) witness-fits, tt)),
        )

    -- what verification finds
    pub verify-fits : IfSome ErrorFits (verify c s p)
    unfolding verify faults
    verify-fits = first-of-all ErrorFits (faults c s p) (search (all-concat, new-fits, well_formed-fits, peers_fit))
