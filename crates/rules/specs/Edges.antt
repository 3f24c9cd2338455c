-- Document 01, "Edges, proved as one tabulated fact": P1 to P10.
use Rattle.std.specs.Prelude.{ℕ, ◌≡◌, true, false, List, [], ◌∷◌, None, Some}
use Rattle.base.specs.Base.{concat, first_of}
use Rattle.map.specs.Rows.{Pair}
use Rattle.point.specs.Point.{PointId, Includes, Direct, Indirect, PointInfo, is_wave_far_enough, is_anchor_proof, is_anchor_trigger, sticky_anchors}
use Rattle.point.specs.declared.data.PointRole.{PointRole}
use Rattle.point.specs.declared.data.PointRole.TheVariants.{Regular, AnchorProof, Genesis}
use Rattle.point.specs.declared.data.PointMap.TheVariants as map
use Rattle.schedule.specs.Settings.{Settings}
use Rattle.reasons.specs.declared.ill_formed.StructureIssue.TheVariants.{AuthorInMap, AnchorTime}
use Rattle.reasons.specs.declared.ill_formed.IllFormedReason.TheVariants.{TooManyStickyAnchors, BadLastStickyFlag}
use Rattle.reasons.specs.declared.ill_formed.VerifyError.TheVariants.{IllFormed}
use Rattle.rules.specs.Verify.{structure_rows, genesis_structure_rows, sticky_fault}
use Rattle.reasons.specs.Invalid.{InvalidDependency}
use Rattle.reasons.specs.Verdict as verdict
use Rattle.rules.specs.Answer.{verdict_answer}
use Rattle.rules.specs.DagPoint.{DagPoint, Valid, TransInvalid, NotFound, Dropped, Entry}
use Rattle.rules.specs.Validate.{over_lists}

-- settings with sticky_anchors 3, a clock skew of 500 and a history of 21
unfoldable pub conf : Settings
conf =
    record {
      genesis_round = 10;
      genesis_digest = 77;
      payload_batch_bytes = 1000;
      sticky_anchors = 3;
      clock_skew_millis = 500;
      commit_history_rounds = 21;
    }

-- a point of author 1 with direct links through its own previous point
abbrev pub point_at : ℕ → List Pair → List ℕ → PointRole → ℕ → ℕ → PointInfo
point_at round included evidenced role time anchor_time =
    record {
      id = record { round = round; digest = 5; author = 1 };
      payload_len = 0;
      payload_bytes = 0;
      includes = included;
      witness = [];
      evidence = evidenced;
      anchor_proof = Direct (Includes 1);
      anchor_trigger = Direct (Includes 1);
      role = role;
      time = time;
      anchor_time = anchor_time;
    }

-- the author's pair, with the digest of genesis' previous point
abbrev pub own : List Pair
own = record { peer = 1; digest = 0 } ∷ []

abbrev pub target_at : ℕ → PointId
target_at round = record { round = round; digest = 4; author = 2 }

-- a point whose two links go through a peer's point to one target at round 16
abbrev pub linked_at : ℕ → ℕ → List Pair → List ℕ → ℕ → ℕ → PointInfo
linked_at author round included evidenced peer time =
    record {
      id = record { round = round; digest = 7; author = author };
      payload_len = 0;
      payload_bytes = 0;
      includes = included;
      witness = [];
      evidence = evidenced;
      anchor_proof = Indirect (target_at 16) (Includes peer);
      anchor_trigger = Indirect (target_at 16) (Includes peer);
      role = Regular;
      time = time;
      anchor_time = 10;
    }

-- the judged point of P6 to P10: time 1,000, without a previous point; it includes points of authors 2 and 3
abbrev pub judged_at : ℕ → PointInfo
judged_at round = linked_at 1 round (record { peer = 2; digest = 7 } ∷ record { peer = 3; digest = 7 } ∷ []) [] 2 1000

-- a point that it includes
abbrev pub included_at : ℕ → ℕ → ℕ → PointInfo
included_at author round time = linked_at author round (record { peer = author; digest = 6 } ∷ []) (1 ∷ []) author time

abbrev pub entry_with : DagPoint → Entry
entry_with state = record { state = state; certified = false; first_valid = false }

-- entries of a point of round 111: of author 2 at this time; of author 3, sound or not found; and one that was dropped with its round
abbrev pub of_two : ℕ → Entry
of_two time = entry_with (Valid (included_at 2 110 time))

abbrev pub of_three : Entry
of_three = entry_with (Valid (included_at 3 110 900))

abbrev pub not_found : Entry
not_found = entry_with (NotFound (record { round = 110; digest = 7; author = 3 }))

abbrev pub dropped : Entry
dropped = entry_with Dropped

-- a trans-invalid entry whose root cause is at round 90 with this reason, and what is recorded of it
abbrev pub rooted : ℕ → ℕ → ℕ → Entry
rooted author round n = entry_with (TransInvalid (included_at author round 900) (target_at 90) n)

abbrev pub root_of : ℕ → ℕ → InvalidDependency
root_of author n = record { to = target_at 90; reason = n; through = Includes author }

-- the verdict over direct entries alone, and the number of its reason, 0 if none
abbrev pub over : ℕ → List Entry → verdict.Verdict
over round es = over_lists conf false (judged_at round) es []

abbrev pub number_of : verdict.Verdict → ℕ
number_of v = (verdict_answer v).reason

pub record Edges : Type 0 where
  -- P1 Indirect link 3 rounds back: near; 4: far; direct: near
  pub near : is_wave_far_enough 20 (Indirect (target_at 17) (Includes 2)) ≡ false
  pub far : is_wave_far_enough 20 (Indirect (target_at 16) (Includes 2)) ≡ true
  pub direct : is_wave_far_enough 20 (Direct (Includes 2)) ≡ false
  -- P2 Proof of seq_no 0 is no trigger; of 1 is both
  pub first_proof : is_anchor_trigger (AnchorProof 0 true) ≡ false
  pub later_proof : is_anchor_proof (AnchorProof 1 true) ≡ true
  pub later_trigger : is_anchor_trigger (AnchorProof 1 true) ≡ true
  -- P3 A regular point, evidence empty with the author included: author in includes; both reversed: the same
  pub included : first_of (concat (structure_rows (point_at 12 own [] Regular 9 1))) ≡ Some (AuthorInMap map.Includes)
  pub reversed : first_of (concat (structure_rows (point_at 12 [] (2 ∷ []) Regular 9 1))) ≡ Some (AuthorInMap map.Includes)
  -- P4 Time equal to anchor_time: bad above genesis, needed at genesis
  pub equal_above : first_of (concat (structure_rows (point_at 12 own (2 ∷ []) Regular 9 9))) ≡ Some AnchorTime
  pub later_above : first_of (concat (structure_rows (point_at 12 own (2 ∷ []) Regular 9 8))) ≡ None
  pub equal_genesis : first_of (concat (genesis_structure_rows (point_at 10 own [] Genesis 9 9))) ≡ None
  pub later_genesis : first_of (concat (genesis_structure_rows (point_at 10 own [] Genesis 9 8))) ≡ Some AnchorTime
  -- P5 sticky_anchors 3: seq_no 4 too many; 3 not last, or 2 last: bad flag
  pub too_many : first_of (sticky_fault conf (sticky_anchors (AnchorProof 4 true))) ≡ Some (IllFormed (TooManyStickyAnchors 4))
  pub not_last : first_of (sticky_fault conf (sticky_anchors (AnchorProof 3 false))) ≡ Some (IllFormed BadLastStickyFlag)
  pub last_too_soon : first_of (sticky_fault conf (sticky_anchors (AnchorProof 2 true))) ≡ Some (IllFormed BadLastStickyFlag)
  pub last_in_time : first_of (sticky_fault conf (sticky_anchors (AnchorProof 3 true))) ≡ None
  -- P6 Root 90, history 21: recorded at r−1 = 110, not at 111
  pub in_window : over 111 (rooted 2 110 6 ∷ []) ≡ verdict.TransInvalid (root_of 2 6)
  pub past_window : over 112 (rooted 2 111 6 ∷ []) ≡ verdict.Valid
  -- P7 Equal rounds: reason 2 then 6 records 6; 6 then 2 keeps 6
  pub dag_round_later : over 111 (rooted 2 110 2 ∷ rooted 3 110 6 ∷ []) ≡ verdict.TransInvalid (root_of 3 6)
  pub dag_round_first : over 111 (rooted 2 110 6 ∷ rooted 3 110 2 ∷ []) ≡ verdict.TransInvalid (root_of 2 6)
  -- P8 Entries giving 11 then 19: 19
  pub last_reason : number_of (over 111 (of_two 1501 ∷ not_found ∷ [])) ≡ 19
  pub last_reason_reversed : number_of (over 111 (not_found ∷ of_two 1501 ∷ [])) ≡ 11
  -- P9 11 then dropped: 11; dropped first: 3
  pub dropped_later : number_of (over 111 (of_two 1501 ∷ dropped ∷ [])) ≡ 11
  pub dropped_first : number_of (over 111 (dropped ∷ of_two 1501 ∷ [])) ≡ 3
  -- P10 Time 1,000, skew 500, an entry that isn't the previous point: 1,500 passes, 1,501 gives 11
  pub in_skew : over 111 (of_two 1500 ∷ of_three ∷ []) ≡ verdict.Valid
  pub past_skew : number_of (over 111 (of_two 1501 ∷ of_three ∷ [])) ≡ 11
