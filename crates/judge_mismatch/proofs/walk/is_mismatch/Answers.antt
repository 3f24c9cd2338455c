-- `is_mismatch` meets its contract: each answer is a row of `mismatch`.
use Rattle.std.proofs.Common.{rules, length-take-le}
use mathlib.Core.Path.{◌≡◌, ap, sym, ◌∙◌}
use mathlib.Core.Bool.{false, not}
use Prim.Native.Nat.{ℕ}
use native.Mathlib.Omega.{arith}
use mathlib.Core.List.{List}
use borrow.Author.Tests.{lt-ltb}
use lib.ListN.{length, take}
use Rattle.rules.specs.List.{indirects}
use Rattle.rules.specs.Mismatch.{all_targets}
use Rattle.base.proofs.Bool.{clash}
use Rattle.point.specs.Said.{said}
use Rattle.point.proofs.Laws.{readable}
use Rattle.judge_mismatch.specs.Code.{listed, maps_in}
use Rattle.judge_mismatch.specs.Maps.{AllPlaced}
use Rattle.judge_mismatch.proofs.Rows.{maps_of, maps_few}
use Rattle.judge_mismatch.proofs.Laws.{mismatch-twice, mismatch_failed, mismatch-lacking, mismatch-absent, mismatch-targets}
use Rattle.judge_mismatch.proofs.walk.is_mismatch.Goals as goal
use Rattle.judge_mismatch.proofs.walk.is_mismatch.Goals.{After-walk, In-Some, then-walked-lacking, else-walked-lacking}

taken : (c : After-walk) → length (take c.maps_in_dag.result c.maps_of-maps.result) ≡ maps_in c.args.presence
taken c =
    let two : length c.maps_of-maps.result ≡ 2 = search rules in
    length-take-le _ _ (omega (arith, maps_few c.args.presence, c.maps_in_dag.ensures)) ∙ c.maps_in_dag.ensures

placed : (c : In-Some) → length (take c.maps_in_dag.result c.maps_of-maps.result) ≡ maps_in c.args.presence →
    AllPlaced c.args.presence (said c.args.point.now) c.args.list.now c.walk.new.maps c.in-Some.walked.dropped c.in-Some.walked.end
placed c n = c.in-Some.ensures c.args.presence n

pub returns-then-stand_twice : goal.returns-then-stand_twice
returns-then-stand_twice c = λ l e. sym (mismatch-twice _ _ _ l e (sym c.stand_twice.ensures ∙ c.if-stand_twice.true))

pub returns-in_default : goal.returns-in_default
returns-in_default c = λ l e. sym (mismatch_failed _ _ _ l e (c.in_default.ensures c.args.presence (taken (goal.at.returns-in_default c).After-walk)))

pub returns-then-has_absent_targets : goal.returns-then-has_absent_targets
returns-then-has_absent_targets c =
    let at = goal.at.returns-then-has_absent_targets c in
    let f = maps_of _ _ (readable _ _ c.args.point.now.reads.read) in
    λ l e.
    c.if-has_absent_targets.true ∙ sym (elim c.if-walked-lacking.branch [
      | then-walked-lacking w ↦ mismatch-lacking _ _ _ l e f (placed at.In-Some (taken at.After-walk)) (rw (← c.lacking.ensures) w.if-walked-lacking.true)
      | else-walked-lacking w ↦ mismatch-absent _ _ _ l e f (placed at.In-Some (taken at.After-walk)) (rw (← c.lacking.ensures) w.if-walked-lacking.false) (sym w.has_absent_targets.ensures ∙ (sym w.value-is ∙ c.if-has_absent_targets.true))
    ])

pub returns-else-has_absent_targets : goal.returns-else-has_absent_targets
returns-else-has_absent_targets c =
    let at = goal.at.returns-else-has_absent_targets c in
    let f = maps_of _ _ (readable _ _ c.args.point.now.reads.read) in
    let w = placed at.In-Some (taken at.After-walk) in
    λ l e.
    ap not (c.are_targets.ensures c.args.point.now.rec.now ∙ ap (λ (k : List ℕ). all_targets (said c.args.point.now) false false (indirects (listed k))) c.from_place.ensures)
    ∙ sym (elim c.if-walked-lacking.branch [
      | then-walked-lacking b ↦ clash c.if-walked-lacking.value (b.value-is ∙ lt-ltb _ _ b.if-walked-lacking.true) c.if-has_absent_targets.false
      | else-walked-lacking b ↦ mismatch-targets _ _ _ l e f w (rw (← c.lacking.ensures) b.if-walked-lacking.false) (sym b.has_absent_targets.ensures ∙ (sym b.value-is ∙ c.if-has_absent_targets.false))
    ])
