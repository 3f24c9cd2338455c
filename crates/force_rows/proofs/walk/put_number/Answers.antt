-- `put_number` meets its contract, by the first of the entries that are left.
use Rattle.std.proofs.lemmas.Grind.{common_steps}
use Rattle.std.proofs.lemmas.Bool.Decides.{nat_tests}
use Rattle.std.specs.Prelude.{is_some, ℕ, List, [], ◌∷◌, ◌++◌}
use native.Mathlib.Omega.{arith}
use mathlib.Core.Path.{ap, subst}
use Rattle.base.proofs.Lists.{rest}
use Rattle.reasons.specs.Code.{reason_of}
use Rattle.rules.specs.Trail.{Row, row}
use Rattle.judge_entries.specs.Entry.{listed_of}
use Rattle.judge_mismatch.proofs.Heads.{Next, next_of, next-is}
use Rattle.force_rows.specs.Code.{Near}
use Rattle.force_rows.specs.Walk.{NumberPut}
use Rattle.force_rows.proofs.WalkLaws.{left_start, left_room, left-aside, left-next, going_start, going_left, going-done, going-aside, going-none, going-some, none_told, some_told}
use Rattle.force_rows.proofs.walk.put_number.Goals as goal
use Rattle.force_rows.proofs.walk.put_number.Goals.{After-known_entry-x}

-- the first entry, and what is left after it
first : (c : After-known_entry-x) → Next c.loop-left.left.now (listed_of c.known_entry-x.result)
first c = next-is _ _ c.loop-left.invariant.0.reads (grind (arith, common_steps, nat_tests)) c.known_entry-x.ensures.same

pub loop-left-init : goal.loop-left-init
loop-left-init c = (left_start _ _ _ c.requires.reads c.requires.later, λ p v m. going_start _ _ p _ _ _ _ _)

pub known_entry-x-requires : goal.known_entry-x-requires
known_entry-x-requires c =
    let n = next_of c.loop-left.left.now c.loop-left.invariant.0.reads (grind (arith, common_steps, nat_tests)) in
    ap is_some n.1.entry

pub loop-left-preserved-then-is_some-is_target : goal.loop-left-preserved-then-is_some-is_target
loop-left-preserved-then-is_some-is_target c =
    let n = first (goal.at.loop-left-preserved-then-is_some-is_target c).After-known_entry-x in
    let w = c.loop-left.invariant in
    let t = rest c.known_entry-x.result.size c.loop-left.left.now in (
      left-aside _ _ _ _ _ _ w.0 _ n _ t,
      λ p v m. going_left _ _ _ _ _ _ _ _ _ _ _ _ _ t (going-aside _ _ _ _ _ _ _ _ _ _ _ _ (w.1 p v m) _ n (grind (arith, common_steps, nat_tests))),
    )

pub overflow_add-entry : goal.overflow_add-entry
overflow_add-entry c =
    let m = left_room _ _ _ _ _ _ c.loop-left.invariant.0 _ (first (goal.at.overflow_add-entry c).After-known_entry-x) in
    omega arith

pub loop-left-preserved-in_default : goal.loop-left-preserved-in_default
loop-left-preserved-in_default c =
    let n = first (goal.at.loop-left-preserved-in_default c).After-known_entry-x in
    let w = c.loop-left.invariant in
    let t = rest c.known_entry-x.result.size c.loop-left.left.now in (
      left-next _ _ _ _ _ _ w.0 _ n _ _ _ t (omega arith) w.0.later,
      λ p v m.
          going_left _ _ _ _ _ _ _ _ _ _ _ _ _ t
          (going-none _ _ _ _ _ _ _ _ _ _ _ _ (w.1 p v m) _ n (grind (arith, common_steps, nat_tests)) (none_told _ _ c.in_default.is (c.final_reason.ensures p v))),
    )

pub loop-left-preserved : goal.loop-left-preserved
loop-left-preserved c =
    let n = first (goal.at.loop-left-preserved c).After-known_entry-x in
    let w = c.loop-left.invariant in
    let t = rest c.known_entry-x.result.size c.loop-left.left.now in
    let made = c.put_final-so_far.ensures in (
      left-next _ _ _ _ _ _ w.0 _ n _ _ _ t made.most made.later,
      λ p v m.
          going_left _ _ _ _ _ _ _ _ _ _ _ _ _ t
          (going-some _ _ _ _ _ _ _ _ _ _ _ _ (w.1 p v m) _ n (grind (arith, common_steps, nat_tests)) (reason_of c.in-Some.reason)
          (some_told _ _ _ c.in-Some.is (c.final_reason.ensures p v)) m _ _
          (subst
          (λ (z : ℕ). (rows : List Row) (k : ℕ) (before : List ℕ) → NumberPut rows c.args.number k before c.loop-left.out c.loop-left.so_far →
          Near rows (row z c.loop-left.entry (reason_of c.in-Some.reason)) →
          NumberPut (rows ++ (row z c.loop-left.entry (reason_of c.in-Some.reason) ∷ [])) c.args.number k before c.put_final-so_far.new.out c.put_final-so_far.result)
          c.list_number.ensures made.put)),
    )

pub returns-clause-put : goal.returns-clause-put
returns-clause-put c =
    λ p v m. going-done _ _ _ _ _ _ _ _ _ _ _ _ (c.loop-left.invariant.1 p v m) (grind (arith, common_steps, nat_tests))
