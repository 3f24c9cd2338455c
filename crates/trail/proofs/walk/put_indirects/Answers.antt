-- `put_indirects` meets its contract, by the first of the entries that are left.
use Rattle.std.proofs.lemmas.Grind.{common_steps}
use Rattle.std.proofs.lemmas.Bool.Decides.{nat_tests}
use Rattle.std.specs.Prelude.{is_some}
use native.Mathlib.Omega.{arith}
use mathlib.Core.Path.{ap}
use Rattle.base.proofs.Lists.{rest}
use Rattle.judge_entries.specs.Entry.{listed_of}
use Rattle.judge_mismatch.proofs.Heads.{Next, next_of, next-is}
use Rattle.trail.proofs.WalkLaws.{indirects_start, left_start, indirects-none, indirects-next, indirects_left, left_left, no-direct, left-room, left-next}
use Rattle.trail.proofs.walk.put_indirects.Goals as goal
use Rattle.trail.proofs.walk.put_indirects.Goals.{After-known_entry-x}

-- the first entry, and what is left after it
first : (c : After-known_entry-x) → Next c.loop-left.left.now (listed_of c.known_entry-x.result)
first c = next-is _ _ c.loop-left.invariant.0.reads (grind (arith, common_steps, nat_tests)) c.known_entry-x.ensures.same

pub loop-left-init : goal.loop-left-init
loop-left-init c = (left_start _ c.requires.reads c.requires.last, λ p v. indirects_start _ p c.args.list.now c.args.out.now)

pub known_entry-x-requires : goal.known_entry-x-requires
known_entry-x-requires c =
    let n = next_of c.loop-left.left.now c.loop-left.invariant.0.reads (grind (arith, common_steps, nat_tests)) in
    ap is_some n.1.entry

pub returns-in_default-clause-put : goal.returns-in_default-clause-put
returns-in_default-clause-put c =
    no-direct _ _ _ c.loop-left.invariant.0 _ (first (goal.at.returns-in_default-clause-put c).After-known_entry-x) c.in_default.is

pub overflow_add-target : goal.overflow_add-target
overflow_add-target c =
    let m = left-room _ _ _ c.loop-left.invariant.0 _ (first (goal.at.overflow_add-target c).After-known_entry-x) in
    omega arith

pub loop-left-preserved : goal.loop-left-preserved
loop-left-preserved c =
    let n = first (goal.at.loop-left-preserved c).After-known_entry-x in
    let x = c.known_entry-x.result in (
      left_left _ _ _ _ (rest x.size c.loop-left.left.now)
          (left-next _ _ _ c.loop-left.invariant.0 _ n c.in-Some.role _ c.in-Some.is c.put_indirect-rows.ensures.most),
      λ p v.
          indirects_left _ _ _ _ _ _ _ _ _ (rest x.size c.loop-left.left.now)
          (indirects-next _ _ _ _ _ _ _ _ (c.loop-left.invariant.1 p v) _ n c.in-Some.role _ _ c.in-Some.is (rw (← v) c.put_indirect-rows.ensures.put)),
    )

pub returns-clause-put : goal.returns-clause-put
returns-clause-put c = λ p v. indirects-none _ _ _ _ _ _ _ _ (c.loop-left.invariant.1 p v) (grind (arith, common_steps, nat_tests))
