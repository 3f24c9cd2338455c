-- `put_directs` meets its contract, by the first of the entries that are left.
use Rattle.std.proofs.lemmas.Grind.{common_steps}
use Rattle.std.proofs.lemmas.Bool.Decides.{nat_tests}
use Rattle.std.specs.Prelude.{is_some}
use native.Mathlib.Omega.{arith}
use mathlib.Core.Path.{◌≡◌, ap, sym, ◌∙◌}
use mathlib.Core.Bool.{false}
use Prim.Native.Nat.{◌<◌}
use lib.ListN.{length}
use Rattle.base.proofs.Lists.{rest}
use Rattle.base.proofs.Option.{unfound}
use Rattle.judge_entries.specs.Entry.{listed_of}
use Rattle.judge_mismatch.proofs.Heads.{Next, next_of, next-is}
use Rattle.trail.proofs.WalkLaws.{directs_start, directs-none, directs-over, directs-done, place-room, directs-dropped, directs-next, directs_left, no_entry}
use Rattle.trail.proofs.walk.put_directs.Goals as goal
use Rattle.trail.proofs.walk.put_directs.Goals.{After-is_empty, After-known_entry-x}

nonempty : (c : After-is_empty) → c.is_empty.result ≡ false → 0 < length c.loop-quick.left.now
nonempty c h = grind (arith, common_steps, nat_tests)

-- the first entry, and what is left after it
first : (c : After-known_entry-x) → Next c.loop-quick.left.now (listed_of c.known_entry-x.result)
first c = next-is _ _ c.loop-quick.invariant.reads (grind (arith, common_steps, nat_tests)) c.known_entry-x.ensures.same

pub loop-quick-init : goal.loop-quick-init
loop-quick-init c = directs_start _ _ _ c.args.list.now c.args.out.now c.requires

pub known_entry-x-requires : goal.known_entry-x-requires
known_entry-x-requires c =
    let at = goal.at.known_entry-x-requires c in
    let n = next_of c.loop-quick.left.now c.loop-quick.invariant.reads (nonempty at.After-is_empty c.loop-quick-test.true) in
    ap is_some n.1.entry

pub returns-then-is_some : goal.returns-then-is_some
returns-then-is_some c =
    let at = goal.at.returns-then-is_some c in
    let n = first at.After-known_entry-x in
    let w = c.loop-quick.invariant in
    let h = sym c.is_some.ensures ∙ c.if-is_some.true in
    record {
      put = directs-done _ _ _ _ _ _ _ _ _ w _ n h;
      few = let f = w.few in let r = w.room in omega arith;
      reads = λ e. w.reads;
      last = λ e. directs-over _ _ _ _ _ _ _ _ _ w _ n h;
      targets = λ e. w.targets;
    }

pub returns-then-is_dropped : goal.returns-then-is_dropped
returns-then-is_dropped c =
    let at = goal.at.returns-then-is_dropped c in
    let n = first at.After-known_entry-x in
    let w = c.loop-quick.invariant in
    let direct = unfound _ (sym c.is_some.ensures ∙ c.if-is_some.false) in
    let d = sym (c.is_dropped.ensures c.known_entry-x.result.entry.rec.now) ∙ c.if-is_dropped.true in
    let p = directs-dropped _ _ _ _ _ _ _ _ _ w _ n direct _ _ _ d c.dropped_reason.ensures c.put_reason-rows.ensures.put in
    record {
      put = p.0;
      few = let f = w.few in let r = w.room in let m = c.put_reason-rows.ensures.most in omega arith;
      reads = λ e. w.reads;
      last = λ e. absurd (let m = p.1 in omega arith);
      targets = λ e. w.targets;
    }

pub overflow_add-entry : goal.overflow_add-entry
overflow_add-entry c =
    let at = goal.at.overflow_add-entry c in
    let m = place-room _ _ _ _ _ _ _ _ _ c.loop-quick.invariant _ (first at.After-known_entry-x) (unfound _ (sym c.is_some.ensures ∙ c.if-is_some.false)) in
    omega arith

pub loop-quick-preserved : goal.loop-quick-preserved
loop-quick-preserved c =
    let at = goal.at.loop-quick-preserved c in
    let n = first at.After-known_entry-x in
    let w = c.loop-quick.invariant in
    let direct = unfound _ (sym c.is_some.ensures ∙ c.if-is_some.false) in
    let d = sym (c.is_dropped.ensures c.known_entry-x.result.entry.rec.now) ∙ c.if-is_dropped.false in
    let x = c.known_entry-x.result in
    directs_left _ _ _ _ _ _ _ _ _ _ (rest x.size c.loop-quick.left.now)
    (directs-next _ _ _ _ _ _ _ _ _ w _ n direct _ _ d c.put_direct-rows.ensures.most c.put_direct-rows.ensures.put)

pub returns : goal.returns
returns c =
    let w = c.loop-quick.invariant in
    let none : length c.loop-quick.left.now ≡ 0 = grind (arith, common_steps, nat_tests) in
    record {
      put = directs-none _ _ _ _ _ _ _ _ _ w none;
      few = let f = w.few in let r = w.room in omega arith;
      reads = λ e. w.reads;
      last = λ e. no_entry c.loop-quick.left.now none;
      targets = λ e. w.targets;
    }
