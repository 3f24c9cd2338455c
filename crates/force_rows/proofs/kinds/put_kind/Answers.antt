-- `put_kind` meets its contract, number by number.
use Rattle.std.proofs.lemmas.Grind.{common_steps}
use Rattle.std.proofs.lemmas.Bool.Decides.{nat_tests}
use native.Mathlib.Omega.{arith}
use Rattle.schedule.specs.Code.{settings_of}
use Rattle.judge_mismatch.specs.Code.{listed}
use Rattle.judge_mismatch.proofs.Heads.{few-listed}
use Rattle.force_rows.proofs.Order.{ranked_first, ranked_next, ranked_done, kind_apart, kind_places}
use Rattle.force_rows.proofs.kinds.put_kind.Goals as goal

pub loop-w-init : goal.loop-w-init
loop-w-init c =
    let few = few-listed c.args.list.now c.requires in
    let made = c.put_number-w.ensures in
    let m = made.most in
    let l = made.later in (
      omega (arith, m, l),
      λ p v g.
          ranked_first _ (kind_apart (settings_of c.args.by.now.conf) c.args.by.now.required p (listed c.args.list.now) few c.args.is_target)
          (kind_places (settings_of c.args.by.now.conf) c.args.by.now.required p (listed c.args.list.now) few c.args.is_target) _ _ _ (made.put p v g) l,
    )

pub loop-w-preserved : goal.loop-w-preserved
loop-w-preserved c =
    let few = few-listed c.args.list.now c.requires in
    let made = c.put_number-w-in-loop-w.ensures in
    let m = made.most in
    let l = made.later in
    let b = c.loop-w.invariant.0 in (
      omega (arith, m, l, b),
      λ p v g.
          ranked_next _ (kind_apart (settings_of c.args.by.now.conf) c.args.by.now.required p (listed c.args.list.now) few c.args.is_target)
          (kind_places (settings_of c.args.by.now.conf) c.args.by.now.required p (listed c.args.list.now) few c.args.is_target) _ _ _ c.loop-w.w _
          (c.loop-w.invariant.1 p v g) (made.put p v g) l,
    )

pub returns-clause-put : goal.returns-clause-put
returns-clause-put c =
    let few = few-listed c.args.list.now c.requires in
    λ p v g.
    ranked_done _ (kind_apart (settings_of c.args.by.now.conf) c.args.by.now.required p (listed c.args.list.now) few c.args.is_target)
    (kind_places (settings_of c.args.by.now.conf) c.args.by.now.required p (listed c.args.list.now) few c.args.is_target) _ _ c.loop-w.w
    (c.loop-w.invariant.1 p v g) (grind (arith, common_steps, nat_tests))
