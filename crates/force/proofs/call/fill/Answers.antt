-- `fill` meets its contract: all rows are put at once where they fit for certain; else as many as were counted have space, or have none.
use native.Mathlib.Omega.{arith}
use mathlib.Core.Path.{refl}
use Rattle.schedule.specs.Code.{settings_of}
use Rattle.trail_rows.proofs.Laws.{put_filled}
use Rattle.force.proofs.CallLaws.{rows_fit}
use Rattle.force.proofs.call.fill.Goals as goal

pub returns-then-fit_for_certain : goal.returns-then-fit_for_certain
returns-then-fit_for_certain c =
    λ p v g.
    let by = c.args.by.now in
    let fit = rows_fit (settings_of by.conf) by.required p c.args.list.now c.args.rule c.requires in
    put_filled 17 _ _ _ _ (c.put_all.ensures.put p v g) (omega (arith, fit, c.fit_for_certain.ensures c.if-fit_for_certain.true))

pub returns-then-out-rows : goal.returns-then-out-rows
returns-then-out-rows c =
    let short = c.if-out-rows.true in
    λ p v g. (let n = (c.put_all-rows.ensures.put p v g).count in (refl, omega (arith, n, short), refl))
