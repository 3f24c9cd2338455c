-- `fill` meets its contract: all rows are put at once where they fit for certain; else what counting kept, or another walk, is written.
use native.Mathlib.Omega.{arith}
use Rattle.schedule.specs.Code.{settings_of}
use Rattle.trail_rows.proofs.Laws.{put_filled}
use Rattle.trail.proofs.CallLaws.{put_kept, rows_fit}
use Rattle.trail.proofs.call.fill.Goals as goal

pub returns-then-fit_for_certain : goal.returns-then-fit_for_certain
returns-then-fit_for_certain c =
    λ p v.
    let by = c.args.by.now in
    let fit = rows_fit (settings_of by.conf) by.required p c.args.list.now c.args.alone c.requires in
    put_filled 15 _ _ _ _ (c.put_all.ensures.put p v) (omega (arith, fit, c.fit_for_certain.ensures c.if-fit_for_certain.true))

pub returns : goal.returns
returns c =
    let fits = c.if-trail-rows.false in
    λ p v.
    let k = put_kept _ _ _ _ (c.put_all-rows.ensures.put p v) in
    (k.count, omega (arith, k.count, fits), c.write_all.ensures p v k)
