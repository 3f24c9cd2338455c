-- `judge_versions` meets its contract. The invariant: the versions so far, over the entries that are left, give what all entries give.
use native.Mathlib.Omega.{arith}
use mathlib.Core.Path.{refl, ap, ◌∙◌}
use Prim.Native.Nat.{◌<◌}
use Rattle.judge_valid.specs.Code.{point_view_of}
use Rattle.schedule.specs.Code.{settings_of}
use Rattle.judge_step.specs.Code.{judging_of}
use Rattle.book_judge.specs.Code.{Versions, versions_of}
use Rattle.id_index.specs.Code.{count_of, id_in}
use Rattle.book_read.proofs.Laws.{found-kept}
use Rattle.point.proofs.Ids.{same_refl}
use Rattle.book_judge.proofs.Versions.{fold_step, fold_end, versions_folded}
use Rattle.book_judge.proofs.direct.judge_versions.Goals as goal

pub loop-j-init : goal.loop-j-init
loop-j-init c = λ b h. refl

pub judge_version-so_far-requires : goal.judge_version-so_far-requires
judge_version-so_far-requires c = omega (arith, c.loop-j-test.true, c.count-j-end.ensures)

pub loop-j-preserved : goal.loop-j-preserved
loop-j-preserved c = λ b h.
    let j = c.loop-j.j in
    let s = c.args.book.now.bytes.now in
    let x = c.args.book.now.index.now in
    let lt : j < count_of x = omega (arith, c.loop-j-test.true, c.count-j-end.ensures) in
    let k = found-kept h (id_in s x j) j (record { within = lt; same = same_refl (id_in s x j) }) in
    fold_step (settings_of c.args.by.now.conf) c.args.by.now.required (point_view_of c.args.by.now.view) b _ j (versions_of c.loop-j.so_far) (c.loop-j.invariant b h)
    k.kept k.rest (versions_of c.judge_version-so_far.result) k.there (c.judge_version-so_far.ensures k.kept _ (h.placed.fronts j k.kept k.rest k.there) (h.placed.ids j k.kept k.rest k.there))

pub returns : goal.returns
returns c =
    λ b h.
    ap (λ (w : Versions). w.judging)
    (fold_end (settings_of c.args.by.now.conf) c.args.by.now.required (point_view_of c.args.by.now.view) b _ c.loop-j.j (versions_of c.loop-j.so_far) (c.loop-j.invariant b h) (omega (arith, h.placed.count, c.count-j-end.ensures, c.loop-j-test.false)))
    ∙ versions_folded (settings_of c.args.by.now.conf) c.args.by.now.required (point_view_of c.args.by.now.view) b h.once (judging_of c.args.judging)
