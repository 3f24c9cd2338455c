-- `listed_gives` meets its contract: each case by its equation.
use Rattle.std.specs.Prelude.{None}
use mathlib.Core.Path.{ap, ◌∙◌}
use mathlib.Core.Bool.{false}
use Rattle.point.specs.Point.{through}
use Rattle.schedule.specs.Code.{settings_of}
use Rattle.judge_entries.specs.Entry.{entry_of}
use Rattle.judge_step.specs.Code.{gives_of}
use Rattle.judge_list.proofs.Laws.{after-dropped, directed, targeted}
use Rattle.judge_list.proofs.listed_gives.Goals as goal

pub returns-in-None : goal.returns-in-None
returns-in-None c =
    let by = c.args.by.now in
    rw (c.in-None.is, c.if-ended.true) (after-dropped (settings_of by.conf) by.required by.view c.args.info.now (entry_of c.args.x.now.entry) (record { reason = None; root = None; dropped = false }))

pub returns-in-None-2 : goal.returns-in-None-2
returns-in-None-2 c =
    let by = c.args.by.now in
    rw c.in-None-2.is
    (directed (settings_of by.conf) by.required by.view c.args.info.now (entry_of c.args.x.now.entry) c.args.ended (gives_of c.direct_gives.result) c.direct_gives.ensures)

pub returns-in-Some : goal.returns-in-Some
returns-in-Some c =
    let by = c.args.by.now in
    let e = entry_of c.args.x.now.entry in
    rw c.in-Some.is
    (targeted (settings_of by.conf) by.required by.view c.args.info.now e c.in-Some.role c.args.ended _ (gives_of c.indirect_gives.result) (c.through.ensures ∙ ap through c.anchor_link.ensures) (c.indirect_gives.ensures e.first_valid))
