-- `is_quiet` meets its contract: a valid entry goes by the quick test.
use mathlib.Core.Path.{ap}
use Rattle.base.proofs.Bool.{clash}
use Rattle.point.proofs.Laws.{readable}
use Rattle.judge_entries.specs.Code.{info_of}
use Rattle.judge_step.proofs.step.is_quiet.Goals as goal
use Rattle.judge_step.proofs.step.is_quiet.Goals.{in-Valid, in_default}

pub is_quick-requires : goal.is_quick-requires
is_quick-requires c =
    elim c.match-matches.branch [
      | in-Valid w ↦ (readable _ _ (c.args.entry.now.read _ (ap info_of w.in-Valid.is)).read).shaped
      | in_default w ↦ clash _ c.if-matches.true w.matches-is
    ]

pub returns-then-matches : goal.returns-then-matches
returns-then-matches c = λ h.
    elim c.match-matches.branch [
      | in-Valid w ↦ ((_, w.in-Valid.is), c.is_quick.ensures h)
      | in_default w ↦ clash _ c.if-matches.true w.matches-is
    ]
