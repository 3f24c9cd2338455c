-- `is_trigger` meets its contract: by the role's length.
use mathlib.Core.Path.{◌≡◌}
use lib.ListN.{get_or}
use lib.Dec.{ltb}
use Rattle.base.proofs.Option.{has}
use Rattle.point.specs.Point.{is_anchor_trigger}
use Rattle.point.specs.Reading.{read_role}
use Rattle.point.specs.declared.data.PointRole.{PointRole}
use Rattle.judge_valid.proofs.QuickLaws.{trigger-long, trigger-short}
use Rattle.judge_valid.proofs.brief.is_trigger.Goals as goal

pub returns-then-role-eq3 : goal.returns-then-role-eq3
returns-then-role-eq3 c =
    λ g e.
    let s = c.args.role.now in
    has (λ (x : PointRole). ltb 0 (get_or s 1 0) ≡ is_anchor_trigger x) (read_role s) g (trigger-long s c.if-role-eq3.true) e

pub returns : goal.returns
returns c =
    λ g e.
    let s = c.args.role.now in
    has (λ (x : PointRole). ltb 1 (get_or s 0 0) ≡ is_anchor_trigger x) (read_role s) g (trigger-short s c.if-role-eq3.false) e
