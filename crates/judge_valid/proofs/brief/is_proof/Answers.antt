-- `is_proof` meets its contract: by the role's length.
use mathlib.Core.Bool.{true}
use mathlib.Core.Path.{◌≡◌, ◌∙◌}
use borrow.Author.Tests.{eq-eqb}
use lib.ListN.{get_or}
use lib.Dec.{eqb}
use Rattle.base.proofs.Option.{has}
use Rattle.point.specs.Point.{is_anchor_proof}
use Rattle.point.specs.Reading.{read_role}
use Rattle.point.specs.declared.data.PointRole.{PointRole}
use Rattle.judge_valid.proofs.QuickLaws.{proof-long, proof-short}
use Rattle.judge_valid.proofs.brief.is_proof.Goals as goal

pub returns-then-role-eq3 : goal.returns-then-role-eq3
returns-then-role-eq3 c =
    λ g e.
    let s = c.args.role.now in
    eq-eqb _ _ c.if-role-eq3.true ∙ has (λ (x : PointRole). true ≡ is_anchor_proof x) (read_role s) g (proof-long s c.if-role-eq3.true) e

pub returns-else-role-eq3 : goal.returns-else-role-eq3
returns-else-role-eq3 c =
    λ g e.
    let s = c.args.role.now in
    has (λ (x : PointRole). eqb (get_or s 0 0) 3 ≡ is_anchor_proof x) (read_role s) g (proof-short s c.if-role-eq3.false) e
