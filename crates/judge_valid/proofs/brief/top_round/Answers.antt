-- `top_round` meets its contract: by the link's length and its map.
use mathlib.Core.Path.{ap, ◌∙◌}
use Rattle.point.specs.Point.{through_round}
use Rattle.judge_valid.proofs.QuickLaws.{target-far, target-near}
use Rattle.judge_valid.proofs.brief.top_round.Goals as goal

pub returns-then-has_role : goal.returns-then-has_role
returns-then-has_role c = λ l e. rw c.if-has_role.true

pub returns-then-link-ge102 : goal.returns-then-link-ge102
returns-then-link-ge102 c = λ l e. rw c.if-has_role.false (c.u32_at.ensures ∙ target-far _ _ l e c.if-link-ge102.true)

pub returns : goal.returns
returns c = λ l e.
    rw c.if-has_role.false (c.round.ensures ∙ (ap (λ t. through_round t c.args.round) c.through_at.ensures ∙ target-near _ _ l e c.if-link-ge102.false))
