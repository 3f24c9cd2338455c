-- `put_rows` meets its contract: the direct entries' rows, else those of the indirect ones.
use native.Mathlib.Omega.{arith}
use Rattle.trail.proofs.WalkLaws.{put_first, put_second}
use Rattle.trail.proofs.walk.put_rows.Goals as goal

pub returns-then-direct-gt0-clause-put : goal.returns-then-direct-gt0-clause-put
returns-then-direct-gt0-clause-put c = λ p v. put_first _ _ p _ _ _ v _ _ _ c.put_directs-direct.ensures.put c.if-direct-gt0.true

pub returns-clause-put : goal.returns-clause-put
returns-clause-put c =
    let none = c.if-direct-gt0.false in
    λ p v.
    put_second _ _ p _ _ _ v _ _ _ _ _ _ c.put_directs-direct.ensures.put none
    (c.put_directs-direct.ensures.targets (omega arith)) (c.put_indirects.ensures.put p v)
