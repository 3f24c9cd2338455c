-- `put_rows` meets its contract: the direct entries' rows, else those of the indirect ones.
use Rattle.schedule.specs.Code.{settings_of}
use Rattle.judge_mismatch.specs.Code.{listed}
use Rattle.judge_mismatch.proofs.Heads.{few-listed}
use Rattle.force_rows.proofs.Order.{kinds_first, kinds_second}
use Rattle.force_rows.proofs.kinds.put_rows.Goals as goal

pub returns-then-direct-gt0-clause-put : goal.returns-then-direct-gt0-clause-put
returns-then-direct-gt0-clause-put c =
    λ p v g.
    kinds_first (settings_of c.args.by.now.conf) c.args.by.now.required p (listed c.args.list.now) (few-listed c.args.list.now c.requires) _ _ _
    (c.put_kind-direct.ensures.put p v g) c.if-direct-gt0.true

pub returns-clause-put : goal.returns-clause-put
returns-clause-put c =
    λ p v g.
    kinds_second (settings_of c.args.by.now.conf) c.args.by.now.required p (listed c.args.list.now) (few-listed c.args.list.now c.requires) _ _ _ _ _
    (c.put_kind-direct.ensures.put p v g) c.if-direct-gt0.false (c.put_kind.ensures.put p v g)
