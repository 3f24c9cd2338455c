-- `read_trans_invalid` meets its contract: the root cause, then the record after it.
use mathlib.Core.Path.{refl, sym, ◌∙◌}
use lib.ListN.{get_or}
use Rattle.base.proofs.Lists.{rest}
use Rattle.point.specs.Code.{point_id_of}
use Rattle.point.specs.Reading.{point_id_at}
use Rattle.rules.specs.DagPoint.{TransInvalid}
use Rattle.judge_entries.proofs.Laws.{state_trans, record-none, record-some, ends_after}
use Rattle.judge_entries.proofs.read.read_trans_invalid.Goals as goal

pub returns-in_err-point-clause-same : goal.returns-in_err-point-clause-same
returns-in_err-point-clause-same c =
    let s = c.args.s.now in
    let i = point_id_at s 3 in
    rw c.from_residual.ensures
    (sym (state_trans s i (sym c.is_root.ensures ∙ c.if-not-is_root.false) refl
    ∙ record-none s _ 72 (rest 72 s) c.read_record.result c.read_record.ensures.same (λ q. TransInvalid q i (get_or s 71 0)) c.in_err-point.was))

pub returns : goal.returns
returns c =
    let s = c.args.s.now in
    let i = point_id_of c.point_id_at.result in
    let p = c.in_ok-point.point in
    record {
      same =
          sym (state_trans s i (sym c.is_root.ensures ∙ c.if-not-is_root.false) c.point_id_at.ensures
          ∙ record-some s _ 72 (rest 72 s) c.read_record.result c.read_record.ensures.same (λ q. TransInvalid q i (get_or s 71 0)) p c.in_ok-point.was);
      placed = ends_after s _ p.rec.now 72 _ (rest 72 s) c.in_ok-point.ensures.placed;
    }
