-- `read_record` meets its contract: where the record ends, then what its part of the slice says.
use Rattle.std.specs.Prelude.{Some}
use mathlib.Core.Path.{◌≡◌, sym, ◌∙◌, subst}
use Rattle.std.proofs.Common.{length-take-le}
use lib.ListN.{take}
use Rattle.record.specs.Record.{record_end}
use Rattle.record.proofs.Laws.{front-shaped}
use Rattle.point.specs.Said.{PointRead}
use Rattle.judge_entries.proofs.Laws.{front_endless, front-within, front-unread, front_unlisted, front-listed, front-placed}
use Rattle.judge_entries.proofs.read.read_record.Goals as goal
use Rattle.judge_entries.proofs.read.read_record.Goals.{In_ok-n, In_ok-point}

ended : (c : In_ok-n) → record_end c.args.s.now ≡ Some c.in_ok-n.n
ended c = sym c.record_end.ensures ∙ c.in_ok-n.was

said-by : (c : In_ok-point) → c.in_ok-point.point.rec.now ≡ take c.in_ok-n.n c.args.s.now
said-by c = subst (PointRead _) c.in_ok-point.was c.read_shaped.ensures

pub returns-in_err-n-clause-same : goal.returns-in_err-n-clause-same
returns-in_err-n-clause-same c = rw c.from_residual.ensures (sym (front_endless _ (sym c.record_end.ensures ∙ c.in_err-n.was)))

pub slice_bounds-read_shaped-end : goal.slice_bounds-read_shaped-end
slice_bounds-read_shaped-end c = sym (length-take-le _ _ (front-within _ _ (ended (goal.at.slice_bounds-read_shaped-end c).In_ok-n)))

pub read_shaped-requires : goal.read_shaped-requires
read_shaped-requires c = front-shaped _ _ (ended (goal.at.read_shaped-requires c).In_ok-n)

pub returns-in_err-point-clause-same : goal.returns-in_err-point-clause-same
returns-in_err-point-clause-same c =
    rw c.from_residual-in_err-point.ensures
    (sym (front-unread _ _ (ended (goal.at.returns-in_err-point-clause-same c).In_ok-n) (subst (PointRead _) c.in_err-point.was c.read_shaped.ensures)))

pub returns-then-not-is_listable-clause-same : goal.returns-then-not-is_listable-clause-same
returns-then-not-is_listable-clause-same c =
    let at = goal.at.returns-then-not-is_listable-clause-same c in
    sym (front_unlisted _ _ (ended at.In_ok-n) at.In_ok-point.in_ok-point.point (said-by at.In_ok-point) (sym c.is_listable.ensures ∙ c.if-not-is_listable.true))

pub returns : goal.returns
returns c =
    let at = goal.at.returns c in
    let said = said-by at.In_ok-point in
    record {
      same = sym (front-listed _ _ (ended at.In_ok-n) at.In_ok-point.in_ok-point.point said (sym c.is_listable.ensures ∙ c.if-not-is_listable.false));
      placed = front-placed _ _ (ended at.In_ok-n) at.In_ok-point.in_ok-point.point said;
    }
