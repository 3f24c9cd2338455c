-- `judge_book` meets its contract: the direct entries, then the indirect ones.
use Rattle.judge_valid.specs.Code.{point_view_of}
use Rattle.reasons.specs.Code.{verdict_of}
use Rattle.point.specs.Said.{said}
use Rattle.schedule.specs.Code.{settings_of}
use Rattle.judge_step.specs.Code.{judging_of}
use Rattle.book_judge.specs.Code.{Asked}
use Rattle.book_judge.proofs.Laws.{judged-over}
use Rattle.book_judge.proofs.judge_book.Goals as goal

pub returns : goal.returns
returns c =
    λ b h d.
    let q = said c.args.point.now in
    let a : Asked c.args.book.now.bytes.now b c.args.book.now.index.now c.from.result q = record { holds = h; view = c.from.ensures } in
    judged-over (settings_of c.args.conf) c.args.required (point_view_of c.from.result) q b (judging_of c.judge_direct_list-direct.result) (judging_of c.judge_targets.result) (verdict_of c.verdict.result)
    c.from.ensures (c.judge_direct_list-direct.ensures b c.args.point.now.info a d) (c.judge_targets.ensures b c.args.point.now.rec.now a) c.verdict.ensures
