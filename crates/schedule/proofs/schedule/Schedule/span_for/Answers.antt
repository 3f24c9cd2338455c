-- `schedule::schedule::Schedule::span_for` meets its contract.
use Rattle.std.proofs.Common.{◌≡◌, length, take, sym, ◌∙◌, rules, arith}
use Rattle.std.proofs.lemmas.List.{take_min}
use Rattle.schedule.specs.Code.{schedule_of}
use Rattle.schedule.proofs.Laws.{LastOf, last-is, span-past, span-known}
use Rattle.schedule.proofs.schedule.Schedule.span_for.Goals as goal

pub returns-then-self-round : goal.returns-then-self-round
returns-then-self-round c s = sym (span-past _ _ c.if-self-round.true)

pub returns : goal.returns
returns c s =
    let l = take c.min.result c.args.self.now.spans in
    let last : LastOf l c.args.round c.rposition.result = search rules in
    let four : length c.args.self.now.spans ≡ 4 = omega arith in
    let counted : l ≡ take c.args.self.now.count c.args.self.now.spans = rw (c.min.ensures, ← four) (take_min _ _) in
    last-is s l c.args.round _ last ∙ rw counted (sym (span-known (schedule_of s c.args.self.now) c.args.round c.if-self-round.false))
