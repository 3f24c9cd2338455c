-- `meets` meets its contract: what is left meets the index exactly if all of it does (`Meeting`).
use Rattle.std.specs.Prelude.{option_map}
use mathlib.Core.Path.{ap, sym, ◌∙◌, subst}
use Rattle.base.proofs.Option.{unfound, some_of}
use Rattle.point.specs.Code.{point_id_of}
use Rattle.id_index.specs.Code.{FoundAt}
use Rattle.judge_mismatch.proofs.Own.{meeting_end, meeting_found, meeting_absent, meeting_other}
use Rattle.judge_mismatch.proofs.versions.meets.Goals as goal

pub loop-head-preserved-in_default : goal.loop-head-preserved-in_default
loop-head-preserved-in_default c =
    meeting_other c.loop-head.invariant c.in-Some.ensures.steps (sym c.own_id.ensures ∙ ap (option_map point_id_of) c.in_default.is)

pub returns-then-is_some : goal.returns-then-is_some
returns-then-is_some c =
    let found = some_of _ (sym c.is_some.ensures ∙ c.if-is_some.true) in
    meeting_found c.loop-head.invariant c.in-Some.ensures.steps _ (sym c.own_id.ensures ∙ ap (option_map point_id_of) c.in-Some-own_id.is) found.0
    (subst (FoundAt _ _ _) found.1 c.find.ensures)

pub loop-head-preserved : goal.loop-head-preserved
loop-head-preserved c =
    meeting_absent c.loop-head.invariant c.in-Some.ensures.steps _ (sym c.own_id.ensures ∙ ap (option_map point_id_of) c.in-Some-own_id.is)
    (subst (FoundAt _ _ _) (unfound _ (sym c.is_some.ensures ∙ c.if-is_some.false)) c.find.ensures)

pub returns : goal.returns
returns c = meeting_end c.loop-head.invariant c.in-None.ensures.steps.0
