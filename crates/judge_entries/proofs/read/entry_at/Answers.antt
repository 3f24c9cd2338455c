-- `entry_at` meets its contract: the flags, then what stands after them.
use Rattle.std.specs.Prelude.{option_map}
use Rattle.std.proofs.lemmas.List.{drop-drop}
use Prim.Native.Nat.{◌+◌}
use native.Mathlib.Omega.{arith}
use mathlib.Core.Path.{◌≡◌, ap, sym, ◌∙◌}
use lib.ListN.{get_or, drop}
use Rattle.base.proofs.Lists.{rest}
use Rattle.rules.specs.List.{read_state, entry_at}
use Rattle.judge_entries.specs.Entry.{stated_of}
use Rattle.judge_entries.proofs.Laws.{entry_flagged, listed_as, state_within, ends_after}
use Rattle.judge_entries.proofs.read.entry_at.Goals as goal
use Rattle.judge_entries.proofs.read.entry_at.Goals.{After-read_state}

flagged : (c : After-read_state) →
    let a = c.args in
    let s = a.s.now in
    entry_at a.aim a.front s ≡ option_map (listed_as a.aim a.front s) (read_state (get_or s 3 0) (get_or s 6 0) (drop 7 s))
flagged c = entry_flagged _ _ _ (sym c.field_ok.ensures ∙ c.if-not-field_ok.false) c.if-s-gt1.false c.if-s-gt1-2.false

-- what stands after the flags
stated : (c : After-read_state) →
    let s = c.args.s.now in
    option_map stated_of c.read_state.result ≡ read_state (get_or s 3 0) (get_or s 6 0) (drop 7 s)
stated c = let s = c.args.s.now in c.read_state.ensures.same ∙ ap (read_state (get_or s 3 0) (get_or s 6 0)) (rest 7 s)

pub returns-in_err-x-clause-same : goal.returns-in_err-x-clause-same
returns-in_err-x-clause-same c =
    let r = (goal.at.returns-in_err-x-clause-same c).After-read_state in
    rw c.from_residual.ensures
    (sym (flagged r ∙ ap (option_map (listed_as c.args.aim c.args.front c.args.s.now)) (sym (stated r) ∙ ap (option_map stated_of) c.in_err-x.was)))

pub overflow_add-result-2 : goal.overflow_add-result-2
overflow_add-result-2 c =
    let r = (goal.at.overflow_add-result-2 c).After-read_state in
    let w = state_within c.args.s.now (stated_of c.in_ok-x.x) (sym c.field_ok.ensures ∙ c.if-not-field_ok.false) c.if-s-gt1.false c.if-s-gt1-2.false
    (sym (stated r) ∙ ap (option_map stated_of) c.in_ok-x.was) in
    omega arith

pub returns : goal.returns
returns c =
    let r = (goal.at.returns c).After-read_state in
    record {
      same = sym (flagged r ∙ ap (option_map (listed_as c.args.aim c.args.front c.args.s.now)) (sym (stated r) ∙ ap (option_map stated_of) c.in_ok-x.was));
      placed = λ t e. ends_after t _ _ (c.args.front + 7) _ (rest 7 c.args.s.now ∙ (ap (drop 7) (sym e) ∙ drop-drop 7 c.args.front t)) c.in_ok-x.ensures.placed;
    }
