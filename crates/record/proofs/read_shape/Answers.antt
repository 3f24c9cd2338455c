-- `record::read_shape` meets its contract: the walk is at each field in turn, and the last needs no head after it.
use native.Mathlib.Omega.{arith}
use mathlib.Core.Path.{◌≡◌, sym, ◌∙◌}
use mathlib.Core.Bool.{true}
use Rattle.record.specs.Record.{rows, row_of, field_ok}
use Rattle.record.proofs.Laws.{fitting, head_cut, walk_start, walk_off, walk_past, end-last}
use Rattle.record.proofs.read_shape.Goals as goal
use Rattle.record.proofs.read_shape.Goals.{Else-not-field_ok}

last-fits : (c : Else-not-field_ok) → field_ok (row_of 8) c.args.s.now c.in_ok-times.times ≡ true
unfolding row_of rows
last-fits c = sym c.field_ok.ensures ∙ c.if-not-field_ok.false

pub returns-then-s-lt3 : goal.returns-then-s-lt3
returns-then-s-lt3 c = head_cut _ c.if-s-lt3.true

pub next_if_ok-requires-clause-at_value : goal.next_if_ok-requires-clause-at_value
next_if_ok-requires-clause-at_value c = walk_start _ c.if-s-lt3.false

pub returns-then-not-field_ok : goal.returns-then-not-field_ok
unfolding row_of rows
returns-then-not-field_ok c = walk_off _ 8 _ c.in_ok-times.ensures.left (omega arith) (sym c.field_ok.ensures ∙ c.if-not-field_ok.true)

pub field_end-requires : goal.field_end-requires
field_end-requires c = (fitting (row_of 8) _ _ (last-fits c)).end

pub returns : goal.returns
returns c = record {
  at = record {
    payload = c.in_ok-payload.ensures.start;
    includes = c.in_ok-includes.ensures.start;
    witness = c.in_ok-witness.ensures.start;
    evidence = c.in_ok-evidence.ensures.start;
    anchor_proof = c.in_ok-anchor_proof.ensures.start;
    anchor_trigger = c.in_ok-anchor_trigger.ensures.start;
    role = c.in_ok-role.ensures.start;
    times = c.in_ok-times.ensures.start;
  };
  end = walk_past _ 8 _ c.in_ok-times.ensures.left (omega arith) (last-fits (goal.at.returns c).Else-not-field_ok) ∙ rw c.field_end.ensures (end-last _ _);
}
