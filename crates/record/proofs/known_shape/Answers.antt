-- `record::known_shape` meets its contract: each field starts after the one before.
use native.Mathlib.Omega.{arith}
use mathlib.Core.Path.{refl}
use Rattle.record.specs.Record.{start_of}
use Rattle.record.proofs.Laws.{known-within, known-end}
use Rattle.record.proofs.known_shape.Goals as goal

pub field_end-payload-requires : goal.field_end-payload-requires
unfolding start_of
field_end-payload-requires c = known-within _ c.requires 0 _ (omega arith) refl

pub field_end-includes-requires : goal.field_end-includes-requires
unfolding start_of
field_end-includes-requires c = known-within _ c.requires 1 _ (omega arith) (cc)

pub field_end-witness-requires : goal.field_end-witness-requires
unfolding start_of
field_end-witness-requires c = known-within _ c.requires 2 _ (omega arith) (cc)

pub field_end-evidence-requires : goal.field_end-evidence-requires
unfolding start_of
field_end-evidence-requires c = known-within _ c.requires 3 _ (omega arith) (cc)

pub field_end-anchor_proof-requires : goal.field_end-anchor_proof-requires
unfolding start_of
field_end-anchor_proof-requires c = known-within _ c.requires 4 _ (omega arith) (cc)

pub field_end-anchor_trigger-requires : goal.field_end-anchor_trigger-requires
unfolding start_of
field_end-anchor_trigger-requires c = known-within _ c.requires 5 _ (omega arith) (cc)

pub field_end-role-requires : goal.field_end-role-requires
unfolding start_of
field_end-role-requires c = known-within _ c.requires 6 _ (omega arith) (cc)

pub field_end-times-requires : goal.field_end-times-requires
unfolding start_of
field_end-times-requires c = known-within _ c.requires 7 _ (omega arith) (cc)

pub field_end-requires : goal.field_end-requires
unfolding start_of
field_end-requires c = known-within _ c.requires 8 _ (omega arith) (cc)

pub returns : goal.returns
unfolding start_of
returns c = record {
  at = record { payload = cc; includes = cc; witness = cc; evidence = cc; anchor_proof = cc; anchor_trigger = cc; role = cc; times = cc };
  end = let e = known-end _ c.requires in cc;
}
