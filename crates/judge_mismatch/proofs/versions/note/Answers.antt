-- `note` meets its contract: the versions before what is left are the block (`Noting`).
use Rattle.std.specs.Prelude.{option_map}
use mathlib.Core.Path.{ap, sym, ◌∙◌}
use Rattle.base.proofs.Lists.{rest}
use Rattle.base.proofs.Option.{unfound, some_of}
use Rattle.point.specs.Code.{point_id_of}
use Rattle.judge_mismatch.proofs.Own.{given-reads, noting_start, noting_own, noting_other}
use Rattle.judge_mismatch.proofs.versions.note.Goals as goal

pub loop-at-init : goal.loop-at-init
loop-at-init c =
    rw c.into_iter-at-iterator.ensures.into_iter_gives
    (noting_start _ _ _ _ c.requires c.entries-at-items.ensures.list c.entries-at-items.ensures.left)

pub loop-at-preserved-then-is_none : goal.loop-at-preserved-then-is_none
loop-at-preserved-then-is_none c =
    noting_other c.loop-at.invariant c.in-Some.ensures.steps
    (sym c.own_id.ensures ∙ ap (option_map point_id_of) (unfound _ c.if-is_none.ensures))

pub id_field-requires : goal.id_field-requires
id_field-requires c =
    let there = rest c.in-Some.at c.args.list.now.bytes.now in
    rw (there, ← c.loop-at.invariant.whole) (given-reads c.in-Some.ensures.steps)

pub loop-at-preserved : goal.loop-at-preserved
loop-at-preserved c =
    let there = rest c.in-Some.at c.args.list.now.bytes.now in
    let found = some_of _ c.if-is_none.ensures in
    noting_own c.loop-at.invariant c.in-Some.ensures.steps (point_id_of found.0)
    (sym c.own_id.ensures ∙ ap (option_map point_id_of) found.1)
    (rw (c.id_field.ensures, there) at c.add.ensures)
