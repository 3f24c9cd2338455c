-- `read_block` meets its contract: its versions are in the index, so that two alike are among them or one of them comes after.
use Rattle.judge_mismatch.proofs.Own.{block-twice, block-met}
use Rattle.judge_mismatch.proofs.versions.read_block.Goals as goal

pub returns-then-not-build : goal.returns-then-not-build
returns-then-not-build c = block-twice c.note-end.ensures _ c.if-not-build.ensures

pub returns : goal.returns
returns c = rw c.then_some.ensures (block-met c.note-end.ensures _ _ _ c.from_place-left.ensures c.if-not-build.ensures c.meets.ensures)
