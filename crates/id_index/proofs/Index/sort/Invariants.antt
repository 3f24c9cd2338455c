-- `sort`: the ids before j are sorted.
use Rattle.id_index.specs.Code.{SameFront, Sorted}
use Rattle.id_index.proofs.Index.sort.Given as goal

abbrev pub invariant-loop-j : goal.invariant-loop-j
invariant-loop-j l = record {
  same_front : SameFront l.initial.self l.self;
  sorted : Sorted l.s l.self l.j;
}
