-- `chain`: the ids before j are chained, and none of them stands twice.
use Rattle.id_index.specs.Code.{SameFront, Chains, Once}
use Rattle.id_index.proofs.Index.chain.Given as goal

abbrev pub invariant-loop-j : goal.invariant-loop-j
invariant-loop-j l = record {
  same_front : SameFront l.initial.self l.self;
  chains : Chains l.s l.self l.j;
  once : Once l.s l.self l.j;
}
