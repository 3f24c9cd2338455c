-- `chain_all` meets its contract: the entries before j are chained.
use Rattle.book_certify.specs.Code.{Chained, SameReached}
use Rattle.book_certify.proofs.Walk.chain_all.Given as goal

abbrev pub invariant-loop-j : goal.invariant-loop-j
invariant-loop-j l = record {
  chained : Chained l.by.book.now l.by.index.now l.by.prev.round l.by.conf.commit_history_rounds l.j l.self;
  same_reached : SameReached l.initial.self l.self;
}
