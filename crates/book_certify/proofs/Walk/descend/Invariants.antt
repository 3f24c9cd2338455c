-- `descend` meets its contract: what is covered above the depth is reached.
use Rattle.point.specs.Code.{point_id_of}
use Rattle.schedule.specs.Code.{settings_of}
use Rattle.book_certify.specs.Code.{Grown, Sound, Done}
use Rattle.book_certify.proofs.Walk.descend.Given as goal

abbrev pub invariant-loop-depth : goal.invariant-loop-depth
invariant-loop-depth l = record {
  grown : Grown l.initial.self l.self;
  sound : Sound (settings_of l.by.conf) l.by.book.now l.by.index.now (point_id_of l.by.prev) l.self;
  done : Done (settings_of l.by.conf) l.by.book.now l.by.index.now (point_id_of l.by.prev) l.depth l.self;
}
