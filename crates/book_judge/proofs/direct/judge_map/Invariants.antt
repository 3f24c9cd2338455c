-- `judge_map` meets its contract. The invariant: judging so far, over the dependencies that are left, gives what judging over all gives.
use Rattle.judge_valid.specs.Code.{point_view_of}
use Rattle.map.specs.Rows.{pairs_of}
use Rattle.point.specs.Point as point
use Rattle.schedule.specs.Code.{settings_of}
use Rattle.judge_step.specs.Code.{direct_fold, judging_of}
use Rattle.books.specs.Kept.{Book}
use Rattle.books.specs.Lists.{lookups}
use Rattle.book_judge.specs.Code.{Asked, NoVersions}
use Rattle.book_judge.proofs.Laws.{MapLeft}
use Rattle.book_judge.proofs.direct.judge_map.Given as goal

abbrev pub invariant-loop-i : goal.invariant-loop-i
invariant-loop-i l =
    (b : Book) (q : point.PointInfo) → Asked l.book.bytes.now b l.book.index.now l.by.view q → NoVersions q l.round (pairs_of l.rows) →
    MapLeft (settings_of l.by.conf) l.by.required (point_view_of l.by.view) b q l.round (pairs_of l.rows)
    (direct_fold (settings_of l.by.conf) l.by.required (point_view_of l.by.view) (judging_of l.initial.judging) (lookups b q l.round (pairs_of l.rows))) l.i (judging_of l.judging)
