-- `judge_versions` meets its contract. The invariant: the versions so far, over the entries that are left, give what all entries give.
use Rattle.judge_valid.specs.Code.{point_view_of}
use Rattle.schedule.specs.Code.{settings_of}
use Rattle.books.specs.Kept.{Book}
use Rattle.book_read.specs.Code.{Holds}
use Rattle.book_judge.specs.Code.{versions_of}
use Rattle.book_judge.proofs.Versions.{versions_fold, VersionsLeft}
use Rattle.book_judge.proofs.direct.judge_versions.Given as goal

abbrev pub invariant-loop-j : goal.invariant-loop-j
invariant-loop-j l =
    (b : Book) → Holds l.book.bytes.now b l.book.index.now →
    VersionsLeft (settings_of l.by.conf) l.by.required (point_view_of l.by.view) b (versions_fold (settings_of l.by.conf) l.by.required (point_view_of l.by.view) (versions_of l.initial.so_far) b) l.j (versions_of l.so_far)
