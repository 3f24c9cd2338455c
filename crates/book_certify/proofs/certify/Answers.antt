-- `certify` meets its contract: where the previous point isn't kept, nothing is marked.
use native.Mathlib.Omega.{arith}
use Rattle.point.specs.Code.{point_id_of}
use Rattle.schedule.specs.Code.{settings_of}
use Rattle.book_certify.proofs.Marking.{covered, marked_certified, walked_told, not_found}
use Rattle.book_certify.proofs.certify.Goals as goal

pub returns-in_default : goal.returns-in_default
returns-in_default c =
    not_found (settings_of c.args.conf) (point_id_of c.args.prev) c.requires (λ k. omega (arith, c.slice_known-1.given k)) c.in_default.ensures

pub returns : goal.returns
returns c =
    let conf = settings_of c.args.conf in
    let prev = point_id_of c.args.prev in
    marked_certified conf c.args.book.now prev c.args.index.now (c.write_marks.ensures (covered conf c.args.book.now prev) (walked_told conf prev c.reach_all.ensures))
