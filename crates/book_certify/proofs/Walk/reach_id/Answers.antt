-- `reach_id` meets its contract.
use native.Mathlib.Omega.{arith}
use Rattle.point.specs.Code.{point_id_of}
use Rattle.book_certify.proofs.Adds.{adds-absent, adds-found}
use Rattle.book_certify.proofs.Walk.reach_id.Goals as goal

pub returns-in-Some : goal.returns-in-Some
returns-in-Some c =
    adds-found c.requires.1 (point_id_of c.args.id) _ c.in-Some.ensures c.args.self.now (omega (arith, c.in-Some.ensures.within, c.args.by.now.index.now.room))

pub returns-in_default : goal.returns-in_default
returns-in_default c = adds-absent c.args.self.now (point_id_of c.args.id) c.in_default.ensures
