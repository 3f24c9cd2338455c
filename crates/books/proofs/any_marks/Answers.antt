-- `any_marks` meets its contract.
use Rattle.books.proofs.Kept.{any-marks}
use Rattle.books.proofs.any_marks.Goals as goal

pub returns : goal.returns
returns c = any-marks
