-- What a record says that was read. It stands apart from Code, on which the struct Point rests.
use Rattle.std.specs.Prelude.{ℕ, List, ◌≡◌, Option, None, Some}
use Rattle.point.specs.Point.{PointInfo}
use Rattle.point.specs.Reading.{read_point}
use Rattle.point.specs.Code.{point_of}
use Rattle.point.specs.declared.info.Point as code

-- the point that a record says
abbrev pub said : code.Point → PointInfo
said p = point_of p.rec.now p.info

-- what the reader gives for a slice: the point of this very slice, or none where it says none
abbrev pub PointRead : List ℕ → Option code.Point → Type 0
PointRead s (Some p) = p.rec.now ≡ s
PointRead s None = read_point s ≡ None
