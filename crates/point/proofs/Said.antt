-- What a slice says, by the reader's answer.
use Rattle.std.specs.Prelude.{ℕ, List, Option, None, Some, option_map}
use mathlib.Core.Path.{◌≡◌, sym}
use Rattle.point.specs.Reading.{read_point}
use Rattle.point.specs.Said.{said, PointRead}
use Rattle.point.specs.declared.info.Point as code

pub said_read : (s : List ℕ) (r : Option code.Point) → PointRead s r → read_point s ≡ option_map said r
said_read s None h = h
said_read s (Some p) h = rw (sym h) p.reads.read
