-- A point record moved from one arrangement of its maps into the other (document 02, U5), and what the two calls that do so give.
use Rattle.std.specs.Prelude.{ℕ, ◌+◌, List, length, ltb, Err, Ok, Result, is_some}
use Rattle.base.specs.Base.{pick}
use Rattle.parts.specs.Bytes.{put_at}
use Rattle.map.specs.declared.Arrangement.{Arrangement}
use Rattle.map.specs.Moved.{moved}
use Rattle.record.specs.Record.{start_of, content_of, well_shaped}
use Rattle.point.specs.Reading.{read_point_in}

-- a record with its map in field k moved
unfoldable pub with_moved : Arrangement → ℕ → List ℕ → List ℕ
unfolding moved content_of
with_moved a k s = put_at s (start_of s k + 3) (moved a (content_of s k))

-- "one point record from the old arrangement to the new one", or back: its includes and its witness moved
unfoldable pub converted : Arrangement → List ℕ → List ℕ
unfolding well_shaped with_moved
converted a s = pick (well_shaped s) (with_moved a 3 (with_moved a 2 s)) s

-- ---- the calls, by the arrangement that "the caller says .. it hands over"

-- "it tests 3, then 14": the record can't be read in that arrangement; the output of `size` bytes "is too small"; else how many bytes
-- are written
unfoldable pub conversion : Arrangement → List ℕ → ℕ → Result ℕ ℕ
unfolding read_point_in
conversion a s size = pick (is_some (read_point_in a s)) (pick (ltb size (length s)) (Err 14) (Ok (length s))) (Err 3)

-- the output: "behind them [it] keeps its bytes", and with a number it keeps all
abbrev pub output : Arrangement → List ℕ → List ℕ → Result ℕ ℕ → List ℕ
output a s out (Err n) = out
output a s out (Ok n) = put_at out 0 (converted a s)
