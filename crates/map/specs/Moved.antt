-- A map moved from one arrangement into the other (document 02, U5): the same blocks of 32 bytes at other places.
use Rattle.std.specs.Prelude.{ℕ, ◌+◌, ◌-◌, ◌*◌, ◌/◌, ◌%◌, List, ◌++◌, length, drop, ltb, eqb}
use Rattle.base.specs.Base.{pick, concat, tabulate}
use Rattle.parts.specs.Bytes.{bytes_at}
use Rattle.map.specs.declared.Arrangement.{Arrangement}
use Rattle.map.specs.declared.Arrangement.TheVariants.{Pairs, Columns}

abbrev pub other : Arrangement → Arrangement
other Pairs = Columns
other Columns = Pairs

-- of n pairs in an arrangement, which block becomes block k in the other: columns begin with the n peers, and in pairs each digest
-- follows its peer
abbrev pub came_from : Arrangement → ℕ → ℕ → ℕ
came_from Pairs n k = pick (ltb k n) (2 * k) (2 * (k - n) + 1)
came_from Columns n k = pick (eqb (k % 2) 0) (k / 2) (n + k / 2)

abbrev pub moved_block : Arrangement → List ℕ → ℕ → List ℕ
moved_block a s k = bytes_at 32 s (32 * came_from a (length s / 64) k)

-- a map in an arrangement, in the other; bytes after whole pairs stay where they are
unfoldable pub moved : Arrangement → List ℕ → List ℕ
unfolding concat tabulate
moved a s = concat (tabulate (moved_block a s) (2 * (length s / 64)) 0) ++ drop (64 * (length s / 64)) s
