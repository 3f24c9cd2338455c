-- Laws of a map that is written block by block at its place.
use Rattle.std.specs.Prelude.{Err, Ok, is_some}
use Prim.Native.Nat.{ℕ, ◌+◌, ◌*◌, ◌/◌, ◌%◌, ◌≤◌, ◌<◌}
use native.Mathlib.Nat.{zero-add}
use native.Mathlib.Numerals.{add-one}
use native.Mathlib.Omega.{arith}
use mathlib.Core.Path.{◌≡◌, refl, ap, sym, ◌∙◌}
use mathlib.Core.Bool.{true, false}
use mathlib.Core.List.{List, ◌++◌, append-nil}
use lib.ListN.{length, drop_of_length-le}
use lib.Dec.{ltb, eqb}
use borrow.Author.Tests.{eqb-true, lt-ltb, le-ltb}
use Rattle.base.specs.Base.{concat, tabulate}
use Rattle.base.proofs.Bool.{and_left, and_right, pick_true, pick-false}
use Rattle.base.proofs.Joined.{joined-next, joined-length}
use Rattle.parts.specs.Bytes.{put_at}
use Rattle.parts.proofs.Laws.{at_length}
use Rattle.write.proofs.Laws.{put_nothing, put_length, put_put, put-inside}
use Rattle.map.specs.declared.Arrangement.{Arrangement}
use Rattle.map.specs.Moved.{came_from, moved_block, moved}
use Rattle.map.specs.Rows.{is_map}
use Rattle.map.proofs.Moved.{came_within, moved-length}
use Rattle.record.specs.Record.{rows, row_of, start_of, content_of, well_shaped}
use Rattle.record.proofs.Laws.{content-greatest, record_most, shaped-end}
use Rattle.point.specs.Reading.{maps_ok, read_point_in}
use Rattle.point.specs.Converted.{converted, conversion}
use Rattle.point.proofs.Known.{some_in}
use Rattle.point.proofs.Replaced.{replaced-room}
use Rattle.point.proofs.Converted.{converted-is, both-put}

abbrev pub blocks : Arrangement → List ℕ → ℕ → List ℕ
blocks a s k = concat (tabulate (moved_block a s) k 0)

-- the first k blocks of a map, moved, are written at a place
abbrev pub Moving : Arrangement → List ℕ → List ℕ → ℕ → ℕ → List ℕ → Type 0
Moving a s old at k new = new ≡ put_at old at (blocks a s k)

module _ (a : Arrangement) (s old : List ℕ) (at : ℕ) (room : at + length s ≤ length old) where
  pub moving_start : Moving a s old at 0 old
  unfolding concat tabulate
  moving_start = sym (put_nothing old at)

  block-length : (k : ℕ) → k < 2 * (length s / 64) → length (moved_block a s k) ≡ 32
  block-length k h = at_length 32 s (32 * came_from a (length s / 64) k) (omega (arith, came_within a (length s / 64) k h))

  blocks-length : (k : ℕ) → k ≤ 2 * (length s / 64) → length (blocks a s k) ≡ 32 * k
  blocks-length k h = joined-length 32 (moved_block a s) k 0 (λ i l m. block-length i (omega arith))

  pub moving_step : (k : ℕ) (new : List ℕ) → k < 2 * (length s / 64) → Moving a s old at k new →
      Moving a s old at (k + 1) (put_at new (at + 32 * k) (moved_block a s k))
  moving_step k new h e =
      let here = blocks-length k (omega arith) in
      ap (λ l. put_at l (at + 32 * k) (moved_block a s k)) e
      ∙ (put_put old at (blocks a s k) (moved_block a s k) (at + 32 * k) (omega arith) (omega (arith, block-length k h))
      ∙ ap (put_at old at) (sym (ap (λ i. concat (tabulate (moved_block a s) i 0)) (add-one k) ∙ (joined-next (moved_block a s) k 0 ∙ ap (λ i. blocks a s k ++ moved_block a s i) (zero-add k)))))

  pub moving_end : (k : ℕ) (new : List ℕ) → length s % 64 ≡ 0 → k ≡ 2 * (length s / 64) → Moving a s old at k new → new ≡ put_at old at (moved a s)
  unfolding moved
  moving_end k new w h e =
      let none = drop_of_length-le s {i = 64 * (length s / 64)} (omega arith) in
      e ∙ ap (put_at old at) (ap (blocks a s) h ∙ (sym (append-nil (blocks a s (2 * (length s / 64)))) ∙ ap (λ l. blocks a s (2 * (length s / 64)) ++ l) (sym none)))

-- ---- what a conversion gives

module _ (a : Arrangement) (s : List ℕ) (size : ℕ) where
  pub conversion_unread : is_some (read_point_in a s) ≡ false → conversion a s size ≡ Err 3
  unfolding conversion
  conversion_unread h = pick-false (is_some (read_point_in a s)) _ _ h

  pub conversion_short : is_some (read_point_in a s) ≡ true → size < length s → conversion a s size ≡ Err 14
  unfolding conversion
  conversion_short h l = pick_true (is_some (read_point_in a s)) _ _ h ∙ pick_true (ltb size (length s)) _ _ (lt-ltb size (length s) l)

  pub conversion_done : is_some (read_point_in a s) ≡ true → length s ≤ size → conversion a s size ≡ Ok (length s)
  unfolding conversion
  conversion_done h l = pick_true (is_some (read_point_in a s)) _ _ h ∙ pick-false (ltb size (length s)) _ _ (le-ltb size (length s) l)

pub unshaped_unread : (a : Arrangement) (s : List ℕ) → well_shaped s ≡ false → is_some (read_point_in a s) ≡ false
unshaped_unread a s h = rw (some_in a s, h) refl

-- the maps of a record that is read are whole pairs
module _ (a : Arrangement) (s : List ℕ) (h : is_some (read_point_in a s) ≡ true) where
  maps : maps_ok a s ≡ true
  maps = and_left (maps_ok a s) _ (and_right (well_shaped s) _ (sym (some_in a s) ∙ h))

  pub includes_whole : length (content_of s 2) % 64 ≡ 0
  unfolding maps_ok is_map
  includes_whole = eqb-true _ _ (and_left (eqb (length (content_of s 2) % 64) 0) _ (and_left (is_map a (content_of s 2)) _ maps))

  pub witness_whole : length (content_of s 3) % 64 ≡ 0
  unfolding maps_ok is_map
  witness_whole =
      eqb-true _ _ (and_left (eqb (length (content_of s 3) % 64) 0) _ (and_left (is_map a (content_of s 3)) _ (and_right (is_map a (content_of s 2)) _ maps)))

-- where the maps stand in the output
module _ (s : List ℕ) (w : well_shaped s ≡ true) where
  pub includes_room : start_of s 2 + 3 + length (content_of s 2) ≤ length s
  includes_room = replaced-room s w 2 (omega arith) (content_of s 2) refl

  pub witness_room : start_of s 3 + 3 + length (content_of s 3) ≤ length s
  witness_room = replaced-room s w 3 (omega arith) (content_of s 3) refl

  pub includes_few : length (content_of s 2) ≤ 16320
  unfolding row_of rows
  includes_few = content-greatest s w 2 (omega arith)

  pub witness_few : length (content_of s 3) ≤ 16320
  unfolding row_of rows
  witness_few = content-greatest s w 3 (omega arith)

  -- the record and its moved maps, written one after the other
  pub put_converted : (a : Arrangement) (out : List ℕ) → length s ≤ length out →
      put_at (put_at (put_at out 0 s) (start_of s 2 + 3) (moved a (content_of s 2))) (start_of s 3 + 3) (moved a (content_of s 3))
      ≡ put_at out 0 (converted a s)
  put_converted a out h =
      let at = start_of s 2 + 3 in
      let includes = moved a (content_of s 2) in
      let first : at + length includes ≤ length s = omega (arith, includes_room, moved-length a (content_of s 2)) in
      let long = put_length s at includes first in
      ap (λ l. put_at l (start_of s 3 + 3) (moved a (content_of s 3))) (put-inside out s at includes h first)
      ∙ (put-inside out (put_at s at includes) (start_of s 3 + 3) (moved a (content_of s 3)) (omega arith)
      (omega (arith, witness_room, moved-length a (content_of s 3)))
      ∙ ap (put_at out 0) (sym (converted-is a s w ∙ both-put a s w)))

-- a record's length fits 32 bits
pub shaped_few : (s : List ℕ) → well_shaped s ≡ true → length s ≤ 41126
shaped_few s w = record_most s (length s) (shaped-end s w)

pub ruleset convert_facts = (shaped_few, conversion_unread, conversion_short, conversion_done, unshaped_unread, includes_whole, witness_whole, includes_room, witness_room, includes_few, witness_few, put_converted)
