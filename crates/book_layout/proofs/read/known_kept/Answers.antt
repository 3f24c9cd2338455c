-- `known_kept` meets its contract: where the record ends, what it says, and tag 33 after it, all of which stand there.
use Prim.Native.Nat.{ℕ}
use native.Mathlib.Omega.{arith}
use mathlib.Core.Path.{refl, sym}
use lib.ListN.{take}
use lib.Seq.{length-take-le}
use Rattle.book_layout.proofs.Laws.{known-end, known-point, known-inside, known-status, known_kept}
use Rattle.book_layout.proofs.read.known_kept.Goals as goal
use Rattle.book_layout.proofs.read.known_kept.Goals.{After-known_end-n}

abbrev end : After-known_end-n → ℕ
end c = c.known_end-n.result

pub known_end-n-requires : goal.known_end-n-requires
known_end-n-requires c = known-end _ c.requires

pub tag_after-t-requires : goal.tag_after-t-requires
tag_after-t-requires c = known-inside _ c.requires _ _ c.known_end-n.ensures refl

pub slice_bounds-known_point-end : goal.slice_bounds-known_point-end
slice_bounds-known_point-end c = sym (length-take-le _ _ (omega (arith, known-inside c.args.s.now c.requires _ _ c.known_end-n.ensures refl)))

pub known_point-requires : goal.known_point-requires
known_point-requires c = known-point _ c.requires _ _ c.known_end-n.ensures refl

pub status_of-requires : goal.status_of-requires
status_of-requires c =
    let n = end (goal.at.status_of-requires c).After-known_end-n in
    let s = c.args.s.now in
    known-status s c.requires (take n s) n c.known_end-n.ensures refl _ c.tag_after-t.ensures

pub returns : goal.returns
returns c =
    let n = end (goal.at.returns c).After-known_end-n in
    let s = c.args.s.now in
    known_kept s c.requires (take n s) n c.known_end-n.ensures refl _ c.tag_after-t.ensures _ c.known_point.ensures c.status_of.ensures refl
