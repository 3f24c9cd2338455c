-- `reach_from` meets its contract: a cursor goes over the depth and one over those above it (`Passing`).
use native.Mathlib.Omega.{arith}
use mathlib.Core.Path.{◌≡◌}
use Prim.Native.Nat.{◌+◌}
use Rattle.book_certify.specs.Code.{book_in}
use Rattle.book_certify.proofs.Entries.{Stands, stands}
use Rattle.book_certify.proofs.Passing.{passing_start, here-below, passing_past, above-below, passing_taken, passed-all, passed-full}
use Rattle.book_certify.proofs.Walk.reach_from.Goals as goal
use Rattle.book_certify.proofs.Walk.reach_from.Goals.{At-loop-j, In-Some, In-Some-checked_sub}

read : (c : At-loop-j) → let by = c.args.by.now in Stands by.book.now by.end by.index.now (book_in by.book.now)
read c = stands c.args.by.now.bytes c.requires.read

here : (c : In-Some) → c.loop-j.left ≡ c.in-Some.j + 1
here c = omega (arith, c.from.ensures, c.in-Some.ensures)

above : (c : In-Some-checked_sub) → c.loop-j.above ≡ c.in-Some-checked_sub.e + 1
above c = omega (arith, c.from-in-Some.ensures, c.in-Some-checked_sub.ensures)

pub loop-j-init : goal.loop-j-init
loop-j-init c = rw c.rounds.ensures (passing_start (stands c.args.by.now.bytes c.requires.read) c.requires.depth_least c.requires.depth_bound c.requires.chained)

pub loop-j-smaller-then-self-j : goal.loop-j-smaller-then-self-j
loop-j-smaller-then-self-j c =
    omega (arith, here-below (read (goal.at.loop-j-smaller-then-self-j c).At-loop-j) c.requires.depth_least c.requires.depth_bound c.requires.chained c.loop-j.invariant c.in-Some.j (here (goal.at.loop-j-smaller-then-self-j c).In-Some))

pub loop-j-preserved-then-self-j : goal.loop-j-preserved-then-self-j
loop-j-preserved-then-self-j c =
    passing_past (read (goal.at.loop-j-preserved-then-self-j c).At-loop-j) c.requires.depth_least c.requires.depth_bound c.requires.chained c.loop-j.invariant c.in-Some.j (here (goal.at.loop-j-preserved-then-self-j c).In-Some) c.if-self-j.true

pub returns-in_default-checked_sub : goal.returns-in_default-checked_sub
returns-in_default-checked_sub c =
    passed-all (read (goal.at.returns-in_default-checked_sub c).At-loop-j) c.requires.depth_least c.requires.depth_bound c.requires.chained c.loop-j.invariant (omega (arith, c.from-in-Some.ensures, c.in_default-checked_sub.ensures))

pub loop-j-smaller : goal.loop-j-smaller
loop-j-smaller c =
    omega (arith, above-below (read (goal.at.loop-j-smaller c).At-loop-j) c.requires.depth_least c.requires.depth_bound c.requires.chained c.loop-j.invariant c.in-Some-checked_sub.e (above (goal.at.loop-j-smaller c).In-Some-checked_sub) c.take.ensures)

pub loop-j-preserved : goal.loop-j-preserved
loop-j-preserved c =
    passing_taken (read (goal.at.loop-j-preserved c).At-loop-j) c.requires.depth_least c.requires.depth_bound c.requires.chained c.loop-j.invariant c.in-Some-checked_sub.e (above (goal.at.loop-j-preserved c).In-Some-checked_sub) c.take.ensures

pub returns : goal.returns
returns c =
    passed-full (read (goal.at.returns c).At-loop-j) c.requires.depth_least c.requires.depth_bound c.requires.chained c.loop-j.invariant (omega (arith, c.from.ensures, c.in_default.ensures))
