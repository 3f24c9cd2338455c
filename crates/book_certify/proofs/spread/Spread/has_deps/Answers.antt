-- `has_deps` meets its contract: by the round of the entry's id, and its state.
use native.Mathlib.Omega.{arith}
use Prim.Native.Nat.{◌≤◌}
use lib.ListN.{length}
use borrow.Author.Tests.{le-ltb}
use Rattle.schedule.specs.Code.{settings_of}
use Rattle.book_certify.proofs.Entries.{stands, entry_at, entry-end, entry-within, deps-low, deps_high}
use Rattle.book_certify.proofs.spread.Spread.has_deps.Goals as goal
use Rattle.book_certify.proofs.spread.Spread.has_deps.Goals.{After-end_of}

within : (c : After-end_of) → (105 ≤ c.end_of.result) × (c.end_of.result ≤ length c.args.self.now.book.now)
within c =
    let j = c.args.j in
    let h = stands c.args.self.now.bytes c.requires.read in
    let y = entry_at h j c.requires.j_bound in
    let e = entry-end h j y.0 y.1 y.2 in
    (omega (arith, e, c.end_of.ensures), omega (arith, e, entry-within h j y.0 y.1 y.2, c.end_of.ensures))

pub overflow_sub-result : goal.overflow_sub-result
overflow_sub-result c = omega (arith, within c)

pub bounds-self-end_of : goal.bounds-self-end_of
bounds-self-end_of c = omega (arith, within (goal.at.bounds-self-end_of c).After-end_of)

pub returns-then-self-round_of : goal.returns-then-self-round_of
returns-then-self-round_of c k rest e =
    let by = c.args.self.now in
    rw c.end_of.ensures (deps_high (stands by.bytes c.requires.read) c.args.j k rest e (settings_of by.conf) (omega (arith, c.round_of.ensures, c.if-self-round_of.true)))

pub returns-else-self-round_of : goal.returns-else-self-round_of
returns-else-self-round_of c k rest e =
    let by = c.args.self.now in
    rw (le-ltb _ _ c.if-self-round_of.false) (deps-low (stands by.bytes c.requires.read) c.args.j k rest e (settings_of by.conf) (omega (arith, c.round_of.ensures, c.if-self-round_of.false)))
