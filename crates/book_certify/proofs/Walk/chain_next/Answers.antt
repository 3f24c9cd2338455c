-- `chain_next` meets its contract.
use native.Mathlib.Omega.{arith}
use Prim.Native.Nat.{◌+◌, ◌-◌}
use mathlib.Core.Path.{◌≡◌}
use borrow.Author.Rules.{rules}
use Rattle.id_index.specs.Code.{id_in}
use Rattle.book_certify.proofs.Chains.{chained_past, chained_more}
use Rattle.book_certify.proofs.Walk.chain_next.Goals as goal

pub returns-then-top-round-clause-chained_2 : goal.returns-then-top-round-clause-chained_2
returns-then-top-round-clause-chained_2 c = chained_past c.requires.chained (λ d h e. omega (arith, c.round_of-round.ensures, c.if-top-round.true))

pub returns-then-from-depth-clause-chained_2 : goal.returns-then-from-depth-clause-chained_2
returns-then-from-depth-clause-chained_2 c =
    chained_past c.requires.chained (λ d h e. omega (arith, c.round_of-round.ensures, c.if-top-round.false, c.if-from-depth.true, c.from.ensures))

pub returns-clause-chained_2 : goal.returns-clause-chained_2
returns-clause-chained_2 c =
    let by = c.args.by.now in
    let depth = by.prev.round - c.round_of-round.result in
    let at : (id_in by.book.now by.index.now c.args.j).round + depth ≡ by.prev.round = omega (arith, c.round_of-round.ensures, c.if-top-round.false) in
    chained_more c.requires.chained (search rules) (search rules) depth at (omega (arith, c.if-from-depth.false, c.from.ensures)) (omega (arith, c.if-from-depth.false, c.from.ensures)) (omega (arith, c.requires.j_bound, by.index.now.room))
