-- `record_size` meets its contract: where the record ends, or the length.
use Rattle.std.proofs.lemmas.Grind.{common_steps}
use native.Mathlib.Omega.{arith}
use mathlib.Core.Path.{◌≡◌, subst, sym}
use lib.ListN.{length}
use Prim.Native.Nat.{◌≤◌}
use Rattle.tally_feed.specs.Tally.{record_size}
use Rattle.tally_feed.proofs.Laws.{size-inside}
use Rattle.tally_feed.proofs.next.record_size.Goals as goal
use Rattle.tally_feed.proofs.next.record_size.Goals.{After-unwrap_or}

same : (c : After-unwrap_or) → c.unwrap_or.result ≡ record_size c.args.s.now
unfolding record_size
same c = grind (arith, common_steps)

pub returns : goal.returns
returns c =
    let e = same (goal.at.returns c).After-unwrap_or in
    record { same = e; within = subst (λ n. n ≤ length c.args.s.now) (sym e) (size-inside c.args.s.now) }
