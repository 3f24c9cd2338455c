-- `put_decimal` meets its contract: the digits are the definition's, at most 20 of them.
use Prim.Native.Nat.{◌≤◌}
use native.Mathlib.Omega.{arith}
use mathlib.Core.Path.{◌≡◌, subst, ◌∙◌}
use mathlib.Core.List.{List}
use Prim.Native.Nat.{ℕ}
use lib.ListN.{take}
use Rattle.tally_line.specs.Text.{decimal}
use Rattle.tally_line.specs.Code.{Put}
use Rattle.tally_line.proofs.Laws.{digits_most, decimal_digits}
use Rattle.tally_line.proofs.put_decimal.Goals as goal
use Rattle.tally_line.proofs.put_decimal.Goals.{After-decimal-k}

most : (c : After-decimal-k) → c.decimal-k.result ≤ 20
most c = digits_most c.args.n c.decimal-k.result c.ranges.n.fits c.decimal-k.ensures.len

written : (c : After-decimal-k) → take c.decimal-k.result c.decimal-k.new.out ≡ decimal c.args.n
written c = c.decimal-k.ensures.digits ∙ decimal_digits c.args.n c.decimal-k.result c.decimal-k.ensures.len (most c)

pub put-requires : goal.put-requires
put-requires c = let k = (goal.at.put-requires c).After-decimal-k in omega (arith, k.decimal-k.ensures.in_bounds.1, most k)

pub returns : goal.returns
returns c =
    let a = c.args in
    let k = (goal.at.returns c).After-decimal-k in
    let p = c.put.ensures in
    record {
      put = subst (λ (x : List ℕ). Put a.out.now a.at x c.put.new.out c.put.result) (written k) p;
      within = omega (arith, p.ends, k.decimal-k.ensures.in_bounds.1, most k);
    }
