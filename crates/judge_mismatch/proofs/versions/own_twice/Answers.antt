-- `own_twice` meets its contract: what is left has a version twice exactly if the list has one.
use Rattle.std.proofs.lemmas.Grind.{common_steps}
use Rattle.std.proofs.lemmas.Bool.Decides.{nat_tests}
use mathlib.Core.Path.{◌≡◌, sym, ◌∙◌}
use native.Mathlib.Omega.{arith}
use lib.ListN.{length}
use Rattle.judge_mismatch.proofs.Own.{twice-end}
use Rattle.judge_mismatch.proofs.versions.own_twice.Goals as goal

pub returns : goal.returns
returns c =
    let none : length c.loop-left.left.bytes.now ≡ 0 = grind (arith, common_steps, nat_tests) in
    sym (sym c.loop-left.invariant ∙ twice-end _ _ none)
