-- `are_zeros` meets its contract: what `max` gives is the greatest of the bytes.
use Rattle.std.proofs.Common.{◌≡◌, rules, arith, refl, ap, ◌∙◌}
use Rattle.std.proofs.lemmas.Grind.{common_steps}
use Rattle.std.proofs.lemmas.List.Recursion.{max_bounds, max_least}
use lib.Dec.{eqb}
use Rattle.book_layout.proofs.Laws.{greatest, zeros_greatest}
use Rattle.book_layout.proofs.zeros.are_zeros.Goals as goal

pub returns : goal.returns
returns c =
    let bounds = max_bounds greatest (λ x. x) refl (λ _ _. refl) c.args.s.now in
    let least = max_least greatest (λ x. x) refl (λ _ _. refl) c.args.s.now 0 c.unwrap_or.result (search rules) in
    let is : c.unwrap_or.result ≡ greatest c.args.s.now = grind (arith, common_steps, bounds, least) in
    ap (λ n. eqb n 0) is ∙ zeros_greatest c.args.s.now
