-- `put_final` meets its contract, by the number of the reason.
use Rattle.std.proofs.lemmas.Grind.{common_steps}
use Rattle.std.proofs.lemmas.Bool.Decides.{nat_tests}
use native.Mathlib.Omega.{arith}
use mathlib.Core.Path.{refl, sym, ◌∙◌}
use Rattle.force_rows.proofs.WalkLaws.{greater_put, smaller_put, equal_put, new_put}
use Rattle.force_rows.proofs.walk.put_final.Goals as goal
use Rattle.force_rows.proofs.walk.put_final.Goals.{then-found-number-via-then-found-number, then-found-number-via-else-found-number+then-is_last}

pub returns-then-number-found-clause-put : goal.returns-then-number-found-clause-put
returns-then-number-found-clause-put c =
    let e = c.number-found.ensures in
    let l = c.if-number-found.true in
    λ rows n before h g.
    greater_put rows _ n before _ _ h _ c.min.result (omega (arith, e, l)) (grind (arith, common_steps, nat_tests)) (grind (arith, common_steps, nat_tests))

pub returns-then-found-number-clause-put : goal.returns-then-found-number-clause-put
returns-then-found-number-clause-put c =
    let e = c.number-found.ensures in
    let f = c.if-number-found.false in
    elim c.then-found-number.branch [
      | then-found-number-via-then-found-number w ↦ (λ rows n before h g. smaller_put rows _ n before _ _ h _ (let l = w.if-found-number.true in omega (arith, e, l)))
      | then-found-number-via-else-found-number+then-is_last w ↦
          (λ rows n before h g.
          equal_put rows _ n before _ _ h _ (let l = w.if-found-number.false in omega (arith, e, f, l)) (sym w.is_last.ensures ∙ w.if-is_last.true))
    ]

pub returns-clause-put : goal.returns-clause-put
returns-clause-put c =
    let e = c.number-found.ensures in
    let f = c.if-number-found.false in
    let l = c.if-found-number.false in
    λ rows n before h g.
    new_put rows _ n before _ _ h _ (omega (arith, e, f, l)) (sym c.is_last.ensures ∙ c.if-is_last.false) g _ _ _ refl refl c.put_if_fits.ensures
