-- `read_state` meets its contract: no state is left that the definition has.
use native.Mathlib.Omega.{arith}
use mathlib.Core.Path.{sym}
use Rattle.judge_entries.proofs.Laws.{state-numbered, state-unknown}
use Rattle.judge_entries.proofs.read.read_state.Goals as goal
use Rattle.judge_entries.proofs.read.read_state.Goals.{in_default-via-in-0+in_default, in_default-via-in-1+in_default, in_default-via-in-4+in_default, in_default-via-in-5+in_default, in_default-via-in_default}

pub returns-in_default-clause-same : goal.returns-in_default-clause-same
returns-in_default-clause-same c = elim c.in_default.branch [
  | in_default-via-in-0+in_default w ↦ sym (state-numbered _ _ _ (λ e. omega (arith, w.in_default)) (λ e. omega (arith, w.in_default)) (λ e. omega (arith, w.in_default)))
  | in_default-via-in-1+in_default w ↦ sym (state-numbered _ _ _ (λ e. omega (arith, w.in_default)) (λ e. omega (arith, w.in_default)) (λ e. omega (arith, w.in_default)))
  | in_default-via-in-4+in_default w ↦ sym (state-numbered _ _ _ (λ e. omega (arith, w.in_default)) (λ e. omega (arith, w.in_default)) (λ e. omega (arith, w.in_default)))
  | in_default-via-in-5+in_default w ↦ sym (state-numbered _ _ _ (λ e. omega (arith, w.in_default)) (λ e. omega (arith, w.in_default)) (λ e. omega (arith, w.in_default)))
  | in_default-via-in_default w ↦
      sym
      (state-unknown _ _ _ (λ e. omega (arith, w.in_default)) (λ e. omega (arith, w.in_default)) (λ e. omega (arith, w.in_default)) (λ e. omega (arith, w.in_default)) (λ e. omega (arith, w.in_default)) (λ e. omega (arith, w.in_default)))
]
