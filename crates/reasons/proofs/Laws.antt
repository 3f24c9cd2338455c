-- Laws of reason numbers: there is none below 1 and none above 20; and of flags.
use Rattle.std.specs.Prelude.{None}
use Prim.Native.Nat.{ℕ, ◌<◌}
use mathlib.Core.Path.{◌≡◌, refl}
use mathlib.Core.Bool.{Bool, true, false}
use native.Mathlib.Omega.{arith}
use lib.Dec.{eqb}
use borrow.Author.Tests.{ne_eqb, le-leb, lt-leb}
use Rattle.reasons.specs.Answer.{flag}
use Rattle.reasons.specs.Invalid.{dag_round}

pub no_reason-below : (n : ℕ) → n < 1 → dag_round n ≡ None
unfolding dag_round
no_reason-below n h =
    simp (ne_eqb n 2 (λ e. omega arith), ne_eqb n 3 (λ e. omega arith), ne_eqb n 20 (λ e. omega arith), lt-leb 1 n (omega arith))

pub no_reason-above : (n : ℕ) → 20 < n → dag_round n ≡ None
unfolding dag_round
no_reason-above n h =
    simp (ne_eqb n 2 (λ e. omega arith), ne_eqb n 3 (λ e. omega arith), ne_eqb n 20 (λ e. omega arith), le-leb 1 n (omega arith), lt-leb n 19 (omega arith))

pub flag-back : (b : Bool) → eqb (flag b) 1 ≡ b
flag-back true = refl
flag-back false = refl
