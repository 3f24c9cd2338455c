-- What cannot be: from two constructors that are equal `cc` proves 0 ≡ 1, and from that anything follows.
use Prim.Native.Nat.{ℕ}
use native.Mathlib.Omega.{arith}
use mathlib.Core.Path.{◌≡◌}

pub impossible {ℓ} : {A : Type ℓ} → ◌≡◌ {A = ℕ} 0 1 → A
impossible e = absurd (omega arith)
