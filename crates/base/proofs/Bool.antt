-- Laws of tests. More of them stand in mathlib.Core.Bool.
use mathlib.Core.Path.{◌≡◌, refl}
use mathlib.Core.Logic.{◌⊎◌, inl, inr}
use mathlib.Core.Bool.{Bool, true, false, ◌&&◌, ◌||◌}
use Rattle.base.specs.Base.{pick}
use Rattle.base.proofs.Impossible.{impossible}

pub cases : (b : Bool) → (b ≡ true) ⊎ (b ≡ false)
cases true = inl refl
cases false = inr refl

pub never : (b : Bool) → (b ≡ true → ⊥) → b ≡ false
never true f = absurd (f refl)
never false f = refl

pub clash {ℓ} : {A : Type ℓ} (b : Bool) → b ≡ true → b ≡ false → A
clash b t f = impossible (cc)

-- ---- both

pub and_left : (a b : Bool) → (a && b) ≡ true → a ≡ true
and_left true b h = refl
and_left false b h = h

pub and_right : (a b : Bool) → (a && b) ≡ true → b ≡ true
and_right true b h = h
and_right false b h = clash false h refl

pub and_both : (a b : Bool) → a ≡ true → b ≡ true → (a && b) ≡ true
and_both true b h g = g
and_both false b h g = h

pub first-false : (a b c : Bool) → a ≡ false → ((a && b) && c) ≡ false
first-false a b c h = rw h

pub last-false : (a c : Bool) → c ≡ false → (a && c) ≡ false
last-false true c h = h
last-false false c h = refl

-- ---- either

pub or_left : (a b : Bool) → (a || b) ≡ false → a ≡ false
or_left true b h = h
or_left false b h = refl

pub or_right : (a b : Bool) → (a || b) ≡ false → b ≡ false
or_right true b h = clash true refl h
or_right false b h = h

pub or_none : (a b : Bool) → a ≡ false → b ≡ false → (a || b) ≡ false
or_none true b h g = h
or_none false b h g = g

pub or_first : (a b : Bool) → a ≡ true → (a || b) ≡ true
or_first a b h = rw h

pub or_second : (a b : Bool) → b ≡ true → (a || b) ≡ true
or_second true b h = refl
or_second false b h = h

pub or_rest : (a b : Bool) → a ≡ false → (a || b) ≡ b
or_rest a b h = rw h

pub or_cases : (a b : Bool) → (a || b) ≡ true → (a ≡ true) ⊎ (b ≡ true)
or_cases true b h = inl refl
or_cases false b h = inr h

-- the first two in another order
pub and_swap : (a b c : Bool) → (a && (b && c)) ≡ (b && (a && c))
and_swap true b c = refl
and_swap false true c = refl
and_swap false false c = refl

pub or_swap : (a b c : Bool) → (a || (b || c)) ≡ (b || (a || c))
or_swap true true c = refl
or_swap true false c = refl
or_swap false b c = refl

pub or_inside : (a b c : Bool) → ((a || b) || c) ≡ (b || (a || c))
or_inside true b c = or_swap true b c
or_inside false b c = refl

-- ---- choice by a test

module _ {A : Type 0} (b : Bool) (x y : A) where
  pub pick_true : b ≡ true → pick b x y ≡ x
  pick_true h = rw h

  pub pick-false : b ≡ false → pick b x y ≡ y
  pick-false h = rw h
