-- Laws of values that may lack.
use Rattle.std.specs.Prelude.{Option, None, Some, option_map, is_some, ◌↔◌}
use mathlib.Core.Path.{◌≡◌, refl, ap, ◌∙◌}
use mathlib.Core.Bool.{Bool, true, false}
use Rattle.base.specs.Base.{pick, and_then}
use Rattle.base.proofs.Impossible.{impossible}

module _ {ℓ} {A : Type ℓ} {X : Type 0} {x : X} where
  pub none-some : ◌≡◌ {A = Option X} None (Some x) → A
  none-some e = impossible (cc)

  pub some-none : ◌≡◌ {A = Option X} (Some x) None → A
  some-none e = impossible (cc)

module _ {A : Type 0} where
  pub some_of : (o : Option A) → is_some o ≡ true → (x : A) × (o ≡ Some x)
  some_of None h = impossible (cc)
  some_of (Some x) h = (x, refl)

  pub unfound : (o : Option A) → is_some o ≡ false → o ≡ None
  unfound None h = refl
  unfound (Some x) h = impossible (cc)

  -- a choice between a value and none, and what it gives
  pub picked : (b : Bool) (x : Option A) (n : A) → pick b x None ≡ Some n → (b ≡ true) × (x ≡ Some n)
  picked true x n h = (refl, h)
  picked false x n h = none-some h

  pub unpicked : (b : Bool) (x : A) (o : Option A) → pick b (Some x) o ≡ None → (b ≡ false) × (o ≡ None)
  unpicked true x o h = some-none h
  unpicked false x o h = (refl, h)

pub and_then_lem : {A B : Type 0} (o : Option A) (f : A → Option B) (y : B) →
    and_then o f ≡ Some y → (x : A) × (o ≡ Some x) × (f x ≡ Some y)
and_then_lem None f y h = none-some h
and_then_lem (Some x) f y h = (x, refl, h)

pub map-some : {A B : Type 0} (f : A → B) (o : Option A) → is_some (option_map f o) ≡ is_some o
map-some f None = refl
map-some f (Some x) = refl

pub some-injective : {A : Type 0} (x y : A) → ◌≡◌ {A = Option A} (Some x) (Some y) → x ≡ y
some-injective x y e = cc

pub map-eq-some_iff : {A B : Type 0} (f : A → B) (o : Option A) {y : B} → (option_map f o ≡ Some y) ↔ ((x : A) × (o ≡ Some x) × (f x ≡ y))
map-eq-some_iff f None = (λ h. none-some h, λ h. none-some h.1)
map-eq-some_iff f (Some x) {y} = (λ h. (x, refl, some-injective _ _ h), λ h. ap Some (ap f (some-injective _ _ h.1) ∙ h.2))

-- ---- what a value has, if it is there

abbrev pub IfSome : {A : Type 0} → (A → Type 0) → Option A → Type 0
IfSome P None = Unit
IfSome P (Some x) = P x

module _ {A : Type 0} (P : A → Type 0) where
  pub pick-has : (b : Bool) (o p : Option A) → (b ≡ true → IfSome P o) → IfSome P p → IfSome P (pick b o p)
  pick-has true o p f g = f refl
  pick-has false o p f g = g

  module _ {B : Type 0} where
    pub then_has : (o : Option B) (f : B → Option A) → ((x : B) → o ≡ Some x → IfSome P (f x)) → IfSome P (and_then o f)
    then_has None f h = tt
    then_has (Some x) f h = h x refl

    pub map-has : (f : B → A) (o : Option B) → ((x : B) → o ≡ Some x → P (f x)) → IfSome P (option_map f o)
    map-has f None h = tt
    map-has f (Some x) h = h x refl

  pub has : (o : Option A) (x : A) → IfSome P o → o ≡ Some x → P x
  has o x h e = rw e at h
