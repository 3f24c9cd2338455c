-- What is the same for every order of a list.
use Prim.Native.Nat.{suc}
use mathlib.Core.Path.{◌≡◌, refl, ap, ◌∙◌, subst}
use mathlib.Core.Bool.{Bool, true, false, ◌&&◌, ◌||◌}
use mathlib.Core.List.{List, [], ◌∷◌, map, Memᴰ, Permᴰ}
use lib.ListN.{length}
use Rattle.base.specs.Base.{is_empty}
use Rattle.base.proofs.Bool.{and_swap, or_swap}
use Rattle.rules.proofs.All.{All}

-- a test of all elements, of any
unfoldable pub all : {A : Type 0} → (A → Bool) → List A → Bool
all f [] = true
all f (x ∷ l) = f x && all f l

unfoldable pub any : {A : Type 0} → (A → Bool) → List A → Bool
any f [] = false
any f (x ∷ l) = f x || any f l

module _ {A : Type 0} (f : A → Bool) where
  pub all_perm : {l m : List A} → Permᴰ l m → all f l ≡ all f m
  unfolding all
  all_perm Permᴰ.nil = refl
  all_perm (Permᴰ.cons {a = a} {b = b} {l₁ = l} {l₂ = m} e d) = ap (λ (x : A). f x && all f l) e ∙ ap (λ (x : Bool). f b && x) (all_perm d)
  all_perm (Permᴰ.swap {a = a} {b = b} {a' = a'} {b' = b'} {l = l} e g) =
      and_swap (f a) (f b) (all f l) ∙ (ap (λ (x : A). f x && (f a && all f l)) g ∙ ap (λ (x : A). f a' && (f x && all f l)) e)
  all_perm (Permᴰ.trans d g) = all_perm d ∙ all_perm g

  pub any_perm : {l m : List A} → Permᴰ l m → any f l ≡ any f m
  unfolding any
  any_perm Permᴰ.nil = refl
  any_perm (Permᴰ.cons {a = a} {b = b} {l₁ = l} {l₂ = m} e d) = ap (λ (x : A). f x || any f l) e ∙ ap (λ (x : Bool). f b || x) (any_perm d)
  any_perm (Permᴰ.swap {a = a} {b = b} {a' = a'} {b' = b'} {l = l} e g) =
      or_swap (f a) (f b) (any f l) ∙ (ap (λ (x : A). f x || (f a || any f l)) g ∙ ap (λ (x : A). f a' || (f x || any f l)) e)
  any_perm (Permᴰ.trans d g) = any_perm d ∙ any_perm g

module _ {A B : Type 0} (f : A → B) where
  pub map_perm : {l m : List A} → Permᴰ l m → Permᴰ (map f l) (map f m)
  map_perm Permᴰ.nil = Permᴰ.nil
  map_perm (Permᴰ.cons e d) = Permᴰ.cons (ap f e) (map_perm d)
  map_perm (Permᴰ.swap e g) = Permᴰ.swap (ap f e) (ap f g)
  map_perm (Permᴰ.trans d g) = Permᴰ.trans (map_perm d) (map_perm g)

module _ {A : Type 0} where
  pub length_perm : {l m : List A} → Permᴰ l m → length l ≡ length m
  length_perm Permᴰ.nil = refl
  length_perm (Permᴰ.cons e d) = ap suc (length_perm d)
  length_perm (Permᴰ.swap e g) = refl
  length_perm (Permᴰ.trans d g) = length_perm d ∙ length_perm g

  pub empty_perm : {l m : List A} → Permᴰ l m → is_empty l ≡ is_empty m
  empty_perm Permᴰ.nil = refl
  empty_perm (Permᴰ.cons e d) = refl
  empty_perm (Permᴰ.swap e g) = refl
  empty_perm (Permᴰ.trans d g) = empty_perm d ∙ empty_perm g

module _ {A : Type 0} (P : A → Type 0) where
  -- what holds of each element
  pub each_perm : {l m : List A} → Permᴰ l m → All P l → All P m
  each_perm Permᴰ.nil h = h
  each_perm (Permᴰ.cons e d) h = (subst P e h.0, each_perm d h.1)
  each_perm (Permᴰ.swap e g) h = (subst P g h.1.0, (subst P e h.0, h.1.1))
  each_perm (Permᴰ.trans d g) h = each_perm g (each_perm d h)

  pub members_all : (l : List A) → ((x : A) → Memᴰ x l → P x) → All P l
  members_all [] f = tt
  members_all (x ∷ l) f = (f x (Memᴰ.head refl), members_all l (λ y m. f y (Memᴰ.tail m)))
