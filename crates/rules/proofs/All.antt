-- What holds of each element of a list.
use mathlib.Core.Path.{◌≡◌, subst, sym}
use mathlib.Core.Logic.{◌⊎◌, inl, inr}
use mathlib.Core.Bool.{Bool, true, false}
use mathlib.Core.List.Memᴰ
use mathlib.Core.List.{List, [], ◌∷◌, ◌++◌, Memᴰ}
use Rattle.base.specs.Base.{pick, when, concat, first_of, last_of}
use Rattle.base.proofs.Option.{IfSome}
use Rattle.reasons.specs.Invalid.{InvalidReason}
use Rattle.rules.specs.Validate.{first_only}

abbrev pub All : {A : Type 0} → (A → Type 0) → List A → Type 0
All P [] = Unit
All P (x ∷ l) = P x × All P l

module _ {A : Type 0} (P : A → Type 0) where
  pub all_append : (a b : List A) → All P a → All P b → All P (a ++ b)
  all_append [] b f g = g
  all_append (x ∷ a) b f g = (f.0, all_append a b f.1 g)

  pub all-member : (l : List A) → All P l → (x : A) → Memᴰ x l → P x
  all-member [] h x m = absurd (Memᴰ.not-nil m)
  all-member (y ∷ l) h x m = go (all-member l h.1 x) (Memᴰ.cases_cons m)
    where
      go : (Memᴰ x l → P x) → (x ≡ y) ⊎ Memᴰ x l → P x
      go f (inl e) = subst P (sym e) h.0
      go f (inr n) = f n

  pub all-pick : (b : Bool) (l m : List A) → All P l → All P m → All P (pick b l m)
  all-pick true l m f g = f
  all-pick false l m f g = g

  -- a row of a table, and a table

  pub all-when : (b : Bool) (x : A) → P x → All P (when b x)
  all-when true x h = (h, tt)
  all-when false x h = tt

  pub all-concat : (rows : List (List A)) → All (All P) rows → All P (concat rows)
  unfolding concat
  all-concat [] h = tt
  all-concat (r ∷ l) h = all_append r (concat l) h.0 (all-concat l h.1)

  pub first-of-all : (l : List A) → All P l → IfSome P (first_of l)
  unfolding first_of
  first-of-all [] h = tt
  first-of-all (x ∷ l) h = h.0

  pub last-of-all : (l : List A) → All P l → IfSome P (last_of l)
  unfolding last_of
  last-of-all [] h = tt
  last-of-all (x ∷ []) h = h.0
  last-of-all (x ∷ y ∷ l) h = last-of-all (y ∷ l) h.1

module _ {A : Type 0} (P Q : A → Type 0) where
  pub all-map : (l : List A) → ((x : A) → P x → Q x) → All P l → All Q l
  all-map [] f h = tt
  all-map (x ∷ l) f h = (f x h.0, all-map l f h.1)

-- of the first reason alone, as is_proof_ok returns it
pub all-first_only : (P : InvalidReason → Type 0) (l : List InvalidReason) → All P l → All P (first_only l)
all-first_only P [] h = tt
all-first_only P (x ∷ l) h = (h.0, tt)
