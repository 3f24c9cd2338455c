-- What the definitions are made of: choice by a test, rules as rows of a table, and lists by position.
use Rattle.std.specs.Prelude.{ℕ, zero, suc, Bool, true, false, List, [], ◌∷◌, ◌++◌, Option, None, Some}

-- the first of two where a test holds, else the second
abbrev pub pick {ℓ} : {A : Type ℓ} → Bool → A → A → A
pick true x y = x
pick false x y = y

-- one row of a table of rules: the reason where its test holds, else nothing
abbrev pub when {ℓ} : {A : Type ℓ} → Bool → A → List A
when true x = x ∷ []
when false x = []

-- the reasons of all rows of a table, in order
unfoldable pub concat {ℓ} : {A : Type ℓ} → List (List A) → List A
concat [] = []
concat (r ∷ l) = r ++ concat l

-- the first of a list: for rules where the first fault ends the check
unfoldable pub first_of : {A : Type 0} → List A → Option A
first_of [] = None
first_of (x ∷ l) = Some x

-- the last of a list: for rules where a later reason replaces an earlier one
unfoldable pub last_of : {A : Type 0} → List A → Option A
last_of [] = None
last_of (x ∷ []) = Some x
last_of (x ∷ y ∷ l) = last_of (y ∷ l)

abbrev pub is_empty {ℓ} : {A : Type ℓ} → List A → Bool
is_empty [] = true
is_empty (x ∷ l) = false

-- Option::is_some_and: a value is there and passes a test
abbrev pub is_some_and : {A : Type 0} → Option A → (A → Bool) → Bool
is_some_and None f = false
is_some_and (Some x) f = f x

-- Option::and_then: what is made of a value, if there is one; that can be nothing too
abbrev pub and_then : {A B : Type 0} → Option A → (A → Option B) → Option B
and_then None f = None
and_then (Some x) f = f x

-- n elements, each computed from its position, the first from i
unfoldable pub tabulate {ℓ} : {A : Type ℓ} → (ℕ → A) → ℕ → ℕ → List A
tabulate f zero i = []
tabulate f (suc n) i = f i ∷ tabulate f n (suc i)
