-- The first fault of a table, row by row: in a form that `grind` takes, for the attributes of functions that go through a table.
use Rattle.std.specs.Prelude.{None, Some}
use Rattle.std.specs.Option.{option_or}
use Rattle.std.proofs.lemmas.Bool.Decides.{nat_tests}
use mathlib.Core.Path.{◌≡◌, refl}
use mathlib.Core.Bool.{Bool, true, false}
use mathlib.Core.List.{List, [], ◌∷◌}
use Rattle.base.specs.Base.{pick, when, concat, first_of}

module _ {A : Type 0} where
  -- it is that of the first row, else that of the rows after
  pub first_row : (row : List A) (rest : List (List A)) → first_of (concat (row ∷ rest)) ≡ option_or (first_of row) (first_of (concat rest))
  unfolding first_of concat
  first_row [] rest = refl
  first_row (x ∷ l) rest = refl

  pub first_end : first_of (concat {A = A} []) ≡ None
  unfolding first_of concat
  first_end = refl

  -- that of a row of one test
  pub first_when : (b : Bool) (x : A) → first_of (when b x) ≡ pick b (Some x) None
  unfolding first_of
  first_when true x = refl
  first_when false x = refl

  -- that of a table made of three others
  pub three_rows : (a b c : List A) → first_of (concat (a ∷ b ∷ c ∷ [])) ≡ option_or (first_of a) (option_or (first_of b) (first_of c))
  unfolding first_of concat
  three_rows [] [] [] = refl
  three_rows [] [] (x ∷ c) = refl
  three_rows [] (x ∷ b) c = refl
  three_rows (x ∷ a) b c = refl

pub ruleset row_steps = (first_row, first_end, first_when, nat_tests)
