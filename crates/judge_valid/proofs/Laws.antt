-- Laws of what rules tell: of a table's reasons the last row's last stays.
use Rattle.std.specs.Prelude.{Option, None, Some, option_map}
use Rattle.std.specs.Option.{option_or, MatchOption}
use Rattle.std.specs.Bool.{then_some}
use mathlib.Core.Path.{◌≡◌, refl}
use mathlib.Core.Bool.{Bool, true, false}
use mathlib.Core.List.{List, [], ◌∷◌, ◌++◌}
use Rattle.base.specs.Base.{when, concat, last_of}
use Rattle.base.proofs.Tables.{last-here, last-before, last-of-one}
use Rattle.reasons.specs.Code.{reason_of}
use Rattle.reasons.specs.Invalid.{InvalidReason}
use Rattle.reasons.specs.declared.invalid.InvalidReason as code-reason

-- a rule of one test
pub told : (b : Bool) (x : code-reason.InvalidReason) → option_map reason_of (then_some b x) ≡ last_of (when b (reason_of x))
unfolding last_of
told true x = refl
told false x = refl

pub or_told : (a b : Option code-reason.InvalidReason) → option_map reason_of (option_or a b) ≡ option_or (option_map reason_of a) (option_map reason_of b)
or_told None b = refl
or_told (Some x) b = refl

-- a rule that is asked where those before it told nothing
pub or_else_told : (a r : Option code-reason.InvalidReason) (Asked : Type 0) (x y : Option InvalidReason) → MatchOption a Asked (λ v. r ≡ Some v) → option_map reason_of a ≡ x →
    (Asked → option_map reason_of r ≡ y) → option_map reason_of r ≡ option_or x y
or_else_told None r Asked x y m e f = rw (← e) (f m)
or_else_told (Some v) r Asked x y m e f = rw (← e, m)

module _ {A : Type 0} where
  pub or_none : (o : Option A) → option_or o None ≡ o
  or_none None = refl
  or_none (Some x) = refl

  pub last_empty : last_of {A = A} [] ≡ None
  unfolding last_of
  last_empty = refl

  pub last_single : (x : A) → last_of (x ∷ []) ≡ Some x
  unfolding last_of
  last_single x = refl

  pub last_append : (a b : List A) → last_of (a ++ b) ≡ option_or (last_of b) (last_of a)
  last_append a b = go (last_of b) refl
    where
      go : (o : Option A) → last_of b ≡ o → last_of (a ++ b) ≡ option_or o (last_of a)
      go None h = last-before a b h
      go (Some x) h = last-here a b x h

  pub rows_last : (r : List A) (l : List (List A)) → last_of (concat (r ∷ l)) ≡ option_or (last_of (concat l)) (last_of r)
  unfolding concat
  rows_last r l = last_append r (concat l)

-- what the rules on a link's source tell, and what a table of rules tells
pub ruleset source_told = (told, or_told, last_empty, last_append)

pub ruleset rows_told = (or_told, rows_last, last-of-one, last_single)
