-- Laws of tables of rules: the first fault of one, the last reason of one, and tables whose rows give nothing.
use Rattle.std.specs.Prelude.{None, Some}
use mathlib.Core.Path.{◌≡◌, refl, ap, sym, ◌∙◌}
use mathlib.Core.Bool.{Bool, true, false}
use mathlib.Core.List.{List, [], ◌∷◌, ◌++◌, append-nil, append_assoc}
use Rattle.base.specs.Base.{when, concat, first_of, last_of}
use Rattle.base.proofs.Impossible.{impossible}
use Rattle.base.proofs.Option.{none-some, some-none}
use Rattle.base.proofs.Lists.{append-none}

module _ {A : Type 0} where
  -- only the empty list has no first
  pub first-none : (l : List A) → first_of l ≡ None → l ≡ []
  unfolding first_of
  first-none [] h = refl
  first-none (x ∷ l) h = some-none h

module _ {A : Type 0} where
  -- the last of two lists is the second's, if that has one
  pub last-here : (a b : List A) (x : A) → last_of b ≡ Some x → last_of (a ++ b) ≡ Some x
  unfolding last_of
  last-here [] b x h = h
  last-here (y ∷ []) [] x h = none-some h
  last-here (y ∷ []) (z ∷ b) x h = h
  last-here (y ∷ z ∷ a) b x h = last-here (z ∷ a) b x h

  -- only the empty list has no last
  pub last_none : (l : List A) → last_of l ≡ None → l ≡ []
  unfolding last_of
  last_none [] h = refl
  last_none (x ∷ []) h = some-none h
  last_none (x ∷ y ∷ l) h = let e = last_none (y ∷ l) h in impossible (cc)

  -- else it is the first's
  pub last-before : (a b : List A) → last_of b ≡ None → last_of (a ++ b) ≡ last_of a
  last-before a b h = rw (last_none b h, append-nil)

  concat-end : (rows : List (List A)) (row : List A) → concat (rows ++ (row ∷ [])) ≡ concat rows ++ row
  unfolding concat
  concat-end [] row = append-nil row
  concat-end (r ∷ rows) row = ap (◌++◌ r) (concat-end rows row) ∙ sym (append_assoc r (concat rows) row)

  -- the last reason of a table of one row
  pub last-of-one : (row : List A) → last_of (concat (row ∷ [])) ≡ last_of row
  unfolding concat
  last-of-one row = ap last_of (concat-end [] row)

  -- each row of a table, by its position, gives no reason
  abbrev pub AllNone : List (List A) → Type 0
  AllNone [] = Unit
  AllNone (r ∷ l) = (r ≡ []) × AllNone l

  pub all_none : (l : List (List A)) → concat l ≡ [] → AllNone l
  unfolding concat
  all_none [] h = tt
  all_none (r ∷ l) h = ((append-none r (concat l) h).0, all_none l (append-none r (concat l) h).1)

  -- a row that gives no reason: its test failed
  pub row_none : (b : Bool) (x : A) → when b x ≡ [] → b ≡ false
  row_none true x h = impossible (cc)
  row_none false x h = refl
