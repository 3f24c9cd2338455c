-- A list of offers, each to what the last one left: one run, over a book as a value or over a book's bytes.
use Rattle.std.specs.Prelude.{List, [], ◌∷◌}
use Rattle.parts.specs.Bytes.{Bytes}
use Rattle.books.specs.Offer.{Offer, Result}

-- an offer, what it was made to, and what it gave
pub record Moment (S : Type 0) : Type 0 where
  pub before : S
  pub offer : Offer
  pub result : Result S

-- all of them in order, and what stands after the last
pub record Run (S : Type 0) : Type 0 where
  pub moments : List (Moment S)
  pub last : S

abbrev pub moment_of : {S : Type 0} → (S → Offer → Result S) → S → Offer → Moment S
moment_of step s o = record { before = s; offer = o; result = step s o }

unfoldable pub run : {S : Type 0} → (S → Offer → Result S) → S → List Offer → Run S
run step s [] = record { moments = []; last = s }
run step s (o ∷ l) =
    record { moments = moment_of step s o ∷ (run step (step s o).after l).moments; last = (run step (step s o).after l).last }

-- the records of all offers are bytes, as those of every call are
abbrev pub AreBytes : List Offer → Type 0
AreBytes [] = Unit
AreBytes (o ∷ l) = Bytes o.bytes × AreBytes l
