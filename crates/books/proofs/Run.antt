-- A run over a list of offers, by its last offer: the law of one offer more, and the one induction by which all that is so of a run is proved.
use mathlib.Core.Path.{◌≡◌, refl, ap, sym, subst}
use mathlib.Core.List.{List, [], ◌∷◌, ◌++◌, append-nil, append_assoc}
use Rattle.parts.specs.Bytes.{Bytes}
use Rattle.books.specs.Offer.{Offer, Result}
use Rattle.books.specs.Run.{Run, moment_of, run, AreBytes}

module _ {S : Type 0} (step : S → Offer → Result S) where
  -- a run and one offer more
  abbrev pub more : Run S → Offer → Run S
  more x o = record { moments = x.moments ++ (moment_of step x.last o ∷ []); last = (step x.last o).after }

  pub run_more : (s : S) (l : List Offer) (o : Offer) → run step s (l ++ (o ∷ [])) ≡ more (run step s l) o
  unfolding run
  run_more s [] o = refl
  run_more s (x ∷ l) o =
      ap (λ (r : Run S). record { moments = moment_of step s x ∷ r.moments; last = r.last }) (run_more (step s x).after l o)

-- what is so of no offers, and stays so with one offer more, is so of every list
module _ (P : List Offer → Type 0) (one_more : (l : List Offer) (o : Offer) → Bytes o.bytes → P l → P (l ++ (o ∷ []))) where
  onward : (front l : List Offer) → P front → AreBytes l → P (front ++ l)
  onward front [] h w = subst P (sym (append-nil front)) h
  onward front (o ∷ l) h w = subst P (append_assoc front (o ∷ []) l) (onward (front ++ (o ∷ [])) l (one_more front o w.0 h) w.1)

  pub by-offers : P [] → (l : List Offer) → AreBytes l → P l
  by-offers h l w = onward [] l h w
