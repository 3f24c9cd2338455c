-- Every list of offers of converted records gets what the originals got: from one offer to a run, and from the plain book to the bytes.
use Prim.Native.Nat.{ℕ}
use mathlib.Core.Path.{◌≡◌, refl, ap, sym, ◌∙◌, subst}
use mathlib.Core.List.{List, [], ◌∷◌, map, map-map}
use lib.ListN.{length}
use Rattle.map.specs.declared.Arrangement.TheVariants.{Pairs}
use Rattle.books.specs.Kept.{Opened}
use Rattle.books.specs.Offer.{Offer, Result, offer, offer_in}
use Rattle.books.specs.Run.{Moment, Run, run}
use Rattle.books.specs.Calls.{opened, laid_out}
use Rattle.books.specs.FoundBook.{run_in_bytes}
use Rattle.books.specs.Converted.{converted_offer, Got, got_in, converted_book, OffersConverted}
use Rattle.books.proofs.LeftEntries.{in_slice}
use Rattle.books.proofs.FoundBooks.{found_books}
use Rattle.books.proofs.ConvertedBook.{offer-converted}

-- a run that begins with this result and goes on with these offers, against one over originals
abbrev Begins : Result Opened → List Offer → Run Opened → Type 0
Begins x l before =
    (record { answer = x.answer; peers = x.peers } ∷ got_in (run offer x.after (map converted_offer l)) ≡ got_in before)
    × ((run offer x.after (map converted_offer l)).last ≡ converted_book before.last)

run-converted : (z : Opened) (l : List Offer) →
    (got_in (run offer (converted_book z) (map converted_offer l)) ≡ got_in (run (offer_in Pairs) z l))
    × ((run offer (converted_book z) (map converted_offer l)).last ≡ converted_book (run (offer_in Pairs) z l).last)
unfolding run
run-converted z [] = (refl, refl)
run-converted z (o ∷ l) =
    let first : Result Opened = offer_in Pairs z o in
    let r = run-converted first.after l in
    subst (λ x. Begins x l (run (offer_in Pairs) z (o ∷ l))) (sym (offer-converted z o))
    (ap (λ (x : List Got). record { answer = first.answer; peers = first.peers } ∷ x) r.0, r.1)

got-in-bytes : (x : Run Opened) → got_in (run_in_bytes x) ≡ got_in x
got-in-bytes x =
    map-map (λ (m : Moment (List ℕ)). record { answer = m.result.answer; peers = m.result.peers }) (λ (m : Moment Opened). in_slice m) x.moments

pub offers-converted : OffersConverted
offers-converted settings slice c l r least most w =
    let z = opened settings c (length slice) in
    let same = (found_books settings slice c (map converted_offer l) r least most w).1.0.same in
    let plain = run-converted z l in (
      ap got_in same ∙ (got-in-bytes (run offer z (map converted_offer l)) ∙ plain.0),
      ap (λ (x : Run (List ℕ)). x.last) same ∙ ap laid_out plain.1,
    )
