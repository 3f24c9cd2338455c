-- What the call `offer` hands out tells its answer, as crates/rules/specs/Told.antt says it of `verify` and `judge`.
use Rattle.std.specs.Prelude.{◌≡◌, List, ℕ}
use Rattle.parts.specs.Bytes.{Bytes}
use Rattle.rules.specs.Answer.{judge_number, judge_answer}
use Rattle.books.specs.Kept.{Opened}
use Rattle.books.specs.Offer.{Offer, Result}
use Rattle.books.specs.Run.{Run}
use Rattle.books.specs.FoundBook.{NextOffer}

-- of two offers, each made next to a book of which the statement holds: equal numbers returned, with equal bytes left in the lent
-- answers, whatever these held before, mean equal answers
abbrev pub OffersTold : Type 0
OffersTold =
    (found other : Run (List ℕ)) (plain other_plain : Run Opened) (o p : Offer) (x y : Result (List ℕ)) →
    NextOffer found plain o x → Bytes o.bytes → NextOffer other other_plain p y → Bytes p.bytes →
    judge_number x.answer ≡ judge_number y.answer →
    (s t : List ℕ) → judge_answer x.answer s ≡ judge_answer y.answer t → x.answer ≡ y.answer
