-- What an offer hands out tells its answer: one that got a verdict was judged over bytes, so that what is told of `judge` serves.
use Rattle.std.specs.Prelude.{Option, None, Some}
use Prim.Native.Nat.{ℕ}
use native.Mathlib.Omega.{arith}
use mathlib.Core.Path.{◌≡◌, refl, ap, sym, ◌∙◌}
use mathlib.Core.Logic.{inl, inr}
use mathlib.Core.Bool.{Bool}
use mathlib.Core.List.{List}
use lib.ListN.{length}
use Rattle.base.proofs.Impossible.{impossible}
use Rattle.parts.specs.Bytes.{Bytes}
use Rattle.point.specs.Point.{PointInfo}
use Rattle.point.specs.Reading.{read_point}
use Rattle.schedule.specs.Settings.{Settings, read_settings}
use Rattle.schedule.specs.Schedule.{Schedule, read_schedule}
use Rattle.reasons.specs.Verdict.{Verdict}
use Rattle.rules.specs.Answer.{judge_number, judge_answer}
use Rattle.rules.specs.Judge.{refused, tested_in, tested_with, flags_ok, JudgeAnswer, Number, Given}
use Rattle.rules.specs.Told.{Call, OfBytes, judged}
use Rattle.rules.proofs.Told.{told}
use Rattle.books.specs.Kept.{Opened}
use Rattle.books.specs.Offer.{Offer, Result}
use Rattle.books.specs.Run.{Run}
use Rattle.books.specs.ListFor.{list_for}
use Rattle.books.specs.Calls.{IsOfferNumber}
use Rattle.books.specs.FoundBook.{tested_as, NextOffer}
use Rattle.books.specs.OffersTold.{OffersTold}

-- a record that can't be read is refused
unread : (c : Option Settings) (s : Option Schedule) (others : Bool) (size : ℕ) → (n : ℕ) × (tested_with c s None others size ≡ refused n)
unread None s others size = (1, refl)
unread (Some c) None others size = (2, refl)
unread (Some c) (Some s) others size = (3, refl)

pub unread-offer : (settings : List ℕ) (o : Offer) → read_point o.bytes ≡ None → (n : ℕ) × (tested_as settings o ≡ refused n)
unfolding tested_in
unread-offer settings o r = rw r (unread (read_settings settings) (read_schedule o.schedule) (flags_ok o.leader 3) (length o.peers))

-- the call of `judge` whose answer an offer gets that gets a verdict
record JudgedBy (a : JudgeAnswer) : Type 0 where
  pub call : Call
  pub bytes : OfBytes call
  pub answer : a ≡ judged call

module _ (found : Run (List ℕ)) (plain : Run Opened) (o : Offer) (x : Result (List ℕ)) (h : NextOffer found plain o x) (w : Bytes o.bytes) where
  judged-by : (v : Verdict) → x.answer ≡ Given v → JudgedBy x.answer
  judged-by v e = go (read_point o.bytes) refl
    where
      call : PointInfo → Call
      call p =
          record {
            settings = plain.last.bytes;
            schedule = o.schedule;
            point = o.bytes;
            leader = o.leader;
            presence = 3;
            list = list_for plain.last.book h.judged.0.0 p;
            size = length o.peers;
          }

      go : (p : Option PointInfo) → read_point o.bytes ≡ p → JudgedBy x.answer
      go None r =
          let u = unread-offer plain.last.bytes o r in
          let n = h.tests u.0 u.1 in
          impossible (cc)
      go (Some p) r =
          let j = h.judged.1 p r (λ n. impossible (cc)) (λ n. impossible (cc)) h.judged.0.0 h.judged.0.1 in
          record { call = call p; bytes = (w, j.0); answer = j.1.0 }

  number-above : (n : ℕ) → x.answer ≡ Number n → IsOfferNumber n
  number-above n e = (h.unchanged n e).0

no_zero : (n : ℕ) → IsOfferNumber n → n ≡ 0 → ⊥
no_zero n (inl h) e = omega (arith, h.0)
no_zero n (inr h) e = omega (arith, h.0)

both-judged : (a b : JudgeAnswer) → JudgedBy a → JudgedBy b → judge_number a ≡ judge_number b →
    (s t : List ℕ) → judge_answer a s ≡ judge_answer b t → a ≡ b
both-judged a b j k n s t e =
    j.answer
    ∙ (told.judge_told j.call k.call s t j.bytes k.bytes
    (sym (ap judge_number j.answer) ∙ (n ∙ ap judge_number k.answer))
    (sym (ap (λ (y : JudgeAnswer). judge_answer y s) j.answer) ∙ (e ∙ ap (λ (y : JudgeAnswer). judge_answer y t) k.answer))
    ∙ sym k.answer)

pub offers-told : OffersTold
offers-told found other plain other_plain o p x y h v g w n s t e = go x.answer refl y.answer refl
  where
    go : (a : JudgeAnswer) → x.answer ≡ a → (b : JudgeAnswer) → y.answer ≡ b → x.answer ≡ y.answer
    go (Number k) q (Number m) r = q ∙ (ap Number (sym (ap judge_number q) ∙ (n ∙ ap judge_number r)) ∙ sym r)
    go (Number k) q (Given u) r =
        absurd (no_zero k (number-above found plain o x h v k q) (sym (ap judge_number q) ∙ (n ∙ ap judge_number r)))
    go (Given u) q (Number m) r =
        absurd (no_zero m (number-above other other_plain p y g w m r) (sym (ap judge_number r) ∙ (sym n ∙ ap judge_number q)))
    go (Given u) q (Given z) r =
        both-judged x.answer y.answer (judged-by found plain o x h v u q) (judged-by other other_plain p y g w z r) n s t e
