-- The numbers of an offer made next, said of what the offers before left: 2 to 5, 11, 12, and that a number changes nothing.
use Rattle.std.specs.Prelude.{Some, is_some}
use Prim.Native.Nat.{ℕ}
use native.Mathlib.Omega.{arith}
use mathlib.Core.Path.{◌≡◌, refl, ap, sym, ◌∙◌}
use mathlib.Core.Logic.{◌↔◌}
use mathlib.Core.Bool.{Bool, true, false}
use Rattle.base.proofs.Bool.{never, clash}
use Rattle.base.proofs.Impossible.{impossible}
use Rattle.rules.specs.Judge.{Input, Tested, refused, admitted, Number}
use Rattle.books.specs.Kept.{find_kept, Opened}
use Rattle.books.specs.Offer.{Offer, is_full, tested_room, offer_tested, offer_tested_in, offer_with, offer, offer_in}
use Rattle.books.specs.Calls.{laid_out, offer_to, IsOfferNumber}
use Rattle.books.specs.FoundBook.{left_in, WasKept, HasNoRoom, tested_as}
use Rattle.books.proofs.Offered.{same_tests, number_of, number_six, numbers, number-unchanged, offer-cases}
use Rattle.books.proofs.LeftEntries.{was_kept, is_found, has_no_room, is-full}
use Rattle.books.proofs.Invariant.{Sound}

module _ (z : Opened) (o : Offer) (h : Sound z) where
  tested-next : (t : Tested) → tested_as z.bytes o ≡ t → offer_tested z o ≡ tested_room z o.bytes t
  unfolding offer_tested_in
  tested-next t e = ap (tested_room z o.bytes) (sym (same_tests z o h.settings) ∙ e)

  refused-next : (n : ℕ) → offer_tested z o ≡ refused n → (offer z o).answer ≡ Number n
  unfolding offer_in offer_with
  refused-next n e = ap (λ (t : Tested). (offer_with z o t).answer) e

  pub next-tests : (n : ℕ) → tested_as z.bytes o ≡ refused n → (offer z o).answer ≡ Number n
  next-tests n e = refused-next n (tested-next (refused n) e)

  -- of the call on the book's slice
  pub next-unchanged : (n : ℕ) → (offer_to (laid_out z) o (Some z)).answer ≡ Number n →
      IsOfferNumber n × (((offer_to (laid_out z) o (Some z)).after ≡ laid_out z) × ((offer_to (laid_out z) o (Some z)).peers ≡ o.peers))
  next-unchanged n e = let u = number-unchanged z o n e in (numbers z o h.shape n e, (ap laid_out u.0, u.1))

  module _ (i : Input) (e : tested_as z.bytes o ≡ admitted i) where
    abbrev is_kept : Bool
    is_kept = is_some (find_kept z.book i.point.id)

    next-found : is_kept ≡ true → (offer z o).answer ≡ Number 11
    next-found f = refused-next 11 (tested-next (admitted i) e ∙ rw f)

    next-full : is_kept ≡ false → is_full z o.bytes ≡ true → (offer z o).answer ≡ Number 12
    next-full f g = refused-next 12 (tested-next (admitted i) e ∙ rw (f, g))

    -- an offer that is judged gets no number but 6
    judged_six : is_kept ≡ false → is_full z o.bytes ≡ false → (n : ℕ) → (offer z o).answer ≡ Number n → n ≡ 6
    judged_six f g =
        let t : offer_tested z o ≡ admitted i = tested-next (admitted i) e ∙ rw (f, g) in
        offer-cases z o (λ x. (n : ℕ) → x.answer ≡ Number n → n ≡ 6)
        (λ m q n a. impossible (cc))
        (λ j q m a n b. sym (number_of n m b) ∙ number_six z o h.shape j q m a)
        (λ j q v a n b. impossible (cc))

    same_number : (n m : ℕ) → (offer z o).answer ≡ Number n → (offer z o).answer ≡ Number m → n ≡ m
    same_number n m a b = number_of m n (sym a ∙ b)

    pub next-again : ((offer z o).answer ≡ Number 11) ↔ WasKept (left_in z.book) i.point.id
    next-again = (λ a. there a is_kept refl (is_full z o.bytes) refl, λ k. next-found (is_found z.book h.shape i.point.id k))
      where
        there : (offer z o).answer ≡ Number 11 → (x : Bool) → is_kept ≡ x → (y : Bool) → is_full z o.bytes ≡ y → WasKept (left_in z.book) i.point.id
        there a true f y g = was_kept z.book h.shape i.point.id f
        there a false f true g = absurd (omega (arith, same_number 11 12 a (next-full f g)))
        there a false f false g = absurd (omega (arith, judged_six f g 11 a))

    pub next_no_room :
        ((offer z o).answer ≡ Number 12)
        ↔ ((WasKept (left_in z.book) i.point.id → ⊥) × HasNoRoom z.length (left_in z.book) o.bytes)
    next_no_room = (λ a. there a is_kept refl (is_full z o.bytes) refl, λ k. next-full (never is_kept (λ f. k.0 (was_kept z.book h.shape i.point.id f))) (is-full z o.bytes k.1))
      where
        there : (offer z o).answer ≡ Number 12 → (x : Bool) → is_kept ≡ x → (y : Bool) → is_full z o.bytes ≡ y →
            (WasKept (left_in z.book) i.point.id → ⊥) × HasNoRoom z.length (left_in z.book) o.bytes
        there a true f y g = absurd (omega (arith, same_number 12 11 a (next-found f)))
        there a false f true g = (λ k. clash is_kept (is_found z.book h.shape i.point.id k) f, has_no_room z o.bytes g)
        there a false f false g = absurd (omega (arith, judged_six f g 12 a))
