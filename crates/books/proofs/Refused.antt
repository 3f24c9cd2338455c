-- An offer to any bytes never gets the number 1 nor one of 7 to 9; and one that gets a number changes no lent byte, neither the book's
-- nor the peer buffer's. With what else is so of any bytes.
use Rattle.std.specs.Prelude.{Option, None, Some, is_some}
use Prim.Native.Nat.{ℕ, suc, ◌<◌}
use mathlib.Core.Path.{◌≡◌, refl, ap, sym, ◌∙◌}
use mathlib.Core.Logic.{◌⊎◌, inl, inr}
use mathlib.Core.Bool.{true, or-true}
use mathlib.Core.List.{List}
use lib.ListN.{length}
use lib.Dec.{leb, ltb}
use native.Mathlib.Decide.{dec_lt}
use native.Mathlib.Omega.{arith}
use borrow.Author.Tests.{leb-true, lt-ltb}
use Rattle.base.proofs.Bool.{and_left, and_right, clash}
use Rattle.parts.specs.Bytes.{Bytes}
use Rattle.point.specs.Point.{PointInfo}
use Rattle.schedule.specs.Settings.{Settings, read_settings}
use Rattle.reasons.specs.Invalid.{dag_round}
use Rattle.reasons.proofs.Laws.{no_reason-below, no_reason-above}
use Rattle.rules.specs.Judge.{Number}
use Rattle.rules.specs.List.{is_listable}
use Rattle.books.specs.Kept.{Status, Valid, TransInvalid, Invalid, IllFormed, Opened}
use Rattle.books.specs.Lists.{dag_point}
use Rattle.books.specs.Offer.{Offer, is_state_ok}
use Rattle.books.specs.Layout.{book_bytes, read_book}
use Rattle.books.specs.Calls.{open_number_with, open_number, opened_as, open_bytes, laid_out, offer_to, offer_bytes, IsOfferNumber}
use Rattle.books.specs.AnyBytes.{IsReason, EntryInDomain, AnyBytes}
use Rattle.books.proofs.Find.{no_id-twice}
use Rattle.books.proofs.Offered.{numbers, number-unchanged}
use Rattle.books.proofs.Canonical.{book-again}
use Rattle.books.proofs.Invariant.{opens}

-- bytes that read as a book are that book in its slice
book-laid_out : (s : List ℕ) (z : Opened) → Bytes s → read_book s ≡ Some z → s ≡ laid_out z
unfolding laid_out
book-laid_out s z w e =
    let b = book-again s z w e in b.bytes ∙ ap (λ (n : ℕ). book_bytes z.bytes n z.book) (sym b.whole)

module _ (o : Offer) (n : ℕ) where
  -- a number is 10, or one of 2 to 6, 11 and 12
  pub offer-numbers : (s : List ℕ) → Bytes s → (offer_bytes s o).answer ≡ Number n → (n ≡ 10) ⊎ IsOfferNumber n
  unfolding offer_bytes
  offer-numbers s w h = go (read_book s) refl h
    where
      go : (z : Option Opened) → read_book s ≡ z → (offer_to s o z).answer ≡ Number n → (n ≡ 10) ⊎ IsOfferNumber n
      go None e h = inl (cc)
      go (Some z) e h = inr (numbers z o (book-again s z w e).shape n h)

  -- a number leaves the bytes as they were, so that no mark was made
  pub unchanged : (s : List ℕ) → Bytes s → (offer_bytes s o).answer ≡ Number n → ((offer_bytes s o).after ≡ s) × ((offer_bytes s o).peers ≡ o.peers)
  unfolding offer_bytes
  unchanged s w h = go (read_book s) refl h
    where
      go : (z : Option Opened) → read_book s ≡ z → (offer_to s o z).answer ≡ Number n → ((offer_to s o z).after ≡ s) × ((offer_to s o z).peers ≡ o.peers)
      go None e h = (refl, refl)
      go (Some z) e h = let u = number-unchanged z o n h in (ap laid_out u.0 ∙ sym (book-laid_out s z w e), u.1)

-- ---- any bytes

unread : (s : List ℕ) (o : Offer) → read_book s ≡ None → offer_bytes s o ≡ offer_to s o None
unfolding offer_bytes
unread s o e = ap (offer_to s o) e

unopened : (settings s : List ℕ) (n : ℕ) → open_number settings (length s) ≡ suc n → open_bytes settings s ≡ s
unfolding open_bytes
unopened settings s n e = ap (opened_as settings s) e

module _ (settings s : List ℕ) where
  one : read_settings settings ≡ None → open_number settings (length s) ≡ 1
  unfolding open_number
  one e = ap (λ (x : Option Settings). open_number_with x (length s)) e

  module _ (c : Settings) (e : read_settings settings ≡ Some c) where
    five : (length s < 47) ⊎ (16777216 < length s) → open_number settings (length s) ≡ 5
    unfolding open_number
    five (inl h) = rw (e, lt-ltb (length s) 47 h)
    five (inr h) = rw (e, lt-ltb 16777216 (length s) h, or-true (ltb (length s) 47))

reason_range : (n : ℕ) → is_some (dag_round n) ≡ true → IsReason n
reason_range n h = (
  elim (dec_lt n 1) [ yes f ↦ absurd (clash (is_some (dag_round n)) h (ap is_some (no_reason-below n f))) | no f ↦ omega arith ],
  elim (dec_lt 20 n) [ yes f ↦ absurd (clash (is_some (dag_round n)) h (ap is_some (no_reason-above n f))) | no f ↦ omega arith ],
)

in_domain_lem : (p : PointInfo) (x : Status) → is_state_ok (dag_point p x) ≡ true → EntryInDomain p x
in_domain_lem p Valid h = rw h tt
in_domain_lem p (TransInvalid d) h =
    let l = is_listable p in
    let least = leb 4 d.to.round in
    let greatest = leb d.to.round 2147483647 in
    let a = and_right l _ h in
    let b = and_right least _ a in
    (rw (and_left l _ h) tt, ((leb-true 4 d.to.round (and_left least _ a), leb-true d.to.round 2147483647 (and_left greatest _ b)), reason_range d.reason (and_right greatest _ b)))
in_domain_lem p (Invalid n) h = (rw (and_left (is_listable p) _ h) tt, reason_range n (and_right (is_listable p) _ h))
in_domain_lem p (IllFormed n) h = (leb-true 1 n (and_left (leb 1 n) _ h), leb-true n 16 (and_right (leb 1 n) _ h))

pub any-bytes : (s : List ℕ) → AnyBytes s
any-bytes s =
    record {
      ten = unread s;
      read = λ z w e. (let b = book-again s z w e in (book-laid_out s z w e, (no_id-twice z.book b.shape.once, (b.shape.few, b.short))));
      says = λ z w e. (let b = book-again s z w e in (b.reads, (b.whole, λ k m. (let x = b.shape.entries k m in (x.read, (x.domain, in_domain_lem k.point k.status x.status.state))))));
      one = λ settings. one settings s;
      five = λ settings. five settings s;
      opens = λ settings c. opens settings s c;
      unopened = λ settings n e. unopened settings s n e;
    }
