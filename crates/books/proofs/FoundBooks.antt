-- The statement on found books, put together from the law of each sentence, and what follows from it.
use Rattle.std.specs.Prelude.{Option, Some}
use Prim.Native.Nat.{ℕ, ◌≤◌}
use mathlib.Core.Path.{◌≡◌, ap, sym, ◌∙◌, subst}
use mathlib.Core.Logic.{◌↔◌}
use mathlib.Core.Bool.{true}
use mathlib.Core.List.{List, Memᴰ}
use lib.ListN.{length}
use Rattle.parts.specs.Bytes.{Bytes}
use Rattle.parts.specs.Limits.{entries_start, longest_book}
use Rattle.schedule.specs.Settings.{Settings, read_settings}
use Rattle.rules.specs.Judge.{Number}
use Rattle.books.specs.Kept.{Kept, Opened}
use Rattle.books.specs.Offer.{Offer, offer}
use Rattle.books.specs.Run.{Run, run, AreBytes}
use Rattle.books.specs.Calls.{open_bytes, opened, laid_out, offer_to, offer_bytes}
use Rattle.books.specs.FoundBook.{Left, all_left, left_in, WasKept, HasNoRoom, EverMarked, NextOffer, FoundBook, FoundBooks}
use Rattle.books.proofs.Find.{find_exact, once-found}
use Rattle.books.proofs.Marks.{is_certified, next-told}
use Rattle.books.proofs.LeftEntries.{left_in_slice}
use Rattle.books.proofs.Invariant.{sound-reads, offer-read, Invariant, opens, invariant}
use Rattle.books.proofs.NextOffer.{next-tests, next-unchanged, next-again, next_no_room}
use Rattle.books.proofs.Judged.{next-judged}
use Rattle.books.proofs.Implied.{all-implied}

module _ (settings : List ℕ) (c : Settings) (len : ℕ) (found : Run (List ℕ)) (plain : Run Opened) (h : Invariant (opened settings c len) found plain) where
  abbrev z : Opened
  z = plain.last

  -- the settings and the length are those that were given
  given : (z.bytes ≡ settings) × ((z.settings ≡ c) × (z.length ≡ len))
  given = (ap (λ (x : Opened). x.bytes) h.stays, (ap (λ (x : Opened). x.settings) h.stays, ap (λ (x : Opened). x.length) h.stays))

  marks : (k : Kept) → Memᴰ k z.book → (k.certified ≡ true) ↔ EverMarked plain.moments k.point.id
  marks k m =
      subst (λ (x : Option Kept). (is_certified x ≡ true) ↔ EverMarked plain.moments k.point.id) (once-found z.book h.sound.shape.once k m) (h.marks k.point.id)

  last-bytes : found.last ≡ laid_out z
  last-bytes = ap (λ (x : Run (List ℕ)). x.last) h.same

  -- the answers over the slice's bytes are the plain book's
  kept : left_in z.book ≡ all_left found.moments
  kept = h.kept ∙ (sym (left_in_slice plain.moments) ∙ ap (λ (x : Run (List ℕ)). all_left x.moments) (sym h.same))

  next-offer : (o : Offer) → Bytes o.bytes → NextOffer found plain o (offer_to (laid_out z) o (Some z))
  next-offer o w =
      record {
        tests = next-tests z o h.sound;
        again = λ i e. subst (λ (l : List Left). ((offer z o).answer ≡ Number 11) ↔ WasKept l i.point.id) kept (next-again z o h.sound i e);
        full = λ i e.
            subst (λ (l : List Left). ((offer z o).answer ≡ Number 12) ↔ ((WasKept l i.point.id → ⊥) × HasNoRoom z.length l o.bytes)) kept
            (next_no_room z o h.sound i e);
        unchanged = λ n e. (let u = next-unchanged z o h.sound n e in (u.0, (u.1.0 ∙ sym last-bytes, u.1.1)));
        judged = (next-told plain o h.sound.settings h.sound.shape h.marks, next-judged plain o w h.sound h.marks);
      }

  found-book : FoundBook settings c len found plain
  found-book =
      record {
        same = h.same;
        reads = rw last-bytes (sound-reads z h.sound);
        stays = given;
        says = λ k m. (h.sound.shape.entries k m).read;
        finds = λ i k. find_exact z.book h.sound.shape.once i k;
        kept = kept;
        marks = marks;
        next = λ o w. subst (NextOffer found plain o) (sym (ap (λ (s : List ℕ). offer_bytes s o) last-bytes ∙ offer-read z h.sound o)) (next-offer o w);
      }

-- of every list of offers
module _ (settings slice : List ℕ) (c : Settings) (r : read_settings settings ≡ Some c)
    (least : entries_start ≤ length slice) (most : length slice ≤ longest_book) where
  abbrev found_by : List Offer → Run (List ℕ)
  found_by = run offer_bytes (open_bytes settings slice)

  abbrev plain_by : List Offer → Run Opened
  plain_by = run offer (opened settings c (length slice))

  stated : (l : List Offer) → AreBytes l → FoundBook settings c (length slice) (found_by l) (plain_by l)
  stated l w = found-book settings c (length slice) (found_by l) (plain_by l) (invariant settings slice c r least most l w)

pub found_books : FoundBooks
found_books settings slice c l r least most w =
    let every = stated settings slice c r least most in (
      opens settings slice c r least most,
      (every l w, all-implied settings c (length slice) (open_bytes settings slice) (run offer (opened settings c (length slice))) r every l w),
    )
