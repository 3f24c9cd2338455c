-- The example: the checker computes it.
use Rattle.std.specs.Prelude.{Some}
use Prim.Native.Nat.{ℕ, zero, suc}
use mathlib.Core.Path.{◌≡◌, refl, ap, ◌∙◌}
use mathlib.Core.Logic.{inl, inr}
use mathlib.Core.Bool.{Bool, true, ◌&&◌}
use mathlib.Core.List.{List, [], ◌∷◌}
use lib.ListN.{length}
use lib.Dec.{ltb, lit<, lit≤}
use borrow.Author.Tests.{ltb-true}
use Rattle.base.specs.Base.{concat}
use Rattle.base.proofs.Bool.{and_left, and_right}
use Rattle.base.proofs.Impossible.{impossible}
use Rattle.parts.specs.Bytes.{little_at, big_at, Bytes}
use Rattle.map.specs.Rows.{pair_at, pairs_in, peers, digests}
use Rattle.point.specs.Point.{source, target}
use Rattle.point.specs.Written.{point_bytes}
use Rattle.schedule.specs.Settings.{read_settings}
use Rattle.rules.specs.Mismatch.{mismatch, uncovered}
use Rattle.rules.specs.Validate.{validate}
use Rattle.books.specs.Kept.{Valid, Invalid, IllFormed, find_kept, mark}
use Rattle.books.specs.Offer.{Offer, used, offer_in}
use Rattle.books.specs.Run.{Run, run, AreBytes}
use Rattle.books.specs.Layout.{entries_bytes, book_bytes}
use Rattle.books.specs.Calls.{open_bytes, laid_out, offer_bytes}
use Rattle.books.specs.FoundBook.{FoundBook}
use Rattle.books.specs.Example.{settings_bytes, schedule_bytes, conf, slice, genesis, first, second, offers, plain, given, expected_answers, entry, expected_book, expected_entries, expected_slice, Example}
use Rattle.books.proofs.FoundBooks.{found_books}

-- ---- the records are bytes

are_below : List ℕ → Bool
are_below [] = true
are_below (x ∷ l) = ltb x 256 && are_below l

below-bytes : (l : List ℕ) → are_below l ≡ true → Bytes l
unfolding are_below
below-bytes [] h k = lit< tt
below-bytes (x ∷ l) h zero = ltb-true x 256 (and_left (ltb x 256) (are_below l) h)
below-bytes (x ∷ l) h (suc k) = below-bytes l (and_right (ltb x 256) (are_below l) h) k

all_below : List Offer → Bool
all_below [] = true
all_below (o ∷ l) = are_below o.bytes && all_below l

below_all : (l : List Offer) → all_below l ≡ true → AreBytes l
unfolding all_below
below_all [] h = tt
below_all (o ∷ l) h =
    (below-bytes o.bytes (and_left (are_below o.bytes) (all_below l) h), below_all l (and_right (are_below o.bytes) (all_below l) h))

-- ---- the offers

reads : read_settings (settings_bytes conf) ≡ Some conf
unfolding read_settings settings_bytes little_at big_at
reads = refl

all-below : all_below offers ≡ true
unfolding all_below are_below point_bytes
all-below = refl

as_given : given ≡ expected_answers
unfolding run offer_in point_bytes schedule_bytes little_at big_at pairs_in pair_at peers digests mark mismatch uncovered validate
as_given = refl

as_left : plain.last.book ≡ expected_book
unfolding run offer_in point_bytes schedule_bytes little_at big_at pairs_in pair_at peers digests mark mismatch uncovered validate
as_left = refl

as_found : FoundBook (settings_bytes conf) conf (length slice) (run offer_bytes (open_bytes (settings_bytes conf) slice) offers) plain
as_found = (found_books (settings_bytes conf) slice conf offers reads (lit≤ tt) (lit≤ tt) (below_all offers all-below)).1.0

-- ---- the slice

as_entries : entries_bytes expected_book ≡ concat expected_entries
unfolding entries_bytes concat
as_entries = refl

as_used : used expected_book ≡ 4946
unfolding used point_bytes
as_used = refl

as_written : book_bytes (settings_bytes conf) (length slice) expected_book ≡ expected_slice
unfolding book_bytes
as_written = rw (as_entries, as_used)

as_laid : (run offer_bytes (open_bytes (settings_bytes conf) slice) offers).last ≡ expected_slice
unfolding laid_out
as_laid =
    let s = as_found.stays in
    ap (λ (x : Run (List ℕ)). x.last) as_found.same
    ∙ (ap (λ (l : List ℕ). book_bytes l plain.last.length plain.last.book) s.0
    ∙ (ap (λ (n : ℕ). book_bytes (settings_bytes conf) n plain.last.book) s.1.1
    ∙ (ap (book_bytes (settings_bytes conf) (length slice)) as_left ∙ as_written)))

pub example : Example
unfolding find_kept source target
example =
    record {
      readable = reads;
      room = lit≤ tt;
      short = lit≤ tt;
      bytes = below_all offers all-below;
      answers = as_given;
      book = as_left;
      laid = as_laid;
      reaches = ((entry second Valid true, (refl, inr ((refl, (tt, tt)), (entry genesis Valid true, (refl, inl refl))))), (refl, (tt, λ n e. (let f : Valid ≡ IllFormed n = e in impossible (cc)))));
      stops = ((entry first (Invalid 4) true, (refl, inl refl)), (refl, (4, refl)));
      found = as_found;
    }
