-- What is so of a slice and of the plain book after any list of offers since the opening.
use Rattle.std.specs.Prelude.{Some}
use Prim.Native.Nat.{ℕ, ◌+◌, ◌≤◌}
use mathlib.Core.Path.{◌≡◌, refl, ap, sym, ◌∙◌, subst}
use mathlib.Core.Logic.{◌↔◌}
use mathlib.Core.Bool.{true}
use mathlib.Core.List.Memᴰ
use mathlib.Core.List.{List, [], ◌∷◌, ◌++◌, map, map-append}
use lib.ListN.{length}
use borrow.Author.Tests.{le-ltb}
use Rattle.base.proofs.Impossible.{impossible}
use Rattle.parts.specs.Bytes.{Bytes}
use Rattle.parts.specs.Limits.{entries_start, longest_book}
use Rattle.point.specs.Point.{PointId}
use Rattle.schedule.specs.Settings.{Settings, read_settings}
use Rattle.books.specs.Kept.{find_kept, Opened, with_entries}
use Rattle.books.specs.Offer.{Offer, Result, start_in, used, offer}
use Rattle.books.specs.Run.{Moment, Run, moment_of, run, AreBytes}
use Rattle.books.specs.Layout.{read_book}
use Rattle.books.specs.Calls.{open_number, open_bytes, opened, laid_out, offer_to, offer_bytes}
use Rattle.books.specs.FoundBook.{Left, leaves, all_left, left_in, EverMarked, run_in_bytes}
use Rattle.books.proofs.Shape.{Shape, empty-shape}
use Rattle.books.proofs.RoundTrip.{book-reads}
use Rattle.books.proofs.Offered.{offer-within, offer-shape, offer-room}
use Rattle.books.proofs.Marks.{is_certified, offer-marked}
use Rattle.books.proofs.LeftEntries.{offer-left, all-left-more, in_slice}
use Rattle.books.proofs.Run.{more, run_more, by-offers}

-- ---- of a book by itself

pub record Sound (z : Opened) : Type 0 where
  pub settings : read_settings z.bytes ≡ Some z.settings
  pub short : z.length ≤ longest_book
  pub shape : Shape z.book
  pub room : start_in z + used z.book ≤ z.length

offer-sound : (z : Opened) (o : Offer) → Bytes o.bytes → Sound z → Sound (offer z o).after
offer-sound z o w h =
    subst Sound (sym (offer-within z o))
    (record { settings = h.settings; short = h.short; shape = offer-shape z o w h.shape; room = offer-room z o h.room })

module _ (z : Opened) (h : Sound z) where
  -- it is read back from its slice
  pub sound-reads : read_book (laid_out z) ≡ Some z
  unfolding laid_out
  sound-reads = book-reads z.bytes z.settings z.length z.book h.settings h.short h.shape h.room

  -- an offer to its slice is an offer to it
  pub offer-read : (o : Offer) → offer_bytes (laid_out z) o ≡ offer_to (laid_out z) o (Some z)
  unfolding offer_bytes
  offer-read o = ap (offer_to (laid_out z) o) sound-reads

-- ---- of a run over bytes and the plain book's

pub record Invariant (start : Opened) (found : Run (List ℕ)) (plain : Run Opened) : Type 0 where
  pub stays : plain.last ≡ with_entries start plain.last.book
  pub sound : Sound plain.last
  pub same : found ≡ run_in_bytes plain
  pub kept : left_in plain.last.book ≡ all_left plain.moments
  pub marks : (i : PointId) → (is_certified (find_kept plain.last.book i) ≡ true) ↔ EverMarked plain.moments i

module _ (start : Opened) (found : Run (List ℕ)) (plain : Run Opened) (h : Invariant start found plain) (o : Offer) where
  abbrev z : Opened
  z = plain.last

  same_more : more offer_bytes found o ≡ run_in_bytes (more offer plain o)
  same_more =
      ap (λ (x : Run (List ℕ)). more offer_bytes x o) h.same
      ∙ (ap (λ (x : Result (List ℕ)). record { moments = map in_slice plain.moments ++ (record { before = laid_out z; offer = o; result = x } ∷ []); last = x.after })
      (offer-read z h.sound o)
      ∙ ap (λ (l : List (Moment (List ℕ))). record { moments = l; last = laid_out (offer z o).after }) (sym (map-append in_slice plain.moments (moment_of offer z o ∷ []))))

  invariant-more : Bytes o.bytes → Invariant start (more offer_bytes found o) (more offer plain o)
  invariant-more w =
      record {
        stays = offer-within z o ∙ ap (λ (x : Opened). with_entries x (offer z o).after.book) h.stays;
        sound = offer-sound z o w h.sound;
        same = same_more;
        kept =
            offer-left z o
            ∙ (ap (λ (l : List Left). l ++ leaves o.bytes (offer z o).answer) h.kept ∙ sym (all-left-more plain.moments (moment_of offer z o)));
        marks = λ i. offer-marked z o h.sound.settings h.sound.shape i plain.moments (h.marks i);
      }

-- ---- since the opening

module _ (settings slice : List ℕ) (c : Settings) (r : read_settings settings ≡ Some c)
    (least : entries_start ≤ length slice) (most : length slice ≤ longest_book) where
  abbrev first : Opened
  first = opened settings c (length slice)

  pub opens : open_number settings (length slice) ≡ 0
  unfolding open_number
  opens = rw (r, le-ltb (length slice) entries_start least, le-ltb longest_book (length slice) most)

  as_opened : open_bytes settings slice ≡ laid_out first
  unfolding open_bytes laid_out
  as_opened = rw opens

  room-opened : start_in first + used [] ≤ length slice
  unfolding used
  room-opened = least

  invariant-opened : Invariant first (run offer_bytes (open_bytes settings slice) []) (run offer first [])
  unfolding run left_in all_left find_kept
  invariant-opened =
      record {
        stays = refl;
        sound = record { settings = r; short = most; shape = empty-shape; room = room-opened };
        same = ap (λ (x : List ℕ). record { moments = []; last = x }) as_opened;
        kept = refl;
        marks = λ i. (λ e. impossible (cc), λ e. absurd (Memᴰ.not-nil e.1.0));
      }

  pub invariant : (l : List Offer) → AreBytes l → Invariant first (run offer_bytes (open_bytes settings slice) l) (run offer first l)
  invariant =
      by-offers (λ l. Invariant first (run offer_bytes (open_bytes settings slice) l) (run offer first l))
      (λ l o w h. rw (run_more offer_bytes (open_bytes settings slice) l o, run_more offer first l o)
      (invariant-more first (run offer_bytes (open_bytes settings slice) l) (run offer first l) h o w))
      invariant-opened
