-- Marks change neither where entries stand nor their ids: what was read of a book serves after its marks are written.
use Rattle.std.specs.Prelude.{Some}
use Prim.Native.Nat.{ℕ, zero, suc, ◌+◌, ◌-◌, ◌≤◌, ◌<◌}
use native.Mathlib.Omega.{arith}
use mathlib.Core.Path.{◌≡◌, refl, ap, sym, ◌∙◌, subst}
use mathlib.Core.Bool.{Bool}
use mathlib.Core.List.Memᴰ
use mathlib.Core.List.{List, [], ◌∷◌, ◌++◌, Memᴰ, append_assoc}
use lib.ListN.{length, take, drop, replicate, take-append-drop, length-append}
use lib.Seq.{drop_at, drop-drop, take-append_seam}
use Rattle.parts.specs.Bytes.{Bytes}
use Rattle.point.specs.Point.{PointId}
use Rattle.point.specs.Reading.{read_point}
use Rattle.books.specs.Kept.{Kept, Book, mark_one, mark, Opened}
use Rattle.books.specs.Offer.{used}
use Rattle.books.specs.Layout.{kept_bytes, entries_bytes, book_bytes, kept_front, read_book}
use Rattle.books.proofs.Shape.{KeptShape, Shape, mark-length, mark-shape}
use Rattle.books.proofs.Bytes.{used-append, entries-append, mark-used}
use Rattle.books.proofs.RoundTrip.{kept-length, kept_split, kept-front, entries-length, settings-length, book-length, book-after}
use Rattle.books.proofs.Canonical.{BookOf, book-again}
use Rattle.id_index.specs.declared.Index.{Index}
use Rattle.id_index.specs.Code.{count_of, place_in, id_in, IsIndex}
use Rattle.id_index.proofs.Laws.{same_index}
use Rattle.book_layout.specs.Code.{EntryTo}
use Rattle.book_read.specs.Code.{Holds}
use Rattle.book_read.proofs.Laws.{standing, inside}
use Rattle.book_read.proofs.Steps.{EntryAt, entry_at}

-- ---- marks, entry by entry

module _ (test : PointId → Bool) where
  mark-take : (j : ℕ) (b : Book) → take j (mark test b) ≡ mark test (take j b)
  unfolding mark
  mark-take zero b = refl
  mark-take (suc j) [] = refl
  mark-take (suc j) (k ∷ b) = ap (λ (l : Book). mark_one test k ∷ l) (mark-take j b)

  mark-drop : (j : ℕ) (b : Book) → drop j (mark test b) ≡ mark test (drop j b)
  unfolding mark
  mark-drop zero b = refl
  mark-drop (suc j) [] = refl
  mark-drop (suc j) (k ∷ b) = mark-drop j b

-- ---- an entry in the bytes of a book

module _ (settings : List ℕ) (len : ℕ) (l : length settings ≡ 47) (b : Book) (h : Shape b) (fits : 47 + used b ≤ len) where
  abbrev bytes : List ℕ
  bytes = book_bytes settings len b

  module _ (j : ℕ) (k : Kept) (rest : Book) (d : drop j b ≡ k ∷ rest) where
    abbrev after : List ℕ
    after = entries_bytes rest ++ replicate (len - 47 - used b) 0

    parts : b ≡ take j b ++ k ∷ rest
    parts = sym (take-append-drop j b) ∙ ap (◌++◌ (take j b)) d

    there : drop (47 + used (take j b)) bytes ≡ kept_bytes k ++ after
    unfolding entries_bytes
    there =
        let front = take j b in
        let zeros : List ℕ = replicate (len - 47 - used b) 0 in
        let whole : entries_bytes b ++ zeros ≡ entries_bytes front ++ (kept_bytes k ++ after) =
        ap (λ (a : Book). entries_bytes a ++ zeros) parts
        ∙ (ap (λ (s : List ℕ). s ++ zeros) (entries-append front (k ∷ rest))
        ∙ (append_assoc (entries_bytes front) (kept_bytes k ++ entries_bytes rest) zeros
        ∙ ap (◌++◌ (entries_bytes front)) (append_assoc (kept_bytes k) (entries_bytes rest) zeros))) in
        sym (drop-drop (used front) 47 bytes)
        ∙ (ap (drop (used front)) (book-after settings len b l ∙ whole)
        ∙ drop_at (entries_bytes front) (kept_bytes k ++ after) (used front) (entries-length front))

    shape : KeptShape k
    shape = h.entries k (subst (Memᴰ k) (sym parts) (Memᴰ.append_right (take j b) (Memᴰ.head refl)))

    entry : (t : List ℕ) → t ≡ kept_bytes k ++ after → EntryTo t (length k.bytes)
    entry t e =
        let own : k.bytes ≡ take (length k.bytes) t = sym (ap (take (length k.bytes)) (e ∙ kept_split k after) ∙ take-append_seam k.bytes _) in
        record {
          kept = k;
          front = ap kept_front e ∙ kept-front k after shape;
          bytes = own;
          read = ap read_point (sym own) ∙ shape.read;
          inside = omega (arith, ap length e, length-append (kept_bytes k) after, kept-length k);
        }

    stands : (place : ℕ) → place ≡ 47 + used (take j b) → EntryAt bytes place (length k.bytes) k
    unfolding entry
    stands place e =
        entry_at bytes place (drop place bytes) refl (length k.bytes) (entry (drop place bytes) (ap (λ (n : ℕ). drop n bytes) e ∙ there))
        (omega (arith, book-length settings len b l fits, ap used parts, used-append (take j b) (k ∷ rest)))

-- ---- a book whose marks are written

module _ {s : List ℕ} (w : Bytes s) {z : Opened} (r : read_book s ≡ Some z) (test : PointId → Bool)
    {t : List ℕ} (e : t ≡ book_bytes z.bytes (length s) (mark test z.book)) {x : Index} (h : Holds s z.book x) where
  again : BookOf s z
  again = book-again s z w r

  fits : 47 + used (mark test z.book) ≤ length s
  fits = omega (arith, again.room, mark-used test z.book)

  long : length z.bytes ≡ 47
  long = settings-length _ _ again.reads

  -- an entry of the old book is there, with its mark
  marked-at : (j : ℕ) (k : Kept) (rest : Book) → drop j z.book ≡ k ∷ rest → drop j (mark test z.book) ≡ mark_one test k ∷ mark test rest
  unfolding mark
  marked-at j k rest d = mark-drop test j z.book ∙ ap (mark test) d

  start : (j : ℕ) (k : Kept) (rest : Book) → drop j (mark test z.book) ≡ k ∷ rest → place_in x j ≡ 47 + used (take j (mark test z.book))
  start j k rest d =
      let o = standing z.book j (omega (arith, inside _ j k rest d, mark-length test z.book)) in
      h.placed.starts j o.0 o.1 o.2
      ∙ ap (λ (n : ℕ). 47 + n) (sym (ap used (mark-take test j z.book) ∙ mark-used test (take j z.book)))

  entry-there : (j : ℕ) (k : Kept) (rest : Book) → drop j (mark test z.book) ≡ k ∷ rest → EntryAt t (place_in x j) (length k.bytes) k
  entry-there j k rest d =
      rw e (stands z.bytes (length s) long (mark test z.book) (mark-shape test z.book again.shape) fits j k rest d (place_in x j) (start j k rest d))

  pub marked-holds : Holds t (mark test z.book) x
  marked-holds =
      record {
        placed = record {
          count = h.placed.count ∙ sym (mark-length test z.book);
          starts = start;
          fronts = λ j k rest d. (entry-there j k rest d).front;
          ids = λ j k rest d. (entry-there j k rest d).id;
        };
        once = (mark-shape test z.book again.shape).once;
      }

  same_id_lem : (j : ℕ) → j < count_of x → id_in t x j ≡ id_in s x j
  unfolding mark_one
  same_id_lem j lt =
      let o = standing z.book j (omega (arith, h.placed.count)) in
      marked-holds.placed.ids j (mark_one test o.0) (mark test o.1) (marked-at j o.0 o.1 o.2) ∙ sym (h.placed.ids j o.0 o.1 o.2)

  pub marked-index : IsIndex s x → IsIndex t x
  marked-index = same_index (ap length e ∙ book-length z.bytes (length s) (mark test z.book) long fits) same_id_lem
