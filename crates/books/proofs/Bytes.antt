-- What an offer does to a book's bytes: a mark is one byte that is set, and a new entry is a run of bytes after the others.
use Prim.Native.Nat.{ℕ, zero, suc, ◌+◌, ◌-◌, ◌≤◌, ◌<◌}
use native.Mathlib.Nat.{suc-add, zero-add, sub-zero, zero-sub, suc-sub-suc}
use native.Mathlib.Omega.{arith}
use mathlib.Core.Path.{◌≡◌, refl, ap, sym, ◌∙◌}
use mathlib.Core.Bool.{Bool, true, false, or-false, or-true}
use mathlib.Core.List.{List, [], ◌∷◌, ◌++◌, Memᴰ, append_assoc, append-nil}
use lib.ListN.{length, drop, set, replicate, length-append}
use lib.Seq.{set-append_left}
use Rattle.parts.specs.Bytes.{put_at}
use Rattle.write.proofs.Laws.{put_after}
use Rattle.point.specs.Point.{PointId}
use Rattle.books.specs.Kept.{Status, Valid, TransInvalid, Invalid, IllFormed, Kept, Book, mark_one, mark}
use Rattle.books.specs.Offer.{used}
use Rattle.books.specs.Layout.{status_bytes, kept_bytes, entries_bytes, book_bytes}
use Rattle.books.proofs.RoundTrip.{kept-length, entries-length}

-- ---- books one after the other

pub used-append : (a b : Book) → used (a ++ b) ≡ used a + used b
unfolding used
used-append [] b = omega arith
used-append (k ∷ a) b = omega (arith, used-append a b)

-- an entry lies within its book
pub entry-within : (front : Book) (k : Kept) (back : Book) → used front + length k.bytes + 108 ≤ used (front ++ k ∷ back)
unfolding used
entry-within front k back = omega (arith, used-append front (k ∷ back))

pub entries-append : (a b : Book) → entries_bytes (a ++ b) ≡ entries_bytes a ++ entries_bytes b
unfolding entries_bytes
entries-append [] b = refl
entries-append (k ∷ a) b = ap (◌++◌ (kept_bytes k)) (entries-append a b) ∙ sym (append_assoc (kept_bytes k) (entries_bytes a) (entries_bytes b))

pub mark-append : (covers : PointId → Bool) (a b : Book) → mark covers (a ++ b) ≡ mark covers a ++ mark covers b
unfolding mark
mark-append covers [] b = refl
mark-append covers (k ∷ a) b = ap (λ (c : Book). mark_one covers k ∷ c) (mark-append covers a b)

pub mark-used : (covers : PointId → Bool) (b : Book) → used (mark covers b) ≡ used b
unfolding mark mark_one used
mark-used covers [] = refl
mark-used covers (k ∷ b) = ap (λ (n : ℕ). length k.bytes + 108 + n) (mark-used covers b)

-- ---- an entry that is not covered stays as it is

pub unmarked : (covers : PointId → Bool) (k : Kept) → covers k.point.id ≡ false → mark_one covers k ≡ k
unfolding mark_one
unmarked covers k h = rw (h, or-false k.certified)

pub unmarked-all : (covers : PointId → Bool) (b : Book) → ((k : Kept) → Memᴰ k b → covers k.point.id ≡ false) → mark covers b ≡ b
unfolding mark
unmarked-all covers [] h = refl
unmarked-all covers (k ∷ b) h = rw (unmarked covers k (h k (Memᴰ.head refl)), unmarked-all covers b (λ y m. h y (Memᴰ.tail m)))

-- ---- a mark is one byte

set_after : (xs ys : List ℕ) (at n a : ℕ) → at ≡ length xs + n → set (xs ++ ys) at a ≡ xs ++ set ys n a
set_after [] ys at n a e = ap (λ (k : ℕ). set ys k a) (e ∙ zero-add n)
set_after (x ∷ xs) ys at n a e =
    ap (λ (k : ℕ). set (x ∷ xs ++ ys) k a) (e ∙ suc-add (length xs) n) ∙ ap (λ (l : List ℕ). x ∷ l) (set_after xs ys (length xs + n) n a refl)

flag-set : (s : Status) (c : Bool) → set (status_bytes s c) 1 1 ≡ status_bytes s true
unfolding status_bytes
flag-set Valid c = refl
flag-set (TransInvalid d) c = refl
flag-set (Invalid n) c = refl
flag-set (IllFormed n) c = refl

module _ (covers : PointId → Bool) (k : Kept) (t : covers k.point.id ≡ true) where
  kept-marked : set (kept_bytes k) (length k.bytes + 4) 1 ≡ kept_bytes (mark_one covers k)
  unfolding kept_bytes mark_one
  kept-marked =
      set_after k.bytes (33 ∷ 105 ∷ 0 ∷ status_bytes k.status k.certified) (length k.bytes + 4) 4 1 refl
      ∙ rw (t, or-true k.certified, flag-set k.status k.certified)

  entries-marked : (front back : Book) → set (entries_bytes (front ++ k ∷ back)) (used front + (length k.bytes + 4)) 1 ≡ entries_bytes (front ++ mark_one covers k ∷ back)
  unfolding entries_bytes
  entries-marked front back =
      let n = length k.bytes + 4 in
      rw (entries-append front (k ∷ back), entries-append front (mark_one covers k ∷ back))
      (set_after (entries_bytes front) (kept_bytes k ++ entries_bytes back) (used front + n) n 1 (rw (entries-length front))
      ∙ rw (set-append_left (kept_bytes k) (entries_bytes back) n 1 (omega (arith, kept-length k)), kept-marked))

  one-used : (front back : Book) → used (front ++ mark_one covers k ∷ back) ≡ used (front ++ k ∷ back)
  unfolding mark_one used
  one-used front back = omega (arith, used-append front (mark_one covers k ∷ back), used-append front (k ∷ back))

  -- of an entry that is covered, the second byte of its tag 33's content
  pub entry-marked : (settings : List ℕ) (len : ℕ) → length settings ≡ 47 → (front back : Book) (at : ℕ) → at ≡ 47 + used front + length k.bytes + 3 + 1 →
      set (book_bytes settings len (front ++ k ∷ back)) at 1 ≡ book_bytes settings len (front ++ mark_one covers k ∷ back)
  unfolding book_bytes
  entry-marked settings len l front back at e =
      let b = front ++ k ∷ back in
      let n = used front + (length k.bytes + 4) in
      let zeros : List ℕ = replicate (len - 47 - used b) 0 in
      let within : n < length (entries_bytes b) = omega (arith, entries-length b, entry-within front k back) in
      set_after settings (entries_bytes b ++ zeros) at n 1 (omega arith)
      ∙ rw (one-used front back, set-append_left (entries_bytes b) zeros n 1 within, entries-marked front back)

-- ---- a new entry is a run of bytes

drop-zeros : (n m : ℕ) → drop {A = ℕ} n (replicate m 0) ≡ replicate (m - n) 0
drop-zeros zero m = rw (sub-zero m)
drop-zeros (suc n) zero = rw (zero-sub (suc n))
drop-zeros (suc n) (suc m) = drop-zeros n m ∙ ap (λ (k : ℕ). replicate k 0) (sym (suc-sub-suc m n))

-- "appends the record with that verdict": after the entries, where zeros stood
pub append-bytes : (settings : List ℕ) (len : ℕ) (b : Book) (k : Kept) (at : ℕ) → length settings ≡ 47 → at ≡ 47 + used b →
    put_at (book_bytes settings len b) at (kept_bytes k) ≡ book_bytes settings len (b ++ (k ∷ []))
unfolding book_bytes entries_bytes used
append-bytes settings len b k at l e =
    let zeros : List ℕ = replicate (len - 47 - used b) 0 in
    let front : List ℕ = settings ++ entries_bytes b in
    let m : len - 47 - used b - length (kept_bytes k) ≡ len - 47 - used (b ++ (k ∷ [])) = omega (arith, kept-length k, used-append b (k ∷ [])) in
    let n : length front ≡ at = omega (arith, length-append settings (entries_bytes b), entries-length b) in
    ap (λ (s : List ℕ). put_at s at (kept_bytes k)) (sym (append_assoc settings (entries_bytes b) zeros))
    ∙ (put_after front zeros (kept_bytes k) at n
    ∙ rw (drop-zeros (length (kept_bytes k)) (len - 47 - used b), m, entries-append b (k ∷ []), append-nil (kept_bytes k)) (simp append_assoc))
