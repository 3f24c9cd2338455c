-- The entries of a book as the answers tell them: what one offer more leaves, and what an id and the rest of the slice are by them.
use Rattle.std.specs.Prelude.{Some, is_some}
use Prim.Native.Nat.{ℕ, suc, ◌+◌, ◌-◌}
use native.Mathlib.Omega.{arith}
use mathlib.Core.Path.{◌≡◌, refl, sym, ap, ◌∙◌}
use mathlib.Core.Logic.{◌⊎◌, inl, inr}
use mathlib.Core.Bool.{Bool, true}
use mathlib.Core.List.{List, [], ◌∷◌, ◌++◌, append-nil, append_assoc, map, Memᴰ}
use lib.ListN.{length}
use lib.Dec.{leb, ltb}
use borrow.Author.Tests.{leb-true, le-leb, ltb-true, lt-ltb}
use Rattle.base.proofs.Bool.{or_first, or_second, or_cases}
use Rattle.base.proofs.Option.{some_of}
use Rattle.point.specs.Point.{PointId, PointInfo, prev_id}
use Rattle.point.specs.Reading.{read_point}
use Rattle.schedule.specs.Settings.{Settings}
use Rattle.reasons.specs.Verdict as verdict
use Rattle.reasons.specs.Verdict.{Verdict}
use Rattle.rules.specs.Judge.{Input, Given, Before, answered, needed}
use Rattle.books.specs.Kept.{Kept, Book, find_kept, mark_one, mark, Opened}
use Rattle.books.specs.Spread.{covers}
use Rattle.books.specs.Offer.{Offer, used, is_full, marked_by, left_by, before_in, marked_in, offer}
use Rattle.books.specs.Run.{Moment}
use Rattle.books.specs.Calls.{laid_out, in_bytes}
use Rattle.books.specs.FoundBook.{Left, leaves, all_left, left_in, WasKept, bytes_taken, HasNoRoom}
use Rattle.books.proofs.Find.{find-id, find-member, once-found}
use Rattle.books.proofs.Shape.{Shape}
use Rattle.books.proofs.Offered.{offer-cases}

-- ---- one offer more

pub left-append : (a b : Book) → left_in (a ++ b) ≡ left_in a ++ left_in b
unfolding left_in
left-append [] b = refl
left-append (k ∷ a) b = ap (λ (l : List Left). record { bytes = k.bytes; status = k.status } ∷ l) (left-append a b)

pub mark-left : (covers : PointId → Bool) (b : Book) → left_in (mark covers b) ≡ left_in b
unfolding left_in mark mark_one
mark-left covers [] = refl
mark-left covers (k ∷ b) = ap (λ (l : List Left). record { bytes = k.bytes; status = k.status } ∷ l) (mark-left covers b)

by_left : (c : Settings) (p : PointInfo) (b : Book) (x : Before) → left_in (marked_by c p b x) ≡ left_in b
by_left c p b (answered a) = refl
by_left c p b (needed required) = mark-left (covers c b (prev_id p)) b

marked-left : (z : Opened) (i : Input) (leader : ℕ) → left_in (marked_in z i leader) ≡ left_in z.book
unfolding marked_in
marked-left z i leader = by_left i.settings i.point z.book (before_in i leader)

pub verdict-left : (bytes : List ℕ) (p : PointInfo) (v : Verdict) → left_in (left_by bytes p v) ≡ leaves bytes (Given v)
unfolding left_in
verdict-left bytes p (verdict.Fail u) = refl
verdict-left bytes p (verdict.IllFormed r) = refl
verdict-left bytes p (verdict.Invalid r) = refl
verdict-left bytes p (verdict.TransInvalid d) = refl
verdict-left bytes p verdict.Valid = refl

pub offer-left : (z : Opened) (o : Offer) → left_in (offer z o).after.book ≡ left_in z.book ++ leaves o.bytes (offer z o).answer
offer-left z o =
    offer-cases z o (λ x. left_in x.after.book ≡ left_in z.book ++ leaves o.bytes x.answer)
    (λ n q. sym (append-nil (left_in z.book))) (λ i q n e. sym (append-nil (left_in z.book)))
    (λ i q v e. left-append (marked_in z i o.leader) (left_by o.bytes i.point v) ∙ rw (marked-left z i o.leader, verdict-left o.bytes i.point v))

pub all-left-more : {S : Type 0} (l : List (Moment S)) (m : Moment S) → all_left (l ++ (m ∷ [])) ≡ all_left l ++ leaves m.offer.bytes m.result.answer
unfolding all_left
all-left-more [] m = append-nil (leaves m.offer.bytes m.result.answer)
all-left-more (x ∷ l) m =
    let first : List Left = leaves x.offer.bytes x.result.answer in
    ap (◌++◌ first) (all-left-more l m) ∙ sym (append_assoc first (all_left l) (leaves m.offer.bytes m.result.answer))

-- the same answers over bytes and over values
abbrev pub in_slice : Moment Opened → Moment (List ℕ)
in_slice m = record { before = laid_out m.before; offer = m.offer; result = in_bytes m.result }

pub left_in_slice : (l : List (Moment Opened)) → all_left (map in_slice l) ≡ all_left l
unfolding all_left
left_in_slice [] = refl
left_in_slice (m ∷ l) = ap (◌++◌ (leaves m.offer.bytes m.result.answer)) (left_in_slice l)

-- ---- what the tests of 11 and 12 look at

left-member : (b : Book) (x : Left) → Memᴰ x (left_in b) → (k : Kept) × (Memᴰ k b × (k.bytes ≡ x.bytes))
unfolding left_in
left-member [] x m = absurd (mathlib.Core.List.Memᴰ.not-nil m)
left-member (k ∷ b) x m = go (left-member b x) (mathlib.Core.List.Memᴰ.cases_cons m)
  where
    go : (Memᴰ x (left_in b) → (y : Kept) × (Memᴰ y b × (y.bytes ≡ x.bytes))) → (x ≡ record { bytes = k.bytes; status = k.status }) ⊎ Memᴰ x (left_in b) →
        (y : Kept) × (Memᴰ y (k ∷ b) × (y.bytes ≡ x.bytes))
    go rec (inl e) = (k, (mathlib.Core.List.Memᴰ.head refl, ap (λ (y : Left). y.bytes) (sym e)))
    go rec (inr n) = let r = rec n in (r.0, (mathlib.Core.List.Memᴰ.tail r.1.0, r.1.1))

member-left : (b : Book) (k : Kept) → Memᴰ k b → Memᴰ (record { bytes = k.bytes; status = k.status }) (left_in b)
unfolding left_in
member-left [] k m = absurd (mathlib.Core.List.Memᴰ.not-nil m)
member-left (y ∷ b) k m = go (member-left b k) (mathlib.Core.List.Memᴰ.cases_cons m)
  where
    left : Kept → Left
    left x = record { bytes = x.bytes; status = x.status }

    go : (Memᴰ k b → Memᴰ (left k) (left_in b)) → (k ≡ y) ⊎ Memᴰ k b → Memᴰ (left k) (left y ∷ left_in b)
    go rec (inl e) = mathlib.Core.List.Memᴰ.head (ap left e)
    go rec (inr n) = mathlib.Core.List.Memᴰ.tail (rec n)

-- an id is found exactly if an offer of it was kept
module _ (b : Book) (h : Shape b) (i : PointId) where
  pub was_kept : is_some (find_kept b i) ≡ true → WasKept (left_in b) i
  was_kept e =
      let f = some_of (find_kept b i) e in
      let k : Kept = f.0 in
      let m : Memᴰ k b = find-member b i k f.1 in
      (record { bytes = k.bytes; status = k.status }, (member-left b k m, (k.point, ((h.entries k m).read, find-id b i k f.1))))

  pub is_found : WasKept (left_in b) i → is_some (find_kept b i) ≡ true
  is_found (x, (m, (p, (r, e)))) =
      let y = left-member b x m in
      let k : Kept = y.0 in
      let same : Some k.point ≡ Some p = sym (h.entries k y.1.0).read ∙ (ap read_point y.1.1 ∙ r) in
      let point : k.point ≡ p = cc in
      ap is_some (ap (find_kept b) (sym (ap (λ (q : PointInfo). q.id) point ∙ e)) ∙ once-found b h.once k y.1.0)

left-length : (b : Book) → length (left_in b) ≡ length b
unfolding left_in
left-length [] = refl
left-length (k ∷ b) = ap suc (left-length b)

left-taken : (b : Book) → bytes_taken (left_in b) ≡ used b
unfolding left_in bytes_taken used
left-taken [] = refl
left-taken (k ∷ b) = ap (λ (n : ℕ). length k.bytes + 108 + n) (left-taken b)

-- a book is full exactly if its entries leave no room
module _ (z : Opened) (bytes : List ℕ) where
  abbrev rest : ℕ
  rest = z.length - 47 - used z.book

  pub has_no_room : is_full z bytes ≡ true → HasNoRoom z.length (left_in z.book) bytes
  unfolding is_full
  has_no_room h = go (or_cases (leb 4096 (length z.book)) (ltb rest (length bytes + 108)) h)
    where
      go : (leb 4096 (length z.book) ≡ true) ⊎ (ltb rest (length bytes + 108) ≡ true) → HasNoRoom z.length (left_in z.book) bytes
      go (inl e) = inl (omega (arith, leb-true 4096 (length z.book) e, left-length z.book))
      go (inr e) = inr (omega (arith, ltb-true rest (length bytes + 108) e, left-taken z.book))

  pub is-full : HasNoRoom z.length (left_in z.book) bytes → is_full z bytes ≡ true
  unfolding is_full
  is-full (inl e) = or_first _ _ (le-leb 4096 (length z.book) (omega (arith, e, left-length z.book)))
  is-full (inr e) = or_second (leb 4096 (length z.book)) _ (lt-ltb rest (length bytes + 108) (omega (arith, e, left-taken z.book)))
