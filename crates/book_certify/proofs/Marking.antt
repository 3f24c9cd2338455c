-- The marks that are written into a book's bytes, one after the other.
use Rattle.std.specs.Prelude.{Some, None}
use Prim.Native.Nat.{ℕ, zero, suc, ◌+◌, ◌-◌, ◌≤◌, ◌<◌}
use native.Mathlib.Numerals.{add-one}
use native.Mathlib.Omega.{arith}
use mathlib.Core.Path.{◌≡◌, refl, ap, sym, ◌∙◌, subst}
use mathlib.Core.Bool.{Bool, true, false}
use mathlib.Core.List.{List, [], ◌∷◌, ◌++◌, append-nil}
use lib.ListN.{length, get_or, set, take, drop, drop_of_length-le}
use lib.Seq.{take_all, drop-nil}
use Rattle.base.specs.Base.{pick}
use Rattle.base.proofs.Bool.{never, clash}
use Rattle.base.proofs.Impossible.{impossible}
use Rattle.parts.specs.Bytes.{Bytes}
use Rattle.point.specs.Point.{PointId}
use Rattle.schedule.specs.Settings.{Settings}
use Rattle.id_index.specs.declared.Index.{Index}
use Rattle.id_index.specs.Code.{count_of, FoundAt}
use Rattle.books.specs.Kept.{Kept, Book, mark_one, mark}
use Rattle.books.specs.Spread.{covers}
use Rattle.books.specs.Offer.{used}
use Rattle.books.specs.Layout.{book_bytes}
use Rattle.books.proofs.Bytes.{mark-used, unmarked, unmarked-all, entry-marked}
use Rattle.books.proofs.Canonical.{BookOf, book-again}
use Rattle.books.proofs.RoundTrip.{settings-length}
use Rattle.book_read.specs.Code.{IsRead}
use Rattle.book_read.proofs.Laws.{absent-kept}
use Rattle.book_certify.specs.declared.Walk.{Walk}
use Rattle.book_certify.specs.Code.{entries_of, book_in, end_in, is_covered, ReachedTold, MarkedBy, Walked, Certified}
use Rattle.book_certify.proofs.Entries.{stands, entry_at, entry-id, entry-end}
use Rattle.book_certify.proofs.Depths.{not_kept}

-- the first j entries have their marks
abbrev pub marked : (PointId → Bool) → ℕ → Book → Book
marked test j b = mark test (take j b) ++ drop j b

module _ (test : PointId → Bool) where
  marked-none : (b : Book) → marked test 0 b ≡ b
  unfolding mark
  marked-none b = refl

  marked_all : (j : ℕ) (b : Book) → length b ≤ j → marked test j b ≡ mark test b
  marked_all j b h = rw (take_all j b h, drop_of_length-le b h) (append-nil (mark test b))

  marked_next : (b : Book) (j : ℕ) (k : Kept) (rest : Book) → drop j b ≡ k ∷ rest → marked test (suc j) b ≡ mark test (take j b) ++ (mark_one test k ∷ rest)
  unfolding mark
  marked_next [] j k rest e = impossible (cc (drop-nil {A = Kept} j))
  marked_next (y ∷ b) zero k rest e =
      let f : y ≡ k = cc in
      let g : b ≡ rest = cc in
      rw (f, g)
  marked_next (y ∷ b) (suc j) k rest e = ap (λ (l : Book). mark_one test y ∷ l) (marked_next b j k rest e)

-- the bytes of a book of which the first j entries have their marks
abbrev pub Marking : List ℕ → (PointId → Bool) → ℕ → List ℕ → Type 0
Marking s test j u = u ≡ book_bytes (take 47 s) (length s) (marked test j (book_in s))

module _ {c : Settings} {s : List ℕ} {end : ℕ} {x : Index} (r : IsRead s c end x) (w : Bytes s) (test : PointId → Bool) where
  again : BookOf s r.opened
  again = book-again s r.opened w r.read

  opened-book : book_in s ≡ r.opened.book
  opened-book = ap entries_of r.read

  laid_out : s ≡ book_bytes (take 47 s) (length s) (book_in s)
  laid_out = rw opened-book (subst (λ (l : List ℕ). s ≡ book_bytes l (length s) r.opened.book) again.front again.bytes)

  pub marking_start : Marking s test 0 s
  marking_start = laid_out ∙ ap (book_bytes (take 47 s) (length s)) (sym (marked-none test (book_in s)))

  settings_fit : length (take 47 s) ≡ 47
  settings_fit = subst (λ (l : List ℕ). length l ≡ 47) again.front (settings-length _ _ again.reads)

  module _ (j : ℕ) (u : List ℕ) (k : Kept) (rest : Book) (e : drop j (book_in s) ≡ k ∷ rest) (m : Marking s test j u) where
    abbrev front : Book
    front = mark test (take j (book_in s))

    before : u ≡ book_bytes (take 47 s) (length s) (front ++ k ∷ rest)
    before = m ∙ ap (λ (l : Book). book_bytes (take 47 s) (length s) (front ++ l)) e

    after : book_bytes (take 47 s) (length s) (front ++ mark_one test k ∷ rest) ≡ book_bytes (take 47 s) (length s) (marked test (suc j) (book_in s))
    after = ap (book_bytes (take 47 s) (length s)) (sym (marked_next test (book_in s) j k rest e))

    marking_one : (v : List ℕ) (b : Bool) → test k.point.id ≡ b → v ≡ pick b (set u (end_in x end j - 104) 1) u → Marking s test (suc j) v
    marking_one v true f g =
        let h = stands w r in
        let at : end_in x end j - 104 ≡ 47 + used front + length k.bytes + 3 + 1 =
        omega (arith, entry-end h j k rest e, h.holds.placed.starts j k rest e, mark-used test (take j (book_in s))) in
        g ∙ (ap (λ (l : List ℕ). set l (end_in x end j - 104) 1) before ∙ (entry-marked test k f (take 47 s) (length s) settings_fit front rest (end_in x end j - 104) at ∙ after))
    marking_one v false f g =
        g ∙ (before ∙ (ap (λ (y : Kept). book_bytes (take 47 s) (length s) (front ++ y ∷ rest)) (sym (unmarked test k f)) ∙ after))

  pub marking_step : (j : ℕ) (u v : List ℕ) (y : Walk) → j < count_of x → ReachedTold s x y test → Marking s test j u →
      v ≡ pick (get_or y.reached j false) (set u (end_in x end j - 104) 1) u → Marking s test (j + 1) v
  marking_step j u v y lt told m f =
      let h = stands w r in
      let a = entry_at h j lt in
      rw (add-one j) (marking_one j u a.0 a.1 a.2 m v (get_or y.reached j false) (sym (ap test (entry-id h j a.0 a.1 a.2)) ∙ told j lt) f)

  pub marking_end : (j : ℕ) (v : List ℕ) → count_of x ≤ j → Marking s test j v → MarkedBy s test v
  marking_end j v h m z g =
      let same : book_in s ≡ z.book = ap entries_of g in
      let front : z.bytes ≡ take 47 s = (book-again s z w g).front in
      let all = m ∙ ap (book_bytes (take 47 s) (length s)) (marked_all test j (book_in s) (omega (arith, (stands w r).holds.placed.count))) in
      rw front (subst (λ (l : Book). v ≡ book_bytes (take 47 s) (length s) (mark test l)) same all)

-- ---- what the certificate covers

module _ (c : Settings) (s : List ℕ) (t : PointId) where
  abbrev pub covered : PointId → Bool
  covered = covers c (book_in s) (Some t)

  pub marked_certified : (x : Index) {v : List ℕ} → MarkedBy s covered v → Certified c s x t v
  marked_certified x {v} m z g = subst (λ (l : Book). v ≡ book_bytes z.bytes (length s) (mark (covers c l (Some t)) z.book)) (ap entries_of g) (m z g)

module _ (c : Settings) {s : List ℕ} {x : Index} (t : PointId) where
  pub walked_told : {y : Walk} → Walked c s x t y → ReachedTold s x y (covered c s t)
  walked_told {y} walked j lt = by (get_or y.reached j false) refl
    where
      by : (b : Bool) → get_or y.reached j false ≡ b → is_covered c s x t j ≡ b
      by true e = walked.sound j lt e
      by false e = never (is_covered c s x t j) (λ q. clash (get_or y.reached j false) (walked.all j lt q) e)

  -- the previous point is not kept
  pub not_found : {end : ℕ} → IsRead s c end x → Bytes s → FoundAt s x t None → Certified c s x t s
  not_found r w f =
      let h = stands w r in
      let all = length (book_in s) in
      let none = unmarked-all (covered c s t) (book_in s) (not_kept c (book_in s) h.shape t (absent-kept h.holds t f)) in
      let m : Marking s (covered c s t) all s =
      laid_out r w (covered c s t) ∙ ap (book_bytes (take 47 s) (length s)) (sym (marked_all (covered c s t) all (book_in s) (omega arith) ∙ none)) in
      marked_certified c s t x (marking_end r w (covered c s t) all s (omega (arith, h.holds.placed.count)) m)
