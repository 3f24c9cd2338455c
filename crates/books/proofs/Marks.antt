-- The marks of a book after one more offer: those that it had, and those that the rule for marks makes.
use Rattle.std.specs.Prelude.{Option, None, Some, option_map, is_some}
use Prim.Native.Nat.{ℕ}
use mathlib.Core.Path.{◌≡◌, refl, sym, ap, ◌∙◌, subst}
use mathlib.Core.Logic.{◌⊎◌, inl, inr, ◌↔◌}
use mathlib.Core.Bool.{Bool, true, false, ◌&&◌, ◌||◌, or-false}
use mathlib.Core.List.Memᴰ
use mathlib.Core.List.{List, [], ◌∷◌, ◌++◌, Memᴰ}
use Rattle.base.specs.Base.{pick}
use Rattle.base.proofs.Bool.{and_left, and_right, and_both, or_first, or_second, or_cases}
use Rattle.base.proofs.Option.{some_of}
use Rattle.base.proofs.Impossible.{impossible}
use Rattle.point.specs.Point.{PointId, PointInfo, prev_id, same_id}
use Rattle.schedule.specs.Settings.{Settings, read_settings}
use Rattle.reasons.specs.Verdict as verdict
use Rattle.reasons.specs.Verdict.{Verdict}
use Rattle.rules.specs.Judge.{Input, Tested, refused, admitted, Given, Before, answered, needed}
use Rattle.books.specs.Kept.{Kept, Book, find_kept, mark_one, mark, Opened}
use Rattle.books.specs.Spread.{covers}
use Rattle.books.specs.Offer.{Offer, offer_tested, marked_by, left_by, before_in, marked_in, offer}
use Rattle.books.specs.Run.{Moment, Run, moment_of}
use Rattle.books.specs.FoundBook.{Marks, EverMarked, Tells, with_next}
use Rattle.books.proofs.Find.{find-id, find-member, find-after, find-front, once-found, find-marked}
use Rattle.books.proofs.Shape.{Shape}
use Rattle.books.proofs.Spread.{both_ways, covers-leads, leads-covers}
use Rattle.books.proofs.Offered.{accepted, same_tests, offer-cases, number-before}

-- an id's entry is marked
abbrev pub is_certified : Option Kept → Bool
is_certified None = false
is_certified (Some k) = k.certified

-- the mark of what an id finds, once it is covered or not
abbrev certified_with : Option Kept → Bool → Bool
certified_with o covered = is_certified o || (is_some o && covered)

uncovered : (o : Option Kept) → is_certified o ≡ certified_with o false
uncovered None = refl
uncovered (Some k) = sym (or-false k.certified)

mark-certified : (test : PointId → Bool) (b : Book) (i : PointId) → is_certified (find_kept (mark test b) i) ≡ certified_with (find_kept b i) (test i)
unfolding mark_one
mark-certified test b i = ap is_certified (find-marked test b i) ∙ go (find_kept b i) refl
  where
    go : (o : Option Kept) → find_kept b i ≡ o → is_certified (option_map (mark_one test) o) ≡ certified_with o (test i)
    go None e = refl
    go (Some k) e = ap (λ (j : PointId). k.certified || test j) (find-id b i k e)

-- whether an offer covers an id: by what is known before any list is built, and by what is tested of it
abbrev pub covers_with : Settings → PointInfo → Book → Before → PointId → Bool
covers_with c p b (answered a) i = false
covers_with c p b (needed required) i = covers c b (prev_id p) i

abbrev pub covers_by : Book → ℕ → Tested → PointId → Bool
covers_by b leader (refused n) i = false
covers_by b leader (admitted x) i = covers_with x.settings x.point b (before_in x leader) i

by-certified : (c : Settings) (p : PointInfo) (b : Book) (x : Before) (i : PointId) →
    is_certified (find_kept (marked_by c p b x) i) ≡ certified_with (find_kept b i) (covers_with c p b x i)
by-certified c p b (answered a) i = uncovered (find_kept b i)
by-certified c p b (needed required) i = mark-certified (covers c b (prev_id p)) b i

-- in the book that the lists are built of
marked-certified : (z : Opened) (x : Input) (leader : ℕ) (i : PointId) →
    is_certified (find_kept (marked_in z x leader) i) ≡ certified_with (find_kept z.book i) (covers_by z.book leader (admitted x) i)
unfolding marked_in
marked-certified z x leader i = by-certified x.settings x.point z.book (before_in x leader) i

-- ---- an entry that an offer leaves is not certified, and stands after the others

one_uncertified : (k : Kept) (i : PointId) → k.certified ≡ false → is_certified (find_kept (k ∷ []) i) ≡ false
unfolding find_kept
one_uncertified k i e = go (same_id k.point.id i)
  where
    go : (t : Bool) → is_certified (pick t (Some k) None) ≡ false
    go true = e
    go false = refl

left_uncertified : (bytes : List ℕ) (p : PointInfo) (v : Verdict) (i : PointId) → is_certified (find_kept (left_by bytes p v) i) ≡ false
unfolding find_kept
left_uncertified bytes p (verdict.Fail u) i = refl
left_uncertified bytes p (verdict.IllFormed r) i = one_uncertified _ i refl
left_uncertified bytes p (verdict.Invalid r) i = one_uncertified _ i refl
left_uncertified bytes p (verdict.TransInvalid d) i = one_uncertified _ i refl
left_uncertified bytes p verdict.Valid i = one_uncertified _ i refl

certified-before : (b l : Book) (i : PointId) → is_certified (find_kept l i) ≡ false → is_certified (find_kept (b ++ l) i) ≡ is_certified (find_kept b i)
certified-before b l i h = go (find_kept b i) refl
  where
    go : (o : Option Kept) → find_kept b i ≡ o → is_certified (find_kept (b ++ l) i) ≡ is_certified o
    go None e = ap is_certified (find-after b l i e) ∙ h
    go (Some k) e = ap is_certified (find-front b l i k e)

-- ---- the book after an offer

offer-certified : (z : Opened) (o : Offer) → Shape z.book → (i : PointId) →
    is_certified (find_kept (offer z o).after.book i) ≡ certified_with (find_kept z.book i) (covers_by z.book o.leader (offer_tested z o) i)
offer-certified z o h i =
    offer-cases z o (λ x. is_certified (find_kept x.after.book i) ≡ certified_with (find_kept z.book i) (covers_by z.book o.leader (offer_tested z o) i))
    (λ n q. rw q (uncovered (find_kept z.book i)))
    (λ x q n e. rw (q, number-before z o h x q n e) (uncovered (find_kept z.book i)))
    (λ x q v e. rw q (certified-before (marked_in z x o.leader) (left_by o.bytes x.point v) i (left_uncertified o.bytes x.point v i) ∙ marked-certified z x o.leader i))

-- ---- what an offer covers of the entries is what the rule for marks says of it

module _ (z : Opened) (o : Offer) (s : read_settings z.bytes ≡ Some z.settings) (h : Shape z.book) (i : PointId) where
  -- an offer whose list is needed gets a verdict
  gets_verdict : (x : Input) → offer_tested z o ≡ admitted x → (required : Bool) → before_in x o.leader ≡ needed required → (v : Verdict) × ((offer z o).answer ≡ Given v)
  gets_verdict x q required n =
      offer-cases z o (λ r. (v : Verdict) × (r.answer ≡ Given v)) (λ m t. impossible (cc))
      (λ y t m e. (let f : y ≡ x = cc in let b = number-before z o h y t m e in let g : before_in x o.leader ≡ before_in y o.leader = ap (λ (w : Input). before_in w o.leader) (sym f) in impossible (cc)))
      (λ y t v e. (v, refl))

  needed-marks : (k : Kept) → find_kept z.book i ≡ Some k → (x : Input) → offer_tested z o ≡ admitted x → (required : Bool) → before_in x o.leader ≡ needed required →
      (t : PointId) → prev_id x.point ≡ Some t → covers x.settings z.book (Some t) i ≡ true → Marks (moment_of offer z o) i
  unfolding before_in
  needed-marks k f x q required n t p e =
      let l = covers-leads x.settings z.book h i t e in
      record {
        input = x;
        taken = same_tests z o s ∙ (accepted z o x q).input;
        list = (required, n);
        given = gets_verdict x q required n;
        kept = (k, (find-member z.book i k f, find-id z.book i k f));
        prev = t;
        previous = p;
        depth = l.1;
        chain = l.0;
      }

  covers-marks : is_some (find_kept z.book i) ≡ true → covers_by z.book o.leader (offer_tested z o) i ≡ true → Marks (moment_of offer z o) i
  covers-marks f e = let k = some_of (find_kept z.book i) f in tests k.0 k.1 (offer_tested z o) refl e
    where
      previous : (k : Kept) → find_kept z.book i ≡ Some k → (x : Input) → offer_tested z o ≡ admitted x → (required : Bool) → before_in x o.leader ≡ needed required →
          (t : Option PointId) → prev_id x.point ≡ t → covers x.settings z.book t i ≡ true → Marks (moment_of offer z o) i
      previous k f x q required n None p e = let u : false ≡ true = unfold covers in e in impossible (cc)
      previous k f x q required n (Some t) p e = needed-marks k f x q required n t p e

      listed : (k : Kept) → find_kept z.book i ≡ Some k → (x : Input) → offer_tested z o ≡ admitted x → (b : Before) → before_in x o.leader ≡ b →
          covers_with x.settings x.point z.book b i ≡ true → Marks (moment_of offer z o) i
      listed k f x q (answered a) n e = impossible (cc)
      listed k f x q (needed required) n e = previous k f x q required n (prev_id x.point) refl e

      tests : (k : Kept) → find_kept z.book i ≡ Some k → (t : Tested) → offer_tested z o ≡ t → covers_by z.book o.leader t i ≡ true → Marks (moment_of offer z o) i
      tests k f (refused n) q e = impossible (cc)
      tests k f (admitted x) q e = listed k f x q (before_in x o.leader) refl e

  module _ (m : Marks (moment_of offer z o) i) where
    marks-tested : offer_tested z o ≡ admitted m.input
    marks-tested =
        offer-cases z o (λ r. r.answer ≡ Given m.given.0 → offer_tested z o ≡ admitted m.input) (λ n q e. impossible (cc)) (λ x q n e f. impossible (cc))
        (λ x q v e f. q ∙ (sym (accepted z o x q).input ∙ (sym (same_tests z o s) ∙ m.taken))) m.given.1

    marks-found : is_some (find_kept z.book i) ≡ true
    marks-found = ap (λ (j : PointId). is_some (find_kept z.book j)) (sym m.kept.1.1) ∙ ap is_some (once-found z.book h.once m.kept.0 m.kept.1.0)

    marks-covers : covers_by z.book o.leader (offer_tested z o) i ≡ true
    unfolding before_in
    marks-covers = rw (marks-tested, m.list.1, m.previous) (leads-covers m.input.settings z.book h i m.prev m.chain m.depth)

  -- the entry of an id is marked by then or by this offer
  marked_or : (l : List (Moment Opened)) → (is_certified (find_kept z.book i) ≡ true) ↔ EverMarked l i →
      (certified_with (find_kept z.book i) (covers_by z.book o.leader (offer_tested z o) i) ≡ true) ↔ EverMarked (l ++ (moment_of offer z o ∷ [])) i
  marked_or l w = (λ e. there (or_cases (is_certified (find_kept z.book i)) _ e), back)
    where
      is_covered : Bool
      is_covered = covers_by z.book o.leader (offer_tested z o) i

      there : (is_certified (find_kept z.book i) ≡ true) ⊎ ((is_some (find_kept z.book i) && is_covered) ≡ true) → EverMarked (l ++ (moment_of offer z o ∷ [])) i
      there (inl e) = let x = w.0 e in (x.0, (Memᴰ.append_left (moment_of offer z o ∷ []) x.1.0, x.1.1))
      there (inr e) =
          (moment_of offer z o, (Memᴰ.append_right l (Memᴰ.head refl), covers-marks (and_left (is_some (find_kept z.book i)) _ e) (and_right (is_some (find_kept z.book i)) _ e)))

      either : (m : Moment Opened) → Marks m i → Memᴰ m l ⊎ Memᴰ m (moment_of offer z o ∷ []) → certified_with (find_kept z.book i) is_covered ≡ true
      either m x (inl n) = or_first (is_certified (find_kept z.book i)) _ (w.1 (m, (n, x)))
      either m x (inr n) =
          let y : Marks (moment_of offer z o) i = subst (λ (v : Moment Opened). Marks v i) (Memᴰ.eq_of_singleton n) x in
          or_second (is_certified (find_kept z.book i)) _ (and_both (is_some (find_kept z.book i)) _ (marks-found y) (marks-covers y))

      back : EverMarked (l ++ (moment_of offer z o ∷ [])) i → certified_with (find_kept z.book i) is_covered ≡ true
      back (m, (n, x)) = either m x (Memᴰ.append_cases l n)

  pub offer-marked : (l : List (Moment Opened)) → (is_certified (find_kept z.book i) ≡ true) ↔ EverMarked l i →
      (is_certified (find_kept (offer z o).after.book i) ≡ true) ↔ EverMarked (l ++ (moment_of offer z o ∷ [])) i
  offer-marked l w = rw (offer-certified z o h i) (marked_or l w)

-- ---- of an offer that is made next

module _ (plain : Run Opened) (o : Offer) (s : read_settings plain.last.bytes ≡ Some plain.last.settings) (h : Shape plain.last.book)
    (marks : (i : PointId) → (is_certified (find_kept plain.last.book i) ≡ true) ↔ EverMarked plain.moments i) where
  abbrev book : Book
  book = plain.last.book

  abbrev is_covered : PointId → Bool
  is_covered i = covers_by book o.leader (offer_tested plain.last o) i

  -- of an entry: its own mark, or that the offer covers it
  pub next-ever : (i : PointId) (k : Kept) → find_kept book i ≡ Some k → ((k.certified || is_covered i) ≡ true) ↔ EverMarked (with_next plain o) i
  next-ever i k f =
      subst (λ (x : Option Kept). (certified_with x (is_covered i) ≡ true) ↔ EverMarked (with_next plain o) i) f (marked_or plain.last o s h i plain.moments (marks i))

  pub next-told : (marked : PointId → Bool) × Tells marked book (with_next plain o)
  next-told = (λ i. certified_with (find_kept book i) (is_covered i), λ k m. marked_or plain.last o s h k.point.id plain.moments (marks k.point.id))

  -- so a test that tells the marks says of each entry what that one says
  pub next-same : (marked : PointId → Bool) → Tells marked book (with_next plain o) → (k : Kept) → Memᴰ k book → marked k.point.id ≡ (k.certified || is_covered k.point.id)
  next-same marked tells k m =
      let e = next-ever k.point.id k (once-found book h.once k m) in
      both_ways _ _ (λ t. e.1 ((tells k m).0 t)) (λ t. (tells k m).1 (e.0 t))
