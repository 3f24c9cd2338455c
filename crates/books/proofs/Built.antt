-- A book after whose every list of offers the statement is so is built of judged points and has the shape of a book: by `judged` each offer
-- that got a verdict was judged over the entries and marks that stood there, and by `kept` it left that verdict.
use Rattle.std.specs.Prelude.{Option, None, Some}
use Prim.Native.Nat.{ℕ, ◌≤◌}
use mathlib.Core.Path.{◌≡◌, refl, ap, sym, ◌∙◌, subst}
use mathlib.Core.Logic.{◌⊎◌, inl, inr}
use mathlib.Core.Bool.{Bool, true, false}
use mathlib.Core.List.Memᴰ
use mathlib.Core.List.{List, [], ◌∷◌, ◌++◌, append-nil, map, Memᴰ}
use lib.ListN.{length}
use Rattle.base.proofs.Option.{some-injective}
use Rattle.base.proofs.Impossible.{impossible}
use Rattle.parts.specs.Bytes.{Bytes}
use Rattle.point.specs.Point.{PointId, PointInfo, in_domain}
use Rattle.point.specs.Reading.{read_point}
use Rattle.schedule.specs.Settings.{Settings, read_settings}
use Rattle.reasons.specs.Verdict.{Verdict}
use Rattle.rules.specs.Judge.{Input, JudgeAnswer, Number, Given, Before, answered, needed}
use Rattle.point.proofs.Fits.{read-fits}
use Rattle.books.specs.Kept.{Status, Kept, Book, find_kept, is_twice, mark, Opened}
use Rattle.books.specs.Lists.{direct_list, indirect_list}
use Rattle.books.specs.Offer.{Offer, Result, answer_with, left_by, before_in}
use Rattle.books.specs.Run.{Run, moment_of, run, AreBytes}
use Rattle.books.specs.Calls.{offer_bytes}
use Rattle.books.specs.FoundBook.{Left, leaves, all_left, left_in, NextOffer, FoundBook}
use Rattle.books.specs.AnyMarks.{remark, Built, empty, remarks, judges}
use Rattle.books.proofs.Roots.{validated}
use Rattle.books.proofs.Clear.{over-cases}
use Rattle.books.proofs.Find.{once-found, or_covers, mark-remark, remark-member}
use Rattle.books.proofs.Shape.{KeptShape, AllShaped, Shape, empty-shape, mark-shape, direct-rooted, indirect-rooted}
use Rattle.books.proofs.Offered.{VerdictShape, AnswerShape, BeforeShape, valid-shape, invalid-shape, trans_invalid-shape, before-shape, left-shaped, tested-input}
use Rattle.books.proofs.Marks.{is_certified}
use Rattle.books.proofs.LeftEntries.{left-append, mark-left, verdict-left, all-left-more}
use Rattle.books.proofs.Judged.{JudgedOver, offer-over}
use Rattle.books.proofs.Read.{read-as}
use Rattle.books.proofs.Run.{more, run_more, by-offers}
use Rattle.books.proofs.OffersTold.{unread-offer}

-- ---- entries that answers tell of alike differ in their marks alone

-- an entry's point is the one that its record says
abbrev Says : Kept → Type 0
Says k = read_point k.bytes ≡ Some k.point

abbrev AllSay : Book → Type 0
AllSay b = (k : Kept) → Memᴰ k b → Says k

as_kept : {a b : List ℕ} {p q : PointInfo} {s t : Status} {x y : Bool} → a ≡ b → p ≡ q → s ≡ t → x ≡ y →
    ◌≡◌ {A = Kept} (record { bytes = a; point = p; status = s; certified = x }) (record { bytes = b; point = q; status = t; certified = y })
as_kept e f g h = rw (e, f, g, h) refl

module _ (test : PointId → Bool) where
  abbrev by_test : Kept → Bool
  by_test k = test k.point.id

  told_alike : (x y : Kept) → Says x → Says y → test y.point.id ≡ y.certified →
      ◌≡◌ {A = Left} (record { bytes = y.bytes; status = y.status }) (record { bytes = x.bytes; status = x.status }) → y ≡ remark by_test x
  told_alike x y s t e h =
      let bytes : y.bytes ≡ x.bytes = ap (λ (l : Left). l.bytes) h in
      let point : y.point ≡ x.point = some-injective y.point x.point (sym t ∙ (ap read_point bytes ∙ s)) in
      let status : y.status ≡ x.status = ap (λ (l : Left). l.status) h in
      let certified : y.certified ≡ test x.point.id = sym e ∙ ap (λ (p : PointInfo). test p.id) point in
      as_kept bytes point status certified

  all_alike : (a b : Book) → AllSay a → AllSay b → ((k : Kept) → Memᴰ k b → test k.point.id ≡ k.certified) → left_in b ≡ left_in a →
      b ≡ map (remark by_test) a
  unfolding left_in
  all_alike [] [] s t e h = refl
  all_alike [] (y ∷ b) s t e h = impossible (cc)
  all_alike (x ∷ a) [] s t e h = impossible (cc)
  all_alike (x ∷ a) (y ∷ b) s t e h =
      let first = told_alike x y (s x (Memᴰ.head refl)) (t y (Memᴰ.head refl)) (e y (Memᴰ.head refl)) (cc) in
      let rest = all_alike a b (λ k m. s k (Memᴰ.tail m)) (λ k m. t k (Memᴰ.tail m)) (λ k m. e k (Memᴰ.tail m)) (cc) in
      cc

-- ---- what judging over a book of that shape leaves has it too

module _ (bytes : List ℕ) (p : PointInfo) (by : Bytes bytes) (read : read_point bytes ≡ Some p) (d : in_domain p ≡ true) where
  verdict-shape : (c : Settings) (b : Book) → Shape b → (x : Before) → BeforeShape p x → (v : Verdict) → answer_with c 3 p b x ≡ Given v →
      VerdictShape p v
  verdict-shape c b h (answered a) s v e = subst (AnswerShape p) e s
  verdict-shape c b h (needed required) l v e =
      subst (AnswerShape p) e
      (over-cases c required 3 p (direct_list b p) (indirect_list b p) (AnswerShape p) (λ n. tt)
      (validated (VerdictShape p) (invalid-shape p l) (trans_invalid-shape p l) (valid-shape p l)
      c required p (direct_list b p) (indirect_list b p) (read-fits bytes p by read) (direct-rooted b p h) (indirect-rooted b p h) 3))

both_shaped : (a b : Book) → AllShaped a → AllShaped b → AllShaped (a ++ b)
both_shaped a b s t k m = go (Memᴰ.append_cases a m)
  where
    go : Memᴰ k a ⊎ Memᴰ k b → KeptShape k
    go (inl n) = s k n
    go (inr n) = t k n

remarked_shaped : (marks : Kept → Bool) (b : Book) → AllShaped b → AllShaped (map (remark marks) b)
remarked_shaped marks b h k m =
    let x = remark-member marks b k m in
    let s = h x.0 x.1.0 in
    subst KeptShape (sym x.1.1) (record { bytes = s.bytes; read = s.read; domain = s.domain; status = s.status })

-- ---- a book built of judged points that has the entries that answers tell of

record BuiltAs (c : Settings) (l : List Left) : Type 0 where
  pub book : Book
  pub built : Built c book
  pub left : left_in book ≡ l
  pub shaped : AllShaped book

-- what is so of a book after each list of offers
pub record Grown (c : Settings) (b : Book) : Type 0 where
  pub built : Built c b
  pub shape : Shape b

grown-as : (c : Settings) (b : Book) → is_twice b ≡ false → length b ≤ 4096 → AllSay b → BuiltAs c (left_in b) → Grown c b
grown-as c b once few s x =
    let test : PointId → Bool = λ i. is_certified (find_kept b i) in
    let same : b ≡ map (remark (by_test test)) x.book =
    all_alike test x.book b (λ k m. (x.shaped k m).read) s (λ k m. ap is_certified (once-found b once k m)) (sym x.left) in
    record {
      built = subst (Built c) (sym same) (remarks x.book x.built (by_test test));
      shape = record { entries = subst AllShaped (sym same) (remarked_shaped (by_test test) x.book x.shaped); once = once; few = few };
    }

-- ---- one offer more

module _ (settings : List ℕ) (c : Settings) (len : ℕ) (found : Run (List ℕ)) (plain : Run Opened) (h : FoundBook settings c len found plain)
    (r : read_settings settings ≡ Some c) (grown : Grown c plain.last.book) (o : Offer) (w : Bytes o.bytes) where
  abbrev b : Book
  b = plain.last.book

  abbrev x : Result (List ℕ)
  x = offer_bytes found.last o

  next : NextOffer found plain o x
  next = h.next o w

  -- a number leaves the book
  numbered-as : (n : ℕ) → BuiltAs c (left_in b ++ leaves o.bytes (Number n))
  numbered-as n = record { book = b; built = grown.built; left = sym (append-nil (left_in b)); shaped = grown.shape.entries }

  -- a verdict is that of judging over the book's entries, with the marks of that moment
  judged-as : (v : Verdict) (p : PointInfo) → read_point o.bytes ≡ Some p → (test : PointId → Bool) → JudgedOver c b o test v p →
      BuiltAs c (left_in b ++ leaves o.bytes (Given v))
  unfolding before_in
  judged-as v p read test j =
      let i : Input = j.input in
      let marked : Book = mark test b in
      let same : Built c marked = subst (Built c) (sym (mark-remark test b)) (remarks b grown.built (or_covers test)) in
      let shape : Shape marked = mark-shape test b grown.shape in
      let a : answer_with c 3 i.point marked (before_in i o.leader) ≡ Given v =
      subst (λ (q : PointInfo). answer_with c 3 q marked (before_in i o.leader) ≡ Given v) (sym j.point) j.answer in
      let t = tested-input c o i j.tested in
      let s =
      verdict-shape o.bytes i.point w t.2 t.3 c marked shape (before_in i o.leader) (before-shape i.point i.settings i.schedule _ t.3) v a in
      record {
        book = marked ++ left_by o.bytes i.point v;
        built = judges marked same o i j.tested v a;
        left = left-append marked (left_by o.bytes i.point v) ∙ rw (mark-left test b, verdict-left o.bytes i.point v);
        shaped = both_shaped marked (left_by o.bytes i.point v) shape.entries (left-shaped o.bytes i.point w t.2 t.3 v s);
      }

  given-as : (v : Verdict) → x.answer ≡ Given v → BuiltAs c (left_in b ++ leaves o.bytes (Given v))
  given-as v e = go (read_point o.bytes) refl
    where
      go : (p : Option PointInfo) → read_point o.bytes ≡ p → BuiltAs c (left_in b ++ leaves o.bytes (Given v))
      go None q = let u = unread-offer plain.last.bytes o q in let n = next.tests u.0 u.1 in impossible (cc)
      go (Some p) q =
          judged-as v p q next.judged.0.0 (offer-over found plain o x next w c (ap read_settings h.stays.0 ∙ r) grown.shape h.marks v p q e)

  answered-as : (a : JudgeAnswer) → x.answer ≡ a → BuiltAs c (left_in b ++ leaves o.bytes a)
  answered-as (Number n) e = numbered-as n
  answered-as (Given v) e = given-as v e

  -- so the book after the offer, of which the statement is so as well, is built of judged points
  grown-more : (after : Run Opened) → FoundBook settings c len (more offer_bytes found o) after → Grown c after.last.book
  grown-more after g =
      let a = read-as (more offer_bytes found o).last after.last g.reads in
      let left : left_in after.last.book ≡ left_in b ++ leaves o.bytes x.answer =
      g.kept ∙ (all-left-more found.moments (moment_of offer_bytes found.last o) ∙ ap (λ (l : List Left). l ++ leaves o.bytes x.answer) (sym h.kept)) in
      grown-as c after.last.book a.once a.few g.says (subst (BuiltAs c) (sym left) (answered-as x.answer refl))

-- ---- every list of offers

bytes-more : (l : List Offer) (o : Offer) → Bytes o.bytes → AreBytes l → AreBytes (l ++ (o ∷ []))
bytes-more [] o w h = (w, tt)
bytes-more (x ∷ l) o w h = (h.0, bytes-more l o w h.1)

-- where the statement is so after every list of offers to a slice
module _ (settings : List ℕ) (c : Settings) (len : ℕ) (slice : List ℕ) (plain : List Offer → Run Opened) (r : read_settings settings ≡ Some c)
    (every : (l : List Offer) → AreBytes l → FoundBook settings c len (run offer_bytes slice l) (plain l)) where
  abbrev GrownAfter : List Offer → Type 0
  GrownAfter l = AreBytes l × Grown c (plain l).last.book

  grown-none : GrownAfter []
  unfolding left_in all_left run
  grown-none = (tt, go (plain []).last.book (every [] tt).kept)
    where
      go : (b : Book) → left_in b ≡ [] → Grown c b
      go [] e = record { built = empty; shape = empty-shape }
      go (k ∷ b) e = impossible (cc)

  grown-one : (l : List Offer) (o : Offer) → Bytes o.bytes → GrownAfter l → GrownAfter (l ++ (o ∷ []))
  grown-one l o w (all, h) =
      let more_all = bytes-more l o w all in (
        more_all,
        grown-more settings c len (run offer_bytes slice l) (plain l) (every l all) r h o w (plain (l ++ (o ∷ [])))
            (subst (λ (x : Run (List ℕ)). FoundBook settings c len x (plain (l ++ (o ∷ [])))) (run_more offer_bytes slice l o) (every (l ++ (o ∷ [])) more_all)),
      )

  pub every-grown : (l : List Offer) → AreBytes l → Grown c (plain l).last.book
  every-grown l w = (by-offers GrownAfter grown-one grown-none l w).1
