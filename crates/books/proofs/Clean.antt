-- A point is Valid only if each bad one that it depends on is marked at that moment, and TransInvalid only by one that is not: of any
-- answer of which the sentence `judged` is so, by what `judge` gives over a list.
use Rattle.std.specs.Prelude.{Option, None, Some}
use Prim.Native.Nat.{ℕ, ◌≤◌, ◌<◌}
use native.Mathlib.Omega.{arith}
use mathlib.Core.Path.{◌≡◌, refl, sym, ◌∙◌, subst}
use mathlib.Core.Logic.{◌↔◌}
use mathlib.Core.Bool.{Bool, true, false, ◌||◌}
use mathlib.Core.List.{List, Memᴰ}
use lib.Dec.{T, eqb}
use borrow.Author.Tests.{ne_eqb}
use Rattle.base.proofs.Bool.{clash}
use Rattle.base.proofs.Impossible.{impossible}
use Rattle.parts.specs.Bytes.{Bytes}
use Rattle.map.specs.Rows.{rising, peers}
use Rattle.point.specs.Point.{PointId, Through, PointInfo, in_domain}
use Rattle.point.specs.Reading.{read_point}
use Rattle.point.proofs.Laws.{readable}
use Rattle.schedule.specs.Settings.{Settings, read_settings}
use Rattle.schedule.specs.Schedule.{Schedule}
use Rattle.reasons.specs.Invalid.{InvalidDependency}
use Rattle.reasons.specs.Verdict as verdict
use Rattle.reasons.specs.Verdict.{Verdict}
use Rattle.reasons.specs.declared.ill_formed.VerifyError.{VerifyError}
use Rattle.reasons.specs.declared.ill_formed.VerifyError.TheVariants as case-error
use Rattle.reasons.specs.declared.ill_formed.WaveChecked.{WaveChecked}
use Rattle.reasons.specs.declared.ill_formed.WaveChecked.TheVariants as case-wave
use Rattle.rules.specs.Validate.{validate}
use Rattle.rules.specs.Verify.{verify}
use Rattle.rules.specs.CheckIllFormed.{wave_checked}
use Rattle.rules.specs.Judge.{Given, Before, needed, before_with, before}
use Rattle.rules.proofs.Records.{valid-entries, trans_entry}
use Rattle.books.specs.Kept.{Kept, Book, find_kept, mark, Opened}
use Rattle.books.specs.Lists.{direct_list, indirect_list}
use Rattle.books.specs.Offer.{Offer, Result, answer_with, before_in}
use Rattle.books.specs.Run.{Run}
use Rattle.books.specs.FoundBook.{EverMarked, Tells, with_next, NextOffer, is_bad, DependsOn, Caught}
use Rattle.books.proofs.Find.{find-id, find-member, once-found}
use Rattle.books.proofs.Shape.{domain-least, Shape}
use Rattle.books.proofs.Clear.{over-cases}
use Rattle.books.proofs.Offered.{tested-input}
use Rattle.books.proofs.Judged.{JudgedOver, told_whole, offer-over}
use Rattle.books.proofs.DependsOn.{record_at, depends-none, cause, bad-certified, recorded-by, kept_record, recorded-kept}

-- ---- verdicts that come of the lists

-- TransInvalid and Invalid do, and Valid above genesis
abbrev IsOfLists : Bool → Verdict → Type 0
IsOfLists genesis (verdict.Fail u) = ⊥
IsOfLists genesis (verdict.IllFormed r) = ⊥
IsOfLists genesis (verdict.Invalid r) = Unit
IsOfLists genesis (verdict.TransInvalid d) = Unit
IsOfLists genesis verdict.Valid = genesis ≡ false

module _ (c : Settings) (p : PointInfo) (b : Book) (v : Verdict) where
  abbrev GivenBy : Before → Type 0
  GivenBy x = answer_with c 3 p b x ≡ Given v

  from-lists : (e : Option VerifyError) (g : Bool) (w : WaveChecked) → IsOfLists g v → GivenBy (before_with e g w) →
      (required : Bool) × (before_with e g w ≡ needed required)
  from-lists (Some (case-error.Fail u)) g w l h = let f : v ≡ verdict.Fail u = cc in absurd (subst (IsOfLists g) f l)
  from-lists (Some (case-error.IllFormed r)) g w l h = let f : v ≡ verdict.IllFormed r = cc in absurd (subst (IsOfLists g) f l)
  from-lists None true w l h =
      let f : v ≡ verdict.Valid = cc in
      let n : true ≡ false = subst (IsOfLists true) f l in
      impossible (cc)
  from-lists None false case-wave.Horizon l h = impossible (cc)
  from-lists None false (case-wave.IllFormed r) l h = let f : v ≡ verdict.IllFormed r = cc in absurd (subst (IsOfLists false) f l)
  from-lists None false (case-wave.Sound required) l h = (required, refl)

  over-given : (required : Bool) → GivenBy (needed required) → validate c required 3 p (direct_list b p) (indirect_list b p) ≡ v
  over-given required =
      let result : Verdict = validate c required 3 p (direct_list b p) (indirect_list b p) in
      over-cases c required 3 p (direct_list b p) (indirect_list b p) (λ a. a ≡ Given v → result ≡ v) (λ n h. impossible (cc)) (λ h. cc)

  -- the verdict is that over the lists
  pub record OfLists : Type 0 where
    pub required : Bool
    pub result : validate c required 3 p (direct_list b p) (indirect_list b p) ≡ v
    pub rise : rising (peers p.includes) ≡ true
    pub second : 2 ≤ p.id.round

  of-lists : (bytes : List ℕ) → read_point bytes ≡ Some p → in_domain p ≡ true → (s : Schedule) (leader : Bool) →
      IsOfLists (eqb p.id.round c.genesis_round) v →
      GivenBy (before c s leader p) → OfLists
  unfolding before
  of-lists bytes read d s leader l h =
      let n = from-lists (verify c s p) (eqb p.id.round c.genesis_round) (wave_checked s leader p) l h in
      let least = domain-least p d in
      record {
        required = n.0;
        result = over-given n.0 (subst GivenBy n.1 h);
        rise = (readable bytes p read).includes.rise;
        second = omega arith;
      }

-- of an input of that point
of-input : (c : Settings) (b : Book) (o : Offer) (marked : PointId → Bool) (v : Verdict) (p : PointInfo) → read_point o.bytes ≡ Some p →
    IsOfLists (eqb p.id.round c.genesis_round) v → JudgedOver c b o marked v p → OfLists c p (mark marked b) v
unfolding before_in
of-input c b o marked v p read l h =
    let a = tested-input c o h.input h.tested in
    of-lists c p (mark marked b) v o.bytes read (rw h.point at a.3) h.input.schedule _ l (rw (a.0, h.point) at h.answer)

-- ---- the two sentences, of any answer that `judged` speaks of

module _ (found : Run (List ℕ)) (plain : Run Opened) (o : Offer) (x : Result (List ℕ)) (h : NextOffer found plain o x) (w : Bytes o.bytes)
    (c : Settings) (set : read_settings plain.last.bytes ≡ Some c) (shape : Shape plain.last.book)
    (marks : (k : Kept) → Memᴰ k plain.last.book → (k.certified ≡ true) ↔ EverMarked plain.moments k.point.id) where
  abbrev book : Book
  book = plain.last.book

  abbrev marked : PointId → Bool
  marked = h.judged.0.0

  tells : Tells marked book (with_next plain o)
  tells = h.judged.0.1

  whole : (k : Kept) → Memᴰ k book → marked k.point.id ≡ (k.certified || marked k.point.id)
  whole = told_whole found plain o x h w c set shape marks

  over : (v : Verdict) (p : PointInfo) → read_point o.bytes ≡ Some p → x.answer ≡ Given v →
      IsOfLists (eqb p.id.round c.genesis_round) v → OfLists c p (mark marked book) v
  over v p read given l = of-input c book o marked v p read l (offer-over found plain o x h w c set shape marks v p read given)

  pub clean-judged : (p : PointInfo) → read_point o.bytes ≡ Some p → x.answer ≡ Given verdict.Valid → c.genesis_round < p.id.round →
      (k : Kept) → Memᴰ k book → (t : Through) → DependsOn p k.point.id t → T (is_bad c p.id.round k.status) →
      EverMarked (with_next plain o) k.point.id
  clean-judged p read given above k m t depends bad =
      let i : PointId = k.point.id in
      let n = over verdict.Valid p read given (ne_eqb p.id.round c.genesis_round (λ e. omega arith)) in
      let e = valid-entries c n.required 3 p (direct_list (mark marked book) p) (indirect_list (mark marked book) p) n.result in
      let r = depends-none c (mark marked book) p n.rise n.second e.0 e.1 i t depends in
      (tells k m).0
      (whole k m
      ∙ bad-certified c p.id.round _ t k.point k.status bad (sym (kept_record c book marked p i t k (once-found book shape.once k m)) ∙ r))

  -- by one that is kept and records a root cause
  caught-by : (p : PointInfo) (i : PointId) (t : Through) → DependsOn p i t → (d : InvalidDependency) → record_at c (mark marked book) p i t ≡ Some d →
      (k : Kept) → find_kept book i ≡ Some k → Caught c book (with_next plain o) p d
  caught-by p i t depends d r k f =
      let named : k.point.id ≡ i = find-id book i k f in
      let m : Memᴰ k book = find-member book i k f in
      let y = recorded-by c p.id.round (k.certified || marked i) t k d (sym (kept_record c book marked p i t k f) ∙ r) in
      record {
        entry = k;
        kept = m;
        depends = subst (λ (j : PointId). DependsOn p j d.through) (sym named) (subst (DependsOn p i) (sym y.through) depends);
        bad = y.bad;
        unmarked = λ e.
            clash (k.certified || marked i)
            (subst (λ (j : PointId). (k.certified || marked j) ≡ true) named (sym (whole k m) ∙ (tells k m).1 e)) y.unmarked;
        root = y.root;
      }

  pub caught-judged : (p : PointInfo) → read_point o.bytes ≡ Some p → (d : InvalidDependency) → x.answer ≡ Given (verdict.TransInvalid d) →
      Caught c book (with_next plain o) p d
  caught-judged p read d given =
      let n = over (verdict.TransInvalid d) p read given tt in
      let e = trans_entry c n.required 3 p (direct_list (mark marked book) p) (indirect_list (mark marked book) p) d n.result in
      let r = cause c (mark marked book) p n.rise n.second d e in
      let k = recorded-kept c book marked p r.0 r.1 d r.3 in
      caught-by p r.0 r.1 r.2 d r.3 k.0 k.1
