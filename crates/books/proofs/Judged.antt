-- An offer past 11 and 12 gets what the public call `judge` gives, presence 3, over the list that the book's entries and marks give.
use Rattle.std.specs.Prelude.{Option, None, Some, is_some}
use Prim.Native.Nat.{ℕ}
use mathlib.Core.Path.{◌≡◌, refl, ap, sym, ◌∙◌}
use mathlib.Core.Logic.{◌↔◌}
use mathlib.Core.Bool.{Bool, true, false, ◌||◌}
use mathlib.Core.List.Memᴰ
use mathlib.Core.List.{List, [], Memᴰ}
use lib.Dec.{eqb}
use Rattle.base.specs.Base.{pick}
use Rattle.base.proofs.Option.{some-injective}
use Rattle.base.proofs.Impossible.{impossible}
use Rattle.parts.specs.Bytes.{put_at, Bytes}
use Rattle.point.specs.Point.{PointId, PointInfo, prev_id}
use Rattle.point.specs.Reading.{read_point}
use Rattle.schedule.specs.Settings.{Settings, read_settings}
use Rattle.reasons.specs.declared.ill_formed.VerifyError.{VerifyError}
use Rattle.reasons.specs.declared.ill_formed.WaveChecked.{WaveChecked}
use Rattle.reasons.specs.Verdict.{Verdict}
use Rattle.map.specs.Written.{peer_bytes}
use Rattle.rules.specs.Verify.{verify}
use Rattle.rules.specs.List.{read_list}
use Rattle.rules.specs.Judge.{Input, Tested, refused, admitted, verify_buffer, Number, Given, Before, answered, needed, before_with, before, over_list, judge_from, judge_with, judge_with_in}
use Rattle.books.specs.Kept.{Kept, Book, find_kept, mark, Opened}
use Rattle.books.specs.Lists.{direct_list, indirect_list}
use Rattle.books.specs.Spread.{covers}
use Rattle.books.specs.Offer.{Offer, Result, tested_room, is_full, input_tested, offer_tested, offer_tested_in, marked_by, answer_over, answer_with, before_in, marked_in, answer_in, numbered, judged_as, offer}
use Rattle.books.specs.Run.{Run}
use Rattle.books.specs.ListFor.{list_for}
use Rattle.books.specs.FoundBook.{EverMarked, Tells, with_next, tested_as, NextOffer}
use Rattle.books.proofs.Clear.{no_state_out}
use Rattle.books.proofs.Shape.{Shape, mark-shape}
use Rattle.books.proofs.ListFor.{list_read}
use Rattle.books.proofs.ListBytes.{list-bytes}
use Rattle.books.proofs.Offered.{tested-input, accepted, offer-cases, same_tests, number-before}
use Rattle.books.proofs.Marks.{is_certified, covers_with, covers_by, next-same}
use Rattle.books.proofs.Invariant.{Sound}

-- ---- the answer

module _ (c : Settings) (bytes : List ℕ) (p : PointInfo) (b : Book) (marked : PointId → Bool) (h : Shape b) (by : Bytes bytes) (r : read_point bytes ≡ Some p) where
  -- with a test that says of each entry whether it is certified once those that are covered are marked
  over-list : (covers : PointId → Bool) → ((k : Kept) → Memᴰ k b → marked k.point.id ≡ (k.certified || covers k.point.id)) → (required : Bool) →
      answer_over c required 3 p (direct_list (mark covers b) p) (indirect_list (mark covers b) p) ≡ over_list c required 3 p (read_list (list_for b marked p))
  unfolding answer_over
  over-list covers same required =
      let b' : Book = mark covers b in
      let s = mark-shape covers b h in
      let l = list_read b covers marked p h same bytes by r in
      rw (no_state_out b' p (λ k m. (s.entries k m).status.state), l.1, l.2, l.3)

  -- where the list is needed, over that list; else the list is not read
  over-before : (x : Before) → ((k : Kept) → Memᴰ k b → marked k.point.id ≡ (k.certified || covers_with c p b x k.point.id)) →
      answer_with c 3 p (marked_by c p b x) x ≡ judge_from c 3 p (list_for b marked p) x
  over-before (answered a) same = refl
  over-before (needed required) same = over-list (covers c b (prev_id p)) same required

  -- with a test that is true of each entry that is certified
  over-marked : ((k : Kept) → Memᴰ k b → marked k.point.id ≡ (k.certified || marked k.point.id)) → (x : Before) →
      answer_with c 3 p (mark marked b) x ≡ judge_from c 3 p (list_for b marked p) x
  over-marked same (answered a) = refl
  over-marked same (needed required) = over-list marked same required

-- ---- the tests

room-refused : (z : Opened) (bytes : List ℕ) (t : Tested) (n : ℕ) → tested_room z bytes t ≡ refused n → (n ≡ 11 → ⊥) → (n ≡ 12 → ⊥) → t ≡ refused n
room-refused z bytes (refused m) n h again full = h
room-refused z bytes (admitted i) n h again full = go (is_some (find_kept z.book i.point.id)) (is_full z bytes) h
  where
    go : (x y : Bool) → pick x (refused 11) (pick y (refused 12) (admitted i)) ≡ refused n → admitted i ≡ refused n
    go true y e = absurd (again (cc))
    go false true e = absurd (full (cc))
    go false false e = e

-- ---- the peer buffer

-- a number comes only of a point that passed verification
passed : (v : Option VerifyError) (g : Bool) (w : WaveChecked) (n : ℕ) → before_with v g w ≡ answered (Number n) → v ≡ None
passed None g w n h = refl
passed (Some e) g w n h = impossible (cc)

-- then no peer is unknown
pub unwritten : (i : Input) (leader n : ℕ) (buffer : List ℕ) → before_in i leader ≡ answered (Number n) → verify_buffer (admitted i) buffer ≡ buffer
unfolding before_in before put_at peer_bytes
unwritten i leader n buffer h = rw (passed (verify i.settings i.schedule i.point) _ _ n h)

-- ---- the sentence

module _ (z : Opened) (o : Offer) (marked : PointId → Bool) (h : Shape z.book) (by : Bytes o.bytes)
    (same : (k : Kept) → Memᴰ k z.book → marked k.point.id ≡ (k.certified || covers_by z.book o.leader (offer_tested z o) k.point.id)) where
  answer-judged : (i : Input) → offer_tested z o ≡ admitted i → answer_in z i o.leader ≡ judge_with o.leader 3 (list_for z.book marked i.point) (admitted i)
  unfolding answer_in marked_in before_in judge_with_in
  answer-judged i q =
      over-before i.settings o.bytes i.point z.book marked h by (accepted z o i q).read (before_in i o.leader)
      (λ k m. same k m ∙ ap (λ (x : Tested). k.certified || covers_by z.book o.leader x k.point.id) q)

  -- what is said of an offer of a point p, where t is what the call's own tests say
  abbrev Judges : PointInfo → Tested → Result Opened → Type 0
  Judges p t x = (x.answer ≡ Number 11 → ⊥) → (x.answer ≡ Number 12 → ⊥) →
      (x.answer ≡ judge_with o.leader 3 (list_for z.book marked p) t) × (x.peers ≡ verify_buffer t o.peers)

  offer-judged : (p : PointInfo) → read_point o.bytes ≡ Some p → Judges p (input_tested z.settings o) (offer z o)
  offer-judged p r = offer-cases z o (Judges p (input_tested z.settings o)) refusal number given
    where
      refusal : (n : ℕ) → offer_tested z o ≡ refused n → Judges p (input_tested z.settings o) (numbered z o n)
      refusal n q again full =
          unfold offer_tested_in judge_with_in in
          rw (room-refused z o.bytes (input_tested z.settings o) n q (λ e. again (ap Number e)) (λ e. full (ap Number e))) (refl, refl)

      -- the answer to an offer that is judged
      judges : (i : Input) → offer_tested z o ≡ admitted i → answer_in z i o.leader ≡ judge_with o.leader 3 (list_for z.book marked p) (admitted i)
      judges i q =
          let read = (accepted z o i q).read in
          let e : i.point ≡ p = cc in
          answer-judged i q ∙ ap (λ (x : PointInfo). judge_with o.leader 3 (list_for z.book marked x) (admitted i)) e

      number : (i : Input) → offer_tested z o ≡ admitted i → (n : ℕ) → answer_in z i o.leader ≡ Number n → Judges p (input_tested z.settings o) (numbered z o n)
      number i q n e again full =
          rw (accepted z o i q).input (sym e ∙ judges i q, sym (unwritten i o.leader n o.peers (number-before z o h i q n e)))

      given : (i : Input) → offer_tested z o ≡ admitted i → (v : Verdict) → answer_in z i o.leader ≡ Given v → Judges p (input_tested z.settings o) (judged_as z o i (Given v))
      given i q v e again full = rw (accepted z o i q).input (sym e ∙ judges i q, refl)

-- "demand 2's verdict, reason and unknown peers"
pub next-judged : (plain : Run Opened) (o : Offer) → Bytes o.bytes → Sound plain.last →
    ((i : PointId) → (is_certified (find_kept plain.last.book i) ≡ true) ↔ EverMarked plain.moments i) →
    (p : PointInfo) → read_point o.bytes ≡ Some p → ((offer plain.last o).answer ≡ Number 11 → ⊥) → ((offer plain.last o).answer ≡ Number 12 → ⊥) →
    (marked : PointId → Bool) → Tells marked plain.last.book (with_next plain o) →
    Bytes (list_for plain.last.book marked p)
    × (((offer plain.last o).answer ≡ judge_with o.leader 3 (list_for plain.last.book marked p) (tested_as plain.last.bytes o))
    × ((offer plain.last o).peers ≡ verify_buffer (tested_as plain.last.bytes o) o.peers))
next-judged plain o by h marks p r again full marked tells = (
  list-bytes plain.last.book marked p h.shape,
  rw (same_tests plain.last o h.settings)
      (offer-judged plain.last o marked h.shape by (next-same plain o h.settings h.shape marks marked tells) p r again full),
)

-- a test that is true wherever another one is
also_true : (a b : Bool) → (a ≡ true → b ≡ true) → b ≡ (a || b)
also_true true b h = h refl
also_true false b h = refl

-- ---- what the sentence says of an offer, whatever it is that answers

-- a verdict of judging over the entries of a book, once what a test covers is marked
pub record JudgedOver (c : Settings) (b : Book) (o : Offer) (marked : PointId → Bool) (v : Verdict) (p : PointInfo) : Type 0 where
  pub input : Input
  pub tested : input_tested c o ≡ admitted input
  pub point : input.point ≡ p
  pub answer : answer_with c 3 p (mark marked b) (before_in input o.leader) ≡ Given v

module _ (c : Settings) (b : Book) (o : Offer) (w : Bytes o.bytes) (shape : Shape b) (marked : PointId → Bool)
    (whole : (k : Kept) → Memᴰ k b → marked k.point.id ≡ (k.certified || marked k.point.id))
    (v : Verdict) (p : PointInfo) (read : read_point o.bytes ≡ Some p) where
  with_input : (d : Settings) (q : PointInfo) (x : Before) → d ≡ c → q ≡ p → judge_from d 3 q (list_for b marked p) x ≡ Given v →
      judge_from c 3 p (list_for b marked p) x ≡ Given v
  with_input d q x set same h = rw (set, same) at h

  judged-input : (i : Input) → i.settings ≡ c → i.point ≡ p → judge_with o.leader 3 (list_for b marked p) (admitted i) ≡ Given v →
      answer_with c 3 p (mark marked b) (before_in i o.leader) ≡ Given v
  unfolding judge_with_in before_in
  judged-input i set same h =
      let x : Before = before i.settings i.schedule (eqb o.leader 1) i.point in
      over-marked c o.bytes p b marked shape w read whole x ∙ with_input i.settings i.point x set same h

  judged-tested : (t : Tested) → input_tested c o ≡ t → judge_with o.leader 3 (list_for b marked p) t ≡ Given v → JudgedOver c b o marked v p
  unfolding judge_with_in
  judged-tested (refused n) e h = impossible (cc)
  judged-tested (admitted i) e h =
      let a = tested-input c o i e in
      let same : i.point ≡ p = some-injective i.point p (sym a.2 ∙ read) in
      record { input = i; tested = e; point = same; answer = judged-input i a.0 same h }

module _ (found : Run (List ℕ)) (plain : Run Opened) (o : Offer) (x : Result (List ℕ)) (h : NextOffer found plain o x) (w : Bytes o.bytes)
    (c : Settings) (set : read_settings plain.last.bytes ≡ Some c) (shape : Shape plain.last.book)
    (marks : (k : Kept) → Memᴰ k plain.last.book → (k.certified ≡ true) ↔ EverMarked plain.moments k.point.id) where
  -- the test that tells the marks is true of each entry that is certified
  pub told_whole : (k : Kept) → Memᴰ k plain.last.book → h.judged.0.0 k.point.id ≡ (k.certified || h.judged.0.0 k.point.id)
  told_whole k m =
      also_true k.certified (h.judged.0.0 k.point.id) (λ e. (let y = (marks k m).0 e in (h.judged.0.1 k m).1 (y.0, (Memᴰ.append_left _ y.1.0, y.1.1))))

  pub offer-over : (v : Verdict) (p : PointInfo) → read_point o.bytes ≡ Some p → x.answer ≡ Given v → JudgedOver c plain.last.book o h.judged.0.0 v p
  offer-over v p read given =
      let j = h.judged.1 p read (λ n. impossible (cc)) (λ n. impossible (cc)) h.judged.0.0 h.judged.0.1 in
      judged-tested c plain.last.book o w shape h.judged.0.0 told_whole v p read (tested_as plain.last.bytes o)
      (sym (same_tests (record { bytes = plain.last.bytes; settings = c; length = plain.last.length; book = [] }) o set)) (sym j.1.0 ∙ given)
