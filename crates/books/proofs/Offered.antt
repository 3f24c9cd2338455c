-- One offer: what is so of every offer that is judged, which numbers can come, and that an offer keeps a book's shape and its room.
use Rattle.std.specs.Prelude.{Option, None, Some, is_some}
use Prim.Native.Nat.{ℕ, ◌+◌, ◌-◌, ◌≤◌, ◌<◌}
use native.Mathlib.Omega.{arith}
use mathlib.Core.Path.{◌≡◌, refl, ap, sym, ◌∙◌, subst}
use mathlib.Core.Logic.{inl, inr}
use mathlib.Core.Bool.{Bool, true, false, not, ◌&&◌, and-true}
use mathlib.Core.List.Memᴰ
use mathlib.Core.List.{List, [], ◌∷◌, ◌++◌, append-nil}
use lib.ListN.{length}
use lib.Dec.{leb, ltb, eqb}
use borrow.Author.Tests.{leb-true, le-leb, leb-false, ltb-false}
use Rattle.base.specs.Base.{pick}
use Rattle.base.proofs.Bool.{and_right, or_left, or_right, and_both}
use Rattle.base.proofs.Option.{unfound}
use Rattle.base.proofs.Impossible.{impossible}
use Rattle.parts.specs.Bytes.{Bytes}
use Rattle.point.specs.Point.{PointId, PointInfo, prev_id, in_domain}
use Rattle.point.specs.Reading.{read_point}
use Rattle.schedule.specs.Settings.{Settings, read_settings}
use Rattle.schedule.specs.Schedule.{Schedule, read_schedule}
use Rattle.reasons.specs.IllFormed.{ill_formed_number}
use Rattle.reasons.specs.Invalid.{InvalidReason, NoRoundInDag, DependencyRoundDropped, NotTrigger, TerminalTriggerBeforeLastProof, TimeNotGreaterThanInPrevPoint, AnchorProofDoesntInheritAnchorTime, AnchorTimeNotInheritedFromProof, MustHaveReferencedPrevPoint, MustHaveSkippedRound, DependencyTimeTooFarInFuture, NewerAnchorInDependency, AnchorLink, AnchorLinkRole, AnchorLinkBadPath, BadStickySequence, TriggerProofMismatch, DepIllFormed, DepNotFound, InvalidDependency, invalid_number, dag_round}
use Rattle.reasons.specs.declared.ill_formed.IllFormedReason.{IllFormedReason}
use Rattle.reasons.specs.declared.ill_formed.IllFormedReason.TheVariants.{BeforeGenesis, UnknownAuthor, FalseGenesis, TooLargePayload, Structure, TooManyStickyAnchors, BadLastStickyFlag, LinksAcrossGenesis, MustBeEmpty, UnknownPeers, UnknownPeerInAnchorLink, LackOfPeers, NotRegular, BadWaveLink}
use Rattle.reasons.specs.declared.ill_formed.VerifyError.{VerifyError}
use Rattle.reasons.specs.declared.ill_formed.VerifyError.TheVariants as case-error
use Rattle.reasons.specs.Verdict as verdict
use Rattle.reasons.specs.Verdict.{Verdict}
use Rattle.rules.specs.Verify.{verify}
use Rattle.rules.specs.Judge.{Input, Tested, refused, admitted, tested_with, tested_in, JudgeAnswer, Number, Given, Before, answered, needed, before_with, before}
use Rattle.rules.specs.CheckIllFormed.{wave_checked}
use Rattle.reasons.specs.declared.ill_formed.WaveChecked.{WaveChecked}
use Rattle.reasons.specs.declared.ill_formed.WaveChecked.TheVariants as case-wave
use Rattle.rules.specs.List.{is_listable}
use Rattle.books.specs.Kept.{Status, Valid, TransInvalid, Invalid, IllFormed, Book, find_kept, mark, Opened, with_entries}
use Rattle.books.specs.Lists.{direct_list, indirect_list}
use Rattle.books.specs.Spread.{covers}
use Rattle.books.specs.Offer.{Offer, Result, start_in, used, is_full, tested_room, input_tested, offer_tested, offer_tested_in, marked_by, answer_with, kept_as, left_by, before_in, marked_in, answer_in, numbered, judged_as, offer_with, offer, offer_in}
use Rattle.books.specs.Calls.{IsOfferNumber}
use Rattle.books.specs.FoundBook.{tested_as}
use Rattle.point.proofs.Fits.{read-fits}
use Rattle.books.proofs.Named.{listable}
use Rattle.rules.proofs.Roots.{Recorded}
use Rattle.books.proofs.Roots.{Root, reason-fits, validated}
use Rattle.books.proofs.Bytes.{used-append, mark-used}
use Rattle.books.proofs.Shape.{StatusShape, KeptShape, AllShaped, Shape, mark-length, mark-shape, append-shape, direct-rooted, indirect-rooted, whole}
use Rattle.books.proofs.Find.{marked-found}
use Rattle.books.proofs.Spread.{covers-prev}

-- ---- the tests before judging

-- what an offer gives that is judged
pub record Accepted (z : Opened) (o : Offer) (i : Input) : Type 0 where
  pub input : input_tested z.settings o ≡ admitted i
  pub settings : i.settings ≡ z.settings
  pub schedule : read_schedule o.schedule ≡ Some i.schedule
  pub read : read_point o.bytes ≡ Some i.point
  pub domain : in_domain i.point ≡ true
  pub new : find_kept z.book i.point.id ≡ None
  pub few : length z.book < 4096
  pub room : length o.bytes + 108 ≤ z.length - start_in z - used z.book

with_taken : (c : Settings) (s : Option Schedule) (p : Option PointInfo) (others : Bool) (size : ℕ) (i : Input) → tested_with (Some c) s p others size ≡ admitted i →
    (i.settings ≡ c) × (s ≡ Some i.schedule) × (p ≡ Some i.point) × (in_domain i.point ≡ true)
with_taken c None p others size i h = impossible (cc)
with_taken c (Some s) None others size i h = impossible (cc)
with_taken c (Some s) (Some p) others size i h = go (in_domain p) refl others (ltb size 8160) h
  where
    j : Input
    j = record { settings = c; schedule = s; point = p }

    go : (d : Bool) → in_domain p ≡ d → (t u : Bool) → pick (not (d && t)) (refused 4) (pick u (refused 5) (admitted j)) ≡ admitted i →
        (i.settings ≡ c) × (Some s ≡ Some i.schedule) × (Some p ≡ Some i.point) × (in_domain i.point ≡ true)
    go true e true true k = impossible (cc)
    go true e true false k =
        let f : j ≡ i = cc in
        subst (λ (x : Input). (x.settings ≡ c) × (Some s ≡ Some x.schedule) × (Some p ≡ Some x.point) × (in_domain x.point ≡ true)) f (refl, refl, refl, e)
    go true e false u k = impossible (cc)
    go false e t u k = impossible (cc)

-- what the tests 2 to 5 of an offer say
pub tested-input : (c : Settings) (o : Offer) (i : Input) → input_tested c o ≡ admitted i →
    (i.settings ≡ c) × (read_schedule o.schedule ≡ Some i.schedule) × (read_point o.bytes ≡ Some i.point) × (in_domain i.point ≡ true)
tested-input c o i h = with_taken c (read_schedule o.schedule) (read_point o.bytes) (leb o.leader 1) (length o.peers) i h

room-taken : (z : Opened) (bytes : List ℕ) (t : Tested) (i : Input) → tested_room z bytes t ≡ admitted i →
    (t ≡ admitted i) × (is_some (find_kept z.book i.point.id) ≡ false) × (is_full z bytes ≡ false)
room-taken z bytes (refused n) i h = impossible (cc)
room-taken z bytes (admitted j) i h = go (is_some (find_kept z.book j.point.id)) refl (is_full z bytes) refl h
  where
    go : (x : Bool) → is_some (find_kept z.book j.point.id) ≡ x → (y : Bool) → is_full z bytes ≡ y → pick x (refused 11) (pick y (refused 12) (admitted j)) ≡ admitted i →
        (admitted j ≡ admitted i) × (is_some (find_kept z.book i.point.id) ≡ false) × (is_full z bytes ≡ false)
    go true e y f k = impossible (cc)
    go false e true f k = impossible (cc)
    go false e false f k =
        let g : j ≡ i = cc in (k, subst (λ (x : Input). is_some (find_kept z.book x.point.id) ≡ false) g e, f)

module _ (z : Opened) (o : Offer) where
  pub accepted : (i : Input) → offer_tested z o ≡ admitted i → Accepted z o i
  unfolding offer_tested_in is_full
  accepted i h =
      let r = room-taken z o.bytes (input_tested z.settings o) i h in
      let w = tested-input z.settings o i r.0 in
      record {
        input = r.0;
        settings = w.0;
        schedule = w.1;
        read = w.2;
        domain = w.3;
        new = unfound (find_kept z.book i.point.id) r.1;
        few = leb-false 4096 (length z.book) (or_left (leb 4096 (length z.book)) _ r.2);
        room = ltb-false (z.length - start_in z - used z.book) (length o.bytes + 108) (or_right (leb 4096 (length z.book)) _ r.2);
      }

-- what is so of an offer that is refused, of a number that judging gives and of each verdict, is so of an offer
pub offer-cases : (z : Opened) (o : Offer) (P : Result Opened → Type 0) →
    ((n : ℕ) → offer_tested z o ≡ refused n → P (numbered z o n)) →
    ((i : Input) → offer_tested z o ≡ admitted i → (n : ℕ) → answer_in z i o.leader ≡ Number n → P (numbered z o n)) →
    ((i : Input) → offer_tested z o ≡ admitted i → (v : Verdict) → answer_in z i o.leader ≡ Given v → P (judged_as z o i (Given v))) →
    P (offer z o)
unfolding offer_in offer_with
offer-cases z o P refusal number given = go (offer_tested z o) refl
  where
    judged : (i : Input) → offer_tested z o ≡ admitted i → (a : JudgeAnswer) → answer_in z i o.leader ≡ a → P (judged_as z o i a)
    judged i h (Number n) e = number i h n e
    judged i h (Given v) e = given i h v e

    go : (t : Tested) → offer_tested z o ≡ t → P (offer_with z o t)
    go (refused n) h = refusal n h
    go (admitted i) h = judged i h (answer_in z i o.leader) refl

-- ---- the numbers

-- the tests of a call with the book's settings are the book's
pub same_tests : (z : Opened) (o : Offer) → read_settings z.bytes ≡ Some z.settings → tested_as z.bytes o ≡ input_tested z.settings o
unfolding tested_in
same_tests z o s = rw (s, and-true (leb o.leader 1))

abbrev Refusal : Tested → Type 0
Refusal (refused n) = IsOfferNumber n
Refusal (admitted i) = Unit

with_refusal : (c : Settings) (s : Option Schedule) (p : Option PointInfo) (others : Bool) (size : ℕ) → Refusal (tested_with (Some c) s p others size)
with_refusal c None p others size = inl (omega arith, omega arith)
with_refusal c (Some s) None others size = inl (omega arith, omega arith)
with_refusal c (Some s) (Some p) others size = go (not (in_domain p && others)) (ltb size 8160)
  where
    go : (x y : Bool) → Refusal (pick x (refused 4) (pick y (refused 5) (admitted (record { settings = c; schedule = s; point = p }))))
    go true y = inl (omega arith, omega arith)
    go false true = inl (omega arith, omega arith)
    go false false = tt

room-refusal : (z : Opened) (bytes : List ℕ) (t : Tested) → Refusal t → Refusal (tested_room z bytes t)
room-refusal z bytes (refused n) h = h
room-refusal z bytes (admitted i) h = go (is_some (find_kept z.book i.point.id)) (is_full z bytes)
  where
    go : (x y : Bool) → Refusal (pick x (refused 11) (pick y (refused 12) (admitted i)))
    go true y = inr (omega arith, omega arith)
    go false true = inr (omega arith, omega arith)
    go false false = tt

tested-refusal : (z : Opened) (o : Offer) → Refusal (offer_tested z o)
unfolding offer_tested_in
tested-refusal z o =
    room-refusal z o.bytes (input_tested z.settings o)
    (with_refusal z.settings (read_schedule o.schedule) (read_point o.bytes) (leb o.leader 1) (length o.peers))

-- before any list is built, 6 is the only number
abbrev OnlySix : JudgeAnswer → Type 0
OnlySix (Number n) = n ≡ 6
OnlySix (Given v) = Unit

abbrev BeforeSix : Before → Type 0
BeforeSix (answered a) = OnlySix a
BeforeSix (needed required) = Unit

before_six : (c : Settings) (s : Schedule) (leader : Bool) (p : PointInfo) → BeforeSix (before c s leader p)
unfolding before
before_six c s leader p = go (verify c s p) (eqb p.id.round c.genesis_round) (wave_checked s leader p)
  where
    go : (e : Option VerifyError) (genesis : Bool) (w : WaveChecked) → BeforeSix (before_with e genesis w)
    go (Some e) genesis w = tt
    go None true w = tt
    go None false case-wave.Horizon = refl
    go None false (case-wave.IllFormed r) = tt
    go None false (case-wave.Sound required) = tt

module _ (c : Settings) (bytes : List ℕ) (p : PointInfo) (b : Book) (h : Shape b) (r : read_point bytes ≡ Some p) (d : in_domain p ≡ true) where
  number_with : (x : Before) (n : ℕ) → answer_with c 3 p (marked_by c p b x) x ≡ Number n → x ≡ answered (Number n)
  number_with (answered a) n e = ap answered e
  number_with (needed required) n e =
      let w = whole c required bytes p (mark (covers c b (prev_id p)) b) (mark-shape (covers c b (prev_id p)) b h) (covers-prev c b (prev_id p)) r d in impossible (cc)

pub number_of : (n m : ℕ) → Number m ≡ Number n → m ≡ n
number_of n m e = cc

module _ (z : Opened) (o : Offer) where
  -- over a book of that shape the numbers 7 to 9 never come: a number of judging comes before any list is built
  pub number-before : Shape z.book → (i : Input) → offer_tested z o ≡ admitted i → (n : ℕ) → answer_in z i o.leader ≡ Number n →
      before_in i o.leader ≡ answered (Number n)
  unfolding answer_in marked_in
  number-before h i q n e =
      let a = accepted z o i q in number_with i.settings o.bytes i.point z.book h a.read a.domain (before_in i o.leader) n e

  -- so it is 6
  pub number_six : Shape z.book → (i : Input) → offer_tested z o ≡ admitted i → (n : ℕ) → answer_in z i o.leader ≡ Number n → n ≡ 6
  number_six h i q n e = subst BeforeSix (number-before h i q n e) (unfold before_in in before_six i.settings i.schedule (eqb o.leader 1) i.point)

  -- the numbers 1 and 10 never come either
  pub numbers : Shape z.book → (n : ℕ) → (offer z o).answer ≡ Number n → IsOfferNumber n
  numbers h =
      offer-cases z o (λ x. (n : ℕ) → x.answer ≡ Number n → IsOfferNumber n)
      (λ m q n e. subst IsOfferNumber (number_of n m e) (subst Refusal q (tested-refusal z o)))
      (λ i q m f n e. (let six = number_six h i q m f in let same = number_of n m e in inl (omega arith, omega arith)))
      (λ i q v f n e. impossible (cc))

  -- "with all lent bytes unchanged"
  pub number-unchanged : (n : ℕ) → (offer z o).answer ≡ Number n → ((offer z o).after ≡ z) × ((offer z o).peers ≡ o.peers)
  number-unchanged =
      offer-cases z o (λ x. (n : ℕ) → x.answer ≡ Number n → (x.after ≡ z) × (x.peers ≡ o.peers))
      (λ m q n e. (refl, refl)) (λ i q m f n e. (refl, refl)) (λ i q v f n e. impossible (cc))

  -- an offer changes entries alone
  pub offer-within : (offer z o).after ≡ with_entries z (offer z o).after.book
  offer-within = offer-cases z o (λ x. x.after ≡ with_entries z x.after.book) (λ n q. refl) (λ i q n f. refl) (λ i q v f. refl)

-- ---- the verdict is one that the book may keep of the point

ill-formed-number : (r : IllFormedReason) → (leb 1 (ill_formed_number r) && leb (ill_formed_number r) 16) ≡ true
ill-formed-number BeforeGenesis = refl
ill-formed-number UnknownAuthor = refl
ill-formed-number FalseGenesis = refl
ill-formed-number (TooLargePayload n) = refl
ill-formed-number (Structure i) = refl
ill-formed-number (TooManyStickyAnchors n) = refl
ill-formed-number BadLastStickyFlag = refl
ill-formed-number LinksAcrossGenesis = refl
ill-formed-number (MustBeEmpty m) = refl
ill-formed-number (UnknownPeers n m) = refl
ill-formed-number (UnknownPeerInAnchorLink g) = refl
ill-formed-number (LackOfPeers n f m) = refl
ill-formed-number NotRegular = refl
ill-formed-number (BadWaveLink b) = refl

invalid-number : (r : InvalidReason) → is_some (dag_round (invalid_number r)) ≡ true
unfolding dag_round
invalid-number (NoRoundInDag m) = refl
invalid-number DependencyRoundDropped = refl
invalid-number (NotTrigger i) = refl
invalid-number (TerminalTriggerBeforeLastProof i) = refl
invalid-number (TimeNotGreaterThanInPrevPoint i) = refl
invalid-number (AnchorProofDoesntInheritAnchorTime i) = refl
invalid-number (AnchorTimeNotInheritedFromProof i) = refl
invalid-number (MustHaveReferencedPrevPoint i) = refl
invalid-number (MustHaveSkippedRound i) = refl
invalid-number (DependencyTimeTooFarInFuture i) = refl
invalid-number (NewerAnchorInDependency g i) = refl
invalid-number (AnchorLink g i) = refl
invalid-number (AnchorLinkRole g i) = refl
invalid-number (AnchorLinkBadPath g i) = refl
invalid-number (BadStickySequence i o n) = refl
invalid-number (TriggerProofMismatch i b) = refl
invalid-number (DepIllFormed i n) = refl
invalid-number (DepNotFound i) = refl

-- of what is left as an entry
abbrev pub VerdictShape : PointInfo → Verdict → Type 0
VerdictShape p (verdict.Fail u) = Unit
VerdictShape p (verdict.IllFormed r) = StatusShape p (IllFormed (ill_formed_number r))
VerdictShape p (verdict.Invalid r) = StatusShape p (Invalid (invalid_number r))
VerdictShape p (verdict.TransInvalid d) = StatusShape p (TransInvalid d)
VerdictShape p verdict.Valid = StatusShape p Valid

abbrev pub AnswerShape : PointInfo → JudgeAnswer → Type 0
AnswerShape p (Number n) = Unit
AnswerShape p (Given v) = VerdictShape p v

abbrev pub BeforeShape : PointInfo → Before → Type 0
BeforeShape p (answered a) = AnswerShape p a
BeforeShape p (needed required) = is_listable p ≡ true

module _ (p : PointInfo) where
  ill-formed-shape : in_domain p ≡ true → (r : IllFormedReason) → VerdictShape p (verdict.IllFormed r)
  ill-formed-shape d r =
      let n = ill-formed-number r in
      let most = leb-true (ill_formed_number r) 16 (and_right (leb 1 (ill_formed_number r)) _ n) in
      record { keepable = d; state = n; fits = omega arith }

  module _ (l : is_listable p ≡ true) where
    pub valid-shape : VerdictShape p verdict.Valid
    valid-shape = record { keepable = l; state = l; fits = tt }

    pub invalid-shape : (r : InvalidReason) → VerdictShape p (verdict.Invalid r)
    invalid-shape r =
        let n = invalid-number r in
        record { keepable = l; state = and_both (is_listable p) _ l n; fits = reason-fits (invalid_number r) n }

    pub trans_invalid-shape : (d : InvalidDependency) → Recorded Root d → VerdictShape p (verdict.TransInvalid d)
    trans_invalid-shape d h =
        let r = h.root in
        record {
          keepable = l;
          state = rw (l, le-leb 4 d.to.round r.least, le-leb d.to.round 2147483647 r.greatest, r.reason);
          fits = record { to = r.id; reason = reason-fits d.reason r.reason; through = h.through };
        }

  pub before-shape : (c : Settings) (s : Schedule) (leader : Bool) → in_domain p ≡ true → BeforeShape p (before c s leader p)
  unfolding before
  before-shape c s leader d = go (verify c s p) refl (eqb p.id.round c.genesis_round) (wave_checked s leader p)
    where
      go : (e : Option VerifyError) → verify c s p ≡ e → (genesis : Bool) (w : WaveChecked) → BeforeShape p (before_with e genesis w)
      go (Some (case-error.Fail u)) v genesis w = tt
      go (Some (case-error.IllFormed r)) v genesis w = ill-formed-shape d r
      go None v true w = valid-shape (listable c s p v d)
      go None v false case-wave.Horizon = tt
      go None v false (case-wave.IllFormed r) = ill-formed-shape d r
      go None v false (case-wave.Sound required) = listable c s p v d

-- what is left of it is of that shape
module _ (bytes : List ℕ) (p : PointInfo) (by : Bytes bytes) (r : read_point bytes ≡ Some p) (d : in_domain p ≡ true) where
  one_shaped : (s : Status) → StatusShape p s → AllShaped (kept_as bytes p s ∷ [])
  one_shaped s h k m = subst KeptShape (sym (Memᴰ.eq_of_singleton m)) (record { bytes = by; read = r; domain = d; status = h })

  pub left-shaped : (v : Verdict) → VerdictShape p v → AllShaped (left_by bytes p v)
  left-shaped (verdict.Fail u) h = λ k m. absurd (Memᴰ.not-nil m)
  left-shaped (verdict.IllFormed r) h = one_shaped (IllFormed (ill_formed_number r)) h
  left-shaped (verdict.Invalid r) h = one_shaped (Invalid (invalid_number r)) h
  left-shaped (verdict.TransInvalid e) h = one_shaped (TransInvalid e) h
  left-shaped verdict.Valid h = one_shaped Valid h

-- ---- an offer keeps the shape

module _ (bytes : List ℕ) (p : PointInfo) (b : Book) (h : Shape b) (by : Bytes bytes) (r : read_point bytes ≡ Some p) (d : in_domain p ≡ true) where
  answer-shape : (c : Settings) (x : Before) → BeforeShape p x → AnswerShape p (answer_with c 3 p (marked_by c p b x) x)
  answer-shape c (answered a) s = s
  answer-shape c (needed required) l =
      let marked : Book = mark (covers c b (prev_id p)) b in
      let s : Shape marked = mark-shape (covers c b (prev_id p)) b h in
      rw (whole c required bytes p marked s (covers-prev c b (prev_id p)) r d)
      (validated (VerdictShape p) (invalid-shape p l) (trans_invalid-shape p l) (valid-shape p l)
      c required p (direct_list marked p) (indirect_list marked p) (read-fits bytes p by r) (direct-rooted marked p s) (indirect-rooted marked p s) 3)

  module _ (new : find_kept b p.id ≡ None) (few : length b < 4096) where
    left-entry : (x : Status) → StatusShape p x → Shape (b ++ (kept_as bytes p x ∷ []))
    left-entry x s = append-shape b (kept_as bytes p x) h (record { bytes = by; read = r; domain = d; status = s }) new few

    left-shape : (v : Verdict) → VerdictShape p v → Shape (b ++ left_by bytes p v)
    left-shape (verdict.Fail u) s = rw (append-nil b) h
    left-shape (verdict.IllFormed x) s = left-entry (IllFormed (ill_formed_number x)) s
    left-shape (verdict.Invalid x) s = left-entry (Invalid (invalid_number x)) s
    left-shape (verdict.TransInvalid x) s = left-entry (TransInvalid x) s
    left-shape verdict.Valid s = left-entry Valid s

-- marks change neither the ids nor how many entries there are
module _ (c : Settings) (p : PointInfo) (b : Book) where
  marked-shape : (x : Before) → Shape b → Shape (marked_by c p b x)
  marked-shape (answered a) h = h
  marked-shape (needed required) h = mark-shape (covers c b (prev_id p)) b h

  marked-new : (x : Before) (i : PointId) → find_kept b i ≡ None → find_kept (marked_by c p b x) i ≡ None
  marked-new (answered a) i h = h
  marked-new (needed required) i h = unfound (find_kept (mark (covers c b (prev_id p)) b) i) (marked-found (covers c b (prev_id p)) b i ∙ ap is_some h)

  marked-length : (x : Before) → length (marked_by c p b x) ≡ length b
  marked-length (answered a) = refl
  marked-length (needed required) = mark-length (covers c b (prev_id p)) b

  pub marked-used : (x : Before) → used (marked_by c p b x) ≡ used b
  marked-used (answered a) = refl
  marked-used (needed required) = mark-used (covers c b (prev_id p)) b

left-used : (bytes : List ℕ) (p : PointInfo) (v : Verdict) → used (left_by bytes p v) ≤ length bytes + 108
unfolding used
left-used bytes p (verdict.Fail u) = omega arith
left-used bytes p (verdict.IllFormed r) = omega arith
left-used bytes p (verdict.Invalid r) = omega arith
left-used bytes p (verdict.TransInvalid d) = omega arith
left-used bytes p verdict.Valid = omega arith

module _ (z : Opened) (o : Offer) where
  given-shape : Bytes o.bytes → Shape z.book → (i : Input) → offer_tested z o ≡ admitted i → (v : Verdict) → answer_in z i o.leader ≡ Given v →
      Shape (judged_as z o i (Given v)).after.book
  unfolding answer_in marked_in before_in
  given-shape by h i q v e =
      let a = accepted z o i q in
      let p : PointInfo = i.point in
      let x : Before = before i.settings i.schedule (eqb o.leader 1) p in
      left-shape o.bytes p (marked_by i.settings p z.book x) (marked-shape i.settings p z.book x h) by a.read a.domain
      (marked-new i.settings p z.book x p.id a.new) (rw (marked-length i.settings p z.book x) a.few) v
      (subst (AnswerShape p) e
      (answer-shape o.bytes p z.book h by a.read a.domain i.settings x (before-shape p i.settings i.schedule (eqb o.leader 1) a.domain)))

  pub offer-shape : Bytes o.bytes → Shape z.book → Shape (offer z o).after.book
  offer-shape by h = offer-cases z o (λ x. Shape x.after.book) (λ n q. h) (λ i q n e. h) (given-shape by h)

  -- the entries fit the slice after the settings
  given-room : (i : Input) → offer_tested z o ≡ admitted i → (v : Verdict) → start_in z + used z.book ≤ z.length →
      start_in z + used (judged_as z o i (Given v)).after.book ≤ z.length
  unfolding marked_in
  given-room i q v h =
      let x : Before = before_in i o.leader in
      omega (
        arith,
        (accepted z o i q).room,
        used-append (marked_by i.settings i.point z.book x) (left_by o.bytes i.point v),
        marked-used i.settings i.point z.book x,
        left-used o.bytes i.point v,
      )

  pub offer-room : start_in z + used z.book ≤ z.length → start_in z + used (offer z o).after.book ≤ z.length
  offer-room h = offer-cases z o (λ x. start_in z + used x.after.book ≤ z.length) (λ n q. h) (λ i q n e. h) (λ i q v e. given-room i q v h)
