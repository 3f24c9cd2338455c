-- Laws of schedules: what the code's spans stand for, the span of a round, and the peers of a schedule that is readable.
use Rattle.std.specs.Prelude.{option_map, unwrap_or, Option, None, Some, MatchOption}
use Prim.Native.Nat.{ℕ, zero, suc, ◌+◌, ◌-◌, ◌*◌, ◌/◌, ◌≤◌, ◌<◌}
use native.Mathlib.Nat.{add-zero, zero-add}
use native.Mathlib.Omega.{arith}
use native.Mathlib.Numerals.{add-one}
use mathlib.Core.Path.{◌≡◌, refl, ap, sym, ◌∙◌}
use mathlib.Core.List.{List, [], ◌∷◌, ◌++◌}
use mathlib.Core.Bool.{Bool, true, false, not, ◌&&◌, and-eq-true_iff}
use lib.ListN.{length, get_or, take, drop, set, replicate, length-take, length-drop, length-set, take-append-drop}
use lib.Seq.{get_or-take, take-suc-set, drop_at, drop-drop, drop-set-lt, append_snoc}
use lib.Dec.{leb, ltb}
use borrow.Author.Tests.{ltb-true, ltb-false, lt-ltb, le-ltb, le-leb, lt-leb}
use Rattle.base.specs.Base.{pick, is_empty, and_then}
use Rattle.base.proofs.Option.{IfSome, pick-has, then_has, map-has, has, picked, unpicked, some-injective}
use Rattle.base.proofs.Bool.{last-false}
use Rattle.std.specs.List.{IsAllAdjacentAnswer}
use Rattle.parts.specs.Bytes.{bytes_at, little_at}
use Rattle.parts.proofs.Laws.{at_split, at_length}
use Rattle.map.specs.Rows.{peers_of, rising, well_rowed}
use Rattle.map.proofs.Laws.{well_rowed-rising, well_rowed-whole}
use Rattle.record.specs.Record.{field_row, field_ok, next_at, content_at}
use Rattle.record.proofs.Laws.{Fitting, fitting, content-length, next-within}
use Rattle.schedule.specs.declared.schedule.Span as code
use Rattle.schedule.specs.declared.schedule.Schedule as code-schedule
use Rattle.schedule.specs.declared.schedule.ReadSpans as code-read
use Rattle.schedule.specs.Code.{spans_then, span_of, spans_of, firsts_of, no_span, code_span_at, code_spans_from, schedule_of, SpansRead, peer_bytes}
use Rattle.schedule.specs.Schedule.{Span, Schedule, span_at, span_ok, last_ok, last_at, add_span, schedule_from, firsts, read_schedule, or_else, last_started, span_for, peers_for}

-- ---- choices

nothing : {A : Type 0} (b : Bool) → ◌≡◌ {A = Option A} (pick b None None) None
nothing true = refl
nothing false = refl

-- ---- one span's bytes

-- after the first m of some bytes stand the other n
rest_of : (m n all at from : ℕ) (s : List ℕ) → all ≡ m + n → from ≡ at + m → from ≤ length s → bytes_at n s from ≡ drop m (bytes_at all s at)
rest_of m n all at from s e f h =
    rw (e, f) (sym (rw (at_split m n s at) (drop_at (bytes_at m s at) (bytes_at n s (at + m)) m (at_length m s at (omega arith)))))

module _ (s : List ℕ) (at : ℕ) (h : span_ok s at ≡ true) where
  pub span-field : Fitting (field_row 34 4 8164) s at
  unfolding span_ok
  span-field = fitting (field_row 34 4 8164) s at ((and-eq-true_iff (field_ok (field_row 34 4 8164) s at) _).0 h).0

  span_rowed : well_rowed 32 (drop 4 (content_at s at)) ≡ true
  unfolding span_ok
  span_rowed = ((and-eq-true_iff (field_ok (field_row 34 4 8164) s at) _).0 h).1

  span-rising : rising (span_at s at).peers ≡ true
  span-rising = well_rowed-rising 32 (drop 4 (content_at s at)) span_rowed

  span-whole : 32 * length (span_at s at).peers + 4 ≡ length (content_at s at)
  span-whole = omega (arith, well_rowed-whole 32 (drop 4 (content_at s at)) span_rowed, length-drop 4 (content_at s at), span-field.least, span-field.content)

  span-few : length (span_at s at).peers ≤ 255
  span-few = omega (arith, span-whole, span-field.greatest, span-field.content)

  -- the peers' bytes, by their place and number
  span-bytes : bytes_at (32 * ((length (content_at s at) - 4) / 32)) s (at + 7) ≡ drop 4 (content_at s at)
  unfolding content_at
  span-bytes =
      rest_of 4 (32 * ((length (content_at s at) - 4) / 32)) (next_at s at - (at + 3)) (at + 3) (at + 7) s
      (omega (arith, span-whole, content-length s at))
      (omega arith)
      (omega (arith, span-field.end, span-field.least))

  -- what the code's span stands for
  pub span-held : span_of s (code_span_at s at) ≡ span_at s at
  span-held = rw span-bytes

-- ---- spans one after the other

module _ (s : List ℕ) where
  spans_of-append : (a b : List code.Span) → spans_of s (a ++ b) ≡ spans_of s a ++ spans_of s b
  spans_of-append [] b = refl
  spans_of-append (x ∷ a) b = ap (λ (l : List Span). span_of s x ∷ l) (spans_of-append a b)

  pub spans_of-length : (l : List code.Span) → length (spans_of s l) ≡ length l
  spans_of-length [] = refl
  spans_of-length (x ∷ l) = ap suc (spans_of-length l)

  spans_of-firsts : (l : List code.Span) → firsts (spans_of s l) ≡ firsts_of l
  unfolding firsts
  spans_of-firsts [] = refl
  spans_of-firsts (x ∷ l) = ap (λ (m : List ℕ). x.first ∷ m) (spans_of-firsts l)

  spans_of-at : (l : List code.Span) (i : ℕ) → i < length l →
      (get_or (spans_of s l) i (record { first = 0; peers = [] })).peers ≡ peers_of 32 (bytes_at (32 * (get_or l i no_span).peers) s (get_or l i no_span).place)
  spans_of-at [] i h = absurd (omega arith)
  spans_of-at (x ∷ l) zero h = refl
  spans_of-at (x ∷ l) (suc i) h = spans_of-at l i (omega arith)

  -- the peers of one of the first n spans
  pub spans_of-peers : (l : List code.Span) (n i : ℕ) → i < length (take n l) →
      (get_or (spans_of s (take n l)) i (record { first = 0; peers = [] })).peers ≡ peers_of 32 (bytes_at (32 * (get_or l i no_span).peers) s (get_or l i no_span).place)
  spans_of-peers l n i h =
      let g : i < n = omega (arith, length-take n l) in
      spans_of-at (take n l) i h ∙ rw (get_or-take n l i no_span g)

spans_then-append : (a b : List Span) (o : Option Schedule) → spans_then (a ++ b) o ≡ spans_then a (spans_then b o)
spans_then-append [] b o = refl
spans_then-append (x ∷ a) b o = ap (option_map (add_span x)) (spans_then-append a b o)

-- ---- reading: what is left to read after the first n spans

-- one span more is stored
pub stored : (s : List ℕ) (l : List code.Span) (n : ℕ) (x : code.Span) (y : Span) (o : Option Schedule) → n < length l → span_of s x ≡ y →
    spans_then (spans_of s (take n l)) (option_map (add_span y) o) ≡ spans_then (spans_of s (take (n + 1) (set l n x))) o
stored s l n x y o h e =
    rw (← e, add-one n, take-suc-set l n x h, spans_of-append s (take n l) (x ∷ []), spans_then-append (spans_of s (take n l)) (spans_of s (x ∷ [])) o)

-- the entries while they are filled: after the first n stands no span, and what is left to read stands from a place on
pub record Filled (s : List ℕ) (l : List code.Span) (n at : ℕ) : Type 0 where
  pub inside : at ≤ length s
  pub four : length l ≡ 4
  pub after : drop n l ≡ replicate (4 - n) no_span
  pub before : code_spans_from 4 s 0 ≡ take n l ++ code_spans_from (4 - n) s at
  pub read : schedule_from 4 s 0 ≡ spans_then (spans_of s (take n l)) (schedule_from (4 - n) s at)

module _ (s : List ℕ) (l : List code.Span) (n at : ℕ) (f : Filled s l n at) where
  filled : code_spans_from (4 - n) s at ≡ replicate (4 - n) no_span → l ≡ code_spans_from 4 s 0
  filled e = sym (f.before ∙ rw (e, ← f.after) (take-append-drop n l))

  pub filled-full : n ≡ 4 → SpansRead s (record { spans = l; count = 4; end = at })
  unfolding code_spans_from schedule_from
  filled-full e =
      record { few = omega arith; inside = f.inside; entries = filled (rw e); read = rw e at f.read }

  module _ (h : n < 4) where
    entries-step : code_spans_from (4 - n) s at
        ≡ pick (span_ok s at) (code_span_at s at ∷ code_spans_from (4 - (n + 1)) s (next_at s at)) (replicate (4 - n) no_span)
    unfolding code_spans_from
    entries-step = let e : 4 - n ≡ suc (4 - (n + 1)) = omega arith in rw e

    read_step : schedule_from 4 s 0
        ≡ spans_then (spans_of s (take n l)) (pick (span_ok s at) (option_map (add_span (span_at s at)) (schedule_from (4 - (n + 1)) s (next_at s at))) (last_at s at))
    unfolding schedule_from
    read_step = let e : 4 - n ≡ suc (4 - (n + 1)) = omega arith in f.read ∙ rw e

    -- no span stands at the place
    pub filled-end : None ≡ pick (span_ok s at) (Some (code_span_at s at)) None → SpansRead s (record { spans = l; count = n; end = at })
    filled-end e =
        let no = (unpicked (span_ok s at) (code_span_at s at) None (sym e)).0 in
        record { few = omega arith; inside = f.inside; entries = filled (entries-step ∙ rw no); read = read_step ∙ rw no }

    -- the span at the place is stored
    pub filled-step : (x : code.Span) (next : ℕ) → Some x ≡ pick (span_ok s at) (Some (code_span_at s at)) None → next ≡ next_at s at →
        Filled s (set l n x) (n + 1) next
    filled-step x next e g =
        let yes = picked (span_ok s at) (Some (code_span_at s at)) x (sym e) in
        let held : span_of s x ≡ span_at s at = ap (span_of s) (some-injective _ _ (sym yes.1)) ∙ span-held s at yes.0 in
        let m : 4 - n ≡ suc (4 - (n + 1)) = omega arith in
        record {
          inside = omega (arith, next-within s at);
          four = simp length-set f.four;
          after = drop-set-lt (n + 1) l n x (omega arith) ∙ (sym (drop-drop 1 n l) ∙ rw (f.after, m));
          before = f.before ∙ rw (entries-step, yes.0, ← some-injective _ _ (sym yes.1), add-one n, take-suc-set l n x (omega (arith, f.four)), g) (sym (append_snoc (take n l) x _));
          read = read_step ∙ rw (yes.0, g) (stored s l n x (span_at s at) _ (omega (arith, f.four)) held);
        }

then_none : (l : List Span) → spans_then l None ≡ None
then_none [] = refl
then_none (x ∷ l) = ap (option_map (add_span x)) (then_none l)

then_some : (l : List Span) (k : ℕ) → spans_then l (Some (record { spans = []; last_known = k })) ≡ Some (record { spans = l; last_known = k })
then_some [] k = refl
then_some (x ∷ l) k = ap (option_map (add_span x)) (then_some l k)

-- a schedule, where it has a span and its first rounds rise
abbrev if_usable : Schedule → Option Schedule
if_usable c = pick (not (is_empty c.spans) && rising (firsts c.spans)) (Some c) None

usable : (l : List Span) (b : Bool) (k : ℕ) →
    and_then (spans_then l (pick b (Some (record { spans = []; last_known = k })) None)) if_usable
    ≡ pick (not (is_empty l) && rising (firsts l)) (pick b (Some (record { spans = l; last_known = k })) None) None
usable l true k = rw (then_some l k)
usable l false k = rw (then_none l) (sym (nothing (not (is_empty l) && rising (firsts l))))

-- what is read, where the spans and the place after them are known
pub read_is : (s : List ℕ) (l : List code.Span) (end : ℕ) → schedule_from 4 s 0 ≡ spans_then (spans_of s l) (last_at s end) →
    read_schedule s
    ≡ pick (not (is_empty (spans_of s l)) && rising (firsts_of l))
    (pick (last_ok s end) (Some (record { spans = spans_of s l; last_known = little_at 4 s (end + 3) })) None)
    None
unfolding read_schedule
read_is s l end h = ap (λ o. and_then o if_usable) h ∙ (usable (spans_of s l) (last_ok s end) (little_at 4 s (end + 3)) ∙ rw (spans_of-firsts s l))

pub not_empty : (s : List ℕ) (l : List code.Span) → 0 < length l → is_empty (spans_of s l) ≡ false
not_empty s [] h = absurd (omega arith)
not_empty s (x ∷ l) h = refl

-- what is read, once the spans are
module _ (s : List ℕ) (r : code-read.ReadSpans) (g : SpansRead s r) where
  read-by : (l : List code.Span) → take r.count r.spans ≡ l →
      read_schedule s
      ≡ pick (not (is_empty (spans_of s l)) && rising (firsts_of l))
      (pick (last_ok s r.end) (Some (record { spans = spans_of s l; last_known = little_at 4 s (r.end + 3) })) None)
      None
  read-by l e = rw e at (read_is s (take r.count r.spans) r.end g.read)

  pub read_empty : r.count ≡ 0 → None ≡ read_schedule s
  read_empty h = sym (read-by [] (rw h))

  pub read_fallen : false ≡ rising (firsts_of (take r.count r.spans)) → None ≡ read_schedule s
  read_fallen h = sym (read-by (take r.count r.spans) refl ∙ rw (last-false (not (is_empty (spans_of s (take r.count r.spans)))) _ (sym h)))

  module _ (four : length r.spans ≡ 4) (some : r.count ≡ 0 → ⊥) (rise : true ≡ rising (firsts_of (take r.count r.spans))) where
    read-rest : read_schedule s
        ≡ pick (last_ok s r.end) (Some (record { spans = spans_of s (take r.count r.spans); last_known = little_at 4 s (r.end + 3) })) None
    read-rest =
        read-by (take r.count r.spans) refl ∙ rw (not_empty s (take r.count r.spans) (omega (arith, length-take r.count r.spans)), ← rise)

    pub read_unknown : None ≡ pick (last_ok s r.end) (Some (little_at 4 s (r.end + 3))) None → None ≡ read_schedule s
    read_unknown h = sym (read-rest ∙ rw (unpicked (last_ok s r.end) _ None (sym h)).0)

    pub read_whole : (k : ℕ) → Some k ≡ pick (last_ok s r.end) (Some (little_at 4 s (r.end + 3))) None →
        Some (schedule_of s (record { spans = r.spans; count = r.count; last_known = k })) ≡ read_schedule s
    read_whole k h = let p = picked (last_ok s r.end) (Some (little_at 4 s (r.end + 3))) k (sym h) in sym (read-rest ∙ rw (p.0, some-injective _ _ p.1))

-- ---- first rounds, by neighbours

all-rise : (l : List code.Span) → ((k : ℕ) → suc k < length l → (get_or l k no_span).first < (get_or l (suc k) no_span).first) → rising (firsts_of l) ≡ true
unfolding rising
all-rise [] h = refl
all-rise (x ∷ []) h = refl
all-rise (x ∷ y ∷ l) h = rw (lt-ltb _ _ (h 0 (omega arith))) (all-rise (y ∷ l) (λ k g. h (suc k) (omega arith)))

one-falls : (l : List code.Span) (k : ℕ) → suc k < length l → (get_or l (suc k) no_span).first ≤ (get_or l k no_span).first → rising (firsts_of l) ≡ false
unfolding rising
one-falls [] k g h = absurd (omega arith)
one-falls (x ∷ []) k g h = absurd (omega arith)
one-falls (x ∷ y ∷ l) zero g h = rw (le-ltb _ _ h)
one-falls (x ∷ y ∷ l) (suc k) g h = rw (one-falls (y ∷ l) k (omega arith) h) (last-false (ltb x.first y.first) false refl)

-- what a test of all neighbours answers
pub rising-is : (l : List code.Span) (r : Bool) → IsAllAdjacentAnswer (λ x y b. b ≡ ltb x.first y.first) l r → r ≡ rising (firsts_of l)
rising-is l true h = sym (all-rise l (λ k g. ltb-true _ _ (sym (rw add-one at (h k no_span (omega arith))))))
rising-is l false h = sym (one-falls l h.0 (omega (arith, h.1)) (ltb-false _ _ (sym (rw add-one at (h.2 no_span)))))

-- ---- the span of a round

-- a span that starts after the round is not its span
last-none : (i : ℕ) (s : List ℕ) (l : List code.Span) (round : ℕ) → ((k : ℕ) → k < length l → round < (get_or l k no_span).first) →
    last_started i (spans_of s l) round ≡ None
unfolding last_started
last-none i s [] round h = refl
last-none i s (x ∷ l) round h = rw (last-none (suc i) s l round (λ k g. h (suc k) (omega arith)), lt-leb _ _ (h 0 (omega arith)))

-- the last of some entries that starts at or before a round
last-at : (i : ℕ) (s : List ℕ) (l : List code.Span) (round k : ℕ) → k < length l → (get_or l k no_span).first ≤ round →
    ((j : ℕ) → k < j → j < length l → round < (get_or l j no_span).first) → last_started i (spans_of s l) round ≡ Some (i + k)
unfolding last_started
last-at i s [] round k g f h = absurd (omega arith)
last-at i s (x ∷ l) round zero g f h = rw (last-none (suc i) s l round (λ j b. h (suc j) (omega arith) (omega arith)), le-leb _ _ f, add-zero i)
last-at i s (x ∷ l) round (suc k) g f h =
    let e : suc i + k ≡ i + suc k = omega arith in
    rw (last-at (suc i) s l round k (omega arith) f (λ j b d. h (suc j) (omega arith) (omega arith)), e)

-- what a position says that is the last of some entries that start at or before a round
abbrev pub LastOf : List code.Span → ℕ → Option ℕ → Type 0
LastOf l round r =
    MatchOption r ((k : ℕ) → k < length l → round < (get_or l k no_span).first)
    (λ i. (i < length l) × ((get_or l i no_span).first ≤ round) × ((k : ℕ) → i < k → k < length l → round < (get_or l k no_span).first))

pub last-is : (s : List ℕ) (l : List code.Span) (round : ℕ) (r : Option ℕ) → LastOf l round r → r ≡ last_started 0 (spans_of s l) round
last-is s l round None h = sym (last-none 0 s l round h)
last-is s l round (Some i) h = sym (last-at 0 s l round i h.0 h.1 h.2 ∙ rw (zero-add i))

below_else : (n : ℕ) (o p : Option ℕ) → IfSome (λ i. i < n) o → IfSome (λ i. i < n) p → IfSome (λ i. i < n) (or_else o p)
below_else n None p h g = g
below_else n (Some i) p h g = h

-- a position is below the number of spans
last-below : (i : ℕ) (l : List Span) (round : ℕ) → IfSome (λ k. k < i + length l) (last_started i l round)
unfolding last_started
last-below i [] round = tt
last-below i (x ∷ l) round =
    let e : i + suc (length l) ≡ suc i + length l = omega arith in
    let h : i < suc i + length l = omega arith in
    rw e (below_else _ (last_started (suc i) l round) _ (last-below (suc i) l round) (pick-has _ (leb x.first round) (Some i) None (λ _. h) tt))

module _ (c : Schedule) (round : ℕ) where
  pub span-past : c.last_known < round → span_for c round ≡ None
  unfolding span_for
  span-past h = simp (lt-leb round c.last_known h)

  pub span-known : round ≤ c.last_known → span_for c round ≡ last_started 0 c.spans round
  unfolding span_for
  span-known h = simp (le-leb round c.last_known h)

  pub span_below : (i : ℕ) → span_for c round ≡ Some i → i < length c.spans
  unfolding span_for
  span_below i h =
      let b = pick-has (λ k. k < 0 + length c.spans) (leb round c.last_known) (last_started 0 c.spans round) None (λ _. last-below 0 c.spans round) tt in
      let g : i < 0 + length c.spans = rw h at b in
      omega arith

-- the span of a round by its position, and the bytes of its peers
module _ (s : List ℕ) (c : code-schedule.Schedule) (round i : ℕ) (h : Some i ≡ span_for (schedule_of s c) round) where
  counted : i < length (take c.count c.spans)
  counted = rw spans_of-length at (span_below (schedule_of s c) round i (sym h))

  pub span-inside : i < length c.spans
  span-inside = omega (arith, counted, length-take c.count c.spans)

  pub peers-at : (b : List ℕ) → b ≡ bytes_at (32 * (get_or c.spans i no_span).peers) s (get_or c.spans i no_span).place →
      (peers_of 32 b ≡ peers_for (schedule_of s c) round) × (b ≡ peer_bytes s c round)
  unfolding peers_for peer_bytes
  peers-at b e = (rw (← h, e) (sym (spans_of-peers s c.spans c.count i counted)), rw (← h) e)

pub no_peers : (s : List ℕ) (c : code-schedule.Schedule) (round : ℕ) → None ≡ span_for (schedule_of s c) round →
    (peers_of 32 [] ≡ peers_for (schedule_of s c) round) × ([] ≡ peer_bytes s c round)
unfolding peers_for peer_bytes peers_of
no_peers s c round h = rw (← h) (refl, refl)

-- ---- the peers of a schedule that is readable

-- peers that rise, and no more of them than a span holds
pub record FewRising (l : List ℕ) : Type 0 where
  pub rises : rising l ≡ true
  pub few : length l ≤ 255

abbrev AllFew : List Span → Type 0
AllFew [] = Unit
AllFew (x ∷ l) = FewRising x.peers × AllFew l

abbrev FewIn : Option Schedule → Type 0
FewIn = IfSome (λ c. AllFew c.spans)

few-last : (s : List ℕ) (at : ℕ) → FewIn (last_at s at)
few-last s at = pick-has _ (last_ok s at) _ None (λ _. tt) tt

few-from : (n : ℕ) (s : List ℕ) (at : ℕ) → FewIn (schedule_from n s at)
unfolding schedule_from
few-from zero s at = few-last s at
few-from (suc n) s at =
    pick-has _ (span_ok s at) (option_map (add_span (span_at s at)) (schedule_from n s (next_at s at))) (last_at s at)
    (λ h. map-has _ (add_span (span_at s at)) (schedule_from n s (next_at s at)) (λ c e. (record { rises = span-rising s at h; few = span-few s at h }, has _ _ c (few-from n s (next_at s at)) e)))
    (few-last s at)

few-usable : (o : Option Schedule) → FewIn o → FewIn (and_then o if_usable)
few-usable o h = then_has _ o if_usable (λ c e. pick-has _ (not (is_empty c.spans) && rising (firsts c.spans)) (Some c) None (λ _. has _ o c h e) tt)

few-none : FewRising []
unfolding rising
few-none = record { rises = refl; few = omega arith }

few-at : (l : List Span) (o : Option ℕ) → AllFew l → FewRising (unwrap_or (option_map (λ i. (get_or l i (record { first = 0; peers = [] })).peers) o) [])
few-at l None h = few-none
few-at [] (Some i) h = few-none
few-at (x ∷ l) (Some zero) h = h.0
few-at (x ∷ l) (Some (suc i)) h = few-at l (Some i) h.1

-- the peers of each round rise, and are at most 255
pub peers-few : (s : List ℕ) (c : Schedule) (round : ℕ) → read_schedule s ≡ Some c → FewRising (peers_for c round)
unfolding read_schedule peers_for
peers-few s c round h =
    let f : FewIn (Some c) = rw h at (few-usable (schedule_from 4 s 0) (few-from 4 s 0)) in
    few-at c.spans (span_for c round) f
