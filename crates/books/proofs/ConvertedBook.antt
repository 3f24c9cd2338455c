-- An offer of a converted record to a book of converted ones, from "a converted record reads as the same point": nothing else in an offer
-- looks at an entry's record, but for its length.
use Rattle.std.specs.Prelude.{Option, None, Some, option_map, is_some}
use Prim.Native.Nat.{ℕ, zero, suc, ◌-◌}
use mathlib.Core.Path.{◌≡◌, refl, ap, ◌∙◌, fun_ext}
use mathlib.Core.Bool.{Bool, ◌&&◌, ◌||◌}
use mathlib.Core.List.{List, [], ◌∷◌, map, map-append}
use lib.ListN.{length}
use lib.Dec.{leb}
use Rattle.base.specs.Base.{pick}
use Rattle.base.proofs.Option.{map-some}
use Rattle.map.specs.declared.Arrangement.TheVariants.{Pairs, Columns}
use Rattle.map.specs.Rows.{Pair}
use Rattle.point.specs.Point.{PointId, AnchorLink, Direct, Indirect, PointInfo, same_id}
use Rattle.point.specs.declared.data.AnchorStageRole.{AnchorStageRole}
use Rattle.point.specs.declared.data.AnchorStageRole.TheVariants.{Proof, Trigger}
use Rattle.point.specs.Converted.{converted}
use Rattle.point.proofs.Converted.{same-point, converted-length}
use Rattle.schedule.specs.Settings.{Settings}
use Rattle.schedule.specs.Schedule.{read_schedule}
use Rattle.reasons.specs.Verdict as verdict
use Rattle.reasons.specs.Verdict.{Verdict}
use Rattle.rules.specs.Mismatch.{pair_id}
use Rattle.rules.specs.Judge.{Input, Tested, refused, admitted, tested_with, JudgeAnswer, Number, Given, Before, answered, needed}
use Rattle.books.specs.Kept.{Kept, Book, find_kept, mark_one, mark, Opened}
use Rattle.books.specs.Lists.{is_valid, is_of, first_valid, kept_entry, entry_with, lookup, lookups, versions}
use Rattle.books.specs.Lists.{direct_list, target_entry, indirect_list}
use Rattle.books.specs.Spread.{traverse, certifies, covers}
use Rattle.books.specs.Offer.{Offer, Result, used, is_full, tested_room, input_tested_in, offer_tested_in}
use Rattle.books.specs.Offer.{marked_by, answer_with, left_by, before_in, marked_in, answer_in, judged_as, offer_with, offer, offer_in}
use Rattle.books.specs.Converted.{converted_offer, converted_kept, converted_book}
use Rattle.books.proofs.Find.{find-each}

abbrev all_converted : Book → Book
all_converted b = map converted_kept b

found-converted : (b : Book) (i : PointId) → find_kept (all_converted b) i ≡ option_map converted_kept (find_kept b i)
found-converted = find-each converted_kept (λ k. refl)

is-found-converted : (b : Book) (i : PointId) → is_some (find_kept (all_converted b) i) ≡ is_some (find_kept b i)
is-found-converted b i = ap is_some (found-converted b i) ∙ map-some converted_kept (find_kept b i)

-- ---- what fills a book

length-converted : (b : Book) → length (all_converted b) ≡ length b
length-converted [] = refl
length-converted (k ∷ b) = ap suc (length-converted b)

used-converted : (b : Book) → used (all_converted b) ≡ used b
unfolding used
used-converted [] = refl
used-converted (k ∷ b) = rw (converted-length Pairs k.bytes, used-converted b) refl

full-converted : (z : Opened) (bytes : List ℕ) → is_full (converted_book z) (converted Pairs bytes) ≡ is_full z bytes
unfolding is_full
full-converted z bytes = simp (length-converted, used-converted, converted-length)

-- ---- marks

module _ (c : Settings) (b : Book) where
  traverse-converted : (f g : PointId → Bool) (o : Option Kept) → traverse c f g (option_map converted_kept o) ≡ traverse c f g o
  traverse-converted f g None = refl
  traverse-converted f g (Some k) = refl

  certifies-converted : (n : ℕ) (t i : PointId) → certifies c (all_converted b) n t i ≡ certifies c b n t i
  unfolding certifies
  certifies-converted zero t i = refl
  certifies-converted (suc zero) t i = refl
  certifies-converted (suc (suc n)) t i =
      let deeper : ℕ → PointId → Bool = λ m j. certifies c b m j i in
      let f : (λ j. certifies c (all_converted b) (suc n) j i) ≡ deeper (suc n) = fun_ext (λ j. certifies-converted (suc n) j i) in
      let g : (λ j. certifies c (all_converted b) n j i) ≡ deeper n = fun_ext (λ j. certifies-converted n j i) in
      ap (λ x. same_id t i || x) (rw (f, g, found-converted b t) (traverse-converted (deeper (suc n)) (deeper n) (find_kept b t)))

  covers-converted : (prev : Option PointId) → covers c (all_converted b) prev ≡ covers c b prev
  unfolding covers
  covers-converted None = refl
  covers-converted (Some t) = fun_ext (λ i. simp certifies-converted)

mark-converted : (test : PointId → Bool) (b : Book) → mark test (all_converted b) ≡ all_converted (mark test b)
unfolding mark mark_one
mark-converted test [] = refl
mark-converted test (k ∷ b) = ap (λ l. converted_kept (mark_one test k) ∷ l) (mark-converted test b)

by-converted : (c : Settings) (p : PointInfo) (b : Book) (x : Before) → marked_by c p (all_converted b) x ≡ all_converted (marked_by c p b x)
by-converted c p b (answered a) = refl
by-converted c p b (needed required) = simp (covers-converted, mark-converted)

-- ---- lists

first-converted : (b : Book) (round author : ℕ) → first_valid (all_converted b) round author ≡ first_valid b round author
unfolding first_valid
first-converted [] round author = refl
first-converted (k ∷ b) round author =
    ap (pick (is_valid k.status && is_of round author k) (Some k.point.id)) (first-converted b round author)

module _ (b : Book) where
  entry-converted : (k : Kept) → kept_entry (all_converted b) (converted_kept k) ≡ kept_entry b k
  unfolding kept_entry
  entry-converted k = rw (first-converted b k.point.id.round k.point.id.author) refl

  versions-converted : (round author : ℕ) (l : Book) → versions (all_converted b) round author (all_converted l) ≡ versions b round author l
  unfolding versions
  versions-converted round author [] = refl
  versions-converted round author (k ∷ l) = let rest = versions-converted round author l in simp (entry-converted, rest)

  module _ (p : PointInfo) where
    with-converted : (i : PointId) (o : Option Kept) → entry_with (all_converted b) p i (option_map converted_kept o) ≡ entry_with b p i o
    with-converted i None = refl
    with-converted i (Some k) = simp entry-converted

    lookup-converted : (i : PointId) → lookup (all_converted b) p i ≡ lookup b p i
    unfolding lookup
    lookup-converted i = ap (entry_with (all_converted b) p i) (found-converted b i) ∙ with-converted i (find_kept b i)

    lookups-converted : (round : ℕ) (l : List Pair) → lookups (all_converted b) p round l ≡ lookups b p round l
    unfolding lookups
    lookups-converted round [] = refl
    lookups-converted round (q ∷ l) = rw (lookup-converted (pair_id round q), lookups-converted round l) refl

    target-converted : (g : AnchorStageRole) (t : AnchorLink) → target_entry (all_converted b) p g t ≡ target_entry b p g t
    target-converted g (Direct t) = refl
    target-converted g (Indirect to t) = rw (lookup-converted to) refl

    direct-converted : direct_list (all_converted b) p ≡ direct_list b p
    unfolding direct_list
    direct-converted =
        rw (
          lookups-converted (p.id.round - 2) p.witness,
          lookups-converted (p.id.round - 1) p.includes,
          versions-converted (p.id.round - 1) p.id.author b,
        ) refl

    indirect-converted : indirect_list (all_converted b) p ≡ indirect_list b p
    unfolding indirect_list
    indirect-converted = rw (target-converted Proof p.anchor_proof, target-converted Trigger p.anchor_trigger) refl

with-answer-converted : (c : Settings) (presence : ℕ) (p : PointInfo) (b : Book) (x : Before) →
    answer_with c presence p (all_converted b) x ≡ answer_with c presence p b x
with-answer-converted c presence p b (answered a) = refl
with-answer-converted c presence p b (needed required) = rw (direct-converted b p, indirect-converted b p) refl

-- ---- an offer

module _ (z : Opened) (i : Input) (leader : ℕ) where
  marked-converted : marked_in (converted_book z) i leader ≡ all_converted (marked_in z i leader)
  unfolding marked_in
  marked-converted = by-converted i.settings i.point z.book (before_in i leader)

  answer-converted : answer_in (converted_book z) i leader ≡ answer_in z i leader
  unfolding answer_in
  answer-converted = simp (marked-converted, with-answer-converted)

left-converted : (bytes : List ℕ) (p : PointInfo) (v : Verdict) → left_by (converted Pairs bytes) p v ≡ all_converted (left_by bytes p v)
left-converted bytes p (verdict.Fail u) = refl
left-converted bytes p (verdict.IllFormed r) = refl
left-converted bytes p (verdict.Invalid r) = refl
left-converted bytes p (verdict.TransInvalid d) = refl
left-converted bytes p verdict.Valid = refl

abbrev pub result_of : Result Opened → Result Opened
result_of x = record { answer = x.answer; peers = x.peers; after = converted_book x.after }

module _ (z : Opened) (o : Offer) where
  judged-converted : (i : Input) (a : JudgeAnswer) → judged_as (converted_book z) (converted_offer o) i a ≡ result_of (judged_as z o i a)
  judged-converted i (Number n) = refl
  judged-converted i (Given v) = simp (marked-converted, left-converted, map-append)

  room-converted : (t : Tested) → tested_room (converted_book z) (converted Pairs o.bytes) t ≡ tested_room z o.bytes t
  room-converted (refused n) = refl
  room-converted (admitted i) = simp (is-found-converted, full-converted)

  -- the one place where a record is read
  input-converted : input_tested_in Columns z.settings (converted_offer o) ≡ input_tested_in Pairs z.settings o
  input-converted =
      ap (λ r. tested_with (Some z.settings) (read_schedule o.schedule) r (leb o.leader 1) (length o.peers)) (same-point Pairs o.bytes)

  tested-converted : offer_tested_in Columns (converted_book z) (converted_offer o) ≡ offer_tested_in Pairs z o
  unfolding offer_tested_in
  tested-converted =
      ap (tested_room (converted_book z) (converted Pairs o.bytes)) input-converted
      ∙ room-converted (input_tested_in Pairs z.settings o)

  with-offer-converted : (t : Tested) → offer_with (converted_book z) (converted_offer o) t ≡ result_of (offer_with z o t)
  unfolding offer_with
  with-offer-converted (refused n) = refl
  with-offer-converted (admitted i) =
      ap (judged_as (converted_book z) (converted_offer o) i) (answer-converted z i o.leader) ∙ judged-converted i (answer_in z i o.leader)

  pub offer-converted : offer (converted_book z) (converted_offer o) ≡ result_of (offer_in Pairs z o)
  unfolding offer_in
  offer-converted =
      ap (offer_with (converted_book z) (converted_offer o)) tested-converted ∙ with-offer-converted (offer_tested_in Pairs z o)
