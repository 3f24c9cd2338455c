-- `decide` meets its contract: a lemma for each test that passed says what it told, and each `return` cites the law of its number.
use Rattle.std.specs.Prelude.{ℕ, List, length, Option, Result, Ok, Err, Some, None}
use Rattle.std.proofs.lemmas.Grind.{common_steps}
use native.Mathlib.Omega.{arith}
use mathlib.Core.Path.{◌≡◌, refl, sym, ◌∙◌, subst}
use Rattle.parts.specs.Bytes.{Bytes}
use Rattle.point.specs.Code.{point_id_of}
use Rattle.point.specs.Said.{said, PointRead}
use Rattle.point.specs.Reading.{read_point}
use Rattle.schedule.specs.Code.{settings_of}
use Rattle.schedule.specs.PeerSchedule.{peer_schedule_of, ScheduleRead, IsRead as ScheduleIsRead}
use Rattle.schedule.specs.Schedule.{read_schedule}
use Rattle.reasons.specs.Refusal.{refusal_number}
use Rattle.reasons.specs.declared.refusal.Refusal.{Refusal}
use Rattle.reasons.specs.declared.refusal.Refusal.TheVariants as refusal
use Rattle.rules.specs.Judge.{Input}
use Rattle.books.specs.Offer.{Offer, offer_of, input_tested, offer_tested}
use Rattle.book_read.specs.Code.{BookRead, IsRead}
use Rattle.schedule.specs.declared.peer_schedule.PeerSchedule as code-schedule
use Rattle.id_index.specs.declared.Index as code-index
use Rattle.book.specs.declared.decide.Decided as code-decided
use Rattle.book.specs.Code.{passed_or, InputTested, RoomTested, Ready, Refuses, Decides}
use Rattle.book.proofs.Tests.{no_schedule, no_point_lem, with_point, passed_buffer, input-refused, after-input}
use Rattle.book.proofs.OfferLaws.{unread, refused-answers, end-within}
use Rattle.book.proofs.decide.decide.Goals as goal
use Rattle.book.proofs.decide.decide.Goals.{In_ok-conf, In_ok-peer_schedule, In_ok-point}

bytes : (c : In_ok-conf) → Bytes c.args.book.now
bytes c k = omega (arith, c.type_inv.book k)

has-book : (c : In_ok-conf) → IsRead c.args.book.now (settings_of c.in_ok-conf.conf) c.in_ok-conf.end c.read_book.new.index
has-book c =
    let e : c.read_book.result ≡ Some (c.in_ok-conf.conf, c.in_ok-conf.end) = grind (arith, common_steps) in
    subst (BookRead c.args.book.now c.read_book.new.index) e c.read_book.ensures

-- what was read of a slice is what it says
module _ (s : List ℕ) (p : code-schedule.PeerSchedule) where
  is-read : (r : Option code-schedule.PeerSchedule) → r ≡ Some p → ScheduleRead s r → ScheduleIsRead s p
  is-read r e h = subst (ScheduleRead s) e h

  says : ScheduleIsRead s p → read_schedule s ≡ Some (peer_schedule_of p)
  says h = rw (← h.bytes) p.read

has-schedule : (c : In_ok-peer_schedule) → read_schedule c.args.schedule.now ≡ Some (peer_schedule_of c.in_ok-peer_schedule.peer_schedule)
has-schedule c =
    let e : c.read_peer_schedule.result ≡ Some c.in_ok-peer_schedule.peer_schedule = grind (arith, common_steps) in
    says _ _ (is-read _ _ _ e c.read_peer_schedule.ensures)

same-schedule : (c : In_ok-point) → ScheduleIsRead c.args.schedule.now c.in_ok-peer_schedule.peer_schedule
same-schedule c =
    let e : c.read_peer_schedule.result ≡ Some c.in_ok-peer_schedule.peer_schedule = grind (arith, common_steps) in
    is-read _ _ _ e c.read_peer_schedule.ensures

same-record : (c : In_ok-point) → c.in_ok-point.point.rec.now ≡ c.args.rec.now
same-record c =
    let e : c.read_point.result ≡ Some c.in_ok-point.point = grind (arith, common_steps) in
    subst (PointRead c.args.rec.now) e c.read_point.ensures

has-point : (c : In_ok-point) → read_point c.args.rec.now ≡ Some (said c.in_ok-point.point)
has-point c = rw (← same-record c) c.in_ok-point.point.reads.read

abbrev input : In_ok-point → Input
input c = record {
  settings = settings_of c.in_ok-conf.conf;
  schedule = peer_schedule_of c.in_ok-peer_schedule.peer_schedule;
  point = said c.in_ok-point.point;
}

abbrev offer : In_ok-point → Offer
offer c = let a = c.args in offer_of a.schedule.now a.leader a.rec.now a.peers.now

-- the numbers 2 to 5
tested : (c : In_ok-point) (r : Result Unit Refusal) → InputTested c.in_ok-point.point.rec.now c.in_ok-point.point.info c.args.leader (length c.args.peers.now) r →
    input_tested (settings_of c.in_ok-conf.conf) (offer c) ≡ passed_or r (input c)
tested c r t =
    with_point (settings_of c.in_ok-conf.conf) (offer c) (input c).schedule (says _ _ (same-schedule c)) (input c).point (has-point c)
    ∙ t (settings_of c.in_ok-conf.conf) (input c).schedule

-- and 11 and 12, of what passed them
room-tested : (c : In_ok-point) (h : IsRead c.args.book.now (settings_of c.in_ok-conf.conf) c.in_ok-conf.end c.read_book.new.index) →
    (u : Unit) → InputTested c.in_ok-point.point.rec.now c.in_ok-point.point.info c.args.leader (length c.args.peers.now) (Ok u) →
    (r : Result Unit Refusal) → RoomTested c.args.book.now c.in_ok-conf.end c.read_book.new.index c.args.rec.now (point_id_of c.in_ok-point.point.info.id) r →
    offer_tested h.opened (offer c) ≡ passed_or r (input c)
room-tested c h u t r w =
    after-input h.opened (settings_of c.in_ok-conf.conf) h.settings (offer c) (input c) (tested c (Ok u) t) ∙ w (settings_of c.in_ok-conf.conf) h (input c) refl

refuse : (s : List ℕ) (o : Offer) (x : code-index.Index) (buffer : List ℕ) (d : Result code-decided.Decided Refusal) (r : Refusal) → d ≡ Err r →
    Refuses s o (refusal_number r) buffer → Decides s o d x buffer
refuse s o x buffer d r e h = subst (λ z. Decides s o z x buffer) (sym e) h

pub returns-in_err-conf : goal.returns-in_err-conf
returns-in_err-conf c =
    let a = c.args in
    let o = offer_of a.schedule.now a.leader a.rec.now a.peers.now in
    let e : c.from_residual.result ≡ Err refusal.Book = grind (arith, common_steps) in
    let n : c.read_book.result ≡ None = grind (arith, common_steps) in
    refuse _ o c.read_book.new.index _ _ _ e (unread _ o (subst (BookRead a.book.now c.read_book.new.index) n c.read_book.ensures))

pub returns-in_err-peer_schedule : goal.returns-in_err-peer_schedule
returns-in_err-peer_schedule c =
    let a = c.args in
    let o = offer_of a.schedule.now a.leader a.rec.now a.peers.now in
    let at = (goal.at.returns-in_err-peer_schedule c).In_ok-conf in
    let h = has-book at in
    let e : c.from_residual-in_err-peer_schedule.result ≡ Err refusal.Schedule = grind (arith, common_steps) in
    let n : read_schedule a.schedule.now ≡ None = grind (arith, common_steps) in
    refuse _ o c.read_book.new.index _ _ _ e (refused-answers h (bytes at) o 2 (input-refused _ _ h.settings o 2 (no_schedule _ o n)))

pub returns-in_err-point : goal.returns-in_err-point
returns-in_err-point c =
    let a = c.args in
    let o = offer_of a.schedule.now a.leader a.rec.now a.peers.now in
    let at = goal.at.returns-in_err-point c in
    let h = has-book at.In_ok-conf in
    let e : c.from_residual-in_err-point.result ≡ Err refusal.Record = grind (arith, common_steps) in
    let n : c.read_point.result ≡ None = grind (arith, common_steps) in
    refuse _ o c.read_book.new.index _ _ _ e (refused-answers h (bytes at.In_ok-conf) o 3
    (input-refused _ _ h.settings o 3 (no_point_lem _ o _ (has-schedule at.In_ok-peer_schedule) (subst (PointRead a.rec.now) n c.read_point.ensures))))

pub returns-in_err-test_input : goal.returns-in_err-test_input
returns-in_err-test_input c =
    let at = goal.at.returns-in_err-test_input c in
    let o = offer at.In_ok-point in
    let h = has-book at.In_ok-conf in
    let r = c.in_err-test_input.field-0.0 in
    let e : c.from_residual-in_err-test_input.result ≡ Err r = grind (arith, common_steps) in
    refuse _ o c.read_book.new.index _ _ r e (refused-answers h (bytes at.In_ok-conf) o (refusal_number r)
    (input-refused _ _ h.settings o (refusal_number r) (tested at.In_ok-point (Err r) (c.in_err-test_input.ensures _))))

pub test_room-requires : goal.test_room-requires
test_room-requires c =
    let at = (goal.at.test_room-requires c).In_ok-conf in
    ((has-book at).index, end-within (has-book at) (bytes at))

pub returns-in_err-test_room : goal.returns-in_err-test_room
returns-in_err-test_room c =
    let at = goal.at.returns-in_err-test_room c in
    let o = offer at.In_ok-point in
    let h = has-book at.In_ok-conf in
    let r = c.in_err-test_room.field-0.0 in
    let e : c.from_residual-in_err-test_room.result ≡ Err r = grind (arith, common_steps) in
    refuse _ o c.read_book.new.index _ _ r e (refused-answers h (bytes at.In_ok-conf) o (refusal_number r)
    (room-tested at.In_ok-point h _ (c.in_ok-test_input.ensures _) (Err r) c.in_err-test_room.ensures))

pub judge_input-requires : goal.judge_input-requires
judge_input-requires c =
    let i = (goal.at.judge_input-requires c).In_ok-point in
    passed_buffer _ (offer i) _ (tested i (Ok _) (c.in_ok-test_input.ensures _))

pub returns : goal.returns
returns c =
    let at = goal.at.returns c in
    let a = c.args in
    let h = has-book at.In_ok-conf in
    let judged : List ℕ → List ℕ → Type 0 = λ schedule rec.
    Ready a.book.now (offer_of schedule a.leader rec a.peers.now) (settings_of at.In_ok-point.in_ok-conf.conf) at.In_ok-point.in_ok-conf.end c.read_book.new.index (input at.In_ok-point) →
    Decides a.book.now (offer_of schedule a.leader rec a.peers.now) c.judge_input.result c.read_book.new.index c.judge_input.new.peers in
    subst (judged a.schedule.now) (same-record at.In_ok-point)
    (subst (λ (l : List ℕ). judged l at.In_ok-point.in_ok-point.point.rec.now) (same-schedule at.In_ok-point).bytes (c.judge_input.ensures a.book.now c.read_book.new.index (bytes at.In_ok-conf)))
    (record { read = h; taken = room-tested at.In_ok-point h _ (c.in_ok-test_input.ensures _) (Ok _) c.in_ok-test_room.ensures })
