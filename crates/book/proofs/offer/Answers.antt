-- `offer` meets its contract: the writes make of the bytes what was decided.
use Rattle.std.specs.Prelude.{Ok}
use native.Mathlib.Omega.{arith}
use mathlib.Core.Path.{subst}
use Rattle.parts.specs.Bytes.{Bytes}
use Rattle.reasons.specs.Code.{verdict_of}
use Rattle.books.specs.Offer.{Offer, offer_of}
use Rattle.book.specs.Code.{Judges, Asks, Decides}
use Rattle.book.proofs.OfferLaws.{verdict-written, ready-room, list_written}
use Rattle.book.proofs.offer.Goals as goal
use Rattle.book.proofs.offer.Goals.{In_ok-verdict, In-Judged, In-Needed}

abbrev offer : In_ok-verdict → Offer
offer c = let a = c.args in offer_of a.schedule.now a.leader a.rec.now a.peers.now

bytes : (c : In_ok-verdict) → Bytes c.args.book.now
bytes c k = omega (arith, c.slice_known-1.given k)

judges : (c : In-Judged) → let a = c.args in
    Judges a.book.now (offer_of a.schedule.now a.leader a.rec.now a.peers.now) (verdict_of c.in-Judged.verdict) c.in-Judged.end c.decide.new.peers
judges c = let a = c.args in
    subst (λ d. Decides a.book.now (offer_of a.schedule.now a.leader a.rec.now a.peers.now) (Ok d) c.decide.new.index c.decide.new.peers) c.in-Judged.is c.in_ok-verdict.ensures

asks : (c : In-Needed) → let a = c.args in
    Asks a.book.now (offer_of a.schedule.now a.leader a.rec.now a.peers.now) c.in-Needed.needs c.decide.new.index c.decide.new.peers
asks c = let a = c.args in
    subst (λ d. Decides a.book.now (offer_of a.schedule.now a.leader a.rec.now a.peers.now) (Ok d) c.decide.new.index c.decide.new.peers) c.in-Needed.is c.in_ok-verdict.ensures

pub judge_needed-requires : goal.judge_needed-requires
judge_needed-requires c =
    let at = goal.at.judge_needed-requires c in
    let q = asks at.In-Needed in
    record { read = q.ready.read; tag33length_in_bounds = rw q.bytes (ready-room q.ready (bytes at.In_ok-verdict)) }

pub returns-in-Judged : goal.returns-in-Judged
returns-in-Judged c =
    let h = verdict-written (judges (goal.at.returns-in-Judged c).In-Judged) _ c.keep.ensures in
    record { result_value = h.0; peers_after = h.1.0; book_after = h.1.1 }

pub returns-in-Needed : goal.returns-in-Needed
returns-in-Needed c =
    let at = goal.at.returns-in-Needed c in
    let h = list_written (asks at.In-Needed) (bytes at.In_ok-verdict) _ _ c.judge_needed.ensures in
    record { result_value = h.0; peers_after = h.1.0; book_after = h.1.1 }
