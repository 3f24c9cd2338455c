-- `next_point` meets its contract: where the record ends, what its offer gives, and what it says; each `return` cites the law of its case.
use Prim.Native.Nat.{ℕ, suc, ◌+◌, ◌-◌, ◌<◌}
use native.Mathlib.Omega.{arith}
use mathlib.Core.Path.{◌≡◌, ap, sym, ◌∙◌}
use mathlib.Core.List.{List}
use lib.ListN.{length, get_or, take, drop, length-drop}
use Rattle.std.proofs.Common.{◌≢◌, rules}
use Rattle.std.specs.Prelude.{Some}
use Rattle.point.specs.Said.{said}
use Rattle.point.specs.Reading.{read_point}
use Rattle.base.proofs.Lists.{rest}
use Rattle.judge.specs.Code.{judge_answer_of}
use Rattle.books.specs.Calls.{offer_bytes}
use Rattle.books.specs.Offer.{Result, offer_of}
use Rattle.tally_feed.specs.Tally.{record_size, Step, offered_as, step}
use Rattle.tally_feed.proofs.Laws.{step-over, step-offer, gives-over, gives-last, gives-point}
use Rattle.tally_feed.proofs.next.next_point.Goals as goal
use Rattle.tally_feed.proofs.next.next_point.Goals.{After-record_size-size}

abbrev next : After-record_size-size → Step
next c = let a = c.args in step a.schedule.now a.book.now a.peers.now a.place a.feed.now

abbrev size : After-record_size-size → ℕ
size c = c.record_size-size.result

-- the record's bytes, and as the code takes them
abbrev bytes : After-record_size-size → List ℕ
bytes c = take (size c) (drop 1 c.args.feed.now)

abbrev part : After-record_size-size → List ℕ
part c = take (size c + 1 - 1) (drop 1 c.args.feed.now)

same_bytes : (c : After-record_size-size) → part c ≡ bytes c
same_bytes c = let e : size c + 1 - 1 ≡ size c = omega arith in ap (λ (k : ℕ). take k (drop 1 c.args.feed.now)) e

-- a byte is left
some : (c : After-record_size-size) → length c.args.feed.now ≢ 0
some c = search rules

inside : (c : After-record_size-size) → size c < length c.args.feed.now
inside c =
    let s = c.args.feed.now in
    omega (arith, c.record_size-size.ensures.within, ap length (rest 1 s), length-drop 1 s, some c)

-- what their offer gives
abbrev result : After-record_size-size → List ℕ → Result (List ℕ)
result c s = let a = c.args in offer_bytes a.book.now (offer_of a.schedule.now (get_or a.feed.now 0 0) s a.peers.now)

offers : (c : After-record_size-size) → next c ≡ offered_as c.args.place (suc (size c)) (result c (bytes c)) (read_point (bytes c))
offers c = step-offer _ _ _ _ c.args.feed.now (size c) (some c) (c.record_size-size.ensures.same ∙ ap record_size (rest 1 c.args.feed.now))

pub returns-then-is_empty : goal.returns-then-is_empty
returns-then-is_empty c =
    let a = c.args in
    let s = a.feed.now in
    let told = gives-over a.book.now a.peers.now (length s) (step a.schedule.now a.book.now a.peers.now a.place s) (step-over _ _ _ _ s (search rules)) in
    record { same = told.0; left = told.1.0; unknown = told.1.1.0; within = told.1.1.1 }

pub returns-in-Some : goal.returns-in-Some
returns-in-Some c =
    let at = (goal.at.returns-in-Some c).After-record_size-size in
    let a = c.args in
    let r = result at (bytes at) in
    let o = c.offer-answer in
    let e = same_bytes at in
    let read : read_point (part at) ≡ Some (said c.in-Some.point) = rw (← c.in-Some.ensures) c.in-Some.point.reads.read in
    let told = gives-point a.book.now a.peers.now (length a.feed.now) (next at) a.place (size at) r (judge_answer_of o.result) o.new.book o.new.peers
    (o.ensures.result_value ∙ ap (λ (x : List ℕ). (result at x).answer) e)
    (o.ensures.book_after ∙ ap (λ (x : List ℕ). (result at x).after) e)
    (o.ensures.peers_after ∙ ap (λ (x : List ℕ). (result at x).peers) e)
    (said c.in-Some.point) c.line_of.result
    (offers at ∙ ap (offered_as a.place (suc (size at)) r) (ap read_point (sym e) ∙ read)) c.line_of.ensures (inside at) in
    record { same = told.0; left = told.1.0; unknown = told.1.1.0; within = told.1.1.1 }

pub returns-in-None : goal.returns-in-None
returns-in-None c =
    let at = (goal.at.returns-in-None c).After-record_size-size in
    let a = c.args in
    let r = result at (bytes at) in
    let o = c.offer-answer in
    let e = same_bytes at in
    let told = gives-last a.book.now a.peers.now (length a.feed.now) (next at) a.place (size at) r (judge_answer_of o.result) o.new.book o.new.peers
    (o.ensures.result_value ∙ ap (λ (x : List ℕ). (result at x).answer) e)
    (o.ensures.book_after ∙ ap (λ (x : List ℕ). (result at x).after) e)
    (o.ensures.peers_after ∙ ap (λ (x : List ℕ). (result at x).peers) e)
    c.line_of-in-None.result
    (offers at ∙ ap (offered_as a.place (suc (size at)) r) (ap read_point (sym e) ∙ c.in-None.ensures)) c.line_of-in-None.ensures in
    record { same = told.0; left = told.1.0; unknown = told.1.1.0; within = told.1.1.1 }
