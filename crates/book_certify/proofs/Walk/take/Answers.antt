-- `take` meets its contract: what the rows of the entry's map add (`Passing`).
use native.Mathlib.Omega.{arith}
use Prim.Native.Nat.{ℕ, ◌+◌, ◌-◌, ◌≤◌}
use mathlib.Core.Path.{ap, ◌∙◌}
use lib.ListN.{length, drop, length-drop}
use Rattle.base.proofs.Lists.{rest}
use Rattle.schedule.specs.Code.{settings_of}
use Rattle.book_certify.specs.Code.{rows_back, rounds_of}
use Rattle.book_certify.proofs.Entries.{stands, entry_at, entry-within}
use Rattle.book_certify.proofs.Passing.{taken-rows}
use Rattle.book_certify.proofs.Walk.take.Goals as goal
use Rattle.book_certify.proofs.Walk.take.Goals.{After-place_at-place}

within : (c : After-place_at-place) → c.place_at-place.result + 108 ≤ length c.args.by.now.book.now
within c =
    let h = stands c.args.by.now.bytes c.requires.read in
    let y = entry_at h c.args.j c.requires.j_bound in
    omega (arith, c.place_at-place.ensures, entry-within h c.args.j y.0 y.1 y.2)

pub rows_back-rows-requires : goal.rows_back-rows-requires
rows_back-rows-requires c =
    let s = c.args.by.now.book.now in
    omega (arith, within (goal.at.rows_back-rows-requires c).After-place_at-place, ap length (rest c.place_at-place.result s), length-drop c.place_at-place.result s)

pub reach_rows-requires : goal.reach_rows-requires
reach_rows-requires c =
    let h = stands c.args.by.now.bytes c.requires.read in
    (h.index, h.once)

pub returns : goal.returns
returns c k q f =
    let by = c.args.by.now in
    let s = by.book.now in
    let part = rest c.place_at-place.result s ∙ ap (λ (n : ℕ). drop n s) c.place_at-place.ensures in
    let round = c.rounds_back-round.ensures ∙ (ap (λ (n : ℕ). c.round_of.result - n) c.rounds.ensures ∙ ap (λ (n : ℕ). n - rounds_of c.args.deps) c.round_of.ensures) in
    taken-rows (settings_of by.conf) (stands by.bytes c.requires.read) c.args.j c.args.deps c.args.self.now c.has_deps.result c.has_deps.ensures c.if-not-has_deps.false c.if-not-self-j.false
    c.rows_back-rows.result.now _ c.rounds_back-round.result (c.rows_back-rows.ensures ∙ ap (rows_back c.args.deps) part) round c.reach_rows.ensures k q f
