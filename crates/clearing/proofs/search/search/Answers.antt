-- `search` meets its contract, by the first of the entries that are left.
use Rattle.std.proofs.lemmas.Grind.{common_steps}
use Rattle.std.proofs.lemmas.Bool.Decides.{nat_tests}
use Rattle.std.specs.Prelude.{is_some, Some, option_map}
use native.Mathlib.Omega.{arith}
use mathlib.Core.Path.{◌≡◌, ap, sym, ◌∙◌}
use mathlib.Core.Bool.{true, false}
use lib.ListN.{length, drop}
use Rattle.base.proofs.Lists.{rest}
use Rattle.point.specs.Point.{PointId}
use Rattle.point.specs.Code.{point_id_of}
use Rattle.schedule.specs.Code.{settings_of}
use Rattle.judge_entries.specs.Entry.{listed_of}
use Rattle.judge_mismatch.proofs.Heads.{Next, next_of, next-is}
use Rattle.clearing.specs.Code.{is_other}
use Rattle.clearing.proofs.Laws.{found, found-none, found-past, found-other, found-same, keeps_left}
use Rattle.clearing.proofs.search.search.Goals as goal
use Rattle.clearing.proofs.search.search.Goals.{After-known_entry-x}

-- the first entry, and what is left after it
first : (c : After-known_entry-x) → Next c.loop-left.left.now (listed_of c.known_entry-x.result)
first c = next-is _ _ c.loop-left.invariant.0 (grind (arith, common_steps, nat_tests)) c.known_entry-x.ensures.same

pub known_entry-x-requires : goal.known_entry-x-requires
known_entry-x-requires c =
    let n = next_of c.loop-left.left.now c.loop-left.invariant.0 (grind (arith, common_steps, nat_tests)) in
    ap is_some n.1.entry

pub loop-left-preserved-then-not-brings : goal.loop-left-preserved-then-not-brings
loop-left-preserved-then-not-brings c =
    let n = first (goal.at.loop-left-preserved-then-not-brings c).After-known_entry-x in
    let x = c.known_entry-x.result in
    let b : false ≡ c.brings.result = grind (arith, common_steps) in
    keeps_left _ _ _ _ _ _ _ (rest x.size c.loop-left.left.now)
    (n.left, λ p v. found-past _ _ p _ _ _ n (b ∙ c.brings.ensures p v) ∙ c.loop-left.invariant.1 p v)

pub returns-then-is_other : goal.returns-then-is_other
returns-then-is_other c = λ p v.
    let n = first (goal.at.returns-then-is_other c).After-known_entry-x in
    let b : true ≡ c.brings.result = grind (arith, common_steps) in
    let id = c.id-id.ensures c.known_entry-x.result.entry.rec.now in
    let o = ap (is_other (option_map point_id_of c.loop-left.first)) (sym id) ∙ (sym c.is_other.ensures ∙ c.if-is_other.true) in
    found-other _ _ p _ _ _ n (b ∙ c.brings.ensures p v) o ∙ c.loop-left.invariant.1 p v

pub loop-left-preserved : goal.loop-left-preserved
loop-left-preserved c =
    let n = first (goal.at.loop-left-preserved c).After-known_entry-x in
    let x = c.known_entry-x.result in
    let b : true ≡ c.brings.result = grind (arith, common_steps) in
    let id = c.id-id.ensures x.entry.rec.now in
    let o = ap (is_other (option_map point_id_of c.loop-left.first)) (sym id) ∙ (sym c.is_other.ensures ∙ c.if-is_other.false) in
    keeps_left _ _ _ _ (Some (point_id_of c.id-id.result)) _ _ (rest x.size c.loop-left.left.now) (
      n.left,
      λ p v.
          ap (λ (i : PointId). found (settings_of c.args.by.now.conf) c.args.by.now.required p (Some i) (drop x.size c.loop-left.left.now)) id
          ∙ (found-same _ _ p _ _ _ n (b ∙ c.brings.ensures p v) o ∙ c.loop-left.invariant.1 p v),
    )

pub returns : goal.returns
returns c = λ p v.
    let none : length c.loop-left.left.now ≡ 0 = grind (arith, common_steps, nat_tests) in
    c.told.ensures ∙ (sym (found-none _ _ p _ _ none) ∙ c.loop-left.invariant.1 p v)
