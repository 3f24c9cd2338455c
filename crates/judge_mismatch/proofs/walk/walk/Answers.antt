-- `walk` meets its contract. The invariant of the entries is `Gone`, that of the maps `Marking`, with their laws.
use Rattle.std.specs.Prelude.{None, Some, option_map}
use mathlib.Core.Path.{◌≡◌, refl, ap, sym, ◌∙◌, subst}
use Prim.Native.Nat.{◌<◌}
use native.Mathlib.Omega.{arith}
use lib.ListN.{length, get_or}
use Rattle.base.proofs.Option.{unfound}
use Rattle.map.specs.Rows.{pairs_of}
use Rattle.point.specs.Code.{point_id_of}
use Rattle.point.proofs.Maps.{pairs_many}
use Rattle.rules.specs.List.{directs}
use Rattle.judge_mismatch.specs.Code.{maps_in, IsRow}
use Rattle.judge_mismatch.proofs.Heads.{directs-last}
use Rattle.judge_mismatch.proofs.Laws.{no_entries, gone_start, gone_end, going_dropped, going_twice, going_fails, going_placed, marked-stood, marking_start, marking_at, marking_absent, marking_end}
use Rattle.judge_mismatch.proofs.walk.walk.Goals as goal
use Rattle.judge_mismatch.proofs.walk.walk.Goals.{Else-is_some, In-Some-id, In-Some-row_of}

direct : (c : Else-is_some) → c.in-Some.head.aim ≡ None
direct c = unfound _ (sym c.is_some.ensures ∙ c.if-is_some.false)

with_id : (c : In-Some-id) → option_map point_id_of c.in-Some.head.id ≡ Some (point_id_of c.in-Some-id.id)
with_id c = ap (option_map point_id_of) c.in-Some-id.is

row : (c : In-Some-row_of) →
    let y = get_or c.loop-map.maps c.loop-map.map-index c.map-item.result in
    IsRow y.round (pairs_of y.rows.now) (point_id_of c.in-Some-id.id) (Some c.in-Some-row_of.i)
row c = subst (IsRow _ _ _) c.in-Some-row_of.is c.row_of.ensures

inside : (c : In-Some-row_of) → c.in-Some-row_of.i < 255
inside c =
    let y = get_or c.loop-map.maps c.loop-map.map-index c.map-item.result in
    omega (arith, (row c).0, pairs_many y.rows.now, y.few)

pub entries-init : goal.entries-init
entries-init c = gone_start _ _ _ _ c.entries-left.ensures.list c.entries-left.ensures.at c.requires.maps_value c.requires.once

pub entries-preserved-in_default-id : goal.entries-preserved-in_default-id
entries-preserved-in_default-id c =
    let at = goal.at.entries-preserved-in_default-id c in
    let g = c.entries.invariant in
    let e = c.in-Some.ensures.steps in
    record {
      whole = e.list ∙ g.whole;
      small = omega (arith, g.small, e.place, e.next, e.least);
      going = λ presence n. going_dropped (g.going presence n) e.front (direct at.Else-is_some) (ap (option_map point_id_of) c.in_default-id.is);
    }

pub loop-map-init : goal.loop-map-init
loop-map-init c = λ before m. marking_start m

pub loop-map-preserved-in_default-row_of : goal.loop-map-preserved-in_default-row_of
loop-map-preserved-in_default-row_of c =
    λ before m.
    marking_absent (c.loop-map.invariant before m) (omega (arith, c.loop-map-test.true, c.loop-map.auto.maps)) _ (subst (IsRow _ _ _) c.in_default-row_of.is c.row_of.ensures)

pub bounds-map-i : goal.bounds-map-i
bounds-map-i c = inside (goal.at.bounds-map-i c).In-Some-row_of

pub bounds-map-i-in-loop-map : goal.bounds-map-i-in-loop-map
bounds-map-i-in-loop-map c = inside (goal.at.bounds-map-i-in-loop-map c).In-Some-row_of

pub loop-map-preserved : goal.loop-map-preserved
loop-map-preserved c =
    λ before m.
    marking_at (c.loop-map.invariant before m) (omega (arith, c.loop-map-test.true, c.loop-map.auto.maps)) _ _ (row (goal.at.loop-map-preserved c).In-Some-row_of) c.if-map-i.false _ refl refl refl

pub entries-preserved : goal.entries-preserved
entries-preserved c =
    let at = goal.at.entries-preserved c in
    let g = c.entries.invariant in
    let e = c.in-Some.ensures.steps in
    record {
      whole = e.list ∙ g.whole;
      small = omega (arith, g.small, e.place, e.next);
      going = λ presence n.
          let i = g.going presence n in
          let marked = marking_end (c.loop-map.invariant i.walk.before i.walk.marks) (omega (arith, c.loop-map-test.false, c.loop-map.auto.maps)) in
          let many : length c.loop-map.maps ≡ maps_in presence = c.loop-map.auto.maps ∙ (c.entries.auto.maps ∙ n) in
          going_placed i e.front (direct at.Else-is_some) _ (with_id at.In-Some-id) _ marked many (sym c.has_place.ensures ∙ c.if-not-has_place.false);
    }

pub returns-in_default : goal.returns-in_default
returns-in_default c =
    let g = c.entries.invariant in
    let e = c.entries.left in
    let end : e.at ≡ length c.args.list.now.bytes.now = omega (arith, ap length g.whole, c.in_default.ensures.steps.1, e.within) in
    λ presence n.
    rw (← end) (gone_end g presence n (ap directs c.in_default.ensures.steps.0 ∙ no_entries))

pub returns-then-is_some : goal.returns-then-is_some
returns-then-is_some c =
    let e = c.in-Some.ensures.steps in
    λ presence n.
    rw e.place (gone_end c.entries.invariant presence n (directs-last e.front (sym c.is_some.ensures ∙ c.if-is_some.true)).0)

pub returns-then-map-i : goal.returns-then-map-i
returns-then-map-i c =
    let at = goal.at.returns-then-map-i c in
    λ presence n.
    let i = c.entries.invariant.going presence n in
    let stood = marked-stood (c.loop-map.invariant i.walk.before i.walk.marks) (omega (arith, c.loop-map-test.true, c.loop-map.auto.maps)) _ _ (row at.In-Some-row_of) c.if-map-i.true in
    going_twice i c.in-Some.ensures.steps.front (direct at.Else-is_some) _ (with_id at.In-Some-id) stood

pub returns-then-not-has_place : goal.returns-then-not-has_place
returns-then-not-has_place c =
    let at = goal.at.returns-then-not-has_place c in
    λ presence n.
    let i = c.entries.invariant.going presence n in
    let marked = marking_end (c.loop-map.invariant i.walk.before i.walk.marks) (omega (arith, c.loop-map-test.false, c.loop-map.auto.maps)) in
    let many : length c.loop-map.maps ≡ maps_in presence = c.loop-map.auto.maps ∙ (c.entries.auto.maps ∙ n) in
    going_fails i c.in-Some.ensures.steps.front (direct at.Else-is_some) _ (with_id at.In-Some-id) _ marked many (sym c.has_place.ensures ∙ c.if-not-has_place.true)
