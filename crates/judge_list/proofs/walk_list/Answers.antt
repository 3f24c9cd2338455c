-- `walk_list` meets its contract. The invariant: the walk so far, over what is left of the list, gives what the walk over the whole gives.
use Rattle.std.specs.Prelude.{Some, option_map, is_some}
use Rattle.std.proofs.lemmas.Grind.{common_steps}
use Rattle.std.proofs.lemmas.Bool.Decides.{nat_tests}
use Prim.Native.Nat.{ℕ, ◌-◌, ◌≤◌, ◌<◌}
use native.Mathlib.Omega.{arith}
use mathlib.Core.Path.{◌≡◌, refl, ap, sym, ◌∙◌}
use mathlib.Core.Bool.{Bool, true, false}
use mathlib.Core.List.{List}
use lib.ListN.{length, take, drop}
use Rattle.base.proofs.Lists.{rest}
use Rattle.point.specs.Said.{said}
use Rattle.schedule.specs.Settings.{Settings}
use Rattle.schedule.specs.Code.{settings_of}
use Rattle.rules.specs.List.{is_in_order, read_entry, list_from, read_list, read_list_in}
use Rattle.judge_entries.specs.Entry.{listed_of}
use Rattle.judge_step.specs.Code.{judging_of, gives_of}
use Rattle.judge_step.proofs.Laws.{passed}
use Rattle.judge_list.specs.Code.{Walk, Viewed, viewed, walk_step, walk_with, walk_start, viewed_of}
use Rattle.judge_list.proofs.Laws.{turn-unread, turn_disordered, goes_on, too_many, walk_end, viewed_by, walked-quiet, walked-nothing, walked_giving}
use Rattle.judge_list.proofs.walk_list.Goals as goal
use Rattle.judge_list.proofs.walk_list.Goals.{At-loop-rest, In-Some}

abbrev conf : At-loop-rest → Settings
conf l = settings_of l.args.conf

abbrev point : At-loop-rest → Viewed
point l = viewed_of l.from.result l.args.point.now.info

-- what is left of the list, and what was found before it
abbrev left : At-loop-rest → List ℕ
left l = l.loop-rest.rest.now

abbrev walk : At-loop-rest → Walk
walk l = record { judging = judging_of l.loop-rest.judging; uncovered = l.loop-rest.uncovered }

-- the walk over the whole list is that over the point's own view
whole : (l : At-loop-rest) →
    walk_with (conf l) l.args.required (point l) (walk l) (list_from l.loop-rest.left l.loop-rest.indirect_seen (left l))
    ≡ walk_with (conf l) l.args.required (viewed (said l.args.point.now)) walk_start (read_list l.args.list.now)
whole l =
    let p = l.args.point.now in
    l.loop-rest.invariant
    ∙ ap (λ v. walk_with (conf l) l.args.required v walk_start (read_list l.args.list.now)) (viewed_by l.from.result p.info p.rec.now l.from.ensures)

read : (o : In-Some) → read_entry o.loop-rest.rest.now ≡ Some (listed_of o.in-Some.x)
read o = sym o.read_entry.ensures.same ∙ ap (option_map listed_of) o.in-Some.is

within : (o : In-Some) → (0 < o.in-Some.x.size) × (o.in-Some.x.size ≤ length o.loop-rest.rest.now)
within o = o.in-Some.ensures.sized

-- the walk goes on after an entry that stands in order
goes : (o : In-Some) (v : Walk) (seen : Bool) →
    let s = o.loop-rest.rest.now in
    let x = o.in-Some.x in
    let c = settings_of o.args.conf in
    let p = viewed_of o.from.result o.args.point.now.info in
    let w : Walk = record { judging = judging_of o.loop-rest.judging; uncovered = o.loop-rest.uncovered } in
    is_in_order o.loop-rest.indirect_seen x.aim ≡ true → seen ≡ is_some x.aim → v ≡ walk_step c o.args.required p w (listed_of x) →
    walk_with c o.args.required p v (list_from (o.loop-rest.left - 1) seen (take (length s - x.size) (drop x.size s)))
    ≡ walk_with c o.args.required p walk_start (read_list o.args.list.now)
goes o v seen g e f =
    let s = o.loop-rest.rest.now in
    let x = o.in-Some.x in
    let w : Walk = record { judging = judging_of o.loop-rest.judging; uncovered = o.loop-rest.uncovered } in
    goes_on (settings_of o.args.conf) o.args.required (viewed_of o.from.result o.args.point.now.info) w v o.loop-rest.left (o.loop-rest.left - 1) o.loop-rest.indirect_seen seen s _ (listed_of x) _
    (omega (arith, within o)) (omega (arith, o.if-left-eq0.false)) (read o) g e (rest x.size s) f o.loop-rest.invariant

all_left : (s : List ℕ) → list_from 65535 false s ≡ read_list s
unfolding read_list_in
all_left s = refl

pub loop-rest-init : goal.loop-rest-init
loop-rest-init c =
    ap (walk_with (settings_of c.args.conf) c.args.required (viewed_of c.from.result c.args.point.now.info) walk_start) (all_left c.args.list.now)

pub returns-then-left-eq0 : goal.returns-then-left-eq0
returns-then-left-eq0 c =
    let l = (goal.at.returns-then-left-eq0 c).At-loop-rest in
    let h : 0 < length (left l) = grind (arith, common_steps, nat_tests) in
    sym (sym (whole l) ∙ (ap (λ n. walk_with (conf l) c.args.required (point l) (walk l) (list_from n c.loop-rest.indirect_seen (left l))) c.if-left-eq0.true
    ∙ too_many (conf l) c.args.required (point l) (walk l) c.loop-rest.indirect_seen (left l) h))

pub returns-in_default : goal.returns-in_default
returns-in_default c =
    let l = (goal.at.returns-in_default c).At-loop-rest in
    let h : 0 < length (left l) = grind (arith, common_steps, nat_tests) in
    sym (sym (whole l) ∙ turn-unread (conf l) c.args.required (point l) (walk l) c.loop-rest.left c.loop-rest.indirect_seen (left l)
    h (omega (arith, c.if-left-eq0.false)) (sym c.in_default.ensures.same))

pub returns-then-not-is_in_order : goal.returns-then-not-is_in_order
returns-then-not-is_in_order c =
    let l = (goal.at.returns-then-not-is_in_order c).At-loop-rest in
    let o = (goal.at.returns-then-not-is_in_order c).In-Some in
    sym (sym (whole l) ∙ turn_disordered (conf l) c.args.required (point l) (walk l) c.loop-rest.left c.loop-rest.indirect_seen (left l) (listed_of c.in-Some.x)
    (omega (arith, within o)) (omega (arith, c.if-left-eq0.false)) (read o) (sym c.is_in_order.ensures ∙ c.if-not-is_in_order.true))

pub loop-rest-preserved-then-is_quiet : goal.loop-rest-preserved-then-is_quiet
loop-rest-preserved-then-is_quiet c =
    let o = (goal.at.loop-rest-preserved-then-is_quiet c).In-Some in
    let l = (goal.at.loop-rest-preserved-then-is_quiet c).At-loop-rest in
    let x = c.in-Some.x in
    let q = c.is_quiet.ensures c.if-is_quiet.true in
    goes o (walk l) c.is_some-indirect_seen.result (sym c.is_in_order.ensures ∙ c.if-not-is_in_order.false) c.is_some-indirect_seen.ensures
    (walked-quiet (conf l) c.args.required (point l) (walk l) x q.0 (passed (conf l) (point l).view c.from-quick.result x.entry c.from-quick.ensures q.1))

pub loop-rest-preserved-then-gives_nothing : goal.loop-rest-preserved-then-gives_nothing
loop-rest-preserved-then-gives_nothing c =
    let o = (goal.at.loop-rest-preserved-then-gives_nothing c).In-Some in
    let l = (goal.at.loop-rest-preserved-then-gives_nothing c).At-loop-rest in
    goes o _ c.is_some-indirect_seen.result (sym c.is_in_order.ensures ∙ c.if-not-is_in_order.false) c.is_some-indirect_seen.ensures
    (walked-nothing (conf l) c.args.required (point l) (walk l) (listed_of c.in-Some.x) (gives_of c.listed_gives-gives.result) _ _ c.listed_gives-gives.ensures (sym c.gives_nothing.ensures ∙ c.if-gives_nothing.true)
    c.uncovers-uncovered.ensures refl)

pub loop-rest-preserved : goal.loop-rest-preserved
loop-rest-preserved c =
    let o = (goal.at.loop-rest-preserved c).In-Some in
    let l = (goal.at.loop-rest-preserved c).At-loop-rest in
    goes o _ c.is_some-indirect_seen.result (sym c.is_in_order.ensures ∙ c.if-not-is_in_order.false) c.is_some-indirect_seen.ensures
    (walked_giving (conf l) c.args.required (point l) (walk l) (listed_of c.in-Some.x) (gives_of c.listed_gives-gives.result) c.is_some-indirect_seen.result _ _ (judging_of c.with_listed-judging.result) c.listed_gives-gives.ensures c.is_some-indirect_seen.ensures c.with_listed-judging.ensures
    c.uncovers-uncovered.ensures refl)

pub returns : goal.returns
returns c =
    let l = (goal.at.returns c).At-loop-rest in
    let h : length (left l) ≡ 0 = grind (arith, common_steps, nat_tests) in
    sym (sym (whole l) ∙ walk_end (conf l) c.args.required (point l) (walk l) c.loop-rest.left c.loop-rest.indirect_seen (left l) h)
