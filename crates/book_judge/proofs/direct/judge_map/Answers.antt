-- `judge_map` meets its contract. The invariant: judging so far, over the dependencies that are left, gives what judging over all gives.
use native.Mathlib.Omega.{arith}
use mathlib.Core.Path.{◌≡◌, refl, sym}
use mathlib.Core.Bool.{false}
use mathlib.Core.List.{List}
use Prim.Native.Nat.{ℕ, ◌+◌, ◌<◌}
use lib.ListN.{length, get_or}
use Rattle.judge_valid.specs.Code.{point_view_of}
use Rattle.map.specs.Rows.{pairs_of}
use Rattle.point.specs.Point as point
use Rattle.point.specs.Code.{point_id_of}
use Rattle.schedule.specs.Code.{settings_of}
use Rattle.judge_entries.specs.Entry.{entry_of}
use Rattle.judge_step.specs.Code.{Judging, direct_step, direct_fold, judging_of}
use Rattle.judge_step.proofs.Laws.{passed, passed-step}
use Rattle.judge_mismatch.specs.Code.{no_pair}
use Rattle.rules.specs.Mismatch.{pair_id}
use Rattle.books.specs.Kept.{Book}
use Rattle.books.specs.Lists.{lookups}
use Rattle.book_judge.specs.Code.{Asked, looked_of, NoVersions}
use Rattle.point.proofs.Maps.{pairs_many}
use Rattle.book_judge.proofs.Laws.{MapLeft, map-step, map-end}
use Rattle.book_judge.proofs.Looked.{dependency-judged}
use Rattle.book_judge.proofs.direct.judge_map.Goals as goal
use Rattle.book_judge.proofs.direct.judge_map.Goals.{After-lookup-entry, At-loop-i, In-loop-i, then-not-is_quiet, else-not-is_quiet}

abbrev rows : At-loop-i → List ℕ
rows c = c.args.rows.now

within : (c : In-loop-i) → c.loop-i.i < length (pairs_of c.args.rows.now)
within c = omega (arith, c.loop-i-test.true, c.count-i-end.ensures, pairs_many c.args.rows.now)

pub loop-i-init : goal.loop-i-init
loop-i-init c = λ b q a v. refl

pub pair_id-requires : goal.pair_id-requires
pair_id-requires c = within c

less : (c : After-lookup-entry) → c.loop-i.i < length (pairs_of c.args.rows.now)
less c = omega (arith, c.loop-i-test.true, c.count-i-end.ensures, pairs_many c.args.rows.now)

-- the id that was looked up is the row's
row : (c : After-lookup-entry) → point_id_of c.pair_id.result ≡ pair_id c.args.round (get_or (pairs_of c.args.rows.now) c.loop-i.i no_pair)
row c = c.pair_id.ensures no_pair

-- what was looked up makes a step
goes : (c : After-lookup-entry) (j : Judging) →
    let a = c.args in
    j ≡ direct_step (settings_of a.by.now.conf) a.by.now.required (point_view_of a.by.now.view) (judging_of c.loop-i.judging) (looked_of c.lookup-entry.result false) →
    (b : Book) (q : point.PointInfo) → Asked a.book.now.bytes.now b a.book.now.index.now a.by.now.view q → NoVersions q a.round (pairs_of a.rows.now) →
    MapLeft (settings_of a.by.now.conf) a.by.now.required (point_view_of a.by.now.view) b q a.round (pairs_of a.rows.now)
    (direct_fold (settings_of a.by.now.conf) a.by.now.required (point_view_of a.by.now.view) (judging_of a.so_far) (lookups b q a.round (pairs_of a.rows.now))) (c.loop-i.i + 1) j
goes c j h b q asked none =
    let a = c.args in
    let old = judging_of c.loop-i.judging in
    map-step (settings_of a.by.now.conf) a.by.now.required (point_view_of a.by.now.view) b q a.round (pairs_of a.rows.now) _ c.loop-i.i old (c.loop-i.invariant b q asked none)
    (less c) none (point_id_of c.pair_id.result) (row c) j
    (λ n. dependency-judged c.lookup-entry.result b q (point_id_of c.pair_id.result) (c.lookup-entry.ensures.looked_up b q asked).1 (settings_of a.by.now.conf) (point_view_of a.by.now.view) asked.view old j a.by.now.required n h)

-- what was looked up is said not to be first valid
unfirst : (c : After-lookup-entry) (j : Judging) →
    let a = c.args in
    (b : Book) (q : point.PointInfo) → Asked a.book.now.bytes.now b a.book.now.index.now a.by.now.view q →
    j ≡ direct_step (settings_of a.by.now.conf) a.by.now.required (point_view_of a.by.now.view) (judging_of c.loop-i.judging) (entry_of c.lookup-entry.result) →
    j ≡ direct_step (settings_of a.by.now.conf) a.by.now.required (point_view_of a.by.now.view) (judging_of c.loop-i.judging) (looked_of c.lookup-entry.result false)
unfirst c j b q asked h = rw (← (c.lookup-entry.ensures.looked_up b q asked).0) h

pub loop-i-preserved : goal.loop-i-preserved
loop-i-preserved c = λ b q asked none.
    let a = c.args in
    let place = (goal.at.loop-i-preserved c).After-lookup-entry in
    elim c.if-not-is_quiet.branch [
      | then-not-is_quiet w ↦ rw w.judging-is (goes place (judging_of w.judge_entry-judging.result) (unfirst place _ b q asked w.judge_entry-judging.ensures) b q asked none)
      | else-not-is_quiet w ↦
          let p = passed (settings_of a.by.now.conf) (point_view_of a.by.now.view) c.from-quick.result c.lookup-entry.result c.from-quick.ensures (c.is_quiet.ensures w.if-not-is_quiet.false) in
          rw w.judging-is (goes place (judging_of c.loop-i.judging) (unfirst place _ b q asked (sym (passed-step (settings_of a.by.now.conf) a.by.now.required (point_view_of a.by.now.view) c.lookup-entry.result p (judging_of c.loop-i.judging)))) b q asked none)
    ]

pub returns : goal.returns
returns c =
    λ b q a v.
    map-end (settings_of c.args.by.now.conf) c.args.by.now.required (point_view_of c.args.by.now.view) b q c.args.round (pairs_of (rows (goal.at.returns c).At-loop-i)) _ c.loop-i.i (judging_of c.loop-i.judging) (c.loop-i.invariant b q a v)
    (omega (arith, c.loop-i-test.false, c.count-i-end.ensures, pairs_many (rows (goal.at.returns c).At-loop-i)))
