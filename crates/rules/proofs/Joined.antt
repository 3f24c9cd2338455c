-- Ticket U10's statement holds.
use Rattle.std.specs.Prelude.{Option, None, Some}
use Prim.Native.Nat.{ℕ}
use native.Mathlib.Omega.{arith}
use mathlib.Core.Path.{◌≡◌, refl, sym, ap, ◌∙◌}
use mathlib.Core.Bool.{Bool, false}
use mathlib.Core.List.{List, ◌++◌}
use Rattle.base.specs.Base.{concat, last_of}
use Rattle.base.proofs.Impossible.{impossible}
use Rattle.map.specs.Rows.{get, find, find_from, peers, digests}
use Rattle.point.specs.Point.{PointInfo, digest_safe, prev_digest, source, target, top, same_id}
use Rattle.schedule.specs.Settings.{Settings}
use Rattle.reasons.specs.Invalid.{InvalidReason, InvalidDependency, dag_round}
use Rattle.rules.specs.DagPoint.{link_ids, point_view, dep_view}
use Rattle.rules.specs.List.{Listed, read_list, directs, indirects}
use Rattle.rules.specs.Validate.{proof_row, trigger_proof_row, time_row, newer_row, sticky_row, reached_row, target_row, anchor_time_row, carried_row, source_row, anchor_rows, point_rows, taken, dependency_trail, record_of, is_newer, join, dependency, entry_findings, check_valid, check_indirect_links, result_with, over_lists, validate}
use Rattle.rules.specs.Passed.{has_reason}
use Rattle.rules.specs.Edges.{conf}
use Rattle.rules.specs.Joined.{list_findings, recorded, Silent, Joined}
use Rattle.rules.proofs.Passed.{validate-lists}
use Rattle.rules.proofs.Joins.{newer_replaces, first-stays, none_first_lem, none-second, join_self, join_assoc}
use Rattle.rules.proofs.Halves.{direct-reasons, lists-joined, silent-reasons}
use Rattle.rules.proofs.Pieces.{list-append}

-- ---- the record of judging

unreasoned : (o : Option InvalidReason) (d : Option InvalidDependency) → has_reason (result_with o d) ≡ false → result_with o d ≡ result_with None d
unreasoned None d h = refl
unreasoned (Some r) d h = impossible (cc)

pub judging_records : (c : Settings) (required : Bool) (presence : ℕ) (p : PointInfo) (l : List Listed) →
    has_reason (validate c required presence p (directs l) (indirects l)) ≡ false →
    validate c required presence p (directs l) (indirects l) ≡ result_with None (recorded c required p l)
unfolding over_lists
judging_records c required presence p l h =
    let e = validate-lists c required p (directs l) (indirects l) presence h in
    e ∙ unreasoned (last_of (list_findings c required p l).trail) (recorded c required p l) (ap has_reason (sym e) ∙ h)

-- ---- two lists of bytes

halves-joined : (c : Settings) (required : Bool) (p : PointInfo) (s t : List ℕ) (l m whole : List Listed) →
    read_list s ≡ Some l → read_list t ≡ Some m → read_list (s ++ t) ≡ Some whole → Silent c required p l →
    recorded c required p whole ≡ join (recorded c required p l) (recorded c required p m)
halves-joined c required p s t l m whole h g w q =
    let a = list-append s t l m whole h g w in
    ap (recorded c required p) a.0 ∙ lists-joined c required p l m a.1 (silent-reasons c required p l q)

-- ---- the tie: the two records differ in their authors

abbrev author_in : Option InvalidDependency → ℕ
author_in None = 0
author_in (Some d) = d.to.author

pub joined : Joined
unfolding concat last_of get find find_from peers digests digest_safe prev_digest conf source target top dag_round same_id proof_row trigger_proof_row time_row newer_row sticky_row reached_row target_row anchor_time_row carried_row source_row point_rows taken dependency_trail record_of is_newer join dependency entry_findings check_valid check_indirect_links over_lists anchor_rows link_ids point_view dep_view directs indirects
joined =
    record {
      newer = newer_replaces;
      stays = first-stays;
      none_first = none_first_lem;
      none_second = none-second;
      associative = join_assoc;
      itself = join_self;
      judging = judging_records;
      followed = λ c required p l m o h. lists-joined c required p l m o (sym (direct-reasons c required p l) ∙ h);
      halves = λ c required p s t l m whole h g w q r. halves-joined c required p s t l m whole h g w q;
      dropped_whole = refl;
      dropped_halves = refl;
      tie_first = refl;
      tie_second = refl;
      tie = λ h. (let z : ◌≡◌ {A = ℕ} 2 3 = ap author_in h in omega arith);
      tie_judged = refl;
      tie_reversed = refl;
    }
