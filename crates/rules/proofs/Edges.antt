-- The edges hold: the checker computes each.
use mathlib.Core.Path.{refl}
use Rattle.base.specs.Base.{concat, first_of, last_of}
use Rattle.map.specs.Rows.{get, find, find_from, peers, digests}
use Rattle.point.specs.Point.{digest_safe, prev_digest, source, target, top, same_id}
use Rattle.rules.specs.Verify.{links_own, target_too_new, bad_link, own_point_rows, link_rows, structure_rows, genesis_structure_rows, sticky_fault}
use Rattle.reasons.specs.Invalid.{dag_round}
use Rattle.rules.specs.DagPoint.{link_ids, point_view, dep_view}
use Rattle.rules.specs.Validate.{proof_row, trigger_proof_row, time_row, newer_row, sticky_row, reached_row, target_row, anchor_time_row, carried_row, source_row, anchor_rows, point_rows, taken, dependency_trail, record_of, is_newer, join, dependency, entry_findings, check_valid, check_indirect_links, over_lists}
use Rattle.rules.specs.Edges.{Edges, conf}

pub edges : Edges
unfolding concat first_of last_of get find find_from peers digests digest_safe prev_digest links_own target_too_new bad_link own_point_rows link_rows structure_rows genesis_structure_rows sticky_fault conf source target top dag_round same_id proof_row trigger_proof_row time_row newer_row sticky_row reached_row target_row anchor_time_row carried_row source_row point_rows taken dependency_trail record_of is_newer join dependency entry_findings check_valid check_indirect_links over_lists anchor_rows link_ids point_view dep_view
edges =
    record {
      near = refl;
      far = refl;
      direct = refl;
      first_proof = refl;
      later_proof = refl;
      later_trigger = refl;
      included = refl;
      reversed = refl;
      equal_above = refl;
      later_above = refl;
      equal_genesis = refl;
      later_genesis = refl;
      too_many = refl;
      not_last = refl;
      last_too_soon = refl;
      last_in_time = refl;
      in_window = refl;
      past_window = refl;
      dag_round_later = refl;
      dag_round_first = refl;
      last_reason = refl;
      last_reason_reversed = refl;
      dropped_later = refl;
      dropped_first = refl;
      in_skew = refl;
      past_skew = refl;
    }
