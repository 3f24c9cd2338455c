-- `over_list` meets its contract where judging says TransInvalid.
use Rattle.std.proofs.lemmas.Grind.{common_steps}
use native.Mathlib.Omega.{arith}
use mathlib.Core.Path.{◌≡◌, sym, ◌∙◌}
use mathlib.Core.Bool.{true}
use Rattle.point.specs.Said.{said}
use Rattle.schedule.specs.Code.{settings_of}
use Rattle.reasons.specs.Code.{verdict_of}
use Rattle.clearing.proofs.Laws.{trans_reads, from_trans}
use Rattle.clearing.proofs.over_list.Goals as goal

pub search-requires : goal.search-requires
search-requires c =
    let t : c.is_trans_invalid.result ≡ true = grind (arith, common_steps) in
    trans_reads (settings_of c.args.conf) c.args.presence (said c.args.point.now) c.args.list.now c.args.required
    (verdict_of c.in_ok-verdict.verdict) c.in_ok-verdict.ensures (sym c.is_trans_invalid.ensures ∙ t)

pub returns : goal.returns
returns c =
    let t : c.is_trans_invalid.result ≡ true = grind (arith, common_steps) in
    from_trans (settings_of c.args.conf) c.args.presence (said c.args.point.now) c.args.list.now c.args.required
    (verdict_of c.in_ok-verdict.verdict) c.in_ok-verdict.ensures (sym c.is_trans_invalid.ensures ∙ t) _
    (c.search.ensures (said c.args.point.now) c.from.ensures)
