-- `judge_direct_list` meets its contract: the two maps, and the versions where there is no previous point.
use Rattle.parts.specs.Code.{number}
use Rattle.std.specs.Prelude.{Option, is_some, option_map}
use mathlib.Core.Path.{◌≡◌, ap, sym, ◌∙◌}
use mathlib.Core.Bool.{true}
use Prim.Native.Nat.{ℕ}
use Rattle.judge_valid.specs.Code.{point_view_of}
use Rattle.map.specs.Rows.{pairs_of}
use Rattle.point.specs.Point.{PointInfo, in_domain}
use Rattle.point.specs.Code.{point_of}
use Rattle.point.specs.declared.info.PointInfo as code-info
use Rattle.schedule.specs.Code.{settings_of}
use Rattle.judge_step.specs.Code.{start, judging_of}
use Rattle.books.specs.Kept.{Book}
use Rattle.book_judge.specs.Code.{Asked}
use Rattle.book_judge.proofs.Laws.{in_maps, maps_judged, direct-linked, versions-after, view-prev}
use Rattle.book_judge.proofs.direct.judge_direct_list.Goals as goal
use Rattle.book_judge.proofs.direct.judge_direct_list.Goals.{After-judge_map-maps_judged}

abbrev point : After-judge_map-maps_judged → code-info.PointInfo → PointInfo
point c i = point_of c.args.point.now.rec.now i

maps : (c : After-judge_map-maps_judged) (b : Book) (i : code-info.PointInfo) →
    Asked c.args.book.now.bytes.now b c.args.book.now.index.now c.args.by.now.view (point c i) → in_domain (point c i) ≡ true →
    judging_of c.judge_map-maps_judged.result
    ≡ in_maps (settings_of c.args.by.now.conf) c.args.by.now.required (point_view_of c.args.by.now.view) b (point c i) start
maps c b i a d =
    maps_judged (settings_of c.args.by.now.conf) c.args.by.now.required (point_view_of c.args.by.now.view) b (point c i) start
    c.rounds_back-witness_round.result c.rounds_back-includes_round.result (pairs_of c.witness-witness.result.now) (pairs_of c.includes-includes.result.now)
    (judging_of c.judge_map-witness_judged.result) (judging_of c.judge_map-maps_judged.result)
    a.view d c.rounds_back-witness_round.ensures c.rounds_back-includes_round.ensures (ap pairs_of c.witness-witness.ensures) (ap pairs_of c.includes-includes.ensures)
    (c.judge_map-witness_judged.ensures b (point c i) a) (c.judge_map-maps_judged.ensures b (point c i) a)

pub returns-in-Some : goal.returns-in-Some
returns-in-Some c =
    λ b i a d.
    let q = point (goal.at.returns-in-Some c).After-judge_map-maps_judged i in
    direct-linked (settings_of c.args.by.now.conf) c.args.by.now.required (point_view_of c.args.by.now.view) b q start (judging_of c.judge_map-maps_judged.result)
    (ap (λ (o : Option ℕ). is_some o) (sym (view-prev (point_view_of c.args.by.now.view) q a.view) ∙ ap (option_map number) c.in-Some.is)) (maps (goal.at.returns-in-Some c).After-judge_map-maps_judged b i a d)

pub returns-in-None : goal.returns-in-None
returns-in-None c =
    λ b i a d.
    let q = point (goal.at.returns-in-None c).After-judge_map-maps_judged i in
    versions-after (settings_of c.args.by.now.conf) c.args.by.now.required (point_view_of c.args.by.now.view) b q start (judging_of c.judge_map-maps_judged.result) _ a.view
    (sym (view-prev (point_view_of c.args.by.now.view) q a.view) ∙ ap (option_map number) c.in-None.is)
    (maps (goal.at.returns-in-None c).After-judge_map-maps_judged b i a d) (c.judge_versions.ensures b a.holds)
