use Rattle.std.proofs.Common.{◌∙◌, ◌-◌, refl, arith, rules, tests}
use Rattle.std.proofs.lemmas.Iterator.{YieldsList-from_range}
use Rattle.std.proofs.lemmas.Iterator.Search.{all_from_yields_List}
use Rattle.map.specs.Rows.{peer_at, peers_of}
use Rattle.map.proofs.Laws.{peers_of-at, rises_at, rises}
use Rattle.map.proofs.is_rising.Goals as goal

pub returns : goal.returns
returns c =
    let s = c.args.rows.now in
    let n = c.count.result in
    all_from_yields_List (rises_at (peer_at s)) _ _ _ c.all.ensures.ran (YieldsList-from_range 1 n (n - 1) refl refl) (λ x b q k. search (rules, tests))
    ∙ rises (peer_at s) (peers_of c.args.width s) (peers_of-at c.args.width s) (n - 1) (omega arith)
