use Rattle.std.proofs.Common.{◌∙◌, ◌-◌, ◌*◌, ◌/◌, ℕ, refl, sym, ap, arith, rules, tests, length, ◌&&◌, eq-eqb, ◌%◌}
use Rattle.std.proofs.lemmas.Iterator.{YieldsList-from_range}
use Rattle.std.proofs.lemmas.Iterator.Search.{all_from_yields_List}
use Rattle.parts.specs.Bytes.{id_at}
use Rattle.map.specs.declared.Arrangement.TheVariants.{Pairs}
use Rattle.map.specs.Rows.{pairs_in, peers, rising, is_map}
use Rattle.map.proofs.Laws.{pair_peers-at, pair_peers-length, rises_at, rises}
use Rattle.map.proofs.is_map_of_pairs.Goals as goal

pub returns-then-map-eq0 : goal.returns-then-map-eq0
unfolding is_map
returns-then-map-eq0 c =
    let s = c.args.map.now in
    let n = length s / 64 in
    let peer : ℕ → ℕ = λ i. id_at s (64 * i) in
    let whole = eq-eqb (length s % 64) 0 c.if-map-eq0.true in
    let rise =
    all_from_yields_List (rises_at peer) _ _ _ c.all.ensures.ran (YieldsList-from_range 1 n (n - 1) refl refl) (λ x b q k. search (rules, tests))
    ∙ rises peer (peers (pairs_in Pairs s)) (pair_peers-at s) (n - 1) (omega (arith, pair_peers-length s))
    in
    rise ∙ ap (λ b. b && rising (peers (pairs_in Pairs s))) (sym whole)
