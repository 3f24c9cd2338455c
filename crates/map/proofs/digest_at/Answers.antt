use Rattle.std.proofs.Common.{◌∙◌, sym, ap, ◌*◌, ◌+◌, arith}
use Rattle.parts.specs.Bytes.{id_at}
use Rattle.map.specs.declared.Arrangement.TheVariants.{Columns}
use Rattle.map.specs.Rows.{Pair, pair_at}
use Rattle.map.proofs.Laws.{pairs_in-at, peers_of-length, digest-room, digests-at}
use Rattle.map.proofs.digest_at.Goals as goal

pub overflow_add-count : goal.overflow_add-count
overflow_add-count c = omega (arith, digest-room _ _ c.requires, peers_of-length 64 c.args.map.now)

pub overflow_mul-count : goal.overflow_mul-count
overflow_mul-count c = omega (arith, digest-room _ _ c.requires, peers_of-length 64 c.args.map.now)

pub id_at-requires : goal.id_at-requires
id_at-requires c = omega (arith, digest-room _ _ c.requires, peers_of-length 64 c.args.map.now)

pub returns : goal.returns
unfolding pair_at
returns c =
    let d = pair_at Columns c.args.map.now 0 in
    let digest = digests-at _ _ d c.requires ∙ ap (λ (q : Pair). q.digest) (pairs_in-at _ _ _ d c.requires) in
    c.id_at.ensures ∙ (ap (λ n. id_at c.args.map.now (32 * (n + c.args.i))) (c.count.ensures.many ∙ peers_of-length 64 _) ∙ sym digest)
