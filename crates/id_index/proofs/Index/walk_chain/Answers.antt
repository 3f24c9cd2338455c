-- `walk_chain` meets its contract: it starts at the last id of the bucket.
use native.Mathlib.Omega.{arith}
use Rattle.id_index.proofs.Laws.{search_start}
use Rattle.id_index.proofs.Index.walk_chain.Goals as goal

pub loop-j-init : goal.loop-j-init
loop-j-init c =
    let start = search_start c.requires.1.1 _ _ c.bucket.ensures.value c.bucket.ensures.upper_bound in
    record { search = start; few = omega (arith, start.within) }
