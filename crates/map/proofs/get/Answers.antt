use Rattle.std.proofs.Common.{◌∙◌, sym, ap, Some, arith}
use Rattle.map.proofs.Laws.{peers-pairs_of, peers_of-length, pairs_of-length, find-some, get-rows}
use Rattle.map.proofs.get.Goals as goal

pub search-requires-clause-le_width : goal.search-requires-clause-le_width
search-requires-clause-le_width c = (omega arith, rw (← peers-pairs_of c.args.map.now) c.requires.0)

pub search-requires-clause-rows_len_bound : goal.search-requires-clause-rows_len_bound
search-requires-clause-rows_len_bound c = omega (arith, peers_of-length 64 c.args.map.now, pairs_of-length c.args.map.now, c.requires.1)

pub returns-in_err-i : goal.returns-in_err-i
returns-in_err-i c = rw (get-rows, ← c.search.ensures, c.in_err-i.was, c.from_residual.ensures)

pub digest_at-requires : goal.digest_at-requires
digest_at-requires c =
    omega (arith, (find-some _ _ _ (sym c.search.ensures ∙ c.in_ok-i.was)).inside, peers_of-length 64 c.args.map.now, pairs_of-length c.args.map.now)

pub returns : goal.returns
returns c = rw (get-rows, ← c.search.ensures, c.in_ok-i.was) (ap Some c.digest_at.ensures)
