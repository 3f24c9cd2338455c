-- `row_of` meets its contract: the author's row by `search`, and its digest beside it.
use mathlib.Core.Path.{◌≡◌, ap, sym, ◌∙◌}
use Rattle.std.specs.Prelude.{Some}
use lib.Dec.{eqb}
use Rattle.point.specs.Code.{point_id_of}
use Rattle.parts.specs.Code.{number}
use Rattle.map.specs.Rows.{pairs_of, find, peers, rising}
use Rattle.point.proofs.Maps.{pairs_peers}
use Rattle.judge_mismatch.proofs.Rows.{row_inside, row_is}
use Rattle.judge_mismatch.proofs.maps.MarkedMap.row_of.Goals as goal
use Rattle.judge_mismatch.proofs.maps.MarkedMap.row_of.Goals.{In_ok-i}

found : (c : In_ok-i) → find (peers (pairs_of c.args.self.now.rows.now)) (number c.args.id.author) ≡ Some c.in_ok-i.field-0
found c = ap (λ l. find l (number c.args.id.author)) (pairs_peers _) ∙ (sym c.search.ensures ∙ c.in_ok-i.was)

pub digest_at-requires : goal.digest_at-requires
digest_at-requires c = row_inside 0 _ (point_id_of c.args.id) _ (found (goal.at.digest_at-requires c).In_ok-i)

pub returns : goal.returns
returns c =
    rw c.then_some.ensures (row_is _ _ (point_id_of c.args.id) _ _ (found (goal.at.returns c).In_ok-i) c.if-id-self.false (ap rising (pairs_peers _) ∙ c.args.self.now.rises) (c.same.ensures ∙ ap (λ n. eqb n (number c.args.id.digest)) c.digest_at.ensures))
