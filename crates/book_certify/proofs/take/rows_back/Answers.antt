-- `rows_back` meets its contract.
use native.Mathlib.Omega.{arith}
use Rattle.record.proofs.Laws.{next-within}
use Rattle.book_certify.proofs.take.rows_back.Goals as goal

pub content_at-requires-in-Witness : goal.content_at-requires-in-Witness
content_at-requires-in-Witness c = omega (arith, c.next.ensures, next-within c.args.s.now 82)
