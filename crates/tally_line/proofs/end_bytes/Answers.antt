-- `end_bytes` meets its contract: a number after the word.
use native.Mathlib.Omega.{arith}
use mathlib.Core.Path.{subst}
use mathlib.Core.List.{List}
use Prim.Native.Nat.{ℕ}
use Rattle.tally_line.specs.Code.{Put}
use Rattle.tally_line.proofs.Laws.{joined, counts, end_pieces}
use Rattle.tally_line.proofs.end_bytes.Goals as goal

pub returns : goal.returns
returns c =
    let out = c.args.out.now in
    let u = c.put_number.ensures in
    let both = joined out 0 _ _ _ _ _ _ c.put-word_end.ensures u.put (omega arith) in
    record {
      put = subst (λ (x : List ℕ). Put out 0 x c.put_number.new.out c.put_number.result) (end_pieces c.args.kept) both;
      counts = counts out _ c.put_number.new.out c.put_number.result both (omega (arith, u.within));
    }
