-- `line_bytes` meets its contract: piece after piece.
use native.Mathlib.Omega.{arith}
use mathlib.Core.Path.{subst}
use mathlib.Core.List.{List}
use Prim.Native.Nat.{ℕ}
use Rattle.tally_line.specs.Code.{Put}
use Rattle.tally_line.proofs.Laws.{joined, counts, line_pieces}
use Rattle.tally_line.proofs.line_bytes.Goals as goal

pub returns : goal.returns
returns c =
    let l = c.args.line in
    let out = c.args.out.now in
    let p = c.put_number-place_end.ensures in
    let q = c.put_number-round_end.ensures in
    let r = c.put-letter_end.ensures in
    let t = c.put_number-reason_end.ensures in
    let u = c.put_number.ensures in
    let two = joined out 0 _ _ _ _ _ _ p.put q.put (omega (arith, p.within, q.within)) in
    let three = joined out 0 _ _ _ _ _ _ two r (omega (arith, p.within, q.within, r.ends)) in
    let four = joined out 0 _ _ _ _ _ _ three t.put (omega (arith, p.within, q.within, r.ends, t.within)) in
    let five = joined out 0 _ _ _ _ _ _ four u.put (omega (arith, p.within, q.within, r.ends, t.within, u.within)) in
    record {
      put = subst (λ (x : List ℕ). Put out 0 x c.put_number.new.out c.put_number.result) (line_pieces l) five;
      counts = counts out _ c.put_number.new.out c.put_number.result five (omega (arith, p.within, q.within, r.ends, t.within, u.within));
    }
