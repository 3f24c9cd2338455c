-- `put_run` meets its contract. The invariant: the first `j` bytes are in place (`paste`).
use Prim.Native.Nat.{ℕ, ◌+◌}
use native.Mathlib.Omega.{arith}
use native.Mathlib.Numerals.{add-one}
use mathlib.Core.Path.{◌≡◌, ap, sym, ◌∙◌}
use mathlib.Core.List.{List}
use lib.ListN.{length, set, get_or, length-set}
use lib.Seq.{paste, paste-suc, take-length}
use Rattle.parts.specs.Bytes.{put_at}
use Rattle.write.proofs.put_run.Goals as goal

pub loop-j-preserved : goal.loop-j-preserved
loop-j-preserved c =
    let l = c.loop-j in
    let a = c.args in (
      length-set l.out _ _ ∙ l.invariant.0,
      ap (λ (o : List ℕ). set o (a.at + l.j) (get_or a.src.now l.j 0)) l.invariant.1
          ∙ (paste-suc a.out.now a.at a.src.now l.j 0 (omega arith) (omega arith) ∙ ap (paste a.out.now a.at a.src.now) (sym (add-one l.j))),
    )

pub returns : goal.returns
unfolding put_at
returns c =
    let a = c.args in
    let e : c.loop-j.j ≡ length a.src.now = omega arith in
    c.loop-j.invariant.1 ∙ rw (e, take-length a.src.now)
