-- `read_blob` meets its contract: only the part from the place to the end is written.
use native.Mathlib.Omega.{arith}
use Prim.Native.Nat.{◌+◌, ◌-◌}
use borrow.Author.Rules.{rules}
use borrow.Rule.Slice.PartMut.{take_put, drop_put}
use Rattle.case_files.proofs.read_blob.Goals as goal

pub returns : goal.returns
returns g c =
    let a = c.args in
    let part = c.read_exact.new.buf in
    let end = a.at + c.read_length-n.result in record {
      inside = omega arith;
      from = omega arith;
      before = take_put a.at (end - a.at) a.buf.now part (omega arith);
      after = drop_put a.at end a.buf.now part (omega arith) (omega arith) (search rules);
    }
