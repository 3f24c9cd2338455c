-- `read_after` meets its contract. The invariant: the buffer is filled up to `end`, and its first `n` bytes are as they were.
use Rattle.std.proofs.Common.{length, take, ◌-◌, ◌≡◌, ◌≤◌}
use Rattle.tally.proofs.window.read_after.Given as goal

abbrev pub invariant-loop-end : goal.invariant-loop-end
invariant-loop-end g l = record {
  len : length l.buf ≡ length l.initial.buf;
  least : l.n ≤ l.end;
  within : l.end ≤ length l.buf;
  front : take l.n l.buf ≡ take l.n l.initial.buf;
}

abbrev pub decreases-loop-end : goal.decreases-loop-end
decreases-loop-end g l = length l.buf - l.end
