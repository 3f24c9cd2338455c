-- `is_in_order` meets its contract: it has told of the positions before k.
use Rattle.std.proofs.Common.{ℕ, ◌<◌, ◌≡◌, true, get_or}
use Rattle.compose.proofs.put.is_in_order.Given as goal

abbrev pub invariant-loop-k : goal.invariant-loop-k
invariant-loop-k l = record {
  only : l.in_order ≡ true → (i : ℕ) → i < l.k → get_or l.order i 0 ≡ i;
  each : ((i : ℕ) → i < l.k → get_or l.order i 0 ≡ i) → l.in_order ≡ true;
}
