-- The peers that are scheduled at a round: they rise, and are at most 255.
use Prim.Native.Nat.{ℕ, ◌≤◌}
use mathlib.Core.Path.{◌≡◌}
use mathlib.Core.Bool.{true}
use mathlib.Core.List.{List}
use lib.ListN.{length}
use Rattle.std.specs.Prelude.{Some}
use Rattle.map.specs.Rows.{rising}
use Rattle.schedule.specs.Schedule.{Schedule, read_schedule, peers_for}
use Rattle.schedule.proofs.Laws.{peers-few}

module _ (s : List ℕ) (c : Schedule) (round : ℕ) (h : read_schedule s ≡ Some c) where
  pub peers_rise : rising (peers_for c round) ≡ true
  peers_rise = (peers-few s c round h).rises

  pub peers_few : length (peers_for c round) ≤ 255
  peers_few = (peers-few s c round h).few

pub ruleset round_facts = (peers_rise, peers_few)
