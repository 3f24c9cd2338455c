-- What the code's values stand for.
use Rattle.std.specs.Prelude.{ℕ, ◌+◌, ◌*◌, ◌^◌, Option, option_map}
use Rattle.parts.specs.declared.Id.{Id}
use Rattle.parts.specs.declared.PeerCount.{PeerCount}

-- the number that an id of the code stands for: its four words, the first highest
unfoldable pub number : Id → ℕ
number x = ((x.a * 2 ^ 64 + x.b) * 2 ^ 64 + x.c) * 2 ^ 64 + x.d

abbrev pub peer_count_of : Option PeerCount → Option ℕ
peer_count_of o = option_map (λ n. n.0) o
