-- The bytes that peers and pairs have.
use Rattle.std.specs.Prelude.{ℕ, List, [], ◌∷◌, ◌++◌}
use Rattle.parts.specs.Bytes.{big_bytes}
use Rattle.map.specs.Rows.{Pair, peers, digests}

-- ids, peers or digests, one after the other
unfoldable pub peer_bytes : List ℕ → List ℕ
unfolding big_bytes
peer_bytes [] = []
peer_bytes (x ∷ l) = big_bytes 32 x ++ peer_bytes l

-- a map: "all peers rising, then all digests in the same order"
unfoldable pub pairs_bytes : List Pair → List ℕ
unfolding peer_bytes peers digests
pairs_bytes l = peer_bytes (peers l) ++ peer_bytes (digests l)
