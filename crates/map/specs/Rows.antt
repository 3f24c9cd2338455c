-- What the bytes of a set or a map mean: rising peers, or pairs of a peer and a digest.
use Rattle.std.specs.Prelude.{ℕ, suc, ◌+◌, ◌*◌, ◌/◌, ◌%◌, List, [], ◌∷◌, Bool, true, ◌&&◌, length, get_or, ltb, eqb, Option, None, Some, option_map}
use Rattle.base.specs.Base.{pick, tabulate}
use Rattle.parts.specs.Bytes.{id_at}
use Rattle.map.specs.declared.Arrangement.{Arrangement}
use Rattle.map.specs.declared.Arrangement.TheVariants.{Pairs, Columns}

-- a peer and its digest
pub record Pair : Type 0 where
  pub peer : ℕ
  pub digest : ℕ

-- ---- what a map's bytes mean stands in the next definition alone; Moved.antt says how one arrangement becomes the other

-- pair i of a map: as it was (document 01), "pairs of peer (32) and digest (32)"; and of columns (document 02, U5), "all peers rising,
-- then all digests in the same order"
unfoldable pub pair_at : Arrangement → List ℕ → ℕ → Pair
pair_at Pairs s i = record { peer = id_at s (64 * i); digest = id_at s (64 * i + 32) }
pair_at Columns s i = record { peer = id_at s (32 * i); digest = id_at s (32 * (length s / 64 + i)) }

unfoldable pub pairs_in : Arrangement → List ℕ → List Pair
unfolding tabulate pair_at
pairs_in a s = tabulate (pair_at a s) (length s / 64) 0

-- the pairs of a map as the calls read it
abbrev pub pairs_of : List ℕ → List Pair
pairs_of s = pairs_in Columns s

-- a set's peer i, and that of columns: peers stand one after the other there
unfoldable pub peer_at : List ℕ → ℕ → ℕ
peer_at s i = id_at s (32 * i)

-- the peers of a set (32 bytes a row), or of columns (64)
unfoldable pub peers_of : ℕ → List ℕ → List ℕ
unfolding tabulate peer_at
peers_of width s = tabulate (peer_at s) (length s / width) 0

-- ---- lists of peers and of pairs

-- document 01: "strictly rising as byte strings"
unfoldable pub rising : List ℕ → Bool
rising [] = true
rising (x ∷ []) = true
rising (x ∷ y ∷ l) = ltb x y && rising (y ∷ l)

-- a set, or columns, of whole rows whose peers rise; the table of fields keeps it at 255 rows
unfoldable pub well_rowed : ℕ → List ℕ → Bool
unfolding rising peers_of
well_rowed width s = eqb (length s % width) 0 && rising (peers_of width s)

-- the position of a peer, counted from i where the list begins
unfoldable pub find_from : ℕ → List ℕ → ℕ → Option ℕ
find_from i [] x = None
find_from i (y ∷ l) x = pick (eqb y x) (Some i) (find_from (suc i) l x)

-- the one question whether a peer is in a set or a map: its position, or none. FastHashSet::contains and FastHashMap::contains_key
unfoldable pub find : List ℕ → ℕ → Option ℕ
unfolding find_from
find l x = find_from 0 l x

unfoldable pub peers : List Pair → List ℕ
peers [] = []
peers (q ∷ l) = q.peer ∷ peers l

unfoldable pub digests : List Pair → List ℕ
digests [] = []
digests (q ∷ l) = q.digest ∷ digests l

-- FastHashMap::get: the digest at the peer's position
unfoldable pub get : List Pair → ℕ → Option ℕ
unfolding find peers digests
get l x = option_map (λ n. get_or (digests l) n 0) (find (peers l) x)

-- a map of whole pairs whose peers rise
unfoldable pub is_map : Arrangement → List ℕ → Bool
unfolding rising peers pairs_in
is_map a s = eqb (length s % 64) 0 && rising (peers (pairs_in a s))
