-- The maps of a record that was read as a point: their peers rise, and none has over 255.
use Prim.Native.Nat.{ℕ, ◌+◌, ◌*◌, ◌≤◌, ◌<◌}
use native.Mathlib.Omega.{arith}
use mathlib.Core.Path.{◌≡◌, ap, sym, ◌∙◌}
use mathlib.Core.Bool.{true}
use mathlib.Core.List.{List}
use lib.ListN.{length, get_or}
use Rattle.map.specs.Rows.{Pair, peer_at, peers_of, pairs_of, peers, digests, rising}
use Rattle.map.proofs.Laws.{peers_of-at, peers_room, peers-pairs_of, peers-length, peers-at, digests-at}
use Rattle.record.specs.Record.{content_of}
use Rattle.point.specs.Code.{Reads}
use Rattle.point.specs.declared.info.PointInfo as code-info
use Rattle.point.proofs.Laws.{readable}

-- the peers of a map are those of its rows, as many as its pairs
pub pairs_peers : (s : List ℕ) → peers (pairs_of s) ≡ peers_of 64 s
pairs_peers s = peers-pairs_of s

pub pairs_many : (s : List ℕ) → length (pairs_of s) ≡ length (peers_of 64 s)
pairs_many s = sym (peers-length (pairs_of s)) ∙ ap length (peers-pairs_of s)

-- the digest and the peer of a row are its pair's
module _ (s : List ℕ) (i : ℕ) (q : Pair) (h : i < length (pairs_of s)) where
  pub row_digest : get_or (digests (pairs_of s)) i 0 ≡ (get_or (pairs_of s) i q).digest
  row_digest = digests-at (pairs_of s) i q h

  pub row_peer : peer_at s i ≡ (get_or (pairs_of s) i q).peer
  row_peer =
      sym (peers_of-at 64 s i (rw (← pairs_many s) h))
      ∙ (ap (λ (l : List ℕ). get_or l i 0) (sym (peers-pairs_of s)) ∙ peers-at (pairs_of s) i q h)

-- and it stands within the bytes
pub row-room : (s : List ℕ) (i : ℕ) → i < length (pairs_of s) → 32 * i + 32 ≤ length s
row-room s i h = omega (arith, pairs_many s, peers_room 64 s (omega arith))

pub ruleset row_facts = (pairs_many, row_digest, row_peer)

module _ (s : List ℕ) (i : code-info.PointInfo) (r : Reads s i) where
  pub includes_rises : rising (peers_of 64 (content_of s 2)) ≡ true
  includes_rises = rw (← pairs_peers (content_of s 2)) (readable s _ r.read).includes.rise

  pub includes_short : length (peers_of 64 (content_of s 2)) ≤ 255
  includes_short = rw (← pairs_many (content_of s 2)) (readable s _ r.read).includes.few

  pub witness_rises : rising (peers_of 64 (content_of s 3)) ≡ true
  witness_rises = rw (← pairs_peers (content_of s 3)) (readable s _ r.read).witness.rise

  pub witness_short : length (peers_of 64 (content_of s 3)) ≤ 255
  witness_short = rw (← pairs_many (content_of s 3)) (readable s _ r.read).witness.few

  pub evidence_rises : rising (peers_of 32 (content_of s 4)) ≡ true
  evidence_rises = (readable s _ r.read).evidence.rise

  pub evidence_short : length (peers_of 32 (content_of s 4)) ≤ 255
  evidence_short = (readable s _ r.read).evidence.few

pub ruleset map_facts = (pairs_peers, pairs_many, includes_rises, includes_short, witness_rises, witness_short, evidence_rises, evidence_short)
