-- Ticket U1 of document 02, "Points that we compose ourselves": what a reader gets of what was written, and that any record is written
-- again. It is said of `composition` and `output`, what the call gives, over all drafts of such parts as the call takes.
use Rattle.std.specs.Prelude.{ℕ, ◌*◌, ◌/◌, ◌^◌, ◌≤◌, ◌<◌, ◌≡◌, true, length, get_or, take, drop, Some, Err, Ok}
use mathlib.Core.List.{List, Permᴰ}
use Rattle.parts.specs.Bytes.{Bytes, bytes_at, little_at}
use Rattle.map.specs.Rows.{peers, peers_of, pairs_of, rising}
use Rattle.record.specs.Record.{content_of}
use Rattle.point.specs.Point.{PointInfo, in_domain}
use Rattle.point.specs.Reading.{read_point}
use Rattle.compose.specs.Draft.{Draft, handed_over, composition, output}

-- bytes, 68 of an id and 102 of a link, and numbers of 4, 1 and 8 bytes
pub record Lent (d : Draft) : Type 0 where
  pub id : Bytes d.id × (length d.id ≡ 68)
  pub payload_len : d.payload_len < 256 ^ 4
  pub payload_bytes : d.payload_bytes < 256 ^ 4
  pub includes : Bytes d.includes
  pub witness : Bytes d.witness
  pub evidence : Bytes d.evidence
  pub anchor_proof : Bytes d.anchor_proof × (length d.anchor_proof ≡ 102)
  pub anchor_trigger : Bytes d.anchor_trigger × (length d.anchor_trigger ≡ 102)
  pub role : d.role < 256
  pub seq_no : d.seq_no < 256
  pub is_last : d.is_last < 256
  pub time : d.time < 256 ^ 8
  pub anchor_time : d.anchor_time < 256 ^ 8

-- "the same point": all that a point says, its maps' rows in any order
pub record SamePoint (p q : PointInfo) : Type 0 where
  pub id : q.id ≡ p.id
  pub payload_len : q.payload_len ≡ p.payload_len
  pub payload_bytes : q.payload_bytes ≡ p.payload_bytes
  pub includes : Permᴰ p.includes q.includes
  pub witness : Permᴰ p.witness q.witness
  pub evidence : Permᴰ p.evidence q.evidence
  pub anchor_proof : q.anchor_proof ≡ p.anchor_proof
  pub anchor_trigger : q.anchor_trigger ≡ p.anchor_trigger
  pub role : q.role ≡ p.role
  pub time : q.time ≡ p.time
  pub anchor_time : q.anchor_time ≡ p.anchor_time

-- a draft of a record's parts, "as the readers hand them back": a link and a role may have anything after what the record has of them
pub record PartsOf (s : List ℕ) (d : Draft) : Type 0 where
  pub id : d.id ≡ content_of s 0
  pub payload_len : d.payload_len ≡ little_at 4 (content_of s 1) 0
  pub payload_bytes : d.payload_bytes ≡ little_at 4 (content_of s 1) 4
  pub includes : d.includes ≡ content_of s 2
  pub witness : d.witness ≡ content_of s 3
  pub evidence : d.evidence ≡ content_of s 4
  pub anchor_proof : take (length (content_of s 5)) d.anchor_proof ≡ content_of s 5
  pub anchor_trigger : take (length (content_of s 6)) d.anchor_trigger ≡ content_of s 6
  pub role : d.role ≡ get_or (content_of s 7) 0 0
  pub proof : d.role ≡ 1 → (d.seq_no ≡ get_or (content_of s 7) 1 0) × (d.is_last ≡ get_or (content_of s 7) 2 0)
  pub time : d.time ≡ little_at 8 (content_of s 8) 0
  pub anchor_time : d.anchor_time ≡ little_at 8 (content_of s 8) 8

-- the same draft but for "any order" of each map's rows
pub record SameRows (d e : Draft) : Type 0 where
  pub id : e.id ≡ d.id
  pub payload_len : e.payload_len ≡ d.payload_len
  pub payload_bytes : e.payload_bytes ≡ d.payload_bytes
  pub includes : Permᴰ (pairs_of d.includes) (pairs_of e.includes) × (length e.includes ≡ length d.includes)
  pub witness : Permᴰ (pairs_of d.witness) (pairs_of e.witness) × (length e.witness ≡ length d.witness)
  pub evidence : Permᴰ (peers_of 32 d.evidence) (peers_of 32 e.evidence) × (length e.evidence ≡ length d.evidence)
  pub anchor_proof : e.anchor_proof ≡ d.anchor_proof
  pub anchor_trigger : e.anchor_trigger ≡ d.anchor_trigger
  pub role : e.role ≡ d.role
  pub seq_no : e.seq_no ≡ d.seq_no
  pub is_last : e.is_last ≡ d.is_last
  pub time : e.time ≡ d.time
  pub anchor_time : e.anchor_time ≡ d.anchor_time

-- ---- the numbers, said without the definitions of the call

-- a map of whole rows, at most 255
abbrev pub WholeRows : ℕ → List ℕ → Type 0
WholeRows width s = (n : ℕ) × (n ≤ 255) × (length s ≡ width * n)

-- without it 3: "a map over 255 or not of whole pairs or peers"
pub record WholeMaps (d : Draft) : Type 0 where
  pub includes : WholeRows 64 d.includes
  pub witness : WholeRows 64 d.witness
  pub evidence : WholeRows 32 d.evidence

-- without it 4: a kind or a map of a link over 1, a role over 3, is_last over 1 of a proof, and document 01's "rounds 4 to 2,147,483,647;
-- times up to 2^63 − 1". Nothing is asked of payload numbers, of a seq_no, of a target or of how the parts belong together: "It does not
-- verify: a drill may need an ill-formed point"
pub record Known (d : Draft) : Type 0 where
  pub anchor_proof : (get_or d.anchor_proof 0 0 ≤ 1) × (get_or d.anchor_proof 1 0 ≤ 1)
  pub anchor_trigger : (get_or d.anchor_trigger 0 0 ≤ 1) × (get_or d.anchor_trigger 1 0 ≤ 1)
  pub role : d.role ≤ 3
  pub is_last : d.role ≡ 1 → d.is_last ≤ 1
  pub round : (4 ≤ little_at 4 d.id 0) × (little_at 4 d.id 0 ≤ 2147483647)
  pub time : d.time < 2 ^ 63
  pub anchor_time : d.anchor_time < 2 ^ 63

-- the peers at two places of a map's first n rows differ, whatever stands beside them
abbrev pub PeersDiffer : ℕ → List ℕ → Type 0
PeersDiffer n s = (i j : ℕ) → i < j → j < n → bytes_at 32 s (32 * i) ≡ bytes_at 32 s (32 * j) → ⊥

-- without it 13: "a peer twice in a map"
pub record PeersOnce (d : Draft) : Type 0 where
  pub includes : PeersDiffer (length d.includes / 64) d.includes
  pub witness : PeersDiffer (length d.witness / 64) d.witness
  pub evidence : PeersDiffer (length d.evidence / 32) d.evidence

-- "3 .., then 4, 13, 14 are tested", and nothing else: of an output of `size` and a record of `long` bytes
pub record Numbers (d : Draft) (size long : ℕ) : Type 0 where
  pub three : (WholeMaps d → ⊥) → composition d size ≡ Err 3
  pub four : WholeMaps d → (Known d → ⊥) → composition d size ≡ Err 4
  pub thirteen : WholeMaps d → Known d → (PeersOnce d → ⊥) → composition d size ≡ Err 13
  pub fourteen : WholeMaps d → Known d → PeersOnce d → size < long → composition d size ≡ Err 14
  pub none : WholeMaps d → Known d → PeersOnce d → long ≤ size → composition d size ≡ Ok long

abbrev pub written : Draft → List ℕ → List ℕ
written d out = output d out (composition d (length out))

-- ---- the statement

pub record PointsComposed : Type 0 where
  -- "The reader gives back the same point for whatever the writer wrote"; "Maps arrive in any order and are written rising"
  pub reads : (d : Draft) (out : List ℕ) (n : ℕ) → Lent d → composition d (length out) ≡ Ok n →
      (p q : PointInfo)
      × (handed_over d ≡ Some p)
      × Bytes (take n (written d out))
      × (read_point (take n (written d out)) ≡ Some q)
      × SamePoint p q
      × (rising (peers q.includes) ≡ true)
      × (rising (peers q.witness) ≡ true)
      × (rising q.evidence ≡ true)
  -- "the output behind them keeps its bytes"
  pub rest : (d : Draft) (out : List ℕ) (n : ℕ) → composition d (length out) ≡ Ok n →
      (n ≤ length out) × (length (written d out) ≡ length out) × (drop n (written d out) ≡ drop n out)
  -- document 01: "A number comes .. with all lent bytes unchanged"
  pub refused : (d : Draft) (out : List ℕ) (n : ℕ) → composition d (length out) ≡ Err n → written d out ≡ out
  -- which number comes, and that a draft without one is written; a record's length does not depend on the output
  pub numbers : (d : Draft) → Lent d → (long : ℕ) × ((size : ℕ) → Numbers d size long)
  -- "and the writer gives back the same bytes for every record the reader took whose round and times lie in the domain"
  pub again : (s : List ℕ) (p : PointInfo) (d : Draft) (out : List ℕ) →
      Bytes s → read_point s ≡ Some p → in_domain p ≡ true → Lent d → PartsOf s d → length s ≤ length out →
      (composition d (length out) ≡ Ok (length s)) × (take (length s) (written d out) ≡ s)
  -- "Maps arrive in any order": in which changes no byte and no number
  pub any_order : (d e : Draft) (out : List ℕ) → SameRows d e →
      (composition e (length out) ≡ composition d (length out)) × (written e out ≡ written d out)
