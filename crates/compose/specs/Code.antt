-- What the code's values stand for, and rows that are written by an order.
use Rattle.std.specs.Prelude.{ℕ, ◌+◌, ◌*◌, ◌/◌, ◌<◌, ◌≡◌, ◌||◌, Bool, true, Option, None, Some, List, [], ◌∷◌, ◌++◌, length, get_or, take}
use Rattle.parts.specs.Bytes.{bytes_at}
use Rattle.map.specs.Rows.{peers_of}
use Rattle.map.specs.Risen.{has_twice}
use Rattle.row_order.specs.Order.{OrderOf}
use Rattle.compose.specs.Draft.{Draft, link_part, role_part}
use Rattle.compose.specs.declared.draft.Draft as code
use Rattle.compose.specs.declared.draft.Orders.{Orders}

abbrev pub draft_of : code.Draft → Draft
draft_of d =
    record {
      id = d.id.now;
      payload_len = d.payload_len;
      payload_bytes = d.payload_bytes;
      includes = d.includes.now;
      witness = d.witness.now;
      evidence = d.evidence.now;
      anchor_proof = d.anchor_proof.now;
      anchor_trigger = d.anchor_trigger.now;
      role = d.role;
      seq_no = d.seq_no;
      is_last = d.is_last;
      time = d.time;
      anchor_time = d.anchor_time;
    }

-- ---- rows by an order

-- 32 bytes each: those at the positions of an order, counted from a first
abbrev pub block_at : List ℕ → ℕ → ℕ → List ℕ
block_at s first i = bytes_at 32 s (32 * (first + i))

unfoldable pub blocks : List ℕ → ℕ → List ℕ → List ℕ
blocks s first [] = []
blocks s first (i ∷ order) = block_at s first i ++ blocks s first order

-- each position is its own place in the order: the rows stand as they are written
abbrev pub InOrder : List ℕ → Type 0
InOrder order = (k : ℕ) → k < length order → get_or order k 0 ≡ k

-- a map's peers, then its digests in the same order; and a set's peers
abbrev pub map_by : List ℕ → List ℕ → List ℕ
map_by s order = blocks s 0 (take (length s / 64) order) ++ blocks s (length s / 64) (take (length s / 64) order)

abbrev pub set_by : List ℕ → List ℕ → List ℕ
set_by s order = blocks s 0 (take (length s / 32) order)

-- the orders of a draft's three maps
pub record Ordered (d : Draft) (o : Orders) : Type 0 where
  pub includes : OrderOf d.includes (length d.includes / 64) (Some o.includes)
  pub witness : OrderOf d.witness (length d.witness / 64) (Some o.witness)
  pub evidence : OrderOf d.evidence (length d.evidence / 32) (Some o.evidence)

-- a map has a peer twice
abbrev pub any_row_twice : Draft → Bool
any_row_twice d = has_twice (peers_of 64 d.includes) || (has_twice (peers_of 64 d.witness) || has_twice (peers_of 32 d.evidence))

-- what is found of a draft's rows: their orders, or none where a map has a peer twice
abbrev pub OrdersOf : Draft → Option Orders → Type 0
OrdersOf d None = any_row_twice d ≡ true
OrdersOf d (Some o) = Ordered d o

-- how long the record is: nine heads, 92 bytes of id, payload numbers and times, and the rest as it comes
abbrev pub record_length : Draft → ℕ
record_length d =
    27
    + 92
    + (length d.includes + length d.witness + length d.evidence)
    + (length (link_part d.anchor_proof) + length (link_part d.anchor_trigger))
    + length (role_part d)
