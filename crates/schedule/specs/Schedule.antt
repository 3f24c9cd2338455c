-- Schedules (document 01, tags 34 and 35), and what stateless.rs asks of them.
use Rattle.std.specs.Prelude.{ℕ, zero, suc, ◌+◌, Bool, not, ◌&&◌, List, [], ◌∷◌, length, get_or, drop, leb, eqb, option_map, unwrap_or, Option, None, Some}
use Rattle.base.specs.Base.{pick, is_empty, and_then}
use Rattle.parts.specs.Bytes.{little_at}
use Rattle.map.specs.Rows.{peers_of, rising, well_rowed}
use Rattle.record.specs.Record.{field_row, field_ok, next_at, content_at}

pub record Span : Type 0 where
  pub first : ℕ
  pub peers : List ℕ

pub record Schedule : Type 0 where
  pub spans : List Span
  pub last_known : ℕ

-- ---- reading

-- tag 34: "first round (4) then 0 to 255 rising peers"
abbrev pub span_at : List ℕ → ℕ → Span
span_at s at = record { first = little_at 4 (content_at s at) 0; peers = peers_of 32 (drop 4 (content_at s at)) }

unfoldable pub span_ok : List ℕ → ℕ → Bool
unfolding field_ok content_at well_rowed
span_ok s at = field_ok (field_row 34 4 8164) s at && well_rowed 32 (drop 4 (content_at s at))

-- tag 35: "last known round (4)", and nothing after it
unfoldable pub last_ok : List ℕ → ℕ → Bool
unfolding field_ok next_at
last_ok s at = field_ok (field_row 35 4 4) s at && eqb (next_at s at) (length s)

abbrev pub last_at : List ℕ → ℕ → Option Schedule
last_at s at = pick (last_ok s at) (Some (record { spans = []; last_known = little_at 4 s (at + 3) })) None

abbrev pub add_span : Span → Schedule → Schedule
add_span x c = record { spans = x ∷ c.spans; last_known = c.last_known }

-- at most n spans from a place on, then the last known round
unfoldable pub schedule_from : ℕ → List ℕ → ℕ → Option Schedule
unfolding span_ok last_ok next_at content_at
schedule_from zero s at = last_at s at
schedule_from (suc n) s at = pick (span_ok s at) (option_map (add_span (span_at s at)) (schedule_from n s (next_at s at))) (last_at s at)

unfoldable pub firsts : List Span → List ℕ
firsts [] = []
firsts (x ∷ l) = x.first ∷ firsts l

-- a slice that holds one schedule, or none: "one to four fields of tag 34", "first rounds strictly rising"
unfoldable pub read_schedule : List ℕ → Option Schedule
unfolding schedule_from rising firsts
read_schedule s = and_then (schedule_from 4 s 0) (λ c. pick (not (is_empty c.spans) && rising (firsts c.spans)) (Some c) None)

-- ---- rounds

abbrev pub or_else : Option ℕ → Option ℕ → Option ℕ
or_else None o = o
or_else (Some i) o = Some i

-- the position of the last span that starts at or before a round, the first span's being i
unfoldable pub last_started : ℕ → List Span → ℕ → Option ℕ
last_started i [] round = None
last_started i (x ∷ l) round = or_else (last_started (suc i) l round) (pick (leb x.first round) (Some i) None)

-- EpochStarts::arr_idx by document 01's rule: "A round belongs to the last span starting at or before it; before the
-- first span and past the last known round it has none"
unfoldable pub span_for : Schedule → ℕ → Option ℕ
unfolding last_started
span_for c round = pick (leb round c.last_known) (last_started 0 c.spans round) None

-- PeerScheduleStateless::peers_for
unfoldable pub peers_for : Schedule → ℕ → List ℕ
unfolding span_for
peers_for c round = unwrap_or (option_map (λ i. (get_or c.spans i (record { first = 0; peers = [] })).peers) (span_for c round)) []

-- PeerScheduleStateless::require_regular_points; none where the Rust panics, a vset being unknown
unfoldable pub require_regular_points : Schedule → ℕ → Option Bool
unfolding span_for
require_regular_points c round = and_then (span_for c round) (λ i. option_map (λ j. not (eqb i j)) (span_for c (round + 4)))
