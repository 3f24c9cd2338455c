-- What the code's values stand for, and what its functions promise each other.
use Rattle.parts.specs.Code.{number}
use Rattle.schedule.specs.Settings.{Settings}
use Rattle.schedule.specs.declared.settings.Settings as code-settings
use Rattle.std.specs.Prelude.{ℕ, zero, suc, ◌+◌, ◌-◌, ◌*◌, ◌/◌, ◌≤◌, ◌≡◌, List, [], ◌∷◌, length, get_or, take, replicate, Option, None, Some, option_map}
use Rattle.base.specs.Base.{pick}
use Rattle.parts.specs.Bytes.{bytes_at, little_at}
use Rattle.map.specs.Rows.{peers_of}
use Rattle.record.specs.Record.{next_at, content_at}
use Rattle.schedule.specs.Schedule.{Span, Schedule, span_ok, last_at, add_span, schedule_from, span_for}
use Rattle.schedule.specs.declared.schedule.Span as code-span
use Rattle.schedule.specs.declared.schedule.Schedule as code-schedule
use Rattle.schedule.specs.declared.schedule.ReadSpans as code-spans

abbrev pub settings_of : code-settings.Settings → Settings
settings_of c =
    record {
      genesis_round = c.genesis_round;
      genesis_digest = number c.genesis_digest;
      payload_batch_bytes = c.payload_batch_bytes;
      sticky_anchors = c.sticky_anchors;
      clock_skew_millis = c.clock_skew_millis;
      commit_history_rounds = c.commit_history_rounds;
    }

-- ---- what the code's values stand for

-- spans, and then what stands after them
abbrev pub spans_then : List Span → Option Schedule → Option Schedule
spans_then [] o = o
spans_then (x ∷ l) o = option_map (add_span x) (spans_then l o)

abbrev pub span_of : List ℕ → code-span.Span → Span
span_of s x = record { first = x.first; peers = peers_of 32 (bytes_at (32 * x.peers) s x.place) }

abbrev pub spans_of : List ℕ → List code-span.Span → List Span
spans_of s [] = []
spans_of s (x ∷ l) = span_of s x ∷ spans_of s l

abbrev pub firsts_of : List code-span.Span → List ℕ
firsts_of [] = []
firsts_of (x ∷ l) = x.first ∷ firsts_of l

-- ---- the code's values, each field of them

-- what an entry holds where there is no span
abbrev pub no_span : code-span.Span
no_span = record { first = 0; place = 0; peers = 0 }

-- the span at a place; its peers stand after the tag, the length and the first round
abbrev pub code_span_at : List ℕ → ℕ → code-span.Span
code_span_at s at = record { first = little_at 4 (content_at s at) 0; place = at + 7; peers = (length (content_at s at) - 4) / 32 }

-- n entries: the spans from a place on, and after them no span
unfoldable pub code_spans_from : ℕ → List ℕ → ℕ → List code-span.Span
unfolding span_ok next_at content_at
code_spans_from zero s at = []
code_spans_from (suc n) s at = pick (span_ok s at) (code_span_at s at ∷ code_spans_from n s (next_at s at)) (replicate (suc n) no_span)

-- what is known of the spans that were read at the front of a schedule
pub record SpansRead (s : List ℕ) (r : code-spans.ReadSpans) : Type 0 where
  pub few : r.count ≤ 4
  pub inside : r.end ≤ length s
  pub entries : r.spans ≡ code_spans_from 4 s 0
  pub read : schedule_from 4 s 0 ≡ spans_then (spans_of s (take r.count r.spans)) (last_at s r.end)

abbrev pub schedule_of : List ℕ → code-schedule.Schedule → Schedule
schedule_of s c = record { spans = spans_of s (take c.count c.spans); last_known = c.last_known }

-- what schedule_of leaves open: with it each field of a schedule is that of the bytes
pub record Handed (s : List ℕ) (c : code-schedule.Schedule) : Type 0 where
  pub few : c.count ≤ 4
  pub entries : c.spans ≡ code_spans_from 4 s 0

-- the part of a schedule's bytes that a span names, or none of them
abbrev pub bytes_in : List ℕ → List code-span.Span → Option ℕ → List ℕ
bytes_in s l None = []
bytes_in s l (Some i) = bytes_at (32 * (get_or l i no_span).peers) s (get_or l i no_span).place

-- the bytes of the peers of a round
unfoldable pub peer_bytes : List ℕ → code-schedule.Schedule → ℕ → List ℕ
unfolding span_for
peer_bytes s c round = bytes_in s c.spans (span_for (schedule_of s c) round)
