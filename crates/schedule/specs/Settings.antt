-- Settings (document 01, tag 32): what mempool_config.rs holds of a network.
use Rattle.std.specs.Prelude.{ℕ, Bool, ◌&&◌, List, length, get_or, leb, eqb, Option, None, Some}
use Rattle.base.specs.Base.{pick}
use Rattle.parts.specs.Bytes.{id_at, little_at}
use Rattle.parts.specs.Limits.{first_round, last_round, settings_length}
use Rattle.record.specs.Record.{field_row, field_ok}

pub record Settings : Type 0 where
  pub genesis_round : ℕ
  pub genesis_digest : ℕ
  pub payload_batch_bytes : ℕ
  pub sticky_anchors : ℕ
  pub clock_skew_millis : ℕ
  pub commit_history_rounds : ℕ

-- "genesis round (4), genesis digest (32), payload_batch_bytes (4), sticky_anchors (1), clock_skew_millis (2),
-- commit_history_rounds (1)", after the tag and the length
abbrev pub settings_in : List ℕ → Settings
settings_in s =
    record {
      genesis_round = little_at 4 s 3;
      genesis_digest = id_at s 7;
      payload_batch_bytes = little_at 4 s 39;
      sticky_anchors = get_or s 43 0;
      clock_skew_millis = little_at 2 s 44;
      commit_history_rounds = get_or s 46 0;
    }

-- "all but the digest and sticky_anchors at least 1"; "genesis .. rounds 4 to 2,147,483,647"
unfoldable pub in_limits : Settings → Bool
in_limits c =
    leb first_round c.genesis_round
    && (leb c.genesis_round last_round
    && (leb 1 c.payload_batch_bytes
    && (leb 1 c.clock_skew_millis
    && leb 1 c.commit_history_rounds)))

-- a slice that holds usable settings and nothing after them
unfoldable pub read_settings : List ℕ → Option Settings
unfolding field_ok in_limits
read_settings s =
    pick (eqb (length s) settings_length && (field_ok (field_row 32 44 44) s 0 && in_limits (settings_in s)))
    (Some (settings_in s))
    None
