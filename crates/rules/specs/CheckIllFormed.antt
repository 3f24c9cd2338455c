-- Verifier::check_ill_formed, verifier.rs 293-320, of a verified point above genesis, and document 01's number 6.
use Rattle.std.specs.Prelude.{Bool, true, false, Option, None, Some, is_some}
use Rattle.base.specs.Base.{pick}
use Rattle.point.specs.Point.{PointInfo, prev_digest, is_wave_link_ok}
use Rattle.point.specs.declared.data.PointRole.{PointRole}
use Rattle.point.specs.declared.data.PointRole.TheVariants.{Regular, AnchorProof, AnchorTrigger, Genesis}
use Rattle.schedule.specs.Schedule.{Schedule, require_regular_points}
use Rattle.reasons.specs.declared.ill_formed.IllFormedReason.TheVariants.{NotRegular, BadWaveLink}
use Rattle.reasons.specs.declared.ill_formed.WaveChecked.{WaveChecked}
use Rattle.reasons.specs.declared.ill_formed.WaveChecked.TheVariants.{Horizon, IllFormed, Sound}

-- PointInfo::is_regular, info.rs 192-194
abbrev pub is_regular : PointRole → Bool
is_regular Regular = true
is_regular (AnchorProof n l) = false
is_regular AnchorTrigger = false
is_regular Genesis = false

-- Either the role or the wave link is tested, never both. Where a vset is unknown the Rust panics, and the
-- answer is number 6: "past verification, above genesis, r or r+4 in no span".
abbrev pub wave_checked_with : Option Bool → Bool → PointInfo → WaveChecked
wave_checked_with None leader p = Horizon
wave_checked_with (Some true) leader p = pick (is_regular p.role) (Sound true) (IllFormed NotRegular)
wave_checked_with (Some false) leader p =
    pick (is_wave_link_ok leader (is_some (prev_digest p)) p.id.round p.anchor_proof p.role)
    (Sound false)
    (IllFormed (BadWaveLink leader))

unfoldable pub wave_checked : Schedule → Bool → PointInfo → WaveChecked
unfolding require_regular_points prev_digest is_wave_link_ok
wave_checked s leader p = wave_checked_with (require_regular_points s p.id.round) leader p
