-- What functions promise each other.
use Rattle.std.specs.Prelude.{◌≡◌, List, ℕ, Option}
use Rattle.base.specs.Base.{concat, first_of}
use Rattle.point.specs.Said.{said}
use Rattle.schedule.specs.Code.{settings_of}
use Rattle.schedule.specs.PeerSchedule.{peer_schedule_of}
use Rattle.rules.specs.Verify.{Scheduled, scheduled, buffer_with, peer_rows}
use Rattle.reasons.specs.declared.ill_formed.VerifyError.{VerifyError}
use Rattle.point.specs.declared.info.Point as code-point
use Rattle.schedule.specs.declared.settings.Settings as code-settings
use Rattle.schedule.specs.declared.peer_schedule.PeerSchedule as code-schedule

-- the scheduled peers that a point's maps are checked against
abbrev pub scheduled_by : code-settings.Settings → code-schedule.PeerSchedule → code-point.Point → Scheduled
scheduled_by conf schedule point = scheduled (settings_of conf) (peer_schedule_of schedule) (said point)

-- the peer buffer before and after verifying, which ended with this error or with none
abbrev pub BufferAfter : code-settings.Settings → code-schedule.PeerSchedule → code-point.Point → Option VerifyError → List ℕ → List ℕ → Type 0
BufferAfter conf schedule point e old new = new ≡ buffer_with (scheduled_by conf schedule point) (said point) e old

-- the error of check_peers, or none
abbrev pub PeersChecked : code-settings.Settings → code-schedule.PeerSchedule → code-point.Point → Option VerifyError → Type 0
PeersChecked conf schedule point e =
    e ≡ first_of (concat (peer_rows (settings_of conf) (scheduled_by conf schedule point) (said point)))
