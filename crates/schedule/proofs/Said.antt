-- What a slice says, by the reader's answer.
use Rattle.std.specs.Prelude.{ℕ, List, Option, None, Some, option_map}
use mathlib.Core.Path.{◌≡◌, sym}
use Rattle.schedule.specs.Schedule.{read_schedule}
use Rattle.schedule.specs.PeerSchedule.{peer_schedule_of, ScheduleRead}
use Rattle.schedule.specs.declared.peer_schedule.PeerSchedule as code

pub schedule_read : (s : List ℕ) (r : Option code.PeerSchedule) → ScheduleRead s r → read_schedule s ≡ option_map peer_schedule_of r
schedule_read s None h = h
schedule_read s (Some c) h = rw (sym h.bytes) c.read
