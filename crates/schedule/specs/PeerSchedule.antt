-- What a schedule with its bytes stands for. It stands apart from Code, on which the struct rests.
use Rattle.std.specs.Prelude.{ℕ, List, ◌≡◌, Option, None, Some}
use Rattle.schedule.specs.Schedule.{Schedule, read_schedule}
use Rattle.schedule.specs.Code.{schedule_of, Handed}
use Rattle.schedule.specs.declared.peer_schedule.PeerSchedule as code

abbrev pub peer_schedule_of : code.PeerSchedule → Schedule
peer_schedule_of c = schedule_of c.bytes.now c.schedule

-- what the reader gives for a slice: the schedule of this very slice, or none where it says none
pub record IsRead (s : List ℕ) (c : code.PeerSchedule) : Type 0 where
  pub bytes : c.bytes.now ≡ s
  pub handed : Handed s c.schedule

abbrev pub ScheduleRead : List ℕ → Option code.PeerSchedule → Type 0
ScheduleRead s (Some c) = IsRead s c
ScheduleRead s None = read_schedule s ≡ None
