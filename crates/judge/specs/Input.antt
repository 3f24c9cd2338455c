-- What is read of a call's input. It stands apart from Code, on which Before rests.
use Rattle.std.specs.Prelude.{ℕ, ltb, Result, Ok, Err}
use Rattle.base.specs.Base.{pick}
use Rattle.parts.specs.Limits.{peers_room}
use Rattle.point.specs.Said.{said}
use Rattle.schedule.specs.Code.{settings_of}
use Rattle.schedule.specs.PeerSchedule.{peer_schedule_of}
use Rattle.reasons.specs.Refusal.{refusal_number}
use Rattle.reasons.specs.declared.refusal.Refusal.{Refusal}
use Rattle.rules.specs.Judge.{Input, Tested, refused, admitted}
use Rattle.judge.specs.declared.Input as code

abbrev pub input_of : code.Input → Input
input_of i = record { settings = settings_of i.conf; schedule = peer_schedule_of i.schedule; point = said i.point }

-- what numbers 1 to 4 say, and then 5 of a peer buffer of this size
abbrev pub tested_of : ℕ → Result code.Input Refusal → Tested
tested_of size (Err r) = refused (refusal_number r)
tested_of size (Ok i) = pick (ltb size peers_room) (refused 5) (admitted (input_of i))
