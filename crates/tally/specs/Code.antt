-- What the program's functions promise each other.
use Rattle.std.specs.Prelude.{ℕ, ◌+◌, ◌-◌, ◌≤◌, ◌<◌, ◌≡◌, true, false, List, length, take, drop}
use Rattle.parts.specs.Limits.{settings_length}
use Rattle.tally_feed.specs.Tally.{Step, over, last, point, step}
use Rattle.tally.specs.declared.window.Window.{Window}
use Rattle.tally.specs.declared.points.State.{State}
use Rattle.tally_feed.specs.declared.next.Next as code-next
use Rattle.tally_feed.specs.declared.next.Next.TheVariants as case-next

-- ---- the window: the part of standard input that is at hand. What a read puts into the buffer is the system's to say; where it
-- stands there, and that what was at hand stays at hand, is said here.

-- the bytes at hand
abbrev pub at_hand : List ℕ → Window → List ℕ
at_hand buf w = take (w.end - w.start) (drop w.start buf)

-- a window lies in a buffer of len bytes
abbrev pub Lies : ℕ → Window → Type 0
Lies len w = (w.start ≤ w.end) × (w.end ≤ len)

-- without its first n bytes
abbrev pub without : Window → ℕ → Window
without w n = record { start = w.start + n; end = w.end; is_all = w.is_all }

-- a window from the front of a buffer of len bytes, itself of at least n bytes: it is the whole buffer, unless the input ended; and the
-- input's end is seen only where there was room for more
pub record Filled (n len : ℕ) (w : Window) : Type 0 where
  pub start : w.start ≡ 0
  pub least : n ≤ w.end
  pub within : w.end ≤ len
  pub full : w.is_all ≡ false → w.end ≡ len
  pub all : w.is_all ≡ true → w.end < len

-- a later window begins with what was at hand, and has enough for a point, unless it is all
pub record Refilled (buf : List ℕ) (w : Window) (buf' : List ℕ) (w' : Window) : Type 0 where
  pub lies : Lies (length buf) w'
  pub same : take (w.end - w.start) (at_hand buf' w') ≡ at_hand buf w
  pub enough : w'.is_all ≡ false → 41127 ≤ w'.end - w'.start

-- ---- a turn: the next point at hand is offered, by `step` of crate tally_feed

-- the first turn's place is 1, and what is at hand begins after settings and a schedule, where the points begin
abbrev pub first_state : Window → ℕ → State
first_state w start = record { window = without w start; place = 1; schedule_len = start - settings_length }

-- after a point of a number of bytes these are no longer at hand, and the place is the next one
abbrev pub next_state : State → ℕ → State
next_state s size = record { window = without s.window size; place = s.place + 1; schedule_len = s.schedule_len }

abbrev pub turn_of : State → Step → code-next.Next State
turn_of s over = case-next.Over
turn_of s (last l r) = case-next.Last l
turn_of s (point l size r) = case-next.Point l (next_state s size)

-- a state's window lies in a buffer of len bytes, and its schedule in one of room bytes
abbrev pub Stands : ℕ → ℕ → State → Type 0
Stands len room s = Lies len s.window × (s.schedule_len ≤ room)

-- so does the state that a turn leads to
abbrev pub Leads : ℕ → ℕ → code-next.Next State → Type 0
Leads len room case-next.Over = Unit
Leads len room (case-next.Last l) = Unit
Leads len room (case-next.Point l s) = Stands len room s

-- the step over what is at hand
abbrev pub step_from : State → List ℕ → List ℕ → List ℕ → List ℕ → Step
step_from s schedule book peers buf = step (take s.schedule_len schedule) book peers s.place (at_hand buf s.window)
