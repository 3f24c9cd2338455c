-- The program tally (document 01, "Printing and calling"): "reads settings, schedule, then leader byte and record per point from
-- standard input into a book of 65,536 bytes". A feed is all bytes of its standard input.
use Rattle.std.specs.Prelude.{ℕ, zero, suc, ◌+◌, List, [], ◌∷◌, length, take, drop, replicate, Option, None, Some, option_map, unwrap_or, is_some, Ok, Err}
use Rattle.std.specs.Prelude as std
use Rattle.parts.specs.Limits.{settings_length, peers_room}
use Rattle.base.specs.Base.{pick}
use Rattle.record.specs.Record.{field_row, field_ok, next_at, end_from, record_end}
use Rattle.point.specs.Point.{PointInfo}
use Rattle.point.specs.Reading.{read_point, read_point_in}
use Rattle.schedule.specs.Settings.{Settings, read_settings}
use Rattle.schedule.specs.Schedule.{read_schedule}
use Rattle.reasons.specs.IllFormed.{ill_formed_number}
use Rattle.reasons.specs.Invalid.{invalid_number}
use Rattle.reasons.specs.Verdict.{Verdict, Fail, IllFormed, Invalid, TransInvalid, Valid}
use Rattle.rules.specs.Judge.{JudgeAnswer, Number, Given}
use Rattle.books.specs.Layout.{read_book}
use Rattle.books.specs.Offer.{Result}
use Rattle.books.specs.Calls.{open_number, open_bytes, offer_bytes}
use Rattle.tally_line.specs.declared.Line.{Line}

-- ---- a line: "place, round, verdict letter (F, L ill-formed, I, T, V, or -), reason number (0 if none), refusal number"

-- with the letter as its ASCII code
abbrev pub judged_line : ℕ → ℕ → ℕ → ℕ → Line
judged_line place round letter reason = record { place = place; round = round; letter = letter; reason = reason; number = 0 }

abbrev pub verdict_line : ℕ → ℕ → Verdict → Line
verdict_line place round (Fail u) = judged_line place round 70 0
verdict_line place round (IllFormed r) = judged_line place round 76 (ill_formed_number r)
verdict_line place round (Invalid r) = judged_line place round 73 (invalid_number r)
verdict_line place round (TransInvalid d) = judged_line place round 84 0
verdict_line place round Valid = judged_line place round 86 0

abbrev pub refused_line : ℕ → ℕ → ℕ → Line
refused_line place round number = record { place = place; round = round; letter = 45; reason = 0; number = number }

abbrev pub line_of : ℕ → ℕ → JudgeAnswer → Line
line_of place round (Number n) = refused_line place round n
line_of place round (Given v) = verdict_line place round v

-- ---- the front of a feed

abbrev pub last_known_end : List ℕ → ℕ → Option ℕ
last_known_end s at = end_from (field_row 35 4 4 ∷ []) s at

-- where the schedule at the front of a slice ends: "one to four fields of tag 34 ..; then tag 35"
unfoldable pub schedule_end_from : ℕ → List ℕ → ℕ → Option ℕ
unfolding field_ok next_at end_from
schedule_end_from zero s at = last_known_end s at
schedule_end_from (suc n) s at =
    pick (field_ok (field_row 34 4 8164) s at) (schedule_end_from n s (next_at s at)) (last_known_end s at)

unfoldable pub schedule_end : List ℕ → Option ℕ
unfolding schedule_end_from
schedule_end s = schedule_end_from 4 s 0

-- where the points begin, or a number in their place
abbrev pub Front : Type 0
Front = std.Result ℕ ℕ

abbrev pub schedule_to : List ℕ → Option ℕ → Front
schedule_to s None = Err 2
schedule_to s (Some n) = pick (is_some (read_schedule (take n s))) (Ok (settings_length + n)) (Err 2)

abbrev pub front_with : List ℕ → Option Settings → Front
front_with s None = Err 1
front_with s (Some c) = schedule_to s (schedule_end s)

-- the number of settings or a schedule that can't be read, or where the points begin
unfoldable pub front_of : List ℕ → Front
unfolding read_settings schedule_end read_schedule
front_of feed = front_with (drop settings_length feed) (read_settings (take settings_length feed))

abbrev pub opened_with : Front → ℕ → Front
opened_with (Err n) number = Err n
opened_with (Ok n) zero = Ok n
opened_with (Ok n) (suc k) = Err (suc k)

-- what a feed begins with, for a book of len bytes: 1, 2, and last the 5 of opening the book, or where the points begin
unfoldable pub begin : ℕ → List ℕ → Front
unfolding front_of open_number
begin len feed = opened_with (front_of feed) (open_number (take settings_length feed) len)

-- the book: "A number comes without a verdict, with all lent bytes unchanged"
abbrev pub begun_book : List ℕ → List ℕ → Front → List ℕ
begun_book settings book (Err n) = book
begun_book settings book (Ok n) = open_bytes settings book

-- ---- one point

-- how many bytes the record at the front of a slice takes: all of them where none ends there
unfoldable pub record_size : List ℕ → ℕ
unfolding record_end
record_size s = unwrap_or (record_end s) (length s)

-- what comes next in a feed: nothing; the line of a record that can't be read; or a point's line and how many bytes the point takes;
-- with what the offer left
pub data Step : Type 0 where
  over : Step
  last : (line : Line) (result : Result (List ℕ)) → Step
  point : (line : Line) (size : ℕ) (result : Result (List ℕ)) → Step

-- "An unreadable record prints round 0 and ends the reading": it is offered as it stands, and the number is the offer's
abbrev pub offered_as : ℕ → ℕ → Result (List ℕ) → Option PointInfo → Step
offered_as place size r None = last (line_of place 0 r.answer) r
offered_as place size r (Some p) = point (line_of place p.id.round r.answer) size r

abbrev pub offered : List ℕ → List ℕ → List ℕ → ℕ → ℕ → ℕ → List ℕ → Step
offered schedule book peers place leader size bytes =
    offered_as place size (offer_bytes book (record { schedule = schedule; leader = leader; bytes = bytes; peers = peers })) (read_point bytes)

-- "leader byte and record per point"; the place is the one that the line is to have
unfoldable pub step : List ℕ → List ℕ → List ℕ → ℕ → List ℕ → Step
unfolding record_size read_point_in offer_bytes
step schedule book peers place [] = over
step schedule book peers place (leader ∷ s) = offered schedule book peers place leader (suc (record_size s)) (take (record_size s) s)

-- ---- a whole feed

-- the lines, and the book that is left
pub record Tally : Type 0 where
  pub lines : List Line
  pub book : List ℕ

abbrev pub line_then : Line → Tally → Tally
line_then l t = record { lines = l ∷ t.lines; book = t.book }

abbrev pub step_then : (List ℕ → List ℕ → List ℕ → Tally) → List ℕ → List ℕ → Step → Tally
step_then next book feed over = record { lines = []; book = book }
step_then next book feed (last l r) = record { lines = l ∷ []; book = r.after }
step_then next book feed (point l size r) = line_then l (next r.after r.peers (drop size feed))

-- at most n points, each offered to the book, with the peer buffer, that the one before left
unfoldable pub points_from : ℕ → List ℕ → List ℕ → List ℕ → ℕ → List ℕ → Tally
unfolding step
points_from zero schedule book peers place feed = record { lines = []; book = book }
points_from (suc n) schedule book peers place feed =
    step_then (λ b p f. points_from n schedule b p (suc place) f) book feed (step schedule book peers place feed)

-- no feed has more points than bytes
unfoldable pub points : List ℕ → List ℕ → List ℕ → ℕ → List ℕ → Tally
unfolding points_from
points schedule book peers place feed = points_from (length feed) schedule book peers place feed

-- "Unreadable settings or schedule give place and round 0 with number 1 or 2"; a place counts from 1
abbrev pub tally_with : List ℕ → List ℕ → List ℕ → Front → Tally
tally_with book peers feed (Err n) = record { lines = refused_line 0 0 n ∷ []; book = book }
tally_with book peers feed (Ok n) = points (drop settings_length (take n feed)) book peers 1 (drop n feed)

abbrev pub tally_from : List ℕ → List ℕ → List ℕ → Front → Tally
tally_from book peers feed front = tally_with (begun_book (take settings_length feed) book front) peers feed front

-- "into a book of 65,536 bytes"
abbrev pub tally_room : ℕ
tally_room = 65536

-- what the program is to print of its standard input. Proved of the code are the parts: `begin`, `step` and `kept_in`; `printed-tally`
-- says that these parts, one after the other, give it. The program's own order of calls is not proved beyond its `take_turn`, which says
-- where the next turn stands.
unfoldable pub tally : List ℕ → Tally
unfolding begin points open_bytes
tally feed = tally_from (replicate tally_room 0) (replicate peers_room 0) feed (begin tally_room feed)

-- "then `end` and the kept count"
unfoldable pub kept_in : List ℕ → ℕ
unfolding read_book
kept_in s = unwrap_or (option_map (λ z. length z.book) (read_book s)) 0
