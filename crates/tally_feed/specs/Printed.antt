-- What the calls give one after the other, each what its contract says, with a part of the feed at hand.
use Rattle.std.specs.Prelude.{ℕ, zero, suc, List, [], ◌∷◌, take, drop, replicate, Ok, Err}
use Rattle.parts.specs.Limits.{settings_length, peers_room}
use Rattle.books.specs.Calls.{open_bytes}
use Rattle.tally_feed.specs.declared.next.Next as code-next
use Rattle.tally_feed.specs.declared.next.Next.TheVariants as case-next
use Rattle.tally_feed.specs.Tally.{tally_room, refused_line, Front, begin, begun_book, Step, step, Tally, line_then}
use Rattle.tally_feed.specs.Code.{next_of, book_after, peers_after}

-- a call of `next_point` gave this and left the book and the peer buffer so: the program ends, or goes on after its line and point
abbrev pub next_then : (List ℕ → List ℕ → List ℕ → Tally) → List ℕ → List ℕ → List ℕ → code-next.Next ℕ → Tally
next_then again book peers feed case-next.Over = record { lines = []; book = book }
next_then again book peers feed (case-next.Last l) = record { lines = l ∷ []; book = book }
next_then again book peers feed (case-next.Point l size) = line_then l (again book peers (drop size feed))

-- by the step that the contract of `next_point` names
abbrev pub turn : (List ℕ → List ℕ → List ℕ → Tally) → List ℕ → List ℕ → List ℕ → Step → Tally
turn again book peers feed x = next_then again (book_after book x) (peers_after peers x) feed (next_of x)

-- at most n turns; at the line of a place, `held` bytes of what is left of the feed are at hand
unfoldable pub printed_from : ℕ → (ℕ → ℕ) → List ℕ → ℕ → List ℕ → List ℕ → List ℕ → Tally
unfolding step
printed_from zero held schedule place book peers feed = record { lines = []; book = book }
printed_from (suc n) held schedule place book peers feed =
    turn (λ b p f. printed_from n held schedule (suc place) b p f) book peers feed (step schedule book peers place (take (held place) feed))

-- a call of `begin` gave this of the part at hand and left the book so
abbrev pub front_then : ℕ → (ℕ → ℕ) → List ℕ → List ℕ → List ℕ → List ℕ → Front → Tally
front_then turns held part feed book peers (Err n) = record { lines = refused_line 0 0 n ∷ []; book = book }
front_then turns held part feed book peers (Ok n) = printed_from turns held (drop settings_length (take n part)) 1 book peers (drop n feed)

abbrev pub begun_then : ℕ → (ℕ → ℕ) → List ℕ → List ℕ → List ℕ → List ℕ → Front → Tally
begun_then turns held part feed book peers front = front_then turns held part feed (begun_book (take settings_length part) book front) peers front

-- the lines and the book that is left, of a feed whose first `room` bytes are at hand at first
unfoldable pub printed : ℕ → ℕ → (ℕ → ℕ) → List ℕ → Tally
unfolding begin open_bytes printed_from
printed turns room held feed = begun_then turns held (take room feed) feed (replicate tally_room 0) (replicate peers_room 0) (begin tally_room (take room feed))
