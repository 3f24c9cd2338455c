-- What the code's values stand for, and what its functions promise each other.
use Rattle.std.specs.Prelude.{ℕ, ◌≤◌, List, length, Ok, Err}
use Rattle.parts.specs.Limits.{settings_length}
use Rattle.tally_feed.specs.Tally.{Front, Step, over, last, point}
use Rattle.tally_feed.specs.declared.next.Next as code-next
use Rattle.tally_feed.specs.declared.next.Next.TheVariants as case-next

abbrev pub next_of : Step → code-next.Next ℕ
next_of over = case-next.Over
next_of (last l r) = case-next.Last l
next_of (point l size r) = case-next.Point l size

-- the book and the peer buffer after a step
abbrev pub book_after : List ℕ → Step → List ℕ
book_after book over = book
book_after book (last l r) = r.after
book_after book (point l size r) = r.after

abbrev pub peers_after : List ℕ → Step → List ℕ
peers_after peers over = peers
peers_after peers (last l r) = r.peers
peers_after peers (point l size r) = r.peers

-- the points begin within a feed, after a schedule of at most 32,675 bytes
abbrev pub Begins : List ℕ → Front → Type 0
Begins feed (Err n) = Unit
Begins feed (Ok n) = (settings_length ≤ n) × (n ≤ length feed) × (n ≤ 32722)

-- a point ends within a feed
abbrev pub Within : ℕ → code-next.Next ℕ → Type 0
Within len case-next.Over = Unit
Within len (case-next.Last l) = Unit
Within len (case-next.Point l size) = size ≤ len
