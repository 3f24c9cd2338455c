-- What an entry stands for. It stands apart from Code, on which the struct Entry rests.
use Rattle.std.specs.Prelude.{ℕ, ◌-◌, ◌≤◌, ◌<◌, ◌≡◌, List, length, Option, None, Some}
use Rattle.parts.specs.Bytes.{bytes_at}
use Rattle.point.specs.Said.{said}
use Rattle.rules.specs.DagPoint.{Entry}
use Rattle.rules.specs.List.{Stated, RecordFront, Listed}
use Rattle.point.specs.declared.info.Point as code-info
use Rattle.judge_entries.specs.Code.{dag_point_of}
use Rattle.judge_entries.specs.declared.entry.Entry as code-entry
use Rattle.judge_entries.specs.declared.entry.Listed as code-listed
use Rattle.judge_entries.specs.declared.entry.Stated as code-stated

abbrev pub entry_of : code-entry.Entry → Entry
entry_of x = record { state = dag_point_of x.rec.now x.state; certified = x.certified; first_valid = x.first_valid }

abbrev pub listed_of : code-listed.Listed → Listed
listed_of x = record { aim = x.aim; entry = entry_of x.entry; size = x.size }

-- an entry takes a byte at least, and no more than there are
abbrev pub Sized : List ℕ → Option code-listed.Listed → Type 0
Sized s (Some x) = (0 < x.size) × (x.size ≤ length s)
Sized s None = Unit

-- a record is the last of the first n bytes of a slice
pub record EndsWith (s : List ℕ) (n : ℕ) (rec : List ℕ) : Type 0 where
  pub fits : length rec ≤ n
  pub part : rec ≡ bytes_at (length rec) s (n - length rec)

abbrev pub stated_of : code-stated.Stated → Stated
stated_of x = record { point = dag_point_of x.rec.now x.state; size = x.size }

-- a point whose record stands at the front
abbrev pub record_front_of : code-info.Point → RecordFront
record_front_of p = record { point = said p; size = length p.rec.now }
