-- What is left of a list, and what a step to its next entry gives. This stands apart from Code, on which the struct Entries rests.
use Rattle.std.specs.Prelude.{ℕ, ◌+◌, ◌≤◌, ◌<◌, true, List, [], ◌∷◌, drop, length, ◌≡◌, Option, None, Some, is_some}
use Rattle.rules.specs.List.{Listed, read_entry, directs}
use Rattle.judge_mismatch.specs.Code.{Head, id_of, head_from, code_head_of, listed}
use Rattle.judge_mismatch.specs.declared.entries.Entries as code-entries
use Rattle.judge_mismatch.specs.declared.head.Head as code-head

abbrev pub left_of : code-entries.Entries → List Listed
left_of e = listed (drop e.at e.list.now)

-- entries with the first of them, without its point, and those after it: after an indirect entry there is no direct one
pub record Front (l : List Listed) (h : Head) (r : List Listed) : Type 0 where
  pub first : Listed
  pub all : l ≡ first ∷ r
  pub for : h.aim ≡ first.aim
  pub id : h.id ≡ id_of first.entry.state
  pub last : is_some first.aim ≡ true → directs r ≡ []

-- the first of the entries that are left, which stands at a place
pub record EntryGiven (old : code-entries.Entries) (at : ℕ) (h : code-head.Head) (new : code-entries.Entries) : Type 0 where
  pub front : Front (left_of old) (code_head_of h) (left_of new)
  pub place : at ≡ old.at
  pub inside : at < length old.list.now
  pub read : Some (code_head_of h) ≡ head_from (read_entry (drop at old.list.now))
  pub list : new.list.now ≡ old.list.now
  pub next : new.at ≡ at + h.size
  pub least : 0 < h.size

abbrev pub GivesEntry : code-entries.Entries → Option (ℕ × code-head.Head) → code-entries.Entries → Type 0
GivesEntry old None new = (left_of old ≡ []) × (length old.list.now ≤ old.at)
GivesEntry old (Some e) new = EntryGiven old e.0 e.1 new
