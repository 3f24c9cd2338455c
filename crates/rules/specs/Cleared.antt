-- Ticket U13 of document 02, "Which certificate would clear it": that the named mark, and no other, turns the verdict into Valid. It is said
-- of `judged`, the call `judge` on bytes, over the list in which a point's certified flags are set.
use Rattle.std.specs.Prelude.{ℕ, zero, suc, ◌≡◌, ◌⊎◌, Bool, true, false, not, ◌&&◌, ◌||◌, length, map, take, drop, is_some, option_map, unwrap_or, Err, Ok, Result}
use mathlib.Core.List.{List, [], ◌∷◌, ◌++◌, Permᴰ}
use Rattle.base.specs.Base.{pick}
use Rattle.parts.specs.Bytes.{put_at}
use Rattle.parts.specs.Limits.{peers_room}
use Rattle.point.specs.Point.{PointId, same_id}
use Rattle.reasons.specs.Invalid.{InvalidDependency}
use Rattle.reasons.specs.Verdict.{Verdict, TransInvalid, Valid}
use Rattle.rules.specs.DagPoint.{Entry, entry_id, is_dropped}
use Rattle.rules.specs.List.{Listed, read_entry, read_list}
use Rattle.rules.specs.Judge.{Number, Given}
use Rattle.rules.specs.Told.{Call, OfBytes, handing, judged}
use Rattle.rules.specs.AnyOrder.{AllEntries, with_list}
use Rattle.rules.specs.Clearing.{Clearing, NotWaiting, NoSingleMark, ClearedBy, tested_without, clearing_with, clearing_bytes, clearing_number, clearing_answer}

-- ---- a mark: "certified .. changed from 0 to 1 wherever that point stands in the lists"

-- an entry of a point; a dropped one is of none
abbrev pub is_of : PointId → Entry → Bool
is_of i e = not (is_dropped e.state) && same_id (entry_id e.state) i

-- where an entry has its certified flag: the second byte of tag 16, which stands after tag 19 and its byte where there is one
abbrev pub flag_at : Listed → ℕ
flag_at x = pick (is_some x.aim) 8 4

-- the bytes of an entry, its flag set if it is of the point
abbrev pub marked_entry : PointId → Listed → List ℕ → List ℕ
marked_entry i x s = pick (is_of i x.entry) (put_at s (flag_at x) (1 ∷ [])) s

-- the bytes of a list of at most n entries, the flags of this point's entries set
unfoldable pub marked_from : ℕ → PointId → List ℕ → List ℕ
marked_from zero i s = s
marked_from (suc n) i s =
    unwrap_or (option_map (λ x. marked_entry i x (take x.size s) ++ marked_from n i (drop x.size s)) (read_entry s)) s

abbrev pub marked : PointId → List ℕ → List ℕ
marked i s = marked_from 65535 i s

-- the entry that a marked one says
abbrev pub with_mark : PointId → Listed → Listed
with_mark i x =
    record {
      aim = x.aim;
      entry = record { state = x.entry.state; certified = x.entry.certified || is_of i x.entry; first_valid = x.entry.first_valid };
      size = x.size;
    }

-- ---- the calls

-- "the same call" of judging, with a peer buffer that is large enough
abbrev pub roomy : Call → Call
roomy x =
    record {
      settings = x.settings;
      schedule = x.schedule;
      point = x.point;
      leader = x.leader;
      presence = x.presence;
      list = x.list;
      size = peers_room;
    }

abbrev pub marking : PointId → Call → Call
marking i x = roomy (handing x x.point (marked i x.list))

abbrev pub clearing : Call → Result Clearing ℕ
clearing x = clearing_with x.leader x.presence x.list (tested_without x.settings x.schedule x.point x.leader x.presence)

-- ---- the statement

pub record Cleared : Type 0 where
  -- what a mark changes of a list: the certified flags of this point's entries and nothing else
  pub marks : (i : PointId) (s : List ℕ) → read_list (marked i s) ≡ option_map (λ l. map (with_mark i) l) (read_list s)
  -- "name the point whose certified mark, alone changed .., turns the verdict into Valid"; no other does
  pub named : (x : Call) (i : PointId) → clearing x ≡ Ok (ClearedBy i) →
      ((d : InvalidDependency) × (judged (roomy x) ≡ Given (TransInvalid d)))
      × (judged (marking i x) ≡ Given Valid)
      × ((j : PointId) → judged (marking j x) ≡ Given Valid → j ≡ i)
  -- "If no single mark does, say so, and say it in no other case"
  pub none : (x : Call) → clearing x ≡ Ok NoSingleMark →
      ((d : InvalidDependency) × (judged (roomy x) ≡ Given (TransInvalid d))) × ((j : PointId) → judged (marking j x) ≡ Given Valid → ⊥)
  -- of a TransInvalid verdict one of the two is said
  pub waits : (x : Call) (d : InvalidDependency) → judged (roomy x) ≡ Given (TransInvalid d) →
      ((i : PointId) × (clearing x ≡ Ok (ClearedBy i))) ⊎ (clearing x ≡ Ok NoSingleMark)
  -- "For verdicts of other kinds it answers 'not waiting'"
  pub not_waiting : (x : Call) (v : Verdict) → judged (roomy x) ≡ Given v → ((d : InvalidDependency) → v ≡ TransInvalid d → ⊥) →
      clearing x ≡ Ok NotWaiting
  -- numbers as in judging, without 5
  pub number : (x : Call) (n : ℕ) → judged (roomy x) ≡ Number n → clearing x ≡ Err n
  pub no_five : (x : Call) → clearing x ≡ Err 5 → ⊥
  -- the answer has 69 bytes; and equal numbers returned, with equal bytes left in the lent answers, whatever these held before, mean that
  -- the same is said
  pub length : (y : Clearing) → length (clearing_bytes y) ≡ 69
  pub told : (x y : Call) (s t : List ℕ) → OfBytes x → OfBytes y → clearing_number (clearing x) ≡ clearing_number (clearing y) →
      clearing_answer (clearing x) s ≡ clearing_answer (clearing y) t → clearing x ≡ clearing y
  -- the order of the entries doesn't choose the answer
  pub any_order : (x : Call) (es es' ts ts' : List (List ℕ)) → AllEntries false es → AllEntries true ts → Permᴰ es es' → Permᴰ ts ts' →
      clearing (with_list x es ts) ≡ clearing (with_list x es' ts')
