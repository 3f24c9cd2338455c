-- What the code's values stand for, and what its functions promise each other.
use Rattle.std.specs.Prelude.{ℕ, ◌+◌, zero, suc, ◌-◌, ◌≤◌, ◌<◌, Bool, true, false, not, ◌&&◌, ◌||◌, List, [], ◌∷◌, ◌++◌, get_or, take, drop}
use Rattle.std.specs.Prelude.{length, filter, eqb, ◌≡◌, Option, None, Some, is_some, option_map}
use Rattle.base.specs.Base.{pick}
use Rattle.parts.specs.Limits.{most_kept}
use Rattle.record.specs.Record.{record_end}
use Rattle.point.specs.Point.{PointId, no_point, AnchorLink, Direct, Indirect, PointInfo, prev_digest, same_id}
use Rattle.point.specs.Reading.{point_id_at}
use Rattle.point.specs.Code.{point_id_of}
use Rattle.point.specs.declared.data.AnchorStageRole.{AnchorStageRole}
use Rattle.rules.specs.DagPoint.{DagPoint, entry_id, is_dropped, is_by, Entry}
use Rattle.rules.specs.List.{Listed, role_of, read_list, directs}
use Rattle.judge_mismatch.specs.declared.head.Head as code-head
use Rattle.id_index.specs.declared.Index.{Index}
use Rattle.id_index.specs.Code.{count_of, id_in, Noted}
use Rattle.map.specs.Rows.{Pair}
use Rattle.rules.specs.Mismatch.{has_id, pair_id, is_among, is_version, ids_of}

-- an entry without its point; a dropped one has no id
pub record Head : Type 0 where
  pub aim : Option AnchorStageRole
  pub id : Option PointId
  pub size : ℕ

abbrev pub id_of : DagPoint → Option PointId
id_of d = pick (is_dropped d) None (Some (entry_id d))

abbrev pub head_of : Listed → Head
head_of x = record { aim = x.aim; id = id_of x.entry.state; size = x.size }

abbrev pub head_from : Option Listed → Option Head
head_from None = None
head_from (Some x) = Some (head_of x)

abbrev pub code_head_of : code-head.Head → Head
code_head_of x = record { aim = x.aim; id = option_map point_id_of x.id; size = x.size }

-- ---- where an entry's parts stand

-- the flags stand after an indirect entry's role
abbrev pub flags_at : List ℕ → ℕ
flags_at s = pick (eqb (get_or s 0 0) 19) 4 0

abbrev pub aim_at : List ℕ → Option AnchorStageRole
aim_at s = pick (eqb (get_or s 0 0) 19) (Some (role_of (get_or s 3 0))) None

-- how far after the flags the id stands: in state 1 after the root cause too
abbrev pub id_place : ℕ → ℕ
id_place state = pick (eqb state 1) 75 3

-- the id that stands after the flags, which end at a place
unfoldable pub id_after : ℕ → ℕ → List ℕ → Option PointId
id_after state at s = pick (eqb state 5) None (Some (point_id_at s (at + id_place state)))

abbrev pub placed_at : ℕ → Option ℕ → Option ℕ
placed_at at None = None
placed_at at (Some n) = Some (at + n)

-- where a record ends, which starts at a place
unfoldable pub end_in : ℕ → List ℕ → Option ℕ
end_in at s = placed_at at (record_end (drop at s))

-- where an entry ends, whose flags end at a place
unfoldable pub entry_end : ℕ → ℕ → List ℕ → Option ℕ
entry_end state at s =
    pick (eqb state 5) (Some at)
    (pick (eqb state 3) (Some (at + 71))
    (pick (eqb state 4) (Some (at + 71))
    (pick (eqb state 1) (end_in (at + 72) s) (end_in at s))))

-- ---- the list

abbrev pub list_or : Option (List Listed) → List Listed
list_or None = []
list_or (Some l) = l

-- the entries of a list that reads
unfoldable pub listed : List ℕ → List Listed
listed s = list_or (read_list s)

-- ---- the maps: 0 the includes, 1 the witness

abbrev pub map_round : PointInfo → ℕ → ℕ
map_round p zero = p.id.round - 1
map_round p (suc m) = p.id.round - 2

abbrev pub map_pairs : PointInfo → ℕ → List Pair
map_pairs p zero = p.includes
map_pairs p (suc m) = p.witness

-- how many maps have their round in the DAG
abbrev pub maps_in : ℕ → ℕ
maps_in presence = pick (eqb presence 3) 2 1

abbrev pub no_pair : Pair
no_pair = record { peer = 0; digest = 0 }

-- a row of a map that has an id, or that none has
abbrev pub IsRow : ℕ → List Pair → PointId → Option ℕ → Type 0
IsRow round l i None = is_among round l i ≡ false
IsRow round l i (Some k) = (k < length l) × (same_id (pair_id round (get_or l k no_pair)) i ≡ true)

-- ---- the versions of the author's point at the round before

-- the id of an entry, if it is of the author at the round before
abbrev pub is_own_id : PointId → Option PointId → Bool
is_own_id own None = false
is_own_id own (Some i) = is_by (own.round - 1) own.author i

-- a direct entry that has an id, of the author at the round before
unfoldable pub is_own : PointId → Head → Bool
is_own own h = not (is_some h.aim) && is_own_id own h.id

-- its id
abbrev pub own_id : PointId → Head → Option PointId
own_id own h = pick (is_own own h) h.id None

-- the ids of these, in order
unfoldable pub own_ids : PointId → List Entry → List PointId
own_ids own [] = []
own_ids own (e ∷ l) =
    pick (not (is_dropped e.state) && is_by (own.round - 1) own.author (entry_id e.state))
    (entry_id e.state ∷ own_ids own l) (own_ids own l)

abbrev pub own_in : PointId → List ℕ → List PointId
own_in own s = own_ids own (directs (listed s))

unfoldable pub is_twice_in : List PointId → Bool
unfolding has_id
is_twice_in [] = false
is_twice_in (i ∷ l) = has_id l i || is_twice_in l

-- one of the second ids is among the first
unfoldable pub any_in : List PointId → List PointId → Bool
unfolding has_id
any_in a [] = false
any_in a (i ∷ l) = has_id a i || any_in a l

-- a point with a previous digest has no versions
unfoldable pub is_version_twice : PointInfo → List Entry → Bool
unfolding prev_digest is_twice_in
is_version_twice p l = not (is_some (prev_digest p)) && is_twice_in (own_ids p.id l)

-- what an entry needs that no map has: to be a version, and not to stand again
unfoldable pub is_new_version : PointInfo → List Entry → PointId → Bool
is_new_version p es i = is_version p i && not (has_id (ids_of es) i)

-- where the field of an entry's id stands
abbrev pub field_at : List ℕ → ℕ
field_at s = pick (eqb (get_or s (flags_at s + 3) 0) 1) (flags_at s + 79) (flags_at s + 7)

abbrev pub HasRoom : ℕ → ℕ → Bool → Type 0
HasRoom n at true = (n < most_kept) × (at < 4000000000)
HasRoom n at false = n < most_kept → at < 4000000000 → ⊥

-- the index has these ids, in order
pub record HasIds (s : List ℕ) (x : Index) (l : List PointId) : Type 0 where
  pub count : count_of x ≡ length l
  pub ids : (j : ℕ) → j < length l → id_in s x j ≡ get_or l j no_point

-- the versions up to a place are noted; what stands after it is left to test
pub record NotedTo (own : PointId) (s : List ℕ) (x : Index) (end : ℕ) : Type 0 where
  pub block : List PointId
  pub has : HasIds s x block
  pub noted : Noted s x
  pub left : own_in own s ≡ block ++ own_in own (drop end s)
  pub within : end ≤ length s
  pub reads : is_some (read_list (drop end s)) ≡ true
  pub more : 0 < length s → 0 < end

-- whether a version of what is left of a list is among the ids of an index
abbrev pub Meets : PointId → List ℕ → List ℕ → Index → Bool → Type 0
Meets own s left x r = (block : List PointId) → HasIds s x block → r ≡ any_in block (own_in own left)

-- a block of versions was tested, among themselves and with all after it: one stands twice, or what stands after the block is left
-- to test among itself
pub record BlockEnds (own : PointId) (s left : List ℕ) : Type 0 where
  pub end : ℕ
  pub within : end ≤ length s
  pub more : 0 < length s → 0 < end
  pub rest : left ≡ drop end s
  pub same : is_twice_in (own_in own left) ≡ is_twice_in (own_in own s)

abbrev pub BlockRead : PointId → List ℕ → Option (List ℕ) → Type 0
BlockRead own s None = is_twice_in (own_in own s) ≡ true
BlockRead own s (Some left) = BlockEnds own s left

-- ---- the marks

-- how many of the first marks are not set
abbrev pub unmarked : ℕ → List Bool → ℕ
unmarked n seen = length (filter not (take n seen))

-- ---- the indirect entries

-- `is_target_of` of an entry without its point
abbrev pub is_target_with : AnchorLink → Option PointId → Bool
is_target_with (Direct t) i = false
is_target_with (Indirect to t) None = true
is_target_with (Indirect to t) (Some i) = same_id i to
