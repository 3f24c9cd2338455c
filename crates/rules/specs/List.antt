-- The list of a point's dependencies (document 01, "A dependency entry"): what its bytes mean, and its domain. A list that has no
-- meaning here is number 7, "unreadable or outside the domain".
use Rattle.std.specs.Prelude.{ℕ, zero, suc, ◌+◌, Bool, true, false, not, ◌&&◌, ◌||◌, List, [], ◌∷◌, length, get_or, take, drop, leb, eqb, option_map, unwrap_or, Option, None, Some, is_some}
use Rattle.base.specs.Base.{pick, and_then}
use Rattle.parts.specs.Bytes.{little_at}
use Rattle.parts.specs.Limits.{first_round, last_round}
use Rattle.map.specs.declared.Arrangement.{Arrangement}
use Rattle.map.specs.declared.Arrangement.TheVariants.{Columns}
use Rattle.record.specs.Record.{field_row, field_ok, record_end}
use Rattle.point.specs.Point.{PointId, AnchorLink, Direct, Indirect, PointInfo, digest_safe, in_domain}
use Rattle.point.specs.Reading.{point_id_at, read_point_in}
use Rattle.point.specs.declared.data.AnchorStageRole.{AnchorStageRole}
use Rattle.point.specs.declared.data.AnchorStageRole.TheVariants.{Proof, Trigger}
use Rattle.reasons.specs.Invalid.{dag_round}
use Rattle.rules.specs.DagPoint.{DagPoint, Valid, TransInvalid, Invalid, IllFormed, NotFound, Dropped, Entry, IndirectEntry}

-- ---- the point record of an entry in state 0, 1 or 2

-- "a direct link names a peer of its map"
abbrev pub is_named : PointInfo → AnchorLink → Bool
is_named q (Direct t) = is_some (digest_safe q t)
is_named q (Indirect to t) = true

unfoldable pub is_listable : PointInfo → Bool
unfolding in_domain digest_safe
is_listable q = in_domain q && (is_named q q.anchor_proof && is_named q q.anchor_trigger)

-- ---- one entry at the front of what is left of a list

-- what stands after tag 16, and how many bytes it takes
pub record Stated : Type 0 where
  pub point : DagPoint
  pub size : ℕ

-- a point record at the front of a slice, and where it ends
pub record RecordFront : Type 0 where
  pub point : PointInfo
  pub size : ℕ

unfoldable pub record_front_in : Arrangement → List ℕ → Option RecordFront
unfolding record_end read_point_in is_listable
record_front_in a s =
    and_then (record_end s) (λ n. and_then (read_point_in a (take n s)) (λ q.
    pick (is_listable q) (Some (record { point = q; size = n })) None))

-- a point record, `front` bytes after tag 16
abbrev pub record_at_in : Arrangement → (PointInfo → DagPoint) → ℕ → List ℕ → Option Stated
record_at_in a state front s = option_map (λ x. record { point = state x.point; size = front + x.size }) (record_front_in a (drop front s))

-- tag 17: the id
abbrev pub id_at17 : (PointId → DagPoint) → List ℕ → Option Stated
id_at17 state s = pick (field_ok (field_row 17 68 68) s 0) (Some (record { point = state (point_id_at s 3); size = 71 })) None

-- tag 18: "root cause id then its reason number (69 bytes)"; "root-cause rounds 4 to 2,147,483,647"
unfoldable pub is_root : List ℕ → Bool
unfolding field_ok dag_round
is_root s =
    field_ok (field_row 18 69 69) s 0
    && (leb first_round (little_at 4 s 3)
    && (leb (little_at 4 s 3) last_round
    && is_some (dag_round (get_or s 71 0))))

-- "for states 3 and 4 tag 17, the id; for state 1 tag 18 ..; for states 0 to 2 the point record". "State 3 has an ill-formed number,
-- state 2 and every root cause an invalid one, the other states 0."
unfoldable pub read_state_in : Arrangement → ℕ → ℕ → List ℕ → Option Stated
unfolding record_front_in field_ok is_root point_id_at dag_round
read_state_in a state reason s =
    pick (eqb state 0) (pick (eqb reason 0) (record_at_in a Valid 0 s) None)
    (pick (eqb state 1)
    (pick (eqb reason 0 && is_root s) (record_at_in a (λ q. TransInvalid q (point_id_at s 3) (get_or s 71 0)) 72 s) None)
    (pick (eqb state 2) (pick (is_some (dag_round reason)) (record_at_in a (λ q. Invalid q reason) 0 s) None)
    (pick (eqb state 3) (pick (leb 1 reason && leb reason 16) (id_at17 (λ i. IllFormed i reason) s) None)
    (pick (eqb state 4) (pick (eqb reason 0) (id_at17 NotFound s) None)
    (pick (eqb state 5 && eqb reason 0) (Some (record { point = Dropped; size = 0 })) None)))))

-- an entry, what link it is for if its target's, and how many bytes it takes
pub record Listed : Type 0 where
  pub aim : Option AnchorStageRole
  pub entry : Entry
  pub size : ℕ

-- tag 16: "state .., certified (0 or 1), first valid (0 or 1), reason number"; `front` bytes stand before it
unfoldable pub entry_at_in : Arrangement → Option AnchorStageRole → ℕ → List ℕ → Option Listed
unfolding field_ok read_state_in
entry_at_in a aim front s =
    pick (field_ok (field_row 16 4 4) s 0 && (leb (get_or s 4 0) 1 && leb (get_or s 5 0) 1))
    (option_map (λ x. record {
      aim = aim;
      entry = record { state = x.point; certified = eqb (get_or s 4 0) 1; first_valid = eqb (get_or s 5 0) 1 };
      size = front + 7 + x.size;
    }) (read_state_in a (get_or s 3 0) (get_or s 6 0) (drop 7 s)))
    None

abbrev pub role_of : ℕ → AnchorStageRole
role_of zero = Proof
role_of (suc n) = Trigger

-- "Entries for indirect targets begin with tag 19: 0 proof, 1 trigger"
unfoldable pub read_entry_in : Arrangement → List ℕ → Option Listed
unfolding field_ok entry_at_in
read_entry_in a s =
    pick (eqb (get_or s 0 0) 19)
    (pick (field_ok (field_row 19 1 1) s 0 && leb (get_or s 3 0) 1) (entry_at_in a (Some (role_of (get_or s 3 0))) 4 (drop 4 s)) None)
    (entry_at_in a None 0 s)

-- ---- the list

-- "they stand behind all direct ones"; `indirect_seen` says that an indirect one stood before
abbrev pub is_in_order : Bool → Option AnchorStageRole → Bool
is_in_order indirect_seen aim = not indirect_seen || is_some aim

-- at most n entries
unfoldable pub list_from_in : Arrangement → ℕ → Bool → List ℕ → Option (List Listed)
unfolding read_entry_in
list_from_in a zero indirect_seen s = pick (eqb (length s) 0) (Some []) None
list_from_in a (suc n) indirect_seen s =
    pick (eqb (length s) 0) (Some []) (and_then (read_entry_in a s) (λ x.
    pick (is_in_order indirect_seen x.aim) (option_map (λ l. x ∷ l) (list_from_in a n (is_some x.aim) (drop x.size s))) None))

-- "A list holds at most 65,535 entries"
unfoldable pub read_list_in : Arrangement → List ℕ → Option (List Listed)
unfolding list_from_in
read_list_in a s = list_from_in a 65535 false s

-- ---- as the calls read all this: columns

abbrev pub record_front : List ℕ → Option RecordFront
record_front s = record_front_in Columns s

abbrev pub record_at : (PointInfo → DagPoint) → ℕ → List ℕ → Option Stated
record_at state front s = record_at_in Columns state front s

abbrev pub read_state : ℕ → ℕ → List ℕ → Option Stated
read_state state reason s = read_state_in Columns state reason s

abbrev pub entry_at : Option AnchorStageRole → ℕ → List ℕ → Option Listed
entry_at aim front s = entry_at_in Columns aim front s

abbrev pub read_entry : List ℕ → Option Listed
read_entry s = read_entry_in Columns s

abbrev pub list_from : ℕ → Bool → List ℕ → Option (List Listed)
list_from n indirect_seen s = list_from_in Columns n indirect_seen s

abbrev pub read_list : List ℕ → Option (List Listed)
read_list s = read_list_in Columns s

-- ---- its direct and its indirect entries

unfoldable pub directs : List Listed → List Entry
directs [] = []
directs (x ∷ l) = pick (is_some x.aim) (directs l) (x.entry ∷ directs l)

unfoldable pub indirects : List Listed → List IndirectEntry
indirects [] = []
indirects (x ∷ l) = unwrap_or (option_map (λ g. record { role = g; entry = x.entry } ∷ indirects l) x.aim) (indirects l)
