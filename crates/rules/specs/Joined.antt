-- Ticket U10 of document 02, "Records joined": what joining two records does, and what that is to a list that is judged in two halves.
-- Joining is `join` of Validate.antt, by which the loops of check_valid and of check_indirect_links record.
use Rattle.std.specs.Prelude.{ℕ, ◌<◌, ◌≡◌, ◌⊎◌, Bool, true, false, Option, None, Some}
use mathlib.Core.List.{List, [], ◌∷◌, ◌++◌, Memᴰ}
use Rattle.base.specs.Base.{pick, is_empty}
use Rattle.point.specs.Point.{Includes, PointInfo}
use Rattle.point.specs.declared.data.AnchorStageRole.{AnchorStageRole}
use Rattle.schedule.specs.Settings.{Settings}
use Rattle.reasons.specs.Invalid.{InvalidReason, InvalidDependency, has_dag_round}
use Rattle.reasons.specs.Verdict as verdict
use Rattle.rules.specs.DagPoint.{Invalid, Entry, is_dropped, point_view}
use Rattle.rules.specs.List.{Listed, read_list, directs, indirects}
use Rattle.rules.specs.Validate.{Findings, nothing, join, entry_findings, check_valid, indirect_findings, check_indirect_links, result_with, validate}
use Rattle.rules.specs.Passed.{has_reason}
use Rattle.rules.specs.Edges.{conf, judged_at, included_at, entry_with, dropped, over}

-- "newer by the rule of `dependency`": "if its round is greater, or equal and only the new reason has a DAG round"
abbrev pub Newer : InvalidDependency → InvalidDependency → Type 0
Newer old new =
    (old.to.round < new.to.round)
    ⊎ ((old.to.round ≡ new.to.round) × (has_dag_round old.reason ≡ false) × (has_dag_round new.reason ≡ true))

-- ---- recording over a list, as judging does

-- what the direct entries give
abbrev pub direct_findings : Settings → Bool → PointInfo → List Listed → Findings
direct_findings c required p l = check_valid c required (point_view p) nothing (directs l)

-- and what the whole list does: "Indirect entries are judged only if the direct ones gave no reason"
abbrev pub list_findings : Settings → Bool → PointInfo → List Listed → Findings
list_findings c required p l =
    pick (is_empty (direct_findings c required p l).trail)
    (check_indirect_links c p (direct_findings c required p l) (indirects l))
    (direct_findings c required p l)

abbrev pub recorded : Settings → Bool → PointInfo → List Listed → Option InvalidDependency
recorded c required p l = (list_findings c required p l).root

-- the reasons that an entry gives, for a link of a role or not
abbrev pub reasons_by : Settings → Bool → PointInfo → Option AnchorStageRole → Entry → List InvalidReason
reasons_by c required p None e = (entry_findings c required (point_view p) e).trail
reasons_by c required p (Some g) e = (indirect_findings c p (record { role = g; entry = e })).trail

-- a list without "a dropped entry or an entry that gives a reason"
abbrev pub Silent : Settings → Bool → PointInfo → List Listed → Type 0
Silent c required p l =
    (x : Listed) → Memᴰ x l → (is_dropped x.entry.state ≡ false) × (reasons_by c required p x.aim x.entry ≡ [])

-- ---- the examples' values: a point of round 111 that includes points of authors 2 and 3, of which both are invalid

abbrev pub bad_entry : ℕ → Entry
bad_entry author = entry_with (Invalid (included_at author 110 900) 6)

-- what is recorded of one: it is its own root cause
abbrev pub bad_root : ℕ → InvalidDependency
bad_root author = record { to = record { round = 110; digest = 7; author = author }; reason = 6; through = Includes author }

abbrev pub list_of : List Entry → List Listed
list_of [] = []
list_of (e ∷ l) = record { aim = None; entry = e; size = 0 } ∷ list_of l

abbrev pub recorded_of : List Entry → Option InvalidDependency
recorded_of es = recorded conf false (judged_at 111) (list_of es)

pub record Joined : Type 0 where
  -- "the first stays unless the second is newer by the rule of `dependency`"
  pub newer : (old new : InvalidDependency) → Newer old new → join (Some old) (Some new) ≡ Some new
  pub stays : (old new : InvalidDependency) → (Newer old new → ⊥) → join (Some old) (Some new) ≡ Some old
  -- "'None' joined on either side changes nothing"
  pub none_first : (a : Option InvalidDependency) → join None a ≡ a
  pub none_second : (a : Option InvalidDependency) → join a None ≡ a
  -- "Joining is associative"
  pub associative : (a b d : Option InvalidDependency) → join (join a b) d ≡ join a (join b d)
  -- "joining a record with itself gives it back"
  pub itself : (a : Option InvalidDependency) → join a a ≡ a
  -- what is called recording here is what judging records: where it gives no reason, its verdict is TransInvalid with this record, or
  -- Valid without one
  pub judging : (c : Settings) (required : Bool) (presence : ℕ) (p : PointInfo) (l : List Listed) →
      has_reason (validate c required presence p (directs l) (indirects l)) ≡ false →
      validate c required presence p (directs l) (indirects l) ≡ result_with None (recorded c required p l)
  -- "Recording over a list followed by another equals the join of the two records", with as little as it needs: no direct entry
  -- follows an indirect one, as in every list that can be read, and the direct entries of the first list give no reason, a dropped
  -- one included. Of the second list nothing is asked
  pub followed : (c : Settings) (required : Bool) (p : PointInfo) (l m : List Listed) → (indirects l ≡ []) ⊎ (directs m ≡ []) →
      (direct_findings c required p l).trail ≡ [] →
      recorded c required p (l ++ m) ≡ join (recorded c required p l) (recorded c required p m)
  -- the same in the ticket's words, of lists of bytes: "provided neither list has a dropped entry or an entry that gives a reason"
  pub halves : (c : Settings) (required : Bool) (p : PointInfo) (s t : List ℕ) (l m whole : List Listed) →
      read_list s ≡ Some l → read_list t ≡ Some m → read_list (s ++ t) ≡ Some whole → Silent c required p l → Silent c required p m →
      recorded c required p whole ≡ join (recorded c required p l) (recorded c required p m)
  -- a dropped entry breaks the equation: what follows it is not recorded
  pub dropped_whole : recorded_of (dropped ∷ bad_entry 2 ∷ []) ≡ None
  pub dropped_halves : join (recorded_of (dropped ∷ [])) (recorded_of (bad_entry 2 ∷ [])) ≡ Some (bad_root 2)
  -- "It is not commutative": a tie, two records of one round of which neither is newer
  pub tie_first : join (Some (bad_root 2)) (Some (bad_root 3)) ≡ Some (bad_root 2)
  pub tie_second : join (Some (bad_root 3)) (Some (bad_root 2)) ≡ Some (bad_root 3)
  pub tie : join (Some (bad_root 2)) (Some (bad_root 3)) ≡ join (Some (bad_root 3)) (Some (bad_root 2)) → ⊥
  -- and so the verdicts over the two entries in the two orders
  pub tie_judged : over 111 (bad_entry 2 ∷ bad_entry 3 ∷ []) ≡ verdict.TransInvalid (bad_root 2)
  pub tie_reversed : over 111 (bad_entry 3 ∷ bad_entry 2 ∷ []) ≡ verdict.TransInvalid (bad_root 3)
