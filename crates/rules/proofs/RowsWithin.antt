-- The place of a row is that of an entry in a list of at most 65,535.
use Rattle.std.specs.Prelude.{Option, None, Some, option_map, unwrap_or, is_some}
use Prim.Native.Nat.{ℕ, zero, suc, ◌+◌, ◌<◌, ◌≤◌}
use native.Mathlib.Omega.{arith}
use lib.Dec.{leb, eqb}
use lib.ListN.{length, drop}
use mathlib.Core.Path.{◌≡◌, refl, sym, ap}
use mathlib.Core.Logic.{◌⊎◌, inl, inr}
use mathlib.Core.Bool.{Bool, true, false, not, ◌&&◌}
use mathlib.Core.List.{List, [], ◌∷◌, ◌++◌}
use Rattle.base.specs.Base.{pick, when, is_empty}
use Rattle.point.specs.Point.{PointInfo}
use Rattle.point.specs.declared.data.AnchorStageRole.{AnchorStageRole}
use Rattle.point.specs.declared.data.PointMap.TheVariants as maps
use Rattle.schedule.specs.Settings.{Settings}
use Rattle.reasons.specs.Invalid.{InvalidReason, DependencyRoundDropped}
use Rattle.rules.specs.DagPoint.{Entry, IndirectEntry, point_view, is_dropped}
use Rattle.rules.specs.List.{Listed, list_from, read_list, read_list_in, directs, indirects}
use Rattle.rules.specs.Validate.{entry_findings, indirect_findings}
use Rattle.rules.specs.Judge.{Tested, refused, admitted, Before, answered, needed, before}
use Rattle.rules.specs.Trail.{Row, rows_at, dropped_rows, direct_rows, indirect_rows, list_rows, rule_row, trail, trail_over, trail_from}
use Rattle.rules.specs.Trail.{trail_with}
use Rattle.rules.proofs.All.{All, all_append, all-pick}
use Rattle.rules.proofs.Pieces.{Step, list_zero, list_suc}

-- a row of an entry before the n-th
abbrev pub Within : ℕ → Row → Type 0
Within n r = r.place < n

at_within : (n list place : ℕ) (l : List InvalidReason) → place < n → All (Within n) (rows_at list place l)
at_within n list place [] h = tt
at_within n list place (r ∷ l) h = (h, at_within n list place l h)

module _ (c : Settings) (required : Bool) (p : PointInfo) (n : ℕ) where
  direct_within : (es : List Entry) (i : ℕ) (old : List Row) → i + length es ≤ n → All (Within n) old →
      All (Within n) (direct_rows c required (point_view p) i old es)
  unfolding direct_rows
  direct_within [] i old h f = f
  direct_within (e ∷ l) i old h f =
      let own = old ++ rows_at 1 i (entry_findings c required (point_view p) e).trail in
      all-pick (Within n) (is_dropped e.state) (old ++ dropped_rows i old) (direct_rows c required (point_view p) _ own l)
      (all_append (Within n) old (dropped_rows i old) f (at_within n 1 i (when (is_empty old) DependencyRoundDropped) (omega arith)))
      (direct_within l _ own (omega arith)
      (all_append (Within n) old _ f (at_within n 1 i (entry_findings c required (point_view p) e).trail (omega arith))))

  indirect_within : (ts : List IndirectEntry) (i : ℕ) (old : List Row) → i + length ts ≤ n → All (Within n) old →
      All (Within n) (indirect_rows c p i old ts)
  unfolding indirect_rows
  indirect_within [] i old h f = f
  indirect_within (a ∷ l) i old h f =
      indirect_within l (suc i) (old ++ rows_at 2 i (indirect_findings c p a).trail) (omega arith)
      (all_append (Within n) old _ f (at_within n 2 i (indirect_findings c p a).trail (omega arith)))

  trail_within : (presence : ℕ) (es : List Entry) (ts : List IndirectEntry) → 0 < n → length es ≤ n → length ts ≤ n →
      All (Within n) (trail c required presence p es ts)
  unfolding trail list_rows
  trail_within presence es ts z h g =
      let direct = direct_rows c required (point_view p) 0 [] es in
      let indirect = indirect_rows c p 0 [] ts in
      let rows = pick (is_empty direct) indirect direct in
      let d : All (Within n) direct = direct_within es 0 [] (omega arith) tt in
      let t : All (Within n) indirect = indirect_within ts 0 [] (omega arith) tt in
      let r : All (Within n) rows = all-pick (Within n) (is_empty direct) indirect direct t d in
      let w = pick (eqb presence 2 && not (is_empty p.witness)) (rule_row maps.Witness) rows in
      let v : All (Within n) w = all-pick (Within n) (eqb presence 2 && not (is_empty p.witness)) (rule_row maps.Witness) rows (z, tt) r in
      let u : All (Within n) (pick (eqb presence 1) (rule_row maps.Includes) w) =
      all-pick (Within n) (eqb presence 1) (rule_row maps.Includes) w (z, tt) v in
      all-pick (Within n) (eqb presence 0) (rule_row maps.Evidence) (pick (eqb presence 1) (rule_row maps.Includes) w) (z, tt) u

pub directs-few : (l : List Listed) → length (directs l) ≤ length l
unfolding directs
directs-few [] = omega arith
directs-few (x ∷ l) = go (is_some x.aim) (directs-few l)
  where
    go : (b : Bool) → length (directs l) ≤ length l → length (pick b (directs l) (x.entry ∷ directs l)) ≤ suc (length l)
    go true h = omega arith
    go false h = omega arith

pub indirects-few : (l : List Listed) → length (indirects l) ≤ length l
unfolding indirects
indirects-few [] = omega arith
indirects-few (x ∷ l) = go x.aim (indirects-few l)
  where
    go : (o : Option AnchorStageRole) → length (indirects l) ≤ length l →
        length (unwrap_or (option_map (λ g. record { role = g; entry = x.entry } ∷ indirects l) o) (indirects l)) ≤ suc (length l)
    go None h = omega arith
    go (Some g) h = omega arith

-- "A list holds at most 65,535 entries"
pub list-few : (n : ℕ) (b : Bool) (s : List ℕ) (l : List Listed) → list_from n b s ≡ Some l → length l ≤ n
list-few zero b s l h = let k : length l ≡ 0 = sym (ap length (list_zero b s l h).1) in omega arith
list-few (suc n) b s l h = go (list_suc n b s l h) (list-few n)
  where
    go : ((length s ≡ 0) × ([] ≡ l)) ⊎ Step n b s l →
        ((b : Bool) (s : List ℕ) (l : List Listed) → list_from n b s ≡ Some l → length l ≤ n) → length l ≤ suc n
    go (inl e) f = let k : length l ≡ 0 = sym (ap length e.1) in omega arith
    go (inr u) f =
        let k : length l ≡ suc (length u.rest) = sym (ap length u.is) in
        let m = f (is_some u.first.aim) (drop u.first.size s) u.rest u.more in
        omega arith

over_within : (c : Settings) (required : Bool) (presence : ℕ) (p : PointInfo) (o : Option (List Listed)) →
    ((l : List Listed) → o ≡ Some l → length l ≤ 65535) → All (Within 65535) (trail_over c required presence p o)
over_within c required presence p None f = tt
over_within c required presence p (Some l) f =
    let h = f l refl in
    let d = directs-few l in
    let t = indirects-few l in
    trail_within c required p 65535 presence (directs l) (indirects l) (omega arith) (omega arith) (omega arith)

pub with_within : (leader presence : ℕ) (list : List ℕ) (t : Tested) → All (Within 65535) (trail_with leader presence list t)
unfolding trail_with read_list_in
with_within leader presence list (refused n) = tt
with_within leader presence list (admitted i) = go (before i.settings i.schedule (eqb leader 1) i.point)
  where
    go : (b : Before) → All (Within 65535) (trail_from i.settings presence i.point list b)
    go (answered a) = tt
    go (needed required) =
        all-pick (Within 65535) (leb 2 presence) (trail_over i.settings required presence i.point (read_list list))
        (trail i.settings required presence i.point [] [])
        (over_within i.settings required presence i.point (read_list list) (list-few 65535 false list))
        (trail_within i.settings required i.point 65535 presence [] [] (omega arith) (omega arith) (omega arith))
