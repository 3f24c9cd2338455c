-- A list of eight bytes more than the call's has room for all reasons that the network can force (Room.antt): all dropped entries have one
-- row together.
use Rattle.std.specs.Prelude.{Option, Some}
use Prim.Native.Nat.{ℕ, suc, ◌+◌, ◌*◌, ◌≤◌}
use native.Mathlib.Omega.{arith}
use lib.Dec.{leb, eqb}
use lib.ListN.{length}
use mathlib.Core.Path.{◌≡◌, refl, ap, ◌∙◌}
use mathlib.Core.Bool.{Bool, true, false, ◌||◌}
use mathlib.Core.List.{List, [], ◌∷◌, ◌++◌}
use Rattle.base.specs.Base.{pick, is_empty, last_of}
use Rattle.map.proofs.Risen.{risen-length}
use Rattle.point.specs.Point.{PointInfo}
use Rattle.schedule.specs.Settings.{Settings}
use Rattle.reasons.specs.Invalid.{InvalidReason, DependencyRoundDropped}
use Rattle.rules.specs.DagPoint.{Entry, IndirectEntry, is_dropped, point_view}
use Rattle.rules.specs.List.{Listed, read_list, read_list_in, directs, indirects}
use Rattle.rules.specs.Validate.{entry_findings, indirect_findings}
use Rattle.rules.specs.Judge.{Tested, refused, admitted, Before, answered, needed, before}
use Rattle.rules.specs.Trail.{Row, row, rows_at}
use Rattle.rules.specs.Force.{list_of, finals, same_reason, has_reason_of, firsts, rank, ranked}
use Rattle.rules.specs.Force.{forceable, forceable_over, forceable_from, forceable_with}
use Rattle.rules.proofs.Decoded.{same-reason_eq, same-reason_refl}
use Rattle.rules.proofs.Ranked.{has-append, has_same}
use Rattle.rules.proofs.Rows.{reasons-at, reasons-length}
use Rattle.rules.proofs.Finals.{rows_from}
use Rattle.rules.proofs.SomeOrder.{final_of, target_final, finals_from}
use Rattle.rules.proofs.Room.{entry-few, target_entry-few, total, most_direct, most_indirect, most_listed, directs-most, indirects-most}
use Rattle.rules.proofs.Room.{list-room, ruled-few, call-room}

-- ---- rows that stay

abbrev drop_row : Row
drop_row = row 0 0 DependencyRoundDropped

-- how many rows have another reason than a drop's
unfoldable others : List Row → ℕ
unfolding has_reason_of
others [] = 0
others (r ∷ l) = pick (same_reason DependencyRoundDropped r.reason) 0 1 + others l

-- how many of the drops behind these rows stay: one, if none is among these
abbrev drops_after : List Row → ℕ
drops_after before = pick (has_reason_of before drop_row) 0 1

drops_after-less : (before : List Row) (r : Row) → drops_after (before ++ (r ∷ [])) ≤ drops_after before
drops_after-less before r =
    rw (has-append before r drop_row) (go (has_reason_of before drop_row) (same_reason r.reason DependencyRoundDropped))
  where
    go : (a b : Bool) → pick (a || b) 0 1 ≤ pick a 0 1
    go true b = omega arith
    go false true = omega arith
    go false false = omega arith

firsts-few : (before l : List Row) → length (firsts before l) ≤ drops_after before + others l
unfolding firsts others
firsts-few before [] = omega arith
firsts-few before (r ∷ l) =
    go (has_reason_of before r) refl (same_reason DependencyRoundDropped r.reason) refl (firsts-few before l) (firsts-few (before ++ (r ∷ [])) l)
  where
    -- the first drop
    first : has_reason_of before r ≡ false → same_reason DependencyRoundDropped r.reason ≡ true →
        (drops_after before ≡ 1) × (drops_after (before ++ (r ∷ [])) ≡ 0)
    first q d =
        let e : DependencyRoundDropped ≡ r.reason = same-reason_eq DependencyRoundDropped r.reason d in
        let none : has_reason_of before drop_row ≡ false = has_same before drop_row r e ∙ q in
        let same : same_reason r.reason DependencyRoundDropped ≡ true = rw (← e) (same-reason_refl DependencyRoundDropped) in
        (rw none refl, rw (has-append before r drop_row, none, same) refl)

    go : (b : Bool) → has_reason_of before r ≡ b → (d : Bool) → same_reason DependencyRoundDropped r.reason ≡ d →
        length (firsts before l) ≤ drops_after before + others l →
        length (firsts (before ++ (r ∷ [])) l) ≤ drops_after (before ++ (r ∷ [])) + others l →
        length (pick b (firsts before l) (r ∷ firsts (before ++ (r ∷ [])) l)) ≤ drops_after before + (pick d 0 1 + others l)
    go true q d e f g = omega (arith, f)
    go false q true e f g = omega (arith, g, (first q e).0, (first q e).1)
    go false q false e f g = omega (arith, g, drops_after-less before r)

ranked-few : (l : List Row) → length (ranked l) ≤ others l + 1
unfolding ranked has_reason_of
ranked-few l = omega (arith, risen-length rank (firsts [] l), firsts-few [] l)

-- ---- the rows of final reasons

others-append : (a b : List Row) → others (a ++ b) ≡ others a + others b
unfolding others
others-append [] b = omega arith
others-append (x ∷ a) b = omega (arith, others-append a b)

others-few : (l : List Row) → others l ≤ length l
unfolding others
others-few [] = omega arith
others-few (x ∷ l) = go (same_reason DependencyRoundDropped x.reason) (others-few l)
  where
    go : (b : Bool) → others l ≤ length l → pick b 0 1 + others l ≤ suc (length l)
    go true h = omega (arith, h)
    go false h = omega (arith, h)

last-few : (t : List InvalidReason) → length (list_of (last_of t)) ≤ length t
unfolding last_of
last-few [] = omega arith
last-few (x ∷ []) = omega arith
last-few (x ∷ y ∷ t) = omega (arith, last-few (y ∷ t))

-- rows of an entry's last reason
final-few : (list place : ℕ) (t : List InvalidReason) → others (rows_at list place (list_of (last_of t))) ≤ length t
final-few list place t =
    let rows = rows_at list place (list_of (last_of t)) in
    omega (arith, others-few rows, reasons-length rows, ap length (reasons-at list place (list_of (last_of t))), last-few t)

rows_from-few : {A : Type 0} (f : A → Option InvalidReason) (list : ℕ) (most : A → ℕ) →
    ((a : A) (i : ℕ) → others (rows_at list i (list_of (f a))) ≤ most a) → (l : List A) (i : ℕ) → others (rows_from f list i l) ≤ total most l
unfolding rows_from total others
rows_from-few f list most h [] i = omega arith
rows_from-few f list most h (a ∷ l) i =
    omega (arith, others-append (rows_at list i (list_of (f a))) (rows_from f list (suc i) l), h a i, rows_from-few f list most h l (suc i))

module _ (c : Settings) (required : Bool) (p : PointInfo) where
  direct_final-few : (e : Entry) (i : ℕ) → others (rows_at 1 i (list_of (final_of c required (point_view p) e))) ≤ most_direct e
  unfolding others
  direct_final-few e i = go (is_dropped e.state)
    where
      t : List InvalidReason
      t = (entry_findings c required (point_view p) e).trail

      go : (b : Bool) → others (rows_at 1 i (list_of (pick b (Some DependencyRoundDropped) (last_of t)))) ≤ most_direct e
      go true = omega arith
      go false = omega (arith, final-few 1 i t, entry-few c required (point_view p) e)

  indirect_final-few : (a : IndirectEntry) (i : ℕ) → others (rows_at 2 i (list_of (target_final c p a))) ≤ most_indirect a
  indirect_final-few a i = omega (arith, final-few 2 i (indirect_findings c p a).trail, target_entry-few c p a)

  finals-few : (l : List Listed) → others (finals c required p (directs l) (indirects l)) ≤ total most_listed l
  finals-few l = rw (finals_from c required p (directs l) (indirects l)) (go (is_empty direct))
    where
      direct : List Row
      direct = rows_from (final_of c required (point_view p)) 1 0 (directs l)

      go : (b : Bool) → others (pick b (rows_from (target_final c p) 2 0 (indirects l)) direct) ≤ total most_listed l
      go true = omega (arith, rows_from-few (target_final c p) 2 most_indirect indirect_final-few (indirects l) 0, indirects-most l)
      go false =
          omega (arith, rows_from-few (final_of c required (point_view p)) 1 most_direct direct_final-few (directs l) 0, directs-most l)

  -- of a list that reads
  pub finals-room : (s : List ℕ) (l : List Listed) → read_list s ≡ Some l → 8 * length (ranked (finals c required p (directs l) (indirects l))) ≤ length s + 8
  unfolding read_list_in
  finals-room s l h =
      omega (arith, ranked-few (finals c required p (directs l) (indirects l)), finals-few l, list-room 65535 false s l h)

  forceable-few : (presence : ℕ) (l : List Listed) →
      length (forceable c required presence p (directs l) (indirects l)) ≤ total most_listed l + 1
  unfolding forceable
  forceable-few presence l =
      ruled-few p presence (total most_listed l) (ranked (finals c required p (directs l) (indirects l)))
      (omega (arith, ranked-few (finals c required p (directs l) (indirects l)), finals-few l))

-- ---- of a call

pub forced_room : (leader presence : ℕ) (list : List ℕ) (t : Tested) → 8 * length (forceable_with leader presence list t) ≤ length list + 8
unfolding forceable_with directs indirects total
forced_room leader presence list (refused n) = omega arith
forced_room leader presence list (admitted i) = go (before i.settings i.schedule (eqb leader 1) i.point)
  where
    go : (b : Before) → 8 * length (forceable_from i.settings presence i.point list b) ≤ length list + 8
    go (answered a) = omega arith
    go (needed required) =
        call-room (forceable_over i.settings required presence i.point) (forceable i.settings required presence i.point [] []) refl
        (forceable-few i.settings required i.point presence)
        (forceable-few i.settings required i.point presence [])
        (leb 2 presence)
        list
