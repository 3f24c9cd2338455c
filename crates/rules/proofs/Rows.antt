-- The rows of a list read without list and place are the reasons of the loops of check_valid and of check_indirect_links; and how many
-- bytes rows take.
use Prim.Native.Nat.{ℕ, suc, ◌*◌}
use native.Mathlib.Omega.{arith}
use lib.ListN.{length}
use mathlib.Core.Path.{◌≡◌, refl, sym, ap, ◌∙◌}
use mathlib.Core.Bool.{Bool, true, false}
use mathlib.Core.List.{List, [], ◌∷◌, ◌++◌}
use Rattle.base.specs.Base.{pick, when, is_empty}
use Rattle.base.proofs.Impossible.{impossible}
use Rattle.parts.specs.Bytes.{little_bytes}
use Rattle.point.specs.Point.{PointInfo}
use Rattle.schedule.specs.Settings.{Settings}
use Rattle.reasons.specs.Invalid.{InvalidReason, DependencyRoundDropped}
use Rattle.rules.specs.DagPoint.{Entry, IndirectEntry, is_dropped, PointView, point_view}
use Rattle.rules.specs.Validate.{Findings, nothing, joined, entry_findings, indirect_findings, check_valid, check_indirect_links}
use Rattle.rules.specs.Trail.{Row, rows_at, dropped_rows, direct_rows, indirect_rows, list_rows, rows_bytes}
use Rattle.rules.specs.Fired.{reasons_in, all_findings}

-- ---- rows read without list and place

reasons-append : (a b : List Row) → reasons_in (a ++ b) ≡ reasons_in a ++ reasons_in b
reasons-append [] b = refl
reasons-append (x ∷ a) b = ap (λ (l : List InvalidReason). x.reason ∷ l) (reasons-append a b)

pub reasons-at : (list place : ℕ) (l : List InvalidReason) → reasons_in (rows_at list place l) ≡ l
reasons-at list place [] = refl
reasons-at list place (r ∷ l) = ap (λ (m : List InvalidReason). r ∷ m) (reasons-at list place l)

pub reasons-length : (rows : List Row) → length (reasons_in rows) ≡ length rows
reasons-length [] = refl
reasons-length (x ∷ rows) = ap suc (reasons-length rows)

pub no_rows : (rows : List Row) → reasons_in rows ≡ [] → rows ≡ []
no_rows [] h = refl
no_rows (x ∷ rows) h = impossible (cc)

reasons-empty : (a : List Row) → is_empty (reasons_in a) ≡ is_empty a
reasons-empty [] = refl
reasons-empty (x ∷ a) = refl

-- rows and their reasons, and then an entry's
reasons-then : (list place : ℕ) (a : List Row) (t l : List InvalidReason) → reasons_in a ≡ t → reasons_in (a ++ rows_at list place l) ≡ t ++ l
reasons-then list place a t l h = reasons-append a (rows_at list place l) ∙ rw (h, reasons-at list place l)

-- a dropped entry sets its reason where none is set
reasons-dropped : (i : ℕ) (old : List Row) → reasons_in (dropped_rows i old) ≡ when (is_empty old) DependencyRoundDropped
reasons-dropped i old = reasons-at 1 i (when (is_empty old) DependencyRoundDropped)

module _ (c : Settings) (required : Bool) (p : PointView) where
  pub direct-reasons : (es : List Entry) (i : ℕ) (old : List Row) (f : Findings) → reasons_in old ≡ f.trail →
      reasons_in (direct_rows c required p i old es) ≡ (check_valid c required p f es).trail
  unfolding direct_rows check_valid
  direct-reasons [] i old f h = h
  direct-reasons (e ∷ l) i old f h =
      go (is_dropped e.state) _
      (direct-reasons l _ (old ++ rows_at 1 i (entry_findings c required p e).trail) (joined f (entry_findings c required p e))
      (reasons-then 1 i old f.trail (entry_findings c required p e).trail h))
    where
      empty : is_empty old ≡ is_empty f.trail
      empty = sym (reasons-empty old) ∙ ap (λ (t : List InvalidReason). is_empty t) h

      go : (b : Bool) (rest : List Row) → reasons_in rest ≡ (check_valid c required p (joined f (entry_findings c required p e)) l).trail →
          reasons_in (pick b (old ++ dropped_rows i old) rest)
          ≡ (pick b
          (record { trail = f.trail ++ when (is_empty f.trail) DependencyRoundDropped; root = f.root })
          (check_valid c required p (joined f (entry_findings c required p e)) l)).trail
      go true rest k =
          reasons-append old (dropped_rows i old)
          ∙ ap (λ (l : List InvalidReason). reasons_in old ++ l) (reasons-dropped i old)
          ∙ ap (λ (b : Bool). reasons_in old ++ when b DependencyRoundDropped) empty
          ∙ ap (λ (t : List InvalidReason). t ++ when (is_empty f.trail) DependencyRoundDropped) h
      go false rest k = k

module _ (c : Settings) (p : PointInfo) where
  pub indirect-reasons : (ts : List IndirectEntry) (i : ℕ) (old : List Row) (f : Findings) → reasons_in old ≡ f.trail →
      reasons_in (indirect_rows c p i old ts) ≡ (check_indirect_links c p f ts).trail
  unfolding indirect_rows check_indirect_links
  indirect-reasons [] i old f h = h
  indirect-reasons (a ∷ l) i old f h =
      indirect-reasons l (suc i) (old ++ rows_at 2 i (indirect_findings c p a).trail) (joined f (indirect_findings c p a))
      (reasons-then 2 i old f.trail (indirect_findings c p a).trail h)

module _ (c : Settings) (required : Bool) (p : PointInfo) (es : List Entry) (ts : List IndirectEntry) where
  pub list-reasons : reasons_in (list_rows c required p es ts) ≡ (all_findings c required p es ts).trail
  unfolding list_rows
  list-reasons =
      go (direct_rows c required (point_view p) 0 [] es) (check_valid c required (point_view p) nothing es)
      (direct-reasons c required (point_view p) es 0 [] nothing refl)
    where
      -- where there is no reason the indirect entries begin with none
      go : (rows : List Row) (f : Findings) → reasons_in rows ≡ f.trail →
          reasons_in (pick (is_empty rows) (indirect_rows c p 0 [] ts) rows) ≡ (pick (is_empty f.trail) (check_indirect_links c p f ts) f).trail
      go [] f h =
          let e : is_empty f.trail ≡ true = ap (λ (t : List InvalidReason). is_empty t) (sym h) in
          indirect-reasons c p ts 0 [] f h ∙ sym (rw e refl)
      go (x ∷ rows) f h =
          let e : is_empty f.trail ≡ false = ap (λ (t : List InvalidReason). is_empty t) (sym h) in
          h ∙ sym (rw e refl)

-- ---- in bytes

pub rows_length : (rows : List Row) → length (rows_bytes rows) ≡ 8 * length rows
unfolding rows_bytes little_bytes
rows_length [] = refl
rows_length (r ∷ l) = let h = rows_length l in omega arith
