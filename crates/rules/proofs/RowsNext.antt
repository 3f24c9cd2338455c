-- What one entry adds to the rows of those before it.
use Prim.Native.Nat.{ℕ, ◌+◌}
use native.Mathlib.Omega.{arith}
use lib.ListN.{length}
use mathlib.Core.Path.{◌≡◌, refl, ap, ◌∙◌}
use mathlib.Core.Logic.{inl, inr}
use mathlib.Core.Bool.{Bool, true, false}
use mathlib.Core.List.Memᴰ
use mathlib.Core.List.{List, [], ◌∷◌, ◌++◌, Memᴰ, append-nil}
use Rattle.base.specs.Base.{is_empty}
use Rattle.base.proofs.Bool.{clash}
use Rattle.point.specs.Point.{PointInfo}
use Rattle.schedule.specs.Settings.{Settings}
use Rattle.reasons.specs.Invalid.{DependencyRoundDropped}
use Rattle.rules.specs.DagPoint.{Entry, IndirectEntry, is_dropped, point_view}
use Rattle.rules.specs.Validate.{entry_findings, indirect_findings}
use Rattle.rules.specs.Trail.{Row, row, rows_at, direct_rows, indirect_rows}
use Rattle.rules.proofs.RowsSplit.{Split, direct-split, indirect-split}

module _ (c : Settings) (required : Bool) (p : PointInfo) (earlier : List Entry) (e : Entry) where
  here : 0 + length earlier ≡ length earlier
  here = omega arith

  abbrev old_rows : List Row
  old_rows = direct_rows c required (point_view p) 0 [] earlier

  pub direct_next : ((d : Entry) → Memᴰ d (earlier ++ (e ∷ [])) → is_dropped d.state ≡ false) →
      direct_rows c required (point_view p) 0 [] (earlier ++ (e ∷ []))
      ≡ old_rows ++ rows_at 1 (length earlier) (entry_findings c required (point_view p) e).trail
  unfolding direct_rows
  direct_next h = go (direct-split c required (point_view p) earlier (e ∷ []) 0 [])
    where
      go : Split c required (point_view p) earlier (e ∷ []) 0 [] →
          direct_rows c required (point_view p) 0 [] (earlier ++ (e ∷ []))
          ≡ old_rows ++ rows_at 1 (length earlier) (entry_findings c required (point_view p) e).trail
      go (inl (_, (_, (d, (m, k))))) = clash (is_dropped d.state) k (h d (Memᴰ.append_left (e ∷ []) m))
      go (inr s) =
          s
          ∙ rw (h e (Memᴰ.append_right earlier (Memᴰ.head refl)))
          (ap (λ (n : ℕ). old_rows ++ rows_at 1 n (entry_findings c required (point_view p) e).trail) here)

  pub direct_drops : (later : List Entry) → is_dropped e.state ≡ true → old_rows ≡ [] →
      direct_rows c required (point_view p) 0 [] (earlier ++ (e ∷ later)) ≡ row 1 (length earlier) DependencyRoundDropped ∷ []
  unfolding direct_rows
  direct_drops later h k = go (direct-split c required (point_view p) earlier (e ∷ later) 0 [])
    where
      go : Split c required (point_view p) earlier (e ∷ later) 0 [] →
          direct_rows c required (point_view p) 0 [] (earlier ++ (e ∷ later)) ≡ row 1 (length earlier) DependencyRoundDropped ∷ []
      go (inl s) = clash (is_empty old_rows) (rw k refl) s.1.0
      go (inr s) = s ∙ rw (h, k) (ap (λ (n : ℕ). row 1 n DependencyRoundDropped ∷ []) here)

  pub direct-adds_none : (later : List Entry) → is_dropped e.state ≡ true → is_empty old_rows ≡ false →
      direct_rows c required (point_view p) 0 [] (earlier ++ (e ∷ later)) ≡ old_rows
  unfolding direct_rows
  direct-adds_none later h k = go (direct-split c required (point_view p) earlier (e ∷ later) 0 [])
    where
      go : Split c required (point_view p) earlier (e ∷ later) 0 [] →
          direct_rows c required (point_view p) 0 [] (earlier ++ (e ∷ later)) ≡ old_rows
      go (inl s) = s.0
      go (inr s) = s ∙ rw (h, k) (append-nil old_rows)

pub indirect_next_lem : (c : Settings) (p : PointInfo) (earlier : List IndirectEntry) (a : IndirectEntry) →
    indirect_rows c p 0 [] (earlier ++ (a ∷ [])) ≡ indirect_rows c p 0 [] earlier ++ rows_at 2 (length earlier) (indirect_findings c p a).trail
unfolding indirect_rows
indirect_next_lem c p earlier a =
    let here : 0 + length earlier ≡ length earlier = omega arith in
    indirect-split c p earlier (a ∷ []) 0 []
    ∙ ap (λ (n : ℕ). indirect_rows c p 0 [] earlier ++ rows_at 2 n (indirect_findings c p a).trail) here
