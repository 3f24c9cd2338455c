-- The rows of entries before others: where no dropped entry stands among them, the others are judged at the places that follow theirs.
use Prim.Native.Nat.{ℕ, suc, ◌+◌}
use native.Mathlib.Omega.{arith}
use lib.ListN.{length}
use mathlib.Core.Path.{◌≡◌, refl, sym, ap}
use mathlib.Core.Logic.{◌⊎◌, inl, inr}
use mathlib.Core.Bool.{Bool, true, false}
use mathlib.Core.List.{List, [], ◌∷◌, ◌++◌, Memᴰ}
use Rattle.base.specs.Base.{is_empty}
use Rattle.point.specs.Point.{PointInfo}
use Rattle.schedule.specs.Settings.{Settings}
use Rattle.rules.specs.DagPoint.{Entry, IndirectEntry, is_dropped, PointView}
use Rattle.rules.specs.Validate.{entry_findings, indirect_findings}
use Rattle.rules.specs.Trail.{Row, rows_at, dropped_rows, direct_rows, indirect_rows}

module _ (c : Settings) (required : Bool) (p : PointView) where
  -- a dropped entry among the first ones ended the list, and left a row; or those that follow them are judged at their places
  abbrev pub Split : List Entry → List Entry → ℕ → List Row → Type 0
  Split a b i old =
      ((direct_rows c required p i old (a ++ b) ≡ direct_rows c required p i old a)
      × ((is_empty (direct_rows c required p i old a) ≡ false)
      × ((e : Entry) × (Memᴰ e a × (is_dropped e.state ≡ true)))))
      ⊎ (direct_rows c required p i old (a ++ b) ≡ direct_rows c required p (i + length a) (direct_rows c required p i old a) b)

  dropped-row : (i : ℕ) (old : List Row) → is_empty (old ++ dropped_rows i old) ≡ false
  dropped-row i [] = refl
  dropped-row i (x ∷ old) = refl

  pub direct-split : (a b : List Entry) (i : ℕ) (old : List Row) → Split a b i old
  unfolding direct_rows
  direct-split [] b i old = inr (let z : i ≡ i + 0 = omega arith in ap (λ (n : ℕ). direct_rows c required p n old b) z)
  direct-split (e ∷ l) b i old =
      go (is_dropped e.state) refl (direct-split l b (suc i) (old ++ rows_at 1 i (entry_findings c required p e).trail))
    where
      go : (d : Bool) → is_dropped e.state ≡ d → Split l b (suc i) (old ++ rows_at 1 i (entry_findings c required p e).trail) →
          Split (e ∷ l) b i old
      go true h s = inl (rw h refl, (rw h (dropped-row i old), (e, (Memᴰ.head refl, h))))
      go false h (inl s) = inl (rw h s.0, (rw h s.1.0, (s.1.1.0, (Memᴰ.tail s.1.1.1.0, s.1.1.1.1))))
      go false h (inr s) = inr (let z : suc i + length l ≡ i + suc (length l) = omega arith in rw (h, sym z) s)

module _ (c : Settings) (p : PointInfo) where
  pub indirect-split : (a b : List IndirectEntry) (i : ℕ) (old : List Row) →
      indirect_rows c p i old (a ++ b) ≡ indirect_rows c p (i + length a) (indirect_rows c p i old a) b
  unfolding indirect_rows
  indirect-split [] b i old = let z : i ≡ i + 0 = omega arith in ap (λ (n : ℕ). indirect_rows c p n old b) z
  indirect-split (a ∷ l) b i old =
      let z : suc i + length l ≡ i + suc (length l) = omega arith in
      rw (sym z) (indirect-split l b (suc i) (old ++ rows_at 2 i (indirect_findings c p a).trail))
