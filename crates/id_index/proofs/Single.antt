-- That an index is one of the ids in a slice has one proof at most, so a ghost field may hold it truncated.
use Prim.Native.Nat.{ℕ, ◌<◌}
use native.Mathlib.Omega.{arith}
use native.Mathlib.Bridge.{le_prop}
use native.Mathlib.Nat.{ℕ_set}
use native.Mathlib.Decide.{dec_lt}
use mathlib.Core.HLevel.{is_prop→PathP}
use mathlib.Core.Bool.{Bool-set}
use mathlib.Core.Path.{◌≡◌, ap, sym, ◌∙◌}
use mathlib.Core.List.{List}
use lib.ListN.{get_or}
use Rattle.point.specs.Point.{PointId}
use Rattle.id_index.specs.declared.Index.{Index}
use Rattle.id_index.specs.Code.{id_in, Below, by-digest, by-author, by-round, Sorted, IsIndex}
use Rattle.id_index.proofs.Laws.{below_rules}

below_prop : (a b : PointId) → IsProp (Below a b)
below_prop a b = elim [
  | by-digest d ↦ elim [ by-digest e ↦ ap by-digest (le_prop d e) | by-author e f ↦ absurd (omega (arith, d, e)) | by-round e f g ↦ absurd (omega (arith, d, e)) ]
  | by-author c d ↦ elim [ by-digest e ↦ absurd (omega (arith, c, e)) | by-author e f ↦ (λ i. by-author (ℕ_set _ _ c e i) (le_prop d f i)) | by-round e f g ↦ absurd (omega (arith, d, f)) ]
  | by-round c d r ↦ elim [ by-digest e ↦ absurd (omega (arith, c, e)) | by-author e f ↦ absurd (omega (arith, d, f)) | by-round e f g ↦ (λ i. by-round (ℕ_set _ _ c e i) (ℕ_set _ _ d f i) (le_prop r g i)) ]
]

apart : (a b : PointId) → a ≡ b → Below a b → ⊥
apart a b e h = grind (arith, below_rules)

module _ {s : List ℕ} {x : Index} {n : ℕ} where
  -- no two links have the same number
  one_link : Sorted s x n → (a b : ℕ) → a < n → b < n → get_or x.links a 0 ≡ get_or x.links b 0 → a ≡ b
  one_link w a b la lb e = elim (dec_lt a b) [
    | yes lt ↦ absurd (apart _ _ (ap (id_in s x) e) (w.rising a b lt lb))
    | no ge ↦ elim (dec_lt b a) [
      | yes lt ↦ absurd (apart _ _ (ap (id_in s x) (sym e)) (w.rising b a lt la))
      | no le ↦ omega (arith, ge, le)
    ]
  ]

  onto_prop : Sorted s x n → (j : ℕ) → IsProp ((a : ℕ) × (a < n) × (get_or x.links a 0 ≡ j))
  onto_prop w j p q =
      let e : p.0 ≡ q.0 = one_link w p.0 q.0 p.1 q.1 (p.2 ∙ sym q.2) in
      λ i. (e i, is_prop→PathP (λ k. e k < n) (λ k. le_prop) p.1 q.1 i, is_prop→PathP (λ k. get_or x.links (e k) 0 ≡ j) (λ k. ℕ_set _ _) p.2 q.2 i)

  sorted_prop : IsProp (Sorted s x n)
  sorted_prop v w = let h : IsProp (Sorted s x n) = hlevel (le_prop, below_prop, onto_prop v) in h v w

pub is_index_prop : {s : List ℕ} {x : Index} → IsProp (IsIndex s x)
is_index_prop = hlevel (le_prop, ℕ_set, Bool-set, sorted_prop)
