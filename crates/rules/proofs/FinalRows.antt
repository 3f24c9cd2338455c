-- The rows of final reasons (ticket U11) beside the entries: whose reasons they are, and at which places they stand.
use Rattle.std.specs.Prelude.{Option, Some}
use Prim.Native.Nat.{ℕ, ◌≤◌}
use native.Mathlib.Omega.{arith}
use lib.ListN.{length, length-append}
use mathlib.Core.Path.{◌≡◌, refl, sym, ap, ◌∙◌, subst}
use mathlib.Core.Logic.{◌⊎◌, inl, inr}
use mathlib.Core.Bool.{Bool, true, false}
use mathlib.Core.List.Memᴰ
use mathlib.Core.List.{List, [], ◌∷◌, Memᴰ}
use Rattle.base.specs.Base.{pick, is_empty, last_of}
use Rattle.base.proofs.Bool.{clash, or_left, or_right}
use Rattle.base.proofs.Option.{some-injective}
use Rattle.point.specs.Point.{PointInfo}
use Rattle.schedule.specs.Settings.{Settings}
use Rattle.reasons.specs.Invalid.{InvalidReason, DependencyRoundDropped}
use Rattle.rules.specs.DagPoint.{Entry, IndirectEntry, is_dropped, point_view}
use Rattle.rules.specs.Validate.{entry_findings}
use Rattle.rules.specs.Trail.{Row}
use Rattle.rules.specs.Fired.{reasons_in}
use Rattle.rules.specs.Force.{direct_finals, finals}
use Rattle.rules.specs.Forced.{Same, NoneDropped, IsFinal, IsTargetFinal, HasFinal, HasTarget, At}
use Rattle.rules.proofs.All.{All, all-pick}
use Rattle.rules.proofs.Perms.{any, members_all}
use Rattle.rules.proofs.RowsWithin.{Within}
use Rattle.rules.proofs.Finals.{Giver, Apart, rows_from, stands, stands-row, rows_giver, giver_rows, apart}
use Rattle.rules.proofs.SomeOrder.{final_of, target_final, direct_rows_from, target_rows_from, finals_from, passing, gone}

-- where no entry is dropped
none-gone : (es : List Entry) → any gone es ≡ false → NoneDropped es
unfolding any
none-gone [] h e m = absurd (Memᴰ.not-nil m)
none-gone (x ∷ l) h e m = elim (Memᴰ.cases_cons m) [
  | inl q ↦ ap (λ (y : Entry). is_dropped y.state) q ∙ or_left (gone x) (any gone l) h
  | inr n ↦ none-gone l (or_right (gone x) (any gone l) h) e n
]

module _ (c : Settings) (required : Bool) (p : PointInfo) where
  final_is : (e : Entry) (r : InvalidReason) → IsFinal c required p e r → final_of c required (point_view p) e ≡ Some r
  final_is e r h = rw (h.0, h.1)

  is_final_or : (e : Entry) (r : InvalidReason) → final_of c required (point_view p) e ≡ Some r →
      IsFinal c required p e r ⊎ ((is_dropped e.state ≡ true) × (r ≡ DependencyRoundDropped))
  is_final_or e r = go (is_dropped e.state) refl
    where
      go : (b : Bool) → is_dropped e.state ≡ b →
          pick b (Some DependencyRoundDropped) (last_of (entry_findings c required (point_view p) e).trail) ≡ Some r →
          IsFinal c required p e r ⊎ ((is_dropped e.state ≡ true) × (r ≡ DependencyRoundDropped))
      go true q h = inr (q, sym (some-injective DependencyRoundDropped r h))
      go false q h = inl (q, h)

  or-final : (e : Entry) (r : InvalidReason) → IsFinal c required p e r ⊎ ((is_dropped e.state ≡ true) × (r ≡ DependencyRoundDropped)) →
      final_of c required (point_view p) e ≡ Some r
  or-final e r (inl h) = final_is e r h
  or-final e r (inr h) = rw (h.0, h.1)

  -- ---- the direct entries

  module _ (es : List Entry) where
    giver : (r : InvalidReason) → Memᴰ r (reasons_in (direct_finals c required (point_view p) 0 es)) →
        Giver (final_of c required (point_view p)) es r
    giver r m =
        rows_giver (final_of c required (point_view p)) 1 es 0 r
        (subst (λ (l : List Row). Memᴰ r (reasons_in l)) (direct_rows_from c required (point_view p) es 0) m)

    given : (e : Entry) (r : InvalidReason) → Memᴰ e es → final_of c required (point_view p) e ≡ Some r →
        Memᴰ r (reasons_in (direct_finals c required (point_view p) 0 es))
    given e r m h =
        subst (λ (l : List Row). Memᴰ r (reasons_in l)) (sym (direct_rows_from c required (point_view p) es 0))
        (giver_rows (final_of c required (point_view p)) 1 es 0 r (record { entry = e; there = m; gives = h }))

    has_given : (r : InvalidReason) → HasFinal c required p es r → Memᴰ r (reasons_in (direct_finals c required (point_view p) 0 es))
    has_given r h = given h.0 r h.1 (final_is h.0 r h.2)

    has_or : (r : InvalidReason) → Memᴰ r (reasons_in (direct_finals c required (point_view p) 0 es)) →
        HasFinal c required p es r ⊎ ((e : Entry) × Memᴰ e es × (is_dropped e.state ≡ true) × (r ≡ DependencyRoundDropped))
    has_or r m =
        let g = giver r m in
        elim (is_final_or g.entry r g.gives) [ inl h ↦ inl (g.entry, g.there, h) | inr h ↦ inr (g.entry, g.there, h.0, h.1) ]

    pub undropped_lem : (r : InvalidReason) → NoneDropped es →
        Same (Memᴰ r (reasons_in (direct_finals c required (point_view p) 0 es))) (HasFinal c required p es r)
    undropped_lem r n = (λ m. elim (has_or r m) [ inl h ↦ h | inr h ↦ clash (is_dropped h.0.state) h.2 (n h.0 h.1) ], has_given r)

    pub dropped_lem : (r : InvalidReason) → (NoneDropped es → ⊥) →
        Same (Memᴰ r (reasons_in (direct_finals c required (point_view p) 0 es))) (HasFinal c required p es r ⊎ (r ≡ DependencyRoundDropped))
    dropped_lem r n = (λ m. elim (has_or r m) [ inl h ↦ inl h | inr h ↦ inr h.3 ], back)
      where
        some : (b : Bool) → any gone es ≡ b → (e : Entry) × Memᴰ e es × (is_dropped e.state ≡ true)
        some true q = passing gone es q
        some false q = absurd (n (none-gone es q))

        back : HasFinal c required p es r ⊎ (r ≡ DependencyRoundDropped) → Memᴰ r (reasons_in (direct_finals c required (point_view p) 0 es))
        back (inl h) = has_given r h
        back (inr h) = let e = some (any gone es) refl in given e.0 r e.1 (or-final e.0 r (inr (e.2, h)))

    pub direct_rows_lem : (x : Row) →
        Same (Memᴰ x (direct_finals c required (point_view p) 0 es))
        ((x.list ≡ 1)
        × (e : Entry)
        × At es x.place e
        × (IsFinal c required p e x.reason ⊎ ((is_dropped e.state ≡ true) × (x.reason ≡ DependencyRoundDropped))))
    direct_rows_lem x = (
      λ m.
          (let s = stands (final_of c required (point_view p)) 1 es 0 x (subst (λ (l : List Row). Memᴰ x l) (direct_rows_from c required (point_view p) es 0) m) in
          (s.in_list, s.here, (s.before, s.after, s.is, omega (arith, s.place)), is_final_or s.here x.reason s.gives)),
      λ h.
          subst (λ (l : List Row). Memᴰ x l) (sym (direct_rows_from c required (point_view p) es 0))
          (stands-row (final_of c required (point_view p)) 1 es 0 x
          (record {
            here = h.1;
            before = h.2.0;
            after = h.2.1;
            is = h.2.2;
            place = omega (arith, h.2.3);
            in_list = h.0;
            gives = or-final h.1 x.reason h.3;
          })),
    )

  -- ---- both kinds

  module _ (es : List Entry) (ts : List IndirectEntry) where
    pub direct_lem : is_empty (direct_finals c required (point_view p) 0 es) ≡ false →
        finals c required p es ts ≡ direct_finals c required (point_view p) 0 es
    unfolding finals
    direct_lem h = rw h refl

    targets : direct_finals c required (point_view p) 0 es ≡ [] → finals c required p es ts ≡ rows_from (target_final c p) 2 0 ts
    unfolding finals
    targets h = rw h (target_rows_from c p ts 0)

    pub indirect_lem : (r : InvalidReason) → direct_finals c required (point_view p) 0 es ≡ [] →
        Same (Memᴰ r (reasons_in (finals c required p es ts))) (HasTarget c p ts r)
    indirect_lem r h = (
      λ m.
          (let g = rows_giver (target_final c p) 2 ts 0 r (subst (λ (l : List Row). Memᴰ r (reasons_in l)) (targets h) m) in (g.entry, g.there, g.gives)),
      λ a.
          subst (λ (l : List Row). Memᴰ r (reasons_in l)) (sym (targets h))
          (giver_rows (target_final c p) 2 ts 0 r (record { entry = a.0; there = a.1; gives = a.2 })),
    )

    pub indirect_rows_lem : (x : Row) → direct_finals c required (point_view p) 0 es ≡ [] →
        Same (Memᴰ x (finals c required p es ts)) ((x.list ≡ 2) × (a : IndirectEntry) × At ts x.place a × IsTargetFinal c p a x.reason)
    indirect_rows_lem x h = (
      λ m.
          (let s = stands (target_final c p) 2 ts 0 x (subst (λ (l : List Row). Memᴰ x l) (targets h) m) in
          (s.in_list, s.here, (s.before, s.after, s.is, omega (arith, s.place)), s.gives)),
      λ a.
          subst (λ (l : List Row). Memᴰ x l) (sym (targets h))
          (stands-row (target_final c p) 2 ts 0 x
          (record {
            here = a.1;
            before = a.2.0;
            after = a.2.1;
            is = a.2.2;
            place = omega (arith, a.2.3);
            in_list = a.0;
            gives = a.3;
          })),
    )

    -- their places rise, and are those of entries

    pub finals_apart : Apart (finals c required p es ts)
    finals_apart =
        rw (finals_from c required p es ts)
        (go (is_empty (rows_from (final_of c required (point_view p)) 1 0 es)))
      where
        go : (b : Bool) → Apart (pick b (rows_from (target_final c p) 2 0 ts) (rows_from (final_of c required (point_view p)) 1 0 es))
        go true = apart (target_final c p) 2 ts 0
        go false = apart (final_of c required (point_view p)) 1 es 0

    pub finals_within : (n : ℕ) → length es ≤ n → length ts ≤ n → All (Within n) (finals c required p es ts)
    finals_within n h g =
        rw (finals_from c required p es ts)
        (all-pick (Within n) (is_empty (rows_from (final_of c required (point_view p)) 1 0 es)) _ _ (within (target_final c p) 2 ts g) (within (final_of c required (point_view p)) 1 es h))
      where
        within : {A : Type 0} (f : A → Option InvalidReason) (list : ℕ) (l : List A) → length l ≤ n → All (Within n) (rows_from f list 0 l)
        within f list l k =
            members_all (Within n) (rows_from f list 0 l)
            (λ x m.
            (let s = stands f list l 0 x m in
            let z = ap (λ (v : List _). length v) s.is ∙ length-append s.before (s.here ∷ s.after) in
            omega (arith, s.place, z)))
