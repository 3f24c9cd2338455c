-- Numbers 8 and 9 are the same for every order of a list's entries.
use Rattle.std.specs.Prelude.{Option}
use Prim.Native.Nat.{ℕ, zero, suc, ◌+◌, ◌-◌}
use mathlib.Core.Path.{◌≡◌, refl, sym, ap, ◌∙◌}
use mathlib.Core.Bool.{Bool, true, false, not, ◌&&◌, ◌||◌}
use mathlib.Core.List.{List, [], ◌∷◌, map, Permᴰ}
use lib.Dec.{eqb}
use Rattle.base.specs.Base.{pick}
use Rattle.base.proofs.Bool.{and_swap, or_swap}
use Rattle.map.specs.Rows.{Pair}
use Rattle.point.specs.Point.{PointId, PointInfo, anchor_link, same_id}
use Rattle.point.specs.declared.data.AnchorStageRole.{AnchorStageRole}
use Rattle.point.specs.declared.data.AnchorStageRole.TheVariants.{Proof, Trigger}
use Rattle.rules.specs.DagPoint.{Entry, IndirectEntry, entry_id, is_dropped}
use Rattle.rules.specs.Mismatch.{has_id, pair_id, has_place, all_placed, ids_of, dropped_in, lacking_in, lacking, is_target_of, same_role, stood_before, all_targets, mismatch, uncovers, any_uncovers, entries_in, uncovered}
use Rattle.point.proofs.Ids.{same_sym}
use Rattle.rules.proofs.Mismatch.{has-next}
use Rattle.rules.proofs.Perms.{any, any_perm, map_perm, empty_perm}

-- ---- the same ids

abbrev SameIds : List PointId → List PointId → Type 0
SameIds a b = (i : PointId) → has_id a i ≡ has_id b i

alike_next : (x : PointId) (a b : List PointId) → SameIds a b → SameIds (x ∷ a) (x ∷ b)
unfolding has_id
alike_next x a b h i = ap (λ (z : Bool). same_id x i || z) (h i)

alike_swap : (x y : PointId) (a : List PointId) → SameIds (x ∷ y ∷ a) (y ∷ x ∷ a)
unfolding has_id
alike_swap x y a i = or_swap (same_id x i) (same_id y i) (has_id a i)

-- ---- every entry in its place

swapped : (px py hx hy s a : Bool) → ((px && not hx) && ((py && not (s || hy)) && a)) ≡ ((py && not hy) && ((px && not (s || hx)) && a))
swapped false false hx hy s a = refl
swapped false true hx true s a = refl
swapped false true hx false s a = refl
swapped true false true hy s a = refl
swapped true false false hy s a = refl
swapped true true true true s a = refl
swapped true true true false true a = refl
swapped true true true false false a = refl
swapped true true false true true a = refl
swapped true true false true false a = refl
swapped true true false false s a = refl

module _ (presence : ℕ) (p : PointInfo) where
  abbrev Fits : List PointId → PointId → Bool
  Fits before i = has_place presence p i && not (has_id before i)

  placed_alike : (l : List Entry) (a b : List PointId) → SameIds a b → all_placed presence p a l ≡ all_placed presence p b l
  unfolding all_placed
  placed_alike [] a b h = refl
  placed_alike (e ∷ l) a b h =
      ap (λ (z : Bool). pick (is_dropped e.state) z (Fits a (entry_id e.state) && all_placed presence p (entry_id e.state ∷ a) l)) (placed_alike l a b h)
      ∙ (ap (λ (z : Bool). pick (is_dropped e.state) (all_placed presence p b l) ((has_place presence p (entry_id e.state) && not z) && all_placed presence p (entry_id e.state ∷ a) l)) (h (entry_id e.state))
      ∙ ap (λ (z : Bool). pick (is_dropped e.state) (all_placed presence p b l) (Fits b (entry_id e.state) && z)) (placed_alike l (entry_id e.state ∷ a) (entry_id e.state ∷ b) (alike_next (entry_id e.state) a b h)))

  -- two entries change places
  two-placed : (dx dy : Bool) (x y : PointId) (b : List PointId) (A : List PointId → Bool) → ((c d : List PointId) → SameIds c d → A c ≡ A d) →
      pick dx (pick dy (A b) (Fits b y && A (y ∷ b))) (Fits b x && pick dy (A (x ∷ b)) (Fits (x ∷ b) y && A (y ∷ x ∷ b)))
      ≡ pick dy (pick dx (A b) (Fits b x && A (x ∷ b))) (Fits b y && pick dx (A (y ∷ b)) (Fits (y ∷ b) x && A (x ∷ y ∷ b)))
  two-placed true true x y b A f = refl
  two-placed true false x y b A f = refl
  two-placed false true x y b A f = refl
  two-placed false false x y b A f =
      ap (λ (z : Bool). Fits b x && ((has_place presence p y && not z) && A (y ∷ x ∷ b))) (has-next x y b)
      ∙ (swapped (has_place presence p x) (has_place presence p y) (has_id b x) (has_id b y) (same_id x y) (A (y ∷ x ∷ b))
      ∙ (ap (λ (z : Bool). Fits b y && ((has_place presence p x && not (z || has_id b x)) && A (y ∷ x ∷ b))) (same_sym x y)
      ∙ (ap (λ (z : Bool). Fits b y && ((has_place presence p x && not z) && A (y ∷ x ∷ b))) (sym (has-next y x b))
      ∙ ap (λ (z : Bool). Fits b y && (Fits (y ∷ b) x && z)) (f (y ∷ x ∷ b) (x ∷ y ∷ b) (alike_swap y x b)))))

  pub placed_perm : {l m : List Entry} → Permᴰ l m → (b : List PointId) → all_placed presence p b l ≡ all_placed presence p b m
  unfolding all_placed
  placed_perm Permᴰ.nil b = refl
  placed_perm (Permᴰ.cons {a = e} {b = e'} {l₁ = l} {l₂ = m} q d) b =
      ap (λ (z : Entry). pick (is_dropped z.state) (all_placed presence p b l) (Fits b (entry_id z.state) && all_placed presence p (entry_id z.state ∷ b) l)) q
      ∙ (ap (λ (z : Bool). pick (is_dropped e'.state) z (Fits b (entry_id e'.state) && all_placed presence p (entry_id e'.state ∷ b) l)) (placed_perm d b)
      ∙ ap (λ (z : Bool). pick (is_dropped e'.state) (all_placed presence p b m) (Fits b (entry_id e'.state) && z)) (placed_perm d (entry_id e'.state ∷ b)))
  placed_perm (Permᴰ.swap {a = x} {b = y} {a' = y'} {b' = x'} {l = l} q r) b =
      two-placed (is_dropped x.state) (is_dropped y.state) (entry_id x.state) (entry_id y.state) b (λ (c : List PointId). all_placed presence p c l) (placed_alike l)
      ∙ (ap (λ (z : Entry). all_placed presence p b (z ∷ x ∷ l)) r ∙ ap (λ (z : Entry). all_placed presence p b (y' ∷ z ∷ l)) q)
  placed_perm (Permᴰ.trans d g) b = placed_perm d b ∙ placed_perm g b

-- ---- how many are dropped, and how many lack

pub dropped_perm : {l m : List Entry} → Permᴰ l m → dropped_in l ≡ dropped_in m
unfolding dropped_in
dropped_perm Permᴰ.nil = refl
dropped_perm (Permᴰ.cons {a = e} {b = e'} {l₁ = l} {l₂ = m} q d) =
    ap (λ (z : Entry). pick (is_dropped z.state) (suc (dropped_in l)) (dropped_in l)) q
    ∙ ap (λ (n : ℕ). pick (is_dropped e'.state) (suc n) n) (dropped_perm d)
dropped_perm (Permᴰ.swap {a = x} {b = y} {a' = y'} {b' = x'} {l = l} q r) =
    go (is_dropped x.state) (is_dropped y.state) (dropped_in l)
    ∙ (ap (λ (z : Entry). dropped_in (z ∷ x ∷ l)) r ∙ ap (λ (z : Entry). dropped_in (y' ∷ z ∷ l)) q)
  where
    go : (a b : Bool) (n : ℕ) → pick a (suc (pick b (suc n) n)) (pick b (suc n) n) ≡ pick b (suc (pick a (suc n) n)) (pick a (suc n) n)
    go true true n = refl
    go true false n = refl
    go false true n = refl
    go false false n = refl
dropped_perm (Permᴰ.trans d g) = dropped_perm d ∙ dropped_perm g

abbrev has_this : PointId → Entry → Bool
has_this i e = not (is_dropped e.state) && same_id (entry_id e.state) i

ids-any : (l : List Entry) (i : PointId) → has_id (ids_of l) i ≡ any (has_this i) l
unfolding has_id ids_of any
ids-any [] i = refl
ids-any (e ∷ l) i = go (is_dropped e.state) (ids-any l i)
  where
    go : (b : Bool) → has_id (ids_of l) i ≡ any (has_this i) l →
        has_id (pick b (ids_of l) (entry_id e.state ∷ ids_of l)) i ≡ ((not b && same_id (entry_id e.state) i) || any (has_this i) l)
    go true h = h
    go false h = ap (λ (z : Bool). same_id (entry_id e.state) i || z) h

ids_perm : {l m : List Entry} → Permᴰ l m → SameIds (ids_of l) (ids_of m)
ids_perm {l} {m} d i = ids-any l i ∙ (any_perm (has_this i) d ∙ sym (ids-any m i))

lacking_in_lem : (round : ℕ) (l : List Pair) (a b : List PointId) → SameIds a b → lacking_in round l a ≡ lacking_in round l b
unfolding lacking_in
lacking_in_lem round [] a b h = refl
lacking_in_lem round (q ∷ l) a b h =
    ap (λ (z : Bool). pick z (lacking_in round l a) (suc (lacking_in round l a))) (h (pair_id round q))
    ∙ ap (λ (n : ℕ). pick (has_id b (pair_id round q)) n (suc n)) (lacking_in_lem round l a b h)

lacking-alike : (presence : ℕ) (p : PointInfo) (a b : List PointId) → SameIds a b → lacking presence p a ≡ lacking presence p b
unfolding lacking
lacking-alike presence p a b h =
    ap (λ (n : ℕ). n + pick (eqb presence 3) (lacking_in (p.id.round - 2) p.witness a) zero) (lacking_in_lem (p.id.round - 1) p.includes a b h)
    ∙ ap (λ (n : ℕ). lacking_in (p.id.round - 1) p.includes b + pick (eqb presence 3) n zero) (lacking_in_lem (p.id.round - 2) p.witness a b h)

-- ---- the indirect entries

swap_targets : (ga gb : AnchorStageRole) (ta tb pr tr : Bool) (A : Bool → Bool → Bool) →
    ((ta && not (stood_before ga pr tr)) && ((tb && not (stood_before gb (pr || same_role ga Proof) (tr || same_role ga Trigger))) && A ((pr || same_role ga Proof) || same_role gb Proof) ((tr || same_role ga Trigger) || same_role gb Trigger)))
    ≡ ((tb && not (stood_before gb pr tr)) && ((ta && not (stood_before ga (pr || same_role gb Proof) (tr || same_role gb Trigger))) && A ((pr || same_role gb Proof) || same_role ga Proof) ((tr || same_role gb Trigger) || same_role ga Trigger)))
swap_targets Proof Proof ta tb true tr A = and_swap (ta && false) (tb && false) _
swap_targets Proof Proof true true false tr A = refl
swap_targets Proof Proof true false false tr A = refl
swap_targets Proof Proof false true false tr A = refl
swap_targets Proof Proof false false false tr A = refl
swap_targets Trigger Trigger ta tb pr true A = and_swap (ta && false) (tb && false) _
swap_targets Trigger Trigger true true pr false A = refl
swap_targets Trigger Trigger true false pr false A = refl
swap_targets Trigger Trigger false true pr false A = refl
swap_targets Trigger Trigger false false pr false A = refl
swap_targets Proof Trigger ta tb true true A = and_swap (ta && false) (tb && false) (A true true)
swap_targets Proof Trigger ta tb true false A = and_swap (ta && false) (tb && true) (A true true)
swap_targets Proof Trigger ta tb false true A = and_swap (ta && true) (tb && false) (A true true)
swap_targets Proof Trigger ta tb false false A = and_swap (ta && true) (tb && true) (A true true)
swap_targets Trigger Proof ta tb true true A = and_swap (ta && false) (tb && false) (A true true)
swap_targets Trigger Proof ta tb true false A = and_swap (ta && true) (tb && false) (A true true)
swap_targets Trigger Proof ta tb false true A = and_swap (ta && false) (tb && true) (A true true)
swap_targets Trigger Proof ta tb false false A = and_swap (ta && true) (tb && true) (A true true)

module _ (p : PointInfo) where
  pub targets_perm : {l m : List IndirectEntry} → Permᴰ l m → (pr tr : Bool) → all_targets p pr tr l ≡ all_targets p pr tr m
  unfolding all_targets
  targets_perm Permᴰ.nil pr tr = refl
  targets_perm (Permᴰ.cons {a = a} {b = a'} {l₁ = l} {l₂ = m} q d) pr tr =
      ap (λ (z : IndirectEntry). all_targets p pr tr (z ∷ l)) q
      ∙ ap (λ (z : Bool). (is_target_of (anchor_link a'.role p) a'.entry.state && not (stood_before a'.role pr tr)) && z) (targets_perm d (pr || same_role a'.role Proof) (tr || same_role a'.role Trigger))
  targets_perm (Permᴰ.swap {a = x} {b = y} {a' = y'} {b' = x'} {l = l} q r) pr tr =
      swap_targets x.role y.role (is_target_of (anchor_link x.role p) x.entry.state) (is_target_of (anchor_link y.role p) y.entry.state) pr tr (λ (b c : Bool). all_targets p b c l)
      ∙ (ap (λ (z : IndirectEntry). all_targets p pr tr (z ∷ x ∷ l)) r ∙ ap (λ (z : IndirectEntry). all_targets p pr tr (y' ∷ z ∷ l)) q)
  targets_perm (Permᴰ.trans d g) pr tr = targets_perm d pr tr ∙ targets_perm g pr tr

-- ---- numbers 8 and 9

pub mismatch_perm : (presence : ℕ) (p : PointInfo) {es es' : List Entry} {ts ts' : List IndirectEntry} → Permᴰ es es' → Permᴰ ts ts' →
    mismatch presence p es ts ≡ mismatch presence p es' ts'
unfolding mismatch
mismatch_perm presence p {es} {es'} {ts} {ts'} d g =
    rw (placed_perm presence p d [], dropped_perm d, lacking-alike presence p (ids_of es) (ids_of es') (ids_perm d), targets_perm p g false false, empty_perm g)

covers-any : (prev : Option PointId) (l : List Entry) → any_uncovers prev l ≡ any (uncovers prev) l
unfolding any_uncovers any
covers-any prev [] = refl
covers-any prev (e ∷ l) = ap (λ (z : Bool). uncovers prev e || z) (covers-any prev l)

entries_each : (l : List IndirectEntry) → entries_in l ≡ map (λ (a : IndirectEntry). a.entry) l
unfolding entries_in
entries_each [] = refl
entries_each (a ∷ l) = ap (λ (z : List Entry). a.entry ∷ z) (entries_each l)

any-uncovers_perm : (prev : Option PointId) {l m : List Entry} → Permᴰ l m → any_uncovers prev l ≡ any_uncovers prev m
any-uncovers_perm prev {l} {m} d = covers-any prev l ∙ (any_perm (uncovers prev) d ∙ sym (covers-any prev m))

pub uncovered_perm : (prev : Option PointId) {es es' : List Entry} {ts ts' : List IndirectEntry} → Permᴰ es es' → Permᴰ ts ts' →
    uncovered prev es ts ≡ uncovered prev es' ts'
unfolding uncovered
uncovered_perm prev {es} {es'} {ts} {ts'} d g =
    ap (λ (z : Bool). z || any_uncovers prev (entries_in ts)) (any-uncovers_perm prev d)
    ∙ ap (λ (z : Bool). any_uncovers prev es' || z)
    (ap (any_uncovers prev) (entries_each ts)
    ∙ (any-uncovers_perm prev (map_perm (λ (a : IndirectEntry). a.entry) g) ∙ ap (any_uncovers prev) (sym (entries_each ts'))))
