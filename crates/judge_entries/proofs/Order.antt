-- A list that was read is in order: after an indirect entry stands no direct one.
use Rattle.std.specs.Prelude.{Option, None, Some, option_map, is_some}
use Prim.Native.Nat.{ℕ, zero, suc}
use mathlib.Core.Path.{◌≡◌, refl}
use mathlib.Core.Bool.{Bool, true, false, ◌&&◌}
use mathlib.Core.List.{List, [], ◌∷◌}
use lib.ListN.{length, drop}
use lib.Dec.{eqb}
use Rattle.base.specs.Base.{pick, and_then}
use Rattle.base.proofs.Impossible.{impossible}
use Rattle.base.proofs.Option.{none-some, picked, and_then_lem, map-eq-some_iff}
use Rattle.point.specs.declared.data.AnchorStageRole.{AnchorStageRole}
use Rattle.rules.specs.List.{Listed, read_entry, is_in_order, list_from, list_from_in, directs}

-- no direct entry stands after an indirect one
unfoldable pub in_order : Bool → List Listed → Bool
in_order indirect_seen [] = true
in_order indirect_seen (x ∷ l) = is_in_order indirect_seen x.aim && in_order (is_some x.aim) l

-- an entry that was read, and then the list after it
abbrev pub list_then : (Bool → List ℕ → Option (List Listed)) → Bool → List ℕ → Listed → Option (List Listed)
list_then next seen s x = pick (is_in_order seen x.aim) (option_map (λ l. x ∷ l) (next (is_some x.aim) (drop x.size s))) None

-- the first entry and what is left after it, of a list that was read
pub record Parted (next : Bool → List ℕ → Option (List Listed)) (seen : Bool) (s : List ℕ) (o : Option Listed) (l : List Listed) : Type 0 where
  pub first : Listed
  pub left : List Listed
  pub read : o ≡ Some first
  pub ordered : is_in_order seen first.aim ≡ true
  pub follows : next (is_some first.aim) (drop first.size s) ≡ Some left
  pub are : first ∷ left ≡ l

pub parted : (next : Bool → List ℕ → Option (List Listed)) (seen : Bool) (s : List ℕ) (o : Option Listed) (l : List Listed) →
    and_then o (list_then next seen s) ≡ Some l → Parted next seen s o l
parted next seen s o l h =
    let x = and_then_lem o (list_then next seen s) l h in
    let p = picked (is_in_order seen x.0.aim) _ l x.2 in
    let m = (map-eq-some_iff (λ r. x.0 ∷ r) (next (is_some x.0.aim) (drop x.0.size s))).0 p.1 in
    record { first = x.0; left = m.0; read = x.1; ordered = p.0; follows = m.1; are = m.2 }

order_with : (n : ℕ) (indirect_seen : Bool) (s : List ℕ) (o : Option Listed) (l : List Listed) →
    ((next : Bool) (rest : List ℕ) (m : List Listed) → list_from n next rest ≡ Some m → in_order next m ≡ true) →
    and_then o (list_then (list_from n) indirect_seen s) ≡ Some l →
    in_order indirect_seen l ≡ true
unfolding in_order
order_with n indirect_seen s o l f h = let p = parted (list_from n) indirect_seen s o l h in rw (← p.are, p.ordered) (f _ _ p.left p.follows)

order-none : (indirect_seen : Bool) (l : List Listed) → None ≡ Some l → in_order indirect_seen l ≡ true
order-none indirect_seen l h = none-some h

order-end : (b indirect_seen : Bool) (o : Option (List Listed)) (l : List Listed) →
    (o ≡ Some l → in_order indirect_seen l ≡ true) →
    pick b (Some []) o ≡ Some l →
    in_order indirect_seen l ≡ true
unfolding in_order
order-end true indirect_seen o l f h = let e : l ≡ [] = cc in rw e
order-end false indirect_seen o l f h = f h

-- what was read is in order
pub in_order_lem : (n : ℕ) (indirect_seen : Bool) (s : List ℕ) (l : List Listed) → list_from n indirect_seen s ≡ Some l → in_order indirect_seen l ≡ true
unfolding list_from_in
in_order_lem zero indirect_seen s l h = order-end (eqb (length s) 0) indirect_seen None l (order-none indirect_seen l) h
in_order_lem (suc n) indirect_seen s l h =
    order-end
    (eqb (length s) 0)
    indirect_seen
    (and_then (read_entry s) (list_then (list_from n) indirect_seen s))
    l
    (order_with n indirect_seen s (read_entry s) l (in_order_lem n))
    h

pub after-target : (l : List Listed) → in_order true l ≡ true → directs l ≡ []
unfolding in_order directs
after-target [] h = refl
after-target (x ∷ l) h = go x.aim (after-target l) h
  where
    go : (aim : Option AnchorStageRole) → (in_order true l ≡ true → directs l ≡ []) → (is_in_order true aim && in_order (is_some aim) l) ≡ true → pick (is_some aim) (directs l) (x.entry ∷ directs l) ≡ []
    go None f k = impossible (cc)
    go (Some g) f k = f k
