-- Laws of records joined: of two the one of higher rank stays, and the first on a tie.
use Rattle.std.specs.Prelude.{Option, None, Some}
use Prim.Native.Nat.{ℕ, suc, ◌+◌, ◌*◌, ◌≤◌, ◌<◌}
use native.Mathlib.Omega.{arith}
use mathlib.Core.Path.{◌≡◌, refl, sym, ◌∙◌}
use mathlib.Core.Logic.{◌⊎◌, inl, inr}
use mathlib.Core.Bool.{Bool, true, false, not, ◌&&◌}
use lib.Dec.{ltb, eqb}
use borrow.Author.Tests.{lt-ltb, eq-eqb, ltb-true, eqb-true}
use Rattle.base.specs.Base.{pick}
use Rattle.base.proofs.Bool.{never, and_left, and_right, or_first, or_second, or_cases, pick_true, pick-false}
use Rattle.base.proofs.Option.{some-none}
use Rattle.base.proofs.Impossible.{impossible}
use Rattle.parts.proofs.Laws.{Three, below, equal, above, three}
use Rattle.reasons.specs.Invalid.{InvalidDependency, has_dag_round}
use Rattle.rules.specs.Validate.{is_newer, join}
use Rattle.rules.specs.Joined.{Newer}

-- ---- the rule of `dependency`, as a test

only-new : (u v : Bool) → (not u && v) ≡ true → (u ≡ false) × (v ≡ true)
only-new false true h = (refl, refl)
only-new false false h = impossible (cc)
only-new true true h = impossible (cc)
only-new true false h = impossible (cc)

module _ (old new : InvalidDependency) where
  test-newer : is_newer old new ≡ true → Newer old new
  unfolding is_newer
  test-newer h = go (or_cases (ltb old.to.round new.to.round) _ h)
    where
      go : (ltb old.to.round new.to.round ≡ true) ⊎
          ((eqb old.to.round new.to.round && (not (has_dag_round old.reason) && has_dag_round new.reason)) ≡ true) → Newer old new
      go (inl k) = inl (ltb-true _ _ k)
      go (inr k) =
          let only = only-new (has_dag_round old.reason) (has_dag_round new.reason) (and_right (eqb old.to.round new.to.round) _ k) in
          inr (eqb-true _ _ (and_left (eqb old.to.round new.to.round) _ k), only.0, only.1)

  newer-test : Newer old new → is_newer old new ≡ true
  unfolding is_newer
  newer-test (inl k) = or_first (ltb old.to.round new.to.round) _ (lt-ltb _ _ k)
  newer-test (inr (k, u, v)) = or_second (ltb old.to.round new.to.round) _ (rw (eq-eqb _ _ k, u, v))

  pub newer_replaces : Newer old new → join (Some old) (Some new) ≡ Some new
  unfolding join
  newer_replaces h = pick_true (is_newer old new) (Some new) (Some old) (newer-test h)

  pub first-stays : (Newer old new → ⊥) → join (Some old) (Some new) ≡ Some old
  unfolding join
  first-stays h = pick-false (is_newer old new) (Some new) (Some old) (never (is_newer old new) (λ t. h (test-newer t)))

-- ---- none

pub none_first_lem : (a : Option InvalidDependency) → join None a ≡ a
unfolding join
none_first_lem a = refl

pub none-second : (a : Option InvalidDependency) → join a None ≡ a
unfolding join
none-second None = refl
none-second (Some a) = refl

-- ---- the rank of a record

abbrev pub bit : Bool → ℕ
bit true = 1
bit false = 0

pub bit-small : (b : Bool) → bit b ≤ 1
bit-small true = omega arith
bit-small false = omega arith

unfoldable pub rank : InvalidDependency → ℕ
rank d = 2 * d.to.round + bit (has_dag_round d.reason)

unfoldable pub rank_of : Option InvalidDependency → ℕ
unfolding rank
rank_of None = 0
rank_of (Some d) = suc (rank d)

module _ (a b : InvalidDependency) where
  pub newer-higher : Newer a b → rank a < rank b
  unfolding rank
  newer-higher (inl h) = let s = bit-small (has_dag_round a.reason) in omega arith
  newer-higher (inr (h, u, v)) = rw (u, v) (omega arith)

  pub higher-newer : rank a < rank b → Newer a b
  unfolding rank
  higher-newer h = go (three a.to.round b.to.round) (has_dag_round a.reason) (has_dag_round b.reason) refl refl h
    where
      go : Three a.to.round b.to.round → (u v : Bool) → has_dag_round a.reason ≡ u → has_dag_round b.reason ≡ v →
          2 * a.to.round + bit u < 2 * b.to.round + bit v → Newer a b
      go (below k) u v f g n = inl k
      go (equal k) true v f g n = let s = bit-small v in absurd (omega arith)
      go (equal k) false true f g n = inr (k, f, g)
      go (equal k) false false f g n = absurd (omega arith)
      go (above k) u v f g n = let s = bit-small v in absurd (omega arith)

-- ---- joining

pub join-later : (a b : Option InvalidDependency) → rank_of a < rank_of b → join a b ≡ b
unfolding rank_of
join-later None b h = none_first_lem b
join-later (Some a) None h = absurd (omega arith)
join-later (Some a) (Some b) h = newer_replaces a b (higher-newer a b (omega arith))

pub join_first : (a b : Option InvalidDependency) → rank_of b ≤ rank_of a → join a b ≡ a
unfolding rank_of
join_first a None h = none-second a
join_first None (Some b) h = absurd (omega arith)
join_first (Some a) (Some b) h = first-stays a b (λ n. (let k = newer-higher a b n in omega arith))

pub join_self : (a : Option InvalidDependency) → join a a ≡ a
join_self a = join_first a a (omega arith)

pub join_assoc : (a b d : Option InvalidDependency) → join (join a b) d ≡ join a (join b d)
join_assoc a b d = go (three (rank_of a) (rank_of b)) (three (rank_of b) (rank_of d))
  where
    first : rank_of b ≤ rank_of a → rank_of d ≤ rank_of b → join (join a b) d ≡ join a (join b d)
    first h g = rw (join_first a b h, join_first b d g) (join_first a d (omega arith) ∙ sym (join_first a b h))

    go : Three (rank_of a) (rank_of b) → Three (rank_of b) (rank_of d) → join (join a b) d ≡ join a (join b d)
    go (below h) (below g) = rw (join-later a b h, join-later b d g) (sym (join-later a d (omega arith)))
    go (below h) (equal g) = rw (join-later a b h, join_first b d (omega arith)) (sym (join-later a b h))
    go (below h) (above g) = rw (join-later a b h, join_first b d (omega arith)) (sym (join-later a b h))
    go (equal h) (below g) = rw (join_first a b (omega arith), join-later b d g)
    go (above h) (below g) = rw (join_first a b (omega arith), join-later b d g)
    go (equal h) (equal g) = first (omega arith) (omega arith)
    go (equal h) (above g) = first (omega arith) (omega arith)
    go (above h) (equal g) = first (omega arith) (omega arith)
    go (above h) (above g) = first (omega arith) (omega arith)

-- ---- one of two

pub join-absent : (a b : Option InvalidDependency) → join a b ≡ None → (a ≡ None) × (b ≡ None)
unfolding join
join-absent None b h = (refl, h)
join-absent (Some a) None h = some-none h
join-absent (Some a) (Some b) h = go (is_newer a b) h
  where
    go : (t : Bool) → pick t (Some b) (Some a) ≡ None → (Some a ≡ None) × (Some b ≡ None)
    go true k = some-none k
    go false k = some-none k

pub join_one : (a b : Option InvalidDependency) (d : InvalidDependency) → join a b ≡ Some d → (a ≡ Some d) ⊎ (b ≡ Some d)
unfolding join
join_one None b d h = inr h
join_one (Some a) None d h = inl h
join_one (Some a) (Some b) d h = go (is_newer a b) h
  where
    go : (t : Bool) → pick t (Some b) (Some a) ≡ Some d → (Some a ≡ Some d) ⊎ (Some b ≡ Some d)
    go true k = inr k
    go false k = inl k
