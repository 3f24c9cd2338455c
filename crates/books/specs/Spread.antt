-- How far a certificate spreads (document 02, U3: "from the previous point to kept dependencies by the rule, and to the depth, that
-- cert.rs sets"). Quoted is cert.rs.
use Rattle.std.specs.Prelude.{ℕ, zero, suc, ◌-◌, Bool, true, false, not, ◌&&◌, ◌||◌, List, [], ◌∷◌, ltb, Option, None, Some}
use Rattle.map.specs.Rows.{Pair}
use Rattle.point.specs.Point.{PointId, same_id}
use Rattle.schedule.specs.Settings.{Settings}
use Rattle.rules.specs.Mismatch.{pair_id}
use Rattle.books.specs.Kept.{Status, Valid, TransInvalid, Invalid, IllFormed, Kept, Book, find_kept}

abbrev pub is_ill_formed : Status → Bool
is_ill_formed Valid = false
is_ill_formed (TransInvalid d) = false
is_ill_formed (Invalid n) = false
is_ill_formed (IllFormed n) = true

-- who passes a mark on: all rounds being present, Verifier::validate (verifier.rs) calls `set_deps` for every point above genesis that is
-- not ill-formed, whatever verdict it then gets. Without it a certificate has no dependencies.
abbrev pub has_deps : Settings → Kept → Bool
has_deps c k = ltb c.genesis_round k.point.id.round && not (is_ill_formed k.status)

-- a test holds of one of a map's dependencies
abbrev pub any_pair : (PointId → Bool) → ℕ → List Pair → Bool
any_pair test round [] = false
any_pair test round (q ∷ l) = test (pair_id round q) || any_pair test round l

-- `traverse_certify`: through an entry, if it is kept, to its `includes`, one round down, and to its `witness`, two
abbrev pub traverse : Settings → (PointId → Bool) → (PointId → Bool) → Option Kept → Bool
traverse c includes witness None = false
traverse c includes witness (Some k) =
    has_deps c k
    && (any_pair includes (k.point.id.round - 1) k.point.includes || any_pair witness (k.point.id.round - 2) k.point.witness)

-- `certify_deeper`: whether an id i is certified once t has a height. It stops where the height is as great already ("don't repeat work
-- already done"): what an entry depends on is kept before it, so that the older walk went as far. CertInner says of `height`:
-- 0: "current point is not certified"; 1: "current point belongs to a certified subtree, but its direct deps aren't"; 2: "current point
-- and its direct `includes` are certified"; 3: "direct `includes` and `witness` are certified, and also `includes` of `includes`"
unfoldable pub certifies : Settings → Book → ℕ → PointId → PointId → Bool
unfolding same_id find_kept
certifies c b zero t i = false
certifies c b (suc zero) t i = same_id t i
certifies c b (suc (suc n)) t i =
    same_id t i || traverse c (λ j. certifies c b (suc n) j i) (λ j. certifies c b n j i) (find_kept b t)

-- `certify`, which verifier.rs calls of the certificate of the offered point's previous point: "current height == commit length + 1 round
-- for current point"
unfoldable pub covers : Settings → Book → Option PointId → PointId → Bool
unfolding certifies
covers c b None i = false
covers c b (Some prev) i = certifies c b (suc c.commit_history_rounds) prev i
