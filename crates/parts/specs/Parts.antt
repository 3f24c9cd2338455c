-- Ids and their order, and PeerCount (peer_count.rs).
use Rattle.std.specs.Prelude.{ℕ, ◌+◌, ◌*◌, ◌/◌, List, [], ◌∷◌, ltb, Option, None, Some}
use Rattle.base.specs.Base.{pick}
use Rattle.std.specs.declared.cmp.Ordering.{Ordering}
use Rattle.std.specs.declared.cmp.Ordering.TheVariants.{Less, Equal, Greater}

-- how one number stands to another, and where they are equal what follows
unfoldable pub order_then : ℕ → ℕ → Ordering → Ordering
order_then m n rest = pick (ltb m n) Less (pick (ltb n m) Greater rest)

unfoldable pub order : ℕ → ℕ → Ordering
unfolding order_then
order m n = order_then m n Equal

-- the order of two byte strings of one length: by the first byte that differs
unfoldable pub order_of_bytes : List ℕ → List ℕ → Ordering
unfolding order_then
order_of_bytes [] t = Equal
order_of_bytes (x ∷ s) [] = Equal
order_of_bytes (x ∷ s) (y ∷ t) = order_then x y (order_of_bytes s t)

-- F of the 3F+1 that a number of peers is rounded up to; of the one peer at genesis it is 0
abbrev pub one_f : ℕ → ℕ
one_f total = (total + 1) / 3

-- PeerCount::try_from: under three peers there is none
unfoldable pub peer_count : ℕ → Option ℕ
peer_count total = pick (ltb total 3) None (Some (one_f total))

-- PeerCount::full, majority and majority_of_others, of F
abbrev pub full : ℕ → ℕ
full f = f * 3 + 1

abbrev pub majority : ℕ → ℕ
majority f = f * 2 + 1

abbrev pub majority_of_others : ℕ → ℕ
majority_of_others f = f * 2
