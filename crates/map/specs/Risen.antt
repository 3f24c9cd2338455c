-- Rows in the rising order of their peers (document 02, U1: "Maps arrive in any order and are written rising").
use Rattle.std.specs.Prelude.{ℕ, List, [], ◌∷◌, Bool, false, ◌||◌, ltb, is_some}
use Rattle.base.specs.Base.{pick}
use Rattle.map.specs.Rows.{Pair, find}

-- an element put before the first that has a greater key
unfoldable pub insert : {A : Type 0} → (A → ℕ) → A → List A → List A
insert key q [] = q ∷ []
insert key q (x ∷ l) = pick (ltb (key q) (key x)) (q ∷ x ∷ l) (x ∷ insert key q l)

-- elements put one after the other among others that are in order
unfoldable pub inserted : {A : Type 0} → (A → ℕ) → List A → List A → List A
unfolding insert
inserted key done [] = done
inserted key done (q ∷ l) = inserted key (insert key q done) l

-- the elements in the order of their keys
abbrev pub risen : {A : Type 0} → (A → ℕ) → List A → List A
risen key l = inserted key [] l

-- pairs are in the order of their peers; and peers in that of the numbers that they are
abbrev pub peer_of : Pair → ℕ
peer_of q = q.peer

abbrev pub itself : ℕ → ℕ
itself x = x

abbrev pub is_among : ℕ → List ℕ → Bool
is_among x l = is_some (find l x)

-- number 13: "a peer twice in a map"
unfoldable pub has_twice : List ℕ → Bool
unfolding find
has_twice [] = false
has_twice (x ∷ l) = is_among x l || has_twice l
