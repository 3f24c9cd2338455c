-- Laws of ids: equal ids, and ids at places of a list.
use Prim.Native.Nat.{ℕ, ◌+◌, ◌^◌, ◌≤◌, ◌<◌}
use native.Mathlib.Omega.{arith}
use native.Mathlib.Decide.{ℕ_discrete}
use mathlib.Core.Path.{◌≡◌, refl, sym, ◌∙◌, subst}
use mathlib.Core.Bool.{Bool, true, false, ◌&&◌}
use Rattle.std.proofs.lemmas.Bool.Decides.{nat_tests}
use mathlib.Core.List.{List}
use lib.ListN.{take, drop}
use lib.Seq.{drop-drop}
use lib.Dec.{eqb}
use borrow.Author.Tests.{eq-eqb, ne_eqb}
use Rattle.base.proofs.Bool.{never}
use Rattle.parts.specs.declared.Id.{Id}
use Rattle.parts.specs.Code.{number}
use Rattle.parts.specs.Bytes.{little_at, big_at}
use Rattle.parts.proofs.Laws.{Words, number_same, part_front}
use Rattle.point.specs.Point.{PointId, same_id}
use Rattle.point.specs.Reading.{point_id_at}

module _ (a b : PointId) where
  pub same_fields : same_id a b ≡ true → (a.round ≡ b.round) × (a.digest ≡ b.digest) × (a.author ≡ b.author)
  unfolding same_id
  same_fields h = grind (arith, nat_tests)

  pub fields_same : a.round ≡ b.round → a.digest ≡ b.digest → a.author ≡ b.author → same_id a b ≡ true
  unfolding same_id
  fields_same r d q = grind (arith, nat_tests)

  pub same_sym : same_id a b ≡ same_id b a
  unfolding same_id
  same_sym = grind (arith, nat_tests)

pub same_refl : (a : PointId) → same_id a a ≡ true
same_refl a = fields_same a a refl refl refl

pub same_eq : (a b : PointId) → same_id a b ≡ true → a ≡ b
same_eq a b h = let f = same_fields a b h in λ i. record { round = f.0 i; digest = f.1 i; author = f.2 i }

pub eq_same : (a b : PointId) → a ≡ b → same_id a b ≡ true
eq_same a b e = subst (λ (x : PointId). same_id a x ≡ true) e (same_refl a)

pub differ : (a b : PointId) → (a ≡ b → ⊥) → same_id a b ≡ false
differ a b d = never (same_id a b) (λ t. d (same_eq a b t))

-- ---- `==` of the code's ids: their words are the same exactly where their numbers are, since the words fit

abbrev words_eq : Id → Id → Bool
words_eq x y = eqb x.a y.a && (eqb x.b y.b && (eqb x.c y.c && eqb x.d y.d))

same_number : (x y : Id) → words_eq x y ≡ true → number x ≡ number y
same_number x y h = grind (arith, nat_tests)

eq_words : (x y : Id) → Words x → Words y → eqb (number x) (number y) ≡ words_eq x y
eq_words x y v w = elim (ℕ_discrete (number x) (number y)) [
  | yes e ↦ let q = number_same x y v w e in rw (eq-eqb _ _ q.0, eq-eqb _ _ q.1, eq-eqb _ _ q.2, eq-eqb _ _ q.3, eq-eqb _ _ e)
  | no d ↦ ne_eqb _ _ d ∙ sym (never (words_eq x y) (λ t. d (same_number x y t)))
]

-- the same in a form that the check finds alone: under `using` of this and `unfolding` of `same_id` a function may write `a == b`
pub same_words : (x y : Id) → x.a < 2 ^ 64 → x.b < 2 ^ 64 → x.c < 2 ^ 64 → x.d < 2 ^ 64 → y.a < 2 ^ 64 → y.b < 2 ^ 64 → y.c < 2 ^ 64 → y.d < 2 ^ 64 →
    eqb (number x) (number y) ≡ words_eq x y
same_words x y a b c d e f g h = eq_words x y (record { wa = a; wb = b; wc = c; wd = d }) (record { wa = e; wb = f; wc = g; wd = h })

-- ---- an id at a place

pub id-front : (e at : ℕ) (s : List ℕ) → at + 68 ≤ e → point_id_at (take e s) at ≡ point_id_at s at
unfolding point_id_at little_at big_at
id-front e at s h =
    rw (part_front e 4 at s (omega arith), part_front e 32 (at + 4) s (omega arith), part_front e 32 (at + 36) s (omega arith))

-- an id in what is left of a list
pub id_shift : (k at : ℕ) (s : List ℕ) → point_id_at (drop k s) at ≡ point_id_at s (k + at)
unfolding point_id_at little_at big_at
id_shift k at s =
    let e : k + at + 4 ≡ k + (at + 4) = omega arith in
    let f : k + at + 36 ≡ k + (at + 36) = omega arith in
    rw (drop-drop at k s, drop-drop (at + 4) k s, drop-drop (at + 36) k s, e, f)
