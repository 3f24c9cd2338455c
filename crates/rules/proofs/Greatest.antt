-- A row of records joined: its rank is the greatest, and it is the earliest of that rank.
use Rattle.std.specs.Prelude.{Option, None, Some}
use Prim.Native.Nat.{ℕ, ◌≤◌, ◌<◌, max}
use native.Mathlib.Omega.{arith}
use mathlib.Core.Path.{◌≡◌, refl, sym, ap, ◌∙◌}
use mathlib.Core.Logic.{◌⊎◌, inl, inr}
use mathlib.Core.Bool.{Bool, true, false}
use mathlib.Core.List.Memᴰ
use mathlib.Core.List.{List, [], ◌∷◌, ◌++◌, Memᴰ, Permᴰ}
use Rattle.base.proofs.Option.{none-some}
use Rattle.parts.proofs.Laws.{Three, below, equal, above, three}
use Rattle.reasons.specs.Invalid.{InvalidDependency, has_dag_round}
use Rattle.rules.specs.Validate.{join}
use Rattle.rules.proofs.Joins.{bit, bit-small, rank, rank_of, join-later, join_first}

abbrev Record : Type 0
Record = Option InvalidDependency

-- what is recorded over elements that record each what f says, after an old one
unfoldable pub join_all : {A : Type 0} → (A → Record) → Record → List A → Record
unfolding join
join_all f old [] = old
join_all f old (x ∷ l) = join_all f (join old (f x)) l

-- the greatest rank
unfoldable pub greatest : {A : Type 0} → (A → Record) → List A → ℕ
greatest f [] = 0
greatest f (x ∷ l) = max (rank_of (f x)) (greatest f l)

join-rank : (a b : Record) → rank_of (join a b) ≡ max (rank_of a) (rank_of b)
join-rank a b = go (three (rank_of a) (rank_of b))
  where
    go : Three (rank_of a) (rank_of b) → rank_of (join a b) ≡ max (rank_of a) (rank_of b)
    go (below h) = rw (join-later a b h) (omega arith)
    go (equal h) = rw (join_first a b (omega arith)) (omega arith)
    go (above h) = rw (join_first a b (omega arith)) (omega arith)

-- ranks tell the root's round, and whether its reason has a DAG round
pub record SameRank (a b : InvalidDependency) : Type 0 where
  pub round : a.to.round ≡ b.to.round
  pub dag_round_lem : has_dag_round a.reason ≡ has_dag_round b.reason

bit-same : (u v : Bool) → bit u ≡ bit v → u ≡ v
bit-same true true h = refl
bit-same true false h = absurd (omega arith)
bit-same false true h = absurd (omega arith)
bit-same false false h = refl

pub same_rank : (a b : InvalidDependency) → rank_of (Some a) ≡ rank_of (Some b) → SameRank a b
unfolding rank_of rank
same_rank a b h =
    let s = bit-small (has_dag_round a.reason) in
    let t = bit-small (has_dag_round b.reason) in
    record { round = omega arith; dag_round_lem = bit-same _ _ (omega arith) }

pub rank-some : (a : InvalidDependency) → rank_of None < rank_of (Some a)
unfolding rank_of rank
rank-some a = omega arith

module _ {A : Type 0} (f : A → Record) where
  pub all-rank : (old : Record) (l : List A) → rank_of (join_all f old l) ≡ max (rank_of old) (greatest f l)
  unfolding join_all greatest
  all-rank old [] = omega arith
  all-rank old (x ∷ l) =
      let h = all-rank (join old (f x)) l in
      let j = join-rank old (f x) in
      omega arith

  pub greatest_perm : {l m : List A} → Permᴰ l m → greatest f l ≡ greatest f m
  unfolding greatest
  greatest_perm Permᴰ.nil = refl
  greatest_perm (Permᴰ.cons {a = a} {b = b} {l₁ = l} {l₂ = m} e d) =
      ap (λ (x : A). max (rank_of (f x)) (greatest f l)) e ∙ ap (max (rank_of (f b))) (greatest_perm d)
  greatest_perm (Permᴰ.swap {a = a} {b = b} {a' = a'} {b' = b'} {l = l} e g) =
      let u : rank_of (f a) ≡ rank_of (f b') = ap (λ (x : A). rank_of (f x)) e in
      let v : rank_of (f b) ≡ rank_of (f a') = ap (λ (x : A). rank_of (f x)) g in
      omega arith
  greatest_perm (Permᴰ.trans d g) = greatest_perm d ∙ greatest_perm g

  pub greatest-append : (l m : List A) → greatest f (l ++ m) ≡ max (greatest f l) (greatest f m)
  unfolding greatest
  greatest-append [] m = omega arith
  greatest-append (x ∷ l) m = let h = greatest-append l m in omega arith

  pub member-rank : (l : List A) (x : A) → Memᴰ x l → rank_of (f x) ≤ greatest f l
  unfolding greatest
  member-rank [] x m = absurd (Memᴰ.not-nil m)
  member-rank (y ∷ l) x m = go (member-rank l x) (Memᴰ.cases_cons m)
    where
      go : (Memᴰ x l → rank_of (f x) ≤ greatest f l) → (x ≡ y) ⊎ Memᴰ x l → rank_of (f x) ≤ max (rank_of (f y)) (greatest f l)
      go r (inl e) = let h : rank_of (f x) ≡ rank_of (f y) = ap (λ (z : A). rank_of (f z)) e in omega arith
      go r (inr n) = let h = r n in omega arith

-- an element records it, those before it less, and none after it more
pub record EarliestIn {A : Type 0} (f : A → Record) (l : List A) (d : InvalidDependency) : Type 0 where
  pub before : List A
  pub entry : A
  pub after : List A
  pub place : l ≡ before ++ (entry ∷ after)
  pub brings : f entry ≡ Some d
  pub less : (x : A) → Memᴰ x before → rank_of (f x) < rank_of (Some d)
  pub no_more : greatest f after ≤ rank_of (Some d)

module _ {A : Type 0} (f : A → Record) (d : InvalidDependency) where
  -- one more element in front, which records less
  in_front : (x : A) (l : List A) → rank_of (f x) < rank_of (Some d) → EarliestIn f l d → EarliestIn f (x ∷ l) d
  in_front x l h w =
      record {
        before = x ∷ w.before;
        entry = w.entry;
        after = w.after;
        place = ap (λ (r : List A). x ∷ r) w.place;
        brings = w.brings;
        less = λ y m. go y (Memᴰ.cases_cons m);
        no_more = w.no_more;
      }
    where
      go : (y : A) → (y ≡ x) ⊎ Memᴰ y w.before → rank_of (f y) < rank_of (Some d)
      go y (inl e) = let k : rank_of (f y) ≡ rank_of (f x) = ap (λ (z : A). rank_of (f z)) e in omega arith
      go y (inr m) = w.less y m

  -- what an old record and a list give is the old one, or comes of the list
  abbrev Either : Record → List A → Type 0
  Either old l = ((old ≡ Some d) × (greatest f l ≤ rank_of (Some d))) ⊎ ((rank_of old < rank_of (Some d)) × EarliestIn f l d)

  stays : (old : Record) (x : A) (l : List A) → rank_of (f x) ≤ rank_of old → Either (join old (f x)) l → Either old (x ∷ l)
  unfolding greatest
  stays old x l k (inl e) =
      let g : old ≡ Some d = sym (join_first old (f x) k) ∙ e.0 in
      let h : rank_of old ≡ rank_of (Some d) = ap rank_of g in
      let n = e.1 in
      inl (g, omega arith)
  stays old x l k (inr e) =
      let g : rank_of (join old (f x)) ≡ rank_of old = ap rank_of (join_first old (f x) k) in
      let n = e.0 in
      inr (omega arith, in_front x l (omega arith) e.1)

  replaced : (old : Record) (x : A) (l : List A) → rank_of old < rank_of (f x) → Either (join old (f x)) l → Either old (x ∷ l)
  replaced old x l k (inl e) =
      let g : f x ≡ Some d = sym (join-later old (f x) k) ∙ e.0 in
      let h : rank_of (f x) ≡ rank_of (Some d) = ap rank_of g in
      inr (omega arith, record { before = []; entry = x; after = l; place = refl; brings = g; less = λ y m. absurd (Memᴰ.not-nil m); no_more = e.1 })
  replaced old x l k (inr e) =
      let g : rank_of (join old (f x)) ≡ rank_of (f x) = ap rank_of (join-later old (f x) k) in
      let n = e.0 in
      inr (omega arith, in_front x l (omega arith) e.1)

  either : (l : List A) (old : Record) → join_all f old l ≡ Some d → Either old l
  unfolding join_all greatest
  either [] old h = inl (h, omega arith)
  either (x ∷ l) old h = go (three (rank_of old) (rank_of (f x))) (either l (join old (f x)) h)
    where
      go : Three (rank_of old) (rank_of (f x)) → Either (join old (f x)) l → Either old (x ∷ l)
      go (below k) w = replaced old x l k w
      go (equal k) w = stays old x l (omega arith) w
      go (above k) w = stays old x l (omega arith) w

  pub earliest : (l : List A) → join_all f None l ≡ Some d → EarliestIn f l d
  earliest l h = go (either l None h)
    where
      go : Either None l → EarliestIn f l d
      go (inl e) = none-some e.0
      go (inr e) = e.1

module _ {A : Type 0} (f : A → Record) where
  -- where nothing is recorded, no element records anything, and so the other way round
  pub all-absent : (l : List A) → join_all f None l ≡ None → (x : A) → Memᴰ x l → f x ≡ None
  all-absent l h x m =
      let r = all-rank f None l in
      let n : rank_of (join_all f None l) ≡ rank_of None = ap rank_of h in
      go (f x) refl (omega (arith, member-rank f l x m))
    where
      go : (o : Record) → f x ≡ o → rank_of (f x) ≤ rank_of None → f x ≡ None
      go None e k = e
      go (Some d) e k = let g : rank_of (f x) ≡ rank_of (Some d) = ap rank_of e in absurd (omega (arith, rank-some d))
