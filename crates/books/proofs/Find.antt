-- Laws of the entry of an id: where it is found, that no id stands twice, and what a mark changes.
use Rattle.std.specs.Prelude.{option_map, None, Some, is_some}
use mathlib.Core.Path.{◌≡◌, refl, ap, sym, ◌∙◌, subst}
use mathlib.Core.Logic.{◌⊎◌, inl, inr, ◌↔◌}
use mathlib.Core.Bool.{Bool, true, false, ◌||◌}
use mathlib.Core.List.Memᴰ
use mathlib.Core.List.{[], ◌∷◌, ◌++◌, map, Memᴰ}
use Rattle.base.specs.Base.{pick}
use Rattle.base.proofs.Bool.{or_left, or_right}
use Rattle.base.proofs.Option.{none-some, unfound, unpicked, map-some}
use Rattle.point.specs.Point.{PointId, same_id}
use Rattle.point.proofs.Ids.{same_refl, same_eq, same_sym}
use Rattle.books.specs.Kept.{Kept, Book, find_kept, is_twice, mark_one, mark}
use Rattle.books.specs.FoundBook.{NoIdTwice}
use Rattle.books.specs.AnyMarks.{remark}

-- an entry that stands first is found by its id
first_found : (k : Kept) (b : Book) → find_kept (k ∷ b) k.point.id ≡ Some k
unfolding find_kept
first_found k b = rw (same_refl k.point.id) refl

pub find-id : (b : Book) (i : PointId) (k : Kept) → find_kept b i ≡ Some k → k.point.id ≡ i
unfolding find_kept
find-id [] i k h = none-some h
find-id (x ∷ b) i k h = go (same_id x.point.id i) refl (find-id b i k) h
  where
    go : (t : Bool) → same_id x.point.id i ≡ t → (find_kept b i ≡ Some k → k.point.id ≡ i) → pick t (Some x) (find_kept b i) ≡ Some k → k.point.id ≡ i
    go true q rec e = let f : x ≡ k = cc in ap (λ (y : Kept). y.point.id) (sym f) ∙ same_eq x.point.id i q
    go false q rec e = rec e

pub find-member : (b : Book) (i : PointId) (k : Kept) → find_kept b i ≡ Some k → Memᴰ k b
unfolding find_kept
find-member [] i k h = none-some h
find-member (x ∷ b) i k h = go (same_id x.point.id i) (find-member b i k) h
  where
    go : (t : Bool) → (find_kept b i ≡ Some k → Memᴰ k b) → pick t (Some x) (find_kept b i) ≡ Some k → Memᴰ k (x ∷ b)
    go true rec e = let f : x ≡ k = cc in Memᴰ.head (sym f)
    go false rec e = Memᴰ.tail (rec e)

-- an id that is not found is not the first entry's, and is not found after it
pub absent-first : (k : Kept) (b : Book) (i : PointId) → find_kept (k ∷ b) i ≡ None → (same_id k.point.id i ≡ false) × (find_kept b i ≡ None)
unfolding find_kept
absent-first k b i h = unpicked (same_id k.point.id i) k (find_kept b i) h

-- an id that the first entries don't have is looked for after them
pub find-after : (front back : Book) (i : PointId) → find_kept front i ≡ None → find_kept (front ++ back) i ≡ find_kept back i
unfolding find_kept
find-after [] back i h = refl
find-after (x ∷ front) back i h = let p = absent-first x front i h in rw p.0 (find-after front back i p.1)

-- one that they have is found among them
pub find-front : (b l : Book) (i : PointId) (k : Kept) → find_kept b i ≡ Some k → find_kept (b ++ l) i ≡ Some k
unfolding find_kept
find-front [] l i k h = none-some h
find-front (x ∷ b) l i k h = go (same_id x.point.id i) (find-front b l i k) h
  where
    go : (t : Bool) → (find_kept b i ≡ Some k → find_kept (b ++ l) i ≡ Some k) → pick t (Some x) (find_kept b i) ≡ Some k → pick t (Some x) (find_kept (b ++ l) i) ≡ Some k
    go true f e = e
    go false f e = f e

-- ---- no id twice: the other entries have other ids

pub once-first : (k : Kept) (b : Book) → is_twice (k ∷ b) ≡ false → find_kept b k.point.id ≡ None
unfolding is_twice
once-first k b h = unfound (find_kept b k.point.id) (or_left (is_some (find_kept b k.point.id)) (is_twice b) h)

pub once-rest : (k : Kept) (b : Book) → is_twice (k ∷ b) ≡ false → is_twice b ≡ false
unfolding is_twice
once-rest k b h = or_right (is_some (find_kept b k.point.id)) (is_twice b) h

-- an entry is found by its id
pub once-found : (b : Book) → is_twice b ≡ false → (k : Kept) → Memᴰ k b → find_kept b k.point.id ≡ Some k
unfolding find_kept
once-found [] h k m = absurd (Memᴰ.not-nil m)
once-found (x ∷ b) h k m = go (once-found b (once-rest x b h) k) (Memᴰ.cases_cons m)
  where
    later : (t : Bool) → same_id x.point.id k.point.id ≡ t → find_kept b k.point.id ≡ Some k → pick t (Some x) (find_kept b k.point.id) ≡ Some k
    later true e f =
        none-some (sym (once-first x b h) ∙ (ap (find_kept b) (same_eq x.point.id k.point.id e) ∙ f))
    later false e f = f

    go : (Memᴰ k b → find_kept b k.point.id ≡ Some k) → (k ≡ x) ⊎ Memᴰ k b → pick (same_id x.point.id k.point.id) (Some x) (find_kept b k.point.id) ≡ Some k
    go next (inl e) = rw e (first_found x b)
    go next (inr n) = later (same_id x.point.id k.point.id) refl (next n)

-- by an id the entry of that id is found, and nothing else
pub find_exact : (b : Book) → is_twice b ≡ false → (i : PointId) (k : Kept) → (find_kept b i ≡ Some k) ↔ (Memᴰ k b × (k.point.id ≡ i))
find_exact b h i k = (λ e. (find-member b i k e, find-id b i k e), λ x. ap (find_kept b) (sym x.1) ∙ once-found b h k x.0)

pub no_id-twice : (b : Book) → is_twice b ≡ false → NoIdTwice b
no_id-twice [] h = tt
no_id-twice (k ∷ b) h =
    (λ x m e. none-some (sym (once-first k b h) ∙ (ap (find_kept b) (sym e) ∙ once-found b (once-rest k b h) x m)), no_id-twice b (once-rest k b h))

-- a new id after the others
pub once_more : (b : Book) (k : Kept) → is_twice b ≡ false → find_kept b k.point.id ≡ None → is_twice (b ++ (k ∷ [])) ≡ false
unfolding is_twice find_kept
once_more [] k h g = refl
once_more (x ∷ b) k h g =
    let p = absent-first x b k.point.id g in
    let other : same_id k.point.id x.point.id ≡ false = same_sym k.point.id x.point.id ∙ p.0 in
    rw (find-after b (k ∷ []) x.point.id (once-first x b h), other) (once_more b k (once-rest x b h) p.1)

-- an id that a list does not have, none of its entries has
absent-other : (front : Book) (k : Kept) (back : Book) (i : PointId) → find_kept (front ++ k ∷ back) i ≡ None → same_id k.point.id i ≡ false
absent-other [] k back i h = (absent-first k back i h).0
absent-other (x ∷ front) k back i h = absent-other front k back i (absent-first x (front ++ k ∷ back) i h).1

module _ (i : PointId) (k : Kept) (back : Book) (t : same_id k.point.id i ≡ true) where
  -- the entry of an id is the only one
  pub once_around : (front : Book) → is_twice (front ++ k ∷ back) ≡ false → (find_kept front i ≡ None) × (find_kept back i ≡ None)
  unfolding find_kept
  once_around [] h = (refl, rw (same_eq k.point.id i t) at (once-first k back h))
  once_around (x ∷ front) h =
      let p = once_around front (once-rest x (front ++ k ∷ back) h) in
      let u = once-first x (front ++ k ∷ back) h in
      let d : same_id x.point.id i ≡ false = same_sym x.point.id i ∙ rw (same_eq k.point.id i t) at (absent-other front k back x.point.id u) in
      (rw (d, p.0), p.1)

-- ---- entries that are changed but for their ids

module _ (each : Kept → Kept) (same : (k : Kept) → (each k).point.id ≡ k.point.id) where
  pub find-each : (b : Book) (j : PointId) → find_kept (map each b) j ≡ option_map each (find_kept b j)
  unfolding find_kept
  find-each [] j = refl
  find-each (k ∷ b) j =
      ap (λ i. pick (same_id i j) (Some (each k)) (find_kept (map each b) j)) (same k) ∙ go (same_id k.point.id j) (find-each b j)
    where
      go : (t : Bool) → find_kept (map each b) j ≡ option_map each (find_kept b j) →
          pick t (Some (each k)) (find_kept (map each b) j) ≡ option_map each (pick t (Some k) (find_kept b j))
      go true h = refl
      go false h = h

-- ---- marks: an entry that is marked differs in its mark alone

module _ (marks : Kept → Bool) where
  find_remarked : (b : Book) (j : PointId) → find_kept (map (remark marks) b) j ≡ option_map (remark marks) (find_kept b j)
  find_remarked = find-each (remark marks) (λ k. refl)

  pub remarked_kept : (b : Book) (j : PointId) (k : Kept) → find_kept b j ≡ Some k → find_kept (map (remark marks) b) j ≡ Some (remark marks k)
  remarked_kept b j k h = find_remarked b j ∙ ap (option_map (remark marks)) h

  -- an entry of a marked book is one of the book, marked
  pub remark-member : (b : Book) (k : Kept) → Memᴰ k (map (remark marks) b) → (x : Kept) × (Memᴰ x b × (k ≡ remark marks x))
  remark-member [] k m = absurd (Memᴰ.not-nil m)
  remark-member (x ∷ b) k m = go (remark-member b k) (Memᴰ.cases_cons m)
    where
      go : (Memᴰ k (map (remark marks) b) → (y : Kept) × (Memᴰ y b × (k ≡ remark marks y))) → (k ≡ remark marks x) ⊎ Memᴰ k (map (remark marks) b) →
          (y : Kept) × (Memᴰ y (x ∷ b) × (k ≡ remark marks y))
      go rec (inl e) = (x, (Memᴰ.head refl, e))
      go rec (inr n) = let r = rec n in (r.0, (Memᴰ.tail r.1.0, r.1.1))

-- the marks that stood there, and those that a test on ids makes
module _ (covers : PointId → Bool) where
  abbrev pub or_covers : Kept → Bool
  or_covers k = k.certified || covers k.point.id

  pub mark-remark : (b : Book) → mark covers b ≡ map (remark or_covers) b
  unfolding mark mark_one
  mark-remark [] = refl
  mark-remark (k ∷ b) = ap (λ (l : Book). remark or_covers k ∷ l) (mark-remark b)

  pub find-marked : (b : Book) (j : PointId) → find_kept (mark covers b) j ≡ option_map (mark_one covers) (find_kept b j)
  unfolding mark_one
  find-marked b j = ap (λ (l : Book). find_kept l j) (mark-remark b) ∙ find_remarked or_covers b j

  pub marked-found : (b : Book) (j : PointId) → is_some (find_kept (mark covers b) j) ≡ is_some (find_kept b j)
  marked-found b j = ap is_some (find-marked b j) ∙ map-some (mark_one covers) (find_kept b j)

  pub mark-member : (b : Book) (k : Kept) → Memᴰ k (mark covers b) → (x : Kept) × (Memᴰ x b × (k ≡ mark_one covers x))
  unfolding mark_one
  mark-member b k m = remark-member or_covers b k (subst (Memᴰ k) (mark-remark b) m)
