-- The points that record something of a list, and what one answers of them.
use Rattle.std.specs.Prelude.{Option, None, Some, is_some}
use mathlib.Core.Path.{◌≡◌, refl, sym, ap, ◌∙◌, subst}
use mathlib.Core.Logic.{◌⊎◌, inl, inr}
use mathlib.Core.Bool.{Bool, true, false, ◌&&◌}
use mathlib.Core.List.Memᴰ
use mathlib.Core.List.Permᴰ
use mathlib.Core.List.{List, [], ◌∷◌, Memᴰ, Permᴰ}
use Rattle.base.specs.Base.{pick}
use Rattle.base.proofs.Bool.{and_left, and_right}
use Rattle.base.proofs.Impossible.{impossible}
use Rattle.point.specs.Point.{PointId, PointInfo, same_id}
use Rattle.point.specs.declared.data.AnchorStageRole.{AnchorStageRole}
use Rattle.point.proofs.Ids.{same_eq, same_sym}
use Rattle.schedule.specs.Settings.{Settings}
use Rattle.reasons.specs.Invalid.{InvalidDependency}
use Rattle.rules.specs.DagPoint.{entry_id}
use Rattle.rules.specs.List.{Listed}
use Rattle.rules.specs.Validate.{dependency, indirect_findings}
use Rattle.rules.specs.Clearing.{brought, recording, Clearing, NoSingleMark, ClearedBy, all_same, by_one}
use Rattle.rules.proofs.Perms.{all, all_perm}
use Rattle.rules.proofs.Brought.{record_for}

-- ---- one answer of some points

-- whether all of them are one
abbrev are : PointId → List PointId → Bool
are i l = all (λ j. same_id j i) l

unfoldable of_one : List PointId → Clearing
unfolding all
of_one [] = NoSingleMark
of_one (i ∷ l) = pick (are i l) (ClearedBy i) NoSingleMark

all_same_is : (i : PointId) (l : List PointId) → all_same i l ≡ are i l
unfolding all_same all
all_same_is i [] = refl
all_same_is i (j ∷ l) = ap (λ (b : Bool). same_id j i && b) (all_same_is i l)

one_is : (l : List PointId) → by_one l ≡ of_one l
unfolding by_one of_one
one_is [] = refl
one_is (i ∷ l) = ap (λ (b : Bool). pick b (ClearedBy i) NoSingleMark) (all_same_is i l)

abbrev two : PointId → PointId → List PointId → Clearing
two i j l = pick (same_id j i && are i l) (ClearedBy i) NoSingleMark

swapped : (i j : PointId) (l : List PointId) → two i j l ≡ two j i l
swapped i j l = go (same_id j i) refl
  where
    go : (b : Bool) → same_id j i ≡ b → two i j l ≡ two j i l
    go true e = let q = same_eq j i e in ap (λ (k : PointId). two k j l) (sym q) ∙ ap (λ (k : PointId). two j k l) q
    go false e = rw (e, same_sym i j, e) refl

of-one_perm : {l m : List PointId} → Permᴰ l m → of_one l ≡ of_one m
unfolding of_one all
of-one_perm Permᴰ.nil = refl
of-one_perm (Permᴰ.cons {a = a} {b = b} {l₁ = l} {l₂ = m} e d) =
    ap (λ (i : PointId). pick (are i l) (ClearedBy i) NoSingleMark) e
    ∙ ap (λ (k : Bool). pick k (ClearedBy b) NoSingleMark) (all_perm (λ j. same_id j b) d)
of-one_perm (Permᴰ.swap {a = a} {b = b} {a' = a'} {b' = b'} {l = l} e g) =
    swapped a b l ∙ ap (λ (i : PointId). two i a l) g ∙ ap (λ (j : PointId). two a' j l) e
of-one_perm (Permᴰ.trans d g) = of-one_perm d ∙ of-one_perm g

-- whatever their order
pub one_perm : {l m : List PointId} → Permᴰ l m → by_one l ≡ by_one m
one_perm {l} {m} d = one_is l ∙ of-one_perm d ∙ sym (one_is m)

are-member : (i : PointId) (l : List PointId) → are i l ≡ true → (k : PointId) → Memᴰ k l → k ≡ i
unfolding all
are-member i [] h k m = absurd (Memᴰ.not-nil m)
are-member i (j ∷ l) h k m = go (are-member i l (and_right (same_id j i) _ h) k) (Memᴰ.cases_cons m)
  where
    go : (Memᴰ k l → k ≡ i) → (k ≡ j) ⊎ Memᴰ k l → k ≡ i
    go f (inl e) = e ∙ same_eq j i (and_left (same_id j i) _ h)
    go f (inr n) = f n

-- the one that clears: it is among them, and all are it
pub one-all : (ids : List PointId) (i : PointId) → by_one ids ≡ ClearedBy i → Memᴰ i ids × ((k : PointId) → Memᴰ k ids → k ≡ i)
unfolding of_one
one-all ids i h = of ids (sym (one_is ids) ∙ h)
  where
    of : (l : List PointId) → of_one l ≡ ClearedBy i → Memᴰ i l × ((k : PointId) → Memᴰ k l → k ≡ i)
    of [] q = impossible (cc)
    of (j ∷ l) q = go (are j l) refl q
      where
        all-first : are j l ≡ true → (k : PointId) → (k ≡ j) ⊎ Memᴰ k l → k ≡ j
        all-first a k (inl e) = e
        all-first a k (inr n) = are-member j l a k n

        go : (b : Bool) → are j l ≡ b → pick b (ClearedBy j) NoSingleMark ≡ ClearedBy i → Memᴰ i (j ∷ l) × ((k : PointId) → Memᴰ k (j ∷ l) → k ≡ i)
        go true a q =
            let e : j ≡ i = cc in
            (Memᴰ.head (sym e), λ k m. all-first a k (Memᴰ.cases_cons m) ∙ e)
        go false a q = impossible (cc)

another : (i : PointId) (l : List PointId) → are i l ≡ false → (k : PointId) × Memᴰ k l × (same_id k i ≡ false)
unfolding all
another i [] h = impossible (cc)
another i (j ∷ l) h = go (same_id j i) refl h (another i l)
  where
    go : (b : Bool) → same_id j i ≡ b → (b && are i l) ≡ false → (are i l ≡ false → (k : PointId) × Memᴰ k l × (same_id k i ≡ false)) →
        (k : PointId) × Memᴰ k (j ∷ l) × (same_id k i ≡ false)
    go true e q f = let w = f q in (w.0, Memᴰ.tail w.1, w.2)
    go false e q f = (j, Memᴰ.head refl, e)

-- none clears: of every point there is one that it is not
pub none-all : (ids : List PointId) (k : PointId) → Memᴰ k ids → by_one ids ≡ NoSingleMark → (j : PointId) → (m : PointId) × Memᴰ m ids × (same_id m j ≡ false)
unfolding of_one
none-all ids k n h j = of ids n (sym (one_is ids) ∙ h)
  where
    of : (l : List PointId) → Memᴰ k l → of_one l ≡ NoSingleMark → (m : PointId) × Memᴰ m l × (same_id m j ≡ false)
    of [] n q = absurd (Memᴰ.not-nil n)
    of (i ∷ l) n q = go (are i l) refl q
      where
        other : (b : Bool) → same_id i j ≡ b → are i l ≡ false → (m : PointId) × Memᴰ m (i ∷ l) × (same_id m j ≡ false)
        other true e a =
            let w = another i l a in
            (w.0, Memᴰ.tail w.1, ap (same_id w.0) (sym (same_eq i j e)) ∙ w.2)
        other false e a = (i, Memᴰ.head refl, e)

        go : (b : Bool) → are i l ≡ b → pick b (ClearedBy i) NoSingleMark ≡ NoSingleMark → (m : PointId) × Memᴰ m (i ∷ l) × (same_id m j ≡ false)
        go true a q = impossible (cc)
        go false a q = other (same_id i j) refl a

-- never "not waiting"
pub one-or-none : (ids : List PointId) → ((i : PointId) × (by_one ids ≡ ClearedBy i)) ⊎ (by_one ids ≡ NoSingleMark)
unfolding by_one
one-or-none [] = inr refl
one-or-none (i ∷ l) = go (all_same i l)
  where
    go : (b : Bool) → ((j : PointId) × (pick b (ClearedBy i) NoSingleMark ≡ ClearedBy j)) ⊎ (pick b (ClearedBy i) NoSingleMark ≡ NoSingleMark)
    go true = inl (i, refl)
    go false = inr refl

-- ---- the points of entries that record something

-- where f says what an entry records
unfoldable recorders : (Listed → Option InvalidDependency) → List Listed → List PointId
recorders f [] = []
recorders f (x ∷ l) = pick (is_some (f x)) (entry_id x.entry.state ∷ recorders f l) (recorders f l)

module _ (f : Listed → Option InvalidDependency) where
  one-recorder : (l : List Listed) (x : Listed) (d : InvalidDependency) → Memᴰ x l → f x ≡ Some d → Memᴰ (entry_id x.entry.state) (recorders f l)
  unfolding recorders
  one-recorder [] x d m h = absurd (Memᴰ.not-nil m)
  one-recorder (y ∷ l) x d m h = go (Memᴰ.cases_cons m) (λ n. one-recorder l x d n h)
    where
      later : (b : Bool) (k i : PointId) (r : List PointId) → Memᴰ k r → Memᴰ k (pick b (i ∷ r) r)
      later true k i r n = Memᴰ.tail n
      later false k i r n = n

      go : (x ≡ y) ⊎ Memᴰ x l → (Memᴰ x l → Memᴰ (entry_id x.entry.state) (recorders f l)) →
          Memᴰ (entry_id x.entry.state) (pick (is_some (f y)) (entry_id y.entry.state ∷ recorders f l) (recorders f l))
      go (inl e) r =
          let k : is_some (f y) ≡ true = ap is_some (ap f (sym e) ∙ h) in
          rw k (Memᴰ.head (ap (λ (z : Listed). entry_id z.entry.state) e))
      go (inr n) r = later (is_some (f y)) (entry_id x.entry.state) (entry_id y.entry.state) (recorders f l) (r n)

  -- an entry that has the id and records
  abbrev Has : List Listed → PointId → Type 0
  Has l k = (x : Listed) × (d : InvalidDependency) × Memᴰ x l × (f x ≡ Some d) × (entry_id x.entry.state ≡ k)

  recorder-is : (l : List Listed) (k : PointId) → Memᴰ k (recorders f l) → Has l k
  unfolding recorders
  recorder-is [] k m = absurd (Memᴰ.not-nil m)
  recorder-is (y ∷ l) k m = go (f y) refl m (recorder-is l k)
    where
      later : Has l k → Has (y ∷ l) k
      later w = (w.0, w.1, Memᴰ.tail w.2, w.3, w.4)

      first : (d : InvalidDependency) → f y ≡ Some d → (k ≡ entry_id y.entry.state) ⊎ Memᴰ k (recorders f l) → (Memᴰ k (recorders f l) → Has l k) → Has (y ∷ l) k
      first d e (inl q) r = (y, d, Memᴰ.head refl, e, sym q)
      first d e (inr n) r = later (r n)

      go : (o : Option InvalidDependency) → f y ≡ o → Memᴰ k (pick (is_some o) (entry_id y.entry.state ∷ recorders f l) (recorders f l)) →
          (Memᴰ k (recorders f l) → Has l k) → Has (y ∷ l) k
      go None e n r = later (r n)
      go (Some d) e n r = first d e (Memᴰ.cases_cons n) r

  recorders_perm : {l m : List Listed} → Permᴰ l m → Permᴰ (recorders f l) (recorders f m)
  unfolding recorders
  recorders_perm Permᴰ.nil = Permᴰ.nil
  recorders_perm (Permᴰ.cons {a = a} {b = b} {l₁ = l} {l₂ = m} e d) =
      subst (λ (y : Listed). Permᴰ (recorders f (a ∷ l)) (recorders f (y ∷ m))) e (go (is_some (f a)) (entry_id a.entry.state) (recorders_perm d))
    where
      go : (k : Bool) (x : PointId) → Permᴰ (recorders f l) (recorders f m) →
          Permᴰ (pick k (x ∷ recorders f l) (recorders f l)) (pick k (x ∷ recorders f m) (recorders f m))
      go true x h = Permᴰ.cons refl h
      go false x h = h
  recorders_perm (Permᴰ.swap {a = a} {b = b} {a' = a'} {b' = b'} {l = l} e g) =
      subst (λ (y : Listed). Permᴰ (recorders f (a ∷ b ∷ l)) (recorders f (y ∷ b' ∷ l))) g
      (subst (λ (y : Listed). Permᴰ (recorders f (a ∷ b ∷ l)) (recorders f (b ∷ y ∷ l))) e
      (go (is_some (f a)) (is_some (f b)) (entry_id a.entry.state) (entry_id b.entry.state) (recorders f l)))
    where
      go : (k j : Bool) (x y : PointId) (r : List PointId) →
          Permᴰ (pick k (x ∷ pick j (y ∷ r) r) (pick j (y ∷ r) r)) (pick j (y ∷ pick k (x ∷ r) r) (pick k (x ∷ r) r))
      go true true x y r = Permᴰ.swap refl refl
      go true false x y r = Permᴰ.refl (x ∷ r)
      go false true x y r = Permᴰ.refl (y ∷ r)
      go false false x y r = Permᴰ.refl r
  recorders_perm (Permᴰ.trans d g) = Permᴰ.trans (recorders_perm d) (recorders_perm g)

module _ (c : Settings) (required : Bool) (p : PointInfo) where
  -- an entry brings what it records, direct or indirect
  brought_is : (o : Option AnchorStageRole) (x : Listed) →
      brought c required p o x.entry ≡ record_for c required p (record { aim = o; entry = x.entry; size = x.size })
  unfolding indirect_findings dependency
  brought_is None x = refl
  brought_is (Some g) x = refl

  recording_is : (l : List Listed) → recording c required p l ≡ recorders (record_for c required p) l
  unfolding recording recorders
  recording_is [] = refl
  recording_is (x ∷ l) = rw (brought_is x.aim x, recording_is l) refl

  pub recorded-in : (l : List Listed) (x : Listed) (d : InvalidDependency) → Memᴰ x l → record_for c required p x ≡ Some d →
      Memᴰ (entry_id x.entry.state) (recording c required p l)
  recorded-in l x d m h = rw (recording_is l) (one-recorder (record_for c required p) l x d m h)

  pub in-recorded : (l : List Listed) (k : PointId) → Memᴰ k (recording c required p l) →
      (x : Listed) × (d : InvalidDependency) × Memᴰ x l × (record_for c required p x ≡ Some d) × (entry_id x.entry.state ≡ k)
  in-recorded l k m = recorder-is (record_for c required p) l k (subst (Memᴰ k) (recording_is l) m)

  pub recording_perm : {l m : List Listed} → Permᴰ l m → Permᴰ (recording c required p l) (recording c required p m)
  recording_perm {l} {m} d = rw (recording_is l, recording_is m) (recorders_perm (record_for c required p) d)
