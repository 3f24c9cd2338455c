-- Laws of the walks for all reason numbers: their rows, one number after the other, are in the order of the definition.
use Prim.Native.Nat.{ℕ, ◌≤◌, ◌<◌}
use Rattle.std.specs.Prelude.{Option}
use Rattle.std.proofs.lemmas.Bool.Decides.{nat_tests}
use native.Mathlib.Omega.{arith}
use native.Mathlib.Decide.{dec_lt}
use mathlib.Core.Path.{◌≡◌, refl, ap, ◌∙◌, subst}
use mathlib.Core.Bool.{Bool, true, false}
use mathlib.Core.List.Memᴰ
use mathlib.Core.List.Permᴰ
use mathlib.Core.List.{List, [], ◌∷◌, ◌++◌, map, Memᴰ, Permᴰ}
use lib.ListN.{length, length-append}
use lib.Dec.{ltb, eqb}
use borrow.Author.Tests.{eq-eqb, ne_eqb, lt-ltb, le-ltb}
use Rattle.base.specs.Base.{pick, is_empty}
use Rattle.map.specs.Rows.{rising}
use Rattle.map.specs.Risen.{inserted}
use Rattle.map.proofs.Pairs.{rising_tail, rising-above}
use Rattle.map.proofs.Risen.{risen-perm, risen-length, same-rising}
use Rattle.point.specs.Point.{PointInfo}
use Rattle.schedule.specs.Settings.{Settings}
use Rattle.reasons.specs.Invalid.{InvalidReason, invalid_number}
use Rattle.reasons.specs.Invalid.{NoRoundInDag, DependencyRoundDropped, NotTrigger, TerminalTriggerBeforeLastProof, TimeNotGreaterThanInPrevPoint}
use Rattle.reasons.specs.Invalid.{AnchorProofDoesntInheritAnchorTime, AnchorTimeNotInheritedFromProof, MustHaveReferencedPrevPoint}
use Rattle.reasons.specs.Invalid.{MustHaveSkippedRound, DependencyTimeTooFarInFuture, NewerAnchorInDependency, AnchorLink, AnchorLinkRole}
use Rattle.reasons.specs.Invalid.{AnchorLinkBadPath, BadStickySequence, TriggerProofMismatch, DepIllFormed, DepNotFound}
use Rattle.rules.specs.DagPoint.{point_view}
use Rattle.rules.specs.List.{Listed, directs, indirects}
use Rattle.rules.specs.Trail.{Row}
use Rattle.rules.specs.Force.{direct_finals, indirect_finals, finals, has_reason_of, firsts, rank, ranked}
use Rattle.rules.proofs.All.{All, all-member, all-map}
use Rattle.rules.proofs.Perms.{members_all}
use Rattle.rules.proofs.Finals.{Apart, rows_from, apart, stands}
use Rattle.rules.proofs.Ranked.{ranked_in_order, ranked_member, apart-firsts, InOrder}
use Rattle.rules.proofs.RowsWithin.{directs-few, indirects-few}
use Rattle.rules.proofs.SomeOrder.{final_of, target_final, direct_rows_from, target_rows_from}
use Rattle.trail_rows.specs.Code.{Put}
use Rattle.trail_rows.proofs.Laws.{put_none, put_join}
use Rattle.force_rows.specs.Code.{of_number, kind_rows}
use Rattle.force_rows.specs.Walk.{NumberPut}
use Rattle.force_rows.specs.declared.walk.Walked as code
use Rattle.force_rows.proofs.RowLaws.{of-member}

abbrev num : Row → ℕ
num r = invalid_number r.reason

-- ---- rows of smaller numbers

unfoldable pub below : ℕ → List Row → List Row
below k [] = []
below k (r ∷ l) = pick (ltb (num r) k) (r ∷ below k l) (below k l)

-- numbers that don't fall
abbrev Sorted : List Row → Type 0
Sorted [] = Unit
Sorted (x ∷ l) = All (λ (y : Row). num x ≤ num y) l × Sorted l

module _ (k : ℕ) where
  below-yes : (r : Row) (l : List Row) → num r < k → below k (r ∷ l) ≡ r ∷ below k l
  unfolding below
  below-yes r l h = rw (lt-ltb (num r) k h) refl

  below-no : (r : Row) (l : List Row) → k ≤ num r → below k (r ∷ l) ≡ below k l
  unfolding below
  below-no r l h = rw (le-ltb (num r) k h) refl

  of-yes : (r : Row) (l : List Row) → num r ≡ k → of_number k (r ∷ l) ≡ r ∷ of_number k l
  unfolding of_number
  of-yes r l h = rw (eq-eqb (num r) k h) refl

  of-no : (r : Row) (l : List Row) → (num r ≡ k → ⊥) → of_number k (r ∷ l) ≡ of_number k l
  unfolding of_number
  of-no r l h = rw (ne_eqb (num r) k h) refl

  below-none : (l : List Row) → All (λ (y : Row). k ≤ num y) l → below k l ≡ []
  unfolding below
  below-none [] h = refl
  below-none (r ∷ l) h = below-no r l h.0 ∙ below-none l h.1

  below-all : (l : List Row) → All (λ (y : Row). num y < k) l → below k l ≡ l
  unfolding below
  below-all [] h = refl
  below-all (r ∷ l) h = below-yes r l h.0 ∙ ap (λ (m : List Row). r ∷ m) (below-all l h.1)

-- up to the next number that there is
below-next : (k next : ℕ) (l : List Row) → k < next → Sorted l → All (λ (y : Row). k < num y → next ≤ num y) l →
    below next l ≡ below k l ++ of_number k l
unfolding below of_number
below-next k next [] h s f = refl
below-next k next (r ∷ l) h s f = go (dec_lt (num r) k) (dec_lt k (num r)) (below-next k next l h s.1 f.1)
  where
    go : Dec (num r < k) → Dec (k < num r) → below next l ≡ below k l ++ of_number k l → below next (r ∷ l) ≡ below k (r ∷ l) ++ of_number k (r ∷ l)
    go (yes a) d e =
        rw (below-yes next r l (omega (arith, a, h)), below-yes k r l a, of-no k r l (λ z. omega (arith, a, z))) (ap (λ (m : List Row). r ∷ m) e)
    go (no a) (yes b) e =
        rw (below-no next r l (f.0 b), below-no k r l (omega (arith, b)), of-no k r l (λ z. omega (arith, b, z))) e
    go (no a) (no b) e =
        let same : num r ≡ k = omega (arith, a, b) in
        let none : below k l ≡ [] = below-none k l (all-map (λ (y : Row). num r ≤ num y) (λ (y : Row). k ≤ num y) l (λ y g. omega (arith, g, same)) s.0) in
        let tail : below next l ≡ of_number k l = e ∙ ap (λ (m : List Row). m ++ of_number k l) none in
        rw (below-yes next r l (omega (arith, same, h)), below-no k r l (omega (arith, same)), of-yes k r l same, none)
        (ap (λ (m : List Row). r ∷ m) tail)

-- ---- the rows of one number, in both orders

of-perm : (k : ℕ) {l m : List Row} → Permᴰ l m → Permᴰ (of_number k l) (of_number k m)
unfolding of_number
of-perm k Permᴰ.nil = Permᴰ.nil
of-perm k (Permᴰ.cons {a = a} {b = b} {l₁ = l} {l₂ = m} e d) = subst (λ (x : Row). Permᴰ (of_number k (a ∷ l)) (of_number k (x ∷ m))) e (go (eqb (num a) k) (of-perm k d))
  where
    go : (t : Bool) → Permᴰ (of_number k l) (of_number k m) → Permᴰ (pick t (a ∷ of_number k l) (of_number k l)) (pick t (a ∷ of_number k m) (of_number k m))
    go true p = Permᴰ.cons refl p
    go false p = p
of-perm k (Permᴰ.swap {a = a} {b = b} {a' = a'} {b' = b'} {l = l} e g) =
    subst (λ (x : Row). Permᴰ (of_number k (a ∷ b ∷ l)) (of_number k (a' ∷ x ∷ l))) e
    (subst (λ (x : Row). Permᴰ (of_number k (a ∷ b ∷ l)) (of_number k (x ∷ a ∷ l))) g (go (eqb (num a) k) (eqb (num b) k)))
  where
    go : (t u : Bool) → Permᴰ (pick t (a ∷ pick u (b ∷ of_number k l) (of_number k l)) (pick u (b ∷ of_number k l) (of_number k l)))
        (pick u (b ∷ pick t (a ∷ of_number k l) (of_number k l)) (pick t (a ∷ of_number k l) (of_number k l)))
    go true true = Permᴰ.swap refl refl
    go true false = Permᴰ.refl _
    go false true = Permᴰ.refl _
    go false false = Permᴰ.refl _
of-perm k (Permᴰ.trans d g) = Permᴰ.trans (of-perm k d) (of-perm k g)

rising-cons : (x : Row) (l : List Row) → ((y : Row) → Memᴰ y l → rank x < rank y) → rising (map rank l) ≡ true → rising (map rank (x ∷ l)) ≡ true
unfolding rising
rising-cons x [] f h = refl
rising-cons x (y ∷ l) f h = rw (lt-ltb (rank x) (rank y) (f y (Memᴰ.head refl))) h

of-rising : (k : ℕ) (l : List Row) → rising (map rank l) ≡ true → rising (map rank (of_number k l)) ≡ true
unfolding of_number rising
of-rising k [] h = refl
of-rising k (x ∷ l) h = go (eqb (num x) k) (of-rising k l (rising_tail (rank x) (map rank l) h))
  where
    go : (t : Bool) → rising (map rank (of_number k l)) ≡ true → rising (map rank (pick t (x ∷ of_number k l) (of_number k l))) ≡ true
    go true r = rising-cons x (of_number k l) (λ y m. rising-above (rank x) (map rank l) (rank y) h (Memᴰ.map rank (of-member k l y m).0)) r
    go false r = r

of-apart : (k : ℕ) (l : List Row) → Apart l → rising (map rank (of_number k l)) ≡ true
unfolding of_number rising
of-apart k [] h = refl
of-apart k (x ∷ l) h = go (eqb (num x) k) refl (of-apart k l h.1)
  where
    go : (t : Bool) → eqb (num x) k ≡ t → rising (map rank (of_number k l)) ≡ true → rising (map rank (pick t (x ∷ of_number k l) (of_number k l))) ≡ true
    go true e r =
        rising-cons x (of_number k l)
        (λ y m.
        (let p = of-member k l y m in
        let s : num x ≡ k = grind (arith, nat_tests) in
        let a = all-member (λ (z : Row). x.place < z.place) l h.0 y p.0 in
        let b = p.1 in
        omega (arith, s, a, b)))
        r
    go false e r = r

sorted : (l : List Row) → rising (map rank l) ≡ true → ((x : Row) → Memᴰ x l → x.place < 65536) → Sorted l
sorted [] h f = tt
sorted (x ∷ l) h f = (
  members_all (λ (y : Row). num x ≤ num y) l
      (λ y m.
      (let a = rising-above (rank x) (map rank l) (rank y) h (Memᴰ.map rank m) in
      let b = f x (Memᴰ.head refl) in
      let d = f y (Memᴰ.tail m) in
      omega (arith, a, b, d))),
  sorted l (rising_tail (rank x) (map rank l) h) (λ y m. f y (Memᴰ.tail m)),
)

small : (r : InvalidReason) → invalid_number r < 255
small (NoRoundInDag m) = omega arith
small DependencyRoundDropped = omega arith
small (NotTrigger i) = omega arith
small (TerminalTriggerBeforeLastProof i) = omega arith
small (TimeNotGreaterThanInPrevPoint i) = omega arith
small (AnchorProofDoesntInheritAnchorTime i) = omega arith
small (AnchorTimeNotInheritedFromProof i) = omega arith
small (MustHaveReferencedPrevPoint i) = omega arith
small (MustHaveSkippedRound i) = omega arith
small (DependencyTimeTooFarInFuture i) = omega arith
small (NewerAnchorInDependency g i) = omega arith
small (AnchorLink g i) = omega arith
small (AnchorLinkRole g i) = omega arith
small (AnchorLinkBadPath g i) = omega arith
small (BadStickySequence i o n) = omega arith
small (TriggerProofMismatch i b) = omega arith
small (DepIllFormed i n) = omega arith
small (DepNotFound i) = omega arith

-- ---- the walks

-- the rows of the numbers below the next one are put
abbrev pub Below : List Row → List ℕ → List ℕ → code.Walked → Type 0
Below rows old new w = Put old 0 (below w.next (ranked rows)) new w.rows

module _ (rows : List Row) (a : Apart rows) (f : All (λ (y : Row). y.place < 65536) rows) where
  there : InOrder (ranked rows)
  there = ranked_in_order rows a f

  same-rows : (k : ℕ) → of_number k (firsts [] rows) ≡ of_number k (ranked rows)
  unfolding ranked
  same-rows k =
      same-rising rank (of-perm k (risen-perm rank (firsts [] rows)))
      (of-apart k (firsts [] rows) (apart-firsts [] rows a))
      (of-rising k (ranked rows) there.rises)

  ranked-with : (old mid new : List ℕ) (k n : ℕ) (w : code.Walked) → Put old 0 (below k (ranked rows)) mid n → NumberPut rows k n mid new w →
      k < w.next → Below rows old new w
  ranked-with old mid new k n w q h l =
      rw (below-next k w.next (ranked rows) l (sorted (ranked rows) there.rises there.low)
      (members_all (λ (y : Row). k < num y → w.next ≤ num y) (ranked rows) (λ y m. h.above y (ranked_member rows y m))))
      (put_join old mid new 0 n w.rows (below k (ranked rows)) (of_number k (ranked rows)) q (rw (← same-rows k) h.put))

  pub ranked_first : (old new : List ℕ) (w : code.Walked) → NumberPut rows 0 0 old new w → 0 < w.next → Below rows old new w
  ranked_first old new w h l =
      ranked-with old old new 0 0 w
      (rw (below-none 0 (ranked rows) (members_all (λ (y : Row). 0 ≤ num y) (ranked rows) (λ y m. omega arith))) (put_none old 0))
      h l

  pub ranked_next : (old mid new : List ℕ) (u w : code.Walked) → Below rows old mid u → NumberPut rows u.next u.rows mid new w → u.next < w.next →
      Below rows old new w
  ranked_next old mid new u w q h l = ranked-with old mid new u.next u.rows w q h l

  pub ranked_done : (old new : List ℕ) (w : code.Walked) → Below rows old new w → w.next ≡ 255 → Put old 0 (ranked rows) new w.rows
  ranked_done old new w q e =
      subst (λ (l : List Row). Put old 0 l new w.rows)
      (ap (λ (k : ℕ). below k (ranked rows)) e ∙ below-all 255 (ranked rows) (members_all (λ (y : Row). num y < 255) (ranked rows) (λ y m. small y.reason)))
      q

-- ---- the entries of a kind, and both

places : {A : Type 0} (f : A → Option InvalidReason) (list : ℕ) (l : List A) → length l ≤ 65535 →
    All (λ (y : Row). y.place < 65536) (rows_from f list 0 l)
places f list l h =
    members_all (λ (y : Row). y.place < 65536) (rows_from f list 0 l)
    (λ x m.
    (let s = stands f list l 0 x m in
    let z = ap (λ (v : List _). length v) s.is ∙ length-append s.before (s.here ∷ s.after) in
    omega (arith, s.place, z, h)))

module _ (c : Settings) (required : Bool) (p : PointInfo) (l : List Listed) (few : length l ≤ 65535) where
  pub kind_apart : (t : Bool) → Apart (kind_rows c required p t 0 l)
  kind_apart false = rw (direct_rows_from c required (point_view p) (directs l) 0) (apart (final_of c required (point_view p)) 1 (directs l) 0)
  kind_apart true = rw (target_rows_from c p (indirects l) 0) (apart (target_final c p) 2 (indirects l) 0)

  pub kind_places : (t : Bool) → All (λ (y : Row). y.place < 65536) (kind_rows c required p t 0 l)
  kind_places false =
      rw (direct_rows_from c required (point_view p) (directs l) 0)
      (places (final_of c required (point_view p)) 1 (directs l) (let m = directs-few l in omega (arith, m, few)))
  kind_places true =
      rw (target_rows_from c p (indirects l) 0) (places (target_final c p) 2 (indirects l) (let m = indirects-few l in omega (arith, m, few)))

  first-there : (rows : List Row) → length (ranked rows) ≤ 0 → rows ≡ []
  unfolding ranked firsts has_reason_of
  first-there [] h = refl
  first-there (r ∷ rows) h = absurd (let e = risen-length rank (firsts [] (r ∷ rows)) in omega (arith, e, h))

  nothing-ranked : (rows : List Row) → rows ≡ [] → ranked rows ≡ []
  unfolding ranked firsts inserted
  nothing-ranked rows h = rw h refl

  pub kinds_first : (old new : List ℕ) (n : ℕ) → Put old 0 (ranked (kind_rows c required p false 0 l)) new n → 0 < n →
      Put old 0 (ranked (finals c required p (directs l) (indirects l))) new n
  unfolding finals
  kinds_first old new n q h = go (direct_finals c required (point_view p) 0 (directs l)) refl
    where
      go : (rows : List Row) → direct_finals c required (point_view p) 0 (directs l) ≡ rows →
          Put old 0 (ranked (pick (is_empty (direct_finals c required (point_view p) 0 (directs l))) (indirect_finals c p 0 (indirects l)) (direct_finals c required (point_view p) 0 (directs l)))) new n
      go [] e = absurd (let z = ap (λ (k : List Row). length k) (nothing-ranked _ e) in let m = q.count in omega (arith, z, m, h))
      go (r ∷ rows) e = rw e (subst (λ (k : List Row). Put old 0 (ranked k) new n) e q)

  pub kinds_second : (old mid new : List ℕ) (m n : ℕ) → Put old 0 (ranked (kind_rows c required p false 0 l)) mid m → m ≤ 0 →
      Put mid 0 (ranked (kind_rows c required p true 0 l)) new n → Put old 0 (ranked (finals c required p (directs l) (indirects l))) new n
  unfolding finals
  kinds_second old mid new m n q h r =
      let none : direct_finals c required (point_view p) 0 (directs l) ≡ [] = first-there _ (let k = q.count in omega (arith, k, h)) in
      let z : 0 ≡ m = omega (arith, h) in
      let first : Put old 0 [] mid m = subst (λ (k : List Row). Put old 0 k mid m) (nothing-ranked _ none) q in
      let second : Put mid m (ranked (indirect_finals c p 0 (indirects l))) new n = subst (λ (k : ℕ). Put mid k (ranked (indirect_finals c p 0 (indirects l))) new n) z r in
      rw none (put_join old mid new 0 m n [] (ranked (indirect_finals c p 0 (indirects l))) first second)
