-- Laws of judging over a book: the entry of an id, dependencies that are no versions, and the lists one after the other.
use Rattle.std.specs.Prelude.{Option, None, Some, is_some}
use Prim.Native.Nat.{ℕ, ◌+◌, ◌-◌, ◌≤◌, ◌<◌}
use native.Mathlib.Omega.{arith}
use mathlib.Core.Path.{◌≡◌, refl, ap, sym, ◌∙◌, subst}
use mathlib.Core.Bool.{Bool, true, false, not, ◌&&◌, and-false}
use mathlib.Core.List.{List, [], ◌∷◌, ◌++◌}
use lib.ListN.{length, get_or, drop, drop_of_length-le}
use lib.Seq.{drop-cons}
use native.Mathlib.Numerals.{add-one}
use lib.Dec.{eqb, leb}
use borrow.Author.Tests.{eqb-true, ne_eqb, leb-true}
use Rattle.base.specs.Base.{pick}
use Rattle.base.proofs.Bool.{and_left, clash, last-false}
use Rattle.base.proofs.Lists.{member-at}
use Rattle.map.specs.Rows.{Pair, get}
use Rattle.map.proofs.Pairs.{get-there}
use Rattle.point.specs.Point.{PointId, Through, PointInfo, AnchorLink, Indirect, prev_digest, prev_id, anchor_link, in_domain}
use Rattle.point.specs.declared.data.AnchorStageRole.{AnchorStageRole}
use Rattle.point.specs.declared.data.AnchorStageRole.TheVariants.{Proof, Trigger}
use Rattle.schedule.specs.Settings.{Settings}
use Rattle.reasons.specs.Verdict.{Verdict}
use Rattle.rules.specs.DagPoint.{DagPoint, NotFound, Entry, IndirectEntry, entry_id, PointView, point_view}
use Rattle.rules.specs.Validate.{Taken, as_dependency, as_prev_point, as_version, aside, taken_own, taken, dependency, findings_as, entry_findings, validate}
use Rattle.judge_step.specs.Code.{Judging, start, direct_step, indirect_step, direct_fold, indirect_fold, target_step, result_of}
use Rattle.judge_step.proofs.Laws.{fold_over-lists}
use Rattle.judge_mismatch.specs.Code.{no_pair}
use Rattle.rules.specs.Mismatch.{pair_id, is_version, is_id}
use Rattle.books.specs.Kept.{Kept, Book, find_kept}
use Rattle.books.specs.Lists.{kept_entry, entry_with, lookup, lookups, versions, direct_list, target_entry, is_trigger_first, indirect_list}
use Rattle.books.proofs.Clear.{lookup-id}
use Rattle.book_layout.specs.Code.{shown}
use Rattle.book_judge.specs.Code.{over_book, NoVersions}

-- ---- the entry of an id

-- what the book shows of an id, but for whether it is first valid
abbrev pub Shows : Kept → Entry → Type 0
Shows k e = shown k e.first_valid ≡ e

module _ (b : Book) (q : PointInfo) (i : PointId) where
  -- an entry counts as certified by its mark
  pub looked_kept : (k : Kept) → find_kept b i ≡ Some k → Shows k (lookup b q i)
  unfolding lookup kept_entry
  looked_kept k h = rw h

  -- an id that is not kept counts as certified as the previous point
  pub looked_absent : find_kept b i ≡ None → lookup b q i ≡ record { state = NotFound i; certified = is_id (prev_id q) i; first_valid = false }
  unfolding lookup
  looked_absent h = ap (entry_with b q i) h

-- ---- a dependency that is no version is judged the same, first valid or not

abbrev is_as_version : Taken → Bool
is_as_version as_dependency = false
is_as_version as_prev_point = false
is_as_version as_version = true
is_as_version aside = false

taken-version : (q : PointInfo) (i : PointId) → is_as_version (taken (point_view q) i) ≡ is_version q i
unfolding taken is_version point_view
taken-version q i = go (eqb i.round (q.id.round - 1) && eqb i.author q.id.author) (prev_digest q)
  where
    own : (u : Bool) → is_as_version (pick u as_prev_point aside) ≡ false
    own true = refl
    own false = refl

    go : (t : Bool) (o : Option ℕ) → is_as_version (pick t (taken_own i o) as_dependency) ≡ (not (is_some o) && t)
    go true None = refl
    go true (Some d) = own (eqb d i.digest)
    go false None = refl
    go false (Some d) = refl

abbrev entry : DagPoint → Bool → Bool → Entry
entry d certified first = record { state = d; certified = certified; first_valid = first }

module _ (c : Settings) (required : Bool) (p : PointView) (d : DagPoint) (certified a b : Bool) where
  found_first : (w : Taken) → is_as_version w ≡ false → findings_as c required p w (entry d certified a) ≡ findings_as c required p w (entry d certified b)
  unfolding dependency
  found_first as_dependency h = refl
  found_first as_prev_point h = refl
  found_first as_version h = clash true refl h
  found_first aside h = refl

  step-first : (j : Judging) → is_as_version (taken p (entry_id d)) ≡ false → direct_step c required p j (entry d certified a) ≡ direct_step c required p j (entry d certified b)
  unfolding direct_step entry_findings
  step-first j h = rw (found_first (taken p (entry_id d)) h)

-- what was looked up, judged without knowing whether it is first valid
pub step_looked : (c : Settings) (required : Bool) (p : PointView) (b : Book) (q : PointInfo) (i : PointId) (j x : Judging) (d : DagPoint) (certified : Bool) →
    p ≡ point_view q → is_version q i ≡ false → entry d certified (lookup b q i).first_valid ≡ lookup b q i →
    x ≡ direct_step c required p j (entry d certified false) → x ≡ direct_step c required p j (lookup b q i)
step_looked c required p b q i j x d certified v n e h =
    let id : entry_id d ≡ i = ap (λ (y : Entry). entry_id y.state) e ∙ lookup-id b q i in
    h
    ∙ step-first c required p d certified false (lookup b q i).first_valid j (rw (v, id) (taken-version q i ∙ n))
    ∙ ap (direct_step c required p j) e

-- ---- the point's own maps hold no version

module _ (q : PointInfo) where
  pub includes_none : NoVersions q (q.id.round - 1) q.includes
  unfolding is_version prev_digest
  includes_none x m = go (eqb x.peer q.id.author) refl
    where
      go : (t : Bool) → eqb x.peer q.id.author ≡ t → (not (is_some (get q.includes q.id.author)) && (eqb (q.id.round - 1) (q.id.round - 1) && t)) ≡ false
      go true h = rw (rw (eqb-true x.peer q.id.author h) at (get-there q.includes x m))
      go false h = last-false (not (is_some (get q.includes q.id.author))) _ (and-false (eqb (q.id.round - 1) (q.id.round - 1)))

  pub witness-none : in_domain q ≡ true → (l : List Pair) → NoVersions q (q.id.round - 2) l
  unfolding is_version in_domain
  witness-none h l x m =
      let least : 4 ≤ q.id.round = leb-true 4 q.id.round (and_left (leb 4 q.id.round) _ h) in
      rw (ne_eqb (q.id.round - 2) (q.id.round - 1) (λ e. omega arith)) (last-false (not (is_some (prev_digest q))) false refl)

module _ (c : Settings) (required : Bool) (p : PointView) (b : Book) (q : PointInfo) (round : ℕ) (l : List Pair) where
  -- judging so far, over the dependencies from i on, gives what judging over all gives
  abbrev pub MapLeft : Judging → ℕ → Judging → Type 0
  MapLeft all i j = direct_fold c required p j (lookups b q round (drop i l)) ≡ all

  module _ (all : Judging) (i : ℕ) (j : Judging) (h : MapLeft all i j) where
    pub map-step : i < length l → NoVersions q round l → (id : PointId) → id ≡ pair_id round (get_or l i no_pair) →
        (x : Judging) → (is_version q id ≡ false → x ≡ direct_step c required p j (lookup b q id)) → MapLeft all (i + 1) x
    unfolding lookups direct_fold
    map-step lt v id e x f =
        let y : x ≡ direct_step c required p j (lookup b q (pair_id round (get_or l i no_pair))) = rw e at f (v (get_or l i no_pair) (member-at l i no_pair lt)) in
        rw (y, add-one i) (rw (drop-cons l i no_pair lt) at h)

    pub map-end : length l ≤ i → j ≡ all
    unfolding lookups direct_fold
    map-end le = rw (drop_of_length-le l le) at h

-- ---- lists one after the other

module _ (c : Settings) (required : Bool) (p : PointView) where
  direct-append : (a b : List Entry) (j : Judging) → direct_fold c required p j (a ++ b) ≡ direct_fold c required p (direct_fold c required p j a) b
  unfolding direct_fold
  direct-append [] b j = refl
  direct-append (e ∷ a) b j = direct-append a b (direct_step c required p j e)

  module _ (b : Book) (q : PointInfo) (j : Judging) where
    abbrev pub in_maps : Judging
    in_maps =
        direct_fold c required p (direct_fold c required p j (lookups b q (q.id.round - 2) q.witness)) (lookups b q (q.id.round - 1) q.includes)

    after_maps : (l : List Entry) → direct_fold c required p j (lookups b q (q.id.round - 2) q.witness ++ (lookups b q (q.id.round - 1) q.includes ++ l)) ≡ direct_fold c required p in_maps l
    after_maps l =
        direct-append (lookups b q (q.id.round - 2) q.witness) (lookups b q (q.id.round - 1) q.includes ++ l) j
        ∙ direct-append (lookups b q (q.id.round - 1) q.includes) l (direct_fold c required p j (lookups b q (q.id.round - 2) q.witness))

    -- with a previous point nothing stands after the maps
    pub direct-linked : (x : Judging) → is_some (prev_digest q) ≡ true → x ≡ in_maps → x ≡ direct_fold c required p j (direct_list b q)
    unfolding direct_list direct_fold
    direct-linked x h e = e ∙ rw h (sym (after_maps []))

    direct-unlinked : is_some (prev_digest q) ≡ false →
        direct_fold c required p j (direct_list b q) ≡ direct_fold c required p in_maps (versions b (q.id.round - 1) q.id.author b)
    unfolding direct_list
    direct-unlinked h = rw h (after_maps (versions b (q.id.round - 1) q.id.author b))

    map-judged : (n m : ℕ) (l k : List Pair) (i x : Judging) → n ≡ m → l ≡ k → NoVersions q m k →
        (NoVersions q n l → x ≡ direct_fold c required p i (lookups b q n l)) → x ≡ direct_fold c required p i (lookups b q m k)
    map-judged n m l k i x e g v f =
        subst (λ (z : ℕ). NoVersions q z k → x ≡ direct_fold c required p i (lookups b q z k)) e
        (subst (λ (z : List Pair). NoVersions q n z → x ≡ direct_fold c required p i (lookups b q n z)) g f) v

    -- the two maps, witness first
    pub maps_judged : (two one : ℕ) (witness includes : List Pair) (x y : Judging) → p ≡ point_view q → in_domain q ≡ true →
        two ≡ p.id.round - 2 → one ≡ p.id.round - 1 → witness ≡ q.witness → includes ≡ q.includes →
        (NoVersions q two witness → x ≡ direct_fold c required p j (lookups b q two witness)) →
        (NoVersions q one includes → y ≡ direct_fold c required p x (lookups b q one includes)) →
        y ≡ in_maps
    unfolding point_view
    maps_judged two one witness includes x y v d et eo ew ei f g =
        let r : p.id.round ≡ q.id.round = ap (λ (z : PointView). z.id.round) v in
        map-judged one (q.id.round - 1) includes q.includes x y (eo ∙ ap (λ (n : ℕ). n - 1) r) ei (includes_none q) g
        ∙ ap (λ (z : Judging). direct_fold c required p z (lookups b q (q.id.round - 1) q.includes))
        (map-judged two (q.id.round - 2) witness q.witness j x (et ∙ ap (λ (n : ℕ). n - 2) r) ew (witness-none q d q.witness) f)

-- after the maps, the versions where there is no previous point
pub versions-after : (c : Settings) (required : Bool) (p : PointView) (b : Book) (q : PointInfo) (j x y : Judging) → p ≡ point_view q → prev_digest q ≡ None →
    x ≡ in_maps c required p b q j → y ≡ direct_fold c required p x (versions b (p.id.round - 1) p.id.author b) →
    y ≡ direct_fold c required p j (direct_list b q)
unfolding point_view
versions-after c required p b q j x y v h e f =
    let maps = in_maps c required p b q j in
    f
    ∙ ap (λ (z : Judging). direct_fold c required p z (versions b (p.id.round - 1) p.id.author b)) e
    ∙ ap (λ (i : PointId). direct_fold c required p maps (versions b (i.round - 1) i.author b)) (ap (λ (z : PointView). z.id) v)
    ∙ sym (direct-unlinked c required p b q j (ap (λ (o : Option ℕ). is_some o) h))

module _ (c : Settings) (q : PointInfo) where
  indirect-append : (a b : List IndirectEntry) (j : Judging) → indirect_fold c q j (a ++ b) ≡ indirect_fold c q (indirect_fold c q j a) b
  unfolding indirect_fold
  indirect-append [] b j = refl
  indirect-append (e ∷ a) b j = indirect-append a b (target_step c q e.role j e.entry)

  module _ (b : Book) (j x y : Judging) where
    -- judging with the target of a role's link
    abbrev After : AnchorStageRole → Judging → Judging → Type 0
    After g old new = new ≡ indirect_fold c q old (target_entry b q g (anchor_link g q))

    pub trigger-first : is_trigger_first q.anchor_proof q.anchor_trigger ≡ true → After Trigger j x → After Proof x y → y ≡ indirect_fold c q j (indirect_list b q)
    unfolding indirect_list
    trigger-first h e f = rw h (rw e at f ∙ sym (indirect-append (target_entry b q Trigger q.anchor_trigger) (target_entry b q Proof q.anchor_proof) j))

    pub proof-first : is_trigger_first q.anchor_proof q.anchor_trigger ≡ false → After Proof j x → After Trigger x y → y ≡ indirect_fold c q j (indirect_list b q)
    unfolding indirect_list
    proof-first h e f = rw h (rw e at f ∙ sym (indirect-append (target_entry b q Proof q.anchor_proof) (target_entry b q Trigger q.anchor_trigger) j))

-- the target of an indirect link
pub indirect-judged : (c : Settings) (p : PointView) (b : Book) (q : PointInfo) (g : AnchorStageRole) (to : PointId) (t : Through) (j x : Judging) (e : Entry) (k : AnchorLink) →
    p ≡ point_view q → k ≡ Indirect to t → k ≡ anchor_link g q → e ≡ lookup b q to → x ≡ indirect_step c p g t j e → x ≡ indirect_fold c q j (target_entry b q g k)
unfolding indirect_fold
indirect-judged c p b q g to t j x e k v ek el ee h = h ∙ rw (v, ee, ek, sym (sym ek ∙ el))

-- what the previous digest is, by the view
pub view-prev : (v : PointView) (q : PointInfo) → v ≡ point_view q → v.prev_digest ≡ prev_digest q
unfolding point_view
view-prev v q e = ap (λ (z : PointView). z.prev_digest) e

-- the direct entries, then the indirect ones; all rounds are present
pub judged-over : (c : Settings) (required : Bool) (p : PointView) (q : PointInfo) (b : Book) (x y : Judging) (v : Verdict) → p ≡ point_view q →
    x ≡ direct_fold c required p start (direct_list b q) → y ≡ indirect_fold c q x (indirect_list b q) → v ≡ result_of y →
    v ≡ over_book c required q b
unfolding validate
judged-over c required p q b x y v e f g h =
    h
    ∙ ap result_of
    (g
    ∙ ap (λ (j : Judging). indirect_fold c q j (indirect_list b q))
    (f ∙ ap (λ (z : PointView). direct_fold c required z start (direct_list b q)) e))
    ∙ fold_over-lists c required q (direct_list b q) (indirect_list b q)
