-- What the network can force (ticket U11), over lists of entries: the final reasons are those that some order gives.
use Rattle.std.specs.Prelude.{Option, None, Some}
use Prim.Native.Nat.{ℕ, suc}
use mathlib.Core.Path.{◌≡◌, refl, sym, ap, ◌∙◌, subst}
use mathlib.Core.Logic.{inl, inr}
use mathlib.Core.Bool.{Bool, true, false, not, ◌&&◌, ◌||◌}
use mathlib.Core.List.Memᴰ
use mathlib.Core.List.Permᴰ
use mathlib.Core.List.{List, [], ◌∷◌, ◌++◌, Memᴰ, Permᴰ}
use Rattle.base.specs.Base.{pick, when, is_empty, last_of}
use Rattle.base.proofs.Bool.{clash}
use Rattle.base.proofs.Impossible.{impossible}
use Rattle.base.proofs.Option.{none-some}
use Rattle.base.proofs.Tables.{last-here, last-before}
use Rattle.map.proofs.Risen.{member-perm}
use Rattle.point.specs.Point.{PointInfo}
use Rattle.schedule.specs.Settings.{Settings}
use Rattle.reasons.specs.Invalid.{InvalidReason, DependencyRoundDropped, InvalidDependency}
use Rattle.reasons.specs.Verdict as verdict
use Rattle.rules.specs.DagPoint.{Entry, IndirectEntry, is_dropped, PointView, point_view}
use Rattle.rules.specs.Validate.{entry_findings, indirect_findings, result_with, over_lists}
use Rattle.rules.specs.Trail.{Row}
use Rattle.rules.specs.Fired.{reasons_in}
use Rattle.rules.specs.Force.{list_of, direct_finals, indirect_finals, finals}
use Rattle.rules.proofs.Perms.{all, any, all_perm}
use Rattle.rules.proofs.Folds.{direct_trail, direct_record, indirect_trail, indirect_record, lists_apart}
use Rattle.rules.proofs.Orders.{quiet, direct-quiet}
use Rattle.rules.proofs.Finals.{Giver, rows_from, rows_giver, giver_rows, none-row}

-- ---- the final reason of an entry

abbrev pub final_of : Settings → Bool → PointView → Entry → Option InvalidReason
final_of c required v e = pick (is_dropped e.state) (Some DependencyRoundDropped) (last_of (entry_findings c required v e).trail)

abbrev pub target_final : Settings → PointInfo → IndirectEntry → Option InvalidReason
target_final c p a = last_of (indirect_findings c p a).trail

last-empty : (t : List InvalidReason) → is_empty (list_of (last_of t)) ≡ is_empty t
unfolding last_of
last-empty [] = refl
last-empty (x ∷ []) = refl
last-empty (x ∷ y ∷ t) = last-empty (y ∷ t)

nothing-last : {A : Type 0} → last_of {A = A} [] ≡ None
unfolding last_of
nothing-last = refl

final-list : (b : Bool) (o : Option InvalidReason) →
    pick b (DependencyRoundDropped ∷ []) (list_of o) ≡ list_of (pick b (Some DependencyRoundDropped) o)
final-list true o = refl
final-list false o = refl

module _ (c : Settings) (required : Bool) (v : PointView) where
  pub direct_rows_from : (es : List Entry) (i : ℕ) → direct_finals c required v i es ≡ rows_from (final_of c required v) 1 i es
  unfolding direct_finals rows_from
  direct_rows_from [] i = refl
  direct_rows_from (e ∷ l) i = rw (← final-list (is_dropped e.state) (last_of (entry_findings c required v e).trail), direct_rows_from l (suc i))

  -- whether one gives a reason is the same for every order
  none-quiet : (es : List Entry) → is_empty (rows_from (final_of c required v) 1 0 es) ≡ all (quiet c required v) es
  unfolding all
  none-quiet es = none-row (final_of c required v) 1 es 0 ∙ each es
    where
      one : (b : Bool) (t : List InvalidReason) → is_empty (list_of (pick b (Some DependencyRoundDropped) (last_of t))) ≡ (not b && is_empty t)
      one true t = refl
      one false t = last-empty t

      each : (es : List Entry) → all (λ (e : Entry). is_empty (list_of (final_of c required v e))) es ≡ all (quiet c required v) es
      each [] = refl
      each (e ∷ l) = rw (one (is_dropped e.state) (entry_findings c required v e).trail, each l)

module _ (c : Settings) (p : PointInfo) where
  pub target_rows_from : (ts : List IndirectEntry) (i : ℕ) → indirect_finals c p i ts ≡ rows_from (target_final c p) 2 i ts
  unfolding indirect_finals rows_from
  target_rows_from [] i = refl
  target_rows_from (a ∷ l) i = rw (target_rows_from l (suc i))

-- ---- the last of the reasons of a list is the final reason of an entry

module _ {A : Type 0} (f : A → Option InvalidReason) where
  next-giver : (a : A) (l : List A) (r : InvalidReason) → Giver f l r → Giver f (a ∷ l) r
  next-giver a l r g = record { entry = g.entry; there = Memᴰ.tail g.there; gives = g.gives }

  this-giver : (a : A) (l : List A) (r : InvalidReason) → f a ≡ Some r → Giver f (a ∷ l) r
  this-giver a l r h = record { entry = a; there = Memᴰ.head refl; gives = h }

-- the last of two parts is the last of the second, or of the first where that is empty
of_parts : {B : Type 0} (t rest : List InvalidReason) (r : InvalidReason) → last_of (t ++ rest) ≡ Some r → (last_of rest ≡ Some r → B) →
    (last_of t ≡ Some r → B) → B
of_parts {B} t rest r h f g = go (last_of rest) refl
  where
    go : (o : Option InvalidReason) → last_of rest ≡ o → B
    go None q = g (sym (last-before t rest q) ∙ h)
    go (Some y) q = f (q ∙ (sym (last-here t rest y q) ∙ h))

module _ (c : Settings) (required : Bool) (v : PointView) where
  last-final : (es : List Entry) (set : Bool) (r : InvalidReason) → last_of (direct_trail c required v set es) ≡ Some r →
      Giver (final_of c required v) es r
  unfolding direct_trail last_of
  last-final [] set r h = none-some (sym nothing-last ∙ h)
  last-final (e ∷ l) set r h =
      go (is_dropped e.state) refl h (last-final l (set || not (is_empty (entry_findings c required v e).trail)) r)
    where
      rest : List InvalidReason
      rest = direct_trail c required v (set || not (is_empty (entry_findings c required v e).trail)) l

      here : (b : Bool) → is_dropped e.state ≡ b →
          pick b (Some DependencyRoundDropped) (last_of (entry_findings c required v e).trail) ≡ Some r → Giver (final_of c required v) (e ∷ l) r
      here b q k = this-giver (final_of c required v) e l r (rw q k)

      ends : (set : Bool) → last_of (when (not set) DependencyRoundDropped) ≡ Some r → Some DependencyRoundDropped ≡ Some r
      ends true k = none-some k
      ends false k = k

      go : (b : Bool) → is_dropped e.state ≡ b →
          last_of (pick b (when (not set) DependencyRoundDropped) ((entry_findings c required v e).trail ++ rest)) ≡ Some r →
          (last_of rest ≡ Some r → Giver (final_of c required v) l r) → Giver (final_of c required v) (e ∷ l) r
      go true q k f = here true q (ends set k)
      go false q k f = of_parts (entry_findings c required v e).trail rest r k (λ m. next-giver (final_of c required v) e l r (f m)) (here false q)

module _ (c : Settings) (p : PointInfo) where
  last-target : (ts : List IndirectEntry) (r : InvalidReason) → last_of (indirect_trail c p ts) ≡ Some r → Giver (target_final c p) ts r
  unfolding indirect_trail
  last-target [] r h = none-some (sym nothing-last ∙ h)
  last-target (a ∷ l) r h =
      of_parts (indirect_findings c p a).trail (indirect_trail c p l) r h
      (λ m. next-giver (target_final c p) a l r (last-target l r m))
      (this-giver (target_final c p) a l r)

-- ---- orders in which an entry's reason is the last

-- an entry comes first in some order, and last in some
pub record First {A : Type 0} (x : A) (l : List A) : Type 0 where
  pub rest : List A
  pub order : Permᴰ l (x ∷ rest)

module _ {A : Type 0} where
  first : (x : A) (l : List A) → Memᴰ x l → First x l
  first x [] k = absurd (Memᴰ.not-nil k)
  first x (y ∷ l) k = elim (Memᴰ.cases_cons k) [
    | inl e ↦ record { rest = l; order = Permᴰ.cons (sym e) (Permᴰ.refl l) }
    | inr n ↦ (let g = first x l n in record { rest = y ∷ g.rest; order = Permᴰ.trans (Permᴰ.cons refl g.order) (Permᴰ.swap refl refl) })
  ]

  last-order : (x : A) (m : List A) → Permᴰ (x ∷ m) (m ++ (x ∷ []))
  last-order x m = Permᴰ.symm (Permᴰ.trans (Permᴰ.middle x m []) (Permᴰ.cons refl (Permᴰ.append-nil m)))

  -- an element that passes a test
  pub passing : (f : A → Bool) (l : List A) → any f l ≡ true → (x : A) × Memᴰ x l × (f x ≡ true)
  unfolding any
  passing f [] h = clash false h refl
  passing f (x ∷ l) h = go (f x) refl h (passing f l)
    where
      go : (b : Bool) → f x ≡ b → (b || any f l) ≡ true → (any f l ≡ true → (y : A) × Memᴰ y l × (f y ≡ true)) →
          (y : A) × Memᴰ y (x ∷ l) × (f y ≡ true)
      go true q k g = (x, Memᴰ.head refl, q)
      go false q k g = let s = g k in (s.0, Memᴰ.tail s.1, s.2)

abbrev pub gone : Entry → Bool
gone e = is_dropped e.state

module _ (c : Settings) (required : Bool) (v : PointView) where
  -- without a dropped entry before it, at the end
  put_last : (m : List Entry) (set : Bool) (e : Entry) (r : InvalidReason) → any gone m ≡ false → is_dropped e.state ≡ false →
      last_of (entry_findings c required v e).trail ≡ Some r → last_of (direct_trail c required v set (m ++ (e ∷ []))) ≡ Some r
  unfolding direct_trail any
  put_last [] set e r a b h = rw b (last-before (entry_findings c required v e).trail [] nothing-last ∙ h)
  put_last (x ∷ m) set e r a b h = go (is_dropped x.state) (entry_findings c required v x).trail a (λ (k : Bool) (q : any gone m ≡ false). put_last m k e r q b h)
    where
      go : (g : Bool) (t : List InvalidReason) → (g || any gone m) ≡ false →
          ((k : Bool) → any gone m ≡ false → last_of (direct_trail c required v k (m ++ (e ∷ []))) ≡ Some r) →
          last_of (pick g (when (not set) DependencyRoundDropped) (t ++ direct_trail c required v (set || not (is_empty t)) (m ++ (e ∷ [])))) ≡ Some r
      go true t k f = clash true refl k
      go false t k f = last-here t (direct_trail c required v (set || not (is_empty t)) (m ++ (e ∷ []))) r (f (set || not (is_empty t)) k)

  -- at the front, with a dropped one after it
  before-dropped : (e d : Entry) (m : List Entry) (r : InvalidReason) → is_dropped e.state ≡ false → is_dropped d.state ≡ true →
      last_of (entry_findings c required v e).trail ≡ Some r → last_of (direct_trail c required v false (e ∷ d ∷ m)) ≡ Some r
  unfolding direct_trail
  before-dropped e d m r a b h = rw (a, b) (go (entry_findings c required v e).trail h)
    where
      go : (t : List InvalidReason) → last_of t ≡ Some r → last_of (t ++ when (not (not (is_empty t))) DependencyRoundDropped) ≡ Some r
      go [] k = none-some (sym nothing-last ∙ k)
      go (x ∷ t) k = last-before (x ∷ t) [] nothing-last ∙ k

  dropped-first : (e : Entry) (m : List Entry) → is_dropped e.state ≡ true →
      last_of (direct_trail c required v false (e ∷ m)) ≡ Some DependencyRoundDropped
  unfolding direct_trail last_of
  dropped-first e m a = rw a

module _ (c : Settings) (p : PointInfo) where
  put-target_last : (m : List IndirectEntry) (a : IndirectEntry) (r : InvalidReason) → target_final c p a ≡ Some r →
      last_of (indirect_trail c p (m ++ (a ∷ []))) ≡ Some r
  unfolding indirect_trail
  put-target_last [] a r h = last-before (indirect_findings c p a).trail [] nothing-last ∙ h
  put-target_last (x ∷ m) a r h = last-here (indirect_findings c p x).trail (indirect_trail c p (m ++ (a ∷ []))) r (put-target_last m a r h)

-- ---- over both lists

pub invalid-last : (o : Option InvalidReason) (d : Option InvalidDependency) (r : InvalidReason) → result_with o d ≡ verdict.Invalid r →
    o ≡ Some r
invalid-last None None r h = impossible (cc)
invalid-last None (Some d) r h = impossible (cc)
invalid-last (Some s) d r h = let e : s ≡ r = cc in ap Some e

module _ (c : Settings) (required : Bool) (p : PointInfo) where
  abbrev v : PointView
  v = point_view p

  -- some order gives a reason
  pub record SomeOrder (es : List Entry) (ts : List IndirectEntry) (r : InvalidReason) : Type 0 where
    pub direct : List Entry
    pub indirect : List IndirectEntry
    pub same_direct : Permᴰ es direct
    pub same_indirect : Permᴰ ts indirect
    pub gives : over_lists c required p direct indirect ≡ verdict.Invalid r

  pub finals_from : (es : List Entry) (ts : List IndirectEntry) →
      finals c required p es ts
      ≡ pick (is_empty (rows_from (final_of c required v) 1 0 es)) (rows_from (target_final c p) 2 0 ts) (rows_from (final_of c required v) 1 0 es)
  unfolding finals
  finals_from es ts = rw (direct_rows_from c required v es 0, target_rows_from c p ts 0)

  -- ---- "List every reason that some order gives": nothing else

  pub given-final : (es es' : List Entry) (ts ts' : List IndirectEntry) (r : InvalidReason) → Permᴰ es es' → Permᴰ ts ts' →
      over_lists c required p es' ts' ≡ verdict.Invalid r → Memᴰ r (reasons_in (finals c required p es ts))
  given-final es es' ts ts' r d g h =
      rw (finals_from es ts)
      (go (direct_trail c required v false es') refl
      (invalid-last (last_of (pick (is_empty (direct_trail c required v false es')) (indirect_trail c p ts') (direct_trail c required v false es')))
      (indirect_record c p (direct_record c required v None es') ts') r (sym (lists_apart c p ts' required es') ∙ h)))
    where
      same : (t : List InvalidReason) → direct_trail c required v false es' ≡ t →
          is_empty (rows_from (final_of c required v) 1 0 es) ≡ is_empty t
      same t q =
          none-quiet c required v es
          ∙ (all_perm (quiet c required v) d ∙ (sym (direct-quiet c required v es') ∙ ap (λ (l : List InvalidReason). is_empty l) q))

      go : (t : List InvalidReason) → direct_trail c required v false es' ≡ t → last_of (pick (is_empty t) (indirect_trail c p ts') t) ≡ Some r →
          Memᴰ r (reasons_in (pick (is_empty (rows_from (final_of c required v) 1 0 es)) (rows_from (target_final c p) 2 0 ts) (rows_from (final_of c required v) 1 0 es)))
      go [] q k =
          let x = last-target c p ts' r k in
          rw (same [] q)
          (giver_rows (target_final c p) 2 ts 0 r (record { entry = x.entry; there = member-perm x.entry (Permᴰ.symm g) x.there; gives = x.gives }))
      go (y ∷ t) q k =
          let x = last-final c required v es' false r (ap last_of q ∙ k) in
          rw (same (y ∷ t) q)
          (giver_rows (final_of c required v) 1 es 0 r (record { entry = x.entry; there = member-perm x.entry (Permᴰ.symm d) x.there; gives = x.gives }))

  -- ---- and each of them

  by_direct : (es es' : List Entry) (ts : List IndirectEntry) (r : InvalidReason) → Permᴰ es es' →
      last_of (direct_trail c required v false es') ≡ Some r → SomeOrder es ts r
  by_direct es es' ts r d h =
      record {
        direct = es';
        indirect = ts;
        same_direct = d;
        same_indirect = Permᴰ.refl ts;
        gives = lists_apart c p ts required es' ∙ go (direct_trail c required v false es') (indirect_trail c p ts) (indirect_record c p (direct_record c required v None es') ts) h;
      }
    where
      go : (t i : List InvalidReason) (w : Option InvalidDependency) → last_of t ≡ Some r →
          result_with (last_of (pick (is_empty t) i t)) w ≡ verdict.Invalid r
      go [] i w k = none-some (sym nothing-last ∙ k)
      go (x ∷ t) i w k = rw k

  by_indirect : (es : List Entry) (ts ts' : List IndirectEntry) (r : InvalidReason) → Permᴰ ts ts' →
      is_empty (direct_trail c required v false es) ≡ true →
      last_of (indirect_trail c p ts') ≡ Some r → SomeOrder es ts r
  by_indirect es ts ts' r d q h =
      record {
        direct = es;
        indirect = ts';
        same_direct = Permᴰ.refl es;
        same_indirect = d;
        gives = lists_apart c p ts' required es ∙ rw (q, h);
      }

  direct-order : (es : List Entry) (ts : List IndirectEntry) (r : InvalidReason) → Giver (final_of c required v) es r → SomeOrder es ts r
  direct-order es ts r g = go (is_dropped g.entry.state) refl g.gives
    where
      f : First g.entry es
      f = first g.entry es g.there

      later : is_dropped g.entry.state ≡ false → last_of (entry_findings c required v g.entry).trail ≡ Some r → (b : Bool) →
          any gone f.rest ≡ b → SomeOrder es ts r
      later a h false q =
          by_direct es (f.rest ++ (g.entry ∷ [])) ts r (Permᴰ.trans f.order (last-order g.entry f.rest)) (put_last c required v f.rest false g.entry r q a h)
      later a h true q =
          let s = passing gone f.rest q in
          let k = first s.0 f.rest s.1 in
          by_direct es (g.entry ∷ s.0 ∷ k.rest) ts r (Permᴰ.trans f.order (Permᴰ.cons refl k.order)) (before-dropped c required v g.entry s.0 k.rest r a s.2 h)

      go : (b : Bool) → is_dropped g.entry.state ≡ b →
          pick b (Some DependencyRoundDropped) (last_of (entry_findings c required v g.entry).trail) ≡ Some r → SomeOrder es ts r
      go true a h = by_direct es (g.entry ∷ f.rest) ts r f.order (dropped-first c required v g.entry f.rest a ∙ h)
      go false a h = later a h (any gone f.rest) refl

  pub final_given : (es : List Entry) (ts : List IndirectEntry) (r : InvalidReason) → Memᴰ r (reasons_in (finals c required p es ts)) →
      SomeOrder es ts r
  final_given es ts r m =
      go (is_empty (rows_from (final_of c required v) 1 0 es)) refl (subst (λ (l : List Row). Memᴰ r (reasons_in l)) (finals_from es ts) m)
    where
      go : (b : Bool) → is_empty (rows_from (final_of c required v) 1 0 es) ≡ b →
          Memᴰ r (reasons_in (pick b (rows_from (target_final c p) 2 0 ts) (rows_from (final_of c required v) 1 0 es))) → SomeOrder es ts r
      go false q k = direct-order es ts r (rows_giver (final_of c required v) 1 es 0 r k)
      go true q k =
          let g = rows_giver (target_final c p) 2 ts 0 r k in
          let f = first g.entry ts g.there in
          by_indirect es ts (f.rest ++ (g.entry ∷ [])) r (Permᴰ.trans f.order (last-order g.entry f.rest))
          (direct-quiet c required v es ∙ (sym (none-quiet c required v es) ∙ q))
          (put-target_last c p f.rest g.entry r g.gives)
