-- What a list records in two halves: the join of what each half records.
use Rattle.std.specs.Prelude.{Option, None, Some, option_map, unwrap_or, is_some}
use mathlib.Core.Path.{◌≡◌, refl, sym, ap, ◌∙◌}
use mathlib.Core.Logic.{◌⊎◌, inl, inr}
use mathlib.Core.Bool.{Bool, true, false, not}
use mathlib.Core.List.Memᴰ
use mathlib.Core.List.{List, [], ◌∷◌, ◌++◌}
use Rattle.base.specs.Base.{pick, when, is_empty}
use Rattle.base.proofs.Impossible.{impossible}
use Rattle.point.specs.Point.{PointInfo}
use Rattle.point.specs.declared.data.AnchorStageRole.{AnchorStageRole}
use Rattle.schedule.specs.Settings.{Settings}
use Rattle.reasons.specs.Invalid.{InvalidReason, DependencyRoundDropped, InvalidDependency}
use Rattle.rules.specs.DagPoint.{Entry, IndirectEntry, is_dropped, PointView, point_view}
use Rattle.rules.specs.List.{Listed, directs, indirects}
use Rattle.rules.specs.Validate.{Findings, nothing, join, entry_findings, indirect_findings, check_indirect_links}
use Rattle.rules.specs.Joined.{direct_findings, recorded, reasons_by, Silent}
use Rattle.rules.proofs.Joins.{none_first_lem, none-second, join_assoc}
use Rattle.rules.proofs.Folds.{direct_trail, direct_record, indirect_record, direct-trail, direct_record_lem, indirect_record_lem}

-- ---- the entries of two lists

pub directs-append : (l m : List Listed) → directs (l ++ m) ≡ directs l ++ directs m
unfolding directs
directs-append [] m = refl
directs-append (x ∷ l) m = go (is_some x.aim) (directs-append l m)
  where
    go : (b : Bool) → directs (l ++ m) ≡ directs l ++ directs m →
        pick b (directs (l ++ m)) (x.entry ∷ directs (l ++ m)) ≡ pick b (directs l) (x.entry ∷ directs l) ++ directs m
    go true h = h
    go false h = ap (λ (r : List Entry). x.entry ∷ r) h

pub indirects-append : (l m : List Listed) → indirects (l ++ m) ≡ indirects l ++ indirects m
unfolding indirects
indirects-append [] m = refl
indirects-append (x ∷ l) m = go x.aim (indirects-append l m)
  where
    go : (o : Option AnchorStageRole) → indirects (l ++ m) ≡ indirects l ++ indirects m →
        unwrap_or (option_map (λ g. record { role = g; entry = x.entry } ∷ indirects (l ++ m)) o) (indirects (l ++ m))
        ≡ unwrap_or (option_map (λ g. record { role = g; entry = x.entry } ∷ indirects l) o) (indirects l) ++ indirects m
    go None h = h
    go (Some g) h = ap (λ (r : List IndirectEntry). record { role = g; entry = x.entry } ∷ r) h

-- ---- direct entries

module _ (c : Settings) (required : Bool) (p : PointView) where
  -- a record that is there already is joined first
  pub direct-onto : (es : List Entry) (old : Option InvalidDependency) → direct_record c required p old es ≡ join old (direct_record c required p None es)
  unfolding direct_record
  direct-onto [] old = sym (none-second old)
  direct-onto (e ∷ l) old = go (is_dropped e.state) (direct-onto l)
    where
      root : Option InvalidDependency
      root = (entry_findings c required p e).root

      go : (b : Bool) → ((o : Option InvalidDependency) → direct_record c required p o l ≡ join o (direct_record c required p None l)) →
          pick b old (direct_record c required p (join old root) l) ≡ join old (pick b None (direct_record c required p (join None root) l))
      go true f = sym (none-second old)
      go false f =
          f (join old root)
          ∙ join_assoc old root (direct_record c required p None l)
          ∙ ap (join old) (sym (f root) ∙ ap (λ (o : Option InvalidDependency). direct_record c required p o l) (sym (none_first_lem root)))

  -- entries that give no reason, none of them dropped, before others
  pub direct-after : (a b : List Entry) → direct_trail c required p false a ≡ [] →
      (direct_trail c required p false (a ++ b) ≡ direct_trail c required p false b)
      × ((old : Option InvalidDependency) → direct_record c required p old (a ++ b) ≡ direct_record c required p (direct_record c required p old a) b)
  unfolding direct_trail direct_record
  direct-after [] b h = (refl, λ old. refl)
  direct-after (e ∷ l) b h = go (is_dropped e.state) (entry_findings c required p e).trail h (direct-after l b)
    where
      go : (d : Bool) (t : List InvalidReason) →
          pick d (when true DependencyRoundDropped) (t ++ direct_trail c required p (not (is_empty t)) l) ≡ [] →
          (direct_trail c required p false l ≡ [] →
          (direct_trail c required p false (l ++ b) ≡ direct_trail c required p false b)
          × ((old : Option InvalidDependency) → direct_record c required p old (l ++ b) ≡ direct_record c required p (direct_record c required p old l) b)) →
          (pick d (when true DependencyRoundDropped) (t ++ direct_trail c required p (not (is_empty t)) (l ++ b)) ≡ direct_trail c required p false b)
          × ((old : Option InvalidDependency) →
          pick d old (direct_record c required p (join old (entry_findings c required p e).root) (l ++ b))
          ≡ direct_record c required p (pick d old (direct_record c required p (join old (entry_findings c required p e).root) l)) b)
      go true t k f = impossible (cc)
      go false [] k f = let r = f k in (r.0, λ old. r.1 (join old (entry_findings c required p e).root))
      go false (x ∷ t) k f = impossible (cc)

-- ---- indirect entries

module _ (c : Settings) (p : PointInfo) where
  pub indirect-onto : (ts : List IndirectEntry) (old : Option InvalidDependency) → indirect_record c p old ts ≡ join old (indirect_record c p None ts)
  unfolding indirect_record
  indirect-onto [] old = sym (none-second old)
  indirect-onto (a ∷ l) old =
      indirect-onto l (join old (indirect_findings c p a).root)
      ∙ join_assoc old (indirect_findings c p a).root (indirect_record c p None l)
      ∙ ap (join old)
      (sym (indirect-onto l (indirect_findings c p a).root) ∙ ap (λ (o : Option InvalidDependency). indirect_record c p o l) (sym (none_first_lem (indirect_findings c p a).root)))

  pub indirect-after : (a b : List IndirectEntry) (old : Option InvalidDependency) → indirect_record c p old (a ++ b) ≡ indirect_record c p (indirect_record c p old a) b
  unfolding indirect_record
  indirect-after [] b old = refl
  indirect-after (x ∷ a) b old = indirect-after a b (join old (indirect_findings c p x).root)

-- ---- whole lists

module _ (c : Settings) (required : Bool) (p : PointInfo) where
  -- the reasons and the record of the direct entries
  abbrev pub direct_reasons : List Listed → List InvalidReason
  direct_reasons l = direct_trail c required (point_view p) false (directs l)

  abbrev pub direct_root : List Listed → Option InvalidDependency
  direct_root l = direct_record c required (point_view p) None (directs l)

  pub direct-reasons : (l : List Listed) → (direct_findings c required p l).trail ≡ direct_reasons l
  direct-reasons l = direct-trail c required (point_view p) (directs l) nothing

  pub recorded_apart : (l : List Listed) →
      recorded c required p l ≡ pick (is_empty (direct_reasons l)) (indirect_record c p (direct_root l) (indirects l)) (direct_root l)
  recorded_apart l =
      go (direct_findings c required p l)
      ∙ ap (λ (t : List InvalidReason). pick (is_empty t) (indirect_record c p (direct_findings c required p l).root (indirects l)) (direct_findings c required p l).root) (direct-reasons l)
      ∙ ap (λ (o : Option InvalidDependency). pick (is_empty (direct_reasons l)) (indirect_record c p o (indirects l)) o) (direct_record_lem c required (point_view p) (directs l) nothing)
    where
      go : (f : Findings) → (pick (is_empty f.trail) (check_indirect_links c p f (indirects l)) f).root ≡ pick (is_empty f.trail) (indirect_record c p f.root (indirects l)) f.root
      go f = by (is_empty f.trail)
        where
          by : (b : Bool) → (pick b (check_indirect_links c p f (indirects l)) f).root ≡ pick b (indirect_record c p f.root (indirects l)) f.root
          by true = indirect_record_lem c p (indirects l) f
          by false = refl

  no_direct : (direct_trail c required (point_view p) false [] ≡ []) × ((o : Option InvalidDependency) → direct_record c required (point_view p) o [] ≡ o)
  unfolding direct_trail direct_record
  no_direct = (refl, λ o. refl)

  no_indirect : (o : Option InvalidDependency) → indirect_record c p o [] ≡ o
  unfolding indirect_record
  no_indirect o = refl

  -- a list after a record, which its direct entries follow
  onto : (t : Bool) (old : Option InvalidDependency) (es : List Entry) (ts : List IndirectEntry) →
      pick t (indirect_record c p (direct_record c required (point_view p) old es) ts) (direct_record c required (point_view p) old es)
      ≡ join old (pick t (indirect_record c p (direct_record c required (point_view p) None es) ts) (direct_record c required (point_view p) None es))
  onto true old es ts =
      let root = direct_record c required (point_view p) None es in
      indirect-onto c p ts (direct_record c required (point_view p) old es)
      ∙ ap (λ (o : Option InvalidDependency). join o (indirect_record c p None ts)) (direct-onto c required (point_view p) es old)
      ∙ join_assoc old root (indirect_record c p None ts)
      ∙ ap (join old) (sym (indirect-onto c p ts root))
  onto false old es ts = direct-onto c required (point_view p) es old

  -- the second list's direct entries, if there are any, follow the first list's alone
  pub lists-joined : (l m : List Listed) → (indirects l ≡ []) ⊎ (directs m ≡ []) → direct_reasons l ≡ [] →
      recorded c required p (l ++ m) ≡ join (recorded c required p l) (recorded c required p m)
  lists-joined l m o h =
      let a = direct-after c required (point_view p) (directs l) (directs m) h in
      recorded_apart (l ++ m)
      ∙ rw (directs-append l m, indirects-append l m, a.0, a.1 None) (go o)
      ∙ sym (ap (λ (r : Option InvalidDependency). join r (recorded c required p m)) (recorded_apart l ∙ rw h) ∙ ap (join (indirect_record c p (direct_root l) (indirects l))) (recorded_apart m))
    where
      go : (indirects l ≡ []) ⊎ (directs m ≡ []) →
          pick (is_empty (direct_reasons m))
          (indirect_record c p (direct_record c required (point_view p) (direct_root l) (directs m)) (indirects l ++ indirects m))
          (direct_record c required (point_view p) (direct_root l) (directs m))
          ≡ join (indirect_record c p (direct_root l) (indirects l))
          (pick (is_empty (direct_reasons m)) (indirect_record c p (direct_root m) (indirects m)) (direct_root m))
      go (inl e) = rw e (rw (no_indirect (direct_root l)) (onto (is_empty (direct_reasons m)) (direct_root l) (directs m) (indirects m)))
      go (inr e) =
          rw (e, no_direct.0, no_direct.1 (direct_root l), no_direct.1 None)
          (indirect-after c p (indirects l) (indirects m) (direct_root l) ∙ indirect-onto c p (indirects m) (indirect_record c p (direct_root l) (indirects l)))

  -- a list without a dropped entry and without one that gives a reason
  pub silent-reasons : (l : List Listed) → Silent c required p l → direct_reasons l ≡ []
  unfolding directs direct_trail
  silent-reasons [] f = refl
  silent-reasons (x ∷ l) f = go x.aim refl (f x (Memᴰ.head refl)) (silent-reasons l (λ y m. f y (Memᴰ.tail m)))
    where
      go : (o : Option AnchorStageRole) → x.aim ≡ o → (is_dropped x.entry.state ≡ false) × (reasons_by c required p x.aim x.entry ≡ []) →
          direct_reasons l ≡ [] → direct_trail c required (point_view p) false (pick (is_some x.aim) (directs l) (x.entry ∷ directs l)) ≡ []
      go None e k r =
          let t : (entry_findings c required (point_view p) x.entry).trail ≡ [] = ap (λ (o : Option AnchorStageRole). reasons_by c required p o x.entry) (sym e) ∙ k.1 in
          rw (e, k.0, t) r
      go (Some g) e k r = rw e r
