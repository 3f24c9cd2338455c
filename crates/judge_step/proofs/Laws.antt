-- Laws for callers: judging entry by entry gives what `over_lists` says of whole lists, and a point that is not invalid passed every
-- check of every entry.
use Rattle.std.specs.Prelude.{Option, None, Some, option_map, unwrap_or, is_some}
use Rattle.std.specs.Option.{option_or}
use Rattle.reasons.specs.Code.{reason_of}
use Rattle.reasons.specs.declared.invalid.InvalidReason as code-reason
use Rattle.reasons.specs.declared.invalid.InvalidReason.TheVariants as case-reason
use Prim.Native.Nat.{ℕ}
use mathlib.Core.Path.{◌≡◌, refl, sym, ap, ◌∙◌}
use mathlib.Core.Bool.{Bool, true, false, not, ◌&&◌, ◌||◌}
use mathlib.Core.List.{List, [], ◌∷◌, ◌++◌}
use Rattle.base.specs.Base.{pick, when, last_of, is_empty}
use Rattle.base.proofs.Bool.{and_right, clash}
use Rattle.point.specs.Point.{PointId, Through, PointInfo}
use Rattle.point.specs.declared.data.AnchorStageRole.{AnchorStageRole}
use Rattle.schedule.specs.Settings.{Settings}
use Rattle.reasons.specs.Invalid.{InvalidReason, DependencyRoundDropped, InvalidDependency}
use Rattle.rules.specs.DagPoint.{Valid, Entry, IndirectEntry, entry_id, is_dropped, PointView, point_view, DepView}
use Rattle.rules.specs.Validate.{Findings, nothing, dependency_trail, record_of, join, dependency, Taken, as_dependency, as_prev_point, taken, findings_as}
use Rattle.rules.specs.Validate.{entry_findings, indirect_findings, result_with, over_lists}
use Rattle.rules.proofs.Joins.{none-second}
use Rattle.rules.proofs.Folds.{direct_trail, direct_record, indirect_trail, indirect_record, lists_apart}
use Rattle.rules.specs.List.{Listed, is_in_order, list_from, directs, indirects}
use Rattle.judge_entries.proofs.Order.{in_order, in_order_lem, after-target}
use Rattle.point.specs.Code.{point_of, Reads}
use Rattle.point.specs.declared.info.PointInfo as code-info
use Rattle.judge_entries.specs.Code.{info_of}
use Rattle.judge_entries.specs.Entry.{entry_of}
use Rattle.judge_entries.specs.declared.entry.Entry as code-entry
use Rattle.judge_entries.specs.declared.entry.DagPoint.TheVariants as case-point
use Rattle.judge_valid.specs.Code.{QuickOf, GivesNoReason}
use Rattle.judge_valid.specs.declared.quick.Quick as code-quick
use Rattle.judge_step.specs.Code.{Judging, later_of, or_dropped, start, Gives, is_nothing, with_direct, with_indirect, direct_step, gives_all, indirect_step}
use Rattle.judge_step.specs.Code.{dependency_as, DirectGives, Quiet, direct_fold, target_step, indirect_fold, result_of}

-- ---- the last reason

later-none : (o : Option InvalidReason) → later_of None o ≡ o
later-none None = refl
later-none (Some r) = refl

-- of the code's values
pub later_told : (old new : Option code-reason.InvalidReason) → option_map reason_of (option_or new old) ≡ later_of (option_map reason_of old) (option_map reason_of new)
later_told old None = refl
later_told old (Some r) = refl

pub dropped_told : (old : Option code-reason.InvalidReason) → option_map reason_of (option_or old (Some case-reason.DependencyRoundDropped)) ≡ or_dropped (option_map reason_of old)
dropped_told None = refl
dropped_told (Some r) = refl

later_assoc : (a b d : Option InvalidReason) → later_of (later_of a b) d ≡ later_of a (later_of b d)
later_assoc a b None = refl
later_assoc a b (Some r) = refl

-- a list that isn't empty has a last reason, which replaces any
later_last : (l : List InvalidReason) (x : InvalidReason) (o : Option InvalidReason) → later_of o (last_of (x ∷ l)) ≡ last_of (x ∷ l)
unfolding last_of
later_last [] x o = refl
later_last (y ∷ l) x o = later_last l y o

some-last : (l : List InvalidReason) (x : InvalidReason) → is_some (last_of (x ∷ l)) ≡ true
unfolding last_of
some-last [] x = refl
some-last (y ∷ l) x = some-last l y

last-append : (a b : List InvalidReason) → last_of (a ++ b) ≡ later_of (last_of a) (last_of b)
unfolding last_of
last-append [] b = sym (later-none (last_of b))
last-append (x ∷ []) [] = refl
last-append (x ∷ []) (y ∷ l) = sym (later_last l y (Some x))
last-append (x ∷ y ∷ a) b = last-append (y ∷ a) b

-- whether a reason is set, once those of an entry are taken in
set-later : (t : List InvalidReason) (d : Option InvalidReason) → is_some (later_of d (last_of t)) ≡ (is_some d || not (is_empty t))
unfolding last_of
set-later [] None = refl
set-later [] (Some r) = refl
set-later (x ∷ l) None = ap is_some (later_last l x None) ∙ some-last l x
set-later (x ∷ l) (Some r) = ap is_some (later_last l x (Some r)) ∙ some-last l x

-- ---- the lists, entry by entry

-- what judging has found
record HasFound (d i : Option InvalidReason) (w : Option InvalidDependency) (j : Judging) : Type 0 where
  pub direct : j.direct ≡ d
  pub indirect : j.indirect ≡ i
  pub recorded : j.recorded ≡ w

abbrev judging : Option InvalidReason → Option InvalidReason → Option InvalidDependency → Bool → Judging
judging d i w ended = record { direct = d; indirect = i; recorded = w; ended = ended }

-- a dropped entry sets its reason only if none is set
dropped-last : (d : Option InvalidReason) → or_dropped d ≡ later_of d (last_of (when (not (is_some d)) DependencyRoundDropped))
unfolding last_of
dropped-last None = refl
dropped-last (Some r) = refl

-- the reasons of an entry before those after it, which go by whether one is set
later-after : (t : List InvalidReason) (d : Option InvalidReason) (after : Bool → List InvalidReason) →
    later_of (later_of d (last_of t)) (last_of (after (is_some (later_of d (last_of t))))) ≡ later_of d (last_of (t ++ after (is_some d || not (is_empty t))))
later-after t d after =
    ap (λ (b : Bool). later_of (later_of d (last_of t)) (last_of (after b))) (set-later t d)
    ∙ later_assoc d (last_of t) (last_of (after (is_some d || not (is_empty t))))
    ∙ ap (later_of d) (sym (last-append t (after (is_some d || not (is_empty t)))))

module _ (c : Settings) (required : Bool) (p : PointView) where
  -- after a dropped entry nothing is found, nor recorded
  ended-stays : (es : List Entry) (d i : Option InvalidReason) (w : Option InvalidDependency) →
      direct_fold c required p (judging d i w true) es ≡ judging d i w true
  unfolding direct_fold direct_step
  ended-stays [] d i w = refl
  ended-stays (e ∷ l) d i w = ended-stays l d i w

  -- one more entry, dropped or not, that gives the reasons t
  one_more : (b : Bool) (l : List Entry) (t : List InvalidReason) (after : Bool → List InvalidReason) (d i : Option InvalidReason) (w joined all : Option InvalidDependency) →
      HasFound (later_of (later_of d (last_of t)) (last_of (after (is_some (later_of d (last_of t)))))) i all (direct_fold c required p (judging (later_of d (last_of t)) i joined false) l) →
      HasFound
      (later_of d (last_of (pick b (when (not (is_some d)) DependencyRoundDropped) (t ++ after (is_some d || not (is_empty t))))))
      i
      (pick b w all)
      (direct_fold c required p (pick b (judging (or_dropped d) i w true) (judging (later_of d (last_of t)) i joined false)) l)
  one_more true l t after d i w joined all f =
      let e = ended-stays l (or_dropped d) i w in
      record {
        direct = ap (λ (j : Judging). j.direct) e ∙ dropped-last d;
        indirect = ap (λ (j : Judging). j.indirect) e;
        recorded = ap (λ (j : Judging). j.recorded) e;
      }
  one_more false l t after d i w joined all f =
      record { direct = f.direct ∙ later-after t d after; indirect = f.indirect; recorded = f.recorded }

  directs-judged : (es : List Entry) (d i : Option InvalidReason) (w : Option InvalidDependency) →
      HasFound (later_of d (last_of (direct_trail c required p (is_some d) es))) i (direct_record c required p w es) (direct_fold c required p (judging d i w false) es)
  unfolding direct_fold direct_step direct_trail direct_record last_of
  directs-judged [] d i w = record { direct = refl; indirect = refl; recorded = refl }
  directs-judged (e ∷ l) d i w =
      one_more
      (is_dropped e.state)
      l
      (entry_findings c required p e).trail
      (λ (set : Bool). direct_trail c required p set l)
      d
      i
      w
      (join w (entry_findings c required p e).root)
      (direct_record c required p (join w (entry_findings c required p e).root) l)
      (directs-judged l (later_of d (last_of (entry_findings c required p e).trail)) i (join w (entry_findings c required p e).root))

module _ (c : Settings) (p : PointInfo) where
  indirects-judged : (ts : List IndirectEntry) (j : Judging) →
      HasFound j.direct (later_of j.indirect (last_of (indirect_trail c p ts))) (indirect_record c p j.recorded ts) (indirect_fold c p j ts)
  unfolding indirect_fold indirect_step indirect_trail indirect_record indirect_findings point_view last_of
  indirects-judged [] j = record { direct = refl; indirect = refl; recorded = refl }
  indirects-judged (a ∷ l) j =
      let t = (indirect_findings c p a).trail in
      let f = indirects-judged l (target_step c p a.role j a.entry) in
      record {
        direct = f.direct;
        indirect =
            f.indirect
            ∙ later_assoc j.indirect (last_of t) (last_of (indirect_trail c p l))
            ∙ ap (later_of j.indirect) (sym (last-append t (indirect_trail c p l)));
        recorded = f.recorded;
      }

result-found : (d i : Option InvalidReason) (w : Option InvalidDependency) (j : Judging) → HasFound d i w j → result_of j ≡ result_with (later_of i d) w
result-found d i w j f = rw (f.direct, f.indirect, f.recorded)

first-of-both : (a b : List InvalidReason) → later_of (last_of b) (last_of a) ≡ last_of (pick (is_empty a) b a)
unfolding last_of
first-of-both [] b = refl
first-of-both (x ∷ l) b = later_last l x (last_of b)

module _ (c : Settings) (required : Bool) (p : PointInfo) where
  -- the direct entries one by one, then the indirect ones
  pub fold_over-lists : (es : List Entry) (ts : List IndirectEntry) →
      result_of (indirect_fold c p (direct_fold c required (point_view p) start es) ts) ≡ over_lists c required p es ts
  fold_over-lists es ts =
      let dt = direct_trail c required (point_view p) false es in
      let it = indirect_trail c p ts in
      let w = indirect_record c p (direct_record c required (point_view p) None es) ts in
      let j = direct_fold c required (point_view p) start es in
      let f = directs-judged c required (point_view p) es None None None in
      let g = indirects-judged c p ts j in
      result-found
      (last_of dt)
      (last_of it)
      w
      (indirect_fold c p j ts)
      (record {
        direct = g.direct ∙ (f.direct ∙ later-none (last_of dt));
        indirect = g.indirect ∙ (ap (λ (o : Option InvalidReason). later_of o (last_of it)) f.indirect ∙ later-none (last_of it));
        recorded = g.recorded ∙ ap (λ (o : Option InvalidDependency). indirect_record c p o ts) f.recorded;
      })
      ∙ ap (λ (o : Option InvalidReason). result_with o w) (first-of-both dt it)
      ∙ sym (lists_apart c p ts required es)

-- ---- what an entry gives

pub last-nothing : record { reason = None; root = None; dropped = false } ≡ gives_all nothing
unfolding last_of
last-nothing = refl

-- what a dependency gives, by its parts
pub all_found : (c : Settings) (round : ℕ) (t : Through) (rows : DepView → List (List InvalidReason)) (e : Entry) (reason : Option InvalidReason) (root : Option InvalidDependency) →
    reason ≡ last_of (dependency_trail rows e.state) → root ≡ record_of c round e.certified t e.state →
    record { reason = reason; root = root; dropped = false } ≡ gives_all (dependency c round t rows e)
unfolding dependency
all_found c round t rows e reason root h g = rw (h, g)

-- an entry that gives nothing changes nothing
pub nothing-direct : (j : Judging) (g : Gives) → is_nothing g ≡ true → with_direct j g ≡ j
nothing-direct j g h = go j.ended g.dropped g.reason g.root refl h
  where
    go : (ended dropped : Bool) (reason : Option InvalidReason) (root : Option InvalidDependency) → j.ended ≡ ended →
        is_nothing (record { reason = reason; root = root; dropped = dropped }) ≡ true →
        pick ended j
        (pick dropped
        (record { direct = or_dropped j.direct; indirect = j.indirect; recorded = j.recorded; ended = true })
        (record { direct = later_of j.direct reason; indirect = j.indirect; recorded = join j.recorded root; ended = false }))
        ≡ j
    go true dropped reason root e k = refl
    go false true reason root e k = clash false k refl
    go false false (Some r) root e k = clash false k refl
    go false false None (Some d) e k = clash false k refl
    go false false None None e k =
        λ i. record { direct = j.direct; indirect = j.indirect; recorded = none-second j.recorded i; ended = sym e i }

-- an indirect entry that gives neither reason nor root changes nothing, dropped or not: the flag isn't asked
pub dropped-indirect : (j : Judging) → j ≡ with_indirect j (record { reason = None; root = None; dropped = true })
dropped-indirect j = λ i. record { direct = j.direct; indirect = j.indirect; recorded = sym (none-second j.recorded) i; ended = j.ended }

pub nothing-indirect : (j : Judging) (g : Gives) → is_nothing g ≡ true → with_indirect j g ≡ j
nothing-indirect j g h = go g.dropped g.reason g.root h
  where
    go : (dropped : Bool) (reason : Option InvalidReason) (root : Option InvalidDependency) →
        is_nothing (record { reason = reason; root = root; dropped = dropped }) ≡ true →
        record { direct = j.direct; indirect = later_of j.indirect reason; recorded = join j.recorded root; ended = j.ended } ≡ j
    go true reason root k = clash false k refl
    go false (Some r) root k = clash false k refl
    go false None (Some d) k = clash false k refl
    go false None None k = sym (dropped-indirect j)

module _ (c : Settings) (required : Bool) (p : PointView) (e : Entry) where
  -- an entry by how it is taken
  pub found_as : (how : Taken) (i : PointId) → how ≡ taken p i → i ≡ entry_id e.state → findings_as c required p how e ≡ entry_findings c required p e
  unfolding entry_findings
  found_as how i h g = ap (λ (w : Taken). findings_as c required p w e) (h ∙ ap (taken p) g)

  as_dependency_lem : (is_prev_point : Bool) → findings_as c required p (pick is_prev_point as_prev_point as_dependency) e ≡ dependency_as c required is_prev_point p e
  as_dependency_lem true = refl
  as_dependency_lem false = refl

  pub found-dependency : (is_prev_point : Bool) (i : PointId) → pick is_prev_point as_prev_point as_dependency ≡ taken p i → i ≡ entry_id e.state →
      dependency_as c required is_prev_point p e ≡ entry_findings c required p e
  found-dependency is_prev_point i h g = sym (as_dependency_lem is_prev_point) ∙ found_as (pick is_prev_point as_prev_point as_dependency) i h g

  -- one that is dropped, and any other
  pub gives-dropped : (reason : Option InvalidReason) (root : Option InvalidDependency) → is_dropped e.state ≡ true →
      DirectGives c required p e (record { reason = reason; root = root; dropped = true })
  unfolding direct_step
  gives-dropped reason root h j = rw h

  pub gives_found : (f : Findings) (g : Gives) → is_dropped e.state ≡ false → f ≡ entry_findings c required p e → g ≡ gives_all f → DirectGives c required p e g
  unfolding direct_step
  gives_found f g h k m j = rw (m, k, h)

-- a valid entry that gives no reason
module _ (c : Settings) (required : Bool) (p : PointView) (q : PointInfo) (n : GivesNoReason c p q) (certified first : Bool) where
  abbrev quiet : Entry
  quiet = record { state = Valid q; certified = certified; first_valid = first }

  quiet-found : nothing ≡ entry_findings c required p quiet
  unfolding entry_findings taken dependency dependency_trail record_of
  quiet-found = rw (n.other, n.rows required)

  pub quiet_step : (j : Judging) → direct_step c required p j quiet ≡ j
  quiet_step j =
      let g : Gives = record { reason = None; root = None; dropped = false } in
      sym (gives_found c required p quiet nothing g refl quiet-found last-nothing j) ∙ nothing-direct j g refl

-- an entry that passed the quick test is valid, not the author's at the round before, and changes nothing
pub record Passed (c : Settings) (p : PointView) (e : code-entry.Entry) : Type 0 where
  pub info : code-info.PointInfo
  pub is-valid : e.state ≡ case-point.Valid info
  pub gives : GivesNoReason c p (point_of e.rec.now info)

pub passed : (c : Settings) (p : PointView) (q : code-quick.Quick) (e : code-entry.Entry) → QuickOf c p q → Quiet q e → Passed c p e
passed c p q e k g =
    let r : Reads e.rec.now g.0.0 = e.read g.0.0 (ap info_of g.0.1) in
    record { info = g.0.0; is-valid = g.0.1; gives = g.1 c p (point_of e.rec.now g.0.0) k r.read }

pub passed-step : (c : Settings) (required : Bool) (p : PointView) (e : code-entry.Entry) → Passed c p e → (j : Judging) →
    direct_step c required p j (entry_of e) ≡ j
passed-step c required p e k j = rw k.is-valid (quiet_step c required p (point_of e.rec.now k.info) k.gives e.certified e.first_valid j)

-- ---- a list as it stands

-- an entry is judged by what it is for
abbrev pub listed_step : Option AnchorStageRole → Settings → Bool → PointInfo → Judging → Entry → Judging
listed_step None c required p j e = direct_step c required (point_view p) j e
listed_step (Some g) c required p j e = target_step c p g j e

-- over a list as it stands, direct and indirect entries mixed
unfoldable pub listed_fold : Settings → Bool → PointInfo → Judging → List Listed → Judging
unfolding direct_step indirect_step point_view
listed_fold c required p j [] = j
listed_fold c required p j (x ∷ l) = listed_fold c required p (listed_step x.aim c required p j x.entry) l

module _ (c : Settings) (required : Bool) (p : PointInfo) where
  parted : (l : List Listed) (indirect_seen : Bool) (j : Judging) → in_order indirect_seen l ≡ true →
      listed_fold c required p j l ≡ indirect_fold c p (direct_fold c required (point_view p) j (directs l)) (indirects l)
  unfolding listed_fold in_order directs indirects direct_fold indirect_fold
  parted [] indirect_seen j h = refl
  parted (x ∷ l) indirect_seen j h = go x.aim (parted l) h
    where
      go : (aim : Option AnchorStageRole) →
          ((next : Bool) (k : Judging) → in_order next l ≡ true → listed_fold c required p k l ≡ indirect_fold c p (direct_fold c required (point_view p) k (directs l)) (indirects l)) →
          (is_in_order indirect_seen aim && in_order (is_some aim) l) ≡ true →
          listed_fold c required p (listed_step aim c required p j x.entry) l
          ≡ indirect_fold c p (direct_fold c required (point_view p) j (pick (is_some aim) (directs l) (x.entry ∷ directs l))) (unwrap_or (option_map (λ g. record { role = g; entry = x.entry } ∷ indirects l) aim) (indirects l))
      go None f k = f false (direct_step c required (point_view p) j x.entry) (and_right (is_in_order indirect_seen None) (in_order false l) k)
      go (Some g) f k =
          let ordered : in_order true l ≡ true = and_right (is_in_order indirect_seen (Some g)) (in_order true l) k in
          let e : directs l ≡ [] = after-target l ordered in
          rw e (rw e at (f true (target_step c p g j x.entry) ordered))

  -- entries one by one as they stand in a list that was read
  pub listed-parted : (n : ℕ) (indirect_seen : Bool) (s : List ℕ) (l : List Listed) (j : Judging) → list_from n indirect_seen s ≡ Some l →
      listed_fold c required p j l ≡ indirect_fold c p (direct_fold c required (point_view p) j (directs l)) (indirects l)
  listed-parted n indirect_seen s l j h = parted l indirect_seen j (in_order_lem n indirect_seen s l h)

  pub listed-over-lists : (n : ℕ) (indirect_seen : Bool) (s : List ℕ) (l : List Listed) → list_from n indirect_seen s ≡ Some l →
      result_of (listed_fold c required p start l) ≡ over_lists c required p (directs l) (indirects l)
  listed-over-lists n indirect_seen s l h =
      ap (λ (j : Judging). result_of j) (listed-parted n indirect_seen s l start h) ∙ fold_over-lists c required p (directs l) (indirects l)
