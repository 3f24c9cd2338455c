-- A point that is not invalid passed every check of every entry.
use Rattle.std.specs.Prelude.{Option, None, Some}
use Prim.Native.Nat.{ℕ}
use lib.Dec.{eqb}
use mathlib.Core.Path.{◌≡◌, refl, sym, ap, ◌∙◌, subst}
use mathlib.Core.Logic.{◌⊎◌, inl, inr}
use mathlib.Core.Bool.{Bool, true, false, not, ◌&&◌}
use mathlib.Core.List.Memᴰ
use mathlib.Core.List.{List, [], ◌∷◌, ◌++◌, Memᴰ}
use Rattle.base.specs.Base.{pick, when, concat, is_empty}
use Rattle.base.proofs.Lists.{append-none}
use Rattle.base.proofs.Tables.{last_none, AllNone}
use Rattle.base.proofs.Impossible.{impossible}
use Rattle.point.specs.Point.{PointInfo}
use Rattle.point.specs.declared.data.AnchorStageRole.{AnchorStageRole}
use Rattle.point.specs.declared.data.PointMap.TheVariants as map
use Rattle.schedule.specs.Settings.{Settings}
use Rattle.reasons.specs.Invalid.{InvalidReason, NoRoundInDag, DependencyRoundDropped, InvalidDependency}
use Rattle.reasons.specs.Verdict as verdict
use Rattle.rules.specs.DagPoint.{DagPoint, Valid, TransInvalid, Invalid, IllFormed, NotFound, Dropped, dep_view, Entry, IndirectEntry, entry_id, is_dropped, PointView, point_view}
use Rattle.rules.specs.Validate.{point_rows, Taken, as_dependency, as_prev_point, as_version, aside, taken, dependency_trail, dependency, findings_as, entry_findings, indirect_point_rows, indirect_findings, result_with, over_lists, validate}
use Rattle.rules.proofs.Folds.{direct_trail, indirect_trail, lists_apart}
use Rattle.rules.specs.Passed.{has_reason, AllEmpty, RowsNone, EntryRowsNone, TargetRowsNone, Passed}

-- ---- a point that is not invalid: no check of any entry gave a reason

-- each row of a table that gives no reason
all-empty : (rows : List (List InvalidReason)) → concat rows ≡ [] → AllEmpty rows
unfolding concat
all-empty [] h row m = absurd (Memᴰ.not-nil m)
all-empty (r ∷ l) h row m = go (append-none r (concat l) h) (all-empty l) (Memᴰ.cases_cons m)
  where
    go : (r ≡ []) × (concat l ≡ []) → (concat l ≡ [] → AllEmpty l) → (row ≡ r) ⊎ Memᴰ row l → row ≡ []
    go n f (inl q) = q ∙ n.0
    go n f (inr m') = f n.1 row m'

-- the same by position
pub by_position : (rows : List (List InvalidReason)) → AllEmpty rows → AllNone rows
by_position [] f = tt
by_position (r ∷ l) f = (f r (Memᴰ.head refl), by_position l (λ row m. f row (Memᴰ.tail m)))

module _ (c : Settings) (required : Bool) (p : PointView) where
  -- each direct entry
  pub entry-all : (es : List Entry) → direct_trail c required p false es ≡ [] → (e : Entry) → Memᴰ e es →
      (is_dropped e.state ≡ false) × ((entry_findings c required p e).trail ≡ [])
  unfolding direct_trail
  entry-all [] h e m = absurd (Memᴰ.not-nil m)
  entry-all (x ∷ l) h e m = go (is_dropped x.state) refl h (entry-all l) (Memᴰ.cases_cons m)
    where
      go : (b : Bool) → is_dropped x.state ≡ b →
          pick b (when true DependencyRoundDropped) ((entry_findings c required p x).trail ++ direct_trail c required p (not (is_empty (entry_findings c required p x).trail)) l) ≡ [] →
          (direct_trail c required p false l ≡ [] → (e : Entry) → Memᴰ e l → (is_dropped e.state ≡ false) × ((entry_findings c required p e).trail ≡ [])) →
          (e ≡ x) ⊎ Memᴰ e l →
          (is_dropped e.state ≡ false) × ((entry_findings c required p e).trail ≡ [])
      go true b k f o = impossible (cc)
      go false b k f (inl q) =
          let n = append-none (entry_findings c required p x).trail _ k in
          (ap (λ (y : Entry). is_dropped y.state) q ∙ b, ap (λ (y : Entry). (entry_findings c required p y).trail) q ∙ n.0)
      go false b k f (inr m') =
          let n = append-none (entry_findings c required p x).trail _ k in
          f (subst (λ (t : List InvalidReason). direct_trail c required p (not (is_empty t)) l ≡ []) n.0 n.1) e m'

module _ (c : Settings) (p : PointInfo) where
  -- each indirect entry
  target-all : (ts : List IndirectEntry) → indirect_trail c p ts ≡ [] → (a : IndirectEntry) → Memᴰ a ts → (indirect_findings c p a).trail ≡ []
  unfolding indirect_trail
  target-all [] h a m = absurd (Memᴰ.not-nil m)
  target-all (x ∷ l) h a m = go (append-none (indirect_findings c p x).trail (indirect_trail c p l) h) (target-all l) (Memᴰ.cases_cons m)
    where
      go : ((indirect_findings c p x).trail ≡ []) × (indirect_trail c p l ≡ []) →
          (indirect_trail c p l ≡ [] → (a : IndirectEntry) → Memᴰ a l → (indirect_findings c p a).trail ≡ []) →
          (a ≡ x) ⊎ Memᴰ a l →
          (indirect_findings c p a).trail ≡ []
      go n f (inl q) = ap (λ (y : IndirectEntry). (indirect_findings c p y).trail) q ∙ n.0
      go n f (inr m') = f n.1 a m'

rows_none : (c : Settings) (required is_prev_point : Bool) (p : PointView) (d : DagPoint) → dependency_trail (point_rows c required is_prev_point p) d ≡ [] → RowsNone c required is_prev_point p d
unfolding dependency_trail
rows_none c required is_prev_point p (Valid q) h = all-empty (point_rows c required is_prev_point p (dep_view q)) h
rows_none c required is_prev_point p (TransInvalid q root n) h = all-empty (point_rows c required is_prev_point p (dep_view q)) h
rows_none c required is_prev_point p (Invalid q n) h = all-empty (point_rows c required is_prev_point p (dep_view q)) h
rows_none c required is_prev_point p (IllFormed i n) h = impossible (cc)
rows_none c required is_prev_point p (NotFound i) h = impossible (cc)
rows_none c required is_prev_point p Dropped h = tt

target-rows-none : (c : Settings) (g : AnchorStageRole) (p : PointView) (d : DagPoint) → dependency_trail (indirect_point_rows c g p) d ≡ [] → TargetRowsNone c g p d
unfolding dependency_trail
target-rows-none c g p (Valid q) h = all-empty (indirect_point_rows c g p (dep_view q)) h
target-rows-none c g p (TransInvalid q root n) h = all-empty (indirect_point_rows c g p (dep_view q)) h
target-rows-none c g p (Invalid q n) h = all-empty (indirect_point_rows c g p (dep_view q)) h
target-rows-none c g p (IllFormed i n) h = impossible (cc)
target-rows-none c g p (NotFound i) h = impossible (cc)
target-rows-none c g p Dropped h = tt

entry-rows-none : (c : Settings) (required : Bool) (p : PointView) (how : Taken) (e : Entry) → (findings_as c required p how e).trail ≡ [] → EntryRowsNone c required p how e
unfolding dependency
entry-rows-none c required p as_dependency e h = rows_none c required false p e.state h
entry-rows-none c required p as_prev_point e h = rows_none c required true p e.state h
entry-rows-none c required p as_version e h = h
entry-rows-none c required p aside e h = tt

no_reason : (o : Option InvalidReason) (w : Option InvalidDependency) → has_reason (result_with o w) ≡ false → o ≡ None
no_reason None w h = refl
no_reason (Some r) w h = impossible (cc)

both-none : (a b : List InvalidReason) → pick (is_empty a) b a ≡ [] → (a ≡ []) × (b ≡ [])
both-none [] b h = (refl, h)
both-none (x ∷ a) b h = impossible (cc)

module _ (c : Settings) (required : Bool) (p : PointInfo) (es : List Entry) (ts : List IndirectEntry) where
  -- Valid or TransInvalid: neither list gave a reason
  pub lists-silent : has_reason (over_lists c required p es ts) ≡ false → (direct_trail c required (point_view p) false es ≡ []) × (indirect_trail c p ts ≡ [])
  lists-silent h =
      both-none (direct_trail c required (point_view p) false es) (indirect_trail c p ts)
      (last_none _ (no_reason _ _ (ap has_reason (sym (lists_apart c p ts required es)) ∙ h)))

  -- so every check passed for every entry
  pub trail-all : has_reason (over_lists c required p es ts) ≡ false → Passed c required (point_view p) es ts
  unfolding entry_findings indirect_findings dependency
  trail-all h =
      let n = lists-silent h in
      record {
        entries =
            λ e m.
            (let k = entry-all c required (point_view p) es n.0 e m in
            (k.0, entry-rows-none c required (point_view p) (taken (point_view p) (entry_id e.state)) e k.1));
        targets = λ a m. target-rows-none c a.role (point_view p) a.entry.state (target-all c p ts n.1 a m);
      }

  -- a reason of presence aside, the verdict is that over the lists
  pub validate-lists : (presence : ℕ) → has_reason (validate c required presence p es ts) ≡ false → validate c required presence p es ts ≡ over_lists c required p es ts
  unfolding validate
  validate-lists presence h = go (eqb presence 0) (eqb presence 1) (eqb presence 2 && not (is_empty p.witness)) h
    where
      go : (x y z : Bool) →
          has_reason
          (pick x (verdict.Invalid (NoRoundInDag map.Evidence))
          (pick y (verdict.Invalid (NoRoundInDag map.Includes)) (pick z (verdict.Invalid (NoRoundInDag map.Witness)) (over_lists c required p es ts))))
          ≡ false →
          pick x (verdict.Invalid (NoRoundInDag map.Evidence))
          (pick y (verdict.Invalid (NoRoundInDag map.Includes)) (pick z (verdict.Invalid (NoRoundInDag map.Witness)) (over_lists c required p es ts)))
          ≡ over_lists c required p es ts
      go true y z k = impossible (cc)
      go false true z k = impossible (cc)
      go false false true k = impossible (cc)
      go false false false k = refl

  pub validate-all : (presence : ℕ) → has_reason (validate c required presence p es ts) ≡ false → Passed c required (point_view p) es ts
  validate-all presence h = trail-all (ap has_reason (sym (validate-lists presence h)) ∙ h)
