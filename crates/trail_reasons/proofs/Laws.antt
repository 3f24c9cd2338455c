-- Laws: each rule gives one reason at most, so its last one is all that it gives; and what the rules give one after the other is what an
-- entry gives.
use Rattle.std.specs.Prelude.{Option, None, Some, option_map}
use Prim.Native.Nat.{ℕ, ◌≤◌}
use native.Mathlib.Omega.{arith}
use lib.ListN.{length}
use mathlib.Core.Path.{◌≡◌, refl, ap, ◌∙◌, subst}
use mathlib.Core.Bool.{Bool, true, false}
use mathlib.Core.List.{List, [], ◌∷◌, ◌++◌, append-nil, append_assoc}
use Rattle.base.specs.Base.{pick, when, concat, last_of}
use Rattle.base.proofs.Option.{some-none, none-some, some-injective}
use Rattle.point.specs.Point.{PointId, Sticky, sticky_anchors, is_anchor_stage}
use Rattle.point.specs.declared.data.AnchorStageRole.{AnchorStageRole}
use Rattle.point.specs.declared.data.AnchorStageRole.TheVariants.{Proof, Trigger}
use Rattle.reasons.specs.Code.{reason_of}
use Rattle.reasons.specs.Invalid.{InvalidReason, AnchorLinkRole}
use Rattle.reasons.specs.declared.invalid.InvalidReason as code
use Rattle.schedule.specs.Settings.{Settings}
use Rattle.rules.specs.DagPoint.{DagPoint, Valid, TransInvalid, Invalid, IllFormed, NotFound, Dropped, Entry, entry_id, PointView, DepView}
use Rattle.rules.specs.Validate.{proof_row, first_only, trigger_proof_row, time_row, newer_row, sticky_row, reached_row, target_row, anchor_time_row, carried_row}
use Rattle.rules.specs.Validate.{source_row, anchor_rows, point_rows, indirect_row, indirect_point_rows}
use Rattle.rules.specs.Validate.{dependency_trail, dependency, version_trail, Taken, as_prev_point, as_dependency, taken, findings_as, entry_findings}
use Rattle.judge_entries.specs.Code.{dag_point_of, info_of}
use Rattle.judge_entries.specs.declared.entry.DagPoint as code-point
use Rattle.judge_entries.specs.declared.entry.DagPoint.TheVariants as case-point
use Rattle.point.specs.Code.{point_of, Reads}
use Rattle.point.specs.declared.info.PointInfo as code-info
use Rattle.judge_entries.specs.Entry.{entry_of}
use Rattle.judge_entries.specs.declared.entry.Entry as code-entry
use Rattle.judge_reason.specs.Code.{entry_in}
use Rattle.judge_valid.specs.Code.{is_source, path_row, QuickOf, GivesNoReason}
use Rattle.judge_valid.specs.declared.quick.Quick as code-quick
use Rattle.rules.specs.Trail.{rows_at}
use Rattle.rules.specs.Force.{list_of}
use Rattle.rules.proofs.FewReasons.{few-when, few-pick, proof-few, inherited-few}
use Rattle.trail_rows.specs.Code.{Put}
use Rattle.trail_rows.proofs.Laws.{put_more}
use Rattle.trail_reasons.specs.Code.{prev_row, indirect_target_row, Passes}

-- ---- rows with one reason at most

-- its last is all that such a row gives
last-all : (l : List InvalidReason) → length l ≤ 1 → list_of (last_of l) ≡ l
unfolding last_of
last-all [] h = refl
last-all (x ∷ []) h = refl
last-all (x ∷ y ∷ l) h = absurd (omega arith)

pub prev-few : (required b : Bool) (p : PointView) (q : DepView) → length (prev_row required b p q) ≤ 1
prev-few required b p q = few-pick 1 b (proof_row required p q) [] (proof-few p q required) (omega arith)

pub path-few : (g : AnchorStageRole) (p : PointView) (q : DepView) → length (path_row g p q) ≤ 1
path-few g p q = few-when _ _

-- of an indirect link's target
pub target_role-few : (g : AnchorStageRole) (p : PointView) (q : DepView) → length (indirect_target_row g p q) ≤ 1
target_role-few g p q = few-pick 1 (is_anchor_stage g q.role) (indirect_row g p q) (AnchorLinkRole g q.id ∷ []) (inherited-few p q g) (omega arith)

-- ---- rules, one after the other

module _ (list entry : ℕ) where
  module _ (r : Option code.InvalidReason) (row : List InvalidReason) (h : option_map reason_of r ≡ last_of row) (f : length row ≤ 1)
      (mid new : List ℕ) (m k : ℕ) (g : Put mid m (rows_at list entry (list_of (option_map reason_of r))) new k) where
    -- the first rule
    pub put_rule : Put mid m (rows_at list entry row) new k
    put_rule = subst (λ (l : List InvalidReason). Put mid m (rows_at list entry l) new k) (ap list_of h ∙ last-all row f) g

    -- one after others
    pub put_next : (old : List ℕ) (n : ℕ) (a : List InvalidReason) → Put old n (rows_at list entry a) mid m → Put old n (rows_at list entry (a ++ row)) new k
    put_next old n a before = put_more list entry old mid new n m k a row before put_rule

-- the rules as they are asked are the rows of the definitions
pub source-is : (g : AnchorStageRole) (p : PointView) (q : DepView) → is_source g p q ≡ true → path_row g p q ++ carried_row g p q ≡ source_row g p q
unfolding source_row
source-is g p q h = rw h refl

pub source_none : (g : AnchorStageRole) (p : PointView) (q : DepView) → is_source g p q ≡ false → source_row g p q ≡ []
unfolding source_row
source_none g p q h = rw h refl

pub anchors-are : (c : Settings) (p : PointView) (q : DepView) →
    ((target_row c Proof p q ++ target_row c Trigger p q) ++ source_row Proof p q) ++ source_row Trigger p q ≡ concat (anchor_rows c p q)
unfolding concat anchor_rows
anchors-are c p q = simp (append_assoc, append-nil)

pub rows-are : (c : Settings) (required b : Bool) (p : PointView) (q : DepView) →
    (((prev_row required b p q ++ time_row c p q) ++ newer_row Proof p q) ++ newer_row Trigger p q) ++ concat (anchor_rows c p q)
    ≡ concat (point_rows c required b p q)
unfolding concat point_rows
rows-are c required b p q = simp (append_assoc, append-nil)

pub target-are : (c : Settings) (g : AnchorStageRole) (p : PointView) (q : DepView) →
    time_row c p q ++ indirect_target_row g p q ≡ concat (indirect_point_rows c g p q)
unfolding concat indirect_point_rows
target-are c g p q = simp (append-nil)

-- ---- entries without their points

-- a dependency whose point is not there
pub absent-few : (rows : DepView → List (List InvalidReason)) (s : List ℕ) (d : code-point.DagPoint) → info_of d ≡ None →
    length (dependency_trail rows (dag_point_of s d)) ≤ 1
unfolding dependency_trail
absent-few rows s (case-point.Valid i) h = some-none h
absent-few rows s (case-point.TransInvalid i root n) h = some-none h
absent-few rows s (case-point.Invalid i n) h = some-none h
absent-few rows s (case-point.IllFormed i n) h = omega arith
absent-few rows s (case-point.NotFound i) h = omega arith
absent-few rows s case-point.Dropped h = omega arith

-- a version of the author's point
pub version-few : (e : Entry) (d : DagPoint) → length (version_trail e d) ≤ 1
version-few e (Valid q) = few-when _ _
version-few e (TransInvalid q root n) = omega arith
version-few e (Invalid q n) = omega arith
version-few e (IllFormed i n) = omega arith
version-few e (NotFound i) = few-when _ _
version-few e Dropped = omega arith

-- ---- a direct entry, by how it is taken

module _ (c : Settings) (required : Bool) (p : PointView) (e : Entry) where
  pub taken_trail : (how : Taken) (i : PointId) → how ≡ taken p i → i ≡ entry_id e.state →
      (findings_as c required p how e).trail ≡ (entry_findings c required p e).trail
  unfolding entry_findings
  taken_trail how i h g = ap (λ (w : Taken). (findings_as c required p w e).trail) (h ∙ ap (taken p) g)

  pub dependency-trail : (is_prev_point : Bool) →
      dependency_trail (point_rows c required is_prev_point p) e.state ≡ (findings_as c required p (pick is_prev_point as_prev_point as_dependency) e).trail
  unfolding dependency
  dependency-trail true = refl
  dependency-trail false = refl

-- ---- a direct entry that the quick test passes

module _ (c : Settings) (required : Bool) (p : PointView) (s : List ℕ) (i : code-info.PointInfo) (n : GivesNoReason c p (point_of s i))
    (certified first : Bool) where
  none-of : (d : code-point.DagPoint) → info_of d ≡ Some i → (entry_findings c required p (entry_in s d certified first)).trail ≡ []
  unfolding entry_findings taken dependency dependency_trail
  none-of (case-point.Valid j) h = rw (some-injective j i h, n.other, n.rows required) refl
  none-of (case-point.TransInvalid j root k) h = rw (some-injective j i h, n.other, n.rows required) refl
  none-of (case-point.Invalid j k) h = rw (some-injective j i h, n.other, n.rows required) refl
  none-of (case-point.IllFormed j k) h = none-some h
  none-of (case-point.NotFound j) h = none-some h
  none-of case-point.Dropped h = none-some h

pub quick-none : (c : Settings) (required : Bool) (p : PointView) (q : code-quick.Quick) (e : code-entry.Entry) → QuickOf c p q → Passes q e →
    (entry_findings c required p (entry_of e)).trail ≡ []
quick-none c required p q e k g =
    let r : Reads e.rec.now g.0.0 = e.read g.0.0 g.0.1 in
    none-of c required p e.rec.now g.0.0 (g.1 c p (point_of e.rec.now g.0.0) k r.read) e.certified e.first_valid e.state g.0.1
