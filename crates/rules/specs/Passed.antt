-- That no check gave a reason: every row of every entry is empty. The law `trail-all` in proofs/Passed.antt says this of a verdict
-- over lists that is Valid or TransInvalid.
use Rattle.std.specs.Prelude.{◌≡◌, Bool, true, false}
use mathlib.Core.List.{List, [], Memᴰ}
use Rattle.point.specs.declared.data.AnchorStageRole.{AnchorStageRole}
use Rattle.schedule.specs.Settings.{Settings}
use Rattle.reasons.specs.Invalid.{InvalidReason}
use Rattle.reasons.specs.Verdict as verdict
use Rattle.rules.specs.DagPoint.{DagPoint, Valid, TransInvalid, Invalid, IllFormed, NotFound, Dropped, dep_view, Entry, IndirectEntry, entry_id, is_dropped}
use Rattle.rules.specs.DagPoint.{PointView}
use Rattle.rules.specs.Validate.{point_rows, Taken, as_dependency, as_prev_point, as_version, aside, taken, version_trail, indirect_point_rows}

-- neither Valid nor TransInvalid
abbrev pub has_reason : verdict.Verdict → Bool
has_reason (verdict.Fail u) = true
has_reason (verdict.IllFormed r) = true
has_reason (verdict.Invalid r) = true
has_reason (verdict.TransInvalid d) = false
has_reason verdict.Valid = false

-- every row of a table is empty
abbrev pub AllEmpty : List (List InvalidReason) → Type 0
AllEmpty rows = (row : List InvalidReason) → Memᴰ row rows → row ≡ []

-- the rows of a dependency; one that is ill-formed or was not found has its reason in place of rows
abbrev pub RowsNone : Settings → Bool → Bool → PointView → DagPoint → Type 0
RowsNone c required is_prev_point p (Valid q) = AllEmpty (point_rows c required is_prev_point p (dep_view q))
RowsNone c required is_prev_point p (TransInvalid q root n) = AllEmpty (point_rows c required is_prev_point p (dep_view q))
RowsNone c required is_prev_point p (Invalid q n) = AllEmpty (point_rows c required is_prev_point p (dep_view q))
RowsNone c required is_prev_point p (IllFormed i n) = ⊥
RowsNone c required is_prev_point p (NotFound i) = ⊥
RowsNone c required is_prev_point p Dropped = Unit

-- the rows of a direct entry, by how it is taken; a version has one
abbrev pub EntryRowsNone : Settings → Bool → PointView → Taken → Entry → Type 0
EntryRowsNone c required p as_dependency e = RowsNone c required false p e.state
EntryRowsNone c required p as_prev_point e = RowsNone c required true p e.state
EntryRowsNone c required p as_version e = version_trail e e.state ≡ []
EntryRowsNone c required p aside e = Unit

-- the rows of an indirect entry; a dropped one is skipped
abbrev pub TargetRowsNone : Settings → AnchorStageRole → PointView → DagPoint → Type 0
TargetRowsNone c g p (Valid q) = AllEmpty (indirect_point_rows c g p (dep_view q))
TargetRowsNone c g p (TransInvalid q root n) = AllEmpty (indirect_point_rows c g p (dep_view q))
TargetRowsNone c g p (Invalid q n) = AllEmpty (indirect_point_rows c g p (dep_view q))
TargetRowsNone c g p (IllFormed i n) = ⊥
TargetRowsNone c g p (NotFound i) = ⊥
TargetRowsNone c g p Dropped = Unit

-- no direct entry is dropped, and every row of every entry is empty
pub record Passed (c : Settings) (required : Bool) (p : PointView) (es : List Entry) (ts : List IndirectEntry) : Type 0 where
  pub entries : (e : Entry) → Memᴰ e es → (is_dropped e.state ≡ false) × EntryRowsNone c required p (taken p (entry_id e.state)) e
  pub targets : (a : IndirectEntry) → Memᴰ a ts → TargetRowsNone c a.role p a.entry.state
