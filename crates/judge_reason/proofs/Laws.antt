-- Laws of dependencies whose points are there.
use Rattle.std.specs.Prelude.{Option, None, Some}
use Rattle.std.specs.Option.{MatchOption}
use Prim.Native.Nat.{ℕ}
use mathlib.Core.Path.{◌≡◌, ap, ◌∙◌, sym}
use mathlib.Core.List.{List}
use Rattle.base.specs.Base.{concat}
use Rattle.base.proofs.Option.{none-some}
use Rattle.point.specs.Code.{point_of}
use Rattle.point.specs.Said.{said}
use Rattle.point.specs.declared.info.PointInfo as code-info
use Rattle.point.specs.declared.info.Point as code-said
use Rattle.reasons.specs.Invalid.{InvalidReason}
use Rattle.rules.specs.DagPoint.{DepView, dep_view}
use Rattle.rules.specs.Validate.{dependency_trail}
use Rattle.judge_entries.specs.Code.{dag_point_of, info_of}
use Rattle.judge_entries.specs.Entry.{entry_of}
use Rattle.judge_entries.specs.declared.entry.DagPoint as code-point
use Rattle.judge_entries.specs.declared.entry.DagPoint.TheVariants as case-point
use Rattle.judge_entries.specs.declared.entry.Entry as code-entry

module _ (rows : DepView → List (List InvalidReason)) where
  -- a point that is there is checked against the rows
  checked : (s : List ℕ) (i : code-info.PointInfo) (d : code-point.DagPoint) → info_of d ≡ Some i →
      dependency_trail rows (dag_point_of s d) ≡ concat (rows (dep_view (point_of s i)))
  unfolding dependency_trail
  checked s i (case-point.Valid x) e = let f : x ≡ i = cc in rw f
  checked s i (case-point.TransInvalid x root n) e = let f : x ≡ i = cc in rw f
  checked s i (case-point.Invalid x n) e = let f : x ≡ i = cc in rw f
  checked s i (case-point.IllFormed x n) e = none-some e
  checked s i (case-point.NotFound x) e = none-some e
  checked s i case-point.Dropped e = none-some e

  -- the same of an entry and what its point is
  pub at_hand_lem : (e : code-entry.Entry) (o : Option code-said.Point) (p : code-said.Point) → o ≡ Some p →
      MatchOption o (info_of e.state ≡ None) (λ x. (info_of e.state ≡ Some x.info) × (x.rec.now ≡ e.rec.now)) →
      dependency_trail rows (entry_of e).state ≡ concat (rows (dep_view (said p)))
  at_hand_lem e o p h m =
      let k : (info_of e.state ≡ Some p.info) × (p.rec.now ≡ e.rec.now) = rw h at m in
      checked e.rec.now p.info e.state k.0 ∙ ap (λ (s : List ℕ). concat (rows (dep_view (point_of s p.info)))) (sym k.1)
