-- `kept_end` meets its contract: each part of an entry in turn, the record's by the places that the walk over it found.
use Rattle.std.specs.Prelude.{Some}
use Prim.Native.Nat.{ℕ}
use mathlib.Core.Path.{◌≡◌, refl, sym, ◌∙◌}
use mathlib.Core.Bool.{true}
use mathlib.Core.List.{List}
use lib.ListN.{take}
use lib.Seq.{length-take-le}
use Rattle.base.proofs.Option.{some_of, unfound}
use Rattle.record.specs.Record.{field_row, field_ok}
use Rattle.record.proofs.Laws.{end-within, front-shaped, front-places}
use Rattle.point.specs.Point.{PointInfo}
use Rattle.point.specs.Reading.{read_point}
use Rattle.book_layout.proofs.Laws.{front_endless, front-unread, front_tagless, tag-inside, front-entry}
use Rattle.book_layout.proofs.read.kept_end.Goals as goal
use Rattle.book_layout.proofs.read.kept_end.Goals.{Else-not-field_ok, Else-not-is_point, then-not-is_point-via-then-not-is_point, then-not-is_point-via-else-not-is_point+then-not-field_ok}

abbrev slice : Else-not-is_point → List ℕ
slice c = c.args.s.now

abbrev end : Else-not-is_point → ℕ
end c = c.in_ok-shape.shape.end

point : (c : Else-not-is_point) → (q : PointInfo) × (read_point (take (end c) (slice c)) ≡ Some q)
point c = some_of _ (sym c.is_point.ensures ∙ c.if-not-is_point.false)

tagged : (c : Else-not-field_ok) → field_ok (field_row 33 105 105) c.args.s.now c.in_ok-shape.shape.end ≡ true
tagged c = sym c.field_ok.ensures ∙ c.if-not-field_ok.false

pub returns-in_err-shape : goal.returns-in_err-shape
returns-in_err-shape c = rw c.from_residual.ensures (front_endless _ c.in_err-shape.ensures)

pub slice_bounds-fields-end : goal.slice_bounds-fields-end
slice_bounds-fields-end c = sym (length-take-le _ _ (end-within _ _ c.in_ok-shape.ensures.end))

pub invariant_of-fields : goal.invariant_of-fields
invariant_of-fields c =
    let x = c.in_ok-shape.ensures in
    record { shaped = front-shaped _ _ x.end; placed = front-places _ _ x.end _ x.at }

pub returns-then-not-is_point : goal.returns-then-not-is_point
returns-then-not-is_point c =
    let end = c.in_ok-shape.ensures.end in
    elim c.then-not-is_point.branch [
      | then-not-is_point-via-then-not-is_point w ↦ front-unread _ _ _ end refl (unfound _ (sym c.is_point.ensures ∙ w.if-not-is_point.true))
      | then-not-is_point-via-else-not-is_point+then-not-field_ok w ↦
          let q = some_of _ (sym c.is_point.ensures ∙ w.if-not-is_point.false) in
          front_tagless _ _ _ end refl q.0 q.1 (sym w.field_ok.ensures ∙ w.if-not-field_ok.true)
    ]

pub field_ok-requires : goal.field_ok-requires
field_ok-requires c = end-within _ _ c.in_ok-shape.ensures.end

pub tag_after-requires : goal.tag_after-requires
tag_after-requires c = tag-inside _ _ (sym c.field_ok.ensures ∙ c.if-not-field_ok.false)

pub returns : goal.returns
returns c =
    let q = point (goal.at.returns c).Else-not-is_point in
    rw c.then_some.ensures
    (front-entry _ _ _ c.in_ok-shape.ensures.end refl q.0 q.1 (tagged (goal.at.returns c).Else-not-field_ok) _ c.tag_after.ensures _ (sym (c.is_entry.ensures q.0 q.1)))
