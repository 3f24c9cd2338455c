-- Laws of what was looked up: an entry that was read at a place is the one that stands there.
use Rattle.std.specs.Prelude.{is_some, option_map, None, Some}
use Prim.Native.Nat.{ℕ, ◌+◌, ◌<◌}
use native.Mathlib.Omega.{arith}
use mathlib.Core.Path.{◌≡◌, ap, sym, ◌∙◌}
use mathlib.Core.Bool.{Bool, false}
use mathlib.Core.List.{List}
use lib.ListN.{length, drop, length-drop}
use Rattle.judge_valid.specs.Code.{point_view_of}
use Rattle.point.specs.Point.{PointId, Through, AnchorLink, Indirect, PointInfo, prev_id, anchor_link}
use Rattle.point.specs.declared.data.AnchorStageRole.{AnchorStageRole}
use Rattle.schedule.specs.Settings.{Settings}
use Rattle.rules.specs.DagPoint.{NotFound, PointView, point_view}
use Rattle.judge_step.specs.Code.{Judging, direct_step, indirect_step, indirect_fold}
use Rattle.judge_valid.specs.declared.view.PointView as code_view
use Rattle.rules.specs.Mismatch.{is_version, is_id}
use Rattle.judge_list.specs.Code.{prev_in}
use Rattle.id_index.specs.Code.{count_of, place_in, FoundAt, IsIndex}
use Rattle.id_index.specs.declared.Index as code-index
use Rattle.judge_entries.specs.Entry.{entry_of}
use Rattle.judge_entries.specs.declared.entry.Entry as code-entry
use Rattle.books.specs.Kept.{Kept, Book}
use Rattle.books.specs.Lists.{lookup, target_entry}
use Rattle.base.proofs.Option.{some-injective}
use Rattle.books.specs.Layout.{KeptFront, kept_front}
use Rattle.book_layout.specs.Code.{kept_of, KeptAt, shown}
use Rattle.book_layout.specs.declared.read.Kept as code-kept
use Rattle.book_judge.specs.Entries.{Entries}
use Rattle.book_judge.specs.Code.{Asked, looked_of, Looks, RecordAt}
use Rattle.book_read.specs.Code.{Holds}
use Rattle.book_read.proofs.Laws.{standing, found-kept, absent-kept}
use Rattle.book_judge.proofs.Laws.{looked_kept, looked_absent, step_looked, indirect-judged}

-- an entry that was read at a place is the book's that stands there
pub same-kept : (s : List ℕ) (k : code-kept.Kept) → KeptAt s k → (x : Kept) (size : ℕ) → kept_front s ≡ Some (record { kept = x; size = size }) → kept_of k ≡ x
same-kept s k h x size e = ap (λ (y : KeptFront). y.kept) (some-injective _ _ (sym h.front ∙ e))

-- its record stands where it begins
pub record_at : {s : List ℕ} {x : code-index.Index} {j : ℕ} → IsIndex s x → j < count_of x → {k : code-kept.Kept} →
    KeptAt (drop (place_in x j) s) k → RecordAt s (place_in x j) k.point.rec.now
record_at {s} {x} {j} i lt h =
    record {
      kept = ap (option_map (λ (y : KeptFront). y.kept.bytes)) h.front;
      part = h.part;
      inside = omega (arith, h.inside, i.places j lt, length-drop (place_in x j) s);
    }

-- the entries of a book stand at the places of its index
pub held-entries : {s : List ℕ} {b : Book} {x : code-index.Index} → Holds s b x → IsIndex s x → Entries s x
held-entries {s} {b} {x} h i =
    record {
      index = i;
      fronts = λ j lt. let k = standing b j (omega (arith, h.placed.count)) in ap is_some (h.placed.fronts j k.0 k.1 k.2);
    }

-- ---- the entry of an id

prev_in_lem : (v : PointView) (q : PointInfo) (i : PointId) (prev : Bool) → v ≡ point_view q → prev ≡ is_id (prev_in v) i → prev ≡ is_id (prev_id q) i
unfolding point_view prev_id
prev_in_lem v q i prev e h = h ∙ ap (λ (o : _). is_id o i) (ap prev_in e)

module _ {s : List ℕ} {b : Book} {x : code-index.Index} {v : code_view.PointView} {q : PointInfo} (a : Asked s b x v q) (i : PointId) where
  pub looks_found : (j : ℕ) → FoundAt s x i (Some j) → (k : code-kept.Kept) → KeptAt (drop (place_in x j) s) k → shown (kept_of k) (lookup b q i).first_valid ≡ lookup b q i
  looks_found j f k l =
      let w = found-kept a.holds i j f in
      ap (λ y. shown y (lookup b q i).first_valid) (same-kept (drop (place_in x j) s) k l w.kept (length w.kept.bytes + 108) (a.holds.placed.fronts j w.kept w.rest w.there))
      ∙ looked_kept b q i w.kept w.found

  pub looks_absent : (prev : Bool) → prev ≡ is_id (prev_in (point_view_of v)) i → FoundAt s x i None →
      record { state = NotFound i; certified = prev; first_valid = (lookup b q i).first_valid } ≡ lookup b q i
  looks_absent prev c f =
      let e = looked_absent b q i (absent-kept a.holds i f) in
      rw (e, prev_in_lem (point_view_of v) q i prev a.view c)

-- ---- judging what was looked up

module _ (l : code-entry.Entry) (b : Book) (q : PointInfo) (i : PointId) (looks : Looks l (lookup b q i)) (c : Settings) (p : PointView) (v : p ≡ point_view q) (j x : Judging) where
  pub dependency-judged : (required : Bool) → is_version q i ≡ false → x ≡ direct_step c required p j (looked_of l false) → x ≡ direct_step c required p j (lookup b q i)
  dependency-judged required n h = step_looked c required p b q i j x (entry_of l).state l.certified v n looks h

  pub target-judged : (g : AnchorStageRole) (t : Through) (k : AnchorLink) → k ≡ Indirect i t → k ≡ anchor_link g q → ((first : Bool) → x ≡ indirect_step c p g t j (looked_of l first)) →
      x ≡ indirect_fold c q j (target_entry b q g k)
  target-judged g t k e a h = indirect-judged c p b q g i t j x (looked_of l (lookup b q i).first_valid) k v e a looks (h (lookup b q i).first_valid)
