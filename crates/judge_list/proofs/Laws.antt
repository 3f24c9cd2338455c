-- Laws of judging over a list: the previous point, and the walk.
use Rattle.std.specs.Prelude.{Option, None, Some, option_map, is_some}
use Rattle.std.specs.Option.{MatchOption}
use Prim.Native.Nat.{ℕ, zero, suc, ◌-◌, ◌<◌}
use mathlib.Core.Path.{◌≡◌, refl, ap, sym, ◌∙◌}
use mathlib.Core.Bool.{Bool, true, false, not, ◌||◌, and-true, and-false, or-false}
use mathlib.Core.List.{List, ◌∷◌}
use lib.ListN.{length, drop}
use lib.Dec.{eqb}
use borrow.Author.Tests.{eqb-true, eq-eqb, ne_eqb}
use Rattle.base.specs.Base.{and_then}
use Rattle.base.proofs.Bool.{never, clash, and_left, and_right, and_both}
use native.Mathlib.Omega.{arith}
use Rattle.parts.specs.Code.{number}
use Rattle.parts.specs.declared.Id.{Id}
use Rattle.point.specs.Point.{PointId, same_id, Through, through}
use Rattle.point.proofs.Ids.{same_fields}
use Rattle.rules.specs.DagPoint.{PointView, point_view, Entry, is_by}
use Rattle.rules.specs.Mismatch.{is_id, uncovers}
use Rattle.schedule.specs.Settings.{Settings}
use Rattle.rules.specs.List.{Listed, read_entry, is_in_order, list_from, list_from_in}
use Rattle.judge_step.specs.Code.{Judging, Gives, is_nothing, direct_step, DirectGives, IndirectGives}
use Rattle.judge_step.proofs.Laws.{nothing-direct, nothing-indirect, Passed, passed-step}
use Rattle.point.specs.Code.{point_id_of, link_in, point_of}
use Rattle.point.specs.declared.info.PointInfo as code-info
use Rattle.point.specs.declared.data.AnchorStageRole.{AnchorStageRole}
use Rattle.point.specs.declared.data.AnchorStageRole.TheVariants.{Proof, Trigger}
use Rattle.judge_valid.specs.Code.{point_view_of}
use Rattle.judge_valid.specs.declared.view.PointView as code_view
use Rattle.judge_entries.proofs.Order.{list_then}
use Rattle.judge_entries.specs.Entry.{entry_of, listed_of}
use Rattle.judge_entries.specs.declared.entry.Entry as code-entry
use Rattle.judge_entries.specs.declared.entry.Listed as code-listed
use Rattle.judge_list.specs.Code.{Walk, Viewed, viewed, step_as, prev_of, prev_in, walk_step, walk_fold, walk_with, viewed_of, with_listed, ListedGives}

-- ---- the previous point

pub prev-other : (i j : PointId) (o : Option ℕ) → is_by (i.round - 1) i.author j ≡ false → is_id (prev_of i o) j ≡ false
prev-other i j None h = refl
prev-other i j (Some d) h =
    never _ (λ t. let f = same_fields _ j t in clash _ (and_both _ _ (eq-eqb _ _ (sym f.0)) (eq-eqb _ _ (sym f.2))) h)

pub prev-digest : (i j : PointId) (d : ℕ) → is_by (i.round - 1) i.author j ≡ true → is_id (prev_of i (Some d)) j ≡ eqb d j.digest
unfolding same_id
prev-digest i j d h =
    let r = eqb-true j.round (i.round - 1) (and_left (eqb j.round (i.round - 1)) _ h) in
    let a = eqb-true j.author i.author (and_right (eqb j.round (i.round - 1)) _ h) in
    rw (eq-eqb (i.round - 1) j.round (sym r), eq-eqb i.author j.author (sym a), and-true (eqb d j.digest))

-- by the previous digest as the code has it, if it has one
pub prev-digested : (i j : PointId) (o : Option Id) (r : Bool) → is_by (i.round - 1) i.author j ≡ true →
    MatchOption o (r ≡ false) (λ d. r ≡ eqb (number d) j.digest) → r ≡ is_id (prev_of i (option_map number o)) j
prev-digested i j None r h e = e
prev-digested i j (Some d) r h e = e ∙ sym (prev-digest i j (number d) h)

-- an entry that passed the quick test doesn't leave the previous point uncovered
covers : {c : Settings} (p : PointView) (e : code-entry.Entry) → Passed c p e → uncovers (prev_in p) (entry_of e) ≡ false
unfolding uncovers
covers p e k = rw (k.is-valid, prev-other p.id (point_id_of k.info.id) p.prev_digest k.gives.other) (and-false (not e.certified))

nothing-listed : (target : Bool) (j : Judging) (g : Gives) → is_nothing g ≡ true → with_listed target j g ≡ j
nothing-listed true j g h = nothing-indirect j g h
nothing-listed false j g h = nothing-direct j g h

-- ---- the walk

module _ (c : Settings) (required : Bool) (p : Viewed) where
  -- what one entry makes of the walk, by its parts
  pub walked : (w : Walk) (x : Listed) (j : Judging) (u b : Bool) →
      j ≡ step_as x.aim c required p w.judging x.entry →
      u ≡ uncovers (prev_in p.view) x.entry →
      b ≡ (w.uncovered || u) →
      ◌≡◌ {A = Walk} (record { judging = j; uncovered = b }) (walk_step c required p w x)
  unfolding walk_step
  walked w x j u b e f g = rw (e, g, f)

  then_walked : (w : Walk) (x : Listed) (o : Option (List Listed)) →
      walk_with c required p w (option_map (λ l. x ∷ l) o) ≡ walk_with c required p (walk_step c required p w x) o
  unfolding walk_fold
  then_walked w x None = refl
  then_walked w x (Some l) = refl

  -- one turn
  turn : (w : Walk) (n : ℕ) (indirect_seen : Bool) (s : List ℕ) (o : Option Listed) → 0 < length s → read_entry s ≡ o →
      walk_with c required p w (list_from (suc n) indirect_seen s) ≡ walk_with c required p w (and_then o (list_then (list_from n) indirect_seen s))
  unfolding list_from_in
  turn w n indirect_seen s o h e = rw (ne_eqb (length s) 0 (λ k. omega arith), e)

  -- no entry may follow, or none does
  pub too_many : (w : Walk) (indirect_seen : Bool) (s : List ℕ) → 0 < length s → walk_with c required p w (list_from 0 indirect_seen s) ≡ None
  unfolding list_from_in
  too_many w indirect_seen s h = rw (ne_eqb (length s) 0 (λ e. omega arith))

  pub walk_end : (w : Walk) (n : ℕ) (indirect_seen : Bool) (s : List ℕ) → length s ≡ 0 → walk_with c required p w (list_from n indirect_seen s) ≡ Some w
  unfolding list_from_in walk_fold
  walk_end w zero indirect_seen s h = rw (eq-eqb (length s) 0 h)
  walk_end w (suc n) indirect_seen s h = rw (eq-eqb (length s) 0 h)

  -- a turn whose entry can't be read, one whose entry stands out of order, and one that goes on
  pub turn-unread : (w : Walk) (left : ℕ) (indirect_seen : Bool) (s : List ℕ) → 0 < length s → 0 < left → read_entry s ≡ None →
      walk_with c required p w (list_from left indirect_seen s) ≡ None
  turn-unread w (suc n) indirect_seen s h g e = turn w n indirect_seen s None h e
  turn-unread w zero indirect_seen s h g e = absurd (omega arith)

  pub turn_disordered : (w : Walk) (left : ℕ) (indirect_seen : Bool) (s : List ℕ) (x : Listed) → 0 < length s → 0 < left → read_entry s ≡ Some x →
      is_in_order indirect_seen x.aim ≡ false → walk_with c required p w (list_from left indirect_seen s) ≡ None
  turn_disordered w (suc n) indirect_seen s x h g e o = turn w n indirect_seen s (Some x) h e ∙ rw o
  turn_disordered w zero indirect_seen s x h g e o = absurd (omega arith)

  pub turn-read : (w : Walk) (left n : ℕ) (indirect_seen : Bool) (s : List ℕ) (x : Listed) → 0 < length s → left ≡ suc n → read_entry s ≡ Some x →
      is_in_order indirect_seen x.aim ≡ true →
      walk_with c required p w (list_from left indirect_seen s) ≡ walk_with c required p (walk_step c required p w x) (list_from n (is_some x.aim) (drop x.size s))
  turn-read w left n indirect_seen s x h g e o =
      rw g (turn w n indirect_seen s (Some x) h e ∙ rw o (then_walked w x (list_from n (is_some x.aim) (drop x.size s))))

  -- the walk over what is left, after an entry that was read
  pub goes_on : (w v : Walk) (left n : ℕ) (indirect_seen seen : Bool) (s t : List ℕ) (x : Listed) (all : Option Walk) → 0 < length s → left ≡ suc n →
      read_entry s ≡ Some x → is_in_order indirect_seen x.aim ≡ true → seen ≡ is_some x.aim → t ≡ drop x.size s → v ≡ walk_step c required p w x →
      walk_with c required p w (list_from left indirect_seen s) ≡ all →
      walk_with c required p v (list_from n seen t) ≡ all
  goes_on w v left n indirect_seen seen s t x all h g e o k m f inv = rw (k, m, f) (sym (turn-read w left n indirect_seen s x h g e o) ∙ inv)

-- a view that was read is the point's
pub viewed_by : (v : code_view.PointView) (i : code-info.PointInfo) (s : List ℕ) → point_view_of v ≡ point_view (point_of s i) →
    viewed_of v i ≡ viewed (point_of s i)
unfolding viewed
viewed_by v i s e = rw e

-- what an entry gives that is for a dependency or for an indirect link's target, after a dropped one or not
module _ (c : Settings) (required : Bool) (v : code_view.PointView) (i : code-info.PointInfo) (e : Entry) where
  pub after-dropped : (g : Gives) → ListedGives c required (viewed_of v i) true None e g
  unfolding direct_step
  after-dropped g j h = rw h

  pub directed : (ended : Bool) (g : Gives) → DirectGives c required (point_view_of v) e g → ListedGives c required (viewed_of v i) ended None e g
  directed ended g f j h = f j

  pub targeted : (r : AnchorStageRole) (ended : Bool) (t : Through) (g : Gives) → t ≡ through (link_in r i) → IndirectGives c (point_view_of v) r t e g →
      ListedGives c required (viewed_of v i) ended (Some r) e g
  targeted Proof ended t g k f j h = f j ∙ rw k
  targeted Trigger ended t g k f j h = f j ∙ rw k

-- ---- what one entry makes of the walk

module _ (c : Settings) (required : Bool) (p : Viewed) (w : Walk) where
  -- one that passed the quick test changes nothing
  pub walked-quiet : (x : code-listed.Listed) → x.aim ≡ None → Passed c p.view x.entry → w ≡ walk_step c required p w (listed_of x)
  walked-quiet x e k =
      walked c required p w (listed_of x) w.judging false w.uncovered
      (rw e (sym (passed-step c required p.view x.entry k w.judging)))
      (sym (covers p.view x.entry k))
      (sym (or-false w.uncovered))

  -- one that gives nothing, and any other
  pub walked-nothing : (x : Listed) (g : Gives) (u b : Bool) → ListedGives c required p w.judging.ended x.aim x.entry g → is_nothing g ≡ true →
      u ≡ uncovers (prev_in p.view) x.entry → b ≡ (w.uncovered || u) → ◌≡◌ {A = Walk} (record { judging = w.judging; uncovered = b }) (walk_step c required p w x)
  walked-nothing x g u b f n e k = walked c required p w x w.judging u b (sym (nothing-listed (is_some x.aim) w.judging g n) ∙ f w.judging refl) e k

  pub walked_giving : (x : Listed) (g : Gives) (seen u b : Bool) (j : Judging) → ListedGives c required p w.judging.ended x.aim x.entry g → seen ≡ is_some x.aim →
      j ≡ with_listed seen w.judging g →
      u ≡ uncovers (prev_in p.view) x.entry → b ≡ (w.uncovered || u) → ◌≡◌ {A = Walk} (record { judging = j; uncovered = b }) (walk_step c required p w x)
  walked_giving x g seen u b j f h m e k = walked c required p w x j u b (m ∙ (ap (λ (t : Bool). with_listed t w.judging g) h ∙ f w.judging refl)) e k
