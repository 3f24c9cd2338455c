-- Laws: the walk over a list gives what the definitions say of its direct and indirect entries.
use Rattle.std.specs.Prelude.{Option, None, Some, option_map, unwrap_or, is_some}
use Prim.Native.Nat.{ℕ}
use mathlib.Core.Path.{◌≡◌, refl, ap, sym, ◌∙◌}
use mathlib.Core.Bool.{Bool, true, false, ◌||◌, or-false}
use mathlib.Core.List.{List, [], ◌∷◌}
use Rattle.base.specs.Base.{pick}
use Rattle.base.proofs.Option.{none-some}
use Rattle.base.proofs.Impossible.{impossible}
use Rattle.point.specs.Point.{PointInfo, prev_id}
use Rattle.point.specs.declared.data.AnchorStageRole.{AnchorStageRole}
use Rattle.point.specs.declared.data.AnchorStageRole.TheVariants.{Proof, Trigger}
use Rattle.schedule.specs.Settings.{Settings}
use Rattle.rules.specs.DagPoint.{Entry, point_view}
use Rattle.rules.specs.Validate.{over_lists}
use Rattle.rules.specs.List.{Listed, read_list, read_list_in, directs, indirects}
use Rattle.judge_step.specs.Code.{Judging, result_of}
use Rattle.judge_step.proofs.Laws.{listed_step, listed_fold, listed-over-lists}
use Rattle.rules.specs.Mismatch.{uncovers, any_uncovers, entries_in, uncovered}
use Rattle.judge_list.specs.Code.{Walk, Viewed, viewed, step_as, prev_in, walk_step, walk_fold, walk_with, walk_start, ListJudged, judged_with}
use Rattle.reasons.specs.Verdict.{Verdict}

-- ---- the previous point over the walk

prev_in_lem : (p : PointInfo) → prev_in (point_view p) ≡ prev_id p
unfolding point_view prev_id
prev_in_lem p = refl

-- an entry stands before the direct ones, or before the indirect ones
or_direct : (a u d i : Bool) → ((a || u) || (d || i)) ≡ (a || ((u || d) || i))
or_direct true u d i = refl
or_direct false true d i = refl
or_direct false false d i = refl

or_indirect : (a u d i : Bool) → ((a || u) || (d || i)) ≡ (a || (d || (u || i)))
or_indirect true u d i = refl
or_indirect false true true i = refl
or_indirect false true false i = refl
or_indirect false false d i = refl

module _ (c : Settings) (required : Bool) (v : Viewed) where
  walk-uncovered : (l : List Listed) (w : Walk) →
      (walk_fold c required v w l).uncovered ≡ (w.uncovered || uncovered (prev_in v.view) (directs l) (indirects l))
  unfolding walk_fold walk_step uncovered any_uncovers entries_in directs indirects
  walk-uncovered [] w = sym (or-false w.uncovered)
  walk-uncovered (x ∷ l) w = walk-uncovered l (walk_step c required v w x) ∙ go x.aim
    where
      go : (aim : Option AnchorStageRole) →
          ((w.uncovered || uncovers (prev_in v.view) x.entry) || uncovered (prev_in v.view) (directs l) (indirects l))
          ≡ (w.uncovered || uncovered (prev_in v.view) (pick (is_some aim) (directs l) (x.entry ∷ directs l)) (unwrap_or (option_map (λ g. record { role = g; entry = x.entry } ∷ indirects l) aim) (indirects l)))
      go None =
          or_direct
          w.uncovered
          (uncovers (prev_in v.view) x.entry)
          (any_uncovers (prev_in v.view) (directs l))
          (any_uncovers (prev_in v.view) (entries_in (indirects l)))
      go (Some g) =
          or_indirect
          w.uncovered
          (uncovers (prev_in v.view) x.entry)
          (any_uncovers (prev_in v.view) (directs l))
          (any_uncovers (prev_in v.view) (entries_in (indirects l)))

-- ---- judging over the walk

module _ (c : Settings) (required : Bool) (p : PointInfo) where
  step-listed : (aim : Option AnchorStageRole) (j : Judging) (e : Entry) → step_as aim c required (viewed p) j e ≡ listed_step aim c required p j e
  unfolding viewed
  step-listed None j e = refl
  step-listed (Some Proof) j e = refl
  step-listed (Some Trigger) j e = refl

  walk-judging : (l : List Listed) (w : Walk) → (walk_fold c required (viewed p) w l).judging ≡ listed_fold c required p w.judging l
  unfolding walk_fold walk_step listed_fold
  walk-judging [] w = refl
  walk-judging (x ∷ l) w =
      walk-judging l (walk_step c required (viewed p) w x)
      ∙ ap (λ (j : Judging). listed_fold c required p j l) (step-listed x.aim w.judging x.entry)

  -- over a list that was read
  walked-result : (s : List ℕ) (l : List Listed) → read_list s ≡ Some l →
      result_of (walk_fold c required (viewed p) walk_start l).judging ≡ over_lists c required p (directs l) (indirects l)
  unfolding read_list_in
  walked-result s l h =
      ap result_of (walk-judging l walk_start) ∙ listed-over-lists c required p 65535 false s l h

  walked-uncovered : (l : List Listed) → (walk_fold c required (viewed p) walk_start l).uncovered ≡ uncovered (prev_id p) (directs l) (indirects l)
  unfolding viewed
  walked-uncovered l =
      walk-uncovered c required (viewed p) l walk_start
      ∙ ap (λ o. uncovered o (directs l) (indirects l)) (prev_in_lem p)

  -- what the walk came to, over a list that could be read or not
  pub judged-unread : (o : Option (List Listed)) → None ≡ walk_with c required (viewed p) walk_start o → None ≡ judged_with c required p o
  judged-unread None h = refl
  judged-unread (Some l) h = none-some h

  pub judged-walked : (s : List ℕ) (o : Option (List Listed)) (w : Walk) (v : Verdict) → read_list s ≡ o → Some w ≡ walk_with c required (viewed p) walk_start o →
      v ≡ result_of w.judging → ◌≡◌ {A = Option ListJudged} (Some (record { verdict = v; uncovered = w.uncovered })) (judged_with c required p o)
  judged-walked s None w v r h e = impossible (cc)
  judged-walked s (Some l) w v r h e =
      let k : w ≡ walk_fold c required (viewed p) walk_start l = cc in
      rw (e, k, walked-result s l r, walked-uncovered l)
