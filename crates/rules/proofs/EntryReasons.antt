-- No entry gives the presence rule's reason, and the reasons of one that is not dropped name its point.
use Rattle.std.specs.Prelude.{Option, None, Some}
use lib.Dec.{leb, eqb}
use mathlib.Core.Path.{◌≡◌, refl}
use mathlib.Core.Bool.{Bool, true, false, not, ◌&&◌, ◌||◌}
use mathlib.Core.List.{List, [], ◌∷◌, ◌++◌}
use Rattle.base.specs.Base.{pick, when, concat, is_empty}
use Rattle.point.specs.Point.{PointId, PointInfo, Sticky, sticky_anchors, is_anchor_proof, is_anchor_stage, same_id}
use Rattle.point.specs.declared.data.AnchorStageRole.{AnchorStageRole}
use Rattle.point.specs.declared.data.AnchorStageRole.TheVariants.{Proof, Trigger}
use Rattle.schedule.specs.Settings.{Settings}
use Rattle.reasons.specs.Invalid.{InvalidReason, AnchorLink, AnchorLinkRole, AnchorLinkBadPath, DependencyRoundDropped, NotTrigger}
use Rattle.reasons.specs.Invalid.{TerminalTriggerBeforeLastProof, TimeNotGreaterThanInPrevPoint, AnchorProofDoesntInheritAnchorTime}
use Rattle.reasons.specs.Invalid.{invalid_number, invalid_answer}
use Rattle.rules.specs.DagPoint.{DagPoint, Valid, TransInvalid, Invalid, IllFormed, NotFound, Dropped, Entry, IndirectEntry, entry_id}
use Rattle.rules.specs.DagPoint.{is_dropped, PointView, point_view, links_in, DepView, dep_view, top_in}
use Rattle.rules.specs.Validate.{not_trigger, ends_too_soon, Taken, as_dependency, as_prev_point, as_version, aside, taken, version_trail}
use Rattle.rules.specs.Validate.{dependency_trail, dependency, findings_as, entry_findings, indirect_row, indirect_point_rows, indirect_findings}
use Rattle.rules.specs.Validate.{proof_row, trigger_proof_row, time_row, newer_row, sticky_row, reached_row, target_row, anchor_time_row}
use Rattle.rules.specs.Validate.{carried_row, source_row, anchor_rows, point_rows}
use Rattle.rules.proofs.All.{All, all-map, all-first_only, all_append, all-pick, all-when, all-concat}
use Rattle.rules.proofs.Folds.{direct_trail, indirect_trail}

-- another number than `NoRoundInDag`'s
abbrev pub OfEntry : InvalidReason → Type 0
OfEntry r = eqb (invalid_number r) 2 ≡ false

-- and the id of a point
abbrev pub OfPoint : PointId → InvalidReason → Type 0
OfPoint i r = OfEntry r × ((invalid_answer r).id ≡ i)

module _ (c : Settings) (required : Bool) (p : PointView) (q : DepView) where
  proof-of_entry : All (OfPoint q.id) (proof_row required p q)
  unfolding proof_row
  proof-of_entry =
      let trigger = when (not_trigger required p.role q.role) (NotTrigger q.id) in
      let terminal = when (ends_too_soon required p.role q.role) (TerminalTriggerBeforeLastProof q.id) in
      let time = when (leb p.time q.time) (TimeNotGreaterThanInPrevPoint q.id) in
      let anchor = when (is_anchor_proof p.role && not (eqb p.anchor_time q.time)) (AnchorProofDoesntInheritAnchorTime q.id) in
      let a : All (OfPoint q.id) trigger = all-when (OfPoint q.id) _ _ (refl, refl) in
      let b : All (OfPoint q.id) terminal = all-when (OfPoint q.id) _ _ (refl, refl) in
      let d : All (OfPoint q.id) time = all-when (OfPoint q.id) _ _ (refl, refl) in
      let e : All (OfPoint q.id) anchor = all-when (OfPoint q.id) _ _ (refl, refl) in
      let rows = trigger ∷ terminal ∷ time ∷ anchor ∷ [] in
      all-first_only (OfPoint q.id) (concat rows) (all-concat (OfPoint q.id) rows (a, (b, (d, (e, tt)))))

  time-of_entry : All (OfPoint q.id) (time_row c p q)
  unfolding time_row
  time-of_entry = all-when (OfPoint q.id) _ _ (refl, refl)

  newer-of_entry : (g : AnchorStageRole) → All (OfPoint q.id) (newer_row g p q)
  unfolding newer_row
  newer-of_entry g = all-when (OfPoint q.id) _ _ (refl, refl)

  trigger-of_entry : (is_target : Bool) → All (OfPoint q.id) (trigger_proof_row p q is_target)
  unfolding trigger_proof_row
  trigger-of_entry b = all-when (OfPoint q.id) _ _ (refl, refl)

  sticky-of_entry : (o : Option Sticky) → All (OfPoint q.id) (sticky_row c q o)
  unfolding sticky_row
  sticky-of_entry None = tt
  sticky-of_entry (Some k) = all-when (OfPoint q.id) _ _ (refl, refl)

  reached-of_entry : (g : AnchorStageRole) → All (OfPoint q.id) (reached_row c g p q)
  unfolding reached_row
  reached-of_entry Proof = sticky-of_entry (sticky_anchors p.role)
  reached-of_entry Trigger = trigger-of_entry true

  target-of_entry : (g : AnchorStageRole) → All (OfPoint q.id) (target_row c g p q)
  unfolding target_row
  target-of_entry g =
      all-pick (OfPoint q.id) (same_id q.id (links_in g p).target) (pick (is_anchor_stage g q.role) (reached_row c g p q) (AnchorLink g q.id ∷ [])) []
      (all-pick (OfPoint q.id) (is_anchor_stage g q.role) (reached_row c g p q) (AnchorLink g q.id ∷ []) (reached-of_entry g) ((refl, refl), tt))
      tt

  anchor-time-of_entry : All (OfPoint q.id) (anchor_time_row p q)
  unfolding anchor_time_row
  anchor-time-of_entry = all-when (OfPoint q.id) _ _ (refl, refl)

  carried-of_entry : (g : AnchorStageRole) → All (OfPoint q.id) (carried_row g p q)
  unfolding carried_row
  carried-of_entry Proof = anchor-time-of_entry
  carried-of_entry Trigger = search (all-pick, trigger-of_entry)

  source-of_entry : (g : AnchorStageRole) → All (OfPoint q.id) (source_row g p q)
  unfolding source_row
  source-of_entry g =
      let bad = when (not (same_id (top_in g q) (links_in g p).target)) (AnchorLinkBadPath g q.id) in
      let path : All (OfPoint q.id) bad = all-when (OfPoint q.id) _ _ (refl, refl) in
      all-pick (OfPoint q.id) (same_id q.id (links_in g p).source) (bad ++ carried_row g p q) []
      (all_append (OfPoint q.id) bad (carried_row g p q) path (carried-of_entry g))
      tt

  anchor-of_entry : All (OfPoint q.id) (concat (anchor_rows c p q))
  unfolding anchor_rows
  anchor-of_entry =
      all-concat (OfPoint q.id) (anchor_rows c p q)
      (target-of_entry Proof, (target-of_entry Trigger, (source-of_entry Proof, (source-of_entry Trigger, tt))))

  point-of_entry : (is_prev_point : Bool) → All (OfPoint q.id) (concat (point_rows c required is_prev_point p q))
  unfolding point_rows
  point-of_entry b =
      all-concat (OfPoint q.id) (point_rows c required b p q) (
        all-pick (OfPoint q.id) b (proof_row required p q) [] proof-of_entry tt,
        (time-of_entry, (newer-of_entry Proof, (newer-of_entry Trigger, (anchor-of_entry, tt)))),
      )

  indirect-of_entry : (g : AnchorStageRole) → All (OfPoint q.id) (concat (indirect_point_rows c g p q))
  unfolding indirect_point_rows
  indirect-of_entry g =
      all-concat (OfPoint q.id) (indirect_point_rows c g p q)
      (time-of_entry, (all-pick (OfPoint q.id) (is_anchor_stage g q.role) (indirect_row g p q) (AnchorLinkRole g q.id ∷ []) (go g) ((refl, refl), tt), tt))
    where
      go : (g : AnchorStageRole) → All (OfPoint q.id) (indirect_row g p q)
      go Proof = anchor-time-of_entry
      go Trigger = trigger-of_entry true

-- ---- one entry

state-of_entry : (rows : DepView → List (List InvalidReason)) → ((q : DepView) → All (OfPoint q.id) (concat (rows q))) →
    (d : DagPoint) → All (OfPoint (entry_id d)) (dependency_trail rows d)
unfolding dependency_trail
state-of_entry rows f (Valid q) = f (dep_view q)
state-of_entry rows f (TransInvalid q root n) = f (dep_view q)
state-of_entry rows f (Invalid q n) = f (dep_view q)
state-of_entry rows f (IllFormed i n) = ((refl, refl), tt)
state-of_entry rows f (NotFound i) = ((refl, refl), tt)
state-of_entry rows f Dropped = tt

version-of_entry : (e : Entry) (d : DagPoint) → All (OfPoint (entry_id d)) (version_trail e d)
version-of_entry e (Valid q) = all-when (OfPoint q.id) _ _ (refl, refl)
version-of_entry e (TransInvalid q root n) = ((refl, refl), tt)
version-of_entry e (Invalid q n) = ((refl, refl), tt)
version-of_entry e (IllFormed i n) = ((refl, refl), tt)
version-of_entry e (NotFound i) = all-when (OfPoint i) _ _ (refl, refl)
version-of_entry e Dropped = tt

module _ (c : Settings) (required : Bool) (p : PointView) where
  pub entry-of_entry : (e : Entry) → All (OfPoint (entry_id e.state)) (entry_findings c required p e).trail
  unfolding entry_findings dependency
  entry-of_entry e = go (taken p (entry_id e.state))
    where
      go : (t : Taken) → All (OfPoint (entry_id e.state)) (findings_as c required p t e).trail
      go as_dependency = state-of_entry (point_rows c required false p) (λ q. point-of_entry c required p q false) e.state
      go as_prev_point = state-of_entry (point_rows c required true p) (λ q. point-of_entry c required p q true) e.state
      go as_version = version-of_entry e e.state
      go aside = tt

  pub direct-of_entries : (set : Bool) (es : List Entry) → All OfEntry (direct_trail c required p set es)
  unfolding direct_trail
  direct-of_entries set [] = tt
  direct-of_entries set (e ∷ l) =
      let own = (entry_findings c required p e).trail in
      let rest = direct_trail c required p (set || not (is_empty own)) l in
      all-pick OfEntry (is_dropped e.state) (when (not set) DependencyRoundDropped) (own ++ rest)
      (all-when OfEntry (not set) DependencyRoundDropped refl)
      (all_append OfEntry own rest (all-map (OfPoint (entry_id e.state)) OfEntry own (λ r h. h.0) (entry-of_entry e)) (direct-of_entries (set || not (is_empty own)) l))

pub indirect-of_entries : (c : Settings) (p : PointInfo) (ts : List IndirectEntry) → All OfEntry (indirect_trail c p ts)
unfolding indirect_trail indirect_findings dependency
indirect-of_entries c p [] = tt
indirect-of_entries c p (a ∷ l) =
    all_append OfEntry (indirect_findings c p a).trail (indirect_trail c p l)
    (all-map (OfPoint (entry_id a.entry.state)) OfEntry (indirect_findings c p a).trail (λ r h. h.0)
    (state-of_entry (indirect_point_rows c a.role (point_view p)) (λ q. indirect-of_entry c true (point_view p) q a.role) a.entry.state))
    (indirect-of_entries c p l)
