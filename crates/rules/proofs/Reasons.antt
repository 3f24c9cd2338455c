-- What judging finds over entries that were read from bytes: its answer's numbers fit their bytes.
use Rattle.std.specs.Prelude.{Option, None, Some}
use Prim.Native.Nat.{ℕ, ◌^◌, ◌<◌}
use native.Mathlib.Omega.{arith}
use mathlib.Core.Bool.{Bool, true, false, not, ◌&&◌, ◌||◌}
use mathlib.Core.List.{List, [], ◌∷◌, ◌++◌}
use lib.Dec.{leb, eqb}
use Rattle.base.specs.Base.{pick, when, concat, last_of, is_empty}
use Rattle.base.proofs.Option.{IfSome}
use Rattle.point.specs.Point.{PointId, PointInfo, Sticky, sticky_anchors, through, anchor_link, is_anchor_proof, is_anchor_stage, same_id, no_point}
use Rattle.point.specs.declared.data.AnchorStageRole.{AnchorStageRole}
use Rattle.point.specs.declared.data.AnchorStageRole.TheVariants.{Proof, Trigger}
use Rattle.point.specs.declared.data.PointMap.{PointMap}
use Rattle.point.specs.declared.data.PointMap.TheVariants as map
use Rattle.schedule.specs.Settings.{Settings}
use Rattle.reasons.specs.Answer.{map_number, role_number, flag}
use Rattle.reasons.specs.Invalid.{NotTrigger, TerminalTriggerBeforeLastProof, TimeNotGreaterThanInPrevPoint, AnchorProofDoesntInheritAnchorTime}
use Rattle.reasons.specs.Invalid.{InvalidReason, NoRoundInDag, MustHaveReferencedPrevPoint, AnchorLink, AnchorLinkRole, AnchorLinkBadPath, DependencyRoundDropped, InvalidDependency, named, prev_seq_no, invalid_answer}
use Rattle.reasons.specs.Verdict as verdict
use Rattle.rules.specs.DagPoint.{DagPoint, Valid, TransInvalid, Invalid, IllFormed, NotFound, Dropped, Entry, IndirectEntry, entry_id, is_dropped, PointView, point_view, links_in, DepView, dep_view, top_in}
use Rattle.rules.specs.Validate.{not_trigger, ends_too_soon, Findings, Taken, as_dependency, as_prev_point, as_version, aside, taken, direct_through, version_trail, dependency_trail, is_newer, join, dependency, findings_as, entry_findings, indirect_row, indirect_point_rows, indirect_findings, result_with, over_lists, validate, proof_row, trigger_proof_row, time_row, newer_row, seq_no, sticky_row, reached_row, target_row, anchor_time_row, carried_row, source_row, anchor_rows, point_rows}
use Rattle.point.proofs.Fits.{IdFits, RoleFits, PointFits}
use Rattle.rules.proofs.All.{All, all-first_only, all_append, all-pick, all-when, all-concat, last-of-all}
use Rattle.rules.proofs.AnswerBytes.{AnswerFits}
use Rattle.rules.proofs.Decoded.{PrevFits, verdict_prev}
use Rattle.rules.specs.Force.{named_prev}
use Rattle.rules.specs.Answer.{verdict_answer}
use Rattle.rules.proofs.Folds.{direct_trail, direct_record, indirect_trail, indirect_record, lists_apart}
use Rattle.rules.proofs.Roots.{Recorded, Rooted, of-recorded, direct-recorded, link-peer}
use Rattle.rules.proofs.Faults.{none-fits, no_point-fits, flag-fits}

abbrev pub ReasonFits : InvalidReason → Type 0
ReasonFits r = AnswerFits (invalid_answer r) × PrevFits (named_prev r)

named-fits : (n : ℕ) (i : PointId) (m g a b : ℕ) → IdFits i → a < 256 ^ 4 → b < 256 ^ 4 → AnswerFits (named n i m g a b)
named-fits n i m g a b h x y = record { id = h; first = x; second = y; peer = none-fits 32 }

-- of a reason that names a point and no number
plain : (n : ℕ) (i : PointId) (m g : ℕ) → IdFits i → AnswerFits (named n i m g 0 0) × Unit {0}
plain n i m g h = (named-fits n i m g 0 0 h (none-fits 4) (none-fits 4), tt)

-- the previous seq_no
prev-fits : (o : Option Sticky) → IfSome (λ (k : Sticky). k.seq_no < 256) o → (prev_seq_no (seq_no o) < 256 ^ 4) × PrevFits (seq_no o)
prev-fits None h = (omega arith, tt)
prev-fits (Some k) h = (omega arith, omega arith)

module _ (c : Settings) (required : Bool) (p : PointView) (own : RoleFits p.role) (q : DepView) (i : IdFits q.id) (role : RoleFits q.role) where
  proof-fits : All ReasonFits (proof_row required p q)
  unfolding proof_row
  proof-fits =
      let trigger = when (not_trigger required p.role q.role) (NotTrigger q.id) in
      let terminal = when (ends_too_soon required p.role q.role) (TerminalTriggerBeforeLastProof q.id) in
      let time = when (leb p.time q.time) (TimeNotGreaterThanInPrevPoint q.id) in
      let anchor = when (is_anchor_proof p.role && not (eqb p.anchor_time q.time)) (AnchorProofDoesntInheritAnchorTime q.id) in
      let a : All ReasonFits trigger = search (all-when, plain) in
      let b : All ReasonFits terminal = search (all-when, plain) in
      let d : All ReasonFits time = search (all-when, plain) in
      let e : All ReasonFits anchor = search (all-when, plain) in
      let rows = trigger ∷ terminal ∷ time ∷ anchor ∷ [] in
      all-first_only ReasonFits (concat rows) (all-concat ReasonFits rows (a, (b, (d, (e, tt)))))

  trigger-fits : (is_target : Bool) → All ReasonFits (trigger_proof_row p q is_target)
  unfolding trigger_proof_row
  trigger-fits b =
      let mismatch : AnswerFits (named 17 q.id 255 255 (flag b) 0) × Unit {0} = (named-fits 17 q.id 255 255 (flag b) 0 i (flag-fits b) (none-fits 4), tt) in
      search (all-when, mismatch)

  time-fits : All ReasonFits (time_row c p q)
  unfolding time_row
  time-fits = search (all-when, plain)

  newer-fits : (g : AnchorStageRole) → All ReasonFits (newer_row g p q)
  unfolding newer_row
  newer-fits g = search (all-when, plain)

  sticky_fits : (o : Option Sticky) → IfSome (λ (k : Sticky). k.seq_no < 256) o → All ReasonFits (sticky_row c q o)
  unfolding sticky_row
  sticky_fits None h = tt
  sticky_fits (Some k) h =
      let w = prev-fits (sticky_anchors q.role) role in
      let bad : AnswerFits (named 16 q.id 255 255 k.seq_no (prev_seq_no (seq_no (sticky_anchors q.role)))) × PrevFits (seq_no (sticky_anchors q.role)) =
      (named-fits 16 q.id 255 255 k.seq_no _ i (omega arith) w.0, w.1) in
      search (all-when, bad)

  reached-fits : (g : AnchorStageRole) → All ReasonFits (reached_row c g p q)
  unfolding reached_row
  reached-fits Proof = sticky_fits (sticky_anchors p.role) own
  reached-fits Trigger = trigger-fits true

  target_fits : (g : AnchorStageRole) → All ReasonFits (target_row c g p q)
  unfolding target_row
  target_fits g =
      all-pick ReasonFits (same_id q.id (links_in g p).target) (pick (is_anchor_stage g q.role) (reached_row c g p q) (AnchorLink g q.id ∷ [])) []
      (all-pick ReasonFits (is_anchor_stage g q.role) (reached_row c g p q) (AnchorLink g q.id ∷ []) (reached-fits g) (plain 13 q.id 255 (role_number g) i, tt))
      tt

  anchor-time-fits : All ReasonFits (anchor_time_row p q)
  unfolding anchor_time_row
  anchor-time-fits = search (all-when, plain)

  carried-fits : (g : AnchorStageRole) → All ReasonFits (carried_row g p q)
  unfolding carried_row
  carried-fits Proof = anchor-time-fits
  carried-fits Trigger = search (all-pick, trigger-fits)

  source_fits : (g : AnchorStageRole) → All ReasonFits (source_row g p q)
  unfolding source_row
  source_fits g =
      let bad = when (not (same_id (top_in g q) (links_in g p).target)) (AnchorLinkBadPath g q.id) in
      let path : All ReasonFits bad = search (all-when, plain) in
      all-pick ReasonFits (same_id q.id (links_in g p).source) (bad ++ carried_row g p q) []
      (all_append ReasonFits bad (carried_row g p q) path (carried-fits g))
      tt

  anchor-fits : All ReasonFits (concat (anchor_rows c p q))
  unfolding anchor_rows
  anchor-fits =
      all-concat ReasonFits (anchor_rows c p q) (target_fits Proof, (target_fits Trigger, (source_fits Proof, (source_fits Trigger, tt))))

  point-rows_fit : (is_prev_point : Bool) → All ReasonFits (concat (point_rows c required is_prev_point p q))
  unfolding point_rows
  point-rows_fit b =
      all-concat ReasonFits (point_rows c required b p q)
      (all-pick ReasonFits b (proof_row required p q) [] proof-fits tt, (time-fits, (newer-fits Proof, (newer-fits Trigger, (anchor-fits, tt)))))

  indirect-rows_fit : (g : AnchorStageRole) → All ReasonFits (concat (indirect_point_rows c g p q))
  unfolding indirect_point_rows
  indirect-rows_fit g =
      all-concat ReasonFits (indirect_point_rows c g p q) (
        time-fits,
        (
          all-pick ReasonFits (is_anchor_stage g q.role) (indirect_row g p q) (AnchorLinkRole g q.id ∷ []) (go g) (plain 14 q.id 255 (role_number g) i, tt),
          tt,
        ),
      )
    where
      go : (g : AnchorStageRole) → All ReasonFits (indirect_row g p q)
      go Proof = anchor-time-fits
      go Trigger = trigger-fits true

-- ---- one entry

-- of what is known of a dependency: the numbers that a verdict can name
abbrev pub StateFits : DagPoint → Type 0
StateFits (Valid q) = PointFits q
StateFits (TransInvalid q root n) = PointFits q × IdFits root
StateFits (Invalid q n) = PointFits q
StateFits (IllFormed i n) = IdFits i × (n < 256)
StateFits (NotFound i) = IdFits i
StateFits Dropped = Unit

abbrev pub EntryFits : Entry → Type 0
EntryFits e = StateFits e.state

abbrev pub IndirectFits : IndirectEntry → Type 0
IndirectFits a = EntryFits a.entry

-- a table's rows, of every dependency
abbrev RowsFit : (DepView → List (List InvalidReason)) → Type 0
RowsFit rows = (q : DepView) → IdFits q.id → RoleFits q.role → All ReasonFits (concat (rows q))

dependency-fits : (rows : DepView → List (List InvalidReason)) → RowsFit rows → (d : DagPoint) → StateFits d → All ReasonFits (dependency_trail rows d)
unfolding dependency_trail dep_view
dependency-fits rows f (Valid q) h = f (dep_view q) h.id h.role
dependency-fits rows f (TransInvalid q root n) h = f (dep_view q) h.0.id h.0.role
dependency-fits rows f (Invalid q n) h = f (dep_view q) h.id h.role
dependency-fits rows f (IllFormed i n) h = ((named-fits 18 i 255 255 n 0 h.0 (omega (arith, h.1)) (none-fits 4), tt), tt)
dependency-fits rows f (NotFound i) h = (plain 19 i 255 255 h, tt)
dependency-fits rows f Dropped h = tt

version-fits : (e : Entry) (d : DagPoint) → StateFits d → All ReasonFits (version_trail e d)
version-fits e (Valid q) h = all-when ReasonFits e.first_valid (MustHaveReferencedPrevPoint q.id) (plain 9 q.id 255 255 h.id)
version-fits e (TransInvalid q root n) h = (plain 10 q.id 255 255 h.0.id, tt)
version-fits e (Invalid q n) h = (plain 10 q.id 255 255 h.id, tt)
version-fits e (IllFormed i n) h = (plain 10 i 255 255 h.0, tt)
version-fits e (NotFound i) h = all-when ReasonFits e.certified (MustHaveReferencedPrevPoint i) (plain 9 i 255 255 h)
version-fits e Dropped h = tt

-- a root cause fits "root id, root's reason, map and peer it came through"
abbrev RootFits : InvalidDependency → Type 0
RootFits d = Recorded (λ i n. IdFits i) d

state-rooted : (d : DagPoint) → StateFits d → Rooted (λ i n. IdFits i) d
state-rooted (Valid q) h = tt
state-rooted (TransInvalid q root n) h = (h.0.id.author, h.1)
state-rooted (Invalid q n) h = (h.id.author, h.id)
state-rooted (IllFormed i n) h = tt
state-rooted (NotFound i) h = tt
state-rooted Dropped h = tt

join-fits : (a b : Option InvalidDependency) → IfSome RootFits a → IfSome RootFits b → IfSome RootFits (join a b)
unfolding join
join-fits None b f g = g
join-fits (Some x) None f g = f
join-fits (Some x) (Some y) f g = go (is_newer x y)
  where
    go : (b : Bool) → IfSome RootFits (pick b (Some y) (Some x))
    go true = g
    go false = f

-- what one entry gives
abbrev FindingsFit : Findings → Type 0
FindingsFit x = All ReasonFits x.trail × IfSome RootFits x.root

module _ (c : Settings) (required : Bool) (p : PointView) (own : RoleFits p.role) where
  taken-fits : (is_prev_point : Bool) (e : Entry) → StateFits e.state →
      FindingsFit (dependency c p.id.round (direct_through p.id.round (entry_id e.state)) (point_rows c required is_prev_point p) e)
  unfolding dependency
  taken-fits b e h = (
    dependency-fits (point_rows c required b p) (λ q i r. point-rows_fit c required p own q i r b) e.state h,
    direct-recorded (λ i n. IdFits i) c p.id.round e.certified e.state (state-rooted e.state h),
  )

  entry-fits : (e : Entry) → StateFits e.state → FindingsFit (entry_findings c required p e)
  unfolding entry_findings
  entry-fits e h = go (taken p (entry_id e.state))
    where
      go : (t : Taken) → FindingsFit (findings_as c required p t e)
      go as_dependency = taken-fits false e h
      go as_prev_point = taken-fits true e h
      go as_version = (version-fits e e.state h, tt)
      go aside = (tt, tt)

  direct-trail-fits : (set : Bool) (es : List Entry) → All EntryFits es → All ReasonFits (direct_trail c required p set es)
  unfolding direct_trail
  direct-trail-fits set [] h = tt
  direct-trail-fits set (e ∷ l) h = go (is_dropped e.state) (direct-trail-fits (set || not (is_empty (entry_findings c required p e).trail)) l h.1)
    where
      go : (b : Bool) → All ReasonFits (direct_trail c required p (set || not (is_empty (entry_findings c required p e).trail)) l) →
          All ReasonFits
          (pick b (when (not set) DependencyRoundDropped)
          ((entry_findings c required p e).trail ++ direct_trail c required p (set || not (is_empty (entry_findings c required p e).trail)) l))
      go true r = all-when ReasonFits (not set) DependencyRoundDropped (plain 3 no_point 255 255 no_point-fits)
      go false r = all_append ReasonFits (entry_findings c required p e).trail _ (entry-fits e h.0).0 r

  direct_record_fits : (old : Option InvalidDependency) (es : List Entry) → IfSome RootFits old → All EntryFits es →
      IfSome RootFits (direct_record c required p old es)
  unfolding direct_record
  direct_record_fits old [] f h = f
  direct_record_fits old (e ∷ l) f h =
      go (is_dropped e.state)
      (direct_record_fits (join old (entry_findings c required p e).root) l (join-fits old (entry_findings c required p e).root f (entry-fits e h.0).1) h.1)
    where
      go : (b : Bool) → IfSome RootFits (direct_record c required p (join old (entry_findings c required p e).root) l) →
          IfSome RootFits (pick b old (direct_record c required p (join old (entry_findings c required p e).root) l))
      go true r = f
      go false r = r

module _ (c : Settings) (p : PointInfo) (f : PointFits p) where
  target_found : (a : IndirectEntry) → EntryFits a.entry → FindingsFit (indirect_findings c p a)
  unfolding indirect_findings dependency point_view
  target_found a h = (
    dependency-fits (indirect_point_rows c a.role (point_view p)) (λ q i r. indirect-rows_fit c true (point_view p) f.role q i r a.role) a.entry.state h,
    of-recorded (λ i n. IdFits i) c p.id.round a.entry.certified (through (anchor_link a.role p)) a.entry.state (link-peer p f a.role)
        (state-rooted a.entry.state h),
  )

  indirect-trail-fits : (ts : List IndirectEntry) → All IndirectFits ts → All ReasonFits (indirect_trail c p ts)
  unfolding indirect_trail
  indirect-trail-fits [] h = tt
  indirect-trail-fits (a ∷ l) h =
      all_append ReasonFits (indirect_findings c p a).trail (indirect_trail c p l) (target_found a h.0).0 (indirect-trail-fits l h.1)

  indirect_record_fits : (old : Option InvalidDependency) (ts : List IndirectEntry) → IfSome RootFits old → All IndirectFits ts →
      IfSome RootFits (indirect_record c p old ts)
  unfolding indirect_record
  indirect_record_fits old [] g h = g
  indirect_record_fits old (a ∷ l) g h =
      indirect_record_fits (join old (indirect_findings c p a).root) l (join-fits old (indirect_findings c p a).root g (target_found a h.0).1) h.1

-- ---- verdicts

-- what the numbers of a verdict must be for its bytes to tell it
abbrev pub VerdictFits : verdict.Verdict → Type 0
VerdictFits v = AnswerFits (verdict_answer v) × PrevFits (verdict_prev v)

pub valid-fits : VerdictFits verdict.Valid
valid-fits = (record { id = no_point-fits; first = none-fits 4; second = none-fits 4; peer = none-fits 32 }, tt)

result_fits : (o : Option InvalidReason) (d : Option InvalidDependency) → IfSome ReasonFits o → IfSome RootFits d → VerdictFits (result_with o d)
result_fits (Some r) d f g = f
result_fits None (Some d) f g = (record { id = g.root; first = none-fits 4; second = none-fits 4; peer = g.through }, tt)
result_fits None None f g = valid-fits

module _ (c : Settings) (required : Bool) (p : PointInfo) (f : PointFits p) (es : List Entry) (ts : List IndirectEntry) (g : All EntryFits es) (h : All IndirectFits ts) where
  lists_fit : VerdictFits (over_lists c required p es ts)
  unfolding point_view
  lists_fit =
      let direct = direct_trail c required (point_view p) false es in
      let trail = pick (is_empty direct) (indirect_trail c p ts) direct in
      let old = direct_record c required (point_view p) None es in
      rw (lists_apart c p ts required es)
      (result_fits (last_of trail) (indirect_record c p old ts)
      (last-of-all ReasonFits trail
      (all-pick ReasonFits (is_empty direct) (indirect_trail c p ts) direct (indirect-trail-fits c p f ts h) (direct-trail-fits c required (point_view p) f.role false es g)))
      (indirect_record_fits c p f old ts (direct_record_fits c required (point_view p) f.role None es tt g) h))

  pub validate-fits : (presence : ℕ) → VerdictFits (validate c required presence p es ts)
  unfolding validate
  validate-fits presence = go (eqb presence 0) (eqb presence 1) (eqb presence 2 && not (is_empty p.witness))
    where
      no_round : (m : PointMap) → ReasonFits (NoRoundInDag m)
      no_round m = plain 2 no_point (map_number m) 255 no_point-fits

      go : (x y z : Bool) →
          VerdictFits
          (pick x (verdict.Invalid (NoRoundInDag map.Evidence))
          (pick y (verdict.Invalid (NoRoundInDag map.Includes)) (pick z (verdict.Invalid (NoRoundInDag map.Witness)) (over_lists c required p es ts))))
      go true y z = no_round map.Evidence
      go false true z = no_round map.Includes
      go false false true = no_round map.Witness
      go false false false = lists_fit
