-- The loops of check_valid and of check_indirect_links taken apart: their reasons without the root cause, and the root cause without
-- the reasons.
use Rattle.std.specs.Prelude.{Option, None}
use mathlib.Core.Path.{◌≡◌, refl, sym, ap, ◌∙◌}
use mathlib.Core.Bool.{Bool, true, false, not, ◌||◌, not-not}
use mathlib.Core.List.{List, [], ◌∷◌, ◌++◌, append-nil, append_assoc}
use Rattle.base.specs.Base.{pick, when, last_of, is_empty}
use Rattle.point.specs.Point.{PointInfo}
use Rattle.schedule.specs.Settings.{Settings}
use Rattle.reasons.specs.Invalid.{InvalidReason, DependencyRoundDropped, InvalidDependency}
use Rattle.reasons.specs.Verdict.{Verdict}
use Rattle.rules.specs.DagPoint.{Entry, IndirectEntry, is_dropped, PointView, point_view}
use Rattle.rules.specs.Validate.{Findings, nothing, joined, join, entry_findings, check_valid, indirect_findings, check_indirect_links, result_with, over_lists}

-- the reasons of the direct list; `set` says that one is set
unfoldable pub direct_trail : Settings → Bool → PointView → Bool → List Entry → List InvalidReason
unfolding entry_findings
direct_trail c required p set [] = []
direct_trail c required p set (e ∷ l) =
    pick (is_dropped e.state)
    (when (not set) DependencyRoundDropped)
    ((entry_findings c required p e).trail ++ direct_trail c required p (set || not (is_empty (entry_findings c required p e).trail)) l)

-- the root cause that it records, after an old one
unfoldable pub direct_record : Settings → Bool → PointView → Option InvalidDependency → List Entry → Option InvalidDependency
unfolding join entry_findings
direct_record c required p old [] = old
direct_record c required p old (e ∷ l) =
    pick (is_dropped e.state) old (direct_record c required p (join old (entry_findings c required p e).root) l)

unfoldable pub indirect_trail : Settings → PointInfo → List IndirectEntry → List InvalidReason
unfolding indirect_findings
indirect_trail c p [] = []
indirect_trail c p (a ∷ l) = (indirect_findings c p a).trail ++ indirect_trail c p l

unfoldable pub indirect_record : Settings → PointInfo → Option InvalidDependency → List IndirectEntry → Option InvalidDependency
unfolding join indirect_findings
indirect_record c p old [] = old
indirect_record c p old (a ∷ l) = indirect_record c p (join old (indirect_findings c p a).root) l

set-append : (a b : List InvalidReason) → not (is_empty (a ++ b)) ≡ (not (is_empty a) || not (is_empty b))
set-append [] b = refl
set-append (x ∷ a) b = refl

module _ (c : Settings) (required : Bool) (p : PointView) where
  -- the loop's reasons, after those that were set
  pub direct-trail : (es : List Entry) (old : Findings) →
      (check_valid c required p old es).trail ≡ old.trail ++ direct_trail c required p (not (is_empty old.trail)) es
  unfolding check_valid direct_trail
  direct-trail [] old = sym (append-nil old.trail)
  direct-trail (e ∷ l) old = go (is_dropped e.state) (direct-trail l (joined old (entry_findings c required p e)))
    where
      go : (b : Bool) →
          (check_valid c required p (joined old (entry_findings c required p e)) l).trail
          ≡ (old.trail ++ (entry_findings c required p e).trail) ++ direct_trail c required p (not (is_empty (old.trail ++ (entry_findings c required p e).trail))) l →
          (pick b
          (record { trail = old.trail ++ when (is_empty old.trail) DependencyRoundDropped; root = old.root })
          (check_valid c required p (joined old (entry_findings c required p e)) l)).trail
          ≡ old.trail
          ++ pick b
          (when (not (not (is_empty old.trail))) DependencyRoundDropped)
          ((entry_findings c required p e).trail ++ direct_trail c required p (not (is_empty old.trail) || not (is_empty (entry_findings c required p e).trail)) l)
      go true h = rw (not-not (is_empty old.trail))
      go false h =
          h
          ∙ ap
          (λ (set : Bool). (old.trail ++ (entry_findings c required p e).trail) ++ direct_trail c required p set l)
          (set-append old.trail (entry_findings c required p e).trail)
          ∙ append_assoc old.trail (entry_findings c required p e).trail _

  pub direct_record_lem : (es : List Entry) (old : Findings) → (check_valid c required p old es).root ≡ direct_record c required p old.root es
  unfolding check_valid direct_record
  direct_record_lem [] old = refl
  direct_record_lem (e ∷ l) old = go (is_dropped e.state) (direct_record_lem l (joined old (entry_findings c required p e)))
    where
      go : (b : Bool) →
          (check_valid c required p (joined old (entry_findings c required p e)) l).root ≡ direct_record c required p (join old.root (entry_findings c required p e).root) l →
          (pick b
          (record { trail = old.trail ++ when (is_empty old.trail) DependencyRoundDropped; root = old.root })
          (check_valid c required p (joined old (entry_findings c required p e)) l)).root
          ≡ pick b old.root (direct_record c required p (join old.root (entry_findings c required p e).root) l)
      go true h = refl
      go false h = h

module _ (c : Settings) (p : PointInfo) where
  pub indirect-trail : (ts : List IndirectEntry) (old : Findings) → (check_indirect_links c p old ts).trail ≡ old.trail ++ indirect_trail c p ts
  unfolding check_indirect_links indirect_trail
  indirect-trail [] old = sym (append-nil old.trail)
  indirect-trail (a ∷ l) old =
      indirect-trail l (joined old (indirect_findings c p a)) ∙ append_assoc old.trail (indirect_findings c p a).trail (indirect_trail c p l)

  pub indirect_record_lem : (ts : List IndirectEntry) (old : Findings) → (check_indirect_links c p old ts).root ≡ indirect_record c p old.root ts
  unfolding check_indirect_links indirect_record
  indirect_record_lem [] old = refl
  indirect_record_lem (a ∷ l) old = indirect_record_lem l (joined old (indirect_findings c p a))

-- where a reason is set, what is recorded is not asked
reason_wins : (x : InvalidReason) (l : List InvalidReason) (d e : Option InvalidDependency) → result_with (last_of (x ∷ l)) d ≡ result_with (last_of (x ∷ l)) e
unfolding last_of
reason_wins x [] d e = refl
reason_wins x (y ∷ l) d e = reason_wins y l d e

module _ (c : Settings) (p : PointInfo) (ts : List IndirectEntry) where
  -- the verdict on what the direct entries gave
  abbrev after : List InvalidReason → Option InvalidDependency → Verdict
  after t d =
      let direct : Findings = record { trail = t; root = d } in
      let all = pick (is_empty t) (check_indirect_links c p direct ts) direct in
      result_with (last_of all.trail) all.root

  after_apart : (t : List InvalidReason) (d : Option InvalidDependency) →
      after t d ≡ result_with (last_of (pick (is_empty t) (indirect_trail c p ts) t)) (indirect_record c p d ts)
  after_apart [] d = rw (indirect-trail c p ts (record { trail = []; root = d }), indirect_record_lem c p ts (record { trail = []; root = d }))
  after_apart (x ∷ l) d = reason_wins x l d (indirect_record c p d ts)

  module _ (required : Bool) (es : List Entry) where
    -- so the verdict over lists. Whether indirect entries record where the direct ones gave a reason makes no difference to it
    pub lists_apart : over_lists c required p es ts
        ≡ result_with
        (last_of (pick (is_empty (direct_trail c required (point_view p) false es)) (indirect_trail c p ts) (direct_trail c required (point_view p) false es)))
        (indirect_record c p (direct_record c required (point_view p) None es) ts)
    unfolding over_lists
    lists_apart =
        ap (λ (t : List InvalidReason). after t (check_valid c required (point_view p) nothing es).root) (direct-trail c required (point_view p) es nothing)
        ∙ ap (after (direct_trail c required (point_view p) false es)) (direct_record_lem c required (point_view p) es nothing)
        ∙ after_apart (direct_trail c required (point_view p) false es) (direct_record c required (point_view p) None es)
