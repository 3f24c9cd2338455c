-- Laws of verification: which faults tell of unknown peers, and the first fault of a point.
use Rattle.std.specs.Prelude.{Option, None, Some, option_map, Err, Ok, Result}
use Rattle.std.specs.Option.{option_or}
use Rattle.std.specs.Result.{result_err}
use Prim.Native.Nat.{ℕ}
use mathlib.Core.Path.{◌≡◌, refl, sym, ◌∙◌}
use mathlib.Core.Bool.{Bool, true, false, not, ◌&&◌, ◌||◌, and-true, or-true, or-false}
use mathlib.Core.List.{List, [], ◌∷◌, ◌++◌}
use lib.Dec.{ltb, eqb}
use borrow.Author.Tests.{not-true}
use Rattle.base.specs.Base.{pick, when, concat, first_of}
use Rattle.base.proofs.Bool.{and_left, and_right}
use Rattle.base.proofs.Firsts.{three_rows}
use Rattle.point.specs.Point.{PointInfo, Sticky}
use Rattle.point.specs.Said.{said, PointRead}
use Rattle.point.specs.declared.info.Point as code-point
use Rattle.point.proofs.Said.{said_read}
use Rattle.schedule.specs.Settings.{Settings, read_settings}
use Rattle.schedule.specs.Schedule.{Schedule}
use Rattle.schedule.specs.Code.{settings_of}
use Rattle.schedule.specs.PeerSchedule.{peer_schedule_of, ScheduleRead}
use Rattle.schedule.specs.declared.settings.Settings as code-settings
use Rattle.schedule.specs.declared.peer_schedule.PeerSchedule as code-schedule
use Rattle.schedule.proofs.Said.{schedule_read}
use Rattle.reasons.specs.IllFormed.{error_answer}
use Rattle.reasons.specs.declared.ill_formed.StructureIssue.{StructureIssue}
use Rattle.reasons.specs.declared.ill_formed.VerifyError.{VerifyError}
use Rattle.rules.specs.Verify.{Scheduled, scheduled, verify, faults, vset_row, new_rows, structure, genesis_rows, sticky_fault, above_rows, well_formed_rows, peer_rows, buffer_with}
use Rattle.rules.specs.Judge.{tested_with, tested, tested_in, verified_from}

-- ---- faults that tell of no unknown peers

-- whether a fault tells of unknown peers
abbrev tells_of : Option VerifyError → Bool
tells_of None = false
tells_of (Some e) = eqb (error_answer e).reason 12

-- one that doesn't leaves the buffer as it was
buffer_kept : (k : Scheduled) (p : PointInfo) (e : Option VerifyError) (old : List ℕ) → tells_of e ≡ false → buffer_with k p e old ≡ old
buffer_kept k p None old h = refl
buffer_kept k p (Some e) old h = rw h

-- whether no fault of a list, or of a table, tells of unknown peers
unfoldable silent : List VerifyError → Bool
silent [] = true
silent (x ∷ l) = not (tells_of (Some x)) && silent l

unfoldable all_silent : List (List VerifyError) → Bool
unfolding silent
all_silent [] = true
all_silent (r ∷ l) = silent r && all_silent l

silent-append : (a b : List VerifyError) → silent a ≡ true → silent b ≡ true → silent (a ++ b) ≡ true
unfolding silent
silent-append [] b s t = t
silent-append (x ∷ a) b s t =
    rw (and_left (not (tells_of (Some x))) (silent a) s) (silent-append a b (and_right (not (tells_of (Some x))) (silent a) s) t)

silent-concat : (l : List (List VerifyError)) → all_silent l ≡ true → silent (concat l) ≡ true
unfolding concat silent all_silent
silent-concat [] s = refl
silent-concat (r ∷ l) s = silent-append r (concat l) (and_left (silent r) (all_silent l) s) (silent-concat l (and_right (silent r) (all_silent l) s))

silent-first : (l : List VerifyError) → silent l ≡ true → tells_of (first_of l) ≡ false
unfolding first_of silent
silent-first [] s = refl
silent-first (x ∷ l) s = not-true (tells_of (Some x)) (and_left (not (tells_of (Some x))) (silent l) s)

silent_iff : (b : Bool) (x : VerifyError) → silent (when b x) ≡ (not (tells_of (Some x)) || not b)
unfolding silent
silent_iff false x = sym (or-true (not (tells_of (Some x))))
silent_iff true x = let b = not (tells_of (Some x)) in and-true b ∙ sym (or-false b)

silent-pick : (b : Bool) (x y : List VerifyError) → silent (pick b x y) ≡ pick b (silent x) (silent y)
silent-pick true x y = refl
silent-pick false x y = refl

all-pick : (b : Bool) (x y : List (List VerifyError)) → all_silent (pick b x y) ≡ pick b (all_silent x) (all_silent y)
all-pick true x y = refl
all-pick false x y = refl

pick-both : (b : Bool) → pick b true true ≡ true
pick-both true = refl
pick-both false = refl

silent-structure : (o : Option StructureIssue) → silent (structure o) ≡ true
unfolding silent
silent-structure None = refl
silent-structure (Some i) = refl

silent_sticky : (c : Settings) (o : Option Sticky) → silent (sticky_fault c o) ≡ true
unfolding silent sticky_fault
silent_sticky c None = refl
silent_sticky c (Some k) = simp (silent-pick, silent_iff) (pick-both (ltb c.sticky_anchors k.seq_no))

-- the first of such rows leaves the buffer as it was
quiet : (k : Scheduled) (p : PointInfo) (rows : List (List VerifyError)) (old : List ℕ) → all_silent rows ≡ true → buffer_with k p (first_of (concat rows)) old ≡ old
quiet k p rows old s = buffer_kept k p (first_of (concat rows)) old (silent-first (concat rows) (silent-concat rows s))

module _ (c : Settings) (p : PointInfo) where
  silent-genesis : all_silent (genesis_rows c p) ≡ true
  unfolding all_silent genesis_rows
  silent-genesis = simp (silent_iff, silent-structure)

  silent-above : all_silent (above_rows c p) ≡ true
  unfolding all_silent above_rows
  silent-above = simp (silent_iff, silent-structure, silent_sticky)

  silent_well_formed : all_silent (well_formed_rows c p) ≡ true
  unfolding well_formed_rows
  silent_well_formed = rw (all-pick, silent-genesis, silent-above) (pick-both (eqb p.id.round c.genesis_round))

  pub quiet_well_formed : (k : Scheduled) (old : List ℕ) → buffer_with k p (first_of (concat (well_formed_rows c p))) old ≡ old
  quiet_well_formed k old = quiet k p (well_formed_rows c p) old silent_well_formed

module _ (c : Settings) (s : Schedule) (p : PointInfo) where
  silent-new : all_silent (new_rows c s p) ≡ true
  unfolding all_silent new_rows vset_row
  silent-new = simp silent_iff

  pub quiet_new : (k : Scheduled) (old : List ℕ) → buffer_with k p (first_of (concat (new_rows c s p))) old ≡ old
  quiet_new k old = quiet k p (new_rows c s p) old silent-new

  -- the first fault is that of `new`, else of the form, else of the peers
  pub verify_first : verify c s p ≡
      option_or (first_of (concat (new_rows c s p))) (option_or (first_of (concat (well_formed_rows c p))) (first_of (concat (peer_rows c (scheduled c s p) p))))
  unfolding verify faults
  verify_first = three_rows (concat (new_rows c s p)) (concat (well_formed_rows c p)) (concat (peer_rows c (scheduled c s p) p))

pub ruleset verify_facts = (verify_first, quiet_new, quiet_well_formed)

-- ---- the call's answer, from the first fault

pub verified_back : (r : Result Unit VerifyError) → verified_from (result_err r) ≡ r
verified_back (Ok tt) = refl
verified_back (Err e) = refl

-- ---- what the three readers leave of the numbers' tests

module _ (o : Option code-settings.Settings) (r : Option code-schedule.PeerSchedule) (q : Option code-point.Point) where
  pub read_all : (c : code-settings.Settings) (k : code-schedule.PeerSchedule) (p : code-point.Point) (settings schedule rec : List ℕ) (others : Bool) (size : ℕ) →
      option_map settings_of o ≡ read_settings settings → o ≡ Some c → ScheduleRead schedule r → r ≡ Some k → PointRead rec q → q ≡ Some p →
      tested settings schedule rec others size ≡ tested_with (Some (settings_of c)) (Some (peer_schedule_of k)) (Some (said p)) others size
  unfolding tested_in
  read_all c k p settings schedule rec others size t d u e v f =
      rw (sym t, schedule_read schedule r u, said_read rec q v, d, e, f) refl
