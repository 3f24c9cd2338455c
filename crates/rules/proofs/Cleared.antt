-- Ticket U13's statement holds.
use Rattle.std.specs.Prelude.{Option, None, Some, Err, Ok, Result}
use Prim.Native.Nat.{ℕ}
use lib.Dec.{leb, eqb}
use mathlib.Core.Path.{◌≡◌, refl, sym, ap, ◌∙◌}
use mathlib.Core.Logic.{◌⊎◌, inl, inr}
use mathlib.Core.Bool.{Bool, true, false, not, ◌&&◌}
use mathlib.Core.List.{List, [], ◌++◌, Permᴰ}
use Rattle.base.specs.Base.{pick, concat}
use Rattle.base.proofs.Impossible.{impossible}
use Rattle.parts.specs.Limits.{peers_room}
use Rattle.point.specs.Point.{PointId, PointInfo, in_domain, prev_id}
use Rattle.schedule.specs.Settings.{Settings, read_settings}
use Rattle.schedule.specs.Schedule.{Schedule, read_schedule}
use Rattle.point.specs.Reading.{read_point}
use Rattle.reasons.specs.Invalid.{InvalidDependency}
use Rattle.reasons.specs.Verdict as verdict
use Rattle.reasons.specs.Verdict.{Verdict}
use Rattle.reasons.specs.declared.ill_formed.VerifyError.{VerifyError}
use Rattle.reasons.specs.declared.ill_formed.WaveChecked.{WaveChecked}
use Rattle.reasons.specs.declared.ill_formed.WaveChecked.TheVariants as case-wave
use Rattle.rules.specs.List.{Listed, read_list, directs, indirects}
use Rattle.rules.specs.Mismatch.{mismatch, uncovered}
use Rattle.rules.specs.Verify.{verify}
use Rattle.rules.specs.CheckIllFormed.{wave_checked}
use Rattle.rules.specs.Validate.{validate}
use Rattle.rules.specs.Judge.{Tested, refused, admitted, tested_with, tested_in, JudgeAnswer, Number, Given, Before, answered, needed, before_with, before, over_list, judge_from, flags_ok, judge_with, judge_with_in}
use Rattle.rules.specs.Told.{Call, OfBytes, judged}
use Rattle.rules.specs.AnyOrder.{IsEntry, Alike}
use Rattle.rules.specs.Clearing.{recording, recording_over, recording_from, recording_with, Clearing, NotWaiting, NoSingleMark, ClearedBy, by_one, clearing_of, tested_without}
use Rattle.rules.specs.Cleared.{roomy, clearing, Cleared}
use Rattle.rules.proofs.Perms.{members_all}
use Rattle.rules.proofs.Arranged.{Arranged, lists_arranged}
use Rattle.rules.proofs.AnyOrder.{judge_alike}
use Rattle.rules.proofs.Marks.{marks}
use Rattle.rules.proofs.Recording.{one_perm, one-all, one-or-none, recording_perm}
use Rattle.rules.proofs.ClearingBytes.{bytes-length, ResultFits, answer_told}
use Rattle.rules.proofs.Told.{told}
use Rattle.rules.proofs.Waiting.{Waiting, waiting, clears_is, valid_one, none_clears, recorded-fits}

-- ---- what is said of a call

waits-if : (a : JudgeAnswer) (l : List PointId) (y : Clearing) → clearing_of a l ≡ Ok y → (y ≡ NotWaiting → ⊥) → (d : InvalidDependency) × (a ≡ Given (verdict.TransInvalid d))
waits-if (Number n) l y h f = impossible (cc)
waits-if (Given (verdict.Fail u)) l y h f = absurd (f (let e : NotWaiting ≡ y = cc in sym e))
waits-if (Given (verdict.IllFormed r)) l y h f = absurd (f (let e : NotWaiting ≡ y = cc in sym e))
waits-if (Given (verdict.Invalid r)) l y h f = absurd (f (let e : NotWaiting ≡ y = cc in sym e))
waits-if (Given (verdict.TransInvalid d)) l y h f = (d, refl)
waits-if (Given verdict.Valid) l y h f = absurd (f (let e : NotWaiting ≡ y = cc in sym e))

other-kind : (v : Verdict) (l : List PointId) → ((d : InvalidDependency) → v ≡ verdict.TransInvalid d → ⊥) → clearing_of (Given v) l ≡ Ok NotWaiting
other-kind (verdict.Fail u) l f = refl
other-kind (verdict.IllFormed r) l f = refl
other-kind (verdict.Invalid r) l f = refl
other-kind (verdict.TransInvalid d) l f = absurd (f d refl)
other-kind verdict.Valid l f = refl

number-only : (a : JudgeAnswer) (l : List PointId) (n : ℕ) → clearing_of a l ≡ Err n → a ≡ Number n
number-only (Number m) l n h = let e : m ≡ n = cc in ap Number e
number-only (Given (verdict.Fail u)) l n h = impossible (cc)
number-only (Given (verdict.IllFormed r)) l n h = impossible (cc)
number-only (Given (verdict.Invalid r)) l n h = impossible (cc)
number-only (Given (verdict.TransInvalid d)) l n h = impossible (cc)
number-only (Given verdict.Valid) l n h = impossible (cc)

alike_clearing : (a b : JudgeAnswer) (l m : List PointId) → Alike a b → by_one l ≡ by_one m → clearing_of a l ≡ clearing_of b m
alike_clearing (Number n) b l m h e = rw h refl
alike_clearing (Given (verdict.Fail u)) b l m h e = rw h refl
alike_clearing (Given (verdict.IllFormed r)) b l m h e = rw h refl
alike_clearing (Given (verdict.Invalid r)) b l m h e = rw h.1 refl
alike_clearing (Given (verdict.TransInvalid d)) b l m h e = rw h.1 (ap Ok e)
alike_clearing (Given verdict.Valid) b l m h e = rw h refl

-- number 5 is of a peer buffer
not-five_tested : (o : Option Settings) (q : Option Schedule) (u : Option PointInfo) (others : Bool) → tested_with o q u others peers_room ≡ refused 5 → ⊥
not-five_tested None q u others h = impossible (cc)
not-five_tested (Some c) None u others h = impossible (cc)
not-five_tested (Some c) (Some s) None others h = impossible (cc)
not-five_tested (Some c) (Some s) (Some p) others h = go (not (in_domain p && others)) h
  where
    go : (b : Bool) → pick b (refused 4) (admitted (record { settings = c; schedule = s; point = p })) ≡ refused 5 → ⊥
    go true k = impossible (cc)
    go false k = impossible (cc)

not_five : (leader presence : ℕ) (s : List ℕ) (t : Tested) → (t ≡ refused 5 → ⊥) → judge_with leader presence s t ≡ Number 5 → ⊥
unfolding judge_with_in before
not_five leader presence s (refused n) f h = let e : n ≡ 5 = cc in f (ap refused e)
not_five leader presence s (admitted i) f h =
    go (verify i.settings i.schedule i.point) (eqb i.point.id.round i.settings.genesis_round) (wave_checked i.schedule (eqb leader 1) i.point) h
  where
    listed : (required m u : Bool) (v : Verdict) → pick m (Number 8) (pick u (Number 9) (Given v)) ≡ Number 5 → ⊥
    listed required true u v k = impossible (cc)
    listed required false true v k = impossible (cc)
    listed required false false v k = impossible (cc)

    reading : (required : Bool) (o : Option (List Listed)) → over_list i.settings required presence i.point o ≡ Number 5 → ⊥
    reading required None k = impossible (cc)
    reading required (Some l) k =
        listed required (mismatch presence i.point (directs l) (indirects l)) (uncovered (prev_id i.point) (directs l) (indirects l)) _ k

    choice : (required b : Bool) →
        pick b (over_list i.settings required presence i.point (read_list s)) (Given (validate i.settings required presence i.point [] [])) ≡ Number 5 → ⊥
    choice required true k = reading required (read_list s) k
    choice required false k = impossible (cc)

    go : (o : Option VerifyError) (g : Bool) (w : WaveChecked) → judge_from i.settings presence i.point s (before_with o g w) ≡ Number 5 → ⊥
    go (Some e) g w k = impossible (cc)
    go None true w k = impossible (cc)
    go None false case-wave.Horizon k = impossible (cc)
    go None false (case-wave.IllFormed r) k = impossible (cc)
    go None false (case-wave.Sound required) k = choice required (leb 2 presence) k

-- ---- the entries in another order

over_perm : (c : Settings) (required : Bool) (p : PointInfo) (a b : Option (List Listed)) → Arranged a b → Permᴰ (recording_over c required p a) (recording_over c required p b)
over_perm c required p None None h = Permᴰ.nil
over_perm c required p None (Some m) h = absurd h
over_perm c required p (Some l) None h = absurd h
over_perm c required p (Some l) (Some m) h = recording_perm c required p h

with_perm : (leader presence : ℕ) (s u : List ℕ) (t : Tested) → Arranged (read_list s) (read_list u) →
    Permᴰ (recording_with leader presence s t) (recording_with leader presence u t)
unfolding recording_with
with_perm leader presence s u (refused n) h = Permᴰ.nil
with_perm leader presence s u (admitted i) h = go (before i.settings i.schedule (eqb leader 1) i.point)
  where
    choice : (required b : Bool) →
        Permᴰ (pick b (recording_over i.settings required i.point (read_list s)) []) (pick b (recording_over i.settings required i.point (read_list u)) [])
    choice required true = over_perm i.settings required i.point (read_list s) (read_list u) h
    choice required false = Permᴰ.nil

    go : (b : Before) → Permᴰ (recording_from i.settings presence i.point s b) (recording_from i.settings presence i.point u b)
    go (answered a) = Permᴰ.nil
    go (needed required) = choice required (leb 2 presence)

-- ---- the statement

abbrev test : Call → Tested
test x = tested_without x.settings x.schedule x.point x.leader x.presence

-- a call of which something is said has a TransInvalid verdict
abbrev Said : Call → Clearing → Type 0
Said x y = (d : InvalidDependency) × (judged (roomy x) ≡ Given (verdict.TransInvalid d)) × Waiting x.leader x.presence x.list (test x) d

said : (x : Call) (y : Clearing) → clearing x ≡ Ok y → (y ≡ NotWaiting → ⊥) → Said x y
said x y h f =
    let w = waits-if (judge_with x.leader x.presence x.list (test x)) (recording_with x.leader x.presence x.list (test x)) y h f in
    (w.0, w.1, waiting x.leader x.presence x.list (test x) w.0 w.1)

same-ok : (a b : Clearing) → ◌≡◌ {A = Result Clearing ℕ} (Ok a) (Ok b) → a ≡ b
same-ok a b e = cc

one_of : (o : Result Clearing ℕ) (l : List PointId) → o ≡ Ok (by_one l) → ((i : PointId) × (o ≡ Ok (ClearedBy i))) ⊎ (o ≡ Ok NoSingleMark)
one_of o l h = go (one-or-none l)
  where
    go : ((i : PointId) × (by_one l ≡ ClearedBy i)) ⊎ (by_one l ≡ NoSingleMark) → ((i : PointId) × (o ≡ Ok (ClearedBy i))) ⊎ (o ≡ Ok NoSingleMark)
    go (inl (i, e)) = inl (i, h ∙ ap Ok e)
    go (inr e) = inr (h ∙ ap Ok e)

-- a number is no 0, and a point that is named fits its bytes
said-fits : (x : Call) → OfBytes x → ResultFits (clearing x)
said-fits x b = go (clearing x) refl
  where
    go : (o : Result Clearing ℕ) → clearing x ≡ o → ResultFits o
    go (Err n) h =
        (told.judge_numbers (roomy x) n (number-only (judge_with x.leader x.presence x.list (test x)) (recording_with x.leader x.presence x.list (test x)) n h)).0
    go (Ok NotWaiting) h = tt
    go (Ok NoSingleMark) h = tt
    go (Ok (ClearedBy i)) h =
        let w = said x (ClearedBy i) h (λ e. impossible (cc)) in
        recorded-fits x.leader x.presence x.list (test x) w.0 w.2 b.1 i (same-ok _ _ (sym w.2.clears ∙ h))

pub cleared : Cleared
unfolding tested_in
cleared =
    record {
      marks = marks;
      named =
          λ x i h.
          (let w = said x (ClearedBy i) h (λ e. impossible (cc)) in
          let b = same-ok _ _ (sym w.2.clears ∙ h) in (
            (w.0, w.1),
            clears_is x.leader x.presence x.list (test x) w.0 w.2 i b,
            λ j v. sym (valid_one x.leader x.presence x.list (test x) w.0 w.2 j v i (one-all _ i b).0),
          ));
      none =
          λ x h.
          (let w = said x NoSingleMark h (λ e. impossible (cc)) in
          ((w.0, w.1), none_clears x.leader x.presence x.list (test x) w.0 w.2 (same-ok _ _ (sym w.2.clears ∙ h))));
      waits =
          λ x d h.
          (let w = waiting x.leader x.presence x.list (test x) d h in
          one_of (clearing x) (recording w.settings w.required w.point w.list) w.clears);
      not_waiting = λ x v h f. ap (λ (a : JudgeAnswer). clearing_of a (recording_with x.leader x.presence x.list (test x))) h ∙ other-kind v _ f;
      number = λ x n h. ap (λ (a : JudgeAnswer). clearing_of a (recording_with x.leader x.presence x.list (test x))) h;
      no_five =
          λ x h.
          not_five x.leader x.presence x.list (test x)
          (not-five_tested (read_settings x.settings) (read_schedule x.schedule) (read_point x.point) (flags_ok x.leader x.presence))
          (number-only (judge_with x.leader x.presence x.list (test x)) (recording_with x.leader x.presence x.list (test x)) 5 h);
      length = bytes-length;
      told = λ x y u v b d e h. answer_told (clearing x) (clearing y) u v (said-fits x b) (said-fits y d) e h;
      any_order =
          λ x es es' ts ts' h g d f.
          (let a = lists_arranged es es' ts ts' (members_all (IsEntry false) es h) (members_all (IsEntry true) ts g) d f in
          alike_clearing _ _ _ _
          (judge_alike x.leader x.presence (concat es ++ concat ts) (concat es' ++ concat ts') (test x) a)
          (one_perm (with_perm x.leader x.presence (concat es ++ concat ts) (concat es' ++ concat ts') (test x) a)));
    }
