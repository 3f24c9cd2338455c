-- A call that gives Valid or TransInvalid on a point above genesis: the verdict is that over its list, and its record is a row joined.
use Rattle.std.specs.Prelude.{Option, None, Some, option_map, unwrap_or, is_some}
use Prim.Native.Nat.{ℕ, zero, suc, ◌<◌}
use native.Mathlib.Omega.{arith}
use native.Mathlib.Decide.{dec_lt}
use lib.Dec.{ltb, leb, eqb}
use lib.ListN.{length, drop}
use borrow.Author.Tests.{eq-eqb, ne_eqb, leb-false}
use mathlib.Core.Path.{◌≡◌, refl, sym, ap, ◌∙◌, subst}
use mathlib.Core.Logic.{◌⊎◌, inl, inr}
use mathlib.Core.Bool.{Bool, true, false, not, ◌&&◌}
use mathlib.Core.List.{List, [], ◌∷◌}
use Rattle.base.specs.Base.{pick, is_empty}
use Rattle.base.proofs.Bool.{clash}
use Rattle.base.proofs.Impossible.{impossible}
use Rattle.parts.specs.Limits.{peers_room}
use Rattle.point.specs.Point.{PointInfo, in_domain, prev_id}
use Rattle.point.specs.Reading.{read_point}
use Rattle.point.specs.declared.data.AnchorStageRole.{AnchorStageRole}
use Rattle.schedule.specs.Settings.{Settings, read_settings}
use Rattle.schedule.specs.Schedule.{Schedule, read_schedule}
use Rattle.reasons.specs.Invalid.{InvalidReason, InvalidDependency}
use Rattle.reasons.specs.Verdict.{Verdict, of_error}
use Rattle.reasons.specs.declared.ill_formed.VerifyError.{VerifyError}
use Rattle.reasons.specs.declared.ill_formed.VerifyError.TheVariants as case-error
use Rattle.reasons.specs.declared.ill_formed.WaveChecked.{WaveChecked}
use Rattle.reasons.specs.declared.ill_formed.WaveChecked.TheVariants as case-wave
use Rattle.rules.specs.DagPoint.{Entry, IndirectEntry, point_view}
use Rattle.rules.specs.List.{Listed, list_from, read_list, read_list_in, directs, indirects}
use Rattle.rules.specs.Mismatch.{mismatch, uncovered}
use Rattle.rules.specs.Verify.{verify}
use Rattle.rules.specs.CheckIllFormed.{wave_checked}
use Rattle.rules.specs.Validate.{join, result_with, validate}
use Rattle.rules.specs.Judge.{Input, Tested, refused, admitted, tested_with, tested, tested_in, Number, Given, Before, answered, needed, before_with, before, over_entries, over_list, judge_from, flags_ok, judge_with, judge_with_in}
use Rattle.rules.specs.Passed.{has_reason}
use Rattle.rules.specs.Told.{Call}
use Rattle.rules.specs.AnyOrder.{GivenOrder}
use Rattle.rules.specs.Joined.{recorded}
use Rattle.rules.proofs.Passed.{lists-silent, validate-lists}
use Rattle.rules.proofs.Folds.{direct_trail, direct_record, indirect_record}
use Rattle.rules.proofs.Pieces.{Step, list_zero, list_suc, after-indirect}
use Rattle.rules.proofs.Halves.{recorded_apart}
use Rattle.rules.proofs.Joined.{judging_records}
use Rattle.rules.proofs.Greatest.{join_all}
use Rattle.rules.proofs.Records.{target_record}
use Rattle.rules.proofs.Orders.{root_of, direct_row, indirect_row_lem}
use Rattle.rules.proofs.Brought.{record_for}
use Rattle.base.proofs.Option.{some-injective}

-- ---- the verdict is that over the list

module _ (c : Settings) (presence : ℕ) (p : PointInfo) (v : Verdict) where
  from_entries : (required : Bool) (es : List Entry) (ts : List IndirectEntry) → over_entries c required presence p es ts ≡ Given v →
      validate c required presence p es ts ≡ v
  from_entries required es ts = go (mismatch presence p es ts) (uncovered (prev_id p) es ts)
    where
      go : (m u : Bool) → pick m (Number 8) (pick u (Number 9) (Given (validate c required presence p es ts))) ≡ Given v → validate c required presence p es ts ≡ v
      go true u h = impossible (cc)
      go false true h = impossible (cc)
      go false false h = cc

  -- with fewer than two rounds present there is a reason
  pub early : (required : Bool) (es : List Entry) (ts : List IndirectEntry) → presence < 2 → has_reason (validate c required presence p es ts) ≡ true
  unfolding validate
  early required es ts h = elim (dec_lt 0 presence) [
    | yes k ↦ rw (ne_eqb presence 0 (λ e. omega arith), eq-eqb presence 1 (omega arith)) refl
    | no k ↦ rw (eq-eqb presence 0 (omega arith)) refl
  ]

  -- what decides before the list is read is a number or a reason
  abbrev Decides : Before → Type 0
  Decides (answered (Number n)) = Unit
  Decides (answered (Given w)) = has_reason w ≡ true
  Decides (needed required) = Unit

  of_error_lem : (e : VerifyError) → has_reason (of_error e) ≡ true
  of_error_lem (case-error.Fail u) = refl
  of_error_lem (case-error.IllFormed r) = refl

  decides : (o : Option VerifyError) (g : Bool) (w : WaveChecked) → g ≡ false → Decides (before_with o g w)
  decides (Some e) g w h = of_error_lem e
  decides None true w h = impossible (cc)
  decides None false case-wave.Horizon h = tt
  decides None false (case-wave.IllFormed r) h = refl
  decides None false (case-wave.Sound required) h = tt

  -- the verdict over the list's entries
  abbrev Over : List ℕ → Type 0
  Over list = (l : List Listed) × (read_list list ≡ Some l) × (required : Bool) × (validate c required presence p (directs l) (indirects l) ≡ v)

  from_list : (list : List ℕ) (required : Bool) (o : Option (List Listed)) → read_list list ≡ o → over_list c required presence p o ≡ Given v → Over list
  from_list list required None e h = impossible (cc)
  from_list list required (Some l) e h = (l, e, required, from_entries required (directs l) (indirects l) h)

  from-before : (list : List ℕ) (b : Before) → Decides b → has_reason v ≡ false → judge_from c presence p list b ≡ Given v → Over list
  from-before list (answered (Number n)) d k h = impossible (cc)
  from-before list (answered (Given w)) d k h = let e : w ≡ v = cc in clash (has_reason w) d (ap has_reason e ∙ k)
  from-before list (needed required) d k h = go (leb 2 presence) refl h
    where
      go : (b : Bool) → leb 2 presence ≡ b → pick b (over_list c required presence p (read_list list)) (Given (validate c required presence p [] [])) ≡ Given v → Over list
      go true e f = from_list list required (read_list list) refl f
      go false e f =
          let w : validate c required presence p [] [] ≡ v = cc in
          clash (has_reason (validate c required presence p [] [])) (early required [] [] (leb-false 2 presence e)) (ap has_reason w ∙ k)

-- what was read is what a call goes on with
input_of : (o : Option Settings) (q : Option Schedule) (u : Option PointInfo) (others : Bool) (size : ℕ) (i : Input) (c : Settings) (p : PointInfo) →
    tested_with o q u others size ≡ admitted i → o ≡ Some c → u ≡ Some p → (i.settings ≡ c) × (i.point ≡ p)
input_of None q u others size i c p h e f = impossible (cc)
input_of (Some c') None u others size i c p h e f = impossible (cc)
input_of (Some c') (Some s) None others size i c p h e f = impossible (cc)
input_of (Some c') (Some s) (Some p') others size i c p h e f = go (not (in_domain p' && others)) (ltb size peers_room) h
  where
    go : (a b : Bool) → pick a (refused 4) (pick b (refused 5) (admitted (record { settings = c'; schedule = s; point = p' }))) ≡ admitted i → (i.settings ≡ c) × (i.point ≡ p)
    go true b k = impossible (cc)
    go false true k = impossible (cc)
    go false false k =
        let w : record { settings = c'; schedule = s; point = p' } ≡ i = cc in
        let x : c' ≡ c = cc in
        let y : p' ≡ p = cc in
        (sym (ap (λ (j : Input). j.settings) w) ∙ x, sym (ap (λ (j : Input). j.point) w) ∙ y)

moved : (presence : ℕ) (list : List ℕ) (v : Verdict) (a c : Settings) (q p : PointInfo) → a ≡ c → q ≡ p → Over a presence q v list → Over c presence p v list
moved presence list v a c q p e f (l, r, required, h) = (
  l,
  r,
  required,
  sym (ap (λ (x : Settings). validate x required presence p (directs l) (indirects l)) e)
      ∙ sym (ap (λ (x : PointInfo). validate a required presence x (directs l) (indirects l)) f)
      ∙ h,
)

from-tested : (leader presence : ℕ) (list : List ℕ) (v : Verdict) (c : Settings) (p : PointInfo) (t : Tested) →
    ((i : Input) → t ≡ admitted i → (i.settings ≡ c) × (i.point ≡ p)) → c.genesis_round < p.id.round → has_reason v ≡ false →
    judge_with leader presence list t ≡ Given v → Over c presence p v list
unfolding judge_with_in before
from-tested leader presence list v c p (refused n) f a k h = impossible (cc)
from-tested leader presence list v c p (admitted i) f a k h =
    let w = f i refl in
    let n : eqb i.point.id.round i.settings.genesis_round ≡ false = rw (w.0, w.1) (ne_eqb p.id.round c.genesis_round (λ e. omega arith)) in
    let b : Before = before_with (verify i.settings i.schedule i.point) (eqb i.point.id.round i.settings.genesis_round) (wave_checked i.schedule (eqb leader 1) i.point) in
    let d = decides i.settings presence i.point v (verify i.settings i.schedule i.point) _ (wave_checked i.schedule (eqb leader 1) i.point) n in
    moved presence list v i.settings c i.point p w.0 w.1 (from-before i.settings presence i.point v list b d k h)

pub judged-validate : (x : Call) (o : GivenOrder x) → Over o.settings x.presence o.point o.verdict x.list
unfolding tested_in
judged-validate x o =
    from-tested x.leader x.presence x.list o.verdict o.settings o.point
    (tested x.settings x.schedule x.point (flags_ok x.leader x.presence) x.size)
    (λ i e. input_of (read_settings x.settings) (read_schedule x.schedule) (read_point x.point) _ x.size i o.settings o.point e o.settings_read o.point_read)
    o.above_genesis
    o.valid_or_trans_invalid
    o.given

-- ---- its record, over the whole list in its order

-- after an indirect entry no direct one
abbrev pub Ordered : List Listed → Type 0
Ordered [] = Unit
Ordered (x ∷ l) = (is_some x.aim ≡ true → directs l ≡ []) × Ordered l

list-ordered : (n : ℕ) (a : Bool) (s : List ℕ) (l : List Listed) → list_from n a s ≡ Some l → Ordered l
list-ordered zero a s l h = subst Ordered (list_zero a s l h).1 tt
list-ordered (suc n) a s l h = go (list_suc n a s l h) (list-ordered n)
  where
    go : ((length s ≡ 0) × ([] ≡ l)) ⊎ Step n a s l → ((b : Bool) (t : List ℕ) (m : List Listed) → list_from n b t ≡ Some m → Ordered m) → Ordered l
    go (inl e) r = subst Ordered e.1 tt
    go (inr u) r =
        subst Ordered u.is (
          λ e. after-indirect n (drop u.first.size s) u.rest (ap (λ (b : Bool). list_from n b (drop u.first.size s)) (sym e) ∙ u.more),
          r _ _ u.rest u.more,
        )

pub read-ordered : (s : List ℕ) (l : List Listed) → read_list s ≡ Some l → Ordered l
unfolding read_list_in
read-ordered s l h = list-ordered 65535 false s l h

module _ (c : Settings) (required : Bool) (p : PointInfo) where
  one_row : (l : List Listed) (old : Option InvalidDependency) → Ordered l →
      join_all (target_record c p) (join_all (root_of c required (point_view p)) old (directs l)) (indirects l) ≡ join_all (record_for c required p) old l
  unfolding join_all directs indirects
  one_row [] old h = refl
  one_row (x ∷ l) old h = go x.aim refl (λ o. one_row l o h.1)
    where
      go : (a : Option AnchorStageRole) → x.aim ≡ a →
          ((o : Option InvalidDependency) → join_all (target_record c p) (join_all (root_of c required (point_view p)) o (directs l)) (indirects l) ≡ join_all (record_for c required p) o l) →
          join_all (target_record c p)
          (join_all (root_of c required (point_view p)) old (pick (is_some x.aim) (directs l) (x.entry ∷ directs l)))
          (unwrap_or (option_map (λ g. record { role = g; entry = x.entry } ∷ indirects l) x.aim) (indirects l))
          ≡ join_all (record_for c required p) (join old (record_for c required p x)) l
      go None e f = rw e (f (join old (root_of c required (point_view p) x.entry)))
      go (Some g) e f =
          let n : directs l ≡ [] = h.0 (ap is_some e) in
          let r = f (join old (target_record c p (record { role = g; entry = x.entry }))) in
          rw (e, n) (rw n at r)

  pub recorded_row : (l : List Listed) → direct_trail c required (point_view p) false (directs l) ≡ [] → Ordered l →
      recorded c required p l ≡ join_all (record_for c required p) None l
  recorded_row l n h =
      let root = direct_record c required (point_view p) None (directs l) in
      recorded_apart c required p l
      ∙ ap (λ (t : List InvalidReason). pick (is_empty t) (indirect_record c p root (indirects l)) root) n
      ∙ indirect_row_lem c p (indirects l) root
      ∙ ap (λ (q : Option InvalidDependency). join_all (target_record c p) q (indirects l)) (direct_row c required (point_view p) (directs l) None n)
      ∙ one_row l None h

-- the verdict of a given order is that of the row's record
pub given_record : (x : Call) (o : GivenOrder x) (l : List Listed) → read_list x.list ≡ Some l →
    (required : Bool) × (o.verdict ≡ result_with None (join_all (record_for o.settings required o.point) None l))
given_record x o l r = go (judged-validate x o)
  where
    go : Over o.settings x.presence o.point o.verdict x.list →
        (required : Bool) × (o.verdict ≡ result_with None (join_all (record_for o.settings required o.point) None l))
    go (m, u, required, w) =
        let h = ap has_reason w ∙ o.valid_or_trans_invalid in
        let e = validate-lists o.settings required o.point (directs m) (indirects m) x.presence h in
        let n = lists-silent o.settings required o.point (directs m) (indirects m) (ap has_reason (sym e) ∙ h) in (
          required,
          sym w
              ∙ judging_records o.settings required x.presence o.point m h
              ∙ ap (result_with None) (recorded_row o.settings required o.point m n.0 (read-ordered x.list m u))
              ∙ ap (λ (q : List Listed). result_with None (join_all (record_for o.settings required o.point) None q)) (some-injective _ _ (sym u ∙ r)),
        )
