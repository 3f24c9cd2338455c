-- Ticket U9's statement holds.
use Rattle.std.specs.Prelude.{Option, None, Some}
use Prim.Native.Nat.{ℕ}
use native.Mathlib.Omega.{arith}
use lib.Dec.{leb, eqb}
use mathlib.Core.Path.{◌≡◌, refl, sym, ap, ◌∙◌, subst}
use mathlib.Core.Logic.{inr}
use mathlib.Core.Bool.{Bool, true, false}
use mathlib.Core.List.{List, [], ◌∷◌, ◌++◌, Memᴰ, Permᴰ}
use Rattle.base.specs.Base.{pick, concat}
use Rattle.base.proofs.Option.{none-some}
use Rattle.base.proofs.Impossible.{impossible}
use Rattle.point.specs.Point.{PointInfo}
use Rattle.schedule.specs.Settings.{Settings}
use Rattle.reasons.specs.Invalid.{InvalidDependency}
use Rattle.reasons.specs.Verdict as verdict
use Rattle.rules.specs.List.{Listed, read_list}
use Rattle.rules.specs.Validate.{result_with, validate}
use Rattle.rules.specs.Judge.{Tested, refused, admitted, tested, Given, Before, answered, needed, before, over_list, judge_from, flags_ok, judge_with, judge_with_in}
use Rattle.rules.specs.Told.{Call, judged}
use Rattle.rules.specs.AnyOrder.{IsEntry, AllEntries, with_list, Alike, NoneBrings, Earliest, AnyOrder}
use Rattle.rules.proofs.Joins.{rank_of, newer-higher, higher-newer}
use Rattle.rules.proofs.Perms.{members_all}
use Rattle.rules.proofs.Greatest.{join_all, all-absent, EarliestIn, earliest, member-rank}
use Rattle.rules.proofs.Orders.{alike_self, entries-alike}
use Rattle.rules.proofs.All.{all-member}
use Rattle.rules.proofs.Arranged.{Arranged, split_list, flag-outside, lists_arranged, directs_perm, indirects_perm}
use Rattle.rules.proofs.Brought.{record_for, record_brings, brings_record}
use Rattle.rules.proofs.Given.{judged-validate, given_record}

-- ---- in any order

list-alike : (c : Settings) (required : Bool) (presence : ℕ) (p : PointInfo) (a b : Option (List Listed)) → Arranged a b →
    Alike (over_list c required presence p a) (over_list c required presence p b)
list-alike c required presence p None None h = refl
list-alike c required presence p None (Some m) h = absurd h
list-alike c required presence p (Some l) None h = absurd h
list-alike c required presence p (Some l) (Some m) h = entries-alike c required p (directs_perm h) (indirects_perm h) presence

before-alike : (c : Settings) (presence : ℕ) (p : PointInfo) (s t : List ℕ) (b : Before) → Arranged (read_list s) (read_list t) →
    Alike (judge_from c presence p s b) (judge_from c presence p t b)
before-alike c presence p s t (answered a) h = alike_self a
before-alike c presence p s t (needed required) h = go (leb 2 presence)
  where
    go : (b : Bool) →
        Alike
        (pick b (over_list c required presence p (read_list s)) (Given (validate c required presence p [] [])))
        (pick b (over_list c required presence p (read_list t)) (Given (validate c required presence p [] [])))
    go true = list-alike c required presence p (read_list s) (read_list t) h
    go false = alike_self (Given (validate c required presence p [] []))

pub judge_alike : (leader presence : ℕ) (s t : List ℕ) (i : Tested) → Arranged (read_list s) (read_list t) → Alike (judge_with leader presence s i) (judge_with leader presence t i)
unfolding judge_with_in
judge_alike leader presence s t (refused n) h = refl
judge_alike leader presence s t (admitted i) h =
    before-alike i.settings presence i.point s t (before i.settings i.schedule (eqb leader 1) i.point) h

any-alike : (x : Call) (es es' ts ts' : List (List ℕ)) → AllEntries false es → AllEntries true ts → Permᴰ es es' → Permᴰ ts ts' →
    Alike (judged (with_list x es ts)) (judged (with_list x es' ts'))
any-alike x es es' ts ts' h g d f =
    judge_alike x.leader x.presence (concat es ++ concat ts) (concat es' ++ concat ts')
    (tested x.settings x.schedule x.point (flags_ok x.leader x.presence) x.size)
    (lists_arranged es es' ts ts' (members_all (IsEntry false) es h) (members_all (IsEntry true) ts g) d f)

-- ---- of one given order

pub no_record : (o : Option InvalidDependency) → result_with None o ≡ verdict.Valid → o ≡ None
no_record None h = refl
no_record (Some d) h = impossible (cc)

pub this_record : (o : Option InvalidDependency) (d : InvalidDependency) → result_with None o ≡ verdict.TransInvalid d → o ≡ Some d
this_record None d h = impossible (cc)
this_record (Some e) d h = let f : e ≡ d = cc in ap Some f

pub member_middle : {A : Type 0} (a : List A) (x : A) (b : List A) → Memᴰ x (a ++ (x ∷ b))
member_middle [] x b = Memᴰ.head refl
member_middle (y ∷ a) x b = Memᴰ.tail (member_middle a x b)

module _ (c : Settings) (required : Bool) (p : PointInfo) (l : List Listed) where
  earliest-brings : (d : InvalidDependency) → EarliestIn (record_for c required p) l d → Earliest c p l d
  unfolding rank_of
  earliest-brings d w =
      record {
        before = w.before;
        entry = w.entry;
        after = w.after;
        place = w.place;
        brings = record_brings c required p w.entry d w.brings;
        less_before =
            λ x e m b.
            (let k = w.less x m in
            let r : rank_of (record_for c required p x) ≡ rank_of (Some e) = ap rank_of (brings_record c required p x e b) in
            higher-newer e d (omega arith));
        no_greater_after =
            λ x e m b g.
            (let k = member-rank (record_for c required p) w.after x m in
            let n = w.no_more in
            let r : rank_of (record_for c required p x) ≡ rank_of (Some e) = ap rank_of (brings_record c required p x e b) in
            let u = newer-higher d e g in
            absurd (omega arith));
      }

  none-valid : (o : Option InvalidDependency) → join_all (record_for c required p) None l ≡ o → NoneBrings c p l → result_with None o ≡ verdict.Valid
  none-valid None h f = refl
  none-valid (Some d) h f =
      let w = earliest (record_for c required p) d l h in
      absurd (f w.entry d (subst (Memᴰ w.entry) (sym w.place) (member_middle w.before w.entry w.after)) (record_brings c required p w.entry d w.brings))

pub any_order : AnyOrder
any_order =
    record {
      entries =
          λ s l h.
          (let w = split_list s l h in
          (w.direct, w.indirect, all-member (IsEntry false) w.direct w.entries, all-member (IsEntry true) w.indirect w.targets, w.is));
      outside = inr flag-outside;
      alike = any-alike;
      listed = λ x o. (let w = judged-validate x o in (w.0, w.1));
      absent =
          λ x o l h v y d m b.
          (let r = given_record x o l h in
          let n = no_record (join_all (record_for o.settings r.0 o.point) None l) (sym r.1 ∙ v) in
          none-some (sym (all-absent (record_for o.settings r.0 o.point) l n y m) ∙ brings_record o.settings r.0 o.point y d b));
      absent_only =
          λ x o l h f.
          (let r = given_record x o l h in
          r.1 ∙ none-valid o.settings r.0 o.point l _ refl f);
      otherwise =
          λ x o l h d v.
          (let r = given_record x o l h in
          let e = this_record (join_all (record_for o.settings r.0 o.point) None l) d (sym r.1 ∙ v) in
          earliest-brings o.settings r.0 o.point l d (earliest (record_for o.settings r.0 o.point) d l e));
    }
