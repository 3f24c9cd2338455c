-- Laws of the call: which rows there are, and what the call tells of them.
use Rattle.std.specs.Prelude.{Option, None, Some, is_some, Result, Err, Ok}
use Prim.Native.Nat.{ℕ, zero, suc, ◌+◌, ◌≤◌, ◌*◌}
use native.Mathlib.Omega.{arith}
use mathlib.Core.Path.{◌≡◌, refl, ap, sym, ◌∙◌}
use mathlib.Core.Bool.{Bool, true, false, not, ◌&&◌}
use mathlib.Core.List.{List, []}
use lib.ListN.{length}
use lib.Dec.{eqb}
use borrow.Author.Tests.{ne_eqb, le-leb, lt-ltb, le-ltb}
use Rattle.base.specs.Base.{pick, is_empty}
use Rattle.base.proofs.Impossible.{impossible}
use Rattle.base.proofs.Option.{some_of}
use Rattle.write.proofs.Laws.{put_nothing}
use Rattle.point.specs.Point.{PointInfo}
use Rattle.point.specs.declared.data.PointMap.{PointMap}
use Rattle.point.specs.declared.data.PointMap.TheVariants as maps
use Rattle.schedule.specs.Settings.{Settings}
use Rattle.reasons.specs.Refusal.{refusal_number}
use Rattle.reasons.specs.Verdict.{Verdict}
use Rattle.reasons.specs.declared.refusal.Refusal.{Refusal}
use Rattle.rules.specs.List.{Listed, read_list, directs, indirects}
use Rattle.rules.specs.Mismatch.{mismatch}
use Rattle.rules.specs.Judge.{Input, Tested, refused, admitted, JudgeAnswer, Number, Given, Before, answered, needed, before, judge_from, over_list, judge_with_in}
use Rattle.rules.specs.Trail.{Row, rule_row, rows_bytes}
use Rattle.rules.specs.Force.{finals, ranked, forceable, forceable_from, forceable_with, forced_of, force_with}
use Rattle.rules.proofs.ForceRoom.{finals-room}
use Rattle.judge_mismatch.proofs.Heads.{listed-is}
use Rattle.trail_rows.specs.Code.{Filled}
use Rattle.force_rows.specs.Code.{Matching}
use Rattle.force.specs.Code.{missing, rows_over, Told}

-- ---- rows that are put

-- a list of eight bytes more than the entries' has room for all rows
pub rows_fit : (c : Settings) (required : Bool) (p : PointInfo) (s : List ℕ) (rule : Option PointMap) → (rule ≡ None → is_some (read_list s) ≡ true) →
    8 * length (rows_over c required p s rule) ≤ length s + 8
rows_fit c required p s None h = let l = some_of (read_list s) (h refl) in rw (listed-is s l.0 l.1) (finals-room c required p s l.0 l.1)
rows_fit c required p s (Some m) h = omega arith

-- ---- which rows there are

matched-of : (a : Bool) (x : JudgeAnswer) (v : Verdict) → pick a (Number 8) x ≡ Given v → a ≡ false
matched-of true x v h = impossible (cc)
matched-of false x v h = refl

module _ (c : Settings) (required : Bool) (p : PointInfo) (list : List ℕ) where
  -- what is known of a call that reads its list
  record Over (presence : ℕ) : Type 0 where
    l : List Listed
    read : read_list list ≡ Some l
    same : mismatch presence p (directs l) (indirects l) ≡ false

  over : (presence : ℕ) (v : Verdict) → 2 ≤ presence → judge_from c presence p list (needed required) ≡ Given v → Over presence
  over presence v two h = go (read_list list) refl
    where
      passed : judge_from c presence p list (needed required) ≡ over_list c required presence p (read_list list)
      passed = rw (le-leb 2 presence two) refl

      go : (o : Option (List Listed)) → read_list list ≡ o → Over presence
      go None e = impossible (let g : Number 7 ≡ Given v = sym (ap (over_list c required presence p) e) ∙ (sym passed ∙ h) in cc)
      go (Some l) e =
          record {
            l = l;
            read = e;
            same = matched-of (mismatch presence p (directs l) (indirects l)) _ v (sym (ap (over_list c required presence p) e) ∙ (sym passed ∙ h));
          }

  abbrev lacks : ℕ → Bool
  lacks presence = eqb presence 2 && not (is_empty p.witness)

  module _ (presence : ℕ) (two : 2 ≤ presence) where
    missing-over : missing presence p ≡ pick (lacks presence) (Some maps.Witness) None
    missing-over = rw (ne_eqb presence 0 (λ e. omega (arith, two, e)), ne_eqb presence 1 (λ e. omega (arith, two, e))) refl

    forceable-over : (l : List Listed) → forceable c required presence p (directs l) (indirects l)
        ≡ pick (lacks presence) (rule_row maps.Witness) (ranked (finals c required p (directs l) (indirects l)))
    unfolding forceable
    forceable-over l = rw (ne_eqb presence 0 (λ e. omega (arith, two, e)), ne_eqb presence 1 (λ e. omega (arith, two, e))) refl

    rows-over : (o : Over presence) → forceable_from c presence p list (needed required) ≡ rows_over c required p list (missing presence p)
    rows-over o =
        rw (le-leb 2 presence two, o.read, missing-over, forceable-over o.l)
        (go (lacks presence))
      where
        go : (b : Bool) → pick b (rule_row maps.Witness) (ranked (finals c required p (directs o.l) (indirects o.l)))
            ≡ rows_over c required p list (pick b (Some maps.Witness) None)
        go true = refl
        go false = rw (listed-is list o.l o.read) refl

  pub rows_are : (presence : ℕ) (v : Verdict) → judge_from c presence p list (needed required) ≡ Given v →
      forceable_from c presence p list (needed required) ≡ rows_over c required p list (missing presence p)
  unfolding forceable
  rows_are zero v h = refl
  rows_are (suc zero) v h = refl
  rows_are (suc (suc n)) v h =
      let two : 2 ≤ suc (suc n) = omega arith in
      rows-over (suc (suc n)) two (over (suc (suc n)) v two h)

  pub list_reads : (presence : ℕ) (v : Verdict) → judge_from c presence p list (needed required) ≡ Given v → missing presence p ≡ None →
      is_some (read_list list) ≡ true
  list_reads zero v h g = impossible (cc)
  list_reads (suc zero) v h g = impossible (cc)
  list_reads (suc (suc n)) v h g = ap is_some (over (suc (suc n)) v (omega arith) h).read

  pub list_matches : (presence : ℕ) (v : Verdict) → judge_from c presence p list (needed required) ≡ Given v → missing presence p ≡ None →
      Matching p list
  list_matches zero v h g = impossible (cc)
  list_matches (suc zero) v h g = impossible (cc)
  list_matches (suc (suc n)) v h g =
      let o = over (suc (suc n)) v (omega arith) h in
      (suc (suc n), rw (listed-is list o.l o.read) o.same)

-- ---- what the call tells

module _ (answer : JudgeAnswer) (rows : List Row) (old : List ℕ) where
  -- a number in place of a verdict
  pub told_number : (r : Refusal) → Number (refusal_number r) ≡ answer → Told (forced_of answer rows (length old)) old old (Err r)
  told_number r e = rw (← e) (record { number = refl; count = λ k. refl; written = refl })

  -- the rows were put, or they don't fit
  pub told_filled : (v : Verdict) → Given v ≡ answer → (new : List ℕ) (r : Result ℕ Refusal) → Filled 17 rows old new r →
      Told (forced_of answer rows (length old)) old new r
  told_filled v e new (Ok n) g = rw (← e, le-ltb (length old) (8 * length rows) g.1) (record { number = refl; count = λ k. g.0; written = g.2 })
  told_filled v e new (Err r) g = rw (← e, lt-ltb (length old) (8 * length rows) g.1) (record { number = g.0; count = λ k. refl; written = g.2 })

-- no row
told-none : (answer : JudgeAnswer) (v : Verdict) (old : List ℕ) → Given v ≡ answer → Told (forced_of answer [] (length old)) old old (Ok 0)
unfolding rows_bytes
told-none answer v old e = told_filled answer [] old v e old (Ok 0) (refl, omega arith, sym (put_nothing old 0))

-- ---- the whole call, from what its input was tested for

module _ (leader presence : ℕ) (list : List ℕ) (t : Tested) (old : List ℕ) where
  abbrev pub Called : List ℕ → Result ℕ Refusal → Type 0
  Called new r = Told (force_with leader presence list t (length old)) old new r

  pub called_number : (a : Result ℕ Refusal) (r : Refusal) → a ≡ Err r → t ≡ refused (refusal_number r) → Called old a
  unfolding judge_with_in forceable_with
  called_number a r e h = rw (e, h) (told_number (Number (refusal_number r)) [] old r refl)

  module _ (i : Input) (h : t ≡ admitted i) (b : Before) (g : b ≡ before i.settings i.schedule (eqb leader 1) i.point) where
    pub called_from : (new : List ℕ) (a : Result ℕ Refusal) →
        Told (forced_of (judge_from i.settings presence i.point list b) (forceable_from i.settings presence i.point list b) (length old)) old new a →
        Called new a
    unfolding judge_with_in forceable_with
    called_from new a k = rw (h, ← g) k

    -- a number, or a verdict, before the list
    pub called_refused : (a : Result ℕ Refusal) (r : Refusal) → a ≡ Err r → b ≡ answered (Number (refusal_number r)) → Called old a
    called_refused a r e k = called_from old a (rw (e, k) (told_number (Number (refusal_number r)) [] old r refl))

    pub called_judged : (v : Verdict) → b ≡ answered (Given v) → Called old (Ok 0)
    called_judged v k = called_from old (Ok 0) (rw k (told-none (Given v) v old refl))
