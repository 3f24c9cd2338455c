-- Laws of the search: what an entry brings to the record, and what is found of the entries that are left.
use Rattle.std.specs.Prelude.{Option, None, Some, is_some, Result, Err, Ok}
use Prim.Native.Nat.{ℕ, zero, suc, ◌+◌, ◌-◌, ◌≤◌}
use native.Mathlib.Omega.{arith}
use borrow.Author.Tests.{le-leb}
use lib.Dec.{leb, eqb}
use mathlib.Core.Path.{◌≡◌, refl, ap, sym, ◌∙◌}
use mathlib.Core.Bool.{Bool, true, false, not, ◌||◌, ◌&&◌}
use mathlib.Core.List.{List, [], ◌∷◌}
use lib.ListN.{length, drop}
use Rattle.base.specs.Base.{pick}
use Rattle.base.proofs.Impossible.{impossible}
use Rattle.point.specs.Point.{PointId, PointInfo, Through, Includes, same_id}
use Rattle.point.specs.declared.data.AnchorStageRole.{AnchorStageRole}
use Rattle.point.proofs.Ids.{same_eq}
use Rattle.schedule.specs.Settings.{Settings}
use Rattle.schedule.specs.Schedule.{Schedule}
use Rattle.reasons.specs.Invalid.{InvalidDependency, InvalidReason}
use Rattle.reasons.specs.Verdict.{Verdict, Fail, IllFormed, Invalid, TransInvalid, Valid}
use Rattle.reasons.specs.declared.ill_formed.VerifyError.{VerifyError}
use Rattle.reasons.specs.declared.ill_formed.VerifyError.TheVariants as case-error
use Rattle.reasons.specs.declared.ill_formed.WaveChecked.{WaveChecked}
use Rattle.reasons.specs.declared.ill_formed.WaveChecked.TheVariants as case-wave
use Rattle.rules.specs.DagPoint as dag
use Rattle.rules.specs.DagPoint.{DagPoint, Entry, PointView, entry_id, point_view}
use Rattle.rules.specs.Validate.{Taken, as_dependency, as_prev_point, as_version, aside, taken, record_of, findings_as, entry_findings, dependency, indirect_findings, validate}
use Rattle.rules.specs.List.{Listed, read_list}
use Rattle.rules.specs.Judge.{Input, Tested, refused, admitted, JudgeAnswer, Number, Given, Before, answered, needed, before_with, before, over_list, judge_from, judge_with_in}
use Rattle.rules.specs.Clearing as definition
use Rattle.rules.specs.Clearing.{Clearing, NotWaiting, NoSingleMark, ClearedBy, brought, recording, recording_over, recording_from, recording_with, all_same, by_one, cleared_of, clearing_with}
use Rattle.judge_mismatch.specs.Code.{listed}
use Rattle.judge_mismatch.proofs.Heads.{Next, listed-is, listed-end}
use Rattle.clearing.specs.Code.{clearing_from, is_trans_invalid, is_dependency, is_other, by_one_after}

-- ---- what an entry brings

pub taken_told : (b : Bool) → is_dependency (pick b as_prev_point as_dependency) ≡ true
taken_told true = refl
taken_told false = refl

any-record : (b : Bool) (x y : InvalidDependency) → is_some (pick b None (Some x)) ≡ is_some (pick b None (Some y))
any-record true x y = refl
any-record false x y = refl

module _ (c : Settings) (round : ℕ) (certified : Bool) where
  -- whatever it was reached through
  pub record-any : (t u : Through) (d : DagPoint) → is_some (record_of c round certified t d) ≡ is_some (record_of c round certified u d)
  unfolding record_of
  record-any t u (dag.Valid q) = refl
  record-any t u (dag.TransInvalid q root n) = any-record (certified || leb (root.round + c.commit_history_rounds) (round - 1)) _ _
  record-any t u (dag.Invalid q n) = any-record certified _ _
  record-any t u (dag.IllFormed i n) = refl
  record-any t u (dag.NotFound i) = refl
  record-any t u dag.Dropped = refl

module _ (c : Settings) (required : Bool) (p : PointInfo) (e : Entry) (r : Bool)
    (f : (t : Through) → r ≡ is_some (record_of c p.id.round e.certified t e.state)) where
  direct-brings : (k : Taken) → (is_dependency k && r) ≡ is_some (findings_as c required (point_view p) k e).root
  unfolding dependency point_view
  direct-brings as_dependency = f _
  direct-brings as_prev_point = f _
  direct-brings as_version = refl
  direct-brings aside = refl

  entry-brings : (aim : Option AnchorStageRole) → ((is_some aim || is_dependency (taken (point_view p) (entry_id e.state))) && r) ≡ is_some (brought c required p aim e)
  unfolding entry_findings indirect_findings dependency
  entry-brings None = direct-brings (taken (point_view p) (entry_id e.state))
  entry-brings (Some g) = f _

module _ (c : Settings) (required : Bool) (v : PointView) (p : PointInfo) (e : Entry) (same : v ≡ point_view p) (aim : Option AnchorStageRole) where
  abbrev given : Bool
  given = is_some aim || is_dependency (taken v (entry_id e.state))

  round-is : v.id.round ≡ p.id.round
  unfolding point_view
  round-is = ap (λ (w : PointView). w.id.round) same

  view-brings : (r : Bool) → ((t : Through) → r ≡ is_some (record_of c v.id.round e.certified t e.state)) → (given && r) ≡ is_some (brought c required p aim e)
  view-brings r f =
      ap (λ (w : PointView). (is_some aim || is_dependency (taken w (entry_id e.state))) && r) same
      ∙ entry-brings c required p e r (λ t. f t ∙ ap (λ (n : ℕ). is_some (record_of c n e.certified t e.state)) round-is) aim

  pub brings-given : (r : Bool) → ((t : Through) → r ≡ is_some (record_of c v.id.round e.certified t e.state)) → given ≡ true →
      r ≡ is_some (brought c required p aim e)
  brings-given r f h = ap (λ (b : Bool). b && r) (sym h) ∙ view-brings r f

  pub brings-nothing : given ≡ false → false ≡ is_some (brought c required p aim e)
  brings-nothing h =
      let r = is_some (record_of c v.id.round e.certified (Includes 0) e.state) in
      ap (λ (b : Bool). b && r) (sym h) ∙ view-brings r (λ t. record-any c v.id.round e.certified (Includes 0) t e.state)

-- ---- what is found

after-other : (o : Option PointId) (i : PointId) (l : List PointId) → is_other o i ≡ true → NoSingleMark ≡ by_one_after o (i ∷ l)
unfolding by_one all_same
after-other None i l h = impossible (cc)
after-other (Some j) i l h = go (same_id i j) h
  where
    go : (b : Bool) → not b ≡ true → NoSingleMark ≡ pick (b && all_same j l) (ClearedBy j) NoSingleMark
    go true g = impossible (cc)
    go false g = refl

after-same : (o : Option PointId) (i : PointId) (l : List PointId) → is_other o i ≡ false → by_one_after (Some i) l ≡ by_one_after o (i ∷ l)
unfolding by_one all_same
after-same None i l h = refl
after-same (Some j) i l h = go (same_id i j) refl h
  where
    go : (b : Bool) → same_id i j ≡ b → not b ≡ false → by_one_after (Some i) l ≡ pick (b && all_same j l) (ClearedBy j) NoSingleMark
    go true e g = rw (same_eq i j e) refl
    go false e g = impossible (cc)

module _ (c : Settings) (required : Bool) (p : PointInfo) where
  abbrev pub found : Option PointId → List ℕ → Clearing
  found o s = by_one_after o (recording c required p (listed s))

  pub found-none : (o : Option PointId) (s : List ℕ) → length s ≡ 0 → found o s ≡ by_one_after o []
  unfolding recording
  found-none o s h = ap (λ (l : List Listed). by_one_after o (recording c required p l)) (listed-end s h)

  module _ (o : Option PointId) (s : List ℕ) (x : Listed) (n : Next s x) where
    recorded : (b : Bool) → b ≡ is_some (brought c required p x.aim x.entry) →
        recording c required p (listed s) ≡ pick b (entry_id x.entry.state ∷ recording c required p (listed (drop x.size s))) (recording c required p (listed (drop x.size s)))
    unfolding recording
    recorded b h = ap (recording c required p) n.all ∙ rw h refl

    pub found-past : false ≡ is_some (brought c required p x.aim x.entry) → found o (drop x.size s) ≡ found o s
    found-past h = ap (by_one_after o) (sym (recorded false h))

    module _ (h : true ≡ is_some (brought c required p x.aim x.entry)) where
      pub found-other : is_other o (entry_id x.entry.state) ≡ true → NoSingleMark ≡ found o s
      found-other g = after-other o _ _ g ∙ ap (by_one_after o) (sym (recorded true h))

      pub found-same : is_other o (entry_id x.entry.state) ≡ false → found (Some (entry_id x.entry.state)) (drop x.size s) ≡ found o s
      found-same g = after-same o _ _ g ∙ ap (by_one_after o) (sym (recorded true h))

-- what was found, with what is left of a list, answers as the whole list does
abbrev pub Keeps : Settings → Bool → PointView → List ℕ → Option PointId → List ℕ → Type 0
Keeps c required v list o left =
    (is_some (read_list left) ≡ true)
    × ((p : PointInfo) → v ≡ point_view p → found c required p o left ≡ by_one (recording c required p (listed list)))

-- what is left stands as the part of the slice that the code takes
pub keeps_left : (c : Settings) (required : Bool) (v : PointView) (list : List ℕ) (o : Option PointId) (left t : List ℕ) → t ≡ left →
    Keeps c required v list o left → Keeps c required v list o t
keeps_left c required v list o left t e w = rw e w

-- ---- the call

not-trans : (v : Verdict) (ids : List PointId) → is_trans_invalid v ≡ false → cleared_of v ids ≡ NotWaiting
not-trans (Fail u) ids h = refl
not-trans (IllFormed r) ids h = refl
not-trans (Invalid r) ids h = refl
not-trans (TransInvalid d) ids h = impossible (cc)
not-trans Valid ids h = refl

trans : (v : Verdict) (ids : List PointId) → is_trans_invalid v ≡ true → cleared_of v ids ≡ by_one ids
trans (Fail u) ids h = impossible (cc)
trans (IllFormed r) ids h = impossible (cc)
trans (Invalid r) ids h = impossible (cc)
trans (TransInvalid d) ids h = refl
trans Valid ids h = impossible (cc)

module _ (c : Settings) (presence : ℕ) (p : PointInfo) (list : List ℕ) where
  pub from_number : (b : Before) (n : ℕ) → Number n ≡ judge_from c presence p list b → Err n ≡ clearing_from c presence p list b
  from_number b n h = ap (λ (a : JudgeAnswer). definition.clearing_of a (recording_from c presence p list b)) h

  pub from_other : (b : Before) (v : Verdict) → Given v ≡ judge_from c presence p list b → is_trans_invalid v ≡ false →
      Ok NotWaiting ≡ clearing_from c presence p list b
  from_other b v h g =
      ap Ok (sym (not-trans v (recording_from c presence p list b) g))
      ∙ ap (λ (a : JudgeAnswer). definition.clearing_of a (recording_from c presence p list b)) h

  module _ (required : Bool) (v : Verdict) (h : Given v ≡ judge_from c presence p list (needed required)) (g : is_trans_invalid v ≡ true) where
    given-injective : (a b : Verdict) → ◌≡◌ {A = JudgeAnswer} (Given a) (Given b) → a ≡ b
    given-injective a b e = cc

    -- an Invalid verdict is another
    not-invalid : {A : Type 0} (r : InvalidReason) → v ≡ Invalid r → A
    not-invalid r e = impossible (let f : is_trans_invalid v ≡ false = ap is_trans_invalid e in cc)

    two-rounds : 2 ≤ presence
    unfolding validate
    two-rounds = go presence h
      where
        go : (n : ℕ) → Given v ≡ judge_from c n p list (needed required) → 2 ≤ n
        go zero e = not-invalid _ (given-injective v _ e)
        go (suc zero) e = not-invalid _ (given-injective v _ e)
        go (suc (suc n)) e = omega arith

    over : Given v ≡ over_list c required presence p (read_list list)
    over = rw (le-leb 2 presence two-rounds) at h

    pub trans_reads : is_some (read_list list) ≡ true
    trans_reads = go (read_list list) over
      where
        go : (o : Option (List Listed)) → Given v ≡ over_list c required presence p o → is_some o ≡ true
        go None e = impossible (cc)
        go (Some l) e = refl

    pub from_trans : (x : Clearing) → x ≡ by_one (recording c required p (listed list)) → Ok x ≡ clearing_from c presence p list (needed required)
    from_trans x e =
        ap Ok (e ∙ (ap by_one ids ∙ sym (trans v (recording_from c presence p list (needed required)) g)))
        ∙ ap (λ (a : JudgeAnswer). definition.clearing_of a (recording_from c presence p list (needed required))) h
      where
        among : (o : Option (List Listed)) → read_list list ≡ o → is_some o ≡ true → recording c required p (listed list) ≡ recording_over c required p o
        among None q r = impossible (cc)
        among (Some l) q r = ap (recording c required p) (listed-is list l q)

        ids : recording c required p (listed list) ≡ recording_from c presence p list (needed required)
        ids = among (read_list list) refl trans_reads ∙ rw (le-leb 2 presence two-rounds) refl

pub ruleset from_facts = (from_number, from_other, trans_reads, from_trans)

-- an answer that is known before the list is not TransInvalid
before-other : (o : Option VerifyError) (genesis : Bool) (w : WaveChecked) (v : Verdict) → answered (Given v) ≡ before_with o genesis w → is_trans_invalid v ≡ false
before-other (Some (case-error.Fail u)) genesis w v h = let e : v ≡ Fail u = cc in ap is_trans_invalid e
before-other (Some (case-error.IllFormed r)) genesis w v h = let e : v ≡ IllFormed r = cc in ap is_trans_invalid e
before-other None true w v h = let e : v ≡ Valid = cc in ap is_trans_invalid e
before-other None false case-wave.Horizon v h = impossible (cc)
before-other None false (case-wave.IllFormed r) v h = let e : v ≡ IllFormed r = cc in ap is_trans_invalid e
before-other None false (case-wave.Sound required) v h = impossible (cc)

judged-other : (c : Settings) (s : Schedule) (leader : Bool) (p : PointInfo) (v : Verdict) → answered (Given v) ≡ before c s leader p → is_trans_invalid v ≡ false
unfolding before
judged-other c s leader p v h = before-other _ _ _ v h

module _ (leader presence : ℕ) (list : List ℕ) (t : Tested) where
  pub with-refused : (n : ℕ) (a : Result Clearing ℕ) → refused n ≡ t → a ≡ Err n → a ≡ clearing_with leader presence list t
  unfolding judge_with_in recording_with
  with-refused n a h e = e ∙ rw (← h) refl

  -- numbers 1 to 4 admitted the input, and this is known before the list
  module _ (i : Input) (h : admitted i ≡ t) where
    pub with-admitted : (b : Before) (a : Result Clearing ℕ) → b ≡ before i.settings i.schedule (eqb leader 1) i.point →
        a ≡ clearing_from i.settings presence i.point list b → a ≡ clearing_with leader presence list t
    unfolding judge_with_in recording_with
    with-admitted b a e f = f ∙ rw (← h, e) refl

    pub with-judged : (v : Verdict) → answered (Given v) ≡ before i.settings i.schedule (eqb leader 1) i.point → Ok NotWaiting ≡ clearing_with leader presence list t
    with-judged v e = with-admitted (answered (Given v)) (Ok NotWaiting) e (ap Ok (sym (not-trans v [] (judged-other _ _ _ _ v e))))
