-- Laws of the call: which rows a judgement has, and what the call tells of them.
use Rattle.std.specs.Prelude.{Option, None, Some, is_some, option_map, Result, Err, Ok}
use Rattle.std.specs.Bool.{then_some}
use Prim.Native.Nat.{ℕ, zero, suc, ◌+◌, ◌≤◌, ◌*◌}
use native.Mathlib.Nat.{zero-add}
use native.Mathlib.Omega.{arith}
use mathlib.Core.Path.{◌≡◌, refl, ap, sym, ◌∙◌}
use mathlib.Core.Bool.{Bool, true, false, not, ◌&&◌, ◌||◌}
use mathlib.Core.List.{List, [], ◌∷◌}
use lib.ListN.{length, take}
use lib.Dec.{ltb, eqb}
use borrow.Author.Tests.{ne_eqb, le-leb, lt-ltb, le-ltb}
use Rattle.base.specs.Base.{pick, is_empty}
use Rattle.base.proofs.Impossible.{impossible}
use Rattle.base.proofs.Option.{some_of}
use Rattle.parts.specs.Bytes.{put_at}
use Rattle.write.proofs.Laws.{put_nothing, put_read}
use Rattle.point.specs.Point.{PointInfo, prev_id}
use Rattle.point.specs.declared.data.PointMap.TheVariants as case-map
use Rattle.schedule.specs.Settings.{Settings}
use Rattle.reasons.specs.Invalid.{InvalidReason, NoRoundInDag}
use Rattle.reasons.specs.Verdict.{Verdict, Invalid}
use Rattle.rules.specs.DagPoint.{Entry, IndirectEntry}
use Rattle.rules.specs.Validate.{over_lists, validate}
use Rattle.rules.specs.Judge.{Input, Tested, refused, admitted, JudgeAnswer, Number, Given, Before, answered, needed, before, judge_from, over_list, judge_with, judge_with_in}
use Rattle.rules.specs.List.{Listed, read_list, directs, indirects}
use Rattle.rules.specs.Mismatch.{mismatch, uncovered}
use Rattle.rules.specs.Trail.{Row, row, rule_row, trail, list_rows, trail_from, trail_with, rows_bytes, fitted, rows_told, trail_told}
use Rattle.rules.proofs.TrailRoom.{list_rows-room}
use Rattle.judge_mismatch.proofs.Heads.{listed-is}
use Rattle.reasons.specs.Code.{reason_of, verdict_of}
use Rattle.reasons.specs.declared.invalid.InvalidReason as code-reason
use Rattle.reasons.specs.Refusal.{refusal_number}
use Rattle.reasons.specs.declared.refusal.Refusal.{Refusal}
use Rattle.reasons.specs.declared.verdict.Verdict as code-verdict
use Rattle.trail_rows.specs.Code.{Put, Filled}
use Rattle.trail.specs.Code.{ReasonOf, rows_over, Kept}
use Rattle.trail.specs.Call.{Told, answer_of, count_of}
use Rattle.trail.specs.declared.call.Trailed as code
use Rattle.rules.proofs.Rows.{rows_length}
use Rattle.trail.proofs.Reasons.{no-rows}

-- ---- which rows there are

given-of : (a b : Bool) (w v : Verdict) → pick a (Number 8) (pick b (Number 9) (Given w)) ≡ Given v → w ≡ v
given-of true b w v h = impossible (cc)
given-of false true w v h = impossible (cc)
given-of false false w v h = cc

module _ (c : Settings) (required : Bool) (p : PointInfo) where
  abbrev lacks : ℕ → Bool
  lacks presence = eqb presence 2 && not (is_empty p.witness)

  -- with the includes' round in the DAG
  module _ (presence : ℕ) (two : 2 ≤ presence) (es : List Entry) (ts : List IndirectEntry) where
    validated : (b : Bool) → b ≡ lacks presence → validate c required presence p es ts ≡ pick b (Invalid (NoRoundInDag case-map.Witness)) (over_lists c required p es ts)
    unfolding validate
    validated b h = rw (h, ne_eqb presence 0 (λ e. omega (arith, two, e)), ne_eqb presence 1 (λ e. omega (arith, two, e))) refl

    trailed : (b : Bool) → b ≡ lacks presence → trail c required presence p es ts ≡ pick b (rule_row case-map.Witness) (list_rows c required p es ts)
    unfolding trail
    trailed b h = rw (h, ne_eqb presence 0 (λ e. omega (arith, two, e)), ne_eqb presence 1 (λ e. omega (arith, two, e))) refl

  -- what is known of a call that reads its list
  record Over (presence : ℕ) (list : List ℕ) (v : Verdict) : Type 0 where
    l : List Listed
    read : read_list list ≡ Some l
    verdict : validate c required presence p (directs l) (indirects l) ≡ v
    rows : trail_from c presence p list (needed required) ≡ trail c required presence p (directs l) (indirects l)

  over : (presence : ℕ) (list : List ℕ) (v : Verdict) → 2 ≤ presence → judge_from c presence p list (needed required) ≡ Given v → Over presence list v
  over presence list v two h = go (read_list list) refl
    where
      passed : judge_from c presence p list (needed required) ≡ over_list c required presence p (read_list list)
      passed = rw (le-leb 2 presence two) refl

      go : (o : Option (List Listed)) → read_list list ≡ o → Over presence list v
      go None e = impossible (let g : Number 7 ≡ Given v = sym (ap (over_list c required presence p) e) ∙ (sym passed ∙ h) in cc)
      go (Some l) e =
          let g : over_list c required presence p (Some l) ≡ Given v = sym (ap (over_list c required presence p) e) ∙ (sym passed ∙ h) in
          record {
            l = l;
            read = e;
            verdict = given-of (mismatch presence p (directs l) (indirects l)) (uncovered (prev_id p) (directs l) (indirects l)) _ v g;
            rows = rw (le-leb 2 presence two, e) refl;
          }

  module _ (list : List ℕ) where
    abbrev rows_of : ℕ → List Row
    rows_of presence = trail_from c presence p list (needed required)

    abbrev alone : ℕ → Bool
    alone presence = ltb presence 2 || lacks presence

    -- past the presence rule's first two
    module _ (presence : ℕ) (two : 2 ≤ presence) where
      other-over : (v : Verdict) → judge_from c presence p list (needed required) ≡ Given v → ReasonOf v None → rows_of presence ≡ []
      other-over v h g = go (lacks presence) refl
        where
          o : Over presence list v
          o = over presence list v two h

          go : (b : Bool) → b ≡ lacks presence → rows_of presence ≡ []
          go true e =
              absurd (g (NoRoundInDag case-map.Witness) (sym o.verdict ∙ validated presence two (directs o.l) (indirects o.l) true e))
          go false e =
              let same : over_lists c required p (directs o.l) (indirects o.l) ≡ v = sym (validated presence two (directs o.l) (indirects o.l) false e) ∙ o.verdict in
              o.rows
              ∙ (trailed presence two (directs o.l) (indirects o.l) false e
              ∙ no-rows c required p (directs o.l) (indirects o.l) (λ r k. g r (sym same ∙ k)))

      alone-is : alone presence ≡ lacks presence
      alone-is = ap (λ (a : Bool). a || lacks presence) (le-ltb presence 2 two)

      invalid-over : (r : InvalidReason) (b : Bool) → judge_from c presence p list (needed required) ≡ Given (Invalid r) → b ≡ lacks presence →
          rows_of presence ≡ rows_over c required p list (pick b (Some r) None)
      invalid-over r true h e =
          let o = over presence list (Invalid r) two h in
          let k : Invalid (NoRoundInDag case-map.Witness) ≡ Invalid r = sym (validated presence two (directs o.l) (indirects o.l) true e) ∙ o.verdict in
          let m : NoRoundInDag case-map.Witness ≡ r = cc in
          o.rows ∙ (trailed presence two (directs o.l) (indirects o.l) true e ∙ ap (λ (x : InvalidReason). row 0 0 x ∷ []) m)
      invalid-over r false h e =
          let o = over presence list (Invalid r) two h in
          o.rows
          ∙ (trailed presence two (directs o.l) (indirects o.l) false e
          ∙ ap (λ (l : List Listed). list_rows c required p (directs l) (indirects l)) (sym (listed-is list o.l o.read)))

    -- a verdict that isn't Invalid
    pub other-rows : (presence : ℕ) (v : Verdict) → judge_from c presence p list (needed required) ≡ Given v → ReasonOf v None → rows_of presence ≡ []
    unfolding validate
    other-rows zero v h g = absurd (g (NoRoundInDag case-map.Evidence) (cc))
    other-rows (suc zero) v h g = absurd (g (NoRoundInDag case-map.Includes) (cc))
    other-rows (suc (suc n)) v h g = other-over (suc (suc n)) (omega arith) v h g

    pub invalid-rows : (presence : ℕ) (r : InvalidReason) (b : Bool) → judge_from c presence p list (needed required) ≡ Given (Invalid r) → b ≡ alone presence →
        rows_of presence ≡ rows_over c required p list (pick b (Some r) None)
    unfolding validate trail
    invalid-rows zero r b h g = let m : NoRoundInDag case-map.Evidence ≡ r = cc in rw g (ap (λ (x : InvalidReason). row 0 0 x ∷ []) m)
    invalid-rows (suc zero) r b h g = let m : NoRoundInDag case-map.Includes ≡ r = cc in rw g (ap (λ (x : InvalidReason). row 0 0 x ∷ []) m)
    invalid-rows (suc (suc n)) r b h g =
        let two : 2 ≤ suc (suc n) = omega arith in
        invalid-over (suc (suc n)) two r b h (g ∙ alone-is (suc (suc n)) two)

    pub invalid-reads : (presence : ℕ) (r : InvalidReason) → judge_from c presence p list (needed required) ≡ Given (Invalid r) → false ≡ alone presence →
        is_some (read_list list) ≡ true
    invalid-reads zero r h g = impossible (cc)
    invalid-reads (suc zero) r h g = impossible (cc)
    invalid-reads (suc (suc n)) r h g = ap is_some (over (suc (suc n)) list (Invalid r) (omega arith) h).read

-- the reason that stands alone, as the code says it
pub alone_told : (b : Bool) (x : code-reason.InvalidReason) (o : Option code-reason.InvalidReason) → o ≡ then_some b x → option_map reason_of o ≡ pick b (Some (reason_of x)) None
alone_told true x o h = ap (option_map reason_of) h
alone_told false x o h = ap (option_map reason_of) h

-- a trail of eight bytes more than the list has room for all rows
pub rows_fit : (c : Settings) (required : Bool) (p : PointInfo) (s : List ℕ) (alone : Option code-reason.InvalidReason) →
    (alone ≡ None → is_some (read_list s) ≡ true) → 8 * length (rows_over c required p s (option_map reason_of alone)) ≤ length s + 8
rows_fit c required p s None h = let l = some_of (read_list s) (h refl) in rw (listed-is s l.0 l.1) (list_rows-room c required p s l.0 l.1)
rows_fit c required p s (Some r) h = omega arith

-- what was put is kept
pub put_kept : (old kept : List ℕ) (rows : List Row) (m : ℕ) → Put old 0 rows kept m → Kept rows kept m
put_kept old kept rows m q =
    record {
      count = q.count ∙ zero-add (length rows);
      bytes = λ h.
          let size = q.same in
          let n = q.count in
          let e : 8 * m ≡ length (rows_bytes rows) = let l = rows_length rows in omega arith in
          ap (take (8 * m)) (q.bytes (omega arith)) ∙ (put_read old 0 (rows_bytes rows) (8 * m) (sym e) (omega arith));
    }

-- ---- what the call tells

module _ (answer : JudgeAnswer) (rows : List Row) (old : List ℕ) where
  told-by : (new : List ℕ) (r : Result code.Trailed Refusal) (f : JudgeAnswer) → fitted answer rows (length old) ≡ f → answer_of r ≡ f →
      ((k : ℕ) → count_of r k ≡ rows_told f rows k) → new ≡ trail_told f rows old → Told answer rows old new r
  told-by new r f e a n t =
      record {
        same = a ∙ sym e;
        count = λ k. n k ∙ ap (λ (g : JudgeAnswer). rows_told g rows k) (sym e);
        written = t ∙ ap (λ (g : JudgeAnswer). trail_told g rows old) (sym e);
      }

  -- a number in place of a verdict
  pub told-number : (r : Refusal) → Number (refusal_number r) ≡ answer → Told answer rows old old (Err r)
  told-number r e =
      told-by old (Err r) (Number (refusal_number r)) (ap (λ (a : JudgeAnswer). fitted a rows (length old)) (sym e)) refl (λ k. refl) refl

  module _ (v : code-verdict.Verdict) (e : Given (verdict_of v) ≡ answer) where
    fits : 8 * length rows ≤ length old → fitted answer rows (length old) ≡ Given (verdict_of v)
    fits h = rw (← e, le-ltb (length old) (8 * length rows) h) refl

    -- the rows were put, or they don't fit
    pub told-filled : (new : List ℕ) (n : ℕ) → Filled 15 rows old new (Ok n) → Told answer rows old new (Ok (record { verdict = v; rows = n }))
    told-filled new n g = told-by new (Ok (record { verdict = v; rows = n })) (Given (verdict_of v)) (fits g.1) refl (λ k. g.0) g.2

    -- no row
    pub told-none : rows ≡ [] → Told answer rows old old (Ok (record { verdict = v; rows = 0 }))
    unfolding rows_bytes
    told-none h =
        told-filled old 0 (ap length (sym h), rw h (omega arith), sym (ap (λ (l : List Row). put_at old 0 (rows_bytes l)) h ∙ put_nothing old 0))

    pub told-short : (new : List ℕ) (r : Refusal) → Filled 15 rows old new (Err r) → Told answer rows old new (Err r)
    told-short new r g =
        told-by new (Err r) (Number 15) (rw (← e, lt-ltb (length old) (8 * length rows) g.1) refl) (ap Number g.0) (λ k. refl) g.2

-- ---- the whole call, from what its input was tested for

module _ (leader presence : ℕ) (list : List ℕ) (t : Tested) (old : List ℕ) where
  abbrev pub Called : List ℕ → Result code.Trailed Refusal → Type 0
  Called new r = Told (judge_with leader presence list t) (trail_with leader presence list t) old new r

  pub called-number : (a : Result code.Trailed Refusal) (r : Refusal) → a ≡ Err r → t ≡ refused (refusal_number r) → Called old a
  unfolding judge_with_in trail_with
  called-number a r e h = rw (e, h) (told-number (Number (refusal_number r)) [] old r refl)

  module _ (i : Input) (h : t ≡ admitted i) (b : Before) (g : b ≡ before i.settings i.schedule (eqb leader 1) i.point) where
    pub called-from : (new : List ℕ) (a : Result code.Trailed Refusal) →
        Told (judge_from i.settings presence i.point list b) (trail_from i.settings presence i.point list b) old new a → Called new a
    unfolding judge_with_in trail_with
    called-from new a k = rw (h, ← g) k

    -- a number, or a verdict, before the list
    pub called-refused : (a : Result code.Trailed Refusal) (r : Refusal) → a ≡ Err r → b ≡ answered (Number (refusal_number r)) → Called old a
    called-refused a r e k =
        called-from old a (rw (e, k) (told-number (Number (refusal_number r)) [] old r refl))

    pub called-judged : (v : code-verdict.Verdict) → b ≡ answered (Given (verdict_of v)) → Called old (Ok (record { verdict = v; rows = 0 }))
    called-judged v k =
        called-from old (Ok (record { verdict = v; rows = 0 })) (rw k (told-none (Given (verdict_of v)) [] old v refl refl))
