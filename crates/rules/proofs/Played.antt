-- What the network's orders give (ticket U11): one verdict for all of them, or a verdict over the entries for each of their orders.
use Rattle.std.specs.Prelude.{Option, None, Some, Err, Ok, Result}
use Prim.Native.Nat.{ℕ, ◌*◌, ◌≤◌}
use native.Mathlib.Omega.{arith}
use native.Mathlib.Decide.{dec_lt}
use lib.Dec.{ltb, leb, eqb}
use lib.ListN.{length}
use borrow.Author.Tests.{eq-eqb, le-leb, le-ltb}
use mathlib.Core.Path.{◌≡◌, refl, sym, ap, ◌∙◌, subst}
use mathlib.Core.Logic.{◌⊎◌, inl, inr}
use mathlib.Core.Bool.{Bool, true, false, not, ◌&&◌}
use mathlib.Core.List.{List, [], ◌++◌, Permᴰ}
use Rattle.base.specs.Base.{pick, concat, is_empty, last_of}
use Rattle.base.proofs.Bool.{clash}
use Rattle.base.proofs.Impossible.{impossible}
use Rattle.base.proofs.Option.{none-some}
use Rattle.parts.specs.Limits.{peers_room}
use Rattle.point.specs.Point.{PointInfo, in_domain, prev_id}
use Rattle.point.specs.Reading.{read_point}
use Rattle.point.specs.declared.data.PointMap.{PointMap}
use Rattle.point.specs.declared.data.PointMap.TheVariants as maps
use Rattle.schedule.specs.Settings.{Settings, read_settings}
use Rattle.schedule.specs.Schedule.{Schedule, read_schedule}
use Rattle.reasons.specs.Invalid.{InvalidReason, NoRoundInDag}
use Rattle.reasons.specs.Verdict as verdict
use Rattle.rules.specs.DagPoint.{Entry, IndirectEntry}
use Rattle.rules.specs.List.{Listed, read_list, read_list_in, directs, indirects}
use Rattle.rules.specs.Mismatch.{mismatch, uncovered}
use Rattle.rules.specs.Verify.{verify}
use Rattle.rules.specs.CheckIllFormed.{wave_checked}
use Rattle.rules.specs.Validate.{over_lists, validate}
use Rattle.rules.specs.Judge.{Tested, refused, admitted, tested_with, tested_in, flags_ok, JudgeAnswer, Number, Given, Before, answered, needed, before, over_entries, over_list, judge_from, judge_with, judge_with_in}
use Rattle.rules.specs.Told.{Call, judged}
use Rattle.rules.specs.AnyOrder.{IsEntry}
use Rattle.rules.specs.Trail.{Row, rule_row}
use Rattle.rules.specs.Force.{finals, ranked, forceable, forceable_over, forceable_from, forceable_with, forced_of}
use Rattle.rules.specs.Forced.{Game, Arrival, handed_in, arrived, tested_of, rows_of, Lists}
use Rattle.rules.proofs.All.{All}
use Rattle.rules.proofs.Perms.{members_all}
use Rattle.rules.proofs.Places.{mismatch_perm, uncovered_perm}
use Rattle.rules.proofs.Arranged.{Arranged, lists_arranged, directs_perm, indirects_perm}
use Rattle.rules.proofs.Arrivals.{order_of}
use Rattle.rules.proofs.RowsWithin.{directs-few, indirects-few, list-few}
use Rattle.rules.proofs.Fired.{RowsOf, CallRows, BeforeRows, before-rows}

-- ---- the presence rules, or the two lists

module _ (c : Settings) (required : Bool) (presence : ℕ) (p : PointInfo) where
  abbrev pub Ruled : Type 0
  Ruled =
      (m : PointMap)
      × ((es : List Entry) (ts : List IndirectEntry) →
      (forceable c required presence p es ts ≡ rule_row m) × (validate c required presence p es ts ≡ verdict.Invalid (NoRoundInDag m)))

  abbrev pub Unruled : Type 0
  Unruled =
      (leb 2 presence ≡ true)
      × ((es : List Entry) (ts : List IndirectEntry) →
      (forceable c required presence p es ts ≡ ranked (finals c required p es ts)) × (validate c required presence p es ts ≡ over_lists c required p es ts))

  two_present : eqb presence 0 ≡ false → eqb presence 1 ≡ false → leb 2 presence ≡ true
  two_present a b = elim (dec_lt presence 2) [
    | no h ↦ le-leb 2 presence (omega arith)
    | yes h ↦ elim (dec_lt presence 1) [
      | yes k ↦ clash (eqb presence 0) (eq-eqb presence 0 (omega arith)) a
      | no k ↦ clash (eqb presence 1) (eq-eqb presence 1 (omega arith)) b
    ]
  ]

  pub ruled_or : Ruled ⊎ Unruled
  unfolding forceable validate
  ruled_or = go (eqb presence 0) refl (eqb presence 1) refl (eqb presence 2 && not (is_empty p.witness)) refl
    where
      go : (x : Bool) → eqb presence 0 ≡ x → (y : Bool) → eqb presence 1 ≡ y → (z : Bool) → (eqb presence 2 && not (is_empty p.witness)) ≡ z →
          Ruled ⊎ Unruled
      go true a y b z d = inl (maps.Evidence, λ es ts. (rw a refl, rw a refl))
      go false a true b z d = inl (maps.Includes, λ es ts. (rw (a, b) refl, rw (a, b) refl))
      go false a false b true d = inl (maps.Witness, λ es ts. (rw (a, b, d) refl, rw (a, b, d) refl))
      go false a false b false d = inr (two_present a b, λ es ts. (rw (a, b, d) refl, rw (a, b, d) refl))

-- ---- what the orders give

-- no row, and a verdict without a reason; or the presence rule's
abbrev pub NoneOrRule : List Row → verdict.Verdict → Type 0
NoneOrRule rows v =
    ((rows ≡ []) × ((r : InvalidReason) → v ≡ verdict.Invalid r → ⊥)) ⊎ ((m : PointMap) × (rows ≡ rule_row m) × (v ≡ verdict.Invalid (NoRoundInDag m)))

-- one verdict
pub record OneVerdict (g : Game) (rows : List Row) : Type 0 where
  pub always : verdict.Verdict
  pub gives : (a : Arrival g) → judged (arrived g a) ≡ Given always
  pub rows_are : NoneOrRule rows always

-- or those over the entries in each order
pub record ByOrder (g : Game) (rows : List Row) : Type 0 where
  pub settings : Settings
  pub required : Bool
  pub point : PointInfo
  pub entries : List Entry
  pub targets : List IndirectEntry
  pub few : (length entries ≤ 65535) × (length targets ≤ 65535)
  pub rows_are : rows ≡ ranked (finals settings required point entries targets)
  pub from : (a : Arrival g) →
      (es : List Entry)
      × (ts : List IndirectEntry)
      × Permᴰ entries es
      × Permᴰ targets ts
      × (judged (arrived g a) ≡ Given (over_lists settings required point es ts))
  pub to : (es : List Entry) (ts : List IndirectEntry) → Permᴰ entries es → Permᴰ targets ts →
      (a : Arrival g) × (judged (arrived g a) ≡ Given (over_lists settings required point es ts))

abbrev pub Played : Game → List Row → Type 0
Played g rows = OneVerdict g rows ⊎ ByOrder g rows

-- ---- over a list

over_perm : (c : Settings) (required : Bool) (presence : ℕ) (p : PointInfo) {es es' : List Entry} {ts ts' : List IndirectEntry} → Permᴰ es es' →
    Permᴰ ts ts' →
    mismatch presence p es ts ≡ false → uncovered (prev_id p) es ts ≡ false →
    over_entries c required presence p es' ts' ≡ Given (validate c required presence p es' ts')
over_perm c required presence p d f h k = rw (sym (mismatch_perm presence p d f) ∙ h, sym (uncovered_perm (prev_id p) d f) ∙ k)

matched : (c : Settings) (required : Bool) (presence : ℕ) (p : PointInfo) (es : List Entry) (ts : List IndirectEntry) (v : verdict.Verdict) →
    over_entries c required presence p es ts ≡ Given v → (mismatch presence p es ts ≡ false) × (uncovered (prev_id p) es ts ≡ false)
matched c required presence p es ts v = go (mismatch presence p es ts) (uncovered (prev_id p) es ts)
  where
    go : (m u : Bool) → pick m (Number 8) (pick u (Number 9) (Given (validate c required presence p es ts))) ≡ Given v →
        (m ≡ false) × (u ≡ false)
    go true u h = impossible (cc)
    go false true h = impossible (cc)
    go false false h = (refl, refl)

module _ (g : Game) where
  abbrev handed_list : List ℕ
  handed_list = concat g.directs ++ concat g.indirects

  abbrev list_in : Arrival g → List ℕ
  list_in a = concat a.directs ++ concat a.indirects

  all-direct : All (IsEntry false) g.directs
  all-direct = members_all (IsEntry false) g.directs g.are_direct

  all-indirect : All (IsEntry true) g.indirects
  all-indirect = members_all (IsEntry true) g.indirects g.are_indirect

  -- what is read of an order
  arrival_list : (a : Arrival g) (l : List Listed) → read_list handed_list ≡ Some l →
      (m : List Listed) × (read_list (list_in a) ≡ Some m) × Permᴰ l m
  arrival_list a l r =
      go (read_list (list_in a)) refl
      (subst (λ (o : Option (List Listed)). Arranged o (read_list (list_in a))) r
      (lists_arranged g.directs a.directs g.indirects a.indirects all-direct all-indirect a.same_directs a.same_indirects))
    where
      go : (o : Option (List Listed)) → read_list (list_in a) ≡ o → Arranged (Some l) o →
          (m : List Listed) × (read_list (list_in a) ≡ Some m) × Permᴰ l m
      go None e h = absurd h
      go (Some m) e h = (m, e, h)

  few_read : (l : List Listed) → read_list handed_list ≡ Some l → (length (directs l) ≤ 65535) × (length (indirects l) ≤ 65535)
  unfolding read_list_in
  few_read l r =
      let n = list-few 65535 false handed_list l r in
      let d = directs-few l in
      let i = indirects-few l in
      (omega (arith, n, d), omega (arith, n, i))

  module _ (c : Settings) (required : Bool) (presence : ℕ) (p : PointInfo) where
    abbrev Judges : Type 0
    Judges = (a : Arrival g) → judged (arrived g a) ≡ over_list c required presence p (read_list (list_in a))

    abbrev Matches : List Listed → Type 0
    Matches l = (mismatch presence p (directs l) (indirects l) ≡ false) × (uncovered (prev_id p) (directs l) (indirects l) ≡ false)

    module _ (l : List Listed) (r : read_list handed_list ≡ Some l) (k : Matches l) (h : Judges) where
      -- an order's verdict
      verdict_of : (a : Arrival g) →
          let w = arrival_list a l r in judged (arrived g a) ≡ Given (validate c required presence p (directs w.0) (indirects w.0))
      verdict_of a =
          let w = arrival_list a l r in
          h a ∙ (ap (over_list c required presence p) w.1 ∙ over_perm c required presence p (directs_perm w.2) (indirects_perm w.2) k.0 k.1)

      by_order : Unruled c required presence p → ByOrder g (forceable c required presence p (directs l) (indirects l))
      by_order (two, f) =
          record {
            settings = c;
            required = required;
            point = p;
            entries = directs l;
            targets = indirects l;
            few = few_read l r;
            rows_are = (f (directs l) (indirects l)).0;
            from =
                λ a.
                (let w = arrival_list a l r in
                (directs w.0, indirects w.0, directs_perm w.2, indirects_perm w.2, verdict_of a ∙ ap Given (f (directs w.0) (indirects w.0)).1));
            to =
                λ es ts d f'.
                (let o = order_of g.directs g.indirects all-direct all-indirect l r es ts d f' in
                let a : Arrival g = record { directs = o.direct; indirects = o.indirect; same_directs = o.same_direct; same_indirects = o.same_indirect } in (
                  a,
                  h a
                      ∙ (ap (over_list c required presence p) o.reads.1
                      ∙ (ap (λ (x : List Entry). over_entries c required presence p x (indirects o.reads.0)) o.reads.2
                      ∙ (ap (λ (x : List IndirectEntry). over_entries c required presence p es x) o.reads.3
                      ∙ (over_perm c required presence p d f' k.0 k.1 ∙ ap Given (f es ts).1)))),
                ));
          }

      played-list : Ruled c required presence p ⊎ Unruled c required presence p →
          Played g (forceable c required presence p (directs l) (indirects l))
      played-list (inl (q, f)) =
          inl
          (record {
            always = verdict.Invalid (NoRoundInDag q);
            gives = λ a. (let w = arrival_list a l r in verdict_of a ∙ ap Given (f (directs w.0) (indirects w.0)).1);
            rows_are = inr (q, (f (directs l) (indirects l)).0, refl);
          })
      played-list (inr f) = inr (by_order f)

    played_read : (o : Option (List Listed)) → read_list handed_list ≡ o → (v : verdict.Verdict) → over_list c required presence p o ≡ Given v →
        Judges →
        Played g (forceable_over c required presence p o)
    played_read None r v e h = impossible (cc)
    played_read (Some l) r v e h =
        let k = matched c required presence p (directs l) (indirects l) v e in
        played-list l r k h (ruled_or c required presence p)

  -- ---- a call

  silent_before : (w : verdict.Verdict) → CallRows (Given w) [] → (r : InvalidReason) → w ≡ verdict.Invalid r → ⊥
  unfolding last_of
  silent_before w h r e = none-some (subst (λ (x : verdict.Verdict). RowsOf x []) e h).0

  module _ (c : Settings) (presence : ℕ) (p : PointInfo) (v : verdict.Verdict) where
    played_from : (b : Before) → BeforeRows b → judge_from c presence p handed_list b ≡ Given v →
        ((a : Arrival g) → judged (arrived g a) ≡ judge_from c presence p (list_in a) b) → Played g (forceable_from c presence p handed_list b)
    played_from (answered (Number n)) k e h = impossible (cc)
    played_from (answered (Given w)) k e h = inl (record { always = w; gives = h; rows_are = inl (refl, silent_before w k) })
    played_from (needed required) k e h = go (leb 2 presence) refl e h
      where
        go : (b : Bool) → leb 2 presence ≡ b →
            pick b (over_list c required presence p (read_list handed_list)) (Given (validate c required presence p [] [])) ≡ Given v →
            ((a : Arrival g) → judged (arrived g a) ≡ pick b (over_list c required presence p (read_list (list_in a))) (Given (validate c required presence p [] []))) →
            Played g (pick b (forceable_over c required presence p (read_list handed_list)) (forceable c required presence p [] []))
        go true q e h = played_read c required presence p (read_list handed_list) refl v e h
        go false q e h = elim (ruled_or c required presence p) [
          | inl f ↦ inl (record {
            always = verdict.Invalid (NoRoundInDag f.0);
            gives = λ a. h a ∙ ap Given (f.1 [] []).1;
            rows_are = inr (f.0, (f.1 [] []).0, refl);
          })
          | inr f ↦ clash (leb 2 presence) f.0 q
        ]

  played_with : (t : Tested) (v : verdict.Verdict) → judge_with g.call.leader g.call.presence handed_list t ≡ Given v →
      ((a : Arrival g) → judged (arrived g a) ≡ judge_with g.call.leader g.call.presence (list_in a) t) →
      Played g (forceable_with g.call.leader g.call.presence handed_list t)
  unfolding judge_with_in forceable_with before
  played_with (refused n) v e h = impossible (cc)
  played_with (admitted i) v e h =
      played_from i.settings g.call.presence i.point v (before i.settings i.schedule (eqb g.call.leader 1) i.point)
      (before-rows (verify i.settings i.schedule i.point) (eqb i.point.id.round i.settings.genesis_round) (wave_checked i.schedule (eqb g.call.leader 1) i.point))
      e h

-- ---- without a peer buffer

tested_room : (o : Option Settings) (q : Option Schedule) (u : Option PointInfo) (others : Bool) (size : ℕ) → peers_room ≤ size →
    tested_with o q u others size ≡ tested_with o q u others peers_room
tested_room None q u others size h = refl
tested_room (Some c) None u others size h = refl
tested_room (Some c) (Some s) None others size h = refl
tested_room (Some c) (Some s) (Some p) others size h =
    ap (λ (b : Bool). pick (not (in_domain p && others)) (refused 4) (pick b (refused 5) (admitted (record { settings = c; schedule = s; point = p }))))
    (le-ltb size peers_room h ∙ sym (le-ltb peers_room peers_room (omega arith)))

pub judged_room : (x : Call) → peers_room ≤ x.size → judged x ≡ judge_with x.leader x.presence x.list (tested_of x)
unfolding tested_in
judged_room x h =
    ap (judge_with x.leader x.presence x.list)
    (tested_room (read_settings x.settings) (read_schedule x.schedule) (read_point x.point) (flags_ok x.leader x.presence) x.size h)

pub given_list : (a : JudgeAnswer) (l rows : List Row) (size : ℕ) → forced_of a l size ≡ Ok rows →
    (v : verdict.Verdict) × (a ≡ Given v) × (l ≡ rows)
given_list (Number n) l rows size h = impossible (cc)
given_list (Given v) l rows size h = go (ltb size (8 * length l)) h
  where
    go : (b : Bool) → pick {A = Result (List Row) ℕ} b (Err 17) (Ok l) ≡ Ok rows → (w : verdict.Verdict) × (Given v ≡ Given w) × (l ≡ rows)
    go true k = impossible (cc)
    go false k = (v, refl, cc)

pub played : (g : Game) (rows : List Row) → Lists g rows → Played g rows
played g rows (size, h) =
    let t = tested_of g.call in
    let w = given_list (judge_with g.call.leader g.call.presence (handed_list g) t) (rows_of (handed_in g)) rows size h in
    subst (Played g) w.2 (played_with g t w.0 w.1 (λ a. judged_room (arrived g a) g.room))
