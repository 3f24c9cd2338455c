-- Ticket U11's statement holds.
use Rattle.std.specs.Prelude.{Option, None, Some, Err, Ok, Result}
use Prim.Native.Nat.{ℕ, ◌*◌, ◌<◌, ◌≤◌}
use native.Mathlib.Omega.{arith}
use lib.Dec.{ltb, leb, eqb}
use lib.ListN.{length}
use borrow.Author.Tests.{ltb-true, lt-ltb, le-ltb}
use mathlib.Core.Path.{◌≡◌, refl, sym, ap, ◌∙◌, subst}
use mathlib.Core.Logic.{inl, inr}
use mathlib.Core.Bool.{Bool, true, false, not, ◌&&◌}
use mathlib.Core.List.Memᴰ
use mathlib.Core.List.Permᴰ
use mathlib.Core.List.{List, [], ◌∷◌, Memᴰ}
use Rattle.base.specs.Base.{pick, last_of}
use Rattle.base.proofs.Bool.{clash}
use Rattle.base.proofs.Impossible.{impossible}
use Rattle.base.proofs.Option.{has}
use Rattle.parts.specs.Limits.{peers_room}
use Rattle.point.specs.Point.{PointInfo, in_domain, prev_id}
use Rattle.point.specs.Reading.{read_point}
use Rattle.point.specs.declared.data.PointMap.{PointMap}
use Rattle.schedule.specs.Settings.{Settings, read_settings}
use Rattle.schedule.specs.Schedule.{Schedule, read_schedule}
use Rattle.reasons.specs.Invalid.{InvalidReason, NoRoundInDag, invalid_number}
use Rattle.reasons.specs.Verdict as verdict
use Rattle.reasons.specs.declared.ill_formed.VerifyError.{VerifyError}
use Rattle.reasons.specs.declared.ill_formed.WaveChecked.{WaveChecked}
use Rattle.reasons.specs.declared.ill_formed.WaveChecked.TheVariants as case-wave
use Rattle.rules.specs.DagPoint.{Entry, IndirectEntry}
use Rattle.rules.specs.List.{Listed, read_list, read_list_in, directs, indirects}
use Rattle.rules.specs.Mismatch.{mismatch, uncovered}
use Rattle.rules.specs.Verify.{verify}
use Rattle.rules.specs.CheckIllFormed.{wave_checked}
use Rattle.rules.specs.Validate.{over_lists, validate}
use Rattle.rules.specs.Judge.{Input, Tested, refused, admitted, tested_with, tested_in, flags_ok, JudgeAnswer, Number, Given, Before, answered, needed, before_with, before, over_list, judge_from, judge_with, judge_with_in}
use Rattle.rules.specs.Told.{Call, judged}
use Rattle.rules.specs.AnyOrder.{Alike}
use Rattle.rules.specs.Trail.{Row, rule_row}
use Rattle.rules.specs.Fired.{reasons_in, all_findings}
use Rattle.rules.specs.Force.{finals, ranked, forceable, forceable_over, forceable_from, forceable_with, forced_of}
use Rattle.rules.specs.Forced.{Game, Arrival, handed_in, arrived, Gives, SomeGives, Forces, tested_of, rows_of, forcing, Lists, Same, Forced}
use Rattle.rules.proofs.All.{all-member, last-of-all}
use Rattle.rules.proofs.EntryReasons.{OfEntry}
use Rattle.rules.proofs.RowsWithin.{Within, directs-few, indirects-few, list-few}
use Rattle.rules.proofs.AnyOrder.{any_order}
use Rattle.rules.proofs.Fired.{of_entries, fired}
use Rattle.rules.proofs.SomeOrder.{invalid-last, given-final, final_given}
use Rattle.rules.proofs.FinalRows.{undropped_lem, dropped_lem, direct_rows_lem, direct_lem, indirect_lem, indirect_rows_lem, finals_apart, finals_within}
use Rattle.rules.proofs.Ranked.{InOrder, ranked_member, ranked_stay, ranked_reason, ranked_earliest, ranked_in_order, rule-in_order, none-in_order, once_after, order_after, only}
use Rattle.rules.proofs.ForceRoom.{forced_room}
use Rattle.rules.proofs.Played.{ruled_or, NoneOrRule, Played, played, judged_room, given_list}

-- ---- each listed reason is given by some order, and each given is listed

given_same : (v w : verdict.Verdict) → Given v ≡ Given w → v ≡ w
given_same v w h = cc

invalid_same : (r s : InvalidReason) → verdict.Invalid r ≡ verdict.Invalid s → r ≡ s
invalid_same r s h = cc

-- the order as handed in
abbrev as_handed : (g : Game) → Arrival g
as_handed g =
    record { directs = g.directs; indirects = g.indirects; same_directs = Permᴰ.refl g.directs; same_indirects = Permᴰ.refl g.indirects }

module _ (g : Game) (r : InvalidReason) where
  listed_gives : (rows : List Row) → Played g rows → Memᴰ r (reasons_in rows) → SomeGives g r
  listed_gives rows (inl o) m = go o.rows_are
    where
      go : NoneOrRule rows o.always → SomeGives g r
      go (inl (e, f)) = absurd (Memᴰ.not-nil (subst (λ (l : List Row). Memᴰ r (reasons_in l)) e m))
      go (inr (q, e, k)) =
          let i : r ≡ NoRoundInDag q = Memᴰ.eq_of_singleton (subst (λ (l : List Row). Memᴰ r (reasons_in l)) e m) in
          (as_handed g, o.gives (as_handed g) ∙ ap Given (k ∙ ap verdict.Invalid (sym i)))
  listed_gives rows (inr b) m =
      let l = finals b.settings b.required b.point b.entries b.targets in
      let s = final_given b.settings b.required b.point b.entries b.targets r (ranked_reason l r (subst (λ (k : List Row). Memᴰ r (reasons_in k)) b.rows_are m)) in
      let a = b.to s.direct s.indirect s.same_direct s.same_indirect in
      (a.0, a.1 ∙ ap Given s.gives)

  gives-listed : (rows : List Row) → Played g rows → SomeGives g r → Memᴰ r (reasons_in rows)
  gives-listed rows (inl o) (a, h) = go o.rows_are
    where
      is : o.always ≡ verdict.Invalid r
      is = given_same o.always (verdict.Invalid r) (sym (o.gives a) ∙ h)

      go : NoneOrRule rows o.always → Memᴰ r (reasons_in rows)
      go (inl (e, f)) = absurd (f r is)
      go (inr (q, e, k)) =
          subst (λ (l : List Row). Memᴰ r (reasons_in l)) (sym e) (Memᴰ.head (invalid_same r (NoRoundInDag q) (sym is ∙ k)))
  gives-listed rows (inr b) (a, h) =
      let l = finals b.settings b.required b.point b.entries b.targets in
      let w = b.from a in
      let v = given_same (over_lists b.settings b.required b.point w.0 w.1) (verdict.Invalid r) (sym w.4 ∙ h) in
      subst (λ (k : List Row). Memᴰ r (reasons_in k)) (sym b.rows_are)
      (ranked_stay l r (given-final b.settings b.required b.point b.entries w.0 b.targets w.1 r w.2 w.3 v))

  listed_same : (rows : List Row) → Lists g rows → Same (Memᴰ r (reasons_in rows)) (SomeGives g r)
  listed_same rows h = (listed_gives rows (played g rows h), gives-listed rows (played g rows h))

in_order : (g : Game) (rows : List Row) → Played g rows → InOrder rows
in_order g rows (inl o) = go o.rows_are
  where
    go : NoneOrRule rows o.always → InOrder rows
    go (inl (e, f)) = subst InOrder (sym e) none-in_order
    go (inr (q, e, k)) = subst InOrder (sym e) (rule-in_order q)
in_order g rows (inr b) =
    subst InOrder (sym b.rows_are)
    (ranked_in_order (finals b.settings b.required b.point b.entries b.targets)
    (finals_apart b.settings b.required b.point b.entries b.targets)
    (finals_within b.settings b.required b.point b.entries b.targets 65536 (let n = b.few.0 in omega (arith, n)) (let n = b.few.1 in omega (arith, n))))

-- ---- the game

-- where one order gives a reason, each does
every : (g : Game) (r : InvalidReason) → SomeGives g r → (a : Arrival g) → (s : InvalidReason) × Gives g a s
every g r (b, h) a = go (judged (handed_in g)) (judged (arrived g b)) (judged (arrived g a)) (alike b) (alike a) h
  where
    alike : (a : Arrival g) → Alike (judged (handed_in g)) (judged (arrived g a))
    alike a = any_order.alike g.call g.directs a.directs g.indirects a.indirects g.are_direct g.are_indirect a.same_directs a.same_indirects

    go : (x y z : JudgeAnswer) → Alike x y → Alike x z → y ≡ Given (verdict.Invalid r) → (s : InvalidReason) × (z ≡ Given (verdict.Invalid s))
    go (Number n) y z f k e = impossible (cc)
    go (Given (verdict.Fail u)) y z f k e = impossible (cc)
    go (Given (verdict.IllFormed q)) y z f k e = impossible (cc)
    go (Given (verdict.Invalid q)) y z f k e = k
    go (Given (verdict.TransInvalid d)) y z (d', i, j, n) k e = impossible (cc)
    go (Given verdict.Valid) y z f k e = impossible (cc)

forces_same : (g : Game) (rows : List Row) → Lists g rows → (r : InvalidReason) → Same (Forces g r) (reasons_in rows ≡ r ∷ [])
forces_same g rows h r = (
  λ f.
      only rows r (in_order g rows (played g rows h))
      ((listed_same g r rows h).1 (as_handed g, f (as_handed g)))
      (λ s m.
      (let w = (listed_same g s rows h).0 m in
      invalid_same s r (given_same (verdict.Invalid s) (verdict.Invalid r) (sym w.1 ∙ f w.0)))),
  λ e a.
      (let w = every g r ((listed_same g r rows h).0 (subst (λ (l : List InvalidReason). Memᴰ r l) (sym e) (Memᴰ.head refl))) a in
      let m = (listed_same g w.0 rows h).1 (a, w.1) in
      w.1 ∙ ap (λ (s : InvalidReason). Given (verdict.Invalid s)) (Memᴰ.eq_of_singleton (subst (λ (l : List InvalidReason). Memᴰ w.0 l) e m))),
)

never_same : (g : Game) (rows : List Row) → Lists g rows → Same (rows ≡ []) ((r : InvalidReason) → SomeGives g r → ⊥)
never_same g [] h = (λ e r s. Memᴰ.not-nil ((listed_same g r [] h).1 s), λ f. refl)
never_same g (x ∷ rows) h = (λ e. impossible (cc), λ f. absurd (f x.reason ((listed_same g x.reason (x ∷ rows) h).0 (Memᴰ.head refl))))

-- ---- the presence rules

no_rule : (c : Settings) (required : Bool) (p : PointInfo) (es : List Entry) (ts : List IndirectEntry) (m : PointMap) →
    over_lists c required p es ts ≡ verdict.Invalid (NoRoundInDag m) → ⊥
unfolding over_lists
no_rule c required p es ts m h =
    let f = all_findings c required p es ts in
    let e = invalid-last (last_of f.trail) f.root (NoRoundInDag m) h in
    clash (eqb (invalid_number (NoRoundInDag m)) 2) refl (has OfEntry (last_of f.trail) (NoRoundInDag m) (last-of-all OfEntry f.trail (of_entries c required p es ts)) e)

rule_alone : (g : Game) (rows : List Row) (m : PointMap) → Played g rows → judged (handed_in g) ≡ Given (verdict.Invalid (NoRoundInDag m)) →
    rows ≡ rule_row m
rule_alone g rows m (inl o) h = go o.rows_are
  where
    is : o.always ≡ verdict.Invalid (NoRoundInDag m)
    is = given_same o.always (verdict.Invalid (NoRoundInDag m)) (sym (o.gives (as_handed g)) ∙ h)

    go : NoneOrRule rows o.always → rows ≡ rule_row m
    go (inl (e, f)) = absurd (f (NoRoundInDag m) is)
    go (inr (q, e, k)) = let i : NoRoundInDag q ≡ NoRoundInDag m = invalid_same _ _ (sym k ∙ is) in let j : q ≡ m = cc in e ∙ ap rule_row j
rule_alone g rows m (inr b) h =
    let w = b.from (as_handed g) in
    absurd (no_rule b.settings b.required b.point w.0 w.1 m (given_same _ _ (sym w.4 ∙ h)))

-- ---- a call over a list

module _ (c : Settings) (required : Bool) (presence : ℕ) (p : PointInfo) where
  needed_rows : (l : List Listed) (list : List ℕ) (rows : List Row) → read_list list ≡ Some l →
      forceable_from c presence p list (needed required) ≡ rows →
      ((m : PointMap) → rows ≡ rule_row m → ⊥) → rows ≡ ranked (finals c required p (directs l) (indirects l))
  needed_rows l list rows r h f = go (leb 2 presence) refl h
    where
      go : (b : Bool) → leb 2 presence ≡ b →
          pick b (forceable_over c required presence p (read_list list)) (forceable c required presence p [] []) ≡ rows →
          rows ≡ ranked (finals c required p (directs l) (indirects l))
      go true q e =
          let k = ap (forceable_over c required presence p) (sym r) ∙ e in
          elim (ruled_or c required presence p) [
            | inl w ↦ absurd (f w.0 (sym k ∙ (w.1 (directs l) (indirects l)).0))
            | inr w ↦ sym k ∙ (w.1 (directs l) (indirects l)).0
          ]
      go false q e = elim (ruled_or c required presence p) [
        | inl w ↦ absurd (f w.0 (sym e ∙ (w.1 [] []).0))
        | inr w ↦ clash (leb 2 presence) w.0 q
      ]

  -- the places of rows are those of a list
  within : (es : List Entry) (ts : List IndirectEntry) → length es ≤ 65535 → length ts ≤ 65535 → (x : Row) →
      Memᴰ x (forceable c required presence p es ts) → x.place < 65535
  within es ts h g x m = elim (ruled_or c required presence p) [
    | inl w ↦ (let e = ap (λ (y : Row). y.place) (Memᴰ.eq_of_singleton (subst (λ (l : List Row). Memᴰ x l) (w.1 es ts).0 m)) in omega (arith, e))
    | inr w ↦ all-member (Within 65535) (finals c required p es ts) (finals_within c required p es ts 65535 h g) x
        (ranked_member (finals c required p es ts) x (subst (λ (l : List Row). Memᴰ x l) (w.1 es ts).0 m))
  ]

within_from : (c : Settings) (presence : ℕ) (p : PointInfo) (list : List ℕ) (b : Before) (x : Row) →
    Memᴰ x (forceable_from c presence p list b) → x.place < 65535
unfolding read_list_in
within_from c presence p list (answered a) x m = absurd (Memᴰ.not-nil m)
within_from c presence p list (needed required) x m = go (leb 2 presence) m
  where
    over : (o : Option (List Listed)) → read_list list ≡ o → Memᴰ x (forceable_over c required presence p o) → x.place < 65535
    over None e m = absurd (Memᴰ.not-nil m)
    over (Some l) e m =
        let n = list-few 65535 false list l e in
        let d = directs-few l in
        let t = indirects-few l in
        within c required presence p (directs l) (indirects l) (omega (arith, n, d)) (omega (arith, n, t)) x m

    go : (b : Bool) → Memᴰ x (pick b (forceable_over c required presence p (read_list list)) (forceable c required presence p [] [])) →
        x.place < 65535
    go true m = over (read_list list) refl m
    go false m = within c required presence p [] [] (omega arith) (omega arith) x m

within_with : (leader presence : ℕ) (list : List ℕ) (t : Tested) (x : Row) → Memᴰ x (forceable_with leader presence list t) → x.place < 65535
unfolding forceable_with
within_with leader presence list (refused n) x m = absurd (Memᴰ.not-nil m)
within_with leader presence list (admitted i) x m = within_from i.settings presence i.point list (before i.settings i.schedule (eqb leader 1) i.point) x m

over_list_lem : (x : Call) (size : ℕ) (i : Input) (required : Bool) (l : List Listed) (rows : List Row) → tested_of x ≡ admitted i →
    before i.settings i.schedule (eqb x.leader 1) i.point ≡ needed required → read_list x.list ≡ Some l → forcing x size ≡ Ok rows →
    ((m : PointMap) → rows ≡ rule_row m → ⊥) → rows ≡ ranked (finals i.settings required i.point (directs l) (indirects l))
unfolding forceable_with
over_list_lem x size i required l rows t b r h f =
    let w = given_list (judge_with x.leader x.presence x.list (tested_of x)) (rows_of x) rows size h in
    needed_rows i.settings required x.presence i.point l x.list rows r
    (sym (ap (forceable_with x.leader x.presence x.list) t ∙ ap (forceable_from i.settings x.presence i.point x.list) b) ∙ w.2) f

-- ---- the numbers

-- a number of judging that is not the peer buffer's, nor the lent list's
abbrev Other : ℕ → Type 0
Other n = (n ≡ 5 → ⊥) × (n ≡ 17 → ⊥)

abbrev OtherNumber : JudgeAnswer → Type 0
OtherNumber (Number n) = Other n
OtherNumber (Given v) = Unit

abbrev OtherTested : Tested → Type 0
OtherTested (refused n) = Other n
OtherTested (admitted i) = Unit

abbrev OtherBefore : Before → Type 0
OtherBefore (answered a) = OtherNumber a
OtherBefore (needed required) = Unit

tested_other : (o : Option Settings) (q : Option Schedule) (u : Option PointInfo) (others : Bool) →
    OtherTested (tested_with o q u others peers_room)
tested_other None q u others = (λ e. omega (arith, e), λ e. omega (arith, e))
tested_other (Some c) None u others = (λ e. omega (arith, e), λ e. omega (arith, e))
tested_other (Some c) (Some s) None others = (λ e. omega (arith, e), λ e. omega (arith, e))
tested_other (Some c) (Some s) (Some p) others = go (not (in_domain p && others)) (ltb peers_room peers_room) (le-ltb peers_room peers_room (omega arith))
  where
    go : (a b : Bool) → b ≡ false →
        OtherTested (pick a (refused 4) (pick b (refused 5) (admitted (record { settings = c; schedule = s; point = p }))))
    go true b h = (λ e. omega (arith, e), λ e. omega (arith, e))
    go false true h = clash true refl h
    go false false h = tt

before_other : (o : Option VerifyError) (genesis : Bool) (w : WaveChecked) → OtherBefore (before_with o genesis w)
before_other (Some e) genesis w = tt
before_other None true w = tt
before_other None false case-wave.Horizon = (λ e. omega (arith, e), λ e. omega (arith, e))
before_other None false (case-wave.IllFormed r) = tt
before_other None false (case-wave.Sound required) = tt

module _ (c : Settings) (presence : ℕ) (p : PointInfo) where
  over_other : (required : Bool) (o : Option (List Listed)) → OtherNumber (over_list c required presence p o)
  over_other required None = (λ e. omega (arith, e), λ e. omega (arith, e))
  over_other required (Some l) = go (mismatch presence p (directs l) (indirects l)) (uncovered (prev_id p) (directs l) (indirects l))
    where
      go : (m u : Bool) → OtherNumber (pick m (Number 8) (pick u (Number 9) (Given (validate c required presence p (directs l) (indirects l)))))
      go true u = (λ e. omega (arith, e), λ e. omega (arith, e))
      go false true = (λ e. omega (arith, e), λ e. omega (arith, e))
      go false false = tt

  from_other : (list : List ℕ) (b : Before) → OtherBefore b → OtherNumber (judge_from c presence p list b)
  from_other list (answered a) h = h
  from_other list (needed required) h = go (leb 2 presence)
    where
      go : (b : Bool) → OtherNumber (pick b (over_list c required presence p (read_list list)) (Given (validate c required presence p [] [])))
      go true = over_other required (read_list list)
      go false = tt

with_other : (leader presence : ℕ) (list : List ℕ) (t : Tested) → OtherTested t → OtherNumber (judge_with leader presence list t)
unfolding judge_with_in before
with_other leader presence list (refused n) h = h
with_other leader presence list (admitted i) h =
    from_other i.settings presence i.point list (before i.settings i.schedule (eqb leader 1) i.point)
    (before_other (verify i.settings i.schedule i.point) (eqb i.point.id.round i.settings.genesis_round) (wave_checked i.schedule (eqb leader 1) i.point))

other_number : (x : Call) → OtherNumber (judge_with x.leader x.presence x.list (tested_of x))
unfolding tested_in
other_number x =
    with_other x.leader x.presence x.list (tested_of x)
    (tested_other (read_settings x.settings) (read_schedule x.schedule) (read_point x.point) (flags_ok x.leader x.presence))

not_five : (a : JudgeAnswer) (rows : List Row) (size : ℕ) → OtherNumber a → forced_of a rows size ≡ Err 5 → ⊥
not_five (Number n) rows size o h = let e : n ≡ 5 = cc in o.0 e
not_five (Given v) rows size o h = go (ltb size (8 * length rows)) h
  where
    seventeen : (m n : ℕ) → ◌≡◌ {A = Result (List Row) ℕ} (Err m) (Err n) → m ≡ n
    seventeen m n e = cc

    go : (b : Bool) → pick {A = Result (List Row) ℕ} b (Err 17) (Ok rows) ≡ Err 5 → ⊥
    go true k = let e = seventeen 17 5 k in omega (arith, e)
    go false k = impossible (cc)

too_short : (a : JudgeAnswer) (rows : List Row) (size : ℕ) → OtherNumber a → forced_of a rows size ≡ Err 17 → size < 8 * length rows
too_short (Number n) rows size o h = let e : n ≡ 17 = cc in absurd (o.1 e)
too_short (Given v) rows size o h = go (ltb size (8 * length rows)) refl h
  where
    go : (b : Bool) → ltb size (8 * length rows) ≡ b → pick {A = Result (List Row) ℕ} b (Err 17) (Ok rows) ≡ Err 17 → size < 8 * length rows
    go true q k = ltb-true size (8 * length rows) q
    go false q k = impossible (cc)

module _ (g : Game) (size : ℕ) where
  -- what the call gives beside what judging does
  beside : (a : JudgeAnswer) → judged (handed_in g) ≡ a → forcing (handed_in g) size ≡ forced_of a (rows_of (handed_in g)) size
  beside a h = ap (λ (b : JudgeAnswer). forced_of b (rows_of (handed_in g)) size) (sym (judged_room (handed_in g) g.room) ∙ h)

  short_lem : (v : verdict.Verdict) → judged (handed_in g) ≡ Given v → size < 8 * length (rows_of (handed_in g)) →
      forcing (handed_in g) size ≡ Err 17
  short_lem v h k = beside (Given v) h ∙ ap (λ (b : Bool). pick {A = Result (List Row) ℕ} b (Err 17) (Ok (rows_of (handed_in g)))) (lt-ltb size _ k)

  fits_lem : (v : verdict.Verdict) → judged (handed_in g) ≡ Given v → 8 * length (rows_of (handed_in g)) ≤ size →
      forcing (handed_in g) size ≡ Ok (rows_of (handed_in g))
  fits_lem v h k = beside (Given v) h ∙ ap (λ (b : Bool). pick {A = Result (List Row) ℕ} b (Err 17) (Ok (rows_of (handed_in g)))) (le-ltb size _ k)

pub forced : Forced
forced =
    record {
      listed = λ g rows h r. listed_same g r rows h;
      once = λ g rows before after x y h k m. once_after rows before after x y (in_order g rows (played g rows h)) k m;
      order = λ g rows before after x y h k m. order_after rows before after x y (in_order g rows (played g rows h)) k m;
      places = λ x r m. within_with x.leader x.presence x.list (tested_of x) r m;
      earliest =
          λ c required p es ts x y m n e.
          (ranked_member (finals c required p es ts) x m, ranked_earliest (finals c required p es ts) x y (finals_apart c required p es ts) m n e);
      forces = forces_same;
      never = never_same;
      over_list = over_list_lem;
      undropped = undropped_lem;
      dropped = dropped_lem;
      direct = direct_lem;
      indirect = indirect_lem;
      indirect_dropped = fired.indirect_dropped;
      direct_rows = direct_rows_lem;
      indirect_rows = indirect_rows_lem;
      rule = λ g rows m h. rule_alone g rows m (played g rows h);
      number = λ g size n h. beside g size (Number n) h;
      no_five = λ x size h. not_five (judge_with x.leader x.presence x.list (tested_of x)) (rows_of x) size (other_number x) h;
      short = short_lem;
      only_short = λ x size h. too_short (judge_with x.leader x.presence x.list (tested_of x)) (rows_of x) size (other_number x) h;
      fits = fits_lem;
      room = λ x. forced_room x.leader x.presence x.list (tested_of x);
      written = λ rows old. fired.written verdict.Valid rows old;
      counted = λ rows old. refl;
      kept = λ n old. refl;
      uncounted = λ n old. refl;
    }
