-- Laws of the walk over a list: what was put, with the rows of what is left, is what the whole list gives.
use Rattle.std.specs.Prelude.{None, Some, is_some, option_map}
use Rattle.std.specs.Bool.{then_some}
use Prim.Native.Nat.{ℕ, zero, suc, ◌+◌, ◌*◌, ◌≤◌, ◌<◌}
use native.Mathlib.Omega.{arith}
use native.Mathlib.Numerals.{add-one}
use mathlib.Core.Path.{◌≡◌, refl, ap, sym, ◌∙◌, subst}
use mathlib.Core.Bool.{Bool, true, false}
use mathlib.Core.List.{List, [], ◌∷◌, ◌++◌}
use lib.ListN.{length, drop}
use lib.Dec.{eqb}
use borrow.Author.Tests.{eq-eqb, ne_eqb}
use Rattle.base.specs.Base.{when, is_empty}
use Rattle.base.proofs.Impossible.{impossible}
use Rattle.base.proofs.Option.{some_of}
use Rattle.point.specs.Point.{PointInfo}
use Rattle.point.specs.declared.data.AnchorStageRole.{AnchorStageRole}
use Rattle.schedule.specs.Settings.{Settings}
use Rattle.reasons.specs.Code.{reason_of}
use Rattle.reasons.specs.Invalid.{InvalidReason, DependencyRoundDropped}
use Rattle.reasons.specs.declared.invalid.InvalidReason.TheVariants as case-reason
use Rattle.rules.specs.DagPoint.{Entry, IndirectEntry, PointView, point_view, is_dropped}
use Rattle.rules.specs.Validate.{entry_findings, indirect_findings, dependency, dependency_trail, indirect_point_rows}
use Rattle.rules.specs.List.{Listed, read_list, directs, indirects}
use Rattle.rules.specs.Trail.{Row, rows_at, direct_rows, indirect_rows, list_rows}
use Rattle.rules.specs.Force.{list_of}
use Rattle.judge_mismatch.specs.Code.{listed}
use Rattle.judge_mismatch.proofs.Heads.{Next, listed-end, few-listed, directs-here, directs-after, indirects-here, indirects-after}
use Rattle.trail_rows.specs.Code.{Put}
use Rattle.trail_rows.proofs.Laws.{put_none, put_join}

pub dropped_told : (n : ℕ) → list_of (option_map reason_of (then_some (eqb n 0) case-reason.DependencyRoundDropped)) ≡ when (eqb n 0) DependencyRoundDropped
dropped_told n = go (eqb n 0)
  where
    go : (b : Bool) → list_of (option_map reason_of (then_some b case-reason.DependencyRoundDropped)) ≡ when b DependencyRoundDropped
    go true = refl
    go false = refl

no_entry-in : (l : List Listed) → l ≡ [] → directs l ≡ []
unfolding directs
no_entry-in l h = rw h refl

pub no_entry : (s : List ℕ) → length s ≡ 0 → directs (listed s) ≡ []
no_entry s h = no_entry-in (listed s) (listed-end s h)

-- ---- the direct entries

module _ (c : Settings) (required : Bool) (p : PointView) where
  direct-step : (i : ℕ) (old : List Row) (e : Entry) (l : List Entry) → is_dropped e.state ≡ false →
      direct_rows c required p i old (e ∷ l) ≡ direct_rows c required p (suc i) (old ++ rows_at 1 i (entry_findings c required p e).trail) l
  unfolding direct_rows
  direct-step i old e l h = rw h

  direct-drop : (i : ℕ) (old : List Row) (e : Entry) (l : List Entry) → is_dropped e.state ≡ true →
      direct_rows c required p i old (e ∷ l) ≡ old ++ rows_at 1 i (when (is_empty old) DependencyRoundDropped)
  unfolding direct_rows
  direct-drop i old e l h = rw h

  direct-end : (i : ℕ) (old : List Row) → direct_rows c required p i old [] ≡ old
  unfolding direct_rows
  direct-end i old = refl

  -- the rows of the entries before place `entry` are put
  pub record Directs (s : List ℕ) (old out left : List ℕ) (rows entry : ℕ) : Type 0 where
    pub done : List Row
    pub put : Put old 0 done out rows
    pub reads : is_some (read_list left) ≡ true
    pub rest : direct_rows c required p entry done (directs (listed left)) ≡ direct_rows c required p 0 [] (directs (listed s))
    pub targets : indirects (listed left) ≡ indirects (listed s)
    pub room : entry + length (listed left) ≤ 65535
    pub few : rows ≤ 10 * entry

  -- what is left of the list stands as the part of the slice that the code takes
  pub directs_left : (s old out left t : List ℕ) (rows entry : ℕ) → t ≡ left → Directs s old out left rows entry → Directs s old out t rows entry
  directs_left s old out left t rows entry e w = rw e w

  pub directs_start : (s old : List ℕ) → is_some (read_list s) ≡ true → Directs s old old s 0 0
  directs_start s old r =
      record {
        done = [];
        put = put_none old 0;
        reads = r;
        rest = refl;
        targets = refl;
        room = let f = few-listed s r in omega arith;
        few = omega arith;
      }

  module _ (s old out left : List ℕ) (rows entry : ℕ) (w : Directs s old out left rows entry) where
    -- no entry is left
    pub directs-none : length left ≡ 0 → Put old 0 (direct_rows c required p 0 [] (directs (listed s))) out rows
    unfolding directs
    directs-none h =
        rw (sym w.rest ∙ (ap (λ (l : List Listed). direct_rows c required p entry w.done (directs l)) (listed-end left h) ∙ direct-end entry w.done)) w.put

    module _ (x : Listed) (n : Next left x) where
      -- an indirect one is the first that is left
      module _ (h : is_some x.aim ≡ true) where
        pub directs-over : directs (listed left) ≡ []
        directs-over =
            let g = some_of x.aim h in
            ap directs n.all ∙ (directs-after x (listed (drop x.size left)) g.0 g.1 ∙ n.last h)

        pub directs-done : Put old 0 (direct_rows c required p 0 [] (directs (listed s))) out rows
        directs-done =
            rw (sym w.rest ∙ (ap (direct_rows c required p entry w.done) directs-over ∙ direct-end entry w.done)) w.put

      -- a direct one is
      module _ (h : x.aim ≡ None) where
        here : directs (listed left) ≡ x.entry ∷ directs (listed (drop x.size left))
        here = ap directs n.all ∙ directs-here x (listed (drop x.size left)) h

        pub place-room : entry < 65535
        place-room = let e = ap length n.all in let r = w.room in omega arith

        pub directs-dropped : (new : List ℕ) (m : ℕ) (t : List InvalidReason) → is_dropped x.entry.state ≡ true → t ≡ when (eqb rows 0) DependencyRoundDropped →
            Put out rows (rows_at 1 entry t) new m →
            (Put old 0 (direct_rows c required p 0 [] (directs (listed s))) new m) × (0 < m)
        directs-dropped new m t d e q = (
          rw (sym w.rest ∙ (ap (direct_rows c required p entry w.done) here ∙ direct-drop entry w.done x.entry (directs (listed (drop x.size left))) d))
              (put_join old out new 0 rows m w.done _ w.put (rw (← counted, ← e) q)),
          some-row rows m t e q.count,
        )
          where
            some-row : (k m : ℕ) (t : List InvalidReason) → t ≡ when (eqb k 0) DependencyRoundDropped → m ≡ k + length (rows_at 1 entry t) → 0 < m
            some-row zero m t f g = let h = ap (λ (l : List InvalidReason). length (rows_at 1 entry l)) f in omega (arith, g, h)
            some-row (suc k) m t f g = omega (arith, g)

            none-yet : (l : List Row) (k : ℕ) → k ≡ 0 + length l → eqb k 0 ≡ is_empty l
            none-yet [] k e = eq-eqb k 0 (omega (arith, e))
            none-yet (y ∷ l) k e = ne_eqb k 0 (λ z. omega (arith, e, z))

            counted : eqb rows 0 ≡ is_empty w.done
            counted = none-yet w.done rows w.put.count

        pub directs-next : (new : List ℕ) (m : ℕ) → is_dropped x.entry.state ≡ false → m ≤ rows + 10 →
            Put out rows (rows_at 1 entry (entry_findings c required p x.entry).trail) new m →
            Directs s old new (drop x.size left) m (entry + 1)
        directs-next new m d k q =
            record {
              done = w.done ++ rows_at 1 entry (entry_findings c required p x.entry).trail;
              put = put_join old out new 0 rows m w.done _ w.put q;
              reads = n.left;
              rest =
                  ap (λ (i : ℕ). direct_rows c required p i (w.done ++ rows_at 1 entry (entry_findings c required p x.entry).trail) (directs (listed (drop x.size left)))) (add-one entry)
                  ∙ (sym (direct-step entry w.done x.entry (directs (listed (drop x.size left))) d)
                  ∙ (ap (direct_rows c required p entry w.done) (sym here) ∙ w.rest));
              targets = sym (indirects-after x (listed (drop x.size left)) h) ∙ (ap indirects (sym n.all) ∙ w.targets);
              room = let e = ap length n.all in let r = w.room in omega arith;
              few = let f = w.few in omega arith;
            }

-- ---- the indirect entries

module _ (c : Settings) (p : PointInfo) where
  abbrev target_trail : AnchorStageRole → Entry → List InvalidReason
  target_trail g e = dependency_trail (indirect_point_rows c g (point_view p)) e.state

  indirect-step : (i : ℕ) (old : List Row) (a : IndirectEntry) (l : List IndirectEntry) →
      indirect_rows c p i old (a ∷ l) ≡ indirect_rows c p (suc i) (old ++ rows_at 2 i (target_trail a.role a.entry)) l
  unfolding indirect_rows indirect_findings dependency
  indirect-step i old a l = refl

  indirect-end : (i : ℕ) (old : List Row) → indirect_rows c p i old [] ≡ old
  unfolding indirect_rows
  indirect-end i old = refl

  -- the rows of the entries before place `entry` are put
  pub record Indirects (s : List ℕ) (old out left : List ℕ) (rows entry : ℕ) : Type 0 where
    pub done : List Row
    pub put : Put old 0 done out rows
    pub rest : indirect_rows c p entry done (indirects (listed left)) ≡ indirect_rows c p 0 [] (indirects (listed s))

  pub indirects_left : (s old out left t : List ℕ) (rows entry : ℕ) → t ≡ left → Indirects s old out left rows entry → Indirects s old out t rows entry
  indirects_left s old out left t rows entry e w = rw e w

  pub indirects_start : (s old : List ℕ) → Indirects s old old s 0 0
  indirects_start s old = record { done = []; put = put_none old 0; rest = refl }

  module _ (s old out left : List ℕ) (rows entry : ℕ) (w : Indirects s old out left rows entry) where
    pub indirects-none : length left ≡ 0 → Put old 0 (indirect_rows c p 0 [] (indirects (listed s))) out rows
    unfolding indirects
    indirects-none h =
        rw (sym w.rest ∙ (ap (λ (l : List Listed). indirect_rows c p entry w.done (indirects l)) (listed-end left h) ∙ indirect-end entry w.done)) w.put

    pub indirects-next : (x : Listed) (n : Next left x) (g : AnchorStageRole) (new : List ℕ) (m : ℕ) → x.aim ≡ Some g →
        Put out rows (rows_at 2 entry (target_trail g x.entry)) new m → Indirects s old new (drop x.size left) m (entry + 1)
    indirects-next x n g new m h q =
        let here = ap indirects n.all ∙ indirects-here x (listed (drop x.size left)) g h in
        let a : IndirectEntry = record { role = g; entry = x.entry } in
        record {
          done = w.done ++ rows_at 2 entry (target_trail g x.entry);
          put = put_join old out new 0 rows m w.done _ w.put q;
          rest =
              ap (λ (i : ℕ). indirect_rows c p i (w.done ++ rows_at 2 entry (target_trail g x.entry)) (indirects (listed (drop x.size left)))) (add-one entry)
              ∙ (sym (indirect-step entry w.done a (indirects (listed (drop x.size left))))
              ∙ (ap (indirect_rows c p entry w.done) (sym here) ∙ w.rest));
        }

-- what is known of a list of indirect entries alone, whatever the point
pub record Left (left : List ℕ) (rows entry : ℕ) : Type 0 where
  pub reads : is_some (read_list left) ≡ true
  pub last : directs (listed left) ≡ []
  pub room : entry + length (listed left) ≤ 65535
  pub few : rows ≤ 10 * entry

pub left_left : (left t : List ℕ) (rows entry : ℕ) → t ≡ left → Left left rows entry → Left t rows entry
left_left left t rows entry e w = rw e w

pub left_start : (s : List ℕ) → is_some (read_list s) ≡ true → directs (listed s) ≡ [] → Left s 0 0
left_start s r d = record { reads = r; last = d; room = let f = few-listed s r in omega arith; few = omega arith }

module _ (left : List ℕ) (rows entry : ℕ) (w : Left left rows entry) (x : Listed) (n : Next left x) where
  -- no direct entry is left
  pub no-direct : {A : Type 0} → x.aim ≡ None → A
  no-direct h = impossible (let e : [] ≡ x.entry ∷ directs (listed (drop x.size left)) = sym w.last ∙ (ap directs n.all ∙ directs-here x (listed (drop x.size left)) h) in cc)

  pub left-room : entry < 65535
  left-room = let e = ap length n.all in let r = w.room in omega arith

  pub left-next : (g : AnchorStageRole) (m : ℕ) → x.aim ≡ Some g → m ≤ rows + 2 → Left (drop x.size left) m (entry + 1)
  left-next g m h k =
      record {
        reads = n.left;
        last = n.last (ap is_some h);
        room = let e = ap length n.all in let r = w.room in omega arith;
        few = let f = w.few in omega arith;
      }

-- ---- both

module _ (c : Settings) (required : Bool) (p : PointInfo) (es : List Entry) (ts : List IndirectEntry) where
  lists-first : (l : List Row) → direct_rows c required (point_view p) 0 [] es ≡ l → 0 < length l → list_rows c required p es ts ≡ l
  unfolding list_rows
  lists-first [] e h = absurd (omega (arith, h))
  lists-first (r ∷ l) e h = rw e refl

  lists-second : direct_rows c required (point_view p) 0 [] es ≡ [] → list_rows c required p es ts ≡ indirect_rows c p 0 [] ts
  unfolding list_rows
  lists-second e = rw e refl

  none-there : (l : List Row) → length l ≤ 0 → l ≡ []
  none-there [] h = refl
  none-there (r ∷ l) h = absurd (omega arith)

  module _ (w : PointView) (v : w ≡ point_view p) (old : List ℕ) where
    pub put_first : (new : List ℕ) (n : ℕ) → Put old 0 (direct_rows c required w 0 [] es) new n → 0 < n → Put old 0 (list_rows c required p es ts) new n
    put_first new n q h =
        let e : Put old 0 (direct_rows c required (point_view p) 0 [] es) new n = rw (← v) q in
        rw (lists-first _ refl (let m = e.count in omega arith)) e

    pub put_second : (mid new : List ℕ) (m n : ℕ) (ts' : List IndirectEntry) → Put old 0 (direct_rows c required w 0 [] es) mid m → m ≤ 0 →
        ts' ≡ ts → Put mid 0 (indirect_rows c p 0 [] ts') new n → Put old 0 (list_rows c required p es ts) new n
    put_second mid new m n ts' q h t r =
        let e : Put old 0 (direct_rows c required (point_view p) 0 [] es) mid m = rw (← v) q in
        let none = none-there (direct_rows c required (point_view p) 0 [] es) (let k = e.count in omega arith) in
        let z : 0 ≡ m = omega arith in
        let first : Put old 0 [] mid m = rw (← none) e in
        let second : Put mid m (indirect_rows c p 0 [] ts') new n = subst (λ (k : ℕ). Put mid k (indirect_rows c p 0 [] ts') new n) z r in
        rw (lists-second none, ← t) (put_join old mid new 0 m n [] (indirect_rows c p 0 [] ts') first second)
