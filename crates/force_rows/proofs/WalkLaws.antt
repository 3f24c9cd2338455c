-- Laws of a walk for one reason number: what was put, with the rows of the entries that are left, is what the whole list gives.
use Rattle.std.specs.Prelude.{Option, None, Some, is_some, option_map}
use Prim.Native.Nat.{ℕ, suc, ◌+◌, ◌≤◌, ◌<◌}
use native.Mathlib.Omega.{arith}
use native.Mathlib.Numerals.{add-one}
use mathlib.Core.Path.{◌≡◌, refl, ap, sym, ◌∙◌, subst}
use mathlib.Core.Logic.{inl, inr}
use mathlib.Core.Bool.{Bool, true, false}
use mathlib.Core.List.Memᴰ
use mathlib.Core.List.{List, [], ◌∷◌, ◌++◌, append-nil, append_assoc, Memᴰ}
use lib.ListN.{length, drop}
use Rattle.base.specs.Base.{pick, last_of}
use Rattle.base.proofs.Bool.{clash, never}
use Rattle.point.specs.Point.{PointInfo}
use Rattle.point.specs.declared.data.AnchorStageRole.{AnchorStageRole}
use Rattle.schedule.specs.Settings.{Settings}
use Rattle.reasons.specs.Code.{reason_of}
use Rattle.reasons.specs.Invalid.{InvalidReason, invalid_number}
use Rattle.reasons.specs.declared.invalid.InvalidReason as code-reason
use Rattle.rules.specs.DagPoint.{Entry, IndirectEntry, point_view}
use Rattle.rules.specs.Validate.{indirect_findings}
use Rattle.rules.specs.List.{Listed, read_list, directs, indirects}
use Rattle.rules.specs.Trail.{Row, row, rows_at}
use Rattle.rules.specs.Fired.{reasons_in}
use Rattle.rules.specs.Force.{list_of, direct_final, direct_finals, indirect_finals, has_reason_of, firsts}
use Rattle.judge_mismatch.specs.Code.{listed}
use Rattle.judge_mismatch.proofs.Heads.{Next, listed-end, directs-here, directs-after, indirects-here, indirects-after, few-listed}
use Rattle.trail_rows.specs.Code.{Put}
use Rattle.trail_rows.proofs.Laws.{put_none, put_join}
use Rattle.force_rows.specs.Code.{list_number, of_number, last_reason, is_same_as, Near, Matching, kind_rows, final_in}
use Rattle.force_rows.specs.Walk.{NumberPut}
use Rattle.force_rows.specs.declared.walk.Walked as code
use Rattle.force_rows.proofs.RowLaws.{of-append, of-this, of-other, firsts-next, last-next, last-has}
use Rattle.force_rows.proofs.Apart.{near}

-- ---- one more row

module _ (rows : List Row) (k n : ℕ) (old out : List ℕ) (w : code.Walked) (h : NumberPut rows k n old out w) (r : Row) where
  abbrev added : List Row
  added = rows ++ (r ∷ [])

  abbrev num : ℕ
  num = invalid_number r.reason

  -- of another number
  other-put : (num ≡ k → ⊥) → of_number k (firsts [] added) ≡ of_number k (firsts [] rows)
  unfolding of_number
  other-put d =
      ap (of_number k) (firsts-next r rows)
      ∙ (of-append k (firsts [] rows) (pick (has_reason_of rows r) [] (r ∷ []))
      ∙ (ap (λ (l : List Row). of_number k (firsts [] rows) ++ l) (go (has_reason_of rows r)) ∙ append-nil (of_number k (firsts [] rows))))
    where
      go : (b : Bool) → of_number k (pick b [] (r ∷ [])) ≡ []
      go true = refl
      go false = of-other k r d

  other-last : (num ≡ k → ⊥) → last_reason k added ≡ last_reason k rows
  other-last d = ap (λ (l : List Row). last_of (reasons_in l)) (of-append k rows (r ∷ []) ∙ (ap (λ (l : List Row). of_number k rows ++ l) (of-other k r d) ∙ append-nil (of_number k rows)))

  this-last : num ≡ k → last_reason k added ≡ Some r.reason
  this-last e =
      ap (λ (l : List Row). last_of (reasons_in l)) (of-append k rows (r ∷ []) ∙ ap (λ (l : List Row). of_number k rows ++ l) (of-this k r e))
      ∙ last-next (of_number k rows) r

  above-or : (m : ℕ) → m ≤ w.next → (k < num → m ≤ num) → (x : Row) → Memᴰ x added → k < invalid_number x.reason → m ≤ invalid_number x.reason
  above-or m g f x i l = elim (Memᴰ.append_cases rows i) [
    | inl a ↦ (let b = h.above x a l in omega (arith, b, g))
    | inr a ↦ (let e = Memᴰ.eq_of_singleton a in
        subst (λ (y : Row). k < invalid_number y.reason → m ≤ invalid_number y.reason) (sym e) f l)
  ]

  -- a greater number
  pub greater_put : (m : ℕ) → k < num → m ≤ w.next → m ≤ num → NumberPut added k n old out (record { rows = w.rows; last = w.last; next = m })
  greater_put m l a b =
      let d : num ≡ k → ⊥ = λ e. omega (arith, l, e) in
      record {
        put = rw (other-put d) h.put;
        last = h.last ∙ sym (other-last d);
        above = above-or m a (λ g. b);
      }

  -- a smaller one
  pub smaller_put : num < k → NumberPut added k n old out w
  smaller_put l =
      let d : num ≡ k → ⊥ = λ e. omega (arith, l, e) in
      record {
        put = rw (other-put d) h.put;
        last = h.last ∙ sym (other-last d);
        above = above-or w.next (omega arith) (λ g. absurd (omega (arith, l, g)));
      }

  module _ (e : num ≡ k) where
    put-with : (b : Bool) → has_reason_of rows r ≡ b → of_number k (firsts [] added) ≡ of_number k (firsts [] rows) ++ of_number k (pick b [] (r ∷ []))
    put-with b q =
        ap (of_number k) (firsts-next r rows ∙ ap (λ (t : Bool). firsts [] rows ++ pick t [] (r ∷ [])) q)
        ∙ of-append k (firsts [] rows) (pick b [] (r ∷ []))

    nothing-of : of_number k [] ≡ []
    unfolding of_number
    nothing-of = refl

    above-here : (x : Row) → Memᴰ x added → k < invalid_number x.reason → w.next ≤ invalid_number x.reason
    above-here = above-or w.next (omega arith) (λ g. absurd (omega (arith, e, g)))

    -- the last row's reason
    pub equal_put : is_same_as (option_map reason_of w.last) r.reason ≡ true → NumberPut added k n old out w
    equal_put s =
        let had = last-has k rows r (rw (← h.last) s) in
        record {
          put = rw (put-with true had.0, nothing-of, append-nil (of_number k (firsts [] rows))) h.put;
          last = h.last ∙ (had.1 ∙ sym (this-last e));
          above = above-here;
        }

    -- another reason
    pub new_put : is_same_as (option_map reason_of w.last) r.reason ≡ false → Near rows r → (new : List ℕ) (last : Option code-reason.InvalidReason) (m : ℕ) →
        m ≡ w.rows + 1 → option_map reason_of last ≡ Some r.reason → Put out w.rows (r ∷ []) new m →
        NumberPut added k n old new (record { rows = m; last = last; next = w.next })
    new_put s g new last m c l q =
        let fresh = never (has_reason_of rows r) (λ t. clash (is_same_as (option_map reason_of w.last) r.reason) (rw (h.last, ← e) (g t)) s) in
        record {
          put = rw (put-with false fresh, of-this k r e) (put_join old out new n w.rows m (of_number k (firsts [] rows)) (r ∷ []) h.put q);
          last = l ∙ sym (this-last e);
          above = above-here;
        }

-- no row
pub none_put : (k n : ℕ) (old : List ℕ) (next : ℕ) → next ≤ 255 → NumberPut [] k n old old (record { rows = n; last = None; next = next })
unfolding of_number firsts last_of
none_put k n old next h =
    record { put = put_none old n; last = refl; above = λ x m l. absurd (Memᴰ.not-nil m) }

-- ---- the entries that are left

-- the final reason, as the code has it
pub none_told : (o : Option code-reason.InvalidReason) (l : List InvalidReason) → o ≡ None → list_of (option_map reason_of o) ≡ l → [] ≡ l
none_told o l e h = ap (λ (x : Option code-reason.InvalidReason). list_of (option_map reason_of x)) (sym e) ∙ h

pub some_told : (o : Option code-reason.InvalidReason) (r : code-reason.InvalidReason) (l : List InvalidReason) → o ≡ Some r →
    list_of (option_map reason_of o) ≡ l → reason_of r ∷ [] ≡ l
some_told o r l e h = ap (λ (x : Option code-reason.InvalidReason). list_of (option_map reason_of x)) (sym e) ∙ h

module _ (c : Settings) (required : Bool) (p : PointInfo) where
  kind-none : (t : Bool) (i : ℕ) → kind_rows c required p t i [] ≡ []
  unfolding direct_finals indirect_finals directs indirects
  kind-none false i = refl
  kind-none true i = refl

  aside-in : (t : Bool) (i : ℕ) (a : Option AnchorStageRole) (x : Listed) (l : List Listed) → x.aim ≡ a → (is_some a ≡ t → ⊥) →
      kind_rows c required p t i (x ∷ l) ≡ kind_rows c required p t i l
  aside-in false i None x l e n = absurd (n refl)
  aside-in false i (Some g) x l e n = ap (direct_finals c required (point_view p) i) (directs-after x l g e)
  aside-in true i None x l e n = ap (indirect_finals c p i) (indirects-after x l e)
  aside-in true i (Some g) x l e n = absurd (n refl)

  direct-next : (i : ℕ) (e : Entry) (l : List Entry) →
      direct_finals c required (point_view p) i (e ∷ l) ≡ rows_at 1 i (direct_final c required (point_view p) e) ++ direct_finals c required (point_view p) (suc i) l
  unfolding direct_finals
  direct-next i e l = refl

  target-next : (i : ℕ) (a : IndirectEntry) (l : List IndirectEntry) →
      indirect_finals c p i (a ∷ l) ≡ rows_at 2 i (list_of (last_of (indirect_findings c p a).trail)) ++ indirect_finals c p (suc i) l
  unfolding indirect_finals
  target-next i a l = refl

  here-in : (t : Bool) (i : ℕ) (a : Option AnchorStageRole) (x : Listed) (l : List Listed) → x.aim ≡ a → is_some a ≡ t →
      kind_rows c required p t i (x ∷ l) ≡ rows_at (list_number t) i (final_in c required p x) ++ kind_rows c required p t (suc i) l
  here-in false i None x l e n =
      ap (direct_finals c required (point_view p) i) (directs-here x l e) ∙ (direct-next i x.entry (directs l) ∙ rw e refl)
  here-in false i (Some g) x l e n = absurd (clash true refl n)
  here-in true i None x l e n = absurd (clash false n refl)
  here-in true i (Some g) x l e n =
      ap (indirect_finals c p i) (indirects-here x l g e)
      ∙ (target-next i (record { role = g; entry = x.entry }) (indirects l) ∙ rw e refl)

  -- the rows of the entries before place `entry` are put
  pub record Going (t : Bool) (k n : ℕ) (s old out left : List ℕ) (w : code.Walked) (entry : ℕ) : Type 0 where
    pub done : List Row
    pub put : NumberPut done k n old out w
    pub rest : kind_rows c required p t 0 (listed s) ≡ done ++ kind_rows c required p t entry (listed left)

  pub going_left : (t : Bool) (k n : ℕ) (s old out left u : List ℕ) (w : code.Walked) (entry : ℕ) → u ≡ left →
      Going t k n s old out left w entry → Going t k n s old out u w entry
  going_left t k n s old out left u w entry e g = rw e g

  pub going_start : (t : Bool) (k n : ℕ) (s old : List ℕ) → Going t k n s old old s (record { rows = n; last = None; next = 255 }) 0
  going_start t k n s old = record { done = []; put = none_put k n old 255 (omega arith); rest = refl }

  module _ (t : Bool) (k n : ℕ) (s old out left : List ℕ) (w : code.Walked) (entry : ℕ) (g : Going t k n s old out left w entry) where
    pub going-done : length left ≡ 0 → NumberPut (kind_rows c required p t 0 (listed s)) k n old out w
    going-done h =
        rw (g.rest ∙ (ap (λ (l : List Listed). g.done ++ kind_rows c required p t entry l) (listed-end left h)
        ∙ (ap (λ (l : List Row). g.done ++ l) (kind-none t entry) ∙ append-nil g.done)))
        g.put

    module _ (x : Listed) (f : Next left x) where
      -- an entry of the other kind
      pub going-aside : (is_some x.aim ≡ t → ⊥) → Going t k n s old out (drop x.size left) w entry
      going-aside h =
          record {
            done = g.done;
            put = g.put;
            rest = g.rest
                ∙ ap (λ (l : List Row). g.done ++ l) (ap (kind_rows c required p t entry) f.all ∙ aside-in t entry x.aim x (listed (drop x.size left)) refl h);
          }

      module _ (h : is_some x.aim ≡ t) where
        here : kind_rows c required p t entry (listed left)
            ≡ rows_at (list_number t) entry (final_in c required p x) ++ kind_rows c required p t (entry + 1) (listed (drop x.size left))
        here =
            ap (kind_rows c required p t entry) f.all
            ∙ (here-in t entry x.aim x (listed (drop x.size left)) refl h
            ∙ ap (λ (i : ℕ). rows_at (list_number t) entry (final_in c required p x) ++ kind_rows c required p t i (listed (drop x.size left))) (sym (add-one entry)))

        -- one that gives no reason
        pub going-none : [] ≡ final_in c required p x → Going t k n s old out (drop x.size left) w (entry + 1)
        going-none e =
            record {
              done = g.done;
              put = g.put;
              rest = g.rest ∙ ap (λ (l : List Row). g.done ++ l)
                  (here ∙ ap (λ (l : List InvalidReason). rows_at (list_number t) entry l ++ kind_rows c required p t (entry + 1) (listed (drop x.size left))) (sym e));
            }

        module _ (r : InvalidReason) (e : r ∷ [] ≡ final_in c required p x) where
          split : kind_rows c required p t 0 (listed s)
              ≡ g.done ++ (row (list_number t) entry r ∷ kind_rows c required p t (entry + 1) (listed (drop x.size left)))
          split = g.rest ∙ ap (λ (l : List Row). g.done ++ l)
              (here ∙ ap (λ (l : List InvalidReason). rows_at (list_number t) entry l ++ kind_rows c required p t (entry + 1) (listed (drop x.size left))) (sym e))

          -- one that gives a reason
          pub going-some : Matching p s → (new : List ℕ) (v : code.Walked) →
              ((rows : List Row) (m : ℕ) (before : List ℕ) → NumberPut rows k m before out w → Near rows (row (list_number t) entry r) →
              NumberPut (rows ++ (row (list_number t) entry r ∷ [])) k m before new v) →
              Going t k n s old new (drop x.size left) v (entry + 1)
          going-some m new v q =
              record {
                done = g.done ++ (row (list_number t) entry r ∷ []);
                put = q g.done n old g.put (near c required p s t g.done _ (row (list_number t) entry r) m split);
                rest = split ∙ sym (append_assoc g.done (row (list_number t) entry r ∷ []) (kind_rows c required p t (entry + 1) (listed (drop x.size left))));
              }

-- what is known of the entries that are left, whatever the point
pub record Left (left : List ℕ) (n rows k next entry : ℕ) : Type 0 where
  pub reads : is_some (read_list left) ≡ true
  pub room : entry + length (listed left) ≤ 65535
  pub few : rows ≤ n + entry
  pub later : k < next

pub left_start : (s : List ℕ) (n k : ℕ) → is_some (read_list s) ≡ true → k < 255 → Left s n n k 255 0
left_start s n k r h = record { reads = r; room = let f = few-listed s r in omega (arith, f); few = omega arith; later = h }

module _ (left : List ℕ) (n rows k next entry : ℕ) (w : Left left n rows k next entry) (x : Listed) (f : Next left x) where
  pub left_room : entry < 65535
  left_room = let e = ap length f.all in let r = w.room in omega (arith, e, r)

  pub left-aside : (t : List ℕ) → t ≡ drop x.size left → Left t n rows k next entry
  left-aside t h = rw h (record { reads = f.left; room = let e = ap length f.all in let r = w.room in omega (arith, e, r); few = w.few; later = w.later })

  pub left-next : (t : List ℕ) (m z : ℕ) → t ≡ drop x.size left → m ≤ rows + 1 → k < z → Left t n m k z (entry + 1)
  left-next t m z h g l =
      rw h
      (record { reads = f.left; room = let e = ap length f.all in let r = w.room in omega (arith, e, r); few = let a = w.few in omega (arith, a, g); later = l })
