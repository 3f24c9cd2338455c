-- Laws of the versions of the author's point at the round before: their ids, which of them stand twice, and an index of a block of them.
use Rattle.std.specs.Prelude.{Option, None, Some, is_some, option_map}
use Rattle.std.specs.Bool.{then_some}
use Prim.Native.Nat.{ℕ, zero, suc, ◌+◌, ◌-◌, ◌≤◌, ◌<◌}
use native.Mathlib.Omega.{arith}
use native.Mathlib.Decide.{dec_lt}
use mathlib.Core.Path.{◌≡◌, refl, ap, sym, ◌∙◌}
use mathlib.Core.Logic.{◌⊎◌, inl, inr, ⊎_elim}
use mathlib.Core.Bool.{Bool, true, false, not, ◌&&◌, ◌||◌}
use mathlib.Core.List.{List, [], ◌∷◌, ◌++◌, append_assoc}
use lib.ListN.{length, get_or, drop, length-append, length-drop, get_or-append}
use lib.Seq.{get_or-append_seam}
use lib.Dec.{eqb}
use borrow.Author.Tests.{eqb-false, not-true}
use Rattle.base.specs.Base.{pick}
use Rattle.base.proofs.Bool.{clash, never, and_left, and_right, or_left, or_right, or_first, or_second, or_none, or_rest}
use Rattle.base.proofs.Option.{some_of, unfound, some-none, none-some}
use Rattle.point.specs.Point.{PointId, PointInfo, no_point, prev_digest, same_id}
use Rattle.point.specs.Reading.{point_id_at}
use Rattle.point.specs.declared.data.AnchorStageRole.{AnchorStageRole}
use Rattle.point.proofs.Ids.{same_sym, same_eq, id_shift}
use Rattle.id_index.specs.Code.{count_of, field_id, id_in, Added, IsEmpty, Noted, IsAt, NoneIs, Once, Twice, Built, FoundAt}
use Rattle.id_index.specs.declared.Index.{Index}
use Rattle.id_index.proofs.Laws.{added-old, added-noted, none-noted}
use Rattle.rules.specs.DagPoint.{Entry, entry_id, is_dropped, is_by}
use Rattle.rules.specs.List.{Listed, read_entry, directs}
use Rattle.rules.specs.Mismatch.{has_id, ids_of, is_version}
use Rattle.judge_mismatch.specs.Code.{Head, head_of, head_from, flags_at, id_place, id_after, id_of, is_own_id, is_own, own_id, code_head_of, listed, own_ids, own_in, is_twice_in, any_in, is_version_twice, is_new_version}
use Rattle.judge_mismatch.specs.Code.{field_at, HasIds, NotedTo, Meets, BlockRead}
use Rattle.judge_mismatch.specs.declared.head.Head as code-head
use Rattle.judge_mismatch.specs.Entries.{left_of, Front, EntryGiven}
use Rattle.judge_mismatch.specs.declared.entries.Entries.{Entries}
use Rattle.judge_mismatch.specs.declared.entries.ReadableList.{ReadableList}
use Rattle.judge_mismatch.proofs.Heads.{front_kept, front_dropped, head-is, reads_end, directs-next, directs-last}

-- ---- ids in two parts

has-append : (a b : List PointId) (i : PointId) → has_id (a ++ b) i ≡ (has_id a i || has_id b i)
unfolding has_id
has-append [] b i = refl
has-append (j ∷ a) b i = go (same_id j i) (has-append a b i)
  where
    go : (x : Bool) → has_id (a ++ b) i ≡ (has_id a i || has_id b i) → (x || has_id (a ++ b) i) ≡ ((x || has_id a i) || has_id b i)
    go true h = refl
    go false h = h

any_none : (b : List PointId) → any_in [] b ≡ false
unfolding any_in has_id
any_none [] = refl
any_none (j ∷ b) = any_none b

any_next : (i : PointId) (a b : List PointId) → any_in (i ∷ a) b ≡ (has_id b i || any_in a b)
unfolding any_in has_id
any_next i a [] = refl
any_next i a (j ∷ b) = rw (same_sym i j, any_next i a b) (go (same_id j i) (has_id a j) (has_id b i) (any_in a b))
  where
    go : (x y z w : Bool) → ((x || y) || (z || w)) ≡ ((x || z) || (y || w))
    go true y z w = refl
    go false true true w = refl
    go false true false w = refl
    go false false z w = refl

-- ids stand twice in the one part, in both, or in the other
pub twice-append : (a b : List PointId) → is_twice_in (a ++ b) ≡ (is_twice_in a || (any_in a b || is_twice_in b))
unfolding is_twice_in
twice-append [] b = rw (any_none b)
twice-append (i ∷ a) b =
    rw (has-append a b i, twice-append a b, any_next i a b)
    (go (has_id a i) (has_id b i) (is_twice_in a) (any_in a b || is_twice_in b) (any_in a b) (is_twice_in b) refl)
  where
    go : (x y z v w u : Bool) → v ≡ (w || u) → ((x || y) || (z || v)) ≡ ((x || z) || ((y || w) || u))
    go true y z v w u e = refl
    go false true true v w u e = refl
    go false true false v w u e = refl
    go false false true v w u e = refl
    go false false false v w u e = e

-- ---- ids by their places in a list

has-at : (l : List PointId) (j : ℕ) (i : PointId) → j < length l → same_id (get_or l j no_point) i ≡ true → has_id l i ≡ true
unfolding has_id
has-at [] j i h t = absurd (omega arith)
has-at (k ∷ l) zero i h t = or_first (same_id k i) (has_id l i) t
has-at (k ∷ l) (suc j) i h t = or_second (same_id k i) (has_id l i) (has-at l j i (omega arith) t)

has_nowhere : (l : List PointId) (i : PointId) → ((j : ℕ) → j < length l → same_id (get_or l j no_point) i ≡ false) → has_id l i ≡ false
unfolding has_id
has_nowhere [] i h = refl
has_nowhere (k ∷ l) i h = or_none (same_id k i) (has_id l i) (h 0 (omega arith)) (has_nowhere l i (λ j g. h (suc j) (omega arith)))

twice-at : (l : List PointId) (j k : ℕ) → j < k → k < length l → same_id (get_or l j no_point) (get_or l k no_point) ≡ true → is_twice_in l ≡ true
unfolding is_twice_in
twice-at [] j k h g t = absurd (omega arith)
twice-at (i ∷ l) j zero h g t = absurd (omega arith)
twice-at (i ∷ l) zero (suc k) h g t = or_first (has_id l i) (is_twice_in l) (has-at l k i (omega arith) (same_sym (get_or l k no_point) i ∙ t))
twice-at (i ∷ l) (suc j) (suc k) h g t = or_second (has_id l i) (is_twice_in l) (twice-at l j k (omega arith) (omega arith) t)

twice_nowhere : (l : List PointId) → ((j k : ℕ) → j < k → k < length l → same_id (get_or l j no_point) (get_or l k no_point) ≡ false) → is_twice_in l ≡ false
unfolding is_twice_in
twice_nowhere [] h = refl
twice_nowhere (i ∷ l) h =
    or_none (has_id l i) (is_twice_in l)
    (has_nowhere l i (λ k g. same_sym (get_or l k no_point) i ∙ h 0 (suc k) (omega arith) (omega arith)))
    (twice_nowhere l (λ j k g f. h (suc j) (suc k) (omega arith) (omega arith)))

-- ---- an index of ids

lt_or_le : (j n : ℕ) → (j < n) ⊎ (n ≤ j)
lt_or_le j n = elim (dec_lt j n) [
  | yes b ↦ inl b
  | no b ↦ inr (omega arith)
]

pub ids-start : (s : List ℕ) (x : Index) → IsEmpty x → HasIds s x []
ids-start s x e = record { count = e.none; ids = λ j h. absurd (omega arith) }

module _ {s : List ℕ} {x : Index} {l : List PointId} (h : HasIds s x l) where
  pub ids-found : (i : PointId) (j : ℕ) → IsAt s x (count_of x) i j → has_id l i ≡ true
  ids-found i j a =
      let g : j < length l = omega (arith, a.within, h.count) in
      has-at l j i g (ap (λ (z : PointId). same_id z i) (sym (h.ids j g)) ∙ a.same)

  pub ids-absent : (i : PointId) → NoneIs s x (count_of x) i → has_id l i ≡ false
  ids-absent i n = has_nowhere l i (λ j g. ap (λ (z : PointId). same_id z i) (sym (h.ids j g)) ∙ n j (omega (arith, h.count)))

  pub ids-twice : Twice s x → is_twice_in l ≡ true
  ids-twice t =
      let g : t.second < length l = omega (arith, t.within, h.count) in
      twice-at l t.first t.second t.after g
      (rw (← h.ids t.first (omega (arith, t.after)), ← h.ids t.second g) t.same)

  pub ids-once : Once s x (count_of x) → is_twice_in l ≡ false
  ids-once o =
      twice_nowhere l
      (λ j k g f. rw (← h.ids j (omega arith), ← h.ids k f) (o j k g (omega (arith, h.count))))

  -- building keeps them
  pub ids-built : {y : Index} {r : Bool} → Built s x y r → HasIds s y l
  ids-built b = record { count = b.count ∙ h.count; ids = λ j g. ap (λ (q : List ℕ). field_id s (get_or q j 0)) b.places ∙ h.ids j g }

  -- one more
  module _ {y : Index} (place : ℕ) (i : PointId) (p : Added x place y) (e : field_id s place ≡ i) where
    old_id : (j : ℕ) → j < length l → id_in s y j ≡ get_or (l ++ (i ∷ [])) j no_point
    old_id j b =
        ap (field_id s) (added-old p j (omega (arith, h.count)))
        ∙ (h.ids j b ∙ sym (get_or-append l (i ∷ []) no_point j b))

    new-id : id_in s y (length l) ≡ get_or (l ++ (i ∷ [])) (length l) no_point
    new-id =
        ap (λ (n : ℕ). id_in s y n) (sym h.count)
        ∙ (ap (field_id s) p.there ∙ (e ∙ sym (get_or-append_seam l i [] no_point)))

    pub ids-added : HasIds s y (l ++ (i ∷ []))
    ids-added = record {
      count = omega (arith, p.count, h.count, length-append l (i ∷ []));
      ids = λ j g. by j (⊎_elim (λ b. inl b) (λ b. inr (omega (arith, g, b, length-append l (i ∷ [])))) (lt_or_le j (length l)));
    }
      where
        by : (j : ℕ) → (j < length l) ⊎ (j ≡ length l) → id_in s y j ≡ get_or (l ++ (i ∷ [])) j no_point
        by j (inl b) = old_id j b
        by j (inr b) = rw b new-id

-- ---- the entries of a list

module _ (own : PointId) (e : Entry) (l : List Entry) where
  pub own-here : is_dropped e.state ≡ false → is_by (own.round - 1) own.author (entry_id e.state) ≡ true →
      own_ids own (e ∷ l) ≡ entry_id e.state ∷ own_ids own l
  unfolding own_ids
  own-here d b = rw (d, b)

  pub own-passed : (not (is_dropped e.state) && is_by (own.round - 1) own.author (entry_id e.state)) ≡ false → own_ids own (e ∷ l) ≡ own_ids own l
  unfolding own_ids
  own-passed h = rw h

pub none-twice : (own : PointId) → is_twice_in (own_ids own []) ≡ false
unfolding own_ids is_twice_in
none-twice own = refl

pub twice-next : (i : PointId) (l : List PointId) → is_twice_in (i ∷ l) ≡ (has_id l i || is_twice_in l)
unfolding is_twice_in
twice-next i l = refl

module _ (own : PointId) {l r : List Listed} {h : Head} (f : Front l h r) where
  -- an entry that is a version stands first, any other is passed over
  pub own-next : (i : PointId) → h.id ≡ Some i → is_own own h ≡ true → own_ids own (directs l) ≡ i ∷ own_ids own (directs r)
  unfolding is_own
  own-next i e o =
      let k = front_kept f i e in
      let direct = unfound h.aim (not-true (is_some h.aim) (and_left (not (is_some h.aim)) _ o)) in
      let by_own : is_by (own.round - 1) own.author i ≡ true = rw e at (and_right (not (is_some h.aim)) _ o) in
      ap (own_ids own) (directs-next f direct) ∙ (own-here own f.first.entry _ k.0 (ap (is_by (own.round - 1) own.author) (sym k.1) ∙ by_own)
      ∙ ap (λ (j : PointId). j ∷ own_ids own (directs r)) (sym k.1))

  pub other-next : is_own own h ≡ false → own_ids own (directs l) ≡ own_ids own (directs r)
  unfolding is_own
  other-next o = by_aim h.aim refl
    where
      by_id : (i : Option PointId) → h.id ≡ i → h.aim ≡ None → (not (is_dropped f.first.entry.state) && is_by (own.round - 1) own.author (entry_id f.first.entry.state)) ≡ false
      by_id None e a = rw (front_dropped f e)
      by_id (Some i) e a = let k = front_kept f i e in rw (k.0, ← k.1) (rw (a, e) at o)

      by_aim : (g : Option AnchorStageRole) → h.aim ≡ g → own_ids own (directs l) ≡ own_ids own (directs r)
      by_aim None a = ap (own_ids own) (directs-next f a) ∙ own-passed own f.first.entry _ (by_id h.id refl a)
      by_aim (Some g) a = let d = directs-last f (ap is_some a) in ap (own_ids own) (d.0 ∙ sym d.1)

-- ---- versions that stand once

-- a version among the ids is among the versions
pub own-has : (own i : PointId) → is_by (own.round - 1) own.author i ≡ true → (l : List Entry) → has_id (ids_of l) i ≡ has_id (own_ids own l) i
unfolding ids_of own_ids has_id
own-has own i v [] = refl
own-has own i v (e ∷ l) = go (is_dropped e.state) (is_by (own.round - 1) own.author (entry_id e.state)) refl (own-has own i v l)
  where
    go : (d b : Bool) → is_by (own.round - 1) own.author (entry_id e.state) ≡ b → has_id (ids_of l) i ≡ has_id (own_ids own l) i →
        has_id (pick d (ids_of l) (entry_id e.state ∷ ids_of l)) i ≡ has_id (pick (not d && b) (entry_id e.state ∷ own_ids own l) (own_ids own l)) i
    go true b g h = h
    go false true g h = ap (λ (z : Bool). same_id (entry_id e.state) i || z) h
    go false false g h =
        let other : same_id (entry_id e.state) i ≡ false = never _ (λ t. clash (is_by (own.round - 1) own.author i) v (ap (λ (z : PointId). is_by (own.round - 1) own.author z) (sym (same_eq (entry_id e.state) i t)) ∙ g)) in
        rw other h

module _ (p : PointInfo) (e : Entry) (es : List Entry) where
  pub once_tail : is_version_twice p (e ∷ es) ≡ false → is_version_twice p es ≡ false
  unfolding is_version_twice own_ids is_twice_in
  once_tail h = go (not (is_some (prev_digest p))) (not (is_dropped e.state) && is_by (p.id.round - 1) p.id.author (entry_id e.state)) h
    where
      go : (a b : Bool) → (a && is_twice_in (pick b (entry_id e.state ∷ own_ids p.id es) (own_ids p.id es))) ≡ false → (a && is_twice_in (own_ids p.id es)) ≡ false
      go false b g = refl
      go true true g = or_right (has_id (own_ids p.id es) (entry_id e.state)) _ g
      go true false g = g

  pub version-once : (x : PointId) → is_dropped e.state ≡ false → x ≡ entry_id e.state → is_version_twice p (e ∷ es) ≡ false →
      is_version p x ≡ is_new_version p es x
  unfolding is_version is_new_version is_version_twice is_twice_in
  version-once x d same h = go (not (is_some (prev_digest p))) (is_by (p.id.round - 1) p.id.author x) refl h
    where
      go : (a b : Bool) → is_by (p.id.round - 1) p.id.author x ≡ b → (a && is_twice_in (own_ids p.id (e ∷ es))) ≡ false →
          (a && b) ≡ ((a && b) && not (has_id (ids_of es) x))
      go false b v g = refl
      go true false v g = refl
      go true true v g =
          let ids = own-here p.id e es d (ap (is_by (p.id.round - 1) p.id.author) (sym same) ∙ v) in
          let none_after : has_id (own_ids p.id es) (entry_id e.state) ≡ false = or_left _ (is_twice_in (own_ids p.id es)) (sym (ap is_twice_in ids) ∙ g) in
          sym (ap not (own-has p.id x v es ∙ (ap (has_id (own_ids p.id es)) same ∙ none_after)))

-- ---- an entry of the code

after_dropped : (s : List ℕ) (state at : ℕ) → eqb state 5 ≡ true → id_after state at s ≡ None
unfolding id_after
after_dropped s state at g = rw g

after_kept : (s : List ℕ) (state at : ℕ) → eqb state 5 ≡ false → id_after state at s ≡ Some (point_id_at s (at + id_place state))
unfolding id_after
after_kept s state at g = rw g

-- the field of a version's id
own-field : (own : PointId) (s : List ℕ) (h : Head) → is_some (read_entry s) ≡ true → Some h ≡ head_from (read_entry s) → is_own own h ≡ true →
    (field_at s + 71 ≤ length s) × (Some (point_id_at s (field_at s + 3)) ≡ h.id)
unfolding is_own
own-field own s h r e o =
    let x = some_of (read_entry s) r in
    let i = head-is s x.0 x.1 in
    let same : Some h ≡ Some (head_of x.0) = e ∙ ap head_from x.1 in
    let id : h.id ≡ id_of x.0.entry.state = cc in
    let state = get_or s (flags_at s + 3) 0 in
    let there : h.id ≡ id_after state (flags_at s + 7) s = id ∙ i.id in
    let five : eqb state 5 ≡ false = never (eqb state 5) (λ t. clash (is_own_id own h.id) (and_right (not (is_some h.aim)) _ o) (ap (is_own_id own) (there ∙ after_dropped s state (flags_at s + 7) t))) in
    go (flags_at s) (eqb state 1) (i.id-room (eqb-false state 5 five)) (there ∙ after_kept s state (flags_at s + 7) five)
  where
    go : (f : ℕ) (b : Bool) → f + 7 + pick b 75 3 + 68 ≤ length s → h.id ≡ Some (point_id_at s (f + 7 + pick b 75 3)) →
        (pick b (f + 79) (f + 7) + 71 ≤ length s) × (Some (point_id_at s (pick b (f + 79) (f + 7) + 3)) ≡ h.id)
    go f true g i = (omega arith, ap Some (ap (point_id_at s) (omega arith)) ∙ sym i)
    go f false g i = (omega arith, ap Some (ap (point_id_at s) (omega arith)) ∙ sym i)

-- an entry that is given, which has its id if it is a version
module _ (own : PointId) (h : Head) where
  owned : (i : PointId) → own_id own h ≡ Some i → (is_own own h ≡ true) × (h.id ≡ Some i)
  owned i e = by (is_own own h) refl e
    where
      by : (b : Bool) → is_own own h ≡ b → pick b h.id None ≡ Some i → (is_own own h ≡ true) × (h.id ≡ Some i)
      by true t e = (t, e)
      by false t e = none-some e

  not_owned : own_id own h ≡ None → is_own own h ≡ false
  unfolding is_own
  not_owned e = never (is_own own h) (λ t. clash (is_own_id own h.id) (and_right (not (is_some h.aim)) _ t) (ap (is_own_id own) (sym (ap (λ (b : Bool). pick b h.id None) t) ∙ e)))

module _ {old new : Entries} {at : ℕ} {h : code-head.Head} (g : EntryGiven old at h new) where
  pub given-reads : is_some (read_entry (drop at old.list.now)) ≡ true
  given-reads = by (read_entry (drop at old.list.now)) refl
    where
      by : (o : Option Listed) → o ≡ read_entry (drop at old.list.now) → is_some o ≡ true
      by None t = some-none (g.read ∙ ap head_from (sym t))
      by (Some x) t = refl

  module _ (own : PointId) where
    pub other_given : own_id own (code_head_of h) ≡ None → own_ids own (directs (left_of old)) ≡ own_ids own (directs (left_of new))
    other_given e = other-next own g.front (not_owned own (code_head_of h) e)

    module _ (i : PointId) (e : own_id own (code_head_of h) ≡ Some i) where
      pub own_given : own_ids own (directs (left_of old)) ≡ i ∷ own_ids own (directs (left_of new))
      own_given = let o = owned own (code_head_of h) i e in own-next own g.front i o.1 o.0

      field : (field_at (drop at old.list.now) + 71 ≤ length (drop at old.list.now)) × (Some (point_id_at (drop at old.list.now) (field_at (drop at old.list.now) + 3)) ≡ Some i)
      field =
          let o = owned own (code_head_of h) i e in
          let f = own-field own (drop at old.list.now) (code_head_of h) given-reads g.read o.0 in
          (f.0, f.1 ∙ o.1)

      -- where the field of its id stands
      pub field-within : at + field_at (drop at old.list.now) + 71 ≤ length old.list.now
      field-within = omega (arith, field.0, length-drop at old.list.now)

      pub field-is : field_id old.list.now (at + field_at (drop at old.list.now)) ≡ i
      field-is =
          let there : point_id_at (drop at old.list.now) (field_at (drop at old.list.now) + 3) ≡ i = let f = field.1 in cc in
          ap (point_id_at old.list.now) (omega arith) ∙ (sym (id_shift at (field_at (drop at old.list.now) + 3) old.list.now) ∙ there)

-- ---- a block is noted

pub record Noting (own : PointId) (s : List ℕ) (x : Index) (e : Entries) : Type 0 where
  pub block : List PointId
  pub has : HasIds s x block
  pub noted : Noted s x
  pub whole : e.list.now ≡ s
  pub left : own_in own s ≡ block ++ own_ids own (directs (left_of e))
  pub begun : e.at ≡ 0 → count_of x ≡ 0

pub noting_start : (own : PointId) (s : List ℕ) (x : Index) (e : Entries) → IsEmpty x → e.list.now ≡ s → left_of e ≡ listed s → Noting own s x e
noting_start own s x e n w l = record {
  block = [];
  has = ids-start s x n;
  noted = none-noted s n;
  whole = w;
  left = ap (λ (k : List Listed). own_ids own (directs k)) (sym l);
  begun = λ z. n.none;
}

module _ {own : PointId} {s : List ℕ} {x : Index} {e : Entries} (n : Noting own s x e)
    {new : Entries} {at : ℕ} {h : code-head.Head} (g : EntryGiven e at h new) where
  pub noting_own : {y : Index} (i : PointId) → own_id own (code_head_of h) ≡ Some i → Added x (at + field_at (drop at s)) y → Noting own s y new
  noting_own i o a =
      let within : at + field_at (drop at s) + 71 ≤ length s = rw (← n.whole) (field-within g own i o) in
      let is : field_id s (at + field_at (drop at s)) ≡ i = rw (← n.whole) (field-is g own i o) in
      record {
        block = n.block ++ (i ∷ []);
        has = ids-added n.has (at + field_at (drop at s)) i a is;
        noted = added-noted a within n.noted;
        whole = g.list ∙ n.whole;
        left = n.left ∙ (ap (λ (l : List PointId). n.block ++ l) (own_given g own i o) ∙ sym (append_assoc n.block (i ∷ []) (own_ids own (directs (left_of new)))));
        begun = λ z. absurd (omega (arith, g.next, g.least));
      }

  pub noting_other : own_id own (code_head_of h) ≡ None → Noting own s x new
  noting_other o = record {
    block = n.block;
    has = n.has;
    noted = n.noted;
    whole = g.list ∙ n.whole;
    left = n.left ∙ ap (λ (l : List PointId). n.block ++ l) (other_given g own o);
    begun = λ z. absurd (omega (arith, g.next, g.least));
  }

-- ---- a block is tested

any_here : (a : List PointId) (i : PointId) (l : List PointId) → any_in a (i ∷ l) ≡ (has_id a i || any_in a l)
unfolding any_in
any_here a i l = refl

any-end : (a : List PointId) (own : PointId) {l : List Listed} → l ≡ [] → any_in a (own_ids own (directs l)) ≡ false
unfolding any_in own_ids directs
any-end a own h = rw h

-- what is left of the entries meets the index exactly if all of them do
pub record Meeting (own : PointId) (s left : List ℕ) (x : Index) (e : Entries) : Type 0 where
  pub same : (block : List PointId) → HasIds s x block → any_in block (own_ids own (directs (left_of e))) ≡ any_in block (own_in own left)

module _ {own : PointId} {s left : List ℕ} {x : Index} {e : Entries} (n : Meeting own s left x e) where
  pub meeting_end : left_of e ≡ [] → Meets own s left x false
  meeting_end h block b = sym (sym (n.same block b) ∙ any-end block own h)

  module _ {new : Entries} {at : ℕ} {h : code-head.Head} (g : EntryGiven e at h new) where
    pub meeting_other : own_id own (code_head_of h) ≡ None → Meeting own s left x new
    meeting_other o = record { same = λ block b. ap (any_in block) (sym (other_given g own o)) ∙ n.same block b }

    module _ (i : PointId) (o : own_id own (code_head_of h) ≡ Some i) where
      pub meeting_found : (j : ℕ) → FoundAt s x i (Some j) → Meets own s left x true
      meeting_found j a block b =
          sym (sym (n.same block b) ∙ (ap (any_in block) (own_given g own i o) ∙ (any_here block i _ ∙ or_first _ _ (ids-found b i j a))))

      pub meeting_absent : FoundAt s x i None → Meeting own s left x new
      meeting_absent a =
          record { same = λ block b. sym (ap (any_in block) (own_given g own i o) ∙ (any_here block i _ ∙ or_rest _ _ (ids-absent b i a))) ∙ n.same block b }

module _ {own : PointId} {s : List ℕ} {y : Index} {end : ℕ} (n : NotedTo own s y end) where
  all-twice : is_twice_in (own_in own s) ≡ (is_twice_in n.block || (any_in n.block (own_in own (drop end s)) || is_twice_in (own_in own (drop end s))))
  all-twice = ap is_twice_in n.left ∙ twice-append n.block (own_in own (drop end s))

  pub block-twice : (x : Index) → Built s y x false → BlockRead own s None
  block-twice x h = all-twice ∙ or_first _ _ (ids-twice (ids-built n.has h) h.index)

  pub block-met : (x : Index) (b : Bool) (left : ReadableList) → left.bytes.now ≡ drop end s → Built s y x true → Meets own s left.bytes.now x b →
      BlockRead own s (option_map (λ l. l.bytes.now) (then_some (not b) left))
  block-met x b left d h m = by b (m n.block has)
    where
      has : HasIds s x n.block
      has = ids-built n.has h

      after : is_twice_in (own_in own s) ≡ (any_in n.block (own_in own left.bytes.now) || is_twice_in (own_in own left.bytes.now))
      after = rw d (all-twice ∙ or_rest _ _ (ids-once has h.index.1))

      by : (b : Bool) → b ≡ any_in n.block (own_in own left.bytes.now) → BlockRead own s (option_map (λ l. l.bytes.now) (then_some (not b) left))
      by true e = after ∙ or_first _ _ (sym e)
      by false e = record { end = end; within = n.within; more = n.more; rest = d; same = sym (after ∙ or_rest _ _ (sym e)) }

-- ---- block by block

pub twice-end : (own : PointId) (s : List ℕ) → length s ≡ 0 → is_twice_in (own_in own s) ≡ false
unfolding is_twice_in own_ids directs
twice-end own s h = rw (reads_end s 0 (omega arith))
