-- An entry at the front of bytes is read as far as it goes: what follows it makes no difference. So lists that follow one another.
use Rattle.std.specs.Prelude.{option_map, unwrap_or, Option, None, Some, is_some}
use Prim.Native.Nat.{ℕ, zero, suc, ◌+◌, ◌≤◌}
use native.Mathlib.Omega.{arith}
use mathlib.Core.Path.{◌≡◌, refl, sym, ap, ◌∙◌, subst}
use mathlib.Core.Logic.{◌⊎◌, inl, inr}
use mathlib.Core.Bool.{Bool, true, false}
use mathlib.Core.List.{List, [], ◌∷◌, ◌++◌}
use lib.ListN.{length, take, drop, length-drop}
use lib.Seq.{drop-append-le}
use lib.Dec.{eqb}
use borrow.Author.Tests.{eqb-true}
use Rattle.base.specs.Base.{pick, and_then}
use Rattle.base.proofs.Lists.{append-none}
use Rattle.base.proofs.Option.{picked, and_then_lem, some-injective, map-eq-some_iff}
use Rattle.map.specs.declared.Arrangement.{Arrangement}
use Rattle.map.specs.declared.Arrangement.TheVariants.{Columns}
use Rattle.record.specs.Record.{record_end}
use Rattle.record.proofs.Laws.{Agree, part_same, end_same, end-within, front_agrees, append_agrees}
use Rattle.point.specs.Point.{PointInfo}
use Rattle.point.specs.Reading.{read_point_in}
use Rattle.point.specs.declared.data.AnchorStageRole.{AnchorStageRole}
use Rattle.rules.specs.List.{is_listable, RecordFront, record_front, record_front_in, Listed, read_entry, read_entry_in, is_in_order, list_from, list_from_in, read_list, read_list_in, directs, indirects}
use Rattle.rules.proofs.Halves.{directs-append}
use Rattle.rules.proofs.Fronts.{agree_self, shorter, agree_after, entry_of, EntryFront, before_record, without_record, split_entry}

-- ---- a record, and an entry

-- it takes no more bytes than there are, and bytes that begin with those have the same record in front
pub record RecordAt (a : Arrangement) (s : List ℕ) (x : RecordFront) : Type 0 where
  pub end : record_end s ≡ Some x.size
  pub within : x.size ≤ length s
  pub alike : (t : List ℕ) → Agree x.size s t → record_front_in a t ≡ Some x

front-is : (a : Arrangement) (s : List ℕ) (n : ℕ) (q : PointInfo) →
    record_end s ≡ Some n → read_point_in a (take n s) ≡ Some q → is_listable q ≡ true →
    record_front_in a s ≡ Some (record { point = q; size = n })
unfolding record_front_in
front-is a s n q e r l = rw (e, r, l)

pub record_front_lem : (a : Arrangement) (s : List ℕ) (x : RecordFront) → record_front_in a s ≡ Some x → RecordAt a s x
unfolding record_front_in
record_front_lem a s x h =
    let n = and_then_lem (record_end s) _ x h in
    let q = and_then_lem (read_point_in a (take n.0 s)) _ x n.2 in
    let k = picked (is_listable q.0) _ x q.2 in
    let w = end-within s n.0 n.1 in
    let e : n.0 ≡ x.size = ap (λ (y : RecordFront). y.size) (some-injective _ _ k.1) in
    record {
      end = n.1 ∙ ap Some e;
      within = omega arith;
      alike =
          λ t g.
          front-is a t n.0 q.0
          (end_same x.size s t g n.0 n.1 (omega arith))
          (ap (read_point_in a) (part_same x.size s t g n.0 0 (omega arith)) ∙ q.1)
          k.0
          ∙ k.1;
    }

-- it takes a byte at least, and no more than there are
pub record Front (s : List ℕ) (x : Listed) : Type 0 where
  pub least : 1 ≤ x.size
  pub within : x.size ≤ length s
  pub alike : (t : List ℕ) → Agree x.size s t → read_entry t ≡ Some x

pub entry-front : (s : List ℕ) (x : Listed) → read_entry s ≡ Some x → Front s x
entry-front s x h = go (split_entry Columns s x h)
  where
    go : EntryFront read_entry_in 0 s → Front s x
    go (before_record k aim made l w r) =
        let y = (map-eq-some_iff _ (record_front (drop k s))).0 (sym (r Columns s (agree_self k s w)) ∙ h) in
        let f = record_front_lem Columns (drop k s) y.0 y.1 in
        let e : 0 + k + y.0.size ≡ x.size = ap (λ (z : Listed). z.size) y.2 in
        let d = length-drop k s in
        let b = f.within in
        record {
          least = omega arith;
          within = omega arith;
          alike =
              λ t g.
              r Columns t (shorter x.size s t g k (omega arith))
              ∙ ap (option_map (entry_of aim made (0 + k))) (f.alike (drop k t) (agree_after x.size s t g k y.0.size (omega arith)))
              ∙ ap Some y.2;
        }
    go (without_record k y l w z r) =
        let e : Some y ≡ Some x = sym (r Columns s (agree_self k s w)) ∙ h in
        let m : y.size ≡ x.size = ap (λ (v : Listed). v.size) (some-injective _ _ e) in
        record { least = omega arith; within = omega arith; alike = λ t g. r Columns t (shorter x.size s t g k (omega arith)) ∙ e }

module _ (s : List ℕ) (x : Listed) (h : read_entry s ≡ Some x) where
  pub some_bytes : 1 ≤ length s
  some_bytes = let f = entry-front s x h in omega (arith, f.least, f.within)

  -- whatever follows, and without what follows
  pub entry-append : (rest : List ℕ) → read_entry (s ++ rest) ≡ Some x
  entry-append rest =
      (entry-front s x h).alike (s ++ rest) (shorter (length s) s (s ++ rest) (append_agrees s rest) x.size (entry-front s x h).within)

  pub entry_alone : read_entry (take x.size s) ≡ Some x
  entry_alone = (entry-front s x h).alike (take x.size s) (front_agrees x.size s (entry-front s x h).within)

-- ---- lists one after the other

-- a list of an entry and what follows it
pub record StepIn (a : Arrangement) (n : ℕ) (indirect_seen : Bool) (s : List ℕ) (l : List Listed) : Type 0 where
  pub first : Listed
  pub rest : List Listed
  pub reads : read_entry_in a s ≡ Some first
  pub ordered : is_in_order indirect_seen first.aim ≡ true
  pub more : list_from_in a n (is_some first.aim) (drop first.size s) ≡ Some rest
  pub is : first ∷ rest ≡ l

module _ (a : Arrangement) where
  pub list_zero_in : (b : Bool) (s : List ℕ) (l : List Listed) → list_from_in a zero b s ≡ Some l → (length s ≡ 0) × ([] ≡ l)
  unfolding list_from_in
  list_zero_in b s l h = let k = picked (eqb (length s) 0) (Some []) l h in (eqb-true _ _ k.0, some-injective _ _ k.1)

  pub list_suc_in : (n : ℕ) (b : Bool) (s : List ℕ) (l : List Listed) → list_from_in a (suc n) b s ≡ Some l →
      ((length s ≡ 0) × ([] ≡ l)) ⊎ StepIn a n b s l
  unfolding list_from_in
  list_suc_in n b s l h = go (eqb (length s) 0) refl h
    where
      go : (c : Bool) → eqb (length s) 0 ≡ c →
          pick c (Some []) (and_then (read_entry_in a s) (λ x.
          pick (is_in_order b x.aim) (option_map (λ r. x ∷ r) (list_from_in a n (is_some x.aim) (drop x.size s))) None)) ≡ Some l →
          ((length s ≡ 0) × ([] ≡ l)) ⊎ StepIn a n b s l
      go true e k = inl (eqb-true _ _ e, some-injective _ _ k)
      go false e k =
          let x = and_then_lem (read_entry_in a s) _ l k in
          let o = picked (is_in_order b x.0.aim) _ l x.2 in
          let r = (map-eq-some_iff _ (list_from_in a n (is_some x.0.aim) (drop x.0.size s))).0 o.1 in
          inr (record { first = x.0; rest = r.0; reads = x.1; ordered = o.0; more = r.1; is = r.2 })

abbrev pub Step : ℕ → Bool → List ℕ → List Listed → Type 0
Step n indirect_seen s l = StepIn Columns n indirect_seen s l

pub list_zero : (a : Bool) (s : List ℕ) (l : List Listed) → list_from zero a s ≡ Some l → (length s ≡ 0) × ([] ≡ l)
list_zero = list_zero_in Columns

pub list_suc : (n : ℕ) (a : Bool) (s : List ℕ) (l : List Listed) → list_from (suc n) a s ≡ Some l → ((length s ≡ 0) × ([] ≡ l)) ⊎ Step n a s l
list_suc = list_suc_in Columns

-- an empty slice has no entry at its front
no_entry : {A : Type 0} (s : List ℕ) (x : Listed) → length s ≡ 0 → read_entry s ≡ Some x → A
no_entry s x e h = let f = some_bytes s x h in absurd (omega arith)

pub empty-is : (s : List ℕ) → length s ≡ 0 → s ≡ []
empty-is [] h = refl
empty-is (x ∷ s) h = absurd (omega arith)

-- a list reads as the same entries, however many there may be and whatever stood before it
same-list : (n k : ℕ) (a b : Bool) (s : List ℕ) (l m : List Listed) → list_from n a s ≡ Some l → list_from k b s ≡ Some m → l ≡ m
same-list zero zero a b s l m h g = sym (list_zero a s l h).1 ∙ (list_zero b s m g).1
same-list zero (suc k) a b s l m h g = go (list_suc k b s m g)
  where
    go : ((length s ≡ 0) × ([] ≡ m)) ⊎ Step k b s m → l ≡ m
    go (inl e) = sym (list_zero a s l h).1 ∙ e.1
    go (inr u) = no_entry s u.first (list_zero a s l h).0 u.reads
same-list (suc n) zero a b s l m h g = go (list_suc n a s l h)
  where
    go : ((length s ≡ 0) × ([] ≡ l)) ⊎ Step n a s l → l ≡ m
    go (inl e) = sym e.1 ∙ (list_zero b s m g).1
    go (inr u) = no_entry s u.first (list_zero b s m g).0 u.reads
same-list (suc n) (suc k) a b s l m h g = go (list_suc n a s l h) (list_suc k b s m g) (same-list n k)
  where
    go : ((length s ≡ 0) × ([] ≡ l)) ⊎ Step n a s l → ((length s ≡ 0) × ([] ≡ m)) ⊎ Step k b s m →
        ((c d : Bool) (t : List ℕ) (x y : List Listed) → list_from n c t ≡ Some x → list_from k d t ≡ Some y → x ≡ y) → l ≡ m
    go (inl e) (inl f) r = sym e.1 ∙ f.1
    go (inl e) (inr v) r = no_entry s v.first e.0 v.reads
    go (inr u) (inl f) r = no_entry s u.first f.0 u.reads
    go (inr u) (inr v) r =
        let e : u.first ≡ v.first = some-injective _ _ (sym u.reads ∙ v.reads) in
        let w = v.more in
        let z = r (is_some u.first.aim) (is_some v.first.aim) (drop u.first.size s) u.rest v.rest u.more (ap (λ (x : Listed). list_from k (is_some v.first.aim) (drop x.size s)) e ∙ w) in
        sym u.is ∙ ap (λ (x : Listed). x ∷ u.rest) e ∙ ap (λ (x : List Listed). v.first ∷ x) z ∙ v.is

-- after an indirect entry no direct one stands
pub after-indirect : (n : ℕ) (s : List ℕ) (l : List Listed) → list_from n true s ≡ Some l → directs l ≡ []
unfolding directs
after-indirect zero s l h = rw (← (list_zero true s l h).1)
after-indirect (suc n) s l h = go (list_suc n true s l h) (after-indirect n)
  where
    go : ((length s ≡ 0) × ([] ≡ l)) ⊎ Step n true s l → ((t : List ℕ) (m : List Listed) → list_from n true t ≡ Some m → directs m ≡ []) → directs l ≡ []
    go (inl e) r = rw (← e.1)
    go (inr u) r =
        let o : is_some u.first.aim ≡ true = u.ordered in
        let z = r (drop u.first.size s) u.rest (ap (λ (b : Bool). list_from n b (drop u.first.size s)) (sym o) ∙ u.more) in
        rw (← u.is, o) z

-- no direct entry of the second list follows an indirect one of the first
abbrev pub DirectFirst : List Listed → List Listed → Type 0
DirectFirst l m = (indirects l ≡ []) ⊎ (directs m ≡ [])

step-first : (x : Listed) (l m : List Listed) → DirectFirst l m → (is_some x.aim ≡ true → directs m ≡ []) → DirectFirst (x ∷ l) m
unfolding indirects
step-first x l m o f = go x.aim refl o
  where
    go : (a : Option AnchorStageRole) → x.aim ≡ a → DirectFirst l m →
        (unwrap_or (option_map (λ g. record { role = g; entry = x.entry } ∷ indirects l) a) (indirects l) ≡ []) ⊎ (directs m ≡ [])
    go None e (inl k) = inl k
    go None e (inr k) = inr k
    go (Some g) e k = inr (f (ap is_some e))

-- the first entry of a list, before another list
append-step : (j : ℕ) (a : Bool) (s t : List ℕ) (x : Listed) (whole : List Listed) → read_entry s ≡ Some x → list_from j a (s ++ t) ≡ Some whole →
    (i : ℕ) × (rest : List Listed) × (list_from i (is_some x.aim) (drop x.size s ++ t) ≡ Some rest) × (x ∷ rest ≡ whole)
append-step zero a s t x whole h w = no_entry (s ++ t) x (list_zero a (s ++ t) whole w).0 (entry-append s x h t)
append-step (suc j) a s t x whole h w = go (list_suc j a (s ++ t) whole w)
  where
    go : ((length (s ++ t) ≡ 0) × ([] ≡ whole)) ⊎ Step j a (s ++ t) whole →
        (i : ℕ) × (rest : List Listed) × (list_from i (is_some x.aim) (drop x.size s ++ t) ≡ Some rest) × (x ∷ rest ≡ whole)
    go (inl e) = no_entry (s ++ t) x e.0 (entry-append s x h t)
    go (inr u) =
        let e : x ≡ u.first = some-injective _ _ (sym (entry-append s x h t) ∙ u.reads) in (
          j,
          u.rest,
          ap (list_from j (is_some x.aim)) (sym (drop-append-le x.size s t (entry-front s x h).within))
              ∙ ap (λ (y : Listed). list_from j (is_some y.aim) (drop y.size (s ++ t))) e
              ∙ u.more,
          ap (λ (y : Listed). y ∷ u.rest) e ∙ u.is,
        )

-- so lists of bytes that stand one after the other
from-append : (n k j : ℕ) (a b : Bool) (s t : List ℕ) (l m whole : List Listed) → list_from n a s ≡ Some l → list_from k b t ≡ Some m →
    list_from j a (s ++ t) ≡ Some whole → (whole ≡ l ++ m) × DirectFirst l m
unfolding indirects
from-append zero k j a b s t l m whole h g w =
    let e = list_zero a s l h in
    let f : s ≡ [] = empty-is s e.0 in (
      same-list j k a b t whole m (ap (λ (r : List ℕ). list_from j a (r ++ t)) (sym f) ∙ w) g ∙ ap (λ (x : List Listed). x ++ m) e.1,
      inl (rw (← e.1)),
    )
from-append (suc n) k j a b s t l m whole h g w = go (list_suc n a s l h) (from-append n k)
  where
    go : ((length s ≡ 0) × ([] ≡ l)) ⊎ Step n a s l →
        ((i : ℕ) (c d : Bool) (u v : List ℕ) (x y z : List Listed) → list_from n c u ≡ Some x → list_from k d v ≡ Some y → list_from i c (u ++ v) ≡ Some z → (z ≡ x ++ y) × DirectFirst x y) →
        (whole ≡ l ++ m) × DirectFirst l m
    go (inl e) r =
        let f : s ≡ [] = empty-is s e.0 in (
          same-list j k a b t whole m (ap (λ (r : List ℕ). list_from j a (r ++ t)) (sym f) ∙ w) g ∙ ap (λ (x : List Listed). x ++ m) e.1,
          inl (rw (← e.1)),
        )
    go (inr u) r =
        let y = append-step j a s t u.first whole u.reads w in
        let z = r y.0 (is_some u.first.aim) b (drop u.first.size s) t u.rest m y.1 u.more g y.2 in (
          sym y.3 ∙ ap (λ (q : List Listed). u.first ∷ q) z.0 ∙ ap (λ (q : List Listed). q ++ m) u.is,
          subst (λ (q : List Listed). DirectFirst q m) u.is (step-first u.first u.rest m z.1 (λ e.
              (append-none (directs u.rest) (directs m)
              (sym (directs-append u.rest m) ∙ ap directs (sym z.0) ∙ after-indirect y.0 (drop u.first.size s ++ t) y.1 (ap (λ (q : Bool). list_from y.0 q (drop u.first.size s ++ t)) (sym e) ∙ y.2))
              ).1)),
        )

pub list-append : (s t : List ℕ) (l m whole : List Listed) → read_list s ≡ Some l → read_list t ≡ Some m → read_list (s ++ t) ≡ Some whole →
    (whole ≡ l ++ m) × DirectFirst l m
unfolding read_list_in
list-append s t l m whole h g w = from-append 65535 65535 65535 false false s t l m whole h g w
