-- A list of bytes that is made of pieces, each an entry: what it reads as, and so in any order of the pieces.
use Rattle.std.specs.Prelude.{Option, None, Some, option_map, unwrap_or, is_some}
use Prim.Native.Nat.{ℕ, zero, suc, ◌≤◌}
use native.Mathlib.Omega.{arith}
use native.Mathlib.Decide.{dec_lt}
use mathlib.Core.Path.{◌≡◌, refl, sym, ap, ◌∙◌, subst}
use mathlib.Core.Logic.{◌⊎◌, inl, inr}
use mathlib.Core.Bool.{Bool, true, false, ◌&&◌}
use mathlib.Core.List.Permᴰ
use mathlib.Core.List.{List, [], ◌∷◌, ◌++◌, append-nil, append_assoc, Permᴰ}
use lib.ListN.{length, take, drop, length-append, take-append-drop}
use lib.Seq.{drop_at, length-take-le}
use lib.Dec.{leb, eqb}
use borrow.Author.Tests.{le-leb, lt-leb, ne_eqb}
use Rattle.base.specs.Base.{pick, concat, and_then}
use Rattle.base.proofs.Bool.{clash, last-false, pick-false}
use Rattle.base.proofs.Option.{some-none}
use Rattle.point.specs.declared.data.AnchorStageRole.{AnchorStageRole}
use Rattle.parts.specs.Bytes.{little_at}
use Rattle.record.specs.Record.{field_row, field_ok}
use Rattle.rules.specs.DagPoint.{Entry, IndirectEntry}
use Rattle.rules.specs.List.{Listed, read_state_in, entry_at_in, read_entry, read_entry_in, is_in_order, list_from, list_from_in, read_list, read_list_in, directs, indirects}
use Rattle.rules.specs.AnyOrder.{IsEntry}
use Rattle.rules.proofs.All.{All}
use Rattle.rules.proofs.Pieces.{entry-front, some_bytes, entry-append, entry_alone, Step, list_zero, list_suc, empty-is}
use Rattle.rules.proofs.Perms.{length_perm, each_perm}

-- ---- what pieces read as

unfoldable pub read_all : List (List ℕ) → Option (List Listed)
read_all [] = Some []
read_all (e ∷ es) = and_then (read_entry e) (λ x. option_map (λ l. x ∷ l) (read_all es))

-- entries, and no direct one after an indirect one
abbrev pub InKinds : Bool → List (List ℕ) → Type 0
InKinds indirect_seen [] = Unit
InKinds indirect_seen (e ∷ es) = (is_indirect : Bool) × IsEntry is_indirect e × (indirect_seen ≡ true → is_indirect ≡ true) × InKinds is_indirect es

-- seven bytes that read as a dropped entry
reads-dropped : read_entry (16 ∷ 4 ∷ 0 ∷ 5 ∷ 0 ∷ 0 ∷ 0 ∷ []) ≡ None → ⊥
unfolding read_entry_in entry_at_in read_state_in field_ok little_at
reads-dropped h = some-none h

entry-bytes : (is_indirect : Bool) (e : List ℕ) → IsEntry is_indirect e → 1 ≤ length e
entry-bytes b e (inl (x, r, z, k)) = some_bytes e x r
entry-bytes b [] (inr f) = absurd (reads-dropped (f (16 ∷ 4 ∷ 0 ∷ 5 ∷ 0 ∷ 0 ∷ 0 ∷ [])))
entry-bytes b (y ∷ e) (inr f) = omega arith

in_order_lem : (a k : Bool) (aim : Option AnchorStageRole) → is_some aim ≡ k → (a ≡ true → k ≡ true) → is_in_order a aim ≡ true
in_order_lem false k aim e f = refl
in_order_lem true k aim e f = e ∙ f refl

map-pick : (b : Bool) (x : Listed) (o : Option (List Listed)) → option_map (λ l. x ∷ l) (pick b o None) ≡ pick b (option_map (λ l. x ∷ l) o) None
map-pick true x o = refl
map-pick false x o = refl

leb_suc : (m n : ℕ) → leb (suc m) (suc n) ≡ leb m n
leb_suc m n = elim (dec_lt n m) [
  | yes h ↦ lt-leb (suc m) (suc n) (omega arith) ∙ sym (lt-leb m n h)
  | no h ↦ le-leb (suc m) (suc n) (omega arith) ∙ sym (le-leb m n (omega arith))
]

not_empty : (e s : List ℕ) → 1 ≤ length e → eqb (length (e ++ s)) 0 ≡ false
not_empty e s h = ne_eqb (length (e ++ s)) 0 (λ z. (let l = length-append e s in omega arith))

-- a list with an entry in front
list_cons : (n : ℕ) (a : Bool) (e s : List ℕ) (x : Listed) → 1 ≤ length e → read_entry (e ++ s) ≡ Some x → x.size ≡ length e → is_in_order a x.aim ≡ true →
    list_from (suc n) a (e ++ s) ≡ option_map (λ l. x ∷ l) (list_from n (is_some x.aim) s)
unfolding list_from_in
list_cons n a e s x l r z o = rw (not_empty e s l, r, o, drop_at e s x.size (sym z))

list-bad : (n : ℕ) (a : Bool) (e s : List ℕ) → 1 ≤ length e → read_entry (e ++ s) ≡ None → list_from (suc n) a (e ++ s) ≡ None
unfolding list_from_in
list-bad n a e s l r = rw (not_empty e s l, r)

list-none : (a : Bool) (e s : List ℕ) → 1 ≤ length e → list_from zero a (e ++ s) ≡ None
unfolding list_from_in
list-none a e s l = rw (not_empty e s l)

list-empty : (n : ℕ) (a : Bool) → list_from n a [] ≡ Some []
unfolding list_from_in
list-empty zero a = refl
list-empty (suc n) a = refl

pub read_pieces : (n : ℕ) (a : Bool) (es : List (List ℕ)) → InKinds a es → list_from n a (concat es) ≡ pick (leb (length es) n) (read_all es) None
unfolding concat read_all
read_pieces n a [] h = list-empty n a ∙ sym (ap (λ (b : Bool). pick b (Some []) None) (le-leb 0 n (omega arith)))
read_pieces zero a (e ∷ es) (k, i, o, r) = list-none a e (concat es) (entry-bytes k e i) ∙ sym (ap (λ (b : Bool). pick b (read_all (e ∷ es)) None) (lt-leb (suc (length es)) 0 (omega arith)))
read_pieces (suc n) a (e ∷ es) (k, inl (x, q, z, m), o, r) =
    list_cons n a e (concat es) x (entry-bytes k e (inl (x, q, z, m))) (entry-append e x q (concat es)) z (in_order_lem a k x.aim m o)
    ∙ ap (λ (b : Bool). option_map (λ l. x ∷ l) (list_from n b (concat es))) m
    ∙ ap (option_map (λ l. x ∷ l)) (read_pieces n k es r)
    ∙ map-pick (leb (length es) n) x (read_all es)
    ∙ sym (ap (λ (b : Bool). pick b (option_map (λ l. x ∷ l) (read_all es)) None) (leb_suc (length es) n))
    ∙ ap (λ (y : Option Listed). pick (leb (suc (length es)) (suc n)) (and_then y (λ v. option_map (λ l. v ∷ l) (read_all es))) None) (sym q)
read_pieces (suc n) a (e ∷ es) (k, inr f, o, r) =
    list-bad n a e (concat es) (entry-bytes k e (inr f)) (f (concat es))
    ∙ sym (pick-none (leb (suc (length es)) (suc n)))
    ∙ ap (λ (y : Option Listed). pick (leb (suc (length es)) (suc n)) (and_then y (λ v. option_map (λ l. v ∷ l) (read_all es))) None) (sym (ap read_entry (sym (append-nil e)) ∙ f []))
  where
    pick-none : (b : Bool) → pick {A = Option (List Listed)} b None None ≡ None
    pick-none true = refl
    pick-none false = refl

-- an entry outside the domain: dropped, with a certified flag of 2
pub flag-outside : (rest : List ℕ) → read_entry ((16 ∷ 4 ∷ 0 ∷ 5 ∷ 2 ∷ 0 ∷ 0 ∷ []) ++ rest) ≡ None
unfolding read_entry_in entry_at_in
flag-outside rest = pick-false (field_ok (field_row 16 4 4) ((16 ∷ 4 ∷ 0 ∷ 5 ∷ 2 ∷ 0 ∷ 0 ∷ []) ++ rest) 0 && (leb 2 1 && leb 0 1)) _ None (last-false (field_ok (field_row 16 4 4) ((16 ∷ 4 ∷ 0 ∷ 5 ∷ 2 ∷ 0 ∷ 0 ∷ []) ++ rest) 0) (leb 2 1 && leb 0 1) refl)

-- ---- every list that can be read is made of such pieces

-- the piece of an entry
piece_entry : (s : List ℕ) (x : Listed) → read_entry s ≡ Some x → IsEntry (is_some x.aim) (take x.size s)
piece_entry s x h = inl (x, entry_alone s x h, sym (length-take-le x.size s (entry-front s x h).within), refl)

-- with the direct and the indirect entries apart
pub record Split (s : List ℕ) : Type 0 where
  pub direct : List (List ℕ)
  pub indirect : List (List ℕ)
  pub entries : All (IsEntry false) direct
  pub targets : All (IsEntry true) indirect
  pub is : s ≡ concat direct ++ concat indirect

split_empty : (s : List ℕ) → length s ≡ 0 → Split s
unfolding concat
split_empty s h = record { direct = []; indirect = []; entries = tt; targets = tt; is = empty-is s h }

-- after an indirect entry there are indirect ones alone
split_more : (s : List ℕ) (x : Listed) → read_entry s ≡ Some x → (w : Split (drop x.size s)) → (is_some x.aim ≡ true → w.direct ≡ []) →
    (v : Split s) × (is_some x.aim ≡ true → v.direct ≡ [])
unfolding concat
split_more s x h w f = go (is_some x.aim) refl
  where
    parts : s ≡ take x.size s ++ (concat w.direct ++ concat w.indirect)
    parts = sym (take-append-drop x.size s) ∙ ap (λ (r : List ℕ). take x.size s ++ r) w.is

    go : (b : Bool) → is_some x.aim ≡ b → (v : Split s) × (b ≡ true → v.direct ≡ [])
    go false e = (
      record {
        direct = take x.size s ∷ w.direct;
        indirect = w.indirect;
        entries = (subst (λ (k : Bool). IsEntry k (take x.size s)) e (piece_entry s x h), w.entries);
        targets = w.targets;
        is = parts ∙ sym (append_assoc (take x.size s) (concat w.direct) (concat w.indirect));
      },
      λ k. clash false k refl,
    )
    go true e = (
      record {
        direct = [];
        indirect = take x.size s ∷ w.indirect;
        entries = tt;
        targets = (subst (λ (k : Bool). IsEntry k (take x.size s)) e (piece_entry s x h), w.targets);
        is = parts ∙ ap (λ (r : List (List ℕ)). take x.size s ++ (concat r ++ concat w.indirect)) (f e);
      },
      λ k. refl,
    )

ordered-indirect : (a : Bool) (aim : Option AnchorStageRole) → a ≡ true → is_in_order a aim ≡ true → is_some aim ≡ true
ordered-indirect true aim e h = h
ordered-indirect false aim e h = clash false e refl

-- where an indirect entry stood before, there is no direct one
split_from : (n : ℕ) (a : Bool) (s : List ℕ) (l : List Listed) → list_from n a s ≡ Some l → (w : Split s) × (a ≡ true → w.direct ≡ [])
unfolding split_empty
split_from zero a s l h = (split_empty s (list_zero a s l h).0, λ e. refl)
split_from (suc n) a s l h = go (list_suc n a s l h) (split_from n)
  where
    go : ((length s ≡ 0) × ([] ≡ l)) ⊎ Step n a s l →
        ((b : Bool) (t : List ℕ) (m : List Listed) → list_from n b t ≡ Some m → (w : Split t) × (b ≡ true → w.direct ≡ [])) →
        (w : Split s) × (a ≡ true → w.direct ≡ [])
    go (inl e) r = (split_empty s e.0, λ k. refl)
    go (inr u) r =
        let w = r (is_some u.first.aim) (drop u.first.size s) u.rest u.more in
        let v = split_more s u.first u.reads w.0 w.1 in
        (v.0, λ k. v.1 (ordered-indirect a u.first.aim k u.ordered))

pub split_list : (s : List ℕ) (l : List Listed) → read_list s ≡ Some l → Split s
unfolding read_list_in
split_list s l h = (split_from 65535 false s l h).0

-- ---- in any order

-- both none, or lists in two orders
abbrev pub Arranged : Option (List Listed) → Option (List Listed) → Type 0
Arranged None None = Unit
Arranged None (Some m) = ⊥
Arranged (Some l) None = ⊥
Arranged (Some l) (Some m) = Permᴰ l m

arranged_trans : (a b c : Option (List Listed)) → Arranged a b → Arranged b c → Arranged a c
arranged_trans None None None f g = tt
arranged_trans None None (Some c) f g = absurd g
arranged_trans None (Some b) c f g = absurd f
arranged_trans (Some a) None c f g = absurd f
arranged_trans (Some a) (Some b) None f g = absurd g
arranged_trans (Some a) (Some b) (Some c) f g = Permᴰ.trans f g

pub all_arranged : {es es' : List (List ℕ)} → Permᴰ es es' → Arranged (read_all es) (read_all es')
unfolding read_all
all_arranged Permᴰ.nil = Permᴰ.nil
all_arranged (Permᴰ.cons {a = a} {b = b} {l₁ = l} {l₂ = m} e d) =
    subst (λ (y : List ℕ). Arranged (read_all (a ∷ l)) (read_all (y ∷ m))) e (go (read_entry a) (read_all l) (read_all m) (all_arranged d))
  where
    go : (x : Option Listed) (u v : Option (List Listed)) → Arranged u v → Arranged (and_then x (λ y. option_map (λ r. y ∷ r) u)) (and_then x (λ y. option_map (λ r. y ∷ r) v))
    go None u v h = tt
    go (Some x) None None h = tt
    go (Some x) None (Some v) h = h
    go (Some x) (Some u) None h = h
    go (Some x) (Some u) (Some v) h = Permᴰ.cons refl h
all_arranged (Permᴰ.swap {a = a} {b = b} {a' = a'} {b' = b'} {l = l} e g) =
    subst (λ (y : List ℕ). Arranged (read_all (a ∷ b ∷ l)) (read_all (y ∷ b' ∷ l))) g
    (subst (λ (y : List ℕ). Arranged (read_all (a ∷ b ∷ l)) (read_all (b ∷ y ∷ l))) e (go (read_entry a) (read_entry b) (read_all l)))
  where
    go : (x y : Option Listed) (u : Option (List Listed)) →
        Arranged
        (and_then x (λ v. option_map (λ r. v ∷ r) (and_then y (λ w. option_map (λ r. w ∷ r) u))))
        (and_then y (λ w. option_map (λ r. w ∷ r) (and_then x (λ v. option_map (λ r. v ∷ r) u))))
    go None None u = tt
    go None (Some y) u = tt
    go (Some x) None u = tt
    go (Some x) (Some y) None = tt
    go (Some x) (Some y) (Some u) = Permᴰ.swap refl refl
all_arranged (Permᴰ.trans {l₁ = l} {l₂ = m} {l₃ = n} d g) = arranged_trans (read_all l) (read_all m) (read_all n) (all_arranged d) (all_arranged g)

-- ---- direct and indirect pieces

concat-append : (es ts : List (List ℕ)) → concat (es ++ ts) ≡ concat es ++ concat ts
unfolding concat
concat-append [] ts = refl
concat-append (e ∷ es) ts = ap (λ (s : List ℕ). e ++ s) (concat-append es ts) ∙ sym (append_assoc e (concat es) (concat ts))

indirect-kinds : (a : Bool) (ts : List (List ℕ)) → All (IsEntry true) ts → InKinds a ts
indirect-kinds a [] h = tt
indirect-kinds a (t ∷ ts) h = (true, h.0, λ z. refl, indirect-kinds true ts h.1)

in_kinds : (es ts : List (List ℕ)) → All (IsEntry false) es → All (IsEntry true) ts → InKinds false (es ++ ts)
in_kinds [] ts h g = indirect-kinds false ts g
in_kinds (e ∷ es) ts h g = (false, h.0, λ z. z, in_kinds es ts h.1 g)

pub pieces_list : (es ts : List (List ℕ)) → All (IsEntry false) es → All (IsEntry true) ts →
    read_list (concat es ++ concat ts) ≡ pick (leb (length (es ++ ts)) 65535) (read_all (es ++ ts)) None
unfolding read_list_in
pieces_list es ts h g = ap (list_from 65535 false) (sym (concat-append es ts)) ∙ read_pieces 65535 false (es ++ ts) (in_kinds es ts h g)

arranged_by : (o p q r : Option (List Listed)) → o ≡ q → p ≡ r → Arranged q r → Arranged o p
arranged_by o p q r e f h = rw (e, f) h

pick_arranged : (b : Bool) (q r : Option (List Listed)) → Arranged q r → Arranged (pick b q None) (pick b r None)
pick_arranged true q r h = h
pick_arranged false q r h = tt

module _ (es es' ts ts' : List (List ℕ)) (h : All (IsEntry false) es) (g : All (IsEntry true) ts) (d : Permᴰ es es') (f : Permᴰ ts ts') where
  both_perm : Permᴰ (es ++ ts) (es' ++ ts')
  both_perm = Permᴰ.trans (Permᴰ.append_right ts d) (Permᴰ.append_left es' f)

  -- what the two lists of bytes read as
  pub lists_arranged : Arranged (read_list (concat es ++ concat ts)) (read_list (concat es' ++ concat ts'))
  lists_arranged =
      let k : length (es ++ ts) ≡ length (es' ++ ts') = length_perm both_perm in
      arranged_by _ _ _ _
      (pieces_list es ts h g)
      (pieces_list es' ts' (each_perm (IsEntry false) d h) (each_perm (IsEntry true) f g) ∙ ap (λ (n : ℕ). pick (leb n 65535) (read_all (es' ++ ts')) None) (sym k))
      (pick_arranged (leb (length (es ++ ts)) 65535) (read_all (es ++ ts)) (read_all (es' ++ ts')) (all_arranged both_perm))

-- ---- the direct and the indirect entries of a list in any order

pub directs_perm : {l m : List Listed} → Permᴰ l m → Permᴰ (directs l) (directs m)
unfolding directs
directs_perm Permᴰ.nil = Permᴰ.nil
directs_perm (Permᴰ.cons {a = a} {b = b} {l₁ = l} {l₂ = m} e d) =
    subst (λ (y : Listed). Permᴰ (directs (a ∷ l)) (directs (y ∷ m))) e (go (is_some a.aim) (directs_perm d))
  where
    go : (k : Bool) → Permᴰ (directs l) (directs m) → Permᴰ (pick k (directs l) (a.entry ∷ directs l)) (pick k (directs m) (a.entry ∷ directs m))
    go true h = h
    go false h = Permᴰ.cons refl h
directs_perm (Permᴰ.swap {a = a} {b = b} {a' = a'} {b' = b'} {l = l} e g) =
    subst (λ (y : Listed). Permᴰ (directs (a ∷ b ∷ l)) (directs (y ∷ b' ∷ l))) g
    (subst (λ (y : Listed). Permᴰ (directs (a ∷ b ∷ l)) (directs (b ∷ y ∷ l))) e (go (is_some a.aim) (is_some b.aim)))
  where
    go : (k j : Bool) →
        Permᴰ
        (pick k (pick j (directs l) (b.entry ∷ directs l)) (a.entry ∷ pick j (directs l) (b.entry ∷ directs l)))
        (pick j (pick k (directs l) (a.entry ∷ directs l)) (b.entry ∷ pick k (directs l) (a.entry ∷ directs l)))
    go true true = Permᴰ.refl (directs l)
    go true false = Permᴰ.refl (b.entry ∷ directs l)
    go false true = Permᴰ.refl (a.entry ∷ directs l)
    go false false = Permᴰ.swap refl refl
directs_perm (Permᴰ.trans d g) = Permᴰ.trans (directs_perm d) (directs_perm g)

-- an indirect entry in front, if it is one
abbrev with_target : Option AnchorStageRole → Entry → List IndirectEntry → List IndirectEntry
with_target None e l = l
with_target (Some g) e l = record { role = g; entry = e } ∷ l

indirects_cons : (x : Listed) (l : List Listed) → indirects (x ∷ l) ≡ with_target x.aim x.entry (indirects l)
unfolding indirects
indirects_cons x l = go x.aim
  where
    go : (o : Option AnchorStageRole) →
        unwrap_or (option_map (λ g. record { role = g; entry = x.entry } ∷ indirects l) o) (indirects l) ≡ with_target o x.entry (indirects l)
    go None = refl
    go (Some g) = refl

with_perm : (o : Option AnchorStageRole) (e : Entry) (l m : List IndirectEntry) → Permᴰ l m → Permᴰ (with_target o e l) (with_target o e m)
with_perm None e l m h = h
with_perm (Some g) e l m h = Permᴰ.cons refl h

with_swap : (o q : Option AnchorStageRole) (e f : Entry) (l : List IndirectEntry) → Permᴰ (with_target o e (with_target q f l)) (with_target q f (with_target o e l))
with_swap None None e f l = Permᴰ.refl l
with_swap None (Some h) e f l = Permᴰ.refl _
with_swap (Some g) None e f l = Permᴰ.refl _
with_swap (Some g) (Some h) e f l = Permᴰ.swap refl refl

pub indirects_perm : {l m : List Listed} → Permᴰ l m → Permᴰ (indirects l) (indirects m)
unfolding indirects
indirects_perm Permᴰ.nil = Permᴰ.nil
indirects_perm (Permᴰ.cons {a = a} {b = b} {l₁ = l} {l₂ = m} e d) =
    subst (λ (y : Listed). Permᴰ (indirects (a ∷ l)) (indirects (y ∷ m))) e
    (rw (indirects_cons a l, indirects_cons a m) (with_perm a.aim a.entry (indirects l) (indirects m) (indirects_perm d)))
indirects_perm (Permᴰ.swap {a = a} {b = b} {a' = a'} {b' = b'} {l = l} e g) =
    subst (λ (y : Listed). Permᴰ (indirects (a ∷ b ∷ l)) (indirects (y ∷ b' ∷ l))) g
    (subst (λ (y : Listed). Permᴰ (indirects (a ∷ b ∷ l)) (indirects (b ∷ y ∷ l))) e
    (rw (indirects_cons a (b ∷ l), indirects_cons b (a ∷ l), indirects_cons a l, indirects_cons b l) (with_swap a.aim b.aim a.entry b.entry (indirects l))))
indirects_perm (Permᴰ.trans d g) = Permᴰ.trans (indirects_perm d) (indirects_perm g)
