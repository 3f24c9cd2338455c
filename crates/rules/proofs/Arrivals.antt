-- The pieces of bytes of a list beside the entries that they are read as: each order of the entries is that of an order of the pieces
-- (ticket U11).
use Rattle.std.specs.Prelude.{Option, None, Some, option_map, is_some}
use Prim.Native.Nat.{ℕ}
use lib.Dec.{leb}
use lib.ListN.{length}
use mathlib.Core.Path.{◌≡◌, refl, sym, ap, ◌∙◌, subst}
use mathlib.Core.Logic.{inl, inr}
use mathlib.Core.Bool.{Bool, true, false}
use mathlib.Core.List.Permᴰ
use mathlib.Core.List.{List, [], ◌∷◌, ◌++◌, append-nil, Permᴰ}
use Rattle.base.specs.Base.{pick, concat}
use Rattle.base.proofs.Bool.{clash}
use Rattle.base.proofs.Option.{none-some, some-injective, picked, and_then_lem, map-eq-some_iff}
use Rattle.point.specs.declared.data.AnchorStageRole.{AnchorStageRole}
use Rattle.rules.specs.DagPoint.{Entry, IndirectEntry}
use Rattle.rules.specs.List.{Listed, read_entry, read_list, directs, indirects}
use Rattle.rules.specs.AnyOrder.{IsEntry}
use Rattle.rules.proofs.All.{All}
use Rattle.rules.proofs.Perms.{length_perm, each_perm}
use Rattle.rules.proofs.Arranged.{read_all, pieces_list}

-- ---- two lists, element by element

abbrev pub Both : {A B : Type 0} → (A → B → Type 0) → List A → List B → Type 0
Both R [] [] = Unit
Both R [] (y ∷ m) = ⊥
Both R (x ∷ l) [] = ⊥
Both R (x ∷ l) (y ∷ m) = R x y × Both R l m

module _ {A B : Type 0} (R : A → B → Type 0) where
  -- an order of one is that of an order of the other
  both_perm : {m m' : List B} → Permᴰ m m' → (l : List A) → Both R l m → (l' : List A) × Permᴰ l l' × Both R l' m'
  both_perm Permᴰ.nil [] h = ([], Permᴰ.nil, tt)
  both_perm Permᴰ.nil (x ∷ l) h = absurd h
  both_perm (Permᴰ.cons e d) [] h = absurd h
  both_perm (Permᴰ.cons e d) (x ∷ l) h = let w = both_perm d l h.1 in (x ∷ w.0, Permᴰ.cons refl w.1, (subst (R x) e h.0, w.2))
  both_perm (Permᴰ.swap e g) [] h = absurd h
  both_perm (Permᴰ.swap e g) (x ∷ []) h = absurd h.1
  both_perm (Permᴰ.swap e g) (x ∷ y ∷ l) h = (y ∷ x ∷ l, Permᴰ.swap refl refl, (subst (R y) g h.1.0, (subst (R x) e h.0, h.1.1)))
  both_perm (Permᴰ.trans d g) l h =
      let w = both_perm d l h in
      let u = both_perm g w.0 w.2 in
      (u.0, Permᴰ.trans w.1 u.1, u.2)

-- ---- a piece that is read as an entry

abbrev ReadsEntry : List ℕ → Entry → Type 0
ReadsEntry s e = (n : ℕ) × (read_entry s ≡ Some (record { aim = None; entry = e; size = n }))

abbrev ReadsTarget : List ℕ → IndirectEntry → Type 0
ReadsTarget s a = (n : ℕ) × (read_entry s ≡ Some (record { aim = Some a.role; entry = a.entry; size = n }))

aim_of : (b : Bool) (s : List ℕ) (x : Listed) → IsEntry b s → read_entry s ≡ Some x → is_some x.aim ≡ b
aim_of b s x (inl (y, r, z, k)) h = ap (λ (w : Listed). is_some w.aim) (some-injective x y (sym h ∙ r)) ∙ k
aim_of b s x (inr f) h = none-some (sym (f []) ∙ (ap read_entry (append-nil s) ∙ h))

-- what a list with a piece in front is read as
read_front : (s : List ℕ) (ss : List (List ℕ)) (l : List Listed) → read_all (s ∷ ss) ≡ Some l →
    (x : Listed) × (m : List Listed) × (read_entry s ≡ Some x) × (read_all ss ≡ Some m) × (x ∷ m ≡ l)
unfolding read_all
read_front s ss l h =
    let w = and_then_lem (read_entry s) (λ x. option_map (λ l. x ∷ l) (read_all ss)) l h in
    let u = (map-eq-some_iff (λ l. w.0 ∷ l) (read_all ss)).0 w.2 in
    (w.0, u.0, w.1, u.1, u.2)

abbrev listed : Option AnchorStageRole → Entry → ℕ → Listed
listed o e n = record { aim = o; entry = e; size = n }

target-front : (o : Option AnchorStageRole) (e : Entry) (n : ℕ) (t : List ℕ) (ts : List (List ℕ)) (m : List Listed) → is_some o ≡ true →
    read_entry t ≡ Some (listed o e n) → (directs m ≡ []) × Both ReadsTarget ts (indirects m) →
    (directs (listed o e n ∷ m) ≡ []) × Both ReadsTarget (t ∷ ts) (indirects (listed o e n ∷ m))
unfolding directs indirects
target-front None e n t ts m k r h = clash false k refl
target-front (Some g) e n t ts m k r h = (h.0, ((n, r), h.1))

entry_front : (o : Option AnchorStageRole) (e : Entry) (n : ℕ) (s : List ℕ) (es ts : List (List ℕ)) (m : List Listed) → is_some o ≡ false →
    read_entry s ≡ Some (listed o e n) → Both ReadsEntry es (directs m) × Both ReadsTarget ts (indirects m) →
    Both ReadsEntry (s ∷ es) (directs (listed o e n ∷ m)) × Both ReadsTarget ts (indirects (listed o e n ∷ m))
unfolding directs indirects
entry_front None e n s es ts m k r h = (((n, r), h.0), h.1)
entry_front (Some g) e n s es ts m k r h = clash true refl k

read_targets : (ts : List (List ℕ)) → All (IsEntry true) ts → (l : List Listed) → read_all ts ≡ Some l →
    (directs l ≡ []) × Both ReadsTarget ts (indirects l)
unfolding read_all directs indirects
read_targets [] g l h = rw (sym (some-injective _ _ h)) (refl, tt)
read_targets (t ∷ ts) g l h =
    let w = read_front t ts l h in
    subst (λ (k : List Listed). (directs k ≡ []) × Both ReadsTarget (t ∷ ts) (indirects k)) w.4
    (target-front w.0.aim w.0.entry w.0.size t ts w.1 (aim_of true t w.0 g.0 w.2) w.2 (read_targets ts g.1 w.1 w.3))

-- the direct and the indirect pieces are the direct and the indirect entries
pub read_both : (es ts : List (List ℕ)) → All (IsEntry false) es → All (IsEntry true) ts → (l : List Listed) → read_all (es ++ ts) ≡ Some l →
    Both ReadsEntry es (directs l) × Both ReadsTarget ts (indirects l)
read_both [] ts h g l k = let w = read_targets ts g l k in (subst (λ (d : List Entry). Both ReadsEntry [] d) (sym w.0) tt, w.1)
read_both (e ∷ es) ts h g l k =
    let w = read_front e (es ++ ts) l k in
    subst (λ (m : List Listed). Both ReadsEntry (e ∷ es) (directs m) × Both ReadsTarget ts (indirects m)) w.4
    (entry_front w.0.aim w.0.entry w.0.size e es ts w.1 (aim_of false e w.0 h.0 w.2) w.2 (read_both es ts h.1 g w.1 w.3))

-- ---- and back

abbrev pub ReadsAs : Option (List Listed) → List Entry → List IndirectEntry → Type 0
ReadsAs o ds us = (l : List Listed) × (o ≡ Some l) × (directs l ≡ ds) × (indirects l ≡ us)

targets_read : (ts : List (List ℕ)) (us : List IndirectEntry) → Both ReadsTarget ts us → ReadsAs (read_all ts) [] us
unfolding read_all directs indirects
targets_read [] [] h = ([], refl, refl, refl)
targets_read [] (u ∷ us) h = absurd h
targets_read (t ∷ ts) [] h = absurd h
targets_read (t ∷ ts) (u ∷ us) h =
    let w = targets_read ts us h.1 in
    (listed (Some u.role) u.entry h.0.0 ∷ w.0, rw (h.0.1, w.1), w.2, ap (λ (k : List IndirectEntry). u ∷ k) w.3)

pub both_read : (es ts : List (List ℕ)) (ds : List Entry) (us : List IndirectEntry) → Both ReadsEntry es ds → Both ReadsTarget ts us →
    ReadsAs (read_all (es ++ ts)) ds us
unfolding read_all directs indirects
both_read [] ts [] us h g = targets_read ts us g
both_read [] ts (d ∷ ds) us h g = absurd h
both_read (e ∷ es) ts [] us h g = absurd h
both_read (e ∷ es) ts (d ∷ ds) us h g =
    let w = both_read es ts ds us h.1 g in
    (listed None d h.0.0 ∷ w.0, rw (h.0.1, w.1), ap (λ (k : List Entry). d ∷ k) w.2, w.3)

-- ---- so each order of the entries is read from an order of the pieces

pub record Order (es ts : List (List ℕ)) (ds : List Entry) (us : List IndirectEntry) : Type 0 where
  pub direct : List (List ℕ)
  pub indirect : List (List ℕ)
  pub same_direct : Permᴰ es direct
  pub same_indirect : Permᴰ ts indirect
  pub reads : ReadsAs (read_list (concat direct ++ concat indirect)) ds us

pub order_of : (es ts : List (List ℕ)) → All (IsEntry false) es → All (IsEntry true) ts → (l : List Listed) →
    read_list (concat es ++ concat ts) ≡ Some l →
    (ds : List Entry) (us : List IndirectEntry) → Permᴰ (directs l) ds → Permᴰ (indirects l) us → Order es ts ds us
order_of es ts h g l k ds us d f =
    let q = picked (leb (length (es ++ ts)) 65535) (read_all (es ++ ts)) l (sym (pieces_list es ts h g) ∙ k) in
    let w = read_both es ts h g l q.1 in
    let a = both_perm ReadsEntry d es w.0 in
    let b = both_perm ReadsTarget f ts w.1 in
    let r = both_read a.0 b.0 ds us a.2 b.2 in
    let n : length (es ++ ts) ≡ length (a.0 ++ b.0) = length_perm (Permᴰ.trans (Permᴰ.append_right ts a.1) (Permᴰ.append_left a.0 b.1)) in
    let room : leb (length (a.0 ++ b.0)) 65535 ≡ true = ap (λ (m : ℕ). leb m 65535) (sym n) ∙ q.0 in
    record {
      direct = a.0;
      indirect = b.0;
      same_direct = a.1;
      same_indirect = b.1;
      reads = (
        r.0,
        pieces_list a.0 b.0 (each_perm (IsEntry false) a.1 h) (each_perm (IsEntry true) b.1 g)
            ∙ (ap (λ (c : Bool). pick c (read_all (a.0 ++ b.0)) None) room ∙ r.1),
        r.2,
        r.3,
      );
    }
