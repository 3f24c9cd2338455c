-- A list in which a point's certified flags are set, as it is read: ticket U13's field `marks`.
use Rattle.std.specs.Prelude.{Option, None, Some, option_map, unwrap_or, is_some}
use Prim.Native.Nat.{ℕ, zero, suc, ◌+◌, ◌≤◌, ◌<◌}
use native.Mathlib.Omega.{arith}
use mathlib.Core.Path.{◌≡◌, refl, sym, ap, ◌∙◌}
use mathlib.Core.Bool.{Bool, true, false, ◌&&◌, or-false}
use mathlib.Core.List.{List, [], ◌∷◌, ◌++◌, map}
use lib.ListN.{length, get_or, take, drop, set, length-set, take-append-drop}
use lib.Seq.{length-take-le, drop_at, take-set-lt, get_or-set_other}
use lib.Dec.{leb, eqb}
use borrow.Author.Tests.{ne_eqb}
use Rattle.base.specs.Base.{pick}
use Rattle.base.proofs.Bool.{and_left, and_right, and_both, or_second, pick_true}
use Rattle.base.proofs.Option.{picked, map-eq-some_iff}
use Rattle.parts.specs.Bytes.{little_at, put_at}
use Rattle.write.proofs.Laws.{put_is}
use Rattle.map.specs.declared.Arrangement.TheVariants.{Columns}
use Rattle.record.specs.Record.{field_row, field_ok}
use Rattle.record.proofs.Laws.{field-length}
use Rattle.point.specs.Point.{PointId}
use Rattle.point.specs.declared.data.AnchorStageRole.{AnchorStageRole}
use Rattle.rules.specs.List.{Listed, read_state_in, entry_at, entry_at_in, role_of, read_entry, read_entry_in, is_in_order, list_from, list_from_in, read_list, read_list_in}
use Rattle.rules.specs.Cleared.{is_of, flag_at, marked_entry, marked_from, marked, with_mark}
use Rattle.rules.proofs.Fronts.{direct_is, indirect-is}
use Rattle.rules.proofs.Pieces.{entry-front, entry-append, entry_alone}

-- ---- an entry whose flag is set

-- an entry with another flag
abbrev flagged : Listed → Bool → Listed
flagged x b =
    record {
      aim = x.aim;
      entry = record { state = x.entry.state; certified = b; first_valid = x.entry.first_valid };
      size = x.size;
    }

abbrev certain : Listed → Listed
certain x = flagged x true

-- a list of seven bytes at least
seven : (P : List ℕ → Type 0) → ((a b c d e f g : ℕ) (r : List ℕ) → P (a ∷ b ∷ c ∷ d ∷ e ∷ f ∷ g ∷ r)) → (s : List ℕ) → 7 ≤ length s → P s
seven P k [] h = absurd (omega arith)
seven P k (a ∷ []) h = absurd (omega arith)
seven P k (a ∷ b ∷ []) h = absurd (omega arith)
seven P k (a ∷ b ∷ c ∷ []) h = absurd (omega arith)
seven P k (a ∷ b ∷ c ∷ d ∷ []) h = absurd (omega arith)
seven P k (a ∷ b ∷ c ∷ d ∷ e ∷ []) h = absurd (omega arith)
seven P k (a ∷ b ∷ c ∷ d ∷ e ∷ f ∷ []) h = absurd (omega arith)
seven P k (a ∷ b ∷ c ∷ d ∷ e ∷ f ∷ g ∷ r) h = k a b c d e f g r

-- what an entry of tag 16 says once its flag is set; it is for the link that was asked
record Certain (aim : Option AnchorStageRole) (front : ℕ) (s : List ℕ) (x : Listed) : Type 0 where
  aimed : x.aim ≡ aim
  size : front + 7 ≤ x.size
  set : entry_at aim front (set s 4 1) ≡ Some (certain x)

module _ (aim : Option AnchorStageRole) (front : ℕ) where
  tag-length : (s : List ℕ) (x : Listed) → entry_at aim front s ≡ Some x → 7 ≤ length s
  unfolding entry_at_in
  tag-length s x h =
      field-length 16 4 s
      (and_left (field_ok (field_row 16 4 4) s 0) _ (picked (field_ok (field_row 16 4 4) s 0 && (leb (get_or s 4 0) 1 && leb (get_or s 5 0) 1)) _ x h).0)

  tag-set : (a b c d e f g : ℕ) (r : List ℕ) (x : Listed) → entry_at aim front (a ∷ b ∷ c ∷ d ∷ e ∷ f ∷ g ∷ r) ≡ Some x →
      Certain aim front (a ∷ b ∷ c ∷ d ∷ e ∷ f ∷ g ∷ r) x
  unfolding entry_at_in field_ok little_at
  tag-set a b c d e f g r x h =
      let s : List ℕ = a ∷ b ∷ c ∷ d ∷ e ∷ f ∷ g ∷ r in
      let k = picked (field_ok (field_row 16 4 4) s 0 && (leb e 1 && leb f 1)) _ x h in
      let y = (map-eq-some_iff _ (read_state_in Columns d g r)).0 k.1 in
      let n : front + 7 + y.0.size ≡ x.size = ap (λ (z : Listed). z.size) y.2 in
      let t = and_left (field_ok (field_row 16 4 4) s 0) _ k.0 in
      let u = and_right (leb e 1) (leb f 1) (and_right (field_ok (field_row 16 4 4) s 0) _ k.0) in
      record {
        aimed = sym (ap (λ (z : Listed). z.aim) y.2);
        size = omega arith;
        set = pick_true (field_ok (field_row 16 4 4) s 0 && (leb 1 1 && leb f 1)) _ None (and_both _ _ t u)
            ∙ ap (option_map _) y.1
            ∙ ap (λ (z : Listed). Some (certain z)) y.2;
      }

  tag_set_lem : (s : List ℕ) (x : Listed) → entry_at aim front s ≡ Some x → Certain aim front s x
  tag_set_lem s x h =
      seven (λ t. entry_at aim front t ≡ Some x → Certain aim front t x) (λ a b c d e f g r k. tag-set a b c d e f g r x k) s (tag-length s x h) h

-- an entry that can be read, once its flag is set; the flag stands within it
record IsSet (s : List ℕ) (x : Listed) : Type 0 where
  within : flag_at x < x.size
  reads : read_entry (set s (flag_at x) 1) ≡ Some (certain x)

direct-set : (s : List ℕ) (x : Listed) → eqb (get_or s 0 0) 19 ≡ false → entry_at None 0 s ≡ Some x → IsSet s x
direct-set s x e h =
    let w = tag_set_lem None 0 s x h in
    let n = w.size in
    let f : flag_at x ≡ 4 = ap (λ (a : Option AnchorStageRole). pick (is_some a) 8 4) w.aimed in
    let g : eqb (get_or (set s 4 1) 0 0) 19 ≡ false = ap (λ (k : ℕ). eqb k 19) (get_or-set_other s 4 0 1 0 (λ z. omega arith)) ∙ e in
    record {
      within = omega arith;
      reads = ap (λ (k : ℕ). read_entry (set s k 1)) f ∙ direct_is Columns (set s 4 1) g ∙ w.set;
    }

-- tag 19 and its byte in front
module _ (a b c d : ℕ) (r : List ℕ) (x : Listed) where
  abbrev whole : List ℕ → List ℕ
  whole t = a ∷ b ∷ c ∷ d ∷ t

  indirect-set : eqb a 19 ≡ true → (field_ok (field_row 19 1 1) (whole r) 0 && leb d 1) ≡ true → entry_at (Some (role_of d)) 4 r ≡ Some x → IsSet (whole r) x
  unfolding field_ok little_at
  indirect-set e o h =
      let w = tag_set_lem (Some (role_of d)) 4 r x h in
      let n = w.size in
      let f : flag_at x ≡ 8 = ap (λ (a : Option AnchorStageRole). pick (is_some a) 8 4) w.aimed in
      let g : (field_ok (field_row 19 1 1) (whole (set r 4 1)) 0 && leb d 1) ≡ true = rw (length-set r 4 1) o in
      record {
        within = omega arith;
        reads = ap (λ (k : ℕ). read_entry (set (whole r) k 1)) f ∙ indirect-is Columns (whole (set r 4 1)) e g ∙ w.set;
      }

four : (P : List ℕ → Type 0) → ((a b c d : ℕ) (r : List ℕ) → P (a ∷ b ∷ c ∷ d ∷ r)) → (s : List ℕ) → 4 ≤ length s → P s
four P k [] h = absurd (omega arith)
four P k (a ∷ []) h = absurd (omega arith)
four P k (a ∷ b ∷ []) h = absurd (omega arith)
four P k (a ∷ b ∷ c ∷ []) h = absurd (omega arith)
four P k (a ∷ b ∷ c ∷ d ∷ r) h = k a b c d r

abbrev roled : List ℕ → Bool
roled t = field_ok (field_row 19 1 1) t 0 && leb (get_or t 3 0) 1

read-set : (s : List ℕ) (x : Listed) → read_entry s ≡ Some x → IsSet s x
unfolding read_entry_in
read-set s x h = go (eqb (get_or s 0 0) 19) refl h
  where
    go : (b : Bool) → eqb (get_or s 0 0) 19 ≡ b →
        pick b (pick (roled s) (entry_at (Some (role_of (get_or s 3 0))) 4 (drop 4 s)) None) (entry_at None 0 s) ≡ Some x → IsSet s x
    go true e k =
        let o = picked (roled s) _ x k in
        four (λ t. eqb (get_or t 0 0) 19 ≡ true → roled t ≡ true → entry_at (Some (role_of (get_or t 3 0))) 4 (drop 4 t) ≡ Some x → IsSet t x)
        (λ a b c d r. indirect-set a b c d r x) s (field-length 19 1 s (and_left (field_ok (field_row 19 1 1) s 0) _ o.0)) e o.0 o.1
    go false e k = direct-set s x e k

-- ---- the bytes of an entry, marked

-- one of another point keeps its flag
pub unmarked : (i : PointId) (x : Listed) → is_of i x.entry ≡ false → with_mark i x ≡ x
unmarked i x e = rw e (ap (flagged x) (or-false x.entry.certified))

module _ (i : PointId) (s : List ℕ) (x : Listed) (h : read_entry s ≡ Some x) where
  -- the bytes of one that is of the point are a front of the bytes in which its flag is set
  set-front : put_at (take x.size s) (flag_at x) (1 ∷ []) ≡ take x.size (set s (flag_at x) 1)
  set-front =
      let w = read-set s x h in
      let n = w.within in
      let l = length-take-le x.size s (entry-front s x h).within in
      sym (put_is (take x.size s) (flag_at x) (1 ∷ []) (omega arith)) ∙ sym (take-set-lt x.size s (flag_at x) 1 n)

  pub marked_size : length (marked_entry i x (take x.size s)) ≡ x.size
  marked_size = go (is_of i x.entry)
    where
      go : (b : Bool) → length (pick b (put_at (take x.size s) (flag_at x) (1 ∷ [])) (take x.size s)) ≡ x.size
      go true =
          ap length set-front
          ∙ length-take-le x.size (set s (flag_at x) 1) (rw (length-set s (flag_at x) 1) (entry-front s x h).within)
      go false = length-take-le x.size s (entry-front s x h).within

  pub read-marked : (rest : List ℕ) → read_entry (marked_entry i x (take x.size s) ++ rest) ≡ Some (with_mark i x)
  read-marked rest = go (is_of i x.entry) refl
    where
      go : (b : Bool) → is_of i x.entry ≡ b →
          read_entry (pick b (put_at (take x.size s) (flag_at x) (1 ∷ [])) (take x.size s) ++ rest) ≡ Some (with_mark i x)
      go true e =
          let t : List ℕ = set s (flag_at x) 1 in
          ap (λ (u : List ℕ). read_entry (u ++ rest)) set-front
          ∙ entry-append (take x.size t) (certain x) (entry_alone t (certain x) (read-set s x h).reads) rest
          ∙ ap (λ (c : Bool). Some (flagged x c)) (sym (or_second x.entry.certified (is_of i x.entry) e))
      go false e =
          entry-append (take x.size s) x (entry_alone s x h) rest
          ∙ ap Some (sym (unmarked i x e))

-- ---- the list

-- a list with an entry in front
list-step : (n : ℕ) (a : Bool) (e s : List ℕ) (x : Listed) → read_entry (e ++ s) ≡ Some x → length e ≡ x.size →
    list_from (suc n) a (e ++ s) ≡ pick (is_in_order a x.aim) (option_map (λ l. x ∷ l) (list_from n (is_some x.aim) s)) None
unfolding list_from_in
list-step n a e s x r z =
    let f = entry-front (e ++ s) x r in
    let k : eqb (length (e ++ s)) 0 ≡ false = ne_eqb (length (e ++ s)) 0 (λ y. omega (arith, f.least, f.within)) in
    rw (k, r, drop_at e s x.size z)

mapped : (b : Bool) (i : PointId) (x : Listed) (o q : Option (List Listed)) → q ≡ option_map (λ l. map (with_mark i) l) o →
    pick b (option_map (λ l. with_mark i x ∷ l) q) None ≡ option_map (λ l. map (with_mark i) l) (pick b (option_map (λ l. x ∷ l) o) None)
mapped false i x o q h = refl
mapped true i x None q h = rw h
mapped true i x (Some l) q h = rw h

-- no entry in front
unread : (n : ℕ) (a : Bool) (i : PointId) (s : List ℕ) → read_entry s ≡ None →
    list_from (suc n) a s ≡ option_map (λ l. map (with_mark i) l) (list_from (suc n) a s)
unfolding list_from_in
unread n a i s r = rw r (go (eqb (length s) 0))
  where
    go : (b : Bool) → pick {A = Option (List Listed)} b (Some []) None ≡ option_map (λ l. map (with_mark i) l) (pick b (Some []) None)
    go true = refl
    go false = refl

from-marked : (n : ℕ) (a : Bool) (i : PointId) (s : List ℕ) → list_from n a (marked_from n i s) ≡ option_map (λ l. map (with_mark i) l) (list_from n a s)
unfolding list_from_in marked_from
from-marked zero a i s = go (eqb (length s) 0)
  where
    go : (b : Bool) → pick {A = Option (List Listed)} b (Some []) None ≡ option_map (λ l. map (with_mark i) l) (pick b (Some []) None)
    go true = refl
    go false = refl
from-marked (suc n) a i s = go (read_entry s) refl (from-marked n)
  where
    go : (o : Option Listed) → read_entry s ≡ o →
        ((b : Bool) (j : PointId) (t : List ℕ) → list_from n b (marked_from n j t) ≡ option_map (λ l. map (with_mark j) l) (list_from n b t)) →
        list_from (suc n) a (unwrap_or (option_map (λ x. marked_entry i x (take x.size s) ++ marked_from n i (drop x.size s)) o) s)
        ≡ option_map (λ l. map (with_mark i) l) (list_from (suc n) a s)
    go None e f = unread n a i s e
    go (Some x) e f =
        let t : take x.size s ++ drop x.size s ≡ s = take-append-drop x.size s in
        list-step n a (marked_entry i x (take x.size s)) (marked_from n i (drop x.size s)) (with_mark i x)
        (read-marked i s x e (marked_from n i (drop x.size s))) (marked_size i s x e)
        ∙ mapped (is_in_order a x.aim) i x (list_from n (is_some x.aim) (drop x.size s)) _ (f (is_some x.aim) i (drop x.size s))
        ∙ ap (option_map (λ l. map (with_mark i) l))
        (sym (list-step n a (take x.size s) (drop x.size s) x (ap read_entry t ∙ e) (length-take-le x.size s (entry-front s x e).within))
        ∙ ap (list_from (suc n) a) t)

pub marks : (i : PointId) (s : List ℕ) → read_list (marked i s) ≡ option_map (λ l. map (with_mark i) l) (read_list s)
unfolding read_list_in
marks i s = from-marked 65535 false i s
