-- Lists of converted records are read as the originals are, and so judged.
use Rattle.std.specs.Prelude.{option_map, Option, None, Some, is_some}
use Prim.Native.Nat.{ℕ, zero, suc, ◌+◌, ◌≤◌}
use native.Mathlib.Omega.{arith}
use mathlib.Core.Path.{◌≡◌, refl, sym, ap, ◌∙◌}
use mathlib.Core.Logic.{inl, inr}
use mathlib.Core.Bool.{Bool, true, false}
use mathlib.Core.List.{List, [], ◌∷◌, ◌++◌, append_assoc, Memᴰ}
use lib.ListN.{length, drop, length-append}
use lib.Seq.{take_at, drop_at}
use lib.Dec.{leb, eqb}
use borrow.Author.Tests.{lt-leb}
use Rattle.base.specs.Base.{pick, and_then}
use Rattle.base.proofs.Bool.{clash}
use Rattle.base.proofs.Option.{none-some, some-injective, map-eq-some_iff}
use Rattle.map.specs.declared.Arrangement.{Arrangement}
use Rattle.map.specs.declared.Arrangement.TheVariants.{Pairs, Columns}
use Rattle.map.specs.Moved.{other}
use Rattle.map.proofs.Moved.{moved-means, two-turned}
use Rattle.record.specs.Record.{well_shaped}
use Rattle.record.proofs.Laws.{append-end}
use Rattle.point.specs.Point.{PointInfo}
use Rattle.point.specs.Reading.{read_point_in}
use Rattle.point.specs.Converted.{converted}
use Rattle.point.proofs.Converted.{same-point, converted-back, converted-length, converted-shaped}
use Rattle.rules.specs.List.{is_listable, RecordFront, record_front_in, Listed, read_entry_in, is_in_order, list_from_in, read_list_in}
use Rattle.rules.proofs.Pieces.{record_front_lem}
use Rattle.rules.proofs.ConvertedPieces.{pieces}
use Rattle.rules.specs.Judge.{Before, answered, needed, before, Tested, refused, admitted, tested_with, tested_in, verify_with, verify_buffer, JudgeAnswer, Given, over_list, judge_from_in, judge_with_in, flags_ok}
use Rattle.rules.specs.Validate.{validate}
use Rattle.schedule.specs.Settings.{Settings, read_settings}
use Rattle.schedule.specs.Schedule.{read_schedule}
use Rattle.rules.specs.Converted.{RecordsConverted, Piece, recorded, bare, cut, list_bytes, IsHead, IsBare, ArePieces, as_it_is}

-- ---- a record with anything after it

-- what a whole record gives
given : Option PointInfo → ℕ → Option RecordFront
given q n = and_then q (λ p. pick (is_listable p) (Some (record { point = p; size = n })) None)

front-given : (a : Arrangement) (r t : List ℕ) → well_shaped r ≡ true → record_front_in a (r ++ t) ≡ given (read_point_in a r) (length r)
unfolding record_front_in given
front-given a r t w = rw (append-end r t w, take_at r t (length r) refl) refl

front-same : (a : Arrangement) (r t u : List ℕ) → well_shaped r ≡ true →
    record_front_in (other a) (converted a r ++ u) ≡ record_front_in a (r ++ t)
front-same a r t u w =
    front-given (other a) (converted a r) u (converted-shaped a r ∙ w)
    ∙ (rw (same-point a r, converted-length a r) refl ∙ sym (front-given a r t w))

front-size : (a : Arrangement) (r t : List ℕ) (x : RecordFront) → well_shaped r ≡ true → record_front_in a (r ++ t) ≡ Some x → x.size ≡ length r
front-size a r t x w h = some-injective _ _ (sym (record_front_lem a (r ++ t) x h).end ∙ append-end r t w)

-- ---- lists

list-length : (a : Arrangement) (l : List Piece) → length (list_bytes (converted a) l) ≡ length (list_bytes as_it_is l)
unfolding list_bytes
list-length a [] = refl
list-length a (recorded head rec ∷ l) =
    omega (
      arith,
      length-append head (converted a rec ++ list_bytes (converted a) l),
      length-append head (rec ++ list_bytes as_it_is l),
      length-append (converted a rec) (list_bytes (converted a) l),
      length-append rec (list_bytes as_it_is l),
      converted-length a rec,
      list-length a l,
    )
list-length a (cut rest ∷ l) = refl
list-length a (bare entry ∷ l) =
    omega (arith, length-append entry (list_bytes (converted a) l), length-append entry (list_bytes as_it_is l), list-length a l)

-- what a list gives whose first entry was read: at most n entries follow
abbrev after : Arrangement → ℕ → Bool → List ℕ → Option Listed → Option (List Listed)
after a n seen s o = and_then o (λ x. pick (is_in_order seen x.aim) (option_map (λ l. x ∷ l) (list_from_in a n (is_some x.aim) (drop x.size s))) None)

next-is : (a : Arrangement) (n : ℕ) (seen : Bool) (s : List ℕ) →
    list_from_in a (suc n) seen s ≡ pick (eqb (length s) 0) (Some []) (after a n seen s (read_entry_in a s))
unfolding list_from_in
next-is a n seen s = refl

-- two rests that give the same after each entry that is read
after-same : (a : Arrangement) (n : ℕ) (seen : Bool) (s t : List ℕ) (o : Option Listed) →
    ((x : Listed) → o ≡ Some x → list_from_in (other a) n (is_some x.aim) (drop x.size t) ≡ list_from_in a n (is_some x.aim) (drop x.size s)) →
    after (other a) n seen t o ≡ after a n seen s o
after-same a n seen s t None h = refl
after-same a n seen s t (Some x) h = ap (λ m. pick (is_in_order seen x.aim) (option_map (λ l. x ∷ l) m) None) (h x refl)

-- so of two slices as long, whose first entries are read alike
step-same : (a : Arrangement) (n : ℕ) (seen : Bool) (s t : List ℕ) → length t ≡ length s → read_entry_in (other a) t ≡ read_entry_in a s →
    ((x : Listed) → read_entry_in a s ≡ Some x → list_from_in (other a) n (is_some x.aim) (drop x.size t) ≡ list_from_in a n (is_some x.aim) (drop x.size s)) →
    list_from_in (other a) (suc n) seen t ≡ list_from_in a (suc n) seen s
step-same a n seen s t long e h =
    next-is (other a) n seen t
    ∙ (ap (λ m. pick (eqb m 0) (Some []) (after (other a) n seen t (read_entry_in (other a) t))) long
    ∙ (ap (λ o. pick (eqb (length s) 0) (Some []) o) (ap (after (other a) n seen t) e ∙ after-same a n seen s t (read_entry_in a s) h)
    ∙ sym (next-is a n seen s)))

-- the rest after an entry of a head and a record, and after one without
rest-after : (head r t : List ℕ) (n : ℕ) → n ≡ length head + length r → drop n (head ++ (r ++ t)) ≡ t
rest-after head r t n e = ap (drop n) (sym (append_assoc head r t)) ∙ drop_at (head ++ r) t n (length-append head r ∙ sym e)

same-long : (a : Arrangement) (head rec s t : List ℕ) → length t ≡ length s → length (head ++ (converted a rec ++ t)) ≡ length (head ++ (rec ++ s))
same-long a head rec s t h =
    omega (
      arith,
      length-append head (converted a rec ++ t),
      length-append head (rec ++ s),
      length-append (converted a rec) t,
      length-append rec s,
      converted-length a rec,
    )

-- an end that is no entry
cut-read : (a : Arrangement) (n : ℕ) (seen : Bool) (rest : List ℕ) → ((b : Arrangement) → read_entry_in b rest ≡ None) →
    list_from_in (other a) (suc n) seen rest ≡ list_from_in a (suc n) seen rest
cut-read a n seen rest never =
    step-same a n seen rest rest refl (never (other a) ∙ sym (never a)) (λ x e. none-some (sym (never a) ∙ e))

-- an entry of a head and a record
head-read : (a : Arrangement) (n : ℕ) (seen : Bool) (head rec s t : List ℕ) → IsHead head → well_shaped rec ≡ true → length t ≡ length s →
    ((indirect : Bool) → list_from_in (other a) n indirect t ≡ list_from_in a n indirect s) →
    list_from_in (other a) (suc n) seen (head ++ (converted a rec ++ t)) ≡ list_from_in a (suc n) seen (head ++ (rec ++ s))
head-read a n seen head rec s t (inl (aim, (made, reads))) w long h =
    step-same a n seen (head ++ (rec ++ s)) (head ++ (converted a rec ++ t)) (same-long a head rec s t long)
    (reads (other a) (converted a rec ++ t) ∙ (ap (option_map made-of) (front-same a rec s t w) ∙ sym (reads a (rec ++ s))))
    (λ x e.
    let y = (map-eq-some_iff made-of (record_front_in a (rec ++ s))).0 (sym (reads a (rec ++ s)) ∙ e) in
    let size : x.size ≡ length head + length rec =
    sym (ap (λ (z : Listed). z.size) y.2) ∙ ap (λ m. length head + m) (front-size a rec s y.0 w y.1)
    in
    ap (list_from_in (other a) n (is_some x.aim)) (rest-after head (converted a rec) t x.size (size ∙ ap (λ m. length head + m) (sym (converted-length a rec))))
    ∙ (h (is_some x.aim) ∙ ap (list_from_in a n (is_some x.aim)) (sym (rest-after head rec s x.size size))))
  where
    made-of : RecordFront → Listed
    made-of x = record { aim = aim; entry = made x.point; size = length head + x.size }
head-read a n seen head rec s t (inr never) w long h =
    step-same a n seen (head ++ (rec ++ s)) (head ++ (converted a rec ++ t)) (same-long a head rec s t long)
    (never (other a) (converted a rec ++ t) ∙ sym (never a (rec ++ s))) (λ x e. none-some (sym (never a (rec ++ s)) ∙ e))

-- and one without a record
bare-read : (a : Arrangement) (n : ℕ) (seen : Bool) (entry s t : List ℕ) → IsBare entry → length t ≡ length s →
    ((indirect : Bool) → list_from_in (other a) n indirect t ≡ list_from_in a n indirect s) →
    list_from_in (other a) (suc n) seen (entry ++ t) ≡ list_from_in a (suc n) seen (entry ++ s)
bare-read a n seen entry s t (inl (y, (size, reads))) long h =
    step-same a n seen (entry ++ s) (entry ++ t) (omega (arith, length-append entry s, length-append entry t)) (reads (other a) t ∙ sym (reads a s))
    (λ x e.
    let same : y ≡ x = some-injective _ _ (sym (reads a s) ∙ e) in
    let m : length entry ≡ x.size = sym size ∙ ap (λ (z : Listed). z.size) same in
    ap (list_from_in (other a) n (is_some x.aim)) (drop_at entry t x.size m) ∙ (h (is_some x.aim) ∙ ap (list_from_in a n (is_some x.aim)) (sym (drop_at entry s x.size m))))
bare-read a n seen entry s t (inr never) long h =
    step-same a n seen (entry ++ s) (entry ++ t) (omega (arith, length-append entry s, length-append entry t)) (never (other a) t ∙ sym (never a s))
    (λ x e. none-some (sym (never a s) ∙ e))

lists-same : (a : Arrangement) (n : ℕ) (seen : Bool) (l : List Piece) → ArePieces l →
    list_from_in (other a) n seen (list_bytes (converted a) l) ≡ list_from_in a n seen (list_bytes as_it_is l)
unfolding list_bytes list_from_in
lists-same a zero seen l w = rw (list-length a l) refl
lists-same a (suc n) seen [] w = refl
lists-same a (suc n) seen (recorded head rec ∷ l) w =
    let p = w (recorded head rec) (Memᴰ.head refl) in
    head-read a n seen head rec (list_bytes as_it_is l) (list_bytes (converted a) l) p.0 p.1 (list-length a l)
    (λ indirect. lists-same a n indirect l (λ q m. w q (Memᴰ.tail m)))
lists-same a (suc n) seen (cut rest ∷ l) w = cut-read a n seen rest (w (cut rest) (Memᴰ.head refl))
lists-same a (suc n) seen (bare entry ∷ l) w =
    bare-read a n seen entry (list_bytes as_it_is l) (list_bytes (converted a) l) (w (bare entry) (Memᴰ.head refl)) (list-length a l)
    (λ indirect. lists-same a n indirect l (λ q m. w q (Memᴰ.tail m)))

pub list-same : (a : Arrangement) (l : List Piece) → ArePieces l → read_list_in (other a) (list_bytes (converted a) l) ≡ read_list_in a (list_bytes as_it_is l)
unfolding read_list_in
list-same a l w = lists-same a 65535 false l w

-- ---- calls

pub tested-same : (a : Arrangement) (settings schedule rec : List ℕ) (others : Bool) (size : ℕ) →
    tested_in (other a) settings schedule (converted a rec) others size ≡ tested_in a settings schedule rec others size
unfolding tested_in
tested-same a settings schedule rec others size = ap (λ p. tested_with (read_settings settings) (read_schedule schedule) p others size) (same-point a rec)

from-same : (a : Arrangement) (c : Settings) (presence : ℕ) (p : PointInfo) (s t : List ℕ) (b : Before) → read_list_in (other a) t ≡ read_list_in a s →
    judge_from_in (other a) c presence p t b ≡ judge_from_in a c presence p s b
from-same a c presence p s t (answered x) e = refl
from-same a c presence p s t (needed required) e = ap (λ l. judge_from_in-needed l) e
  where
    judge_from_in-needed : Option (List Listed) → JudgeAnswer
    judge_from_in-needed l = pick (leb 2 presence) (over_list c required presence p l) (Given (validate c required presence p [] []))

with-same : (a : Arrangement) (leader presence : ℕ) (s t : List ℕ) (x : Tested) → read_list_in (other a) t ≡ read_list_in a s →
    judge_with_in (other a) leader presence t x ≡ judge_with_in a leader presence s x
unfolding judge_with_in
with-same a leader presence s t (refused n) e = refl
with-same a leader presence s t (admitted i) e = from-same a i.settings presence i.point s t (before i.settings i.schedule (eqb leader 1) i.point) e

skipped : (b : Bool) (x y z : JudgeAnswer) → b ≡ false → pick b x z ≡ pick b y z
skipped true x y z e = clash true refl e
skipped false x y z e = refl

unread-same : (a : Arrangement) (leader presence : ℕ) (s t : List ℕ) (x : Tested) → presence ≤ 1 →
    judge_with_in (other a) leader presence t x ≡ judge_with_in a leader presence s x
unfolding judge_with_in
unread-same a leader presence s t (refused n) h = refl
unread-same a leader presence s t (admitted i) h = go (before i.settings i.schedule (eqb leader 1) i.point)
  where
    go : (b : Before) → judge_from_in (other a) i.settings presence i.point t b ≡ judge_from_in a i.settings presence i.point s b
    go (answered x) = refl
    go (needed required) = skipped (leb 2 presence) _ _ _ (lt-leb 2 presence (omega arith))

-- ---- the statement

pub records : RecordsConverted
records = record {
  turned = two-turned;
  means = moved-means;
  reads = same-point;
  back = converted-back;
  long = converted-length;
  verifying = λ x. ap verify_with (tested-same Pairs x.settings x.schedule x.point true x.size);
  buffer = λ x others peers. ap (λ t. verify_buffer t peers) (tested-same Pairs x.settings x.schedule x.point others x.size);
  judging = λ x l w.
      ap (judge_with_in Columns x.leader x.presence (list_bytes (converted Pairs) l))
      (tested-same Pairs x.settings x.schedule x.point (flags_ok x.leader x.presence) x.size)
      ∙ with-same Pairs x.leader x.presence (list_bytes as_it_is l) (list_bytes (converted Pairs) l)
      (tested_in Pairs x.settings x.schedule x.point (flags_ok x.leader x.presence) x.size) (list-same Pairs l w);
  pieces = pieces Pairs;
  unread = λ x s t h.
      ap (judge_with_in Columns x.leader x.presence t) (tested-same Pairs x.settings x.schedule x.point (flags_ok x.leader x.presence) x.size)
      ∙ unread-same Pairs x.leader x.presence s t (tested_in Pairs x.settings x.schedule x.point (flags_ok x.leader x.presence) x.size) h;
}
