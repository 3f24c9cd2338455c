-- Reading then writing: bytes that are read as an entry, as entries or as a book are the bytes of what was read, and what was read
-- is such as bytes can hold.
use Rattle.std.specs.Prelude.{None, Some, is_some}
use Prim.Native.Nat.{ℕ, zero, suc, ◌+◌, ◌-◌, ◌≤◌}
use native.Mathlib.Nat.{sub-zero}
use native.Mathlib.Numerals.{add-one, add-three}
use native.Mathlib.Omega.{arith}
use mathlib.Core.Path.{◌≡◌, refl, ap, sym, ◌∙◌, subst}
use mathlib.Core.Logic.{◌⊎◌, inl, inr}
use mathlib.Core.Bool.{Bool, true, false, ◌&&◌}
use mathlib.Core.List.Memᴰ
use mathlib.Core.List.{List, [], ◌∷◌, ◌++◌, Memᴰ, append_assoc}
use lib.ListN.{length, get_or, take, drop, replicate, length-take, length-drop, take-append-drop}
use lib.Seq.{take_all, take-add, drop-cons, drop-drop, length-take-le}
use lib.Dec.{leb, eqb}
use borrow.Author.Tests.{leb-true, eqb-true}
use Rattle.base.specs.Base.{pick}
use Rattle.base.proofs.Bool.{and_left, and_right}
use Rattle.base.proofs.Option.{picked, IfSome, pick-has, then_has, map-has, has}
use Rattle.parts.specs.Bytes.{little_at, Bytes}
use Rattle.parts.proofs.Laws.{little_split, little-one, at-bytes, rest-bytes, big-fits}
use Rattle.record.specs.Record.{field_row, field_ok, record_end}
use Rattle.record.proofs.Laws.{Fitting, fitting, end-within}
use Rattle.write.proofs.Numbers.{little-fits}
use Rattle.point.specs.Point.{PointInfo, in_domain}
use Rattle.point.specs.Reading.{point_id_at, through_at, read_point}
use Rattle.point.proofs.PartsWritten.{id-again, through-again, through-fits}
use Rattle.schedule.specs.Settings.{Settings, read_settings}
use Rattle.reasons.specs.Answer.{flag}
use Rattle.reasons.specs.Invalid.{dag_round}
use Rattle.rules.specs.List.{is_listable}
use Rattle.books.specs.Kept.{Status, Valid, TransInvalid, Invalid, IllFormed, Kept, Book, is_twice, Opened}
use Rattle.books.specs.Lists.{dag_point}
use Rattle.books.specs.Offer.{used, is_state_ok}
use Rattle.point.specs.Written.{id_bytes, through_bytes}
use Rattle.books.specs.Layout.{status_bytes, kept_bytes, entries_bytes, book_bytes, is_zeros, root_at, is_root_ok, read_status, is_keepable, read_kept, KeptFront, kept_front, entries_from, read_book}
use Rattle.books.proofs.Shape.{RootFits, StatusShape, KeptShape, Shape}
use Rattle.books.proofs.RoundTrip.{settings-length}

-- ---- tag 33

zeros-again : (l : List ℕ) → is_zeros l ≡ true → l ≡ replicate (length l) 0
unfolding is_zeros
zeros-again [] h = refl
zeros-again (x ∷ l) h =
    let e : x ≡ 0 = eqb-true x 0 (and_left (eqb x 0) _ h) in
    rw e (ap (λ (t : List ℕ). 0 ∷ t) (zeros-again l (and_right (eqb x 0) _ h)))

flag-again : (x : ℕ) → x ≤ 1 → flag (eqb x 1) ≡ x
flag-again zero h = refl
flag-again (suc zero) h = refl
flag-again (suc (suc x)) h = absurd (omega arith)

zeros-after : (t : List ℕ) (n k : ℕ) → length t ≡ n + k → is_zeros (drop n t) ≡ true → replicate k 0 ≡ drop n t
zeros-after t n k l z =
    let e : length (drop n t) ≡ k = omega (arith, length-drop n t) in
    ap (λ (j : ℕ). replicate j 0) (sym e) ∙ sym (zeros-again (drop n t) z)

-- a status whose bytes these are
record Again (t : List ℕ) (s : Status) : Type 0 where
  bytes : status_bytes s (eqb (get_or t 1 0) 1) ≡ t
  shape : (q : PointInfo) → is_keepable q s ≡ true → StatusShape q s

module _ (t : List ℕ) where
  root-map : is_root_ok t ≡ true → get_or t 72 0 ≤ 1
  unfolding is_root_ok
  root-map r =
      let a = and_right (leb 4 (little_at 4 t 3)) _ r in
      let c = and_right (leb (little_at 4 t 3) 2147483647) _ a in
      leb-true (get_or t 72 0) 1 (and_right (is_some (dag_round (get_or t 71 0))) _ c)

  root-state : (q : PointInfo) → is_listable q ≡ true → is_root_ok t ≡ true → is_state_ok (dag_point q (TransInvalid (root_at t))) ≡ true
  unfolding is_root_ok
  root-state q h r =
      let least = leb 4 (little_at 4 t 3) in
      let greatest = leb (little_at 4 t 3) 2147483647 in
      let a = and_right least _ r in
      let c = and_right greatest _ a in
      simp (h, and_left least _ r, and_left greatest _ a, and_left (is_some (dag_round (get_or t 71 0))) _ c)

-- the 105 bytes of tag 33, a mark of 0 or 1 in the second
module _ (t : List ℕ) (b : Bytes t) (l : length t ≡ 105) (m : get_or t 1 0 ≤ 1) where
  -- the first byte, the mark and what stands after them
  head-again : (x : ℕ) (r : List ℕ) → get_or t 0 0 ≡ x → r ≡ drop 2 t → x ∷ flag (eqb (get_or t 1 0) 1) ∷ r ≡ t
  head-again x r e f =
      rw (f, ← e, flag-again (get_or t 1 0) m) (sym (drop-cons t 0 0 (omega arith) ∙ ap (λ (u : List ℕ). get_or t 0 0 ∷ u) (drop-cons t 1 0 (omega arith))))

  third : (x : ℕ) (r : List ℕ) → get_or t 2 0 ≡ x → r ≡ drop 3 t → x ∷ r ≡ drop 2 t
  third x r e f = rw (f, ← e) (sym (drop-cons t 2 0 (omega arith)))

  valid-again : get_or t 0 0 ≡ 0 → is_zeros (drop 2 t) ≡ true → Again t Valid
  unfolding status_bytes
  valid-again e z =
      record {
        bytes = head-again 0 (replicate 103 0) e (zeros-after t 2 103 l z);
        shape = λ q h. record { keepable = h; state = h; fits = tt };
      }

  invalid-again : get_or t 0 0 ≡ 2 → is_some (dag_round (get_or t 2 0)) ≡ true → is_zeros (drop 3 t) ≡ true → Again t (Invalid (get_or t 2 0))
  unfolding status_bytes
  invalid-again e r z =
      record {
        bytes = head-again 2 _ e (third (get_or t 2 0) (replicate 102 0) refl (zeros-after t 3 102 l z));
        shape = λ q h. record { keepable = h; state = simp (h, r); fits = b 2 };
      }

  ill-formed-again : get_or t 0 0 ≡ 3 → (leb 1 (get_or t 2 0) && leb (get_or t 2 0) 16) ≡ true → is_zeros (drop 3 t) ≡ true → Again t (IllFormed (get_or t 2 0))
  unfolding status_bytes
  ill-formed-again e r z =
      record {
        bytes = head-again 3 _ e (third (get_or t 2 0) (replicate 102 0) refl (zeros-after t 3 102 l z));
        shape = λ q h. record { keepable = h; state = r; fits = b 2 };
      }

  root-again : get_or t 72 0 ≤ 1 → id_bytes (point_id_at t 3) ++ (get_or t 71 0 ∷ through_bytes (through_at t 72)) ≡ drop 3 t
  root-again w =
      let last : drop 71 t ≡ get_or t 71 0 ∷ get_or t 72 0 ∷ drop 73 t =
      drop-cons t 71 0 (omega arith) ∙ ap (λ (u : List ℕ). get_or t 71 0 ∷ u) (drop-cons t 72 0 (omega arith)) in
      rw (id-again t 3 b (omega arith), through-again t 72 b (omega arith) w, take_all 32 (drop 73 t) (omega (arith, length-drop 73 t)), ← last, ← drop-drop 68 3 t)
      (take-append-drop 68 (drop 3 t))

  root-fits : RootFits (root_at t)
  unfolding point_id_at
  root-fits =
      record {
        to =
            record {
              round = little-fits 4 t 3 b (omega arith);
              digest = big-fits 32 t 7 b (omega arith);
              author = big-fits 32 t 39 b (omega arith);
            };
        reason = b 71;
        through = through-fits t 72 b (omega arith);
      }

  trans_again : get_or t 0 0 ≡ 1 → get_or t 2 0 ≡ 0 → is_root_ok t ≡ true → Again t (TransInvalid (root_at t))
  unfolding status_bytes
  trans_again e z r =
      record {
        bytes = head-again 1 _ e (third 0 _ z (root-again (root-map t r)));
        shape = λ q h. record { keepable = h; state = root-state t q h r; fits = root-fits };
      }

  any-again : IfSome (Again t) (read_status t)
  unfolding read_status
  any-again =
      let P = Again t in
      let state = get_or t 0 0 in
      let n = get_or t 2 0 in
      let zeros = is_zeros (drop 3 t) in
      let reason = is_some (dag_round n) in
      let number = leb 1 n && leb n 16 in
      pick-has P (eqb state 0) _ _ (λ e. pick-has P (is_zeros (drop 2 t)) _ None (λ z. valid-again (eqb-true state 0 e) z) tt)
      (pick-has P (eqb state 1) _ _
      (λ e. pick-has P (eqb n 0 && is_root_ok t) _ None (λ z. trans_again (eqb-true state 1 e) (eqb-true n 0 (and_left (eqb n 0) _ z)) (and_right (eqb n 0) _ z)) tt)
      (pick-has P (eqb state 2) _ _
      (λ e. pick-has P (reason && zeros) _ None (λ z. invalid-again (eqb-true state 2 e) (and_left reason zeros z) (and_right reason zeros z)) tt)
      (pick-has P (eqb state 3) _ None
      (λ e. pick-has P (number && zeros) _ None (λ z. ill-formed-again (eqb-true state 3 e) (and_left number zeros z) (and_right number zeros z)) tt)
      tt)))

  status-again : (s : Status) → read_status t ≡ Some s → Again t s
  status-again s h = has (Again t) (read_status t) s any-again h

-- ---- an entry

keepable-domain : (q : PointInfo) (s : Status) → is_keepable q s ≡ true → in_domain q ≡ true
unfolding is_listable
keepable-domain q Valid h = and_left (in_domain q) _ h
keepable-domain q (TransInvalid d) h = and_left (in_domain q) _ h
keepable-domain q (Invalid n) h = and_left (in_domain q) _ h
keepable-domain q (IllFormed n) h = h

-- what the 105 bytes after a record say of an entry
record KeptOf (bytes : List ℕ) (q : PointInfo) (t : List ℕ) (k : Kept) : Type 0 where
  whose : k.bytes ≡ bytes
  point : k.point ≡ q
  written : status_bytes k.status k.certified ≡ t
  domain : in_domain k.point ≡ true
  status : StatusShape k.point k.status

module _ (bytes : List ℕ) (q : PointInfo) (t : List ℕ) (b : Bytes t) (l : length t ≡ 105) where
  kept_of : IfSome (KeptOf bytes q t) (read_kept bytes q t)
  unfolding read_kept
  kept_of =
      let P = KeptOf bytes q t in
      pick-has P (leb (get_or t 1 0) 1) _ None (λ m. then_has P (read_status t) _ (λ s e.
      let a = status-again t b l (leb-true (get_or t 1 0) 1 m) s e in
      pick-has P (is_keepable q s) _ None (λ h. record { whose = refl; point = refl; written = a.bytes; domain = keepable-domain q s h; status = a.shape q h }) tt)) tt

-- what stands at the front of a slice that is read as an entry
pub record FrontOf (s : List ℕ) (x : KeptFront) : Type 0 where
  pub bytes : take x.size s ≡ kept_bytes x.kept
  pub shape : KeptShape x.kept
  pub size : x.size ≡ length x.kept.bytes + 108
  pub within : x.size ≤ length s

-- the tag and the length of tag 33
two_bytes : (s : List ℕ) (at : ℕ) → Bytes s → at + 2 ≤ length s → little_at 2 s at ≡ 105 → (get_or s at 0 ≡ 105) × (get_or s (suc at) 0 ≡ 0)
two_bytes s at b h e =
    let split = rw (add-one at) at (little_split 1 1 s at (omega arith)) in
    let low = little-one s at (omega arith) in
    let high = little-one s (suc at) (omega arith) in
    (omega (arith, b at), omega (arith, b at))

three : (s : List ℕ) (n : ℕ) → Bytes s → Fitting (field_row 33 105 105) s n → drop n s ≡ 33 ∷ 105 ∷ 0 ∷ drop (n + 3) s
three s n b f =
    let h : n + 3 ≤ length s = f.head in
    let e : little_at 2 s (suc n) ≡ 105 = rw (← add-one n) (omega (arith, f.least, f.greatest)) in
    let p = two_bytes s (suc n) b (omega arith) e in
    rw (add-three n, drop-cons s n 0 (omega arith), drop-cons s (suc n) 0 (omega arith), drop-cons s (suc (suc n)) 0 (omega arith), f.tag, p.0, p.1)

module _ (s : List ℕ) (b : Bytes s) (n : ℕ) (e : record_end s ≡ Some n) where
  front_kept : (q : PointInfo) (k : Kept) → read_point (take n s) ≡ Some q → Fitting (field_row 33 105 105) s n →
      KeptOf (take n s) q (take 105 (drop (n + 3) s)) k → FrontOf s (record { kept = k; size = n + 108 })
  unfolding kept_bytes
  front_kept q k p f h =
      let l = end-within s n e in
      record {
        bytes = take-add n 108 s ∙ rw (three s n b f, h.whose, h.written);
        shape = record { bytes = rw h.whose (at-bytes n s 0 b); read = rw (h.whose, h.point) p; domain = h.domain; status = h.status };
        size = rw (h.whose, length-take-le n s l);
        within = omega (arith, f.end, f.least);
      }

  front_with_lem : (q : PointInfo) (k : Kept) → read_point (take n s) ≡ Some q → Fitting (field_row 33 105 105) s n →
      read_kept (take n s) q (take 105 (drop (n + 3) s)) ≡ Some k → FrontOf s (record { kept = k; size = n + 108 })
  front_with_lem q k p f r =
      let t = take 105 (drop (n + 3) s) in
      let l : length t ≡ 105 = length-take-le 105 (drop (n + 3) s) (omega (arith, length-drop (n + 3) s, f.end, f.least)) in
      front_kept q k p f (has (KeptOf (take n s) q t) (read_kept (take n s) q t) k (kept_of (take n s) q t (at-bytes 105 s (n + 3) b) l) r)

-- bytes that are read as an entry are that entry's
pub front-again : (s : List ℕ) (x : KeptFront) → Bytes s → kept_front s ≡ Some x → FrontOf s x
unfolding kept_front
front-again s x b h =
    let P = FrontOf s in
    has P (kept_front s) x
    (then_has P (record_end s) _ (λ n e. then_has P (read_point (take n s)) _ (λ q p.
    pick-has P (field_ok (field_row 33 105 105) s n) _ None
    (λ w. map-has P _ (read_kept (take n s) q (take 105 (drop (n + 3) s))) (λ k r. front_with_lem s b n e q k p (fitting (field_row 33 105 105) s n w) r)) tt)))
    h

-- ---- entries

-- what a slice holds that is read as at most n entries
pub record EntriesOf (n : ℕ) (s : List ℕ) (b : Book) : Type 0 where
  pub bytes : s ≡ entries_bytes b ++ replicate (length s - used b) 0
  pub shape : (k : Kept) → Memᴰ k b → KeptShape k
  pub room : used b ≤ length s
  pub few : length b ≤ n

none-again : (n : ℕ) (s : List ℕ) → is_zeros s ≡ true → EntriesOf n s []
unfolding entries_bytes used
none-again n s z =
    record { bytes = rw (sub-zero (length s)) (zeros-again s z); shape = λ k i. absurd (Memᴰ.not-nil i); room = omega arith; few = omega arith }

module _ (n : ℕ) (s : List ℕ) (x : KeptFront) (f : FrontOf s x) where
  more-again : (b : Book) → EntriesOf n (drop x.size s) b → EntriesOf (suc n) s (x.kept ∷ b)
  unfolding entries_bytes used
  more-again b h =
      let l = length-drop x.size s in
      let m : length (drop x.size s) - used b ≡ length s - (length x.kept.bytes + 108 + used b) = omega (arith, f.size) in
      record {
        bytes =
            sym (take-append-drop x.size s)
            ∙ (ap (◌++◌ (take x.size s)) h.bytes
            ∙ rw (f.bytes, m) (sym (append_assoc (kept_bytes x.kept) (entries_bytes b) _)));
        shape = λ k i. first k (Memᴰ.cases_cons i);
        room = omega (arith, f.size, f.within, h.room);
        few = omega (arith, h.few);
      }
    where
      first : (k : Kept) → (k ≡ x.kept) ⊎ Memᴰ k b → KeptShape k
      first k (inl e) = subst KeptShape (sym e) f.shape
      first k (inr i) = h.shape k i

all-again : (n : ℕ) (s : List ℕ) → Bytes s → IfSome (EntriesOf n s) (entries_from n s)
unfolding entries_from
all-again zero s b = pick-has (EntriesOf zero s) (is_zeros s) _ None (λ z. none-again zero s z) tt
all-again (suc n) s b =
    let P = EntriesOf (suc n) s in
    pick-has P (eqb (get_or s 0 0) 0) _ _
    (λ e. pick-has P (is_zeros s) _ None (λ z. none-again (suc n) s z) tt)
    (then_has P (kept_front s) _ (λ x e. map-has P _ (entries_from n (drop x.size s)) (λ c r.
    more-again n s x (front-again s x b e) c (has (EntriesOf n (drop x.size s)) _ c (all-again n (drop x.size s) (rest-bytes x.size s b)) r))))

-- bytes that are read as entries are those entries' and zeros
pub entries-again : (n : ℕ) (s : List ℕ) (b : Book) → Bytes s → entries_from n s ≡ Some b → EntriesOf n s b
entries-again n s b w h = has (EntriesOf n s) (entries_from n s) b (all-again n s w) h

-- ---- a book

-- what a slice holds that is read as a book
pub record BookOf (s : List ℕ) (z : Opened) : Type 0 where
  pub bytes : s ≡ book_bytes z.bytes (length s) z.book
  pub front : z.bytes ≡ take 47 s
  pub whole : z.length ≡ length s
  pub reads : read_settings z.bytes ≡ Some z.settings
  pub short : length s ≤ 16777216
  pub shape : Shape z.book
  pub room : 47 + used z.book ≤ length s

module _ (s : List ℕ) (w : Bytes s) (h : length s ≤ 16777216) where
  opened-again : (c : Settings) (b : Book) → read_settings (take 47 s) ≡ Some c → EntriesOf 4096 (drop 47 s) b → is_twice b ≡ false →
      BookOf s (record { bytes = take 47 s; settings = c; length = length s; book = b })
  unfolding book_bytes
  opened-again c b r e o =
      let l : 47 ≤ length s = omega (arith, settings-length (take 47 s) c r, length-take 47 s) in
      let d = length-drop 47 s in
      record {
        bytes = sym (take-append-drop 47 s) ∙ (ap (◌++◌ (take 47 s)) e.bytes ∙ rw d);
        front = refl;
        whole = refl;
        reads = r;
        short = h;
        shape = record { entries = e.shape; once = o; few = e.few };
        room = omega (arith, e.room);
      }

  once-again : (c : Settings) (b : Book) → read_settings (take 47 s) ≡ Some c → EntriesOf 4096 (drop 47 s) b → (t : Bool) → is_twice b ≡ t →
      IfSome (BookOf s) (pick t None (Some (record { bytes = take 47 s; settings = c; length = length s; book = b })))
  once-again c b r e true o = tt
  once-again c b r e false o = opened-again c b r e o

-- bytes that are read as a book are that book's
pub book-again : (s : List ℕ) (z : Opened) → Bytes s → read_book s ≡ Some z → BookOf s z
unfolding read_book
book-again s z w h =
    let p = picked (leb (length s) 16777216) _ z h in
    let l = leb-true (length s) 16777216 p.0 in
    let P = BookOf s in
    has P _ z
    (then_has P (read_settings (take 47 s)) _ (λ c r. then_has P (entries_from 4096 (drop 47 s)) _ (λ b e.
    once-again s w l c b r (entries-again 4096 (drop 47 s) b (rest-bytes 47 s w) e) (is_twice b) refl)))
    p.1
