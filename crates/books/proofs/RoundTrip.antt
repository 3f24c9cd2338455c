-- Writing then reading: the bytes of an entry, with anything after them, are read as that entry and its size; so are the bytes of
-- entries and of a book.
use Rattle.std.specs.Prelude.{Option, None, Some, option_map}
use Prim.Native.Nat.{ℕ, zero, suc, ◌+◌, ◌-◌, ◌≤◌}
use native.Mathlib.Omega.{arith}
use mathlib.Core.Path.{◌≡◌, refl, ap, ◌∙◌, subst}
use mathlib.Core.Bool.{Bool, true, false}
use mathlib.Core.List.{List, [], ◌∷◌, ◌++◌, Memᴰ, append_assoc}
use lib.ListN.{length, get_or, take, drop, replicate, length-append, length-replicate}
use lib.Seq.{take-append_seam, take_at, drop_at, drop-append-add, get_or-append_seam}
use lib.Dec.{leb, eqb}
use borrow.Author.Tests.{le-leb, leb-true, eqb-true}
use Rattle.base.specs.Base.{pick, and_then}
use Rattle.base.proofs.Bool.{and_left, and_right, pick_true, pick-false}
use Rattle.base.proofs.Option.{picked}
use Rattle.parts.specs.Bytes.{little, little_at, big_at, big_bytes, little_bytes}
use Rattle.record.specs.Record.{field_row, field_ok, length_at, row_of, rows, start_of, record_end, well_shaped}
use Rattle.record.proofs.Laws.{append-end, field-last, front-field}
use Rattle.point.specs.Point.{PointId, Through, Includes, Witness, PointInfo}
use Rattle.point.specs.Reading.{point_id_at, through_at, read_point}
use Rattle.point.proofs.Laws.{readable}
use Rattle.point.proofs.PartsWritten.{through-length, through-reads, id-back}
use Rattle.schedule.specs.Settings.{Settings, settings_in, read_settings}
use Rattle.reasons.specs.Answer.{flag}
use Rattle.reasons.specs.Invalid.{InvalidDependency}
use Rattle.reasons.proofs.Laws.{flag-back}
use Rattle.rules.specs.List.{is_listable}
use Rattle.books.specs.Kept.{Status, Valid, TransInvalid, Invalid, IllFormed, Kept, Book, is_twice, Opened}
use Rattle.books.specs.Offer.{used}
use Rattle.point.specs.Written.{through_bytes}
use Rattle.books.specs.Layout.{status_bytes, kept_bytes, entries_bytes, book_bytes, is_zeros, root_at, is_root_ok, read_status, read_kept, KeptFront, kept_front, entries_from, read_book}
use Rattle.rules.proofs.Roots.{Recorded}
use Rattle.books.proofs.Roots.{Root}
use Rattle.books.proofs.Shape.{StatusShape, KeptShape, Shape}

-- ---- tag 33

pub status-length : (s : Status) (c : Bool) → length (status_bytes s c) ≡ 105
unfolding status_bytes little_bytes big_bytes
status-length Valid c = refl
status-length (TransInvalid d) c = rw (through-length d.through)
status-length (Invalid n) c = refl
status-length (IllFormed n) c = refl

pub flag-fits : (c : Bool) → leb (flag c) 1 ≡ true
flag-fits true = refl
flag-fits false = refl

certified-at : (s : Status) (c : Bool) → get_or (status_bytes s c) 1 0 ≡ flag c
unfolding status_bytes
certified-at Valid c = refl
certified-at (TransInvalid d) c = refl
certified-at (Invalid n) c = refl
certified-at (IllFormed n) c = refl

-- a root cause that stands in the 105 bytes is read
root_ok : (t : List ℕ) (d : InvalidDependency) → Recorded Root d → little_at 4 t 3 ≡ d.to.round → get_or t 71 0 ≡ d.reason → leb (get_or t 72 0) 1 ≡ true → is_root_ok t ≡ true
unfolding is_root_ok
root_ok t d o e3 e71 m = rw (e3, e71) (simp (m, le-leb 4 d.to.round o.root.least, le-leb d.to.round 2147483647 o.root.greatest, o.root.reason))

root-reads : (t : List ℕ) (d : InvalidDependency) → get_or t 0 0 ≡ 1 → get_or t 2 0 ≡ 0 → is_root_ok t ≡ true → root_at t ≡ d → read_status t ≡ Some (TransInvalid d)
unfolding read_status
root-reads t d e0 e2 r e = simp (e0, e2, r, e)

module _ (d : InvalidDependency) (c : Bool) (o : Recorded Root d) where
  root-id : point_id_at (status_bytes (TransInvalid d) c) 3 ≡ d.to
  unfolding status_bytes
  root-id = id-back d.to _ o.root.id 1 (flag c) 0

  root-round : little_at 4 (status_bytes (TransInvalid d) c) 3 ≡ d.to.round
  unfolding point_id_at
  root-round = ap (λ (i : PointId). i.round) root-id

  root-reason : get_or (status_bytes (TransInvalid d) c) 71 0 ≡ d.reason
  unfolding status_bytes little_bytes big_bytes
  root-reason = refl

  root-map : leb (get_or (status_bytes (TransInvalid d) c) 72 0) 1 ≡ true
  unfolding status_bytes little_bytes big_bytes
  root-map = elim d.through as (λ (t : Through). leb (get_or (through_bytes t) 0 0) 1 ≡ true) [ Includes x ↦ refl | Witness x ↦ refl ]

  root-through : through_at (status_bytes (TransInvalid d) c) 72 ≡ d.through
  unfolding status_bytes little_bytes big_bytes big_at
  root-through = through-reads d.through o.through

  root-at : root_at (status_bytes (TransInvalid d) c) ≡ d
  root-at = λ i. record { to = root-id i; reason = root-reason i; through = root-through i }

  root-head : (get_or (status_bytes (TransInvalid d) c) 0 0 ≡ 1) × (get_or (status_bytes (TransInvalid d) c) 2 0 ≡ 0)
  unfolding status_bytes
  root-head = (refl, refl)

  trans_reads : read_status (status_bytes (TransInvalid d) c) ≡ Some (TransInvalid d)
  trans_reads = root-reads _ d root-head.0 root-head.1 (root_ok _ d o root-round root-reason root-map) root-at

-- the root cause of a status that may be kept
root-of : (q : PointInfo) (d : InvalidDependency) → StatusShape q (TransInvalid d) → Recorded Root d
root-of q d o =
    let r = and_right (is_listable q) _ o.state in
    let g = and_right (leb 4 d.to.round) _ r in
    record {
      root =
          record {
            id = o.fits.to;
            least = leb-true 4 d.to.round (and_left (leb 4 d.to.round) _ r);
            greatest = leb-true d.to.round 2147483647 (and_left (leb d.to.round 2147483647) _ g);
            reason = and_right (leb d.to.round 2147483647) _ g;
          };
      through = o.fits.through;
    }

-- a status is read back, whatever the mark
pub status-reads : (q : PointInfo) (s : Status) (c : Bool) → StatusShape q s → read_status (status_bytes s c) ≡ Some s
unfolding read_status status_bytes
status-reads q Valid c o = refl
status-reads q (TransInvalid d) c o = trans_reads d c (root-of q d o)
status-reads q (Invalid n) c o = simp (and_right (is_listable q) _ o.state)
status-reads q (IllFormed n) c o = simp o.state

-- ---- an entry

pub kept-length : (k : Kept) → length (kept_bytes k) ≡ length k.bytes + 108
unfolding kept_bytes
kept-length k = rw (length-append k.bytes _, status-length k.status k.certified)

pub kept-reads : (k : Kept) → KeptShape k → read_kept k.bytes k.point (status_bytes k.status k.certified) ≡ Some k
unfolding read_kept
kept-reads k o =
    rw (certified-at k.status k.certified, flag-fits k.certified, flag-back k.certified, status-reads k.point k.status k.certified o.status, o.status.keepable)

-- an entry's parts, with anything after it
pub kept_split : (k : Kept) (rest : List ℕ) → kept_bytes k ++ rest ≡ k.bytes ++ (33 ∷ 105 ∷ 0 ∷ (status_bytes k.status k.certified ++ rest))
unfolding kept_bytes
kept_split k rest = append_assoc k.bytes (33 ∷ 105 ∷ 0 ∷ status_bytes k.status k.certified) rest

pub kept-shaped : (k : Kept) → KeptShape k → well_shaped k.bytes ≡ true
kept-shaped k o = (readable k.bytes k.point o.read).shaped

-- a field of n bytes after other bytes
module _ (tag n : ℕ) (r u : List ℕ) where
  length-there : length_at (r ++ (tag ∷ n ∷ 0 ∷ u)) (length r) ≡ n
  unfolding little_at little
  length-there = rw (drop-append-add r (tag ∷ n ∷ 0 ∷ u) 1) (omega arith)

  pub field-there : n ≤ length u → field_ok (field_row tag n n) (r ++ (tag ∷ n ∷ 0 ∷ u)) (length r) ≡ true
  field-there h =
      let s = r ++ (tag ∷ n ∷ 0 ∷ u) in
      let l = length-append r (tag ∷ n ∷ 0 ∷ u) in
      let e = length-there in
      field-last (field_row tag n n) s (length r) (omega arith) (get_or-append_seam r tag (n ∷ 0 ∷ u) 0) (omega arith) (omega arith)
      ∙ le-leb (length r + 3 + length_at s (length r)) (length s) (omega arith)

-- an entry by its parts
front-is : (s r t : List ℕ) (n : ℕ) (q : PointInfo) (k : Kept) → take n s ≡ r →
    record_end s ≡ Some n → read_point r ≡ Some q → field_ok (field_row 33 105 105) s n ≡ true → take 105 (drop (n + 3) s) ≡ t → read_kept r q t ≡ Some k →
    kept_front s ≡ Some (record { kept = k; size = n + 108 })
unfolding kept_front
front-is s r t n q k f e p w g h = rw (e, f, p, w, g, h)

parts-front : (k : Kept) (rest : List ℕ) → KeptShape k →
    kept_front (k.bytes ++ (33 ∷ 105 ∷ 0 ∷ (status_bytes k.status k.certified ++ rest))) ≡ Some (record { kept = k; size = length k.bytes + 108 })
parts-front k rest o =
    let t = status_bytes k.status k.certified in
    let l = status-length k.status k.certified in
    front-is _ k.bytes t (length k.bytes) k.point k (take-append_seam k.bytes _) (append-end k.bytes _ (kept-shaped k o)) o.read
    (field-there 33 105 k.bytes (t ++ rest) (omega (arith, length-append t rest)))
    (ap (take 105) (drop-append-add k.bytes (33 ∷ 105 ∷ 0 ∷ (t ++ rest)) 3) ∙ take_at t rest 105 l)
    (kept-reads k o)

-- an entry is read back, with anything after it
pub kept-front : (k : Kept) (rest : List ℕ) → KeptShape k → kept_front (kept_bytes k ++ rest) ≡ Some (record { kept = k; size = length k.bytes + 108 })
kept-front k rest o = ap kept_front (kept_split k rest) ∙ parts-front k rest o

pub kept-after : (k : Kept) (rest : List ℕ) → drop (length k.bytes + 108) (kept_bytes k ++ rest) ≡ rest
kept-after k rest = drop_at (kept_bytes k) rest (length k.bytes + 108) (kept-length k)

-- an entry begins with tag 1: 0 is no entry
first-tag : (s : List ℕ) (n : ℕ) → record_end s ≡ Some n → get_or s 0 0 ≡ 1
unfolding start_of row_of rows
first-tag s n h = (front-field s n h 0 (omega arith)).tag

pub kept-begins : (k : Kept) (rest : List ℕ) → KeptShape k → get_or (kept_bytes k ++ rest) 0 0 ≡ 1
kept-begins k rest o =
    ap (λ (s : List ℕ). get_or s 0 0) (kept_split k rest) ∙ first-tag _ _ (append-end k.bytes _ (kept-shaped k o))

-- ---- entries

pub entries-length : (b : Book) → length (entries_bytes b) ≡ used b
unfolding entries_bytes used
entries-length [] = refl
entries-length (k ∷ b) = omega (arith, length-append (kept_bytes k) (entries_bytes b), kept-length k, entries-length b)

pub zeros-are : (n : ℕ) → is_zeros (replicate n 0) ≡ true
unfolding is_zeros
zeros-are zero = refl
zeros-are (suc n) = zeros-are n

zeros-read : (n m : ℕ) → entries_from n (replicate m 0) ≡ Some []
unfolding entries_from
zeros-read zero m = rw (zeros-are m)
zeros-read (suc n) zero = refl
zeros-read (suc n) (suc m) = rw (zeros-are m)

-- one more entry in front
module _ (n : ℕ) (s : List ℕ) (x : KeptFront) (b : Book) where
  pub more-reads : get_or s 0 0 ≡ 1 → kept_front s ≡ Some x → entries_from n (drop x.size s) ≡ Some b → entries_from (suc n) s ≡ Some (x.kept ∷ b)
  unfolding entries_from
  more-reads t f h =
      pick-false (eqb (get_or s 0 0) 0) _ _ (ap (λ (y : ℕ). eqb y 0) t)
      ∙ (ap (λ o. and_then o (λ y. option_map (λ c. y.kept ∷ c) (entries_from n (drop y.size s)))) f ∙ ap (option_map (λ c. x.kept ∷ c)) h)

-- entries are read back, with zeros after them
pub entries-read : (n m : ℕ) (b : Book) → ((k : Kept) → Memᴰ k b → KeptShape k) → length b ≤ n → entries_from n (entries_bytes b ++ replicate m 0) ≡ Some b
unfolding entries_bytes
entries-read n m [] o h = zeros-read n m
entries-read zero m (k ∷ b) o h = absurd (omega arith)
entries-read (suc n) m (k ∷ b) o h =
    let rest = entries_bytes b ++ replicate m 0 in
    let ok : KeptShape k = o k (Memᴰ.head refl) in
    ap (entries_from (suc n)) (append_assoc (kept_bytes k) (entries_bytes b) (replicate m 0))
    ∙ more-reads n (kept_bytes k ++ rest) (record { kept = k; size = length k.bytes + 108 }) b (kept-begins k rest ok) (kept-front k rest ok)
    (ap (entries_from n) (kept-after k rest) ∙ entries-read n m b (λ x i. o x (Memᴰ.tail i)) (omega arith))

-- ---- a book

pub settings-length : (s : List ℕ) (c : Settings) → read_settings s ≡ Some c → length s ≡ 47
unfolding read_settings
settings-length s c h = eqb-true (length s) 47 (and_left (eqb (length s) 47) _ (picked _ (Some (settings_in s)) c h).0)

module _ (settings : List ℕ) (len : ℕ) (b : Book) (l : length settings ≡ 47) where
  pub book-length : 47 + used b ≤ len → length (book_bytes settings len b) ≡ len
  unfolding book_bytes
  book-length h =
      let rest = entries_bytes b ++ replicate (len - 47 - used b) 0 in
      omega (arith, length-append settings rest, length-append (entries_bytes b) (replicate (len - 47 - used b) 0), length-replicate {A = ℕ} (len - 47 - used b) 0, entries-length b)

  pub book-front : take 47 (book_bytes settings len b) ≡ settings
  unfolding book_bytes
  book-front = take_at settings _ 47 l

  pub book-after : drop 47 (book_bytes settings len b) ≡ entries_bytes b ++ replicate (len - 47 - used b) 0
  unfolding book_bytes
  book-after = drop_at settings _ 47 l

-- a book by its parts
book-is : (s settings : List ℕ) (c : Settings) (b : Book) → take 47 s ≡ settings →
    length s ≤ 16777216 → read_settings settings ≡ Some c → entries_from 4096 (drop 47 s) ≡ Some b → is_twice b ≡ false →
    read_book s ≡ Some (record { bytes = settings; settings = c; length = length s; book = b })
unfolding read_book
book-is s settings c b f l r e o =
    pick_true (leb (length s) 16777216) _ None (le-leb (length s) 16777216 l)
    ∙ go (read_settings (take 47 s)) (entries_from 4096 (drop 47 s)) (ap read_settings f ∙ r) e
  where
    go : (x : Option Settings) (y : Option Book) → x ≡ Some c → y ≡ Some b →
        and_then x (λ d. and_then {B = Opened} y (λ a. pick (is_twice a) None (Some (record { bytes = take 47 s; settings = d; length = length s; book = a }))))
        ≡ Some (record { bytes = settings; settings = c; length = length s; book = b })
    go x y p q = rw (p, q, o, f)

-- a book is read back
pub book-reads : (settings : List ℕ) (c : Settings) (len : ℕ) (b : Book) → read_settings settings ≡ Some c → len ≤ 16777216 → Shape b → 47 + used b ≤ len →
    read_book (book_bytes settings len b) ≡ Some (record { bytes = settings; settings = c; length = len; book = b })
book-reads settings c len b r m h room =
    let l = settings-length settings c r in
    subst (λ (n : ℕ). read_book (book_bytes settings len b) ≡ Some (record { bytes = settings; settings = c; length = n; book = b }))
    (book-length settings len b l room)
    (book-is (book_bytes settings len b) settings c b (book-front settings len b l)
    (omega (arith, book-length settings len b l room))
    r
    (ap (entries_from 4096) (book-after settings len b l) ∙ entries-read 4096 (len - 47 - used b) b h.entries h.few)
    h.once)
