-- Reading a book, step by step: an entry after those that are read, and where the entries end.
use Rattle.std.specs.Prelude.{Option, None, Some, option_map}
use Prim.Native.Nat.{ℕ, zero, suc, ◌+◌, ◌-◌, ◌≤◌, ◌<◌}
use native.Mathlib.Omega.{arith}
use mathlib.Core.Path.{◌≡◌, refl, ap, sym, ◌∙◌}
use mathlib.Core.Bool.{Bool, true, false}
use mathlib.Core.List.{List, [], ◌∷◌, ◌++◌, append-nil}
use lib.ListN.{length, get_or, take, drop, length-append, length-take, length-drop}
use lib.Seq.{take-append-le, take-append_seam, drop-nil, drop-drop, get_or-drop, length-take-le}
use lib.Dec.{leb, eqb}
use borrow.Author.Tests.{le-leb, lt-leb, eq-eqb, ne_eqb}
use Rattle.base.specs.Base.{pick, and_then}
use Rattle.base.proofs.Bool.{pick_true, pick-false}
use Rattle.base.proofs.Impossible.{impossible}
use Rattle.record.specs.Record.{rows, row_of, next_at, content_at, start_of, content_of}
use Rattle.record.proofs.Laws.{field}
use Rattle.point.specs.Point.{PointInfo}
use Rattle.point.specs.Reading.{point_id_at, read_point}
use Rattle.point.proofs.Laws.{readable, parts-of}
use Rattle.point.proofs.Ids.{id-front, id_shift}
use Rattle.schedule.specs.Settings.{Settings, read_settings}
use Rattle.books.specs.Kept.{Kept, Book}
use Rattle.books.specs.Offer.{used}
use Rattle.books.specs.Layout.{is_zeros, KeptFront, kept_front, entries_from, read_book}
use Rattle.books.proofs.Bytes.{used-append}
use Rattle.id_index.specs.declared.Index.{Index}
use Rattle.id_index.specs.Code.{count_of, place_in, id_in, Added, IsEmpty, Built}
use Rattle.id_index.proofs.Laws.{added-old, added-noted, none-noted}
use Rattle.book_layout.specs.Code.{EntryTo}
use Rattle.book_read.specs.Code.{entries_before, Reading, opened_once, NoBook, IsRead}
use Rattle.book_read.proofs.Laws.{inside, once-book, twice-book, built-placed}

-- ---- a book with one more entry

-- each entry of it is an old one or the new one
data Which (b : Book) (k : Kept) (j : ℕ) (x : Kept) : Type 0 where
  old : (rest : Book) → drop j b ≡ x ∷ rest → Which b k j x
  new : j ≡ length b → x ≡ k → Which b k j x

which : (b : Book) (k : Kept) (j : ℕ) (x : Kept) (rest : Book) → drop j (b ++ (k ∷ [])) ≡ x ∷ rest → Which b k j x
which [] k zero x rest e = new refl (cc)
which [] k (suc j) x rest e = impossible (cc (drop-nil {A = Kept} j))
which (y ∷ b) k zero x rest e = old b (let f : y ≡ x = cc in rw f)
which (y ∷ b) k (suc j) x rest e = go (which b k j x rest e)
  where
    go : Which b k j x → Which (y ∷ b) k (suc j) x
    go (old r d) = old r d
    go (new d f) = new (ap suc d) f

-- ---- the id of an entry stands after the tag and the length of its record's first field

module _ (s : List ℕ) (p : PointInfo) (h : read_point s ≡ Some p) where
  record_id : (71 ≤ length s) × (p.id ≡ point_id_at s 3)
  unfolding content_of start_of content_at row_of rows
  record_id =
      let f = field s (readable s p h).shaped 0 (omega arith) in
      let e : next_at s 0 - 3 ≡ 68 = omega (arith, f.least, f.greatest, f.next) in
      (omega (arith, f.least, f.end), (parts-of s p h).id ∙ rw (e, id-front 68 0 (drop 3 s) (omega arith)) (id_shift 3 0 s))

-- ---- the entry at a place

-- what the entry at a place is, whose record takes n bytes
pub record EntryAt (s : List ℕ) (place n : ℕ) (k : Kept) : Type 0 where
  pub front : kept_front (drop place s) ≡ Some (record { kept = k; size = length k.bytes + 108 })
  pub size : length k.bytes ≡ n
  pub room : place + 71 ≤ length s
  pub within : place + n + 108 ≤ length s
  pub id : point_id_at s (place + 3) ≡ k.point.id

module _ (s : List ℕ) (place : ℕ) (t : List ℕ) (e : t ≡ drop place s) (n : ℕ) where
  pub entry_at : (x : EntryTo t n) → place ≤ length s → EntryAt s place n x.kept
  entry_at x w =
      let l : length x.kept.bytes ≡ n = ap length x.bytes ∙ length-take-le n t (omega (arith, x.inside)) in
      let r = record_id (take n t) _ x.read in
      let d : length t ≡ length s - place = ap length e ∙ length-drop place s in
      let m = length-take-le n t (omega (arith, x.inside)) in
      record {
        front = ap kept_front (sym e) ∙ (x.front ∙ rw l);
        size = l;
        room = omega (arith, r.0, x.inside);
        within = omega (arith, x.inside);
        id = sym (r.1 ∙ (id-front n 3 t (omega (arith, r.0)) ∙ rw e (id_shift place 3 s)));
      }

-- ---- entries after those that are read

-- an entry of a book stands where the index says
record Stands (s : List ℕ) (b : Book) (x : Index) (j : ℕ) (k : Kept) : Type 0 where
  start : place_in x j ≡ 47 + used (take j b)
  front : kept_front (drop (place_in x j) s) ≡ Some (record { kept = k; size = length k.bytes + 108 })
  id : id_in s x j ≡ k.point.id

before-none : (b : Book) → entries_before b None ≡ None
before-none [] = refl
before-none (k ∷ b) = ap (option_map (λ b. k ∷ b)) (before-none b)

before-some : (b c : Book) → entries_before b (Some c) ≡ Some (b ++ c)
before-some [] c = refl
before-some (k ∷ b) c = ap (option_map (λ b. k ∷ b)) (before-some b c)

before_more : (b : Book) (k : Kept) (o : Option Book) → entries_before b (option_map (λ c. k ∷ c) o) ≡ entries_before (b ++ (k ∷ [])) o
before_more [] k o = refl
before_more (x ∷ b) k o = ap (option_map (λ b. x ∷ b)) (before_more b k o)

before_last : (b : Book) (z : Bool) → entries_before b (pick z (Some []) None) ≡ pick z (Some b) None
before_last b true = before-some b [] ∙ ap Some (append-nil b)
before_last b false = before-none b

-- what is read at the front of a list, with room for n entries
ends-here : (m : ℕ) (t : List ℕ) → get_or t 0 0 ≡ 0 → entries_from m t ≡ pick (is_zeros t) (Some []) None
unfolding entries_from
ends-here zero t h = refl
ends-here (suc m) t h = rw (eq-eqb (get_or t 0 0) 0 h)

no_room : (t : List ℕ) → eqb (get_or t 0 0) 0 ≡ false → entries_from 0 t ≡ None
unfolding entries_from is_zeros
no_room [] h = impossible (cc)
no_room (x ∷ t) h = rw h

with_front : (m : ℕ) (t : List ℕ) → eqb (get_or t 0 0) 0 ≡ false → (o : Option KeptFront) → kept_front t ≡ o →
    entries_from (suc m) t ≡ and_then o (λ x. option_map (λ b. x.kept ∷ b) (entries_from m (drop x.size t)))
unfolding entries_from
with_front m t h o f = rw (h, f)

module _ {s : List ℕ} {end : ℕ} {x : Index} (r : Reading s end x) where
  first : get_or (drop end s) 0 0 ≡ get_or s end 0
  first = let e : end + 0 ≡ end = omega arith in get_or-drop end s 0 0 ∙ ap (λ (m : ℕ). get_or s m 0) e

  unread : entries_from (4096 - count_of x) (drop end s) ≡ None → NoBook s
  unread h = λ c. ap (λ o. and_then o (opened_once s c)) (r.left ∙ (ap (entries_before r.book) h ∙ before-none r.book))

  -- the entries end at a 0 or with the bytes
  pub all_read : get_or s end 0 ≡ 0 → entries_from 4096 (drop 47 s) ≡ pick (is_zeros (drop end s)) (Some r.book) None
  all_read h = r.left ∙ (ap (entries_before r.book) (ends-here (4096 - count_of x) (drop end s) (first ∙ h)) ∙ before_last r.book (is_zeros (drop end s)))

  module _ (h : eqb (get_or s end 0) 0 ≡ false) where
    begins : eqb (get_or (drop end s) 0 0) 0 ≡ false
    begins = ap (λ (x : ℕ). eqb x 0) first ∙ h

    pub too_many : count_of x ≡ 4096 → NoBook s
    too_many e = let z : 4096 - count_of x ≡ 0 = omega arith in unread (ap (λ (m : ℕ). entries_from m (drop end s)) z ∙ no_room (drop end s) begins)

    module _ (room : count_of x < 4096) where
      one_left : (o : Option KeptFront) → kept_front (drop end s) ≡ o →
          entries_from (4096 - count_of x) (drop end s) ≡ and_then o (λ x'. option_map (λ b. x'.kept ∷ b) (entries_from (4096 - (count_of x + 1)) (drop x'.size (drop end s))))
      one_left o f =
          let z : 4096 - count_of x ≡ suc (4096 - (count_of x + 1)) = omega arith in
          ap (λ (m : ℕ). entries_from m (drop end s)) z ∙ with_front (4096 - (count_of x + 1)) (drop end s) begins o f

      pub no_entry : kept_front (drop end s) ≡ None → NoBook s
      no_entry f = unread (one_left None f)

      module _ (c : ℕ) (k : Kept) (w : EntryAt s end c k) {more : Index} (a : Added x end more) where
        -- what is left to read after the entry
        after : entries_from 4096 (drop 47 s) ≡ entries_before (r.book ++ (k ∷ [])) (entries_from (4096 - (count_of x + 1)) (drop (end + c + 108) s))
        after =
            let z : end + (length k.bytes + 108) ≡ end + c + 108 = omega (arith, w.size) in
            let e : drop (length k.bytes + 108) (drop end s) ≡ drop (end + c + 108) s = drop-drop (length k.bytes + 108) end s ∙ rw z in
            r.left
            ∙ (ap (entries_before r.book) (one_left _ w.front)
            ∙ (before_more r.book k _
            ∙ ap (λ (t : List ℕ). entries_before (r.book ++ (k ∷ [])) (entries_from (4096 - (count_of x + 1)) t)) e))

        -- the index with the entry's place after the others
        stands : (j : ℕ) (y : Kept) (rest : Book) → drop j (r.book ++ (k ∷ [])) ≡ y ∷ rest → Stands s (r.book ++ (k ∷ [])) more j y
        stands j y rest e = go (which r.book k j y rest e)
          where
            go : Which r.book k j y → Stands s (r.book ++ (k ∷ [])) more j y
            go (old l d) =
                let m = inside r.book j y l d in
                let p = added-old a j (omega (arith, r.placed.count)) in
                record {
                  start = p ∙ (r.placed.starts j y l d ∙ ap (λ (b : Book). 47 + used b) (sym (take-append-le j r.book (k ∷ []) (omega arith))));
                  front = rw p (r.placed.fronts j y l d);
                  id = rw p (r.placed.ids j y l d);
                }
            go (new d f) =
                let g : j ≡ count_of x = d ∙ sym r.placed.count in
                let p : place_in more j ≡ end = ap (place_in more) g ∙ a.there in
                record {
                  start = p ∙ (r.ends ∙ rw d (ap (λ (b : Book). 47 + used b) (sym (take-append_seam r.book (k ∷ [])))));
                  front = rw (p, f) w.front;
                  id = rw (p, f) w.id;
                }

        pub entry-added : Reading s (end + c + 108) more
        unfolding used
        entry-added =
            let m = a.count in
            record {
              book = r.book ++ (k ∷ []);
              placed = record {
                count = omega (arith, length-append r.book (k ∷ []), r.placed.count, m);
                starts = λ j y rest e. (stands j y rest e).start;
                fronts = λ j y rest e. (stands j y rest e).front;
                ids = λ j y rest e. (stands j y rest e).id;
              };
              ends = omega (arith, r.ends, used-append r.book (k ∷ []), w.size);
              within = w.within;
              left = after ∙ ap (λ (n : ℕ). entries_before (r.book ++ (k ∷ [])) (entries_from (4096 - n) (drop (end + c + 108) s))) (sym m);
              noted = added-noted a w.room r.noted;
            }

pub none_read : {s : List ℕ} {x : Index} → 47 ≤ length s → IsEmpty x → Reading s 47 x
unfolding used
none_read {s} {x} l e =
    let no : (j : ℕ) (k : Kept) (rest : Book) → drop j [] ≡ k ∷ rest → ⊥ = λ j k rest e. omega (arith, inside [] j k rest e) in
    record {
      book = [];
      placed = record {
        count = e.none;
        starts = λ j k rest e. absurd (no j k rest e);
        fronts = λ j k rest e. absurd (no j k rest e);
        ids = λ j k rest e. absurd (no j k rest e);
      };
      ends = refl;
      within = l;
      left = ap (λ (m : ℕ). entries_from (4096 - m) (drop 47 s)) (sym e.none);
      noted = none-noted s e;
    }

-- ---- a book

module _ (s : List ℕ) where
  pub too_long : 16777216 < length s → read_book s ≡ None
  unfolding read_book
  too_long h = pick-false (leb (length s) 16777216) _ None (lt-leb (length s) 16777216 h)

  module _ (h : length s ≤ 16777216) where
    in_limit : read_book s ≡ and_then (read_settings (take 47 s)) (λ c. and_then (entries_from 4096 (drop 47 s)) (opened_once s c))
    unfolding read_book
    in_limit = pick_true (leb (length s) 16777216) _ None (le-leb (length s) 16777216 h)

    pub no_settings : read_settings (take 47 s) ≡ None → read_book s ≡ None
    no_settings e = in_limit ∙ rw e

    pub no_book : NoBook s → read_book s ≡ None
    no_book e = in_limit ∙ go (read_settings (take 47 s))
      where
        go : (o : Option Settings) → and_then o (λ c. and_then (entries_from 4096 (drop 47 s)) (opened_once s c)) ≡ None
        go None = refl
        go (Some c) = e c

    module _ {end : ℕ} {y : Index} (r : Reading s end y) (e : get_or s end 0 ≡ 0) where
      pub no_zeros : is_zeros (drop end s) ≡ false → read_book s ≡ None
      no_zeros z = let b : entries_from 4096 (drop 47 s) ≡ None = all_read r e ∙ rw z in no_book (λ c. ap (λ o. and_then o (opened_once s c)) b)

      module _ (z : is_zeros (drop end s) ≡ true) where
        entries : entries_from 4096 (drop 47 s) ≡ Some r.book
        entries = all_read r e ∙ rw z

        pub id-twice : {x : Index} → Built s y x false → read_book s ≡ None
        id-twice u =
            let t = twice-book (built-placed r.placed u) u.index in
            no_book (λ c. ap (λ o. and_then o (opened_once s c)) entries ∙ rw t)

        pub book-read : {x : Index} (c : Settings) → read_settings (take 47 s) ≡ Some c → Built s y x true → IsRead s c end x
        book-read c f u =
            let p = built-placed r.placed u in
            let o = once-book p u.index.1 in
            record {
              opened = record { bytes = take 47 s; settings = c; length = length s; book = r.book };
              read = in_limit ∙ rw (f, entries, o);
              settings = refl;
              whole = refl;
              holds = record { placed = p; once = o };
              ends = r.ends;
              index = u.index.0;
            }

pub too_short : (s : List ℕ) → length s < 47 → read_book s ≡ None
unfolding read_settings
too_short s h = no_settings s (omega arith) (rw (ne_eqb (length (take 47 s)) 47 (λ e. omega (arith, length-take 47 s))))
