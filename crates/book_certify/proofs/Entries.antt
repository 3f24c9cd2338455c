-- The entries of a book that was read, as they stand in its bytes.
use Prim.Native.Nat.{ℕ, zero, suc, ◌+◌, ◌-◌, ◌≤◌, ◌<◌}
use native.Mathlib.Numerals.{add-one}
use native.Mathlib.Omega.{arith}
use native.Mathlib.Decide.{dec_lt}
use mathlib.Core.Path.{◌≡◌, refl, ap, sym, ◌∙◌, subst}
use mathlib.Core.Bool.{Bool, true, false, not}
use mathlib.Core.List.{List, [], ◌∷◌, ◌++◌, Memᴰ}
use lib.ListN.{length, get_or, take, drop, length-drop, take-append-drop}
use lib.Seq.{take_all, drop-nil, get_or-take, get_or-drop, get_or-append-add}
use lib.Dec.{eqb}
use borrow.Author.Tests.{lt-ltb, le-ltb}
use Rattle.base.proofs.Bool.{never, clash}
use Rattle.base.proofs.Impossible.{impossible}
use Rattle.parts.specs.Bytes.{little_at, Bytes}
use Rattle.record.specs.Record.{next_at, content_at, start_of, content_of, well_shaped}
use Rattle.record.proofs.Laws.{shaped-end, third-start, append_agrees, start-same, append-content}
use Rattle.parts.proofs.Laws.{rest-bytes}
use Rattle.map.specs.Rows.{pairs_of}
use Rattle.point.specs.Point.{same_id}
use Rattle.point.specs.Reading.{point_id_at}
use Rattle.point.proofs.Laws.{parts-of}
use Rattle.schedule.specs.Settings.{Settings}
use Rattle.id_index.specs.declared.Index.{Index}
use Rattle.id_index.specs.Code.{count_of, place_in, field_id, id_in, Once, IsIndex}
use Rattle.books.specs.Kept.{Status, Valid, TransInvalid, Invalid, IllFormed, Kept, Book}
use Rattle.books.specs.Spread.{is_ill_formed, has_deps}
use Rattle.books.specs.Offer.{used}
use Rattle.books.specs.Layout.{status_bytes, kept_bytes}
use Rattle.books.proofs.Shape.{KeptShape, Shape}
use Rattle.books.proofs.Canonical.{FrontOf, front-again, book-again}
use Rattle.books.proofs.RoundTrip.{kept_split, kept-shaped}
use Rattle.book_read.specs.Code.{Holds, IsRead}
use Rattle.book_read.proofs.Laws.{standing, inside, twice-book}
use Rattle.book_certify.specs.Code.{entries_of, book_in, end_in, rounds_of, map_back, rows_back}
use Rattle.book_certify.specs.declared.spread.Deps.{Deps}
use Rattle.book_certify.specs.declared.spread.Deps.TheVariants.{Includes, Witness}

pub one_or_two : (deps : Deps) → (1 ≤ rounds_of deps) × (rounds_of deps ≤ 2)
one_or_two Includes = (omega arith, omega arith)
one_or_two Witness = (omega arith, omega arith)

pub record Stands (s : List ℕ) (end : ℕ) (x : Index) (b : Book) : Type 0 where
  pub holds : Holds s b x
  pub shape : Shape b
  pub index : IsIndex s x
  pub once : Once s x (count_of x)
  pub ends : end ≡ 47 + used b
  pub room : 47 + used b ≤ length s
  pub bytes : Bytes s

-- no id stands twice in the index
index-once : {s : List ℕ} {b : Book} {x : Index} → Holds s b x → Once s x (count_of x)
index-once {s} {b} {x} h j k lt low = never (same_id (id_in s x j) (id_in s x k)) (λ t. clash _ (twice-book h.placed (record { first = j; second = k; after = lt; within = low; same = t })) h.once)

pub stands : {s : List ℕ} {c : Settings} {end : ℕ} {x : Index} → Bytes s → IsRead s c end x → Stands s end x (book_in s)
stands {s} {c} {end} {x} w h =
    let z = book-again s h.opened w h.read in
    subst (Stands s end x) (sym (ap entries_of h.read))
    (record {
      holds = h.holds;
      shape = z.shape;
      index = h.index;
      once = index-once h.holds;
      ends = h.ends;
      room = z.room;
      bytes = w;
    })

-- ---- entry j

member-drop : (b : Book) (j : ℕ) (k : Kept) (rest : Book) → drop j b ≡ k ∷ rest → Memᴰ k b
member-drop [] j k rest e = impossible (cc (drop-nil {A = Kept} j))
member-drop (y ∷ b) zero k rest e = let f : k ≡ y = cc in Memᴰ.head f
member-drop (y ∷ b) (suc j) k rest e = Memᴰ.tail (member-drop b j k rest e)

used-take : (b : Book) (j : ℕ) (k : Kept) (rest : Book) → drop j b ≡ k ∷ rest → used (take (suc j) b) ≡ used (take j b) + (length k.bytes + 108)
unfolding used
used-take [] j k rest e = impossible (cc (drop-nil {A = Kept} j))
used-take (y ∷ b) zero k rest e = let f : y ≡ k = cc in rw f (omega arith)
used-take (y ∷ b) (suc j) k rest e = omega (arith, used-take b j k rest e)

-- the round that stands in front of an id
pub id-round : (s : List ℕ) (place : ℕ) → (field_id s place).round ≡ little_at 4 s (place + 3)
unfolding point_id_at
id-round s place = refl

-- the first byte of tag 33's content is the state
state_byte : (t : Status) (c : Bool) → eqb (get_or (status_bytes t c) 0 0) 3 ≡ is_ill_formed t
unfolding status_bytes
state_byte Valid c = refl
state_byte (TransInvalid d) c = refl
state_byte (Invalid n) c = refl
state_byte (IllFormed n) c = refl

module _ {s : List ℕ} {end : ℕ} {x : Index} {b : Book} (h : Stands s end x b) where
  pub entry_at : (j : ℕ) → j < count_of x → (k : Kept) × (rest : Book) × (drop j b ≡ k ∷ rest)
  entry_at j lt = standing b j (omega (arith, h.holds.placed.count))

  module _ (j : ℕ) (k : Kept) (rest : Book) (e : drop j b ≡ k ∷ rest) where
    pub numbered : j < count_of x
    numbered = omega (arith, h.holds.placed.count, inside b j k rest e)

    pub member : Memᴰ k b
    member = member-drop b j k rest e

    pub entry-id : id_in s x j ≡ k.point.id
    entry-id = h.holds.placed.ids j k rest e

    kept-shape : KeptShape k
    kept-shape = h.shape.entries k member

    abbrev place : ℕ
    place = place_in x j

    front : FrontOf (drop place s) (record { kept = k; size = length k.bytes + 108 })
    front = front-again (drop place s) _ (rest-bytes place s h.bytes) (h.holds.placed.fronts j k rest e)

    pub entry-within : place + (length k.bytes + 108) ≤ length s
    entry-within = omega (arith, front.within, length-drop place s)

    pub entry-end : end_in x end j ≡ place + (length k.bytes + 108)
    entry-end =
        let n = used-take b j k rest e in
        let at = h.holds.placed.starts j k rest e in
        elim (dec_lt (j + 1) (count_of x)) [
          | yes g ↦ (let y = entry_at (j + 1) g in
              let f = h.holds.placed.starts (j + 1) y.0 y.1 y.2 in
              rw (lt-ltb (j + 1) (count_of x) g) (f ∙ rw (add-one j) (omega arith)))
          | no g ↦ (let f : take (suc j) b ≡ b = take_all (suc j) b (omega (arith, h.holds.placed.count)) in
              rw (le-ltb (j + 1) (count_of x) (omega arith)) (omega (arith, h.ends, ap used f)))
        ]

    -- what the state says
    pub entry-state : eqb (get_or s (end_in x end j - 105) 0) 3 ≡ is_ill_formed k.status
    unfolding kept_bytes
    entry-state =
        let n = length k.bytes in
        let at : end_in x end j - 105 ≡ place + (n + 3) = omega (arith, entry-end) in
        let byte : get_or s (place + (n + 3)) 0 ≡ get_or (status_bytes k.status k.certified) 0 0 =
        sym (get_or-drop place s (n + 3) 0)
        ∙ (sym (get_or-take (n + 108) (drop place s) (n + 3) 0 (omega arith))
        ∙ (ap (λ (l : List ℕ). get_or l (n + 3) 0) front.bytes
        ∙ get_or-append-add k.bytes (33 ∷ 105 ∷ 0 ∷ status_bytes k.status k.certified) 3 0)) in
        rw (at, byte) (state_byte k.status k.certified)

    -- whether it passes its mark on
    pub deps-low : (c : Settings) → (id_in s x j).round ≤ c.genesis_round → false ≡ has_deps c k
    deps-low c low = sym (rw (le-ltb c.genesis_round k.point.id.round (rw entry-id at low)))

    pub deps_high : (c : Settings) → c.genesis_round < (id_in s x j).round → not (eqb (get_or s (end_in x end j - 105) 0) 3) ≡ has_deps c k
    deps_high c high = rw (lt-ltb c.genesis_round k.point.id.round (rw entry-id at high), entry-state)

    -- its record stands at its place
    record_there : (t : List ℕ) × (drop place s ≡ k.bytes ++ t)
    record_there =
        let after = drop (length k.bytes + 108) (drop place s) in (
          33 ∷ 105 ∷ 0 ∷ (status_bytes k.status k.certified ++ after),
          sym (take-append-drop (length k.bytes + 108) (drop place s)) ∙ (ap (λ (l : List ℕ). l ++ after) front.bytes ∙ kept_split k after),
        )

    module _ (t : List ℕ) (f : drop place s ≡ k.bytes ++ t) where
      abbrev shaped : well_shaped k.bytes ≡ true
      shaped = kept-shaped k kept-shape

      includes-start : start_of (k.bytes ++ t) 2 ≡ 82
      includes-start =
          start-same (length k.bytes) k.bytes (k.bytes ++ t) (append_agrees k.bytes t) (length k.bytes) (shaped-end k.bytes shaped) (omega arith) 2 (omega arith)
          ∙ third-start k.bytes shaped

      includes-rows : content_at (k.bytes ++ t) 82 ≡ content_of k.bytes 2
      unfolding content_of
      includes-rows = ap (content_at (k.bytes ++ t)) (sym includes-start) ∙ append-content k.bytes t shaped 2 (omega arith)

      witness-rows : content_at (k.bytes ++ t) (next_at (k.bytes ++ t) 82) ≡ content_of k.bytes 3
      unfolding content_of start_of
      witness-rows = ap (λ (n : ℕ). content_at (k.bytes ++ t) (next_at (k.bytes ++ t) n)) (sym includes-start) ∙ append-content k.bytes t shaped 3 (omega arith)

    pub entry-rows : (deps : Deps) → pairs_of (rows_back deps (drop place s)) ≡ map_back deps k.point
    entry-rows Includes =
        let r = record_there in
        rw (r.1, includes-rows r.0 r.1) (sym (parts-of k.bytes k.point kept-shape.read).includes)
    entry-rows Witness =
        let r = record_there in
        rw (r.1, witness-rows r.0 r.1) (sym (parts-of k.bytes k.point kept-shape.read).witness)
