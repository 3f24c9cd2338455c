-- A record is its nine contents: bytes of the right shape are the record of their contents, and the record of nine contents within
-- their rows has the right shape and these contents.
use Rattle.std.specs.Prelude.{Some}
use Rattle.std.specs.List.{list_all}
use Prim.Native.Nat.{ℕ, zero, suc, ◌+◌, ◌-◌, ◌*◌, ◌≤◌, ◌<◌}
use native.Mathlib.Nat.{add-zero, zero-add}
use native.Mathlib.Numerals.{add-one}
use native.Mathlib.Omega.{arith}
use mathlib.Core.Path.{◌≡◌, refl, ap, sym, ◌∙◌}
use mathlib.Core.Bool.{true}
use mathlib.Core.List.{List, [], ◌∷◌, ◌++◌, append_assoc, append-nil}
use lib.ListN.{length, get_or, take, drop, length-drop, length-append, take-append-drop}
use lib.Seq.{drop-cons, drop-drop, drop-append_seam, take-append_seam, drop-length, get_or-drop}
use lib.Dec.{ltb}
use borrow.Author.Tests.{ltb-true, le-leb}
use Rattle.base.specs.Base.{concat, tabulate}
use Rattle.base.proofs.Bool.{and_left, and_right}
use Rattle.base.proofs.Option.{picked}
use Rattle.base.proofs.Lists.{tabulate-at}
use Rattle.parts.specs.Bytes.{little, bytes_at, little_at, little_bytes, Bytes}
use Rattle.parts.proofs.Laws.{little-back, little-of}
use Rattle.parts.proofs.AllBytes.{AllBytes, none_more, one_more, both, little-below}
use Rattle.record.specs.declared.Row.{Row}
use Rattle.record.specs.Record.{length_at, next_at, content_at, field_ok, end_from, start_of, content_of, field_row, rows, record_end, well_shaped}
use Rattle.record.specs.Fields.{field_bytes, fields_bytes, record_bytes, contents}
use Rattle.record.proofs.Laws.{Fitting, fitting, field-last, next-whole, start-within, shaped-end, end-shaped, most}

-- ---- from bytes to contents

-- bytes at a place are the first of what stands from there on
split : (n : ℕ) (s : List ℕ) (at : ℕ) → drop at s ≡ bytes_at n s at ++ drop (at + n) s
split n s at = sym (take-append-drop n (drop at s)) ∙ ap (◌++◌ (bytes_at n s at)) (drop-drop n at s)

-- a byte, two bytes and n bytes at a place, and what stands after them
four_parts : (s : List ℕ) (at n m : ℕ) → at < length s → at + 3 + n ≡ m →
    drop at s ≡ get_or s at 0 ∷ bytes_at 2 s (at + 1) ++ (bytes_at n s (at + 3) ++ drop m s)
four_parts s at n m h e =
    let third : at + 1 + 2 ≡ at + 3 = omega arith in
    drop-cons s at 0 h
    ∙ (ap (λ k. get_or s at 0 ∷ drop k s) (sym (add-one at))
    ∙ (ap (λ u. get_or s at 0 ∷ u) (split 2 s (at + 1))
    ∙ rw (third, ← e) (ap (λ u. get_or s at 0 ∷ bytes_at 2 s (at + 1) ++ u) (split n s (at + 3)))))

field-is : (tag : ℕ) (c t : List ℕ) → field_bytes tag c ++ t ≡ tag ∷ little_bytes 2 (length c) ++ (c ++ t)
unfolding field_bytes
field-is tag c t = ap (λ u. tag ∷ u) (append_assoc (little_bytes 2 (length c)) c t)

module _ (s : List ℕ) (b : Bytes s) where
  -- what stands from a field on is the field and what stands after it
  field-parts : (row : Row) (at : ℕ) → Fitting row s at → drop at s ≡ field_bytes row.tag (content_at s at) ++ drop (next_at s at) s
  unfolding content_at
  field-parts row at f =
      let two : little_bytes 2 (length (content_at s at)) ≡ bytes_at 2 s (at + 1) =
      ap (little_bytes 2) f.content ∙ little-of 2 s (at + 1) b (omega (arith, f.head))
      in
      rw (field-is row.tag (content_at s at) (drop (next_at s at) s), two, ← f.tag)
      (four_parts s at (next_at s at - (at + 3)) (next_at s at) (omega (arith, f.head)) (omega (arith, f.next)))

  -- the same of fields one after the other
  fields-parts : (rs : List Row) (k e : ℕ) → end_from rs s (start_of s k) ≡ Some e →
      drop (start_of s k) s ≡ fields_bytes rs (tabulate (content_of s) (length rs) k) ++ drop e s
  unfolding fields_bytes tabulate end_from content_of start_of
  fields-parts [] k e h = let g : start_of s k ≡ e = cc in rw g
  fields-parts (r ∷ rs) k e h =
      let at = start_of s k in
      let p = picked (field_ok r s at) (end_from rs s (next_at s at)) e h in
      field-parts r at (fitting r s at p.0)
      ∙ (ap (◌++◌ (field_bytes r.tag (content_at s at))) (fields-parts rs (suc k) e p.1)
      ∙ sym (append_assoc (field_bytes r.tag (content_at s at)) (fields_bytes rs (tabulate (content_of s) (length rs) (suc k))) (drop e s)))

-- bytes of the right shape are the record of their contents
pub record-parts : (s : List ℕ) → Bytes s → well_shaped s ≡ true → s ≡ record_bytes (contents s)
unfolding record_bytes contents record_end start_of rows
record-parts s b w =
    let nine : s ≡ record_bytes (contents s) ++ drop (length s) s = fields-parts s b rows 0 (length s) (shaped-end s w) in
    nine ∙ rw (drop-length s) (append-nil (record_bytes (contents s)))

-- ---- from contents to bytes

-- as many contents as rows, each as long as its row allows
pub record Within (rs : List Row) (cs : List (List ℕ)) : Type 0 where
  pub count : length cs ≡ length rs
  pub least : (k : ℕ) → k < length rs → (get_or rs k (field_row 0 0 0)).least ≤ length (get_or cs k [])
  pub greatest : (k : ℕ) → k < length rs → length (get_or cs k []) ≤ (get_or rs k (field_row 0 0 0)).greatest

within_rest : (r : Row) (rs : List Row) (c : List ℕ) (cs : List (List ℕ)) → Within (r ∷ rs) (c ∷ cs) → Within rs cs
within_rest r rs c cs w =
    record {
      count = omega (arith, w.count);
      least = λ k h. w.least (suc k) (omega arith);
      greatest = λ k h. w.greatest (suc k) (omega arith);
    }

field-length : (tag : ℕ) (c t : List ℕ) → length (field_bytes tag c ++ t) ≡ 3 + length c + length t
unfolding field_bytes little_bytes
field-length tag c t = omega (arith, length-append c t)

-- a field that stands at a place, whose content is as long as a row allows, and anything after it
module _ (s : List ℕ) (at : ℕ) (r : Row) (c t : List ℕ) (h : at ≤ length s) (l : r.least ≤ length c) (g : length c ≤ r.greatest)
    (small : r.greatest < 65536) (e : drop at s ≡ field_bytes r.tag c ++ t) where
  whole : length s ≡ at + 3 + length c + length t
  whole = omega (arith, length-drop at s, ap length e, field-length r.tag c t)

  tag-read : get_or s at 0 ≡ r.tag
  unfolding field_bytes
  tag-read = ap (λ k. get_or s k 0) (sym (add-zero at)) ∙ (sym (get_or-drop at s 0 0) ∙ ap (λ u. get_or u 0 0) e)

  length-read : length_at s at ≡ length c
  unfolding field_bytes little_bytes little_at
  length-read = ap (λ u. little (take 2 u)) (sym (drop-drop 1 at s) ∙ ap (drop 1) e) ∙ little-back 2 (length c) (omega arith)

  after_head : drop (at + 3) s ≡ c ++ t
  unfolding field_bytes little_bytes
  after_head = sym (drop-drop 3 at s) ∙ ap (drop 3) e

  next-read : next_at s at ≡ at + 3 + length c
  next-read = omega (arith, length-read, next-whole s at (omega (arith, whole, length-read)))

  content-read : content_at s at ≡ c
  unfolding content_at
  content-read =
      let n : next_at s at - (at + 3) ≡ length c = omega (arith, next-read) in
      ap (λ k. bytes_at k s (at + 3)) n ∙ (ap (take (length c)) after_head ∙ take-append_seam c t)

  rest-read : drop (next_at s at) s ≡ t
  rest-read =
      ap (λ k. drop k s) next-read
      ∙ (sym (drop-drop (length c) (at + 3) s) ∙ (ap (drop (length c)) after_head ∙ drop-append_seam c t))

  field-read : field_ok r s at ≡ true
  field-read =
      field-last r s at (omega (arith, whole)) tag-read (omega (arith, length-read)) (omega (arith, length-read))
      ∙ le-leb (at + 3 + length_at s at) (length s) (omega (arith, whole, length-read))

-- fields one after the other from where field k starts, and anything after them: where they end, and their contents
fields-read : (s t : List ℕ) (rs : List Row) (cs : List (List ℕ)) (k : ℕ) → most rs < 65536 → Within rs cs →
    drop (start_of s k) s ≡ fields_bytes rs cs ++ t →
    (end_from rs s (start_of s k) ≡ Some (start_of s k + length (fields_bytes rs cs))) × (tabulate (content_of s) (length rs) k ≡ cs)
unfolding fields_bytes end_from tabulate content_of start_of
fields-read s t [] [] k o w e = (ap Some (sym (add-zero (start_of s k))), refl)
fields-read s t [] (c ∷ cs) k o w e = absurd (omega (arith, w.count))
fields-read s t (r ∷ rs) [] k o w e = absurd (omega (arith, w.count))
fields-read s t (r ∷ rs) (c ∷ cs) k o w e =
    let at = start_of s k in
    let h = start-within s k in
    let l = w.least 0 (omega arith) in
    let g = w.greatest 0 (omega arith) in
    let small : r.greatest < 65536 = omega arith in
    let rest = fields_bytes rs cs ++ t in
    let f : drop at s ≡ field_bytes r.tag c ++ rest = e ∙ append_assoc (field_bytes r.tag c) (fields_bytes rs cs) t in
    let later = fields-read s t rs cs (suc k) (omega arith) (within_rest r rs c cs w) (rest-read s at r c rest h l g small f) in
    let end : next_at s at + length (fields_bytes rs cs) ≡ at + length (field_bytes r.tag c ++ fields_bytes rs cs) =
    omega (arith, next-read s at r c rest h l g small f, field-length r.tag c (fields_bytes rs cs))
    in (
      rw (field-read s at r c rest h l g small f) (later.0 ∙ ap Some end),
      rw (content-read s at r c rest h l g small f, later.1),
    )

-- content k of nine
pub contents-at : (s : List ℕ) (k : ℕ) → k < 9 → get_or (contents s) k [] ≡ content_of s k
unfolding contents
contents-at s k h = tabulate-at (content_of s) 9 0 k [] h ∙ ap (content_of s) (zero-add k)

module _ (cs : List (List ℕ)) (w : Within rows cs) where
  nine-read : (record_end (record_bytes cs) ≡ Some (length (record_bytes cs))) × (contents (record_bytes cs) ≡ cs)
  unfolding record_bytes contents record_end start_of rows
  nine-read =
      let s = fields_bytes rows cs in
      let r = fields-read s [] rows cs 0 (omega arith) w (sym (append-nil s)) in
      (r.0 ∙ ap Some (zero-add (length s)), r.1)

  -- the record of nine contents within their rows has the right shape, and these contents
  pub parts-record : (well_shaped (record_bytes cs) ≡ true) × ((k : ℕ) → k < 9 → content_of (record_bytes cs) k ≡ get_or cs k [])
  parts-record = (
    end-shaped (record_bytes cs) nine-read.0,
    λ k h. sym (contents-at (record_bytes cs) k h) ∙ ap (λ l. get_or l k []) nine-read.1,
  )

-- ---- contents within their rows

-- those of no rows, and of one row more
pub within_none : Within [] []
within_none = record { count = refl; least = λ k h. absurd (omega arith); greatest = λ k h. absurd (omega arith) }

pub within_cons : (r : Row) (rs : List Row) (c : List ℕ) (cs : List (List ℕ)) → r.least ≤ length c → length c ≤ r.greatest → Within rs cs →
    Within (r ∷ rs) (c ∷ cs)
within_cons r rs c cs l g w = record { count = ap suc w.count; least = low; greatest = high }
  where
    low : (k : ℕ) → k < suc (length rs) → (get_or (r ∷ rs) k (field_row 0 0 0)).least ≤ length (get_or (c ∷ cs) k [])
    low zero h = l
    low (suc k) h = w.least k (omega arith)

    high : (k : ℕ) → k < suc (length rs) → length (get_or (c ∷ cs) k []) ≤ (get_or (r ∷ rs) k (field_row 0 0 0)).greatest
    high zero h = g
    high (suc k) h = w.greatest k (omega arith)

-- ---- lengths

fields-length : (rs : List Row) (cs : List (List ℕ)) → length cs ≡ length rs → length (fields_bytes rs cs) ≡ 3 * length rs + length (concat cs)
unfolding fields_bytes concat
fields-length [] [] e = refl
fields-length [] (c ∷ cs) e = absurd (omega arith)
fields-length (r ∷ rs) [] e = absurd (omega arith)
fields-length (r ∷ rs) (c ∷ cs) e =
    omega (arith, field-length r.tag c (fields_bytes rs cs), fields-length rs cs (omega arith), length-append c (concat cs))

-- nine heads of three bytes, and the contents
pub record-length : (cs : List (List ℕ)) → length cs ≡ 9 → length (record_bytes cs) ≡ 27 + length (concat cs)
unfolding record_bytes rows
record-length cs e = fields-length rows cs e

-- ---- bytes

pub record EachBytes (cs : List (List ℕ)) : Type 0 where
  pub each : (k : ℕ) → AllBytes (get_or cs k [])

pub each_none : EachBytes []
each_none = record { each = λ k. none_more }

pub each_more : {c : List ℕ} {cs : List (List ℕ)} → AllBytes c → EachBytes cs → EachBytes (c ∷ cs)
each_more {c} {cs} b e = record { each = go }
  where
    go : (k : ℕ) → AllBytes (get_or (c ∷ cs) k [])
    go zero = b
    go (suc k) = e.each k

field-are : (tag : ℕ) (c : List ℕ) → tag < 256 → AllBytes c → AllBytes (field_bytes tag c)
unfolding field_bytes
field-are tag c h b = one_more h (both (little_bytes 2 (length c)) (little-below 2 (length c)) b)

fields-are : (rs : List Row) (cs : List (List ℕ)) → list_all (λ (r : Row). ltb r.tag 256) rs ≡ true → EachBytes cs →
    AllBytes (fields_bytes rs cs)
unfolding fields_bytes
fields-are [] cs t b = none_more
fields-are (r ∷ rs) [] t b = none_more
fields-are (r ∷ rs) (c ∷ cs) t b =
    both (field_bytes r.tag c) (field-are r.tag c (ltb-true r.tag 256 (and_left (ltb r.tag 256) _ t)) (b.each 0))
    (fields-are rs cs (and_right (ltb r.tag 256) _ t) (record { each = λ k. b.each (suc k) }))

-- the record of contents that are bytes is bytes
pub record-are : (cs : List (List ℕ)) → EachBytes cs → AllBytes (record_bytes cs)
unfolding record_bytes rows
record-are cs b = fields-are rows cs refl b
