-- Laws of a record in which the content of one field is replaced by another as long: the other fields stay, and where they stand.
use Rattle.std.specs.Prelude.{Some}
use Prim.Native.Nat.{ℕ, zero, suc, ◌+◌, ◌-◌, ◌≤◌, ◌<◌}
use native.Mathlib.Nat.{add-zero, add-suc}
use native.Mathlib.Numerals.{add-one}
use native.Mathlib.Omega.{arith}
use native.Mathlib.Decide.{dec_lt}
use mathlib.Core.Path.{◌≡◌, refl, ap, sym, ◌∙◌}
use mathlib.Core.Logic.{◌⊎◌, inl, inr}
use mathlib.Core.Bool.{true}
use mathlib.Core.List.{List}
use lib.ListN.{length, get_or, drop}
use borrow.Author.Tests.{le-leb}
use Rattle.base.proofs.Bool.{pick_true}
use Rattle.parts.specs.Bytes.{bytes_at, little, little_at, put_at}
use Rattle.parts.proofs.Laws.{little-one}
use Rattle.write.proofs.Laws.{put_length, put_read, put-apart}
use Rattle.record.specs.Record.{length_at, next_at, content_at, field_ok, end_from, start_of, content_of, rows, row_of, well_shaped}
use Rattle.record.proofs.Laws.{Fitting, field, field-last, end-shaped, end-start, end_step, end-last, start-next, start-within, start_first, start_last}

-- ---- the content of field k of a record

module _ (s : List ℕ) (w : well_shaped s ≡ true) where
  start-rises : (j d : ℕ) → j + d ≤ 9 → start_of s j ≤ start_of s (j + d)
  start-rises j zero h = omega (arith, ap (start_of s) (add-zero j))
  start-rises j (suc d) h =
      let f = field s w (j + d) (omega arith) in
      omega (arith, f.next, start-next s (j + d), start-rises j d (omega arith), ap (start_of s) (add-suc j d ∙ sym (add-one (j + d))))

module _ (s : List ℕ) (w : well_shaped s ≡ true) (k : ℕ) (b : k < 9) (c : List ℕ) (same : length c ≡ length (content_of s k)) where
  abbrev pub replaced : List ℕ
  replaced = put_at s (start_of s k + 3) c

  -- the content lies between its head and the next field
  pub replaced-ends : start_of s k + 3 + length c ≡ start_of s (k + 1)
  unfolding content_of
  replaced-ends = let f = field s w k b in omega (arith, f.next, f.content, start-next s k)

  pub replaced-room : start_of s k + 3 + length c ≤ length s
  replaced-room = omega (arith, replaced-ends, start-within s (k + 1))

  pub replaced-length : length replaced ≡ length s
  replaced-length = put_length s (start_of s k + 3) c replaced-room

  apart : (n i : ℕ) → (i + n ≤ start_of s k + 3) ⊎ (start_of s (k + 1) ≤ i) → bytes_at n replaced i ≡ bytes_at n s i
  apart n i (inl h) = put-apart s (start_of s k + 3) c replaced-room n i (inl h)
  apart n i (inr h) = put-apart s (start_of s k + 3) c replaced-room n i (inr (omega (arith, replaced-ends)))

  -- the three bytes of a field's head
  head-apart : (j : ℕ) → j ≤ 9 → (start_of s j + 3 ≤ start_of s k + 3) ⊎ (start_of s (k + 1) ≤ start_of s j)
  head-apart j h = elim (dec_lt k j) [
    | yes g ↦ (let e : k + 1 + (j - (k + 1)) ≡ j = omega arith in inr (omega (arith, ap (start_of s) e, start-rises s w (k + 1) (j - (k + 1)) (omega arith))))
    | no g ↦ (let e : j + (k - j) ≡ k = omega arith in inl (omega (arith, ap (start_of s) e, start-rises s w j (k - j) (omega arith))))
  ]

  part-kept : (n i j : ℕ) → j ≤ 9 → start_of s j ≤ i → i + n ≤ start_of s j + 3 → bytes_at n replaced i ≡ bytes_at n s i
  part-kept n i j h g l = go (head-apart j h)
    where
      go : (start_of s j + 3 ≤ start_of s k + 3) ⊎ (start_of s (k + 1) ≤ start_of s j) → bytes_at n replaced i ≡ bytes_at n s i
      go (inl p) = apart n i (inl (omega arith))
      go (inr p) = apart n i (inr (omega arith))

  module _ (j : ℕ) (h : j < 9) where
    f : Fitting (row_of j) s (start_of s j)
    f = field s w j h

    tag-kept : get_or replaced (start_of s j) 0 ≡ get_or s (start_of s j) 0
    unfolding little_at
    tag-kept =
        sym (little-one replaced (start_of s j) (omega (arith, f.head, replaced-length)))
        ∙ (ap little (part-kept 1 (start_of s j) j (omega arith) (omega arith) (omega arith)) ∙ little-one s (start_of s j) (omega (arith, f.head)))

    length-kept : length_at replaced (start_of s j) ≡ length_at s (start_of s j)
    unfolding little_at
    length-kept = ap little (part-kept 2 (start_of s j + 1) j (omega arith) (omega arith) (omega arith))

    next-kept : next_at replaced (start_of s j) ≡ next_at s (start_of s j)
    unfolding next_at
    next-kept = rw (length-kept, replaced-length) refl

    ok-kept : field_ok (row_of j) replaced (start_of s j) ≡ true
    ok-kept =
        field-last (row_of j) replaced (start_of s j) (omega (arith, f.head, replaced-length)) (tag-kept ∙ f.tag) (omega (arith, length-kept, f.least))
        (omega (arith, length-kept, f.greatest))
        ∙ le-leb (start_of s j + 3 + length_at replaced (start_of s j)) (length replaced) (omega (arith, length-kept, replaced-length, f.end))

  -- the fields stand where they stood
  pub replaced-start : (j : ℕ) → j ≤ 9 → start_of replaced j ≡ start_of s j
  unfolding start_of
  replaced-start zero h = refl
  replaced-start (suc j) h = ap (next_at replaced) (replaced-start j (omega arith)) ∙ next-kept j (omega arith)

  ends-kept : (d j : ℕ) → j + d ≡ 9 → end_from (drop j rows) replaced (start_of s j) ≡ Some (length s)
  ends-kept zero j e =
      let nine : j ≡ 9 = omega arith in
      rw nine (end-last replaced (start_of s 9) ∙ ap Some (start_last s w))
  ends-kept (suc d) j e =
      let h : j < 9 = omega arith in
      end_step replaced (start_of s j) j h
      ∙ (pick_true (field_ok (row_of j) replaced (start_of s j)) _ _ (ok-kept j h)
      ∙ (ap (end_from (drop (suc j) rows) replaced) (next-kept j h ∙ (sym (start-next s j) ∙ ap (start_of s) (add-one j))) ∙ ends-kept d (suc j) (omega arith)))

  pub replaced-shaped : well_shaped replaced ≡ true
  replaced-shaped =
      end-shaped replaced (end-start replaced ∙ (ap (end_from (drop 0 rows) replaced) (sym (start_first s)) ∙ (ends-kept 9 0 refl ∙ ap Some (sym replaced-length))))

  -- the content is the new one
  pub replaced-here : content_of replaced k ≡ c
  unfolding content_of content_at
  replaced-here =
      let n : next_at s (start_of s k) - (start_of s k + 3) ≡ length c = omega (arith, replaced-ends, start-next s k) in
      ap (λ i. bytes_at (next_at replaced i - (i + 3)) replaced (i + 3)) (replaced-start k (omega arith))
      ∙ (ap (λ i. bytes_at (i - (start_of s k + 3)) replaced (start_of s k + 3)) (next-kept k b)
      ∙ put_read s (start_of s k + 3) c _ (sym n) (omega (arith, replaced-room)))

  -- and those of the other fields are as they were
  pub replaced-other : (j : ℕ) → j < 9 → (j ≡ k → ⊥) → content_of replaced j ≡ content_of s j
  unfolding content_of content_at
  replaced-other j h d =
      let f = field s w j h in
      let n : next_at s (start_of s j) ≡ start_of s (j + 1) = sym (start-next s j) in
      ap (λ i. bytes_at (next_at replaced i - (i + 3)) replaced (i + 3)) (replaced-start j (omega arith))
      ∙ (ap (λ i. bytes_at (i - (start_of s j + 3)) replaced (start_of s j + 3)) (next-kept j h)
      ∙ apart (next_at s (start_of s j) - (start_of s j + 3)) (start_of s j + 3) (elim (dec_lt k j) [
        | yes g ↦ (let e : k + 1 + (j - (k + 1)) ≡ j = omega arith in inr (omega (arith, ap (start_of s) e, start-rises s w (k + 1) (j - (k + 1)) (omega arith))))
        | no g ↦ (
            let l : j < k = omega (arith, d) in
            let e : j + 1 + (k - (j + 1)) ≡ k = omega arith in
            inl (omega (arith, f.next, n, ap (start_of s) e, start-rises s w (j + 1) (k - (j + 1)) (omega arith)))
            )
      ]))
