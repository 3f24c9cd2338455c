-- Laws of links that are tested and not read: whether a direct one names a peer of its map.
use Rattle.std.specs.Prelude.{None, Some, is_some}
use Prim.Native.Nat.{ℕ, ◌≤◌}
use native.Mathlib.Omega.{arith}
use mathlib.Core.Path.{◌≡◌, refl, ap, ◌∙◌}
use mathlib.Core.Bool.{Bool, true, false, ◌&&◌}
use mathlib.Core.List.{List}
use lib.ListN.{length, get_or}
use lib.Dec.{eqb}
use borrow.Author.Tests.{eq-eqb, ne_eqb}
use Rattle.base.specs.Base.{pick}
use Rattle.base.proofs.Bool.{clash, last-false}
use Rattle.base.proofs.Option.{picked, and_then_lem, none-some, some_of}
use Rattle.parts.specs.Bytes.{id_at}
use Rattle.map.specs.Rows.{Pair, pairs_of, peers_of, rising, find}
use Rattle.map.proofs.Laws.{peers-pairs_of, peers-length, find-get}
use Rattle.point.specs.Point.{PointId, Through, Includes, Witness, AnchorLink, Direct, Indirect, PointInfo, digest_safe}
use Rattle.point.specs.Reading.{point_id_at, read_through, read_link, read_point}
use Rattle.point.proofs.Laws.{MapOf, readable, parts-of}
use Rattle.record.specs.Record.{rows, row_of, content_of, well_shaped}
use Rattle.record.proofs.Laws.{content-least}
use Rattle.rules.specs.List.{is_named}

pub map-rises : (s : List ℕ) (l : List Pair) → MapOf s l → rising (peers_of 64 s) ≡ true
map-rises s l m = rw (← peers-pairs_of s, ← m.are) m.rise

pub map-few : (s : List ℕ) (l : List Pair) → MapOf s l → length (peers_of 64 s) ≤ 255
map-few s l m = rw (← peers-pairs_of s, ← m.are) (omega (arith, peers-length l, m.few))

chosen : (a b : Bool) (t : Through) (x : PointId) (l : AnchorLink) → pick a (Some (Direct t)) (pick b (Some (Indirect x t)) None) ≡ Some l →
    (a ≡ false → l ≡ Indirect x t) × (b ≡ false → l ≡ Direct t)
chosen true b t x l h = (λ f. clash true refl f, λ f. cc)
chosen false true t x l h = (λ f. cc, λ f. clash true refl f)
chosen false false t x l h = none-some h

module _ (link : List ℕ) (l : AnchorLink) (h : read_link link ≡ Some l) where
  -- what a link that was read goes through, and its kind
  link-parts : (t : Through) × ((read_through link ≡ Some t) × ((get_or link 0 0 ≡ 1 → l ≡ Indirect (point_id_at link 34) t) × ((get_or link 0 0 ≡ 1 → ⊥) → l ≡ Direct t)))
  unfolding read_link
  link-parts =
      let p = and_then_lem (read_through link) _ l h in
      let c = chosen (eqb (length link) 34 && eqb (get_or link 0 0) 0) (eqb (length link) 102 && eqb (get_or link 0 0) 1) p.0 (point_id_at link 34) l p.2 in
      (p.0, (p.1, (λ k. c.0 (last-false (eqb (length link) 34) _ (rw k)), λ d. c.1 (last-false (eqb (length link) 102) _ (ne_eqb (get_or link 0 0) 1 d)))))

  module _ (q : PointInfo) where
    pub indirect_named : get_or link 0 0 ≡ 1 → is_named q l ≡ true
    indirect_named k = let p = link-parts in rw (p.1.1.0 k)

    module _ (d : get_or link 0 0 ≡ 1 → ⊥) (s : List ℕ) where
      pub includes-named : q.includes ≡ pairs_of s → get_or link 1 0 ≡ 0 → is_some (find (peers_of 64 s) (id_at link 2)) ≡ is_named q l
      unfolding read_through digest_safe
      includes-named e z =
          let p = link-parts in
          let t : p.0 ≡ Includes (id_at link 2) = let f = rw (eq-eqb (get_or link 1 0) 0 z) at p.1.0 in cc in
          rw (p.1.1.1 d, t, e, ← peers-pairs_of s) (find-get (pairs_of s) (id_at link 2))

      pub witness-named : q.witness ≡ pairs_of s → (get_or link 1 0 ≡ 0 → ⊥) → is_some (find (peers_of 64 s) (id_at link 2)) ≡ is_named q l
      unfolding read_through digest_safe
      witness-named e z =
          let p = link-parts in
          let f = (picked (eqb (get_or link 1 0) 1) (Some (Witness (id_at link 2))) p.0 (rw (ne_eqb (get_or link 1 0) 0 z) at p.1.0)).1 in
          let t : p.0 ≡ Witness (id_at link 2) = cc in
          rw (p.1.1.1 d, t, e, ← peers-pairs_of s) (find-get (pairs_of s) (id_at link 2))

-- ---- the links of a record that is read

module _ (s : List ℕ) (h : is_some (read_point s) ≡ true) where
  pub shaped : well_shaped s ≡ true
  shaped = let q = some_of (read_point s) h in (readable _ q.0 q.1).shaped

  module _ (r : List ℕ) where
    pub proof_long : r ≡ content_of s 5 → 34 ≤ length r
    unfolding row_of rows
    proof_long e = rw e (content-least _ shaped 5 (omega arith))

    pub trigger_long : r ≡ content_of s 6 → 34 ≤ length r
    unfolding row_of rows
    trigger_long e = rw e (content-least _ shaped 6 (omega arith))

module _ (s : List ℕ) (q : PointInfo) (h : read_point s ≡ Some q) (r : List ℕ) where
  pub proof_read : r ≡ content_of s 5 → read_link r ≡ Some q.anchor_proof
  proof_read e = ap read_link e ∙ (parts-of _ q h).proof

  pub trigger_read : r ≡ content_of s 6 → read_link r ≡ Some q.anchor_trigger
  trigger_read e = ap read_link e ∙ (parts-of _ q h).trigger

-- the links of a record that was read
pub ruleset links_read = (shaped, proof_long, trigger_long, proof_read, trigger_read)
