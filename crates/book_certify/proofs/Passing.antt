-- One pass over a depth: what the entries above it pass their marks on to.
use Prim.Native.Nat.{ℕ, ◌+◌, ◌-◌, ◌≤◌, ◌<◌}
use native.Mathlib.Omega.{arith}
use mathlib.Core.Path.{◌≡◌, refl, ap, sym, ◌∙◌}
use mathlib.Core.Bool.{Bool, true, false, ◌&&◌}
use mathlib.Core.List.{List, ◌∷◌}
use lib.ListN.{get_or, drop}
use Rattle.base.proofs.Bool.{clash, and_both}
use Rattle.map.specs.Rows.{Pair, pairs_of}
use Rattle.point.specs.Point.{PointId}
use Rattle.schedule.specs.Settings.{Settings}
use Rattle.rules.specs.Mismatch.{is_among}
use Rattle.id_index.specs.declared.Index.{Index}
use Rattle.id_index.specs.Code.{count_of, place_in, id_in}
use Rattle.books.specs.Kept.{Kept, Book}
use Rattle.books.specs.Spread.{has_deps}
use Rattle.book_certify.specs.declared.Walk.{Walk}
use Rattle.book_certify.specs.declared.spread.Deps.{Deps}
use Rattle.book_certify.specs.Code.{book_in, rounds_of, map_back, rows_back, passes, DepsTold, Reached, Grown, Adds, Taken, Cursor, IsLast, Chained, Sound, Passed}
use Rattle.book_certify.proofs.Adds.{grown-same, grown_then, adds_as}
use Rattle.book_certify.proofs.Chains.{cursor_as, cursor_next, link-of, chained_grown}
use Rattle.book_certify.proofs.Entries.{Stands, entry_at, numbered, entry-id, entry-rows}
use Rattle.book_certify.proofs.Depths.{sound_more, full-taken}

-- ---- what one entry passes its mark on to

both_true : (a b m : Bool) → a ≡ true → b ≡ true → (a && (b && m)) ≡ m
both_true a b m h g = rw (h, g)

module _ (c : Settings) {s : List ℕ} {end : ℕ} {x : Index} (h : Stands s end x (book_in s)) (j : ℕ) (deps : Deps) (w : Walk) where
  module _ (r : Bool) (told : DepsTold c s j r) where
    pub taken-rows : r ≡ true → Reached w j → (rows : List ℕ) (v : Walk) (round : ℕ) → rows ≡ rows_back deps (drop (place_in x j) s) →
        round ≡ (id_in s x j).round - rounds_of deps → Adds s x (is_among round (pairs_of rows)) w v → Taken c s x j deps w v
    taken-rows f g rows v round er en a k rest e =
        let same : pairs_of rows ≡ map_back deps k.point = ap pairs_of er ∙ entry-rows h j k rest e deps in
        let down : round ≡ k.point.id.round - rounds_of deps = en ∙ ap (λ (y : PointId). y.round - rounds_of deps) (entry-id h j k rest e) in
        adds_as
        (λ i. ap (λ (l : List Pair). is_among round l i) same ∙ (ap (λ (n : ℕ). is_among n (map_back deps k.point) i) down
        ∙ sym (both_true (get_or w.reached j false) (has_deps c k) (is_among (k.point.id.round - rounds_of deps) (map_back deps k.point) i) g (sym (told k rest e) ∙ f)))) a

-- ---- one after the other

-- what entry j passes its mark on to, if it was reached in u, is reached in w
abbrev PassedOn : Settings → List ℕ → Index → Deps → Walk → Walk → ℕ → Type 0
PassedOn c s x deps u w j =
    (k : Kept) (rest : Book) → drop j (book_in s) ≡ k ∷ rest → Reached u j → (i : ℕ) → i < count_of x → passes c k deps (id_in s x i) ≡ true → Reached w i

-- the entries of the depth from `left` on are reached, and those above it from k on have passed their marks on
pub record Passing (c : Settings) (s : List ℕ) (x : Index) (t : PointId) (depth : ℕ) (deps : Deps) (u : Walk) (left k : ℕ) (w : Walk) : Type 0 where
  pub grown : Grown u w
  pub sound : Sound c s x t u → Sound c s x t w
  pub here : Cursor s x t.round depth (count_of x) (Reached w) left
  pub above : Cursor s x t.round (depth - rounds_of deps) (count_of x) (PassedOn c s x deps u w) k

module _ {c : Settings} {s : List ℕ} {end : ℕ} {x : Index} (h : Stands s end x (book_in s)) {t : PointId} {depth : ℕ} {deps : Deps}
    (high : rounds_of deps ≤ depth) (deep : depth ≤ c.commit_history_rounds)
    {u : Walk} (chained : Chained s x t.round c.commit_history_rounds (count_of x) u) where
  pub passing_start : Passing c s x t depth deps u (get_or u.heads depth 0) (get_or u.heads (depth - rounds_of deps) 0) u
  passing_start =
      record {
        grown = grown-same u;
        sound = λ f. f;
        here = cursor_as (λ j lt b. absurd b) (chained.last depth deep);
        above = cursor_as (λ j lt b. absurd b) (chained.last (depth - rounds_of deps) (omega arith));
      }

  module _ {left k : ℕ} {w : Walk} (p : Passing c s x t depth deps u left k w) where
    -- an entry of the depth that is reached
    module _ (i : ℕ) (this : left ≡ i + 1) where
      here-link : IsLast s x t.round depth i (get_or w.links i 0)
      here-link = link-of (chained_grown chained p.grown) p.here (omega arith) deep i this

      pub here-below : get_or w.links i 0 < left
      here-below = omega (arith, here-link.within)

      pub passing_past : Reached w i → Passing c s x t depth deps u (get_or w.links i 0) k w
      passing_past r = record { grown = p.grown; sound = p.sound; here = cursor_next p.here i this here-link r; above = p.above }

    -- an entry above it
    module _ (i : ℕ) (this : k ≡ i + 1) {v : Walk} (a : Taken c s x i deps w v) where
      lt : i < count_of x
      lt = omega (arith, p.above.within)

      abbrev kept : Kept
      kept = (entry_at h i lt).0

      abbrev rest : Book
      rest = (entry_at h i lt).1

      there : drop i (book_in s) ≡ kept ∷ rest
      there = (entry_at h i lt).2

      adds : Adds s x (λ j. get_or w.reached i false && passes c kept deps j) w v
      adds = a kept rest there

      grows : Grown u v
      grows = grown_then p.grown adds.grown

      at : kept.point.id.round + depth ≡ t.round + rounds_of deps
      at =
          let r : (id_in s x i).round ≡ kept.point.id.round = ap (λ (y : PointId). y.round) (entry-id h i kept rest there) in
          omega (arith, p.above.there i (omega arith), r)

      above-link : IsLast s x t.round (depth - rounds_of deps) i (get_or v.links i 0)
      above-link = link-of (chained_grown chained grows) p.above (omega arith) (omega arith) i this

      pub above-below : get_or v.links i 0 < k
      above-below = omega (arith, above-link.within)

      passed_here : PassedOn c s x deps u v i
      passed_here y q e r j g f = (a y q e).all j g (and_both (get_or w.reached i false) _ (p.grown.kept i r) f)

      pub passing_taken : Passing c s x t depth deps u left (get_or v.links i 0) v
      passing_taken =
          record {
            grown = grows;
            sound = λ f. sound_more c h t depth deps deep i kept rest there at adds (p.sound f);
            here = cursor_as (λ j g r. adds.grown.kept j r) p.here;
            above = cursor_next (cursor_as (λ j g f y q e r b d z. adds.grown.kept b (f y q e r b d z)) p.above) i this above-link passed_here;
          }

    -- no entry is left above it
    pub passed-all : k ≡ 0 → Passed c s x t depth deps u w false
    passed-all e =
        record {
          grown = p.grown;
          sound = p.sound;
          taken = λ j y rest there at r i lt f.
              let d : (id_in s x j).round ≡ y.point.id.round = ap (λ (z : PointId). z.round) (entry-id h j y rest there) in
              p.above.past j (omega arith) (numbered h j y rest there) (omega (arith, d)) y rest there r i lt f;
          full = λ f. clash false f refl;
        }

    -- all of the depth are reached
    pub passed-full : left ≡ 0 → Passed c s x t depth deps u w true
    passed-full e =
        let full : (i : ℕ) → i < count_of x → (id_in s x i).round + depth ≡ t.round → Reached w i = λ i lt at. p.here.past i (omega arith) lt at in
        record { grown = p.grown; sound = p.sound; taken = full-taken c h t depth deps u w full; full = λ f. full }
