-- What a certificate covers, depth by depth.
use Rattle.std.specs.Prelude.{None, Some}
use Prim.Native.Nat.{ℕ, zero, suc, ◌+◌, ◌-◌, ◌≤◌, ◌<◌}
use native.Mathlib.Omega.{arith}
use native.Mathlib.Decide.{dec_lt, ℕ_discrete}
use mathlib.Core.Path.{◌≡◌, refl, ap, sym, ◌∙◌}
use mathlib.Core.Logic.{◌⊎◌, inl, inr}
use mathlib.Core.Bool.{Bool, true, false, ◌&&◌}
use mathlib.Core.List.{List, [], ◌∷◌, Memᴰ}
use lib.ListN.{get_or, drop}
use lib.Seq.{drop-nil}
use lib.Dec.{leb}
use borrow.Author.Tests.{le-leb}
use Rattle.base.proofs.Bool.{never, clash, and_left, and_right, and_both, or_first, or_second, or_cases}
use Rattle.base.proofs.Impossible.{impossible}
use Rattle.base.proofs.Option.{none-some}
use Rattle.map.specs.Rows.{Pair}
use Rattle.point.specs.Point.{PointId, same_id}
use Rattle.point.proofs.Ids.{same_fields, same_sym}
use Rattle.schedule.specs.Settings.{Settings}
use Rattle.rules.specs.Mismatch.{pair_id, is_among}
use Rattle.id_index.specs.declared.Index.{Index}
use Rattle.id_index.specs.Code.{count_of, id_in}
use Rattle.books.specs.Kept.{Kept, Book, find_kept}
use Rattle.books.specs.Spread.{has_deps, covers}
use Rattle.books.specs.FoundBook.{LeadsTo, there, down}
use Rattle.books.proofs.Find.{once-found}
use Rattle.books.proofs.Shape.{Shape}
use Rattle.books.proofs.Spread.{kept-least, leads-below, covers-leads}
use Rattle.books.proofs.Walk.{any_kept, is_dependency, covers-by_rounds}
use Rattle.book_certify.specs.declared.Walk.{Walk}
use Rattle.book_certify.specs.declared.spread.Deps.{Deps}
use Rattle.book_certify.specs.declared.spread.Deps.TheVariants.{Includes, Witness}
use Rattle.book_certify.specs.Code.{book_in, rounds_of, map_back, passes, Reached, Grown, Adds, is_covered, Sound, Done, Passed, DepthReached}
use Rattle.book_certify.proofs.Adds.{grown_then, only_one}
use Rattle.book_certify.proofs.Entries.{one_or_two, Stands, numbered, member, entry-id}

among-round : (round : ℕ) (l : List Pair) (i : PointId) → is_among round l i ≡ true → i.round ≡ round
unfolding is_among
among-round round [] i h = impossible (cc)
among-round round (q ∷ l) i h = go (among-round round l i) (or_cases (same_id (pair_id round q) i) (is_among round l i) h)
  where
    go : (is_among round l i ≡ true → i.round ≡ round) → (same_id (pair_id round q) i ≡ true) ⊎ (is_among round l i ≡ true) → i.round ≡ round
    go rec (inl e) = sym (same_fields (pair_id round q) i e).0
    go rec (inr e) = rec e

-- ---- a test that holds of an entry

module _ (test : Kept → Bool) where
  any_at : (b : Book) → any_kept test b ≡ true → (j : ℕ) × (k : Kept) × (rest : Book) × (drop j b ≡ k ∷ rest) × (test k ≡ true)
  any_at [] h = impossible (cc)
  any_at (y ∷ b) h = go (any_at b) (or_cases (test y) (any_kept test b) h)
    where
      go : (any_kept test b ≡ true → (j : ℕ) × (k : Kept) × (rest : Book) × (drop j b ≡ k ∷ rest) × (test k ≡ true)) →
          (test y ≡ true) ⊎ (any_kept test b ≡ true) → (j : ℕ) × (k : Kept) × (rest : Book) × (drop j (y ∷ b) ≡ k ∷ rest) × (test k ≡ true)
      go rec (inl t) = (zero, y, b, refl, t)
      go rec (inr t) = let r = rec t in (suc r.0, r.1, r.2, r.3, r.4)

  at-any : (b : Book) (j : ℕ) (k : Kept) (rest : Book) → drop j b ≡ k ∷ rest → test k ≡ true → any_kept test b ≡ true
  at-any [] j k rest e t = impossible (cc (drop-nil {A = Kept} j))
  at-any (y ∷ b) zero k rest e t = let f : y ≡ k = cc in or_first (test y) (any_kept test b) (ap test f ∙ t)
  at-any (y ∷ b) (suc j) k rest e t = or_second (test y) (any_kept test b) (at-any b j k rest e t)

-- ---- who passes a mark on

module _ (c : Settings) (k : Kept) where
  passed-deps : (deps : Deps) (i : PointId) → passes c k deps i ≡ true → has_deps c k ≡ true
  passed-deps deps i p = and_left (has_deps c k) _ p

  passed-round : (deps : Deps) (i : PointId) → passes c k deps i ≡ true → i.round ≡ k.point.id.round - rounds_of deps
  passed-round deps i p = among-round (k.point.id.round - rounds_of deps) (map_back deps k.point) i (and_right (has_deps c k) _ p)

  passed_to : (deps : Deps) (i : PointId) → passes c k deps i ≡ true → is_dependency k.point i ≡ true
  passed_to Includes i p = or_first (is_among (k.point.id.round - 1) k.point.includes i) _ (and_right (has_deps c k) _ p)
  passed_to Witness i p = or_second (is_among (k.point.id.round - 1) k.point.includes i) _ (and_right (has_deps c k) _ p)

-- an entry that passes its mark on to an id, covered itself
record Giver (c : Settings) (s : List ℕ) (t i : PointId) : Type 0 where
  number : ℕ
  kept : Kept
  rest : Book
  there : drop number (book_in s) ≡ kept ∷ rest
  deps : has_deps c kept ≡ true
  names : is_dependency kept.point i ≡ true
  covered : covers c (book_in s) (Some t) kept.point.id ≡ true

module _ (c : Settings) {s : List ℕ} {end : ℕ} {x : Index} (h : Stands s end x (book_in s)) (t : PointId) where
  -- ---- the rule, forth and back

  covered-by : (i : PointId) → covers c (book_in s) (Some t) i ≡ true → (same_id t i ≡ true) ⊎ Giver c s t i
  covered-by i e =
      go (or_cases (same_id t i) _ (and_right (leb t.round (i.round + c.commit_history_rounds)) _ (sym (covers-by_rounds c (book_in s) h.shape t i) ∙ e)))
    where
      go : (same_id t i ≡ true) ⊎ (any_kept (λ k. has_deps c k && (is_dependency k.point i && covers c (book_in s) (Some t) k.point.id)) (book_in s) ≡ true) →
          (same_id t i ≡ true) ⊎ Giver c s t i
      go (inl f) = inl f
      go (inr f) =
          let r = any_at (λ k. has_deps c k && (is_dependency k.point i && covers c (book_in s) (Some t) k.point.id)) (book_in s) f in
          let k = r.1 in
          let d = and_right (has_deps c k) _ r.4 in
          inr (record {
            number = r.0;
            kept = k;
            rest = r.2;
            there = r.3;
            deps = and_left (has_deps c k) _ r.4;
            names = and_left (is_dependency k.point i) _ d;
            covered = and_right (is_dependency k.point i) _ d;
          })

  covered_self : (i : PointId) → same_id t i ≡ true → covers c (book_in s) (Some t) i ≡ true
  covered_self i e =
      covers-by_rounds c (book_in s) h.shape t i
      ∙ and_both (leb t.round (i.round + c.commit_history_rounds)) _ (le-leb t.round (i.round + c.commit_history_rounds) (omega (arith, (same_fields t i e).0))) (or_first (same_id t i) _ e)

  covered-from : (i : PointId) → Giver c s t i → t.round ≤ i.round + c.commit_history_rounds → covers c (book_in s) (Some t) i ≡ true
  covered-from i g under =
      covers-by_rounds c (book_in s) h.shape t i
      ∙ and_both (leb t.round (i.round + c.commit_history_rounds)) _ (le-leb _ _ under)
      (or_second (same_id t i) _
      (at-any (λ k. has_deps c k && (is_dependency k.point i && covers c (book_in s) (Some t) k.point.id)) (book_in s) g.number g.kept g.rest g.there
      (and_both (has_deps c g.kept) _ g.deps (and_both (is_dependency g.kept.point i) _ g.names g.covered))))

  below : (i : PointId) → covers c (book_in s) (Some t) i ≡ true → i.round ≤ t.round
  below i e = leads-below c (book_in s) h.shape i t (covers-leads c (book_in s) h.shape i t e).0

  -- ---- what is reached is covered

  module _ (depth : ℕ) (deps : Deps) (deep : depth ≤ c.commit_history_rounds) {w v : Walk} (j : ℕ) (k : Kept) (rest : Book) (e : drop j (book_in s) ≡ k ∷ rest)
      (at : k.point.id.round + depth ≡ t.round + rounds_of deps) (a : Adds s x (λ i. get_or w.reached j false && passes c k deps i) w v) where
    pub sound_more : Sound c s x t w → Sound c s x t v
    sound_more sound i lt r = go (a.only i lt r)
      where
        go : Reached w i ⊎ ((get_or w.reached j false && passes c k deps (id_in s x i)) ≡ true) → is_covered c s x t i ≡ true
        go (inl f) = sound i lt f
        go (inr f) =
            let p = and_right (get_or w.reached j false) _ f in
            let q = sound j (numbered h j k rest e) (and_left (get_or w.reached j false) _ f) in
            covered-from (id_in s x i)
            (record {
              number = j;
              kept = k;
              rest = rest;
              there = e;
              deps = passed-deps c k deps (id_in s x i) p;
              names = passed_to c k deps (id_in s x i) p;
              covered = rw (entry-id h j k rest e) at q;
            })
            (omega (arith, passed-round c k deps (id_in s x i) p, kept-least c (book_in s) h.shape k (member h j k rest e), one_or_two deps))

  -- ---- what is covered is reached

  -- what the entries above a depth pass their marks on to by a map is reached
  abbrev TakenFrom : ℕ → Deps → Walk → Walk → Type 0
  TakenFrom depth deps w v =
      (j : ℕ) (k : Kept) (rest : Book) → drop j (book_in s) ≡ k ∷ rest → k.point.id.round + depth ≡ t.round + rounds_of deps → Reached w j →
      (i : ℕ) → i < count_of x → passes c k deps (id_in s x i) ≡ true → Reached v i

  module _ (depth : ℕ) (some-deep : 1 ≤ depth) {w v : Walk} (g : Grown w v) (one : TakenFrom depth Includes w v) (two : 2 ≤ depth → TakenFrom depth Witness w v) (done : Done c s x t depth w) where
    given-reached : (j : ℕ) → j < count_of x → (id_in s x j).round + depth ≡ t.round → Giver c s t (id_in s x j) → Reached v j
    given-reached j lt at f = go (or_cases (is_among (k.point.id.round - 1) k.point.includes (id_in s x j)) _ f.names)
      where
        k : Kept
        k = f.kept

        id-at : id_in s x f.number ≡ k.point.id
        id-at = entry-id h f.number k f.rest f.there

        four : 4 ≤ k.point.id.round
        four = kept-least c (book_in s) h.shape k (member h f.number k f.rest f.there)

        reached : t.round < k.point.id.round + depth → Reached w f.number
        reached under = done f.number (numbered h f.number k f.rest f.there) (rw id-at under) (rw id-at f.covered)

        go : (is_among (k.point.id.round - 1) k.point.includes (id_in s x j) ≡ true)
            ⊎ (is_among (k.point.id.round - 2) k.point.witness (id_in s x j) ≡ true) → Reached v j
        go (inl a) =
            let r = among-round (k.point.id.round - 1) k.point.includes (id_in s x j) a in
            let up : k.point.id.round + depth ≡ t.round + 1 = omega (arith, four) in
            one f.number k f.rest f.there up (reached (omega arith)) j lt (and_both (has_deps c k) _ f.deps a)
        go (inr a) =
            let r = among-round (k.point.id.round - 2) k.point.witness (id_in s x j) a in
            let up : k.point.id.round + depth ≡ t.round + 2 = omega (arith, four) in
            two (omega (arith, below k.point.id f.covered)) f.number k f.rest f.there up (reached (omega arith)) j lt (and_both (has_deps c k) _ f.deps a)

    pub done_more : Done c s x t (depth + 1) v
    done_more j lt under e = elim (dec_lt t.round ((id_in s x j).round + depth)) [
      | yes f ↦ g.kept j (done j lt f e)
      | no f ↦ at-depth (omega arith) (covered-by (id_in s x j) e)
    ]
      where
        at-depth : (id_in s x j).round + depth ≡ t.round → (same_id t (id_in s x j) ≡ true) ⊎ Giver c s t (id_in s x j) → Reached v j
        at-depth at (inl f) = absurd (omega (arith, (same_fields t (id_in s x j) f).0))
        at-depth at (inr f) = given-reached j lt at f

  -- ---- one depth, in one pass or in two

  -- where all of the depth is reached, nothing is left to pass on
  pub full-taken : (depth : ℕ) (deps : Deps) (w v : Walk) → ((i : ℕ) → i < count_of x → (id_in s x i).round + depth ≡ t.round → Reached v i) → TakenFrom depth deps w v
  full-taken depth deps w v full j k rest e at r i lt p =
      full i lt (omega (arith, passed-round c k deps (id_in s x i) p, kept-least c (book_in s) h.shape k (member h j k rest e), one_or_two deps))

  module _ (depth : ℕ) (some-deep : 1 ≤ depth) {w v : Walk} where
    pub reached-first : {r : Bool} → depth < 2 → Passed c s x t depth Includes w v r → DepthReached c s x t depth w v
    reached-first m p =
        record { grown = p.grown; sound = p.sound; done = λ d. done_more depth some-deep p.grown p.taken (λ n. absurd (omega arith)) d }

  pub reached-both : (depth : ℕ) → 1 ≤ depth → {u v w : Walk} {q r : Bool} → Passed c s x t depth Includes u v q → Passed c s x t depth Witness v w r → DepthReached c s x t depth u w
  reached-both depth some-deep p q =
      let g = grown_then p.grown q.grown in
      record {
        grown = g;
        sound = λ f. q.sound (p.sound f);
        done = λ d. done_more depth some-deep g
            (λ j k rest e at r i lt a. q.grown.kept i (p.taken j k rest e at r i lt a))
            (λ m j k rest e at r. q.taken j k rest e at (p.grown.kept j r)) d;
      }

  -- ---- the first entry and the last depth

  module _ (first : ℕ) (lt : first < count_of x) (same : same_id (id_in s x first) t ≡ true) where
    is-first : (j : ℕ) → j < count_of x → same_id t (id_in s x j) ≡ true → j ≡ first
    is-first = only_one {x = x} h.once t first (record { within = lt; same = same })

    pub first-sound : (w : Walk) → ((j : ℕ) → j < count_of x → (j ≡ first → ⊥) → get_or w.reached j false ≡ false) → Sound c s x t w
    first-sound w others j g r = elim (ℕ_discrete j first) [
      | yes e ↦ rw e (covered_self (id_in s x first) (same_sym t (id_in s x first) ∙ same))
      | no d ↦ clash (get_or w.reached j false) r (others j g d)
    ]

    pub first_done : (w : Walk) → Reached w first → Done c s x t 1 w
    first_done w r j g under e = go (covered-by (id_in s x j) e)
      where
        go : (same_id t (id_in s x j) ≡ true) ⊎ Giver c s t (id_in s x j) → Reached w j
        go (inl f) = rw (is-first j g f) r
        go (inr f) = absurd (higher (or_cases (is_among (f.kept.point.id.round - 1) f.kept.point.includes (id_in s x j)) _ f.names))
          where
            four : 4 ≤ f.kept.point.id.round
            four = kept-least c (book_in s) h.shape f.kept (member h f.number f.kept f.rest f.there)

            higher : (is_among (f.kept.point.id.round - 1) f.kept.point.includes (id_in s x j) ≡ true)
                ⊎ (is_among (f.kept.point.id.round - 2) f.kept.point.witness (id_in s x j) ≡ true) → ⊥
            higher (inl a) = omega (arith, four, below f.kept.point.id f.covered, among-round (f.kept.point.id.round - 1) f.kept.point.includes (id_in s x j) a)
            higher (inr a) = omega (arith, four, below f.kept.point.id f.covered, among-round (f.kept.point.id.round - 2) f.kept.point.witness (id_in s x j) a)

  pub all_done : (w : Walk) (n : ℕ) → c.commit_history_rounds < n → Done c s x t n w → (j : ℕ) → j < count_of x → is_covered c s x t j ≡ true → Reached w j
  all_done w n deep d j lt e = d j lt (omega (arith, (covers-leads c (book_in s) h.shape (id_in s x j) t e).1)) e

-- ---- nothing is covered where the previous point is not kept

module _ (c : Settings) (b : Book) (h : Shape b) (i : PointId) (k : Kept) (m : Memᴰ k b) (e : k.point.id ≡ i) where
  no_chain : (t : PointId) → LeadsTo c b i t → find_kept b t ≡ None → ⊥
  no_chain t there f = none-some (sym f ∙ (ap (find_kept b) (sym e) ∙ once-found b h.once k m))
  no_chain t (down y p j w d l) f = none-some (sym f ∙ once-found b h.once y p.0)

pub not_kept : (c : Settings) (b : Book) → Shape b → (t : PointId) → find_kept b t ≡ None → (k : Kept) → Memᴰ k b → covers c b (Some t) k.point.id ≡ false
not_kept c b h t f k m =
    never (covers c b (Some t) k.point.id) (λ e. no_chain c b h k.point.id k m refl t (covers-leads c b h k.point.id t e).0 f)
