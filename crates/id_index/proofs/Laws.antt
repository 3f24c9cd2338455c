-- Laws of an index of ids: an id is found only in the chain of its bucket, or between those below and above it, and what one more id
-- keeps.
use Rattle.std.specs.Prelude.{Err, Ok, Result}
use Rattle.std.specs.Result.{result_ok}
use Prim.Native.Nat.{ℕ, suc, ◌+◌, ◌-◌, ◌*◌, ◌%◌, ◌^◌, ◌≤◌, ◌<◌}
use native.Mathlib.Omega.{arith}
use native.Mathlib.Decide.{dec_lt, ℕ_discrete}
use mathlib.Core.Path.{◌≡◌, ap, sym, subst, ◌∙◌}
use mathlib.Core.Bool.{true, false}
use mathlib.Core.List.{List}
use lib.ListN.{length, get_or, set, get_or-replicate}
use lib.Dec.{eqb}
use borrow.Author.Tests.{ne_eqb}
use Rattle.std.proofs.lemmas.Bool.{true≢false}
use Rattle.std.proofs.lemmas.Bool.Decides.{nat_tests}
use Rattle.std.proofs.lemmas.Grind.{elements}
use Rattle.base.proofs.Bool.{never}
use Rattle.parts.specs.declared.Id.{Id}
use Rattle.parts.specs.Code.{number}
use Rattle.point.specs.Point.{PointId, same_id}
use Rattle.point.proofs.Ids.{same_sym}
use Rattle.id_index.specs.declared.Index.{Index}
use Rattle.id_index.specs.Code.{count_of, place_in, field_id, id_in, Added, IsEmpty, Places, Noted, SameFront, IsAt, NoneIs, Once, Twice, bucket_of, IsLast, Chains, Linked}
use Rattle.id_index.specs.Code.{Below, by-digest, by-author, by-round, Compared, nth_in, Sorted, Between, IsIndex, Built}
use Rattle.id_index.specs.Code.{InChain, InOrder, FoundAt}

-- ---- the ids, where all but the links stays

module _ {x y : Index} (f : SameFront x y) where
  pub same_id_lem : (s : List ℕ) (j : ℕ) → id_in s y j ≡ id_in s x j
  same_id_lem s j = ap (λ (l : List ℕ). field_id s (get_or l j 0)) f.places

  pub same_places : (s : List ℕ) → Places s x → Places s y
  same_places s p j g = rw f.places (p j (omega (arith, f.count)))

pub front_then_lem : {x y z : Index} → SameFront x y → SameFront y z → SameFront x z
front_then_lem f g = record { count = g.count ∙ f.count; is_sorted = g.is_sorted ∙ f.is_sorted; places = g.places ∙ f.places }

-- ---- one place more

module _ {x y : Index} {place : ℕ} (a : Added x place y) where
  pub added-old : (j : ℕ) → j < count_of x → place_in y j ≡ place_in x j
  added-old j lt = rw a.places (grind (arith, elements))

  pub added-noted : {s : List ℕ} → place + 71 ≤ length s → Noted s x → Noted s y
  added-noted {s} fits p =
      record {
        places = λ j lt. elim (ℕ_discrete j (count_of x)) [
          | yes e ↦ rw (e, a.there) fits
          | no d ↦ (let g : j < count_of x = omega (arith, a.count) in omega (arith, added-old j g, p.places j g))
        ];
        plain = a.is_sorted ∙ p.plain;
        unlinked = rw a.heads p.unlinked;
      }

-- an index of no ids
pub none-noted : (s : List ℕ) {x : Index} → IsEmpty x → Noted s x
none-noted s e =
    record {
      places = λ j lt. absurd (omega (arith, e.none));
      plain = e.plain;
      unlinked = λ h lt. rw e.unlinked (get_or-replicate 4096 h 0 0 lt);
    }

-- ---- an id among the first n

pub once_more : (s : List ℕ) (x : Index) (n : ℕ) → Once s x n → NoneIs s x n (id_in s x n) → Once s x (n + 1)
once_more s x n o h j k a b = grind arith

-- ---- buckets

low : (m n : ℕ) → n % 4096 ≡ (m * 2 ^ 64 + n) % 4096
low m n = omega arith

-- the bucket of a digest is that of its last word
pub last_word : (x : Id) → x.d % 4096 ≡ number x % 4096
unfolding number
last_word x = low ((x.a * 2 ^ 64 + x.b) * 2 ^ 64 + x.c) x.d

-- an id of another bucket is another id
other_bucket : (i k : PointId) → eqb (bucket_of i) (bucket_of k) ≡ false → same_id i k ≡ false
unfolding same_id
other_bucket i k h = grind (arith, nat_tests)

-- the search for an id in a chain: k is one more than an id of its bucket, or 0, and from k on none is it
pub record Search (s : List ℕ) (x : Index) (n : ℕ) (i : PointId) (k : ℕ) : Type 0 where
  pub within : k ≤ n
  pub there : (j : ℕ) → k ≡ suc j → bucket_of (id_in s x j) ≡ bucket_of i
  pub absent : (j : ℕ) → k ≤ j → j < n → same_id (id_in s x j) i ≡ false

module _ {s : List ℕ} {x : Index} {n : ℕ} (c : Chains s x n) where
  pub search_start : (i : PointId) (h : ℕ) → h ≡ bucket_of i → h < 4096 → Search s x n i (get_or x.heads h 0)
  search_start i h e lt =
      let l = c.last h lt in
      record {
        within = l.within;
        there = λ j g. l.there j g ∙ e;
        absent = λ j a b. other_bucket _ i (rw e at (l.absent j a b));
      }

  module _ {i : PointId} {k : ℕ} (w : Search s x n i k) (more : 0 < k) where
    pub search_next : same_id (id_in s x (k - 1)) i ≡ false → Search s x n i (get_or x.links (k - 1) 0)
    search_next d =
        let l = c.before (k - 1) (omega (arith, w.within)) in
        let e = w.there (k - 1) (omega arith) in
        record {
          within = omega (arith, w.within, l.within);
          there = λ j g. l.there j g ∙ e;
          absent = λ j a b. elim (ℕ_discrete j (k - 1)) [
            | yes g ↦ rw g d
            | no g ↦ elim (dec_lt j k) [
              | yes f ↦ other_bucket _ i (rw e at (l.absent j a (omega arith)))
              | no f ↦ w.absent j (omega arith) b
            ]
          ];
        }

-- ---- one id more in its chain

same-ids : {s : List ℕ} {x y : Index} {bucket n k : ℕ} → ((j : ℕ) → j < n → id_in s y j ≡ id_in s x j) → IsLast s x bucket n k → IsLast s y bucket n k
same-ids same l =
    record {
      within = l.within;
      there = λ j e. rw (same j (omega (arith, l.within))) (l.there j e);
      absent = λ j a b. rw (same j b) (l.absent j a b);
    }

module _ {s : List ℕ} {x y : Index} {n h : ℕ} (c : Chains s x n) (k : Linked x n h y) (links : length x.links ≡ 4096) (heads : length x.heads ≡ 4096) (room : n < 4096) (e : h ≡ bucket_of (id_in s x n)) (lt : h < 4096) where
  kept : (j : ℕ) → id_in s y j ≡ id_in s x j
  kept = same_id_lem k.front s

  head-here : get_or y.heads h 0 ≡ n + 1
  head-here = rw k.heads (grind (arith, elements))

  head-other : (b : ℕ) → (b ≡ h → ⊥) → get_or y.heads b 0 ≡ get_or x.heads b 0
  head-other b d = rw k.heads (grind (arith, elements))

  link_here : get_or y.links n 0 ≡ get_or x.heads h 0
  link_here = rw k.links (grind (arith, elements))

  link-other : (j : ℕ) → j < n → get_or y.links j 0 ≡ get_or x.links j 0
  link-other j g = rw k.links (grind (arith, elements))

  new_bucket : bucket_of (id_in s y n) ≡ h
  new_bucket = ap bucket_of (kept n) ∙ sym e

  last-here : IsLast s y h (n + 1) (n + 1)
  last-here =
      record {
        within = omega arith;
        there = λ j g. grind (arith, new_bucket);
        absent = λ j a b. absurd (omega arith);
      }

  last-elsewhere : (b : ℕ) → b < 4096 → (b ≡ h → ⊥) → IsLast s y b (n + 1) (get_or x.heads b 0)
  last-elsewhere b g d =
      let l : IsLast s y b n (get_or x.heads b 0) = same-ids (λ j f. kept j) (c.last b g) in
      record {
        within = omega (arith, l.within);
        there = l.there;
        absent = λ j f g. elim (ℕ_discrete j n) [
          | yes u ↦ ne_eqb _ b (λ v. d (sym v ∙ rw u new_bucket))
          | no u ↦ l.absent j f (omega arith)
        ];
      }

  last_of : (b : ℕ) → b < 4096 → IsLast s y b (n + 1) (get_or y.heads b 0)
  last_of b g = elim (ℕ_discrete b h) [
    | yes u ↦ rw (u, head-here) last-here
    | no u ↦ rw (head-other b u) (last-elsewhere b g u)
  ]

  before_of : (j : ℕ) → j < n + 1 → IsLast s y (bucket_of (id_in s y j)) j (get_or y.links j 0)
  before_of j g = elim (ℕ_discrete j n) [
    | yes u ↦ rw (u, new_bucket, link_here) (same-ids (λ k f. kept k) (c.last h lt))
    | no u ↦ (let f : j < n = omega arith in
        rw (kept j, link-other j f) (same-ids (λ k g. kept k) (c.before j f)))
  ]

  pub one_chained : Chains s y (n + 1)
  one_chained = record { last = last_of; before = before_of }

  pub one_once : Once s x n → NoneIs s x n (id_in s x n) → Once s y (n + 1)
  one_once o w j k a b = rw (kept j, kept k) (once_more s x n o w j k a b)

-- ---- the order of ids

pub ruleset below_rules = (by-digest, by-author, by-round)

pub below_then : {a b c : PointId} → Below a b → Below b c → Below a c
below_then p q = grind (arith, below_rules)

module _ (a b : PointId) where
  not_same : Below a b → same_id a b ≡ true → ⊥
  unfolding same_id
  not_same p t = grind (arith, nat_tests)

  pub below_differs : Below a b → same_id a b ≡ false
  below_differs h = never (same_id a b) (not_same h)

pub above_differs : (a b : PointId) → Below b a → same_id a b ≡ false
above_differs a b h = same_sym a b ∙ below_differs b a h

-- ---- the search by halving

module _ {s : List ℕ} {x : Index} {n : ℕ} (w : Sorted s x n) where
  module _ {i : PointId} {low high middle : ℕ} (b : Between s x n i low high) (from : low ≤ middle) (to : middle < high) where
    pub between_above : Below (nth_in s x middle) i → Between s x n i (middle + 1) high
    between_above h =
        record {
          ordered = omega arith;
          within = b.within;
          below = λ a g. elim (ℕ_discrete a middle) [
            | yes e ↦ rw e h
            | no d ↦ below_then (w.rising a middle (omega arith) (omega (arith, b.within))) h
          ];
          above = b.above;
        }

    pub between_below : Below i (nth_in s x middle) → Between s x n i low middle
    between_below h =
        record {
          ordered = from;
          within = omega (arith, b.within);
          below = b.below;
          above = λ a g lt. elim (ℕ_discrete a middle) [
            | yes e ↦ rw e h
            | no d ↦ below_then h (w.rising middle a (omega arith) lt)
          ];
        }

  pub between_none : {i : PointId} {low : ℕ} → Between s x n i low low → NoneIs s x n i
  between_none {i} {low} b j lt =
      let o = w.onto j lt in
      let differs : same_id (nth_in s x o.0) i ≡ false = elim (dec_lt o.0 low) [
        | yes g ↦ below_differs _ i (b.below o.0 g)
        | no g ↦ above_differs _ i (b.above o.0 (omega arith) o.1)
      ] in
      rw o.2 at differs

  pub sorted-once : Once s x n
  sorted-once j k a b =
      let o = w.onto j (omega arith) in
      let p = w.onto k b in
      let differs : same_id (nth_in s x o.0) (nth_in s x p.0) ≡ false = elim (dec_lt o.0 p.0) [
        | yes g ↦ below_differs _ _ (w.rising o.0 p.0 g p.1)
        | no g ↦ elim (ℕ_discrete o.0 p.0) [
          | yes e ↦ (let f : j ≡ k = sym o.2 ∙ (ap (λ (m : ℕ). get_or x.links m 0) e ∙ p.2) in absurd (omega arith))
          | no d ↦ above_differs _ _ (w.rising p.0 o.0 (omega arith) o.1)
        ]
      ] in
      rw (o.2, p.2) at differs

-- ---- one id more in the order

-- the links from one number to another, moved one up
pub record Shifted (l : List ℕ) (from to : ℕ) (m : List ℕ) : Type 0 where
  pub sized : length m ≡ length l
  pub moved : (a : ℕ) → from ≤ a → a < to → get_or m (a + 1) 0 ≡ get_or l a 0
  pub below : (a : ℕ) → a ≤ from → get_or m a 0 ≡ get_or l a 0

module _ {s : List ℕ} {x z : Index} {n p : ℕ} {m : List ℕ} (w : Sorted s x n) (links : length x.links ≡ 4096) (room : n < 4096) (b : Between s x n (id_in s x n) p p) (f : Shifted x.links p n m) (g : SameFront x z) (put : z.links ≡ set m p n) where
  id-stays : (j : ℕ) → id_in s z j ≡ id_in s x j
  id-stays = same_id_lem g s

  at_low : (a : ℕ) → a < p → get_or z.links a 0 ≡ get_or x.links a 0
  at_low a h = rw put (grind (arith, elements))

  at_here : get_or z.links p 0 ≡ n
  at_here = rw put (grind (arith, elements))

  at_high : (a : ℕ) → p ≤ a → a < n → get_or z.links (a + 1) 0 ≡ get_or x.links a 0
  at_high a h k = rw put (grind (arith, elements))

  -- the same from the new number on
  at_after : (a : ℕ) → p < a → a < n + 1 → get_or z.links a 0 ≡ get_or x.links (a - 1) 0
  at_after a h k = grind (arith, at_high (a - 1))

  nth_low : (a : ℕ) → a < p → nth_in s z a ≡ nth_in s x a
  nth_low a h = grind (arith, at_low, id-stays)

  nth_here : nth_in s z p ≡ id_in s x n
  nth_here = grind (arith, at_here, id-stays)

  nth_after : (a : ℕ) → p < a → a < n + 1 → nth_in s z a ≡ nth_in s x (a - 1)
  nth_after a h k = grind (arith, at_after, id-stays)

  within-one : (a : ℕ) → a < n + 1 → get_or z.links a 0 < n + 1
  within-one a h = grind (arith, at_low, at_here, at_after)

  onto-one : (j : ℕ) → j < n + 1 → (a : ℕ) × (a < n + 1) × (get_or z.links a 0 ≡ j)
  onto-one j h = elim (ℕ_discrete j n) [
    | yes e ↦ (p, omega (arith, b.within), at_here ∙ sym e)
    | no d ↦ (let o = w.onto j (omega arith) in elim (dec_lt o.0 p) [
      | yes k ↦ (o.0, omega (arith, o.1), at_low o.0 k ∙ o.2)
      | no k ↦ (o.0 + 1, omega (arith, o.1), at_high o.0 (omega arith) o.1 ∙ o.2)
    ])
  ]

  rising-one : (a c : ℕ) → a < c → c < n + 1 → Below (nth_in s z a) (nth_in s z c)
  rising-one a c h k = elim (dec_lt c p) [
    | yes u ↦ rw (nth_low a (omega arith), nth_low c u) (w.rising a c h (omega (arith, b.within)))
    | no u ↦ elim (ℕ_discrete c p) [
      | yes e ↦ rw (nth_low a (omega arith), e, nth_here) (b.below a (omega arith))
      | no d ↦ elim (dec_lt a p) [
        | yes v ↦ rw (nth_low a v, nth_after c (omega arith) k) (w.rising a (c - 1) (omega arith) (omega arith))
        | no v ↦ elim (ℕ_discrete a p) [
          | yes e ↦ rw (e, nth_here, nth_after c (omega arith) k) (b.above (c - 1) (omega arith) (omega arith))
          | no q ↦ rw (nth_after a (omega arith) (omega arith), nth_after c (omega arith) k) (w.rising (a - 1) (c - 1) (omega arith) (omega arith))
        ]
      ]
    ]
  ]

  pub one_sorted : Sorted s z (n + 1)
  one_sorted = record { within = within-one; onto = onto-one; rising = rising-one }

-- ---- the index that was made

module _ {s : List ℕ} {y x : Index} (f : SameFront y x) where
  pub built_chained : Noted s y → Chains s x (count_of y) → Once s x (count_of y) → Built s y x true
  built_chained p c o =
      let P : ℕ → Type 0 = λ n. Chains s x n × Once s x n in
      let q = subst P (sym f.count) (c, o) in
      record {
        count = f.count;
        places = f.places;
        index = (
          record {
            places = same_places f s p.places;
            chains = λ e. q.0;
            sorted = λ d. absurd (true≢false (sym d ∙ f.is_sorted ∙ p.plain));
          },
          q.1,
        );
      }

  pub built_twice : Twice s x → Built s y x false
  built_twice t = record { count = f.count; places = f.places; index = t }

-- x says that its ids are sorted, and is else as z, whose ids are
module _ {s : List ℕ} {z x : Index} (count : x.count ≡ z.count) (places : x.places ≡ z.places) (links : x.links ≡ z.links) where
  flagged-sorted : (n : ℕ) → Sorted s z n → Sorted s x n
  flagged-sorted n w = record { within = rw links w.within; onto = rw links w.onto; rising = rw (links, places) w.rising }

  pub built_sorted : {y : Index} → SameFront y z → Places s y → Sorted s z (count_of z) → x.is_sorted ≡ true → Built s y x true
  built_sorted {y} f p w flag =
      let P : ℕ → Type 0 = Sorted s x in
      let sorted = subst P (sym count) (flagged-sorted (count_of z) w) in
      record {
        count = count ∙ f.count;
        places = places ∙ f.places;
        index = (
          record {
            places = λ j lt. rw places (same_places f s p j (omega (arith, count)));
            chains = λ e. absurd (true≢false (sym flag ∙ e));
            sorted = λ d. sorted;
          },
          sorted-once sorted,
        );
      }

-- ---- the index of other bytes, with the same ids at the same places

module _ {s t : List ℕ} {x : Index} (l : length t ≡ length s) (same : (j : ℕ) → j < count_of x → id_in t x j ≡ id_in s x j) where
  same-last : (bucket n k : ℕ) → n ≤ count_of x → IsLast s x bucket n k → IsLast t x bucket n k
  same-last bucket n k few h =
      record {
        within = h.within;
        there = λ j e. ap bucket_of (same j (omega (arith, h.within))) ∙ h.there j e;
        absent = λ j from lt. ap (λ (i : PointId). eqb (bucket_of i) bucket) (same j (omega arith)) ∙ h.absent j from lt;
      }

  same-chains : Chains s x (count_of x) → Chains t x (count_of x)
  same-chains h =
      record {
        last = λ b few. same-last b (count_of x) (get_or x.heads b 0) (omega arith) (h.last b few);
        before = λ j lt. rw (same j lt) (same-last (bucket_of (id_in s x j)) j (get_or x.links j 0) (omega arith) (h.before j lt));
      }

  same-sorted : Sorted s x (count_of x) → Sorted t x (count_of x)
  same-sorted h =
      record {
        within = h.within;
        onto = h.onto;
        rising = λ a b lt few.
            rw (same (get_or x.links a 0) (h.within a (omega arith)), same (get_or x.links b 0) (h.within b few)) (h.rising a b lt few);
      }

  pub same_index : IsIndex s x → IsIndex t x
  same_index h =
      record {
        places = λ j lt. omega (arith, l, h.places j lt);
        chains = λ e. same-chains (h.chains e);
        sorted = λ d. same-sorted (h.sorted d);
      }

-- ---- what is found

pub found_order : (s : List ℕ) (x : Index) (i : PointId) (r : Result ℕ ℕ) → Sorted s x (count_of x) → InOrder s x (count_of x) i r → FoundAt s x i (result_ok r)
found_order s x i (Ok j) w h = h
found_order s x i (Err n) w h = between_none w h
