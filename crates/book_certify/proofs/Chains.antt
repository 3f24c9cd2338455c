-- Chains of entries by depth.
use Prim.Native.Nat.{ℕ, ◌+◌, ◌≤◌, ◌<◌}
use native.Mathlib.Omega.{arith}
use native.Mathlib.Decide.{dec_lt, ℕ_discrete}
use mathlib.Core.Path.{◌≡◌, ap, sym, ◌∙◌, subst}
use mathlib.Core.List.{List}
use lib.ListN.{length, get_or, set, replicate, length-replicate, get_or-replicate, get_or-eq_default}
use lib.Seq.{get_or-set_same, get_or-set_other}
use Rattle.id_index.specs.declared.Index.{Index}
use Rattle.id_index.specs.Code.{id_in}
use Rattle.book_certify.specs.declared.Walk.{Walk}
use Rattle.book_certify.specs.Code.{IsFresh, Grown, Cursor, IsLast, Chained}

module _ {s : List ℕ} {x : Index} {top depth n : ℕ} where
  pub cursor_as : {P Q : ℕ → Type 0} {k : ℕ} → ((j : ℕ) → j < n → P j → Q j) → Cursor s x top depth n P k → Cursor s x top depth n Q k
  cursor_as f c = record { within = c.within; there = c.there; past = λ j a b e. f j b (c.past j a b e) }

  -- from an entry to the one before it in its chain
  pub cursor_next : {P : ℕ → Type 0} {k l : ℕ} → Cursor s x top depth n P k → (i : ℕ) → k ≡ i + 1 → IsLast s x top depth i l → P i → Cursor s x top depth n P l
  cursor_next {P} {k} {l} c i this h p =
      record {
        within = omega (arith, h.within, c.within);
        there = h.there;
        past = λ j a b e. elim (ℕ_discrete j i) [
          | yes g ↦ subst P (sym g) p
          | no g ↦ elim (dec_lt j i) [
            | yes f ↦ absurd (h.past j a f e)
            | no f ↦ c.past j (omega arith) b e
          ]
        ];
      }

module _ {s : List ℕ} {x : Index} {top history n : ℕ} {w : Walk} (c : Chained s x top history n w) where
  -- the chain of a depth, at the link of an entry
  pub link-of : {depth m : ℕ} {P : ℕ → Type 0} {k : ℕ} → Cursor s x top depth m P k → m ≤ n → depth ≤ history → (i : ℕ) → k ≡ i + 1 →
      IsLast s x top depth i (get_or w.links i 0)
  link-of {depth} {m} {P} {k} h few deep i this = c.before i depth (omega (arith, h.within)) deep (h.there i (omega arith))

  pub chained_grown : {v : Walk} → Grown w v → Chained s x top history n v
  chained_grown g = record { last = λ d h. rw g.heads (c.last d h); before = λ j d a b e. rw g.links (c.before j d a b e) }

  -- ---- one entry more

  more-last : (d : ℕ) → d ≤ history → ((id_in s x n).round + d ≡ top → ⊥) → IsLast s x top d (n + 1) (get_or w.heads d 0)
  more-last d h None =
      let l = c.last d h in
      record {
        within = omega (arith, l.within);
        there = l.there;
        past = λ j a b e. elim (ℕ_discrete j n) [
          | yes g ↦ None (subst (λ (m : ℕ). (id_in s x m).round + d ≡ top) g e)
          | no g ↦ l.past j a (omega arith) e
        ];
      }

  -- it has none of the depths
  pub chained_past : ((d : ℕ) → d ≤ history → (id_in s x n).round + d ≡ top → ⊥) → Chained s x top history (n + 1) w
  chained_past None =
      record {
        last = λ d h. more-last d h (None d h);
        before = λ j d a b e. elim (ℕ_discrete j n) [
          | yes g ↦ absurd (None d b (subst (λ (m : ℕ). (id_in s x m).round + d ≡ top) g e))
          | no g ↦ c.before j d (omega arith) b e
        ];
      }

  -- it has one of them
  module _ (links : length w.links ≡ 4096) (heads : length w.heads ≡ 256) (depth : ℕ) (at : (id_in s x n).round + depth ≡ top) (deep : depth ≤ history) (few : depth < 256) (room : n < 4096) where
    abbrev headed : Walk
    headed = record { reached = w.reached; links = set w.links n (get_or w.heads depth 0); heads = set w.heads depth (n + 1) }

    head-here : get_or headed.heads depth 0 ≡ n + 1
    head-here = get_or-set_same w.heads depth (n + 1) 0 (omega arith)

    head-other : (d : ℕ) → (d ≡ depth → ⊥) → get_or headed.heads d 0 ≡ get_or w.heads d 0
    head-other d no_same = get_or-set_other w.heads depth d (n + 1) 0 no_same

    link_here : get_or headed.links n 0 ≡ get_or w.heads depth 0
    link_here = get_or-set_same w.links n (get_or w.heads depth 0) 0 (omega arith)

    link-other : (j : ℕ) → j < n → get_or headed.links j 0 ≡ get_or w.links j 0
    link-other j lt = get_or-set_other w.links n j (get_or w.heads depth 0) 0 (λ e. omega arith)

    last-here : IsLast s x top depth (n + 1) (n + 1)
    last-here =
        record {
          within = omega arith;
          there = λ j e. subst (λ (m : ℕ). (id_in s x m).round + depth ≡ top) (omega arith) at;
          past = λ j a b e. absurd (omega arith);
        }

    pub chained_more : Chained s x top history (n + 1) headed
    chained_more =
        record {
          last = λ d h. elim (ℕ_discrete d depth) [
            | yes e ↦ rw (e, head-here) last-here
            | no e ↦ rw (head-other d e) (more-last d h (λ f. e (omega arith)))
          ];
          before = λ j d a b e. elim (ℕ_discrete j n) [
            | yes g ↦ (let f : d ≡ depth = omega (arith, subst (λ (m : ℕ). (id_in s x m).round + d ≡ top) g e) in rw (g, f, link_here) (c.last depth deep))
            | no g ↦ rw (link-other j (omega arith)) (c.before j d (omega arith) b e)
          ];
        }

-- no entry yet, where the heads up to the history are none
pub chained_none : {s : List ℕ} {x : Index} {top history : ℕ} {w : Walk} → ((d : ℕ) → d ≤ history → get_or w.heads d 0 ≡ 0) → Chained s x top history 0 w
chained_none unlinked =
    record {
      last = λ d h. let z = unlinked d h in
          record { within = omega arith; there = λ j e. absurd (omega arith); past = λ j a b e. absurd (omega arith) };
      before = λ j d a b e. absurd (omega arith);
    }

-- as those of a fresh walk are
zeros_read : (d : ℕ) → ◌≡◌ {A = ℕ} (get_or (replicate 256 0) d 0) 0
zeros_read d = elim (dec_lt d 256) [
  | yes lt ↦ get_or-replicate 256 d 0 0 lt
  | no f ↦ (let far : length {A = ℕ} (replicate 256 0) ≤ d = omega (arith, length-replicate {A = ℕ} 256 0) in get_or-eq_default {A = ℕ} (replicate 256 0) 0 far)
]

pub heads_none : (w : Walk) → IsFresh w → (d : ℕ) → get_or w.heads d 0 ≡ 0
heads_none w fresh d = ap (λ (l : List ℕ). get_or l d 0) fresh.unlinked ∙ zeros_read d
