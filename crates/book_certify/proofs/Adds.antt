-- What is reached in addition.
use Prim.Native.Nat.{ℕ, ◌<◌}
use native.Mathlib.Omega.{arith}
use native.Mathlib.Decide.{dec_lt, ℕ_discrete}
use mathlib.Core.Path.{◌≡◌, refl, sym, ◌∙◌}
use mathlib.Core.Logic.{◌⊎◌, inl, inr}
use mathlib.Core.Bool.{Bool, true, false, ◌||◌}
use mathlib.Core.List.{List}
use lib.ListN.{length, get_or, set}
use lib.Seq.{get_or-set_same, get_or-set_other}
use Rattle.base.proofs.Bool.{clash, or_first, or_second, or_cases}
use Rattle.point.specs.Point.{PointId, same_id}
use Rattle.point.proofs.Ids.{same_sym, same_eq, eq_same}
use Rattle.id_index.specs.declared.Index.{Index}
use Rattle.id_index.specs.Code.{count_of, id_in, IsAt, NoneIs, Once}
use Rattle.book_certify.specs.declared.Walk.{Walk}
use Rattle.book_certify.specs.Code.{Reached, Grown, Adds}

pub grown-same : (w : Walk) → Grown w w
grown-same w = record { links = refl; heads = refl; kept = λ j h. h }

pub grown_then : {u v w : Walk} → Grown u v → Grown v w → Grown u w
grown_then f g = record { links = g.links ∙ f.links; heads = g.heads ∙ f.heads; kept = λ j h. g.kept j (f.kept j h) }

-- one entry more is reached
abbrev pub with_entry : Walk → ℕ → Walk
with_entry w j = record { reached = set w.reached j true; links = w.links; heads = w.heads }

module _ (w : Walk) (j : ℕ) where
  pub reached-here : j < length w.reached → Reached (with_entry w j) j
  reached-here lt = get_or-set_same w.reached j true false lt

  pub reached-other : (i : ℕ) → (i ≡ j → ⊥) → get_or (with_entry w j).reached i false ≡ get_or w.reached i false
  reached-other i d = get_or-set_other w.reached j i true false d

  pub grown-set : j < length w.reached → Grown w (with_entry w j)
  grown-set lt =
      record {
        links = refl;
        heads = refl;
        kept = λ i h. elim (ℕ_discrete i j) [
          | yes e ↦ rw e (reached-here lt)
          | no d ↦ reached-other i d ∙ h
        ];
      }

module _ {s : List ℕ} {x : Index} where
  pub adds_none : {test : PointId → Bool} (w : Walk) → ((j : ℕ) → j < count_of x → test (id_in s x j) ≡ false) → Adds s x test w w
  adds_none {test} w f = record { grown = grown-same w; only = λ j lt h. inl h; all = λ j lt t. clash (test (id_in s x j)) t (f j lt) }

  pub adds_as : {f g : PointId → Bool} {w v : Walk} → ((i : PointId) → f i ≡ g i) → Adds s x f w v → Adds s x g w v
  adds_as {f} {g} {w} {v} e a = record {
    grown = a.grown;
    only = λ j lt h. either j (a.only j lt h);
    all = λ j lt t. a.all j lt (e (id_in s x j) ∙ t);
  }
    where
      either : (j : ℕ) → Reached w j ⊎ (f (id_in s x j) ≡ true) → Reached w j ⊎ (g (id_in s x j) ≡ true)
      either j (inl h) = inl h
      either j (inr t) = inr (sym (e (id_in s x j)) ∙ t)

  pub adds_then : {f g : PointId → Bool} {u v w : Walk} → Adds s x f u v → Adds s x g v w → Adds s x (λ i. f i || g i) u w
  adds_then {f} {g} {u} {v} {w} a b = record {
    grown = grown_then a.grown b.grown;
    only = λ j lt h. first j lt (b.only j lt h);
    all = λ j lt t. last j lt (or_cases (f (id_in s x j)) (g (id_in s x j)) t);
  }
    where
      second : (j : ℕ) → Reached u j ⊎ (f (id_in s x j) ≡ true) → Reached u j ⊎ ((f (id_in s x j) || g (id_in s x j)) ≡ true)
      second j (inl h) = inl h
      second j (inr t) = inr (or_first (f (id_in s x j)) (g (id_in s x j)) t)

      first : (j : ℕ) → j < count_of x → Reached v j ⊎ (g (id_in s x j) ≡ true) → Reached u j ⊎ ((f (id_in s x j) || g (id_in s x j)) ≡ true)
      first j lt (inl h) = second j (a.only j lt h)
      first j lt (inr t) = inr (or_second (f (id_in s x j)) (g (id_in s x j)) t)

      last : (j : ℕ) → j < count_of x → (f (id_in s x j) ≡ true) ⊎ (g (id_in s x j) ≡ true) → Reached w j
      last j lt (inl t) = b.grown.kept j (a.all j lt t)
      last j lt (inr t) = b.all j lt t

  -- an id that is not kept
  pub adds-absent : (w : Walk) (i : PointId) → NoneIs s x (count_of x) i → Adds s x (same_id i) w w
  adds-absent w i f = adds_none w (λ j lt. same_sym i (id_in s x j) ∙ f j lt)

  module _ (once : Once s x (count_of x)) (i : PointId) (j : ℕ) (f : IsAt s x (count_of x) i j) where
    -- an id stands once
    pub only_one : (k : ℕ) → k < count_of x → same_id i (id_in s x k) ≡ true → k ≡ j
    only_one k lt t =
        let e : id_in s x k ≡ id_in s x j = sym (same_eq i (id_in s x k) t) ∙ sym (same_eq (id_in s x j) i f.same) in
        elim (ℕ_discrete k j) [
          | yes g ↦ g
          | no d ↦ elim (dec_lt k j) [
            | yes g ↦ clash (same_id (id_in s x k) (id_in s x j)) (eq_same (id_in s x k) (id_in s x j) e) (once k j g f.within)
            | no g ↦ clash (same_id (id_in s x j) (id_in s x k)) (eq_same (id_in s x j) (id_in s x k) (sym e)) (once j k (omega arith) lt)
          ]
        ]

    pub adds-found : (w : Walk) → j < length w.reached → Adds s x (same_id i) w (with_entry w j)
    adds-found w lt =
        record {
          grown = grown-set w j lt;
          only = λ k g h. elim (ℕ_discrete k j) [
            | yes e ↦ inr (rw e (same_sym i (id_in s x j) ∙ f.same))
            | no d ↦ inl (sym (reached-other w j k d) ∙ h)
          ];
          all = λ k g t. rw (only_one k g t) (reached-here w j lt);
        }
