-- Laws of lists: parts of a list, elements by position, and lists that are empty.
use Prim.Native.Nat.{ℕ, zero, suc, ◌+◌, ◌-◌, ◌≤◌, ◌<◌}
use native.Mathlib.Nat.{add-zero, zero-add, add-suc, suc-add}
use native.Mathlib.Omega.{arith}
use mathlib.Core.Path.{◌≡◌, refl, ap, sym, ◌∙◌, subst}
use mathlib.Core.Logic.{◌⊎◌, inl, inr}
use mathlib.Core.Bool.{true, false, not}
use mathlib.Core.List.Memᴰ
use mathlib.Core.List.{List, [], ◌∷◌, ◌++◌, map, Memᴰ}
use lib.ListN.{length, get_or, take, drop, length-drop}
use lib.Seq.{take_all, take_at}
use lib.Dec.{ltb, eqb}
use borrow.Author.Tests.{lt-ltb, eq-eqb, ne_eqb}
use Rattle.base.specs.Base.{is_empty, tabulate}
use Rattle.base.proofs.Impossible.{impossible}

pub rest : (k : ℕ) (s : List ℕ) → take (length s - k) (drop k s) ≡ drop k s
rest k s = take_all (length s - k) (drop k s) (omega (arith, length-drop k s))

module _ {A : Type 0} where
  pub empty-length : (l : List A) → is_empty l ≡ eqb (length l) 0
  empty-length [] = refl
  empty-length (x ∷ l) = sym (ne_eqb (suc (length l)) 0 (λ e. omega arith))

  pub empty : (l : List A) → length l ≡ 0 → is_empty l ≡ true
  empty l h = empty-length l ∙ eq-eqb (length l) 0 h

  pub not_empty : (l : List A) → (length l ≡ 0 → ⊥) → is_empty l ≡ false
  not_empty l h = empty-length l ∙ ne_eqb (length l) 0 h

  pub filled : (l : List A) → ltb 0 (length l) ≡ not (is_empty l)
  filled [] = refl
  filled (x ∷ l) = lt-ltb 0 (length (x ∷ l)) (omega arith)

  -- two lists that are none together
  pub append-none : (a b : List A) → a ++ b ≡ [] → (a ≡ []) × (b ≡ [])
  append-none [] b h = (refl, h)
  append-none (x ∷ a) b h = impossible (cc)

  pub member-at : (l : List A) (i : ℕ) (d : A) → i < length l → Memᴰ (get_or l i d) l
  member-at [] i d h = absurd (omega arith)
  member-at (x ∷ l) zero d h = Memᴰ.head refl
  member-at (x ∷ l) (suc i) d h = Memᴰ.tail (member-at l i d (omega arith))

module _ {A : Type 0} (f : ℕ → A) where
  pub tabulate-length : (n i : ℕ) → length (tabulate f n i) ≡ n
  unfolding tabulate
  tabulate-length zero i = refl
  tabulate-length (suc n) i = ap suc (tabulate-length n (suc i))

  pub tabulate-at : (n i k : ℕ) (d : A) → k < n → get_or (tabulate f n i) k d ≡ f (i + k)
  unfolding tabulate
  tabulate-at zero i k d h = absurd (omega arith)
  tabulate-at (suc n) i zero d h = ap f (sym (add-zero i))
  tabulate-at (suc n) i (suc k) d h = tabulate-at n (suc i) k d (omega arith) ∙ ap f (omega arith)

  pub tabulate-append : (n m i : ℕ) → tabulate f (n + m) i ≡ tabulate f n i ++ tabulate f m (i + n)
  unfolding tabulate
  tabulate-append zero m i = ap (λ k. tabulate f k i) (zero-add m) ∙ ap (tabulate f m) (sym (add-zero i))
  tabulate-append (suc n) m i =
      let e : suc n + m ≡ suc (n + m) = omega arith in
      let g : suc i + n ≡ i + suc n = omega arith in
      rw e (ap (λ l. f i ∷ l) (tabulate-append n m (suc i)) ∙ ap (λ k. f i ∷ (tabulate f n (suc i) ++ tabulate f m k)) g)

  -- one element more
  pub tabulate-next : (n i : ℕ) → tabulate f (suc n) i ≡ tabulate f n i ++ (f (i + n) ∷ [])
  unfolding tabulate
  tabulate-next n i = let e : suc n ≡ n + 1 = omega arith in ap (λ m. tabulate f m i) e ∙ tabulate-append n 1 i

  pub tabulate-take : (n m i : ℕ) → n ≤ m → take n (tabulate f m i) ≡ tabulate f n i
  tabulate-take n m i h =
      let e : m ≡ n + (m - n) = omega arith in
      ap (λ k. take n (tabulate f k i)) e
      ∙ (ap (take n) (tabulate-append n (m - n) i) ∙ take_at (tabulate f n i) (tabulate f (m - n) (i + n)) n (tabulate-length n i))

  pub tabulate-map : {B : Type 0} (g : A → B) (n i : ℕ) → map g (tabulate f n i) ≡ tabulate (λ k. g (f k)) n i
  unfolding tabulate
  tabulate-map g zero i = refl
  tabulate-map g (suc n) i = ap (λ l. g (f i) ∷ l) (tabulate-map g n (suc i))

  -- what holds of each position holds of each element
  pub tabulate-each : (P : A → Type 0) (n i : ℕ) → ((k : ℕ) → k < i + n → P (f k)) → (x : A) → Memᴰ x (tabulate f n i) → P x
  unfolding tabulate
  tabulate-each P zero i h x m = absurd (Memᴰ.not-nil m)
  tabulate-each P (suc n) i h x m = go (Memᴰ.cases_cons m) (tabulate-each P n (suc i) (λ k l. h k (omega arith)) x)
    where
      go : (x ≡ f i) ⊎ Memᴰ x (tabulate f n (suc i)) → (Memᴰ x (tabulate f n (suc i)) → P x) → P x
      go (inl e) rec = subst P (sym e) (h i (omega arith))
      go (inr r) rec = rec r

-- a list is what its elements are by position
pub tabulate-is : {A : Type 0} (f : ℕ → A) (l : List A) (d : A) (i : ℕ) → ((k : ℕ) → k < length l → f (i + k) ≡ get_or l k d) →
    tabulate f (length l) i ≡ l
unfolding tabulate
tabulate-is f [] d i h = refl
tabulate-is f (x ∷ l) d i h =
    let first : f i ≡ x = rw (add-zero i) at (h 0 (omega arith)) in
    let later = tabulate-is f l d (suc i) (λ k m. rw (add-suc i k, ← suc-add i k) at (h (suc k) (omega arith))) in
    rw (first, later)
