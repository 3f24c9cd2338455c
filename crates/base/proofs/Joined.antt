-- Laws of lists of one length each, joined: each by its place, and a list cut into such.
use Prim.Native.Nat.{ℕ, zero, suc, ◌+◌, ◌*◌, ◌≤◌, ◌<◌}
use native.Mathlib.Nat.{add-zero, add-suc, suc-add, mul-zero, mul-suc}
use native.Mathlib.Omega.{arith}
use mathlib.Core.Path.{◌≡◌, refl, ap, sym, ◌∙◌}
use mathlib.Core.List.{List, ◌++◌, append_assoc, append-nil}
use lib.ListN.{length, take, drop, length-append, take-append-drop}
use lib.Seq.{drop-drop, take_at, drop_at}
use Rattle.base.specs.Base.{concat, tabulate}

module _ {A : Type 0} where
  pub tabulate-same : (f g : ℕ → A) (n k : ℕ) → ((i : ℕ) → k ≤ i → i < k + n → f i ≡ g i) → tabulate f n k ≡ tabulate g n k
  unfolding tabulate
  tabulate-same f g zero k h = refl
  tabulate-same f g (suc n) k h = rw (h k (omega arith) (omega arith), tabulate-same f g n (suc k) (λ i l m. h i (omega arith) (omega arith))) refl

-- one list more
pub joined-next : {A : Type 0} (f : ℕ → List A) (n k : ℕ) → concat (tabulate f (suc n) k) ≡ concat (tabulate f n k) ++ f (k + n)
unfolding concat tabulate
joined-next f zero k = append-nil (f k) ∙ ap f (sym (add-zero k))
joined-next f (suc n) k =
    ap (λ l. f k ++ l) (joined-next f n (suc k))
    ∙ (sym (append_assoc (f k) (concat (tabulate f n (suc k))) (f (suc k + n)))
    ∙ ap (λ i. (f k ++ concat (tabulate f n (suc k))) ++ f i) (suc-add k n ∙ sym (add-suc k n)))

-- n lists of w elements
module _ {A : Type 0} (w : ℕ) (f : ℕ → List A) where
  abbrev pub Wide : ℕ → ℕ → Type 0
  Wide n k = (i : ℕ) → k ≤ i → i < k + n → length (f i) ≡ w

  wide_rest : (n k : ℕ) → Wide (suc n) k → Wide n (suc k)
  wide_rest n k h i l m = h i (omega arith) (omega arith)

  pub joined-length : (n k : ℕ) → Wide n k → length (concat (tabulate f n k)) ≡ w * n
  unfolding concat tabulate
  joined-length zero k h = sym (mul-zero w)
  joined-length (suc n) k h =
      omega (arith, length-append (f k) (concat (tabulate f n (suc k))), h k (omega arith) (omega arith), joined-length n (suc k) (wide_rest n k h), mul-suc w n)

  -- list i stands at its place, whatever stands after them
  pub joined-at : (i n k : ℕ) (t : List A) → i < n → Wide n k → take w (drop (w * i) (concat (tabulate f n k) ++ t)) ≡ f (k + i)
  unfolding concat tabulate
  joined-at i zero k t l h = absurd (omega arith)
  joined-at zero (suc n) k t l h =
      rw (mul-zero w, add-zero k, append_assoc (f k) (concat (tabulate f n (suc k))) t)
      (take_at (f k) (concat (tabulate f n (suc k)) ++ t) w (h k (omega arith) (omega arith)))
  joined-at (suc i) (suc n) k t l h =
      let rest = concat (tabulate f n (suc k)) ++ t in
      let e : w * suc i ≡ w + w * i = omega (arith, mul-suc w i) in
      let d : drop (w * suc i) (f k ++ rest) ≡ drop (w * i) rest =
      rw (e, ← drop-drop (w * i) w (f k ++ rest), drop_at (f k) rest w (h k (omega arith) (omega arith))) refl
      in rw (append_assoc (f k) (concat (tabulate f n (suc k))) t, d, add-suc k i, ← suc-add k i) (joined-at i n (suc k) t (omega arith) (wide_rest n k h))

-- a list from a place on is its parts of w elements, and what stands after them
pub cut : {A : Type 0} (w : ℕ) (s : List A) (n k : ℕ) → drop (w * k) s ≡ concat (tabulate (λ i. take w (drop (w * i) s)) n k) ++ drop (w * (k + n)) s
unfolding concat tabulate
cut w s zero k = ap (λ i. drop (w * i) s) (sym (add-zero k))
cut w s (suc n) k =
    let part = take w (drop (w * k) s) in
    let rest = concat (tabulate (λ i. take w (drop (w * i) s)) n (suc k)) in
    sym (take-append-drop w (drop (w * k) s))
    ∙ (ap (λ l. part ++ l) (drop-drop w (w * k) s ∙ (ap (λ i. drop i s) (sym (mul-suc w k)) ∙ cut w s n (suc k)))
    ∙ (sym (append_assoc part rest (drop (w * (suc k + n)) s)) ∙ ap (λ i. (part ++ rest) ++ drop (w * i) s) (suc-add k n ∙ sym (add-suc k n))))
