-- Lists of bytes: none, one more, and parts of such lists put together.
use Prim.Native.Nat.{ℕ, zero, suc, ◌+◌, ◌/◌, ◌<◌}
use native.Mathlib.Omega.{arith}
use mathlib.Core.List.{List, [], ◌∷◌, ◌++◌}
use lib.ListN.{length, take}
use Rattle.base.specs.Base.{concat, tabulate}
use Rattle.parts.specs.Bytes.{little_bytes, put_at, Bytes}
use Rattle.parts.proofs.Laws.{at-bytes, rest-bytes}

pub record AllBytes (l : List ℕ) : Type 0 where
  pub bytes : Bytes l

pub none_more : AllBytes []
none_more = record { bytes = λ k. omega arith }

pub one_more : {x : ℕ} {l : List ℕ} → x < 256 → AllBytes l → AllBytes (x ∷ l)
one_more {x} {l} h w = record { bytes = go }
  where
    go : Bytes (x ∷ l)
    go zero = h
    go (suc k) = w.bytes k

pub both : (a : List ℕ) {b : List ℕ} → AllBytes a → AllBytes b → AllBytes (a ++ b)
both [] v w = w
both (x ∷ a) v w = one_more (v.bytes zero) (both a (record { bytes = λ k. v.bytes (suc k) }) w)

pub little-below : (n x : ℕ) → AllBytes (little_bytes n x)
unfolding little_bytes
little-below zero x = none_more
little-below (suc n) x = one_more (omega arith) (little-below n (x / 256))

pub joined : (f : ℕ → List ℕ) (n k : ℕ) → ((i : ℕ) → AllBytes (f i)) → AllBytes (concat (tabulate f n k))
unfolding concat tabulate
joined f zero k h = none_more
joined f (suc n) k h = both (f k) (h k) (joined f n (suc k) h)

pub put-bytes : (l : List ℕ) (at : ℕ) (c : List ℕ) → Bytes l → Bytes c → AllBytes (put_at l at c)
unfolding put_at
put-bytes l at c b d =
    both (take at l ++ c) (both (take at l) (record { bytes = at-bytes at l 0 b }) (record { bytes = d }))
    (record { bytes = rest-bytes (at + length c) l b })
