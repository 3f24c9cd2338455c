-- What a list that reads as a book is, be its numbers below 256 or not: as long as the book says, and of no id twice and at most 4,096
-- entries. Canonical.antt says more, of bytes.
use Rattle.std.specs.Prelude.{None, Some}
use Prim.Native.Nat.{ℕ, zero, suc, ◌≤◌}
use native.Mathlib.Omega.{arith}
use mathlib.Core.Path.{◌≡◌, refl}
use mathlib.Core.Bool.{Bool, true, false}
use mathlib.Core.List.{List}
use lib.ListN.{length, get_or, take, drop}
use lib.Dec.{leb, eqb}
use Rattle.base.specs.Base.{pick}
use Rattle.base.proofs.Option.{picked, IfSome, pick-has, then_has, map-has, has}
use Rattle.schedule.specs.Settings.{Settings, read_settings}
use Rattle.books.specs.Kept.{Book, is_twice, Opened}
use Rattle.books.specs.Layout.{is_zeros, kept_front, entries_from, read_book}

abbrev IsShort : ℕ → Book → Type 0
IsShort n b = length b ≤ n

entries-few : (n : ℕ) (s : List ℕ) → IfSome (IsShort n) (entries_from n s)
unfolding entries_from
entries-few zero s = pick-has (IsShort zero) (is_zeros s) _ None (λ z. omega arith) tt
entries-few (suc n) s =
    let P = IsShort (suc n) in
    pick-has P (eqb (get_or s 0 0) 0) _ _
    (λ e. pick-has P (is_zeros s) _ None (λ z. omega arith) tt)
    (then_has P (kept_front s) _ (λ x e. map-has P _ (entries_from n (drop x.size s)) (λ b r.
    (let few = has (IsShort n) _ b (entries-few n (drop x.size s)) r in omega (arith, few)))))

pub record ReadAs (s : List ℕ) (z : Opened) : Type 0 where
  pub whole : length s ≡ z.length
  pub once : is_twice z.book ≡ false
  pub few : length z.book ≤ 4096

pub read-as : (s : List ℕ) (z : Opened) → read_book s ≡ Some z → ReadAs s z
unfolding read_book
read-as s z h =
    let P = ReadAs s in
    has P _ z
    (then_has P (read_settings (take 47 s)) _ (λ c r. then_has P (entries_from 4096 (drop 47 s)) _ (λ b e.
    go c b (has (IsShort 4096) _ b (entries-few 4096 (drop 47 s)) e) (is_twice b) refl)))
    (picked (leb (length s) 16777216) _ z h).1
  where
    go : (c : Settings) (b : Book) → IsShort 4096 b → (t : Bool) → is_twice b ≡ t →
        IfSome (ReadAs s) (pick t None (Some (record { bytes = take 47 s; settings = c; length = length s; book = b })))
    go c b few true o = tt
    go c b few false o = record { whole = refl; once = o; few = few }
