-- Laws of rows that are put into a lent slice.
use Rattle.std.specs.Prelude.{Ok}
use Prim.Native.Nat.{ℕ, ◌+◌, ◌*◌, ◌≤◌, ◌<◌}
use native.Mathlib.Omega.{arith}
use native.Mathlib.Nat.{zero-add}
use mathlib.Core.Path.{◌≡◌, refl, ap, sym, ◌∙◌}
use mathlib.Core.List.{List, [], ◌∷◌, ◌++◌, append-nil, append_assoc}
use lib.ListN.{length, length-append}
use Rattle.parts.specs.Bytes.{little_bytes, put_at}
use Rattle.write.proofs.Laws.{put_nothing, put_length, put_put}
use Rattle.reasons.specs.Invalid.{InvalidReason}
use Rattle.rules.specs.Trail.{Row, row, rows_at, row_bytes, rows_bytes}
use Rattle.rules.proofs.Rows.{rows_length}
use Rattle.trail_rows.specs.Code.{Put, Filled}

row-length : (r : Row) → length (row_bytes r) ≡ 8
unfolding little_bytes
row-length r = refl

rows-append : (a b : List Row) → rows_bytes (a ++ b) ≡ rows_bytes a ++ rows_bytes b
unfolding rows_bytes
rows-append [] b = refl
rows-append (r ∷ a) b =
    ap (λ (l : List ℕ). row_bytes r ++ l) (rows-append a b) ∙ sym (append_assoc (row_bytes r) (rows_bytes a) (rows_bytes b))

rows-one : (r : Row) → rows_bytes (r ∷ []) ≡ row_bytes r
unfolding rows_bytes
rows-one r = append-nil (row_bytes r)

-- no row
pub put_none : (old : List ℕ) (n : ℕ) → Put old n [] old n
unfolding rows_bytes
put_none old n = record { count = omega arith; same = refl; bytes = λ h. sym (put_nothing old (8 * n)) }

-- a row that doesn't fit
pub put_short : (old : List ℕ) (n : ℕ) (r : Row) → length old < 8 * n + 8 → Put old n (r ∷ []) old (n + 1)
put_short old n r g = record { count = refl; same = refl; bytes = λ h. absurd (omega arith) }

-- one that does
pub put_one : (old new : List ℕ) (n : ℕ) (r : Row) → 8 * n + 8 ≤ length old → new ≡ put_at old (8 * n) (row_bytes r) → Put old n (r ∷ []) new (n + 1)
put_one old new n r g e =
    record {
      count = refl;
      same = ap length e ∙ put_length old (8 * n) (row_bytes r) (let f = row-length r in omega arith);
      bytes = λ h. e ∙ ap (put_at old (8 * n)) (sym (rows-one r));
    }

pub ruleset row_facts = (put_short, put_one)

-- rows after rows
pub put_join : (old mid new : List ℕ) (n m k : ℕ) (a b : List Row) → Put old n a mid m → Put mid m b new k → Put old n (a ++ b) new k
put_join old mid new n m k a b f g =
    record {
      count = let e = length-append a b in omega (arith, e, f.count, g.count);
      same = g.same ∙ f.same;
      bytes = λ h.
          let la = rows_length a in
          let lb = rows_length b in
          let here = f.count in
          let there = g.count in
          let size = f.same in
          g.bytes (omega arith)
          ∙ (ap (λ (l : List ℕ). put_at l (8 * m) (rows_bytes b)) (f.bytes (omega arith))
          ∙ (put_put old (8 * n) (rows_bytes a) (rows_bytes b) (8 * m) (omega arith) (omega arith)
          ∙ ap (put_at old (8 * n)) (sym (rows-append a b))));
    }

-- all rows, which have space
pub put_filled : (number : ℕ) (old new : List ℕ) (rows : List Row) (m : ℕ) → Put old 0 rows new m → 8 * length rows ≤ length old →
    Filled number rows old new (Ok m)
put_filled number old new rows m q h = let e = q.count in (e ∙ zero-add (length rows), h, q.bytes (omega arith))

-- ---- the rows of an entry

at-append : (list entry : ℕ) (a b : List InvalidReason) → rows_at list entry (a ++ b) ≡ rows_at list entry a ++ rows_at list entry b
at-append list entry [] b = refl
at-append list entry (x ∷ a) b = ap (λ (l : List Row). row list entry x ∷ l) (at-append list entry a b)

-- reasons after reasons
pub put_more : (list entry : ℕ) (old mid new : List ℕ) (n m k : ℕ) (a b : List InvalidReason) →
    Put old n (rows_at list entry a) mid m → Put mid m (rows_at list entry b) new k → Put old n (rows_at list entry (a ++ b)) new k
put_more list entry old mid new n m k a b f g =
    rw (at-append list entry a b) (put_join old mid new n m k (rows_at list entry a) (rows_at list entry b) f g)
