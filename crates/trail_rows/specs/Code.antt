-- What the functions of rows promise each other.
use Rattle.std.specs.Prelude.{ℕ, ◌+◌, ◌*◌, ◌≤◌, ◌<◌, ◌≡◌, List, length, Result, Err, Ok}
use Rattle.parts.specs.Bytes.{put_at}
use Rattle.reasons.specs.Refusal.{refusal_number}
use Rattle.reasons.specs.declared.refusal.Refusal.{Refusal}
use Rattle.rules.specs.Trail.{Row, rows_bytes}

-- after n rows these were put, which makes m: they stand there if all m fit
pub record Put (old : List ℕ) (n : ℕ) (rows : List Row) (new : List ℕ) (m : ℕ) : Type 0 where
  pub count : m ≡ n + length rows
  pub same : length new ≡ length old
  pub bytes : 8 * m ≤ length old → new ≡ put_at old (8 * n) (rows_bytes rows)

-- all rows were put, or they don't fit and a number says so
abbrev pub Filled : ℕ → List Row → List ℕ → List ℕ → Result ℕ Refusal → Type 0
Filled number rows old new (Err r) = (refusal_number r ≡ number) × (length old < 8 * length rows) × (new ≡ old)
Filled number rows old new (Ok n) = (n ≡ length rows) × (8 * length rows ≤ length old) × (new ≡ put_at old 0 (rows_bytes rows))
