-- What is known of a blob that was read.
use Rattle.std.specs.Prelude.{ℕ, ◌≤◌, ◌≡◌, List, length, take, drop}

-- a blob that was read to a place of a buffer stands there, ends inside, and leaves what is around it
pub record BlobRead (old : List ℕ) (at : ℕ) (new : List ℕ) (end : ℕ) : Type 0 where
  pub inside : end ≤ length old
  pub from : at ≤ end
  pub before : take at new ≡ take at old
  pub after : drop end new ≡ drop end old
