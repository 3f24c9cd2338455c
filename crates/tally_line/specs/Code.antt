-- What the functions that write a line promise each other.
use Rattle.std.specs.Prelude.{ℕ, ◌+◌, ◌≡◌, List, length}
use Rattle.parts.specs.Bytes.{put_at}

-- bytes were written into a list from a place on, the rest of it is as before, and they end there
pub record Put (before : List ℕ) (at : ℕ) (bytes after : List ℕ) (end : ℕ) : Type 0 where
  pub written : after ≡ put_at before at bytes
  pub ends : end ≡ at + length bytes
