-- What an index of a book's entries says.
use Rattle.std.specs.Prelude.{ℕ, ◌<◌, ◌≡◌, true, List, drop, is_some}
use Rattle.books.specs.Layout.{kept_front}
use Rattle.id_index.specs.Code.{count_of, place_in, IsIndex}
use Rattle.id_index.specs.declared.Index as code-index

-- x is an index of the entries in the bytes s
pub record Entries (s : List ℕ) (x : code-index.Index) : Type 0 where
  pub index : IsIndex s x
  pub fronts : (j : ℕ) → j < count_of x → is_some (kept_front (drop (place_in x j) s)) ≡ true
