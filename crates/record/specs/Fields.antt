-- A record as its nine contents, and the bytes of a record that has these.
use Rattle.std.specs.Prelude.{ℕ, List, [], ◌∷◌, ◌++◌, length}
use Rattle.base.specs.Base.{tabulate}
use Rattle.parts.specs.Bytes.{little_bytes}
use Rattle.record.specs.Record.{content_of, rows}
use Rattle.record.specs.declared.Row.{Row}

-- "a tag (1 byte), a length (2 bytes) and content"
unfoldable pub field_bytes : ℕ → List ℕ → List ℕ
unfolding little_bytes
field_bytes tag content = tag ∷ little_bytes 2 (length content) ++ content

-- fields one after the other, each with its row's tag
unfoldable pub fields_bytes : List Row → List (List ℕ) → List ℕ
unfolding field_bytes
fields_bytes [] cs = []
fields_bytes (r ∷ rs) [] = []
fields_bytes (r ∷ rs) (c ∷ cs) = field_bytes r.tag c ++ fields_bytes rs cs

-- the record of nine contents
unfoldable pub record_bytes : List (List ℕ) → List ℕ
unfolding fields_bytes rows
record_bytes cs = fields_bytes rows cs

-- the contents of a record
unfoldable pub contents : List ℕ → List (List ℕ)
unfolding tabulate content_of
contents s = tabulate (content_of s) 9 0
