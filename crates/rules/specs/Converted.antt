-- Ticket U5 of document 02, "Peers first, digests after": "every judging result over converted records is the result that the originals
-- had before this ticket". What the originals had is what the definitions give at the old arrangement, `Pairs`; the calls of today are
-- the same definitions at `Columns`. books/specs/Converted.antt says it of offers to a book.
use Rattle.std.specs.Prelude.{ℕ, ◌+◌, ◌≤◌, ◌≡◌, ◌⊎◌, Bool, true, length, Option, None, Some, option_map}
use mathlib.Core.List.{List, [], ◌∷◌, ◌++◌, Memᴰ}
use Rattle.map.specs.declared.Arrangement.{Arrangement}
use Rattle.map.specs.declared.Arrangement.TheVariants.{Pairs}
use Rattle.map.specs.Rows.{pairs_in}
use Rattle.map.specs.Moved.{other, moved}
use Rattle.record.specs.Record.{well_shaped}
use Rattle.point.specs.Point.{PointInfo}
use Rattle.point.specs.Reading.{read_point_in}
use Rattle.point.specs.Converted.{converted}
use Rattle.point.specs.declared.data.AnchorStageRole.{AnchorStageRole}
use Rattle.rules.specs.DagPoint.{Entry}
use Rattle.rules.specs.List.{Listed, record_front_in, read_entry_in, read_list_in}
use Rattle.rules.specs.Judge.{tested, tested_in, verify_buffer}
use Rattle.rules.specs.Told.{Call, handing, verified, verified_in, judged, judged_in}

-- ---- "converted records" in a list of dependencies

-- a list in pieces: what stands before the record of an entry, with the record; an entry without one; or an end that is no entry
pub data Piece : Type 0 where
  recorded : (head rec : List ℕ) → Piece
  bare : (entry : List ℕ) → Piece
  cut : (rest : List ℕ) → Piece

-- the bytes of a list, each record by a function
unfoldable pub list_bytes : (List ℕ → List ℕ) → List Piece → List ℕ
list_bytes f [] = []
list_bytes f (recorded head rec ∷ l) = head ++ (f rec ++ list_bytes f l)
list_bytes f (bare entry ∷ l) = entry ++ list_bytes f l
list_bytes f (cut rest ∷ l) = rest

-- bytes that stand before the record of an entry: whatever follows them, in either arrangement, the entry is made of the record that
-- stands there; or no entry can be read, or it lies outside the domain
abbrev pub IsHead : List ℕ → Type 0
IsHead head =
    ((aim : Option AnchorStageRole)
    × ((made : PointInfo → Entry)
    × ((a : Arrangement) (s : List ℕ) →
    read_entry_in a (head ++ s)
    ≡ option_map (λ x. record { aim = aim; entry = made x.point; size = length head + x.size }) (record_front_in a s))))
    ⊎ ((a : Arrangement) (s : List ℕ) → read_entry_in a (head ++ s) ≡ None)

-- bytes that are an entry without a record, whatever follows them, in either arrangement
abbrev pub IsBare : List ℕ → Type 0
IsBare entry =
    ((x : Listed) × ((x.size ≡ length entry) × ((a : Arrangement) (s : List ℕ) → read_entry_in a (entry ++ s) ≡ Some x)))
    ⊎ ((a : Arrangement) (s : List ℕ) → read_entry_in a (entry ++ s) ≡ None)

-- a record of an entry is nine fields, whatever they say; a list may be cut off, where no record can be converted
abbrev pub IsPiece : Piece → Type 0
IsPiece (recorded head rec) = IsHead head × (well_shaped rec ≡ true)
IsPiece (bare entry) = IsBare entry
IsPiece (cut rest) = (a : Arrangement) → read_entry_in a rest ≡ None

abbrev pub ArePieces : List Piece → Type 0
ArePieces l = (p : Piece) → Memᴰ p l → IsPiece p

abbrev pub as_it_is : List ℕ → List ℕ
as_it_is s = s

-- ---- the statement

pub record RecordsConverted : Type 0 where
  -- the arrangements in bytes, of a map of two pairs: "pairs of peer (32) and digest (32)" become "all peers rising, then all digests in
  -- the same order"
  pub turned : (x d y e : List ℕ) → length x ≡ 32 → length d ≡ 32 → length y ≡ 32 → length e ≡ 32 →
      moved Pairs (x ++ (d ++ (y ++ e))) ≡ x ++ (y ++ (d ++ e))
  -- "A point means the same in both": the one fact about bytes, of a map
  pub means : (a : Arrangement) (s : List ℕ) → pairs_in (other a) (moved a s) ≡ pairs_in a s
  -- and of a record: it reads as the very same point, or can't be read, as it couldn't before
  pub reads : (a : Arrangement) (s : List ℕ) → read_point_in (other a) (converted a s) ≡ read_point_in a s
  -- "there and back gives the same bytes"; and the length stays
  pub back : (a : Arrangement) (s : List ℕ) → converted (other a) (converted a s) ≡ s
  pub long : (a : Arrangement) (s : List ℕ) → length (converted a s) ≡ length s
  -- verifying: the result, and every byte of the peer buffer
  pub verifying : (x : Call) → verified (handing x (converted Pairs x.point) x.list) ≡ verified_in Pairs x
  pub buffer : (x : Call) (others : Bool) (peers : List ℕ) →
      verify_buffer (tested x.settings x.schedule (converted Pairs x.point) others x.size) peers
      ≡ verify_buffer (tested_in Pairs x.settings x.schedule x.point others x.size) peers
  -- judging "with converted lists"; the buffer is as above
  pub judging : (x : Call) (l : List Piece) → ArePieces l →
      judged (handing x (converted Pairs x.point) (list_bytes (converted Pairs) l))
      ≡ judged_in Pairs (handing x x.point (list_bytes as_it_is l))
  -- every list that could be read is made of such pieces
  pub pieces : (s : List ℕ) (l : List Listed) → read_list_in Pairs s ≡ Some l →
      (ps : List Piece) × (ArePieces ps × (s ≡ list_bytes as_it_is ps))
  -- and where presence is 0 or 1 no list is read
  pub unread : (x : Call) (s t : List ℕ) → x.presence ≤ 1 →
      judged (handing x (converted Pairs x.point) t) ≡ judged_in Pairs (handing x x.point s)
