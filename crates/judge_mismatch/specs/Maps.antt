-- What the marked maps of the code stand for, and what the walk over the direct entries finds. They stand apart from Code, on which
-- the struct MarkedMap rests.
use Rattle.std.specs.Prelude.{ℕ, ◌≤◌, ◌<◌, true, false, List, [], get_or, drop, length, sum_by, ◌≡◌, Option, None, Some, is_some}
use Rattle.map.specs.Rows.{Pair, peers_of, pairs_of}
use Rattle.point.specs.Point.{PointId, PointInfo}
use Rattle.rules.specs.List.{read_list, directs, indirects}
use Rattle.rules.specs.Mismatch.{has_id, pair_id, all_placed, ids_of, dropped_in}
use Rattle.judge_mismatch.specs.Code.{listed, map_round, map_pairs, maps_in, no_pair, unmarked}
use Rattle.judge_mismatch.specs.declared.maps.MarkedMap as code-map
use Rattle.judge_mismatch.specs.declared.walk.Walked as code-walked

-- a map is that of a round and of these pairs, and the rows are marked that one of the ids stands for
pub record Marked (round : ℕ) (l : List Pair) (ids : List PointId) (x : code-map.MarkedMap) : Type 0 where
  pub at_round : x.round ≡ round
  pub rows : pairs_of x.rows.now ≡ l
  pub room : length x.seen ≡ 255
  pub seen : (i : ℕ) → i < length l → get_or x.seen i false ≡ has_id ids (pair_id round (get_or l i no_pair))

-- the maps are the first of a point, marked by these ids
abbrev pub MapsMarked : PointInfo → List PointId → List code-map.MarkedMap → Type 0
MapsMarked p ids maps = (m : ℕ) (x : code-map.MarkedMap) → m < length maps → Marked (map_round p m) (map_pairs p m) ids (get_or maps m x)

-- how many rows of the maps are not marked
abbrev pub lacks : code-map.MarkedMap → ℕ
lacks x = unmarked (length (peers_of 64 x.rows.now)) x.seen

abbrev pub zeros : List code-map.MarkedMap → ℕ
zeros maps = sum_by lacks maps

-- every entry has its place: then the walk counted the dropped ones, marked the rows and ended where the indirect entries begin
pub record AllPlaced (presence : ℕ) (p : PointInfo) (s : List ℕ) (maps : List code-map.MarkedMap) (dropped end : ℕ) : Type 0 where
  pub placed : all_placed presence p [] (directs (listed s)) ≡ true
  pub count : dropped ≡ dropped_in (directs (listed s))
  pub many : length maps ≡ maps_in presence
  pub marks : MapsMarked p (ids_of (directs (listed s))) maps
  pub within : end ≤ length s
  pub left : is_some (read_list (drop end s)) ≡ true
  pub after : directs (listed (drop end s)) ≡ []
  pub targets : indirects (listed (drop end s)) ≡ indirects (listed s)

-- what the walk finds: nothing where an entry fails
abbrev pub DirectsFound : ℕ → PointInfo → List ℕ → List code-map.MarkedMap → Option code-walked.Walked → Type 0
DirectsFound presence p s maps None = all_placed presence p [] (directs (listed s)) ≡ false
DirectsFound presence p s maps (Some w) = AllPlaced presence p s maps w.dropped w.end
