-- Judging a point by the lists that a book builds of its entries, and what the code's values stand for.
use Rattle.std.specs.Prelude.{ℕ, ◌+◌, ◌-◌, ◌≤◌, ◌≡◌, Bool, true, false, not, ◌&&◌, ◌||◌, [], length, drop, Option, None, Some}
use Rattle.std.specs.Prelude.{option_map}
use mathlib.Core.List.{List, Memᴰ}
use Rattle.parts.specs.Bytes.{bytes_at}
use Rattle.judge_valid.specs.Code.{point_view_of}
use Rattle.base.specs.Base.{pick}
use Rattle.map.specs.Rows.{Pair, pairs_of}
use Rattle.point.specs.Point.{PointInfo, PointId, AnchorLink, anchor_link, in_domain}
use Rattle.schedule.specs.Settings.{Settings}
use Rattle.reasons.specs.Verdict.{Verdict}
use Rattle.rules.specs.DagPoint.{Entry, PointView, point_view}
use Rattle.rules.specs.Validate.{validate}
use Rattle.judge_entries.specs.Entry.{entry_of}
use Rattle.judge_entries.specs.declared.entry.Entry as code-entry
use Rattle.judge_step.specs.Code.{as_first, Judging, direct_step, judging_of, start, direct_fold, indirect_fold}
use Rattle.rules.specs.Mismatch.{pair_id, is_version}
use Rattle.books.specs.Kept.{Kept, Book}
use Rattle.books.specs.Lists.{is_valid, is_of, direct_list, indirect_list, lookup, lookups, versions, target_entry}
use Rattle.id_index.specs.Code.{place_in, id_in, FoundAt}
use Rattle.id_index.specs.declared.Index as code-index
use Rattle.book_layout.specs.Code.{shown}
use Rattle.book_read.specs.Code.{Holds}
use Rattle.judge_valid.specs.declared.view.PointView as code_view
use Rattle.book_judge.specs.declared.direct.Versions as code-versions
use Rattle.parts.specs.Code.{number}
use Rattle.point.specs.Code.{point_of}
use Rattle.point.specs.declared.data.AnchorStageRole.{AnchorStageRole}
use Rattle.books.specs.Layout.{KeptFront, kept_front}
use Rattle.point.specs.declared.info.PointInfo as code-info

-- the verdict over the lists that the book builds, its marks made before; all rounds are present
abbrev pub over_book : Settings → Bool → PointInfo → Book → Verdict
over_book c required p b = validate c required 3 p (direct_list b p) (indirect_list b p)

-- ---- for contracts between functions

-- a book whose entries stand in the bytes, and the point that a view is of
pub record Asked (s : List ℕ) (b : Book) (x : code-index.Index) (v : code_view.PointView) (p : PointInfo) : Type 0 where
  pub holds : Holds s b x
  pub view : point_view_of v ≡ point_view p

-- an entry, but for whether it is first valid
abbrev pub looked_of : code-entry.Entry → Bool → Entry
looked_of r first = as_first first (entry_of r)

-- what was looked up is an entry, but for whether it is first valid
abbrev pub Looks : code-entry.Entry → Entry → Type 0
Looks r e = looked_of r e.first_valid ≡ e

-- none of these dependencies is a version of the author's point at r-1
abbrev pub NoVersions : PointInfo → ℕ → List Pair → Type 0
NoVersions p round l = (x : Pair) → Memᴰ x l → is_version p (pair_id round x) ≡ false

-- ---- the versions of an author

-- what they have given so far; seen says that one was Valid
pub record Versions : Type 0 where
  pub judging : Judging
  pub seen : Bool

abbrev pub versions_of : code-versions.Versions → Versions
versions_of w = record { judging = judging_of w.judging; seen = w.seen }

abbrev pub is_first : Kept → Bool → Bool
is_first k seen = is_valid k.status && not seen

-- the step of an entry of the book, if it is a version of the author's point at r-1
unfoldable pub version_step : Settings → Bool → PointView → Versions → Kept → Versions
unfolding direct_step
version_step c required p w k =
    pick (is_of (p.id.round - 1) p.id.author k)
    (record {
      judging = direct_step c required p w.judging (shown k (is_first k w.seen));
      seen = w.seen || is_first k w.seen;
    })
    w

-- ---- what functions promise of the book whose bytes are s and whose index is x, and of a point whose view is v

-- what was looked up is what the book says of an id
abbrev pub LookedUp : List ℕ → code-index.Index → code_view.PointView → PointId → code-entry.Entry → Type 0
LookedUp s x v i r = (b : Book) (p : PointInfo) → Asked s b x v p → (r.first_valid ≡ false) × Looks r (lookup b p i)

-- a record is that of the entry at a place, and stands in the bytes from there on
pub record RecordAt (s : List ℕ) (place : ℕ) (rec : List ℕ) : Type 0 where
  pub kept : option_map (λ (k : KeptFront). k.kept.bytes) (kept_front (drop place s)) ≡ Some rec
  pub part : rec ≡ bytes_at (length rec) s place
  pub inside : place + length rec ≤ length s

-- where none was found it is empty
abbrev pub RecordFound : List ℕ → code-index.Index → Option ℕ → List ℕ → Type 0
RecordFound s x (Some j) rec = RecordAt s (place_in x j) rec
RecordFound s x None rec = rec ≡ []

-- the record of what the index finds of an id
pub record RecordOf (s : List ℕ) (x : code-index.Index) (i : PointId) (rec : List ℕ) : Type 0 where
  pub found : Option ℕ
  pub there : FoundAt s x i found
  pub is : RecordFound s x found rec

-- the dependencies that a map's rows name at a round were judged, none of which is a version
abbrev pub MapJudged : Settings → Bool → code_view.PointView → ℕ → List ℕ → List ℕ → code-index.Index → Judging → Judging → Type 0
MapJudged c required v round rows s x old new =
    (b : Book) (p : PointInfo) → Asked s b x v p → NoVersions p round (pairs_of rows) →
    new ≡ direct_fold c required (point_view_of v) old (lookups b p round (pairs_of rows))

-- entry j was judged, if it is a version
abbrev pub VersionJudged : Settings → Bool → code_view.PointView → List ℕ → code-index.Index → ℕ → Versions → Versions → Type 0
VersionJudged c required v s x j old new =
    (k : Kept) (size : ℕ) → kept_front (drop (place_in x j) s) ≡ Some (record { kept = k; size = size }) → id_in s x j ≡ k.point.id →
    new ≡ version_step c required (point_view_of v) old k

-- the versions of the author's point at r-1 were judged, in the book's order
abbrev pub VersionsJudged : Settings → Bool → code_view.PointView → List ℕ → code-index.Index → Judging → Judging → Type 0
VersionsJudged c required v s x old new =
    (b : Book) → Holds s b x →
    new ≡ direct_fold c required (point_view_of v) old (versions b (v.id.round - 1) (number v.id.author) b)

-- the direct list that the book builds for a point of this record was judged
abbrev pub DirectListJudged : Settings → Bool → code_view.PointView → List ℕ → List ℕ → code-index.Index → Judging → Type 0
DirectListJudged c required v rec s x new =
    (b : Book) (i : code-info.PointInfo) → Asked s b x v (point_of rec i) → in_domain (point_of rec i) ≡ true →
    new ≡ direct_fold c required (point_view_of v) start (direct_list b (point_of rec i))

-- the target of a link was judged, if the link is indirect
abbrev pub TargetJudged : Settings → code_view.PointView → AnchorStageRole → AnchorLink → List ℕ → code-index.Index → Judging → Judging → Type 0
TargetJudged c v role link s x old new =
    (b : Book) (p : PointInfo) → Asked s b x v p → link ≡ anchor_link role p →
    new ≡ indirect_fold c p old (target_entry b p role link)

-- the indirect list that the book builds for a point was judged, whatever its record
abbrev pub TargetsJudged : Settings → code_view.PointView → code-info.PointInfo → List ℕ → code-index.Index → Judging → Judging → Type 0
TargetsJudged c v i s x old new =
    (b : Book) (rec : List ℕ) → Asked s b x v (point_of rec i) →
    new ≡ indirect_fold c (point_of rec i) old (indirect_list b (point_of rec i))

-- a point in the domain was judged by the book
abbrev pub BookJudged : Settings → Bool → PointInfo → List ℕ → code-index.Index → Verdict → Type 0
BookJudged c required p s x v = (b : Book) → Holds s b x → in_domain p ≡ true → v ≡ over_book c required p b
