-- Ticket U2 of document 02, "Every rule that fired": what the rows of a judgement are beside its verdict.
use Rattle.std.specs.Prelude.{ℕ, ◌+◌, ◌*◌, ◌/◌, ◌%◌, ◌≤◌, ◌<◌, ◌≡◌, ◌⊎◌, Bool, true, false, map, length, drop, eqb, Some}
use mathlib.Core.List.{List, [], ◌∷◌, ◌++◌, Memᴰ}
use Rattle.base.specs.Base.{pick, is_empty, last_of}
use Rattle.point.specs.Point.{PointId, PointInfo}
use Rattle.point.specs.declared.data.AnchorStageRole.{AnchorStageRole}
use Rattle.point.specs.declared.data.AnchorStageRole.TheVariants.{Proof, Trigger}
use Rattle.point.specs.declared.data.PointMap.{PointMap}
use Rattle.schedule.specs.Settings.{Settings}
use Rattle.reasons.specs.Invalid.{InvalidReason, NoRoundInDag, DependencyRoundDropped, NewerAnchorInDependency, AnchorLink}
use Rattle.reasons.specs.Invalid.{AnchorLinkRole, AnchorLinkBadPath, invalid_answer, invalid_number}
use Rattle.reasons.specs.Verdict as verdict
use Rattle.rules.specs.DagPoint.{Entry, IndirectEntry, point_view, is_dropped}
use Rattle.rules.specs.List.{Listed, read_list, directs, indirects}
use Rattle.rules.specs.Validate.{Findings, nothing, entry_findings, indirect_findings, check_valid, check_indirect_links}
use Rattle.rules.specs.Validate.{result_with, over_lists}
use Rattle.rules.specs.Judge.{Input, Tested, admitted, tested, flags_ok, Number, Given, needed, before, verify_buffer}
use Rattle.rules.specs.Told.{Call, judged}
use Rattle.rules.specs.Trail.{Row, row, rows_at, direct_rows, indirect_rows, list_rows, rule_row, trail_with, rows_bytes}
use Rattle.rules.specs.Trail.{fitted, rows_told, trail_told}

abbrev pub reason_of_row : Row → InvalidReason
reason_of_row r = r.reason

-- rows "read without list and place"
abbrev pub reasons_in : List Row → List InvalidReason
reasons_in rows = map reason_of_row rows

-- what a call goes on with
abbrev pub tested_of : Call → Tested
tested_of x = tested x.settings x.schedule x.point (flags_ok x.leader x.presence) x.size

-- the rows of a call that takes a trail as well
abbrev pub trail_of : Call → List Row
trail_of x = trail_with x.leader x.presence x.list (tested_of x)

-- all that judging found over two lists, as `over_lists` puts it together
abbrev pub all_findings : Settings → Bool → PointInfo → List Entry → List IndirectEntry → Findings
all_findings c required p es ts =
    let direct = check_valid c required (point_view p) nothing es in
    pick (is_empty direct.trail) (check_indirect_links c p direct ts) direct

-- what a row says of a reason's role, and the reasons that name one: 12 to 15
abbrev pub role_byte : InvalidReason → ℕ
role_byte r = (invalid_answer r).role

abbrev pub naming : AnchorStageRole → PointId → List InvalidReason
naming g i = NewerAnchorInDependency g i ∷ AnchorLink g i ∷ AnchorLinkRole g i ∷ AnchorLinkBadPath g i ∷ []

-- ---- the statement

pub record RulesFired : Type 0 where
  -- the rows are the trail of judging, and verdicts over lists are made of that trail's last
  pub same : (c : Settings) (required : Bool) (p : PointInfo) (es : List Entry) (ts : List IndirectEntry) →
      reasons_in (list_rows c required p es ts) ≡ (all_findings c required p es ts).trail
  pub verdicts : (c : Settings) (required : Bool) (p : PointInfo) (es : List Entry) (ts : List IndirectEntry) →
      over_lists c required p es ts ≡ result_with (last_of (all_findings c required p es ts).trail) (all_findings c required p es ts).root
  -- a call over a list, whose reason is not the presence rule's, gives all the rows of its entries
  pub listed : (x : Call) (i : Input) (required : Bool) (l : List Listed) (v : verdict.Verdict) → tested_of x ≡ admitted i →
      before i.settings i.schedule (eqb x.leader 1) i.point ≡ needed required → read_list x.list ≡ Some l → judged x ≡ Given v →
      ((m : PointMap) → v ≡ verdict.Invalid (NoRoundInDag m) → ⊥) → trail_of x ≡ list_rows i.settings required i.point (directs l) (indirects l)
  -- "the last row names the verdict's reason"
  pub last : (x : Call) (r : InvalidReason) → judged x ≡ Given (verdict.Invalid r) → last_of (reasons_in (trail_of x)) ≡ Some r
  -- "Only reasons of Invalid have rows"; "Without a reason there are no rows"
  pub others : (x : Call) (v : verdict.Verdict) → judged x ≡ Given v → ((r : InvalidReason) → v ≡ verdict.Invalid r → ⊥) → trail_of x ≡ []
  -- "If the presence rule set the reason, its row stands alone, with place 0 and role 255"
  pub rule : (x : Call) (m : PointMap) → judged x ≡ Given (verdict.Invalid (NoRoundInDag m)) → trail_of x ≡ rule_row m
  pub rule_bytes : (m : PointMap) → rows_bytes (rule_row m) ≡ 0 ∷ 0 ∷ 0 ∷ 2 ∷ 255 ∷ 0 ∷ 0 ∷ 0 ∷ []
  -- "A row holds the list .., the entry's place in that list (2 bytes, from 0), the reason number, the role that it names (0 proof,
  -- 1 trigger) or 255, and three zeros". A list's places fit two bytes
  pub bytes : (list place : ℕ) (r : InvalidReason) (rest : List Row) →
      rows_bytes (row list place r ∷ rest)
      ≡ list ∷ place % 256 ∷ place / 256 % 256 ∷ invalid_number r ∷ role_byte r ∷ 0 ∷ 0 ∷ 0 ∷ rows_bytes rest
  pub places : (x : Call) (r : Row) → Memᴰ r (trail_of x) → r.place < 65535
  pub proofs : (i : PointId) → map role_byte (naming Proof i) ≡ 0 ∷ 0 ∷ 0 ∷ 0 ∷ []
  pub triggers : (i : PointId) → map role_byte (naming Trigger i) ≡ 1 ∷ 1 ∷ 1 ∷ 1 ∷ []
  pub unnamed : (r : InvalidReason) → (invalid_number r < 12) ⊎ (15 < invalid_number r) → role_byte r ≡ 255
  -- "in the order of judging": a direct entry's rows stand after those of the entries before it, at its place
  pub first : (c : Settings) (required : Bool) (p : PointInfo) → direct_rows c required (point_view p) 0 [] [] ≡ []
  pub next : (c : Settings) (required : Bool) (p : PointInfo) (earlier : List Entry) (e : Entry) →
      ((d : Entry) → Memᴰ d (earlier ++ (e ∷ [])) → is_dropped d.state ≡ false) →
      direct_rows c required (point_view p) 0 [] (earlier ++ (e ∷ []))
      ≡ direct_rows c required (point_view p) 0 [] earlier ++ rows_at 1 (length earlier) (entry_findings c required (point_view p) e).trail
  -- a dropped one sets its reason where none is set, and ends the list; "A dropped entry after an earlier reason adds none"
  pub drops : (c : Settings) (required : Bool) (p : PointInfo) (earlier later : List Entry) (e : Entry) → is_dropped e.state ≡ true →
      direct_rows c required (point_view p) 0 [] earlier ≡ [] →
      direct_rows c required (point_view p) 0 [] (earlier ++ (e ∷ later)) ≡ row 1 (length earlier) DependencyRoundDropped ∷ []
  pub adds_none : (c : Settings) (required : Bool) (p : PointInfo) (earlier later : List Entry) (e : Entry) → is_dropped e.state ≡ true →
      is_empty (direct_rows c required (point_view p) 0 [] earlier) ≡ false →
      direct_rows c required (point_view p) 0 [] (earlier ++ (e ∷ later)) ≡ direct_rows c required (point_view p) 0 [] earlier
  -- indirect entries likewise, where the direct ones gave none; a dropped one among them adds none
  pub indirect_first : (c : Settings) (p : PointInfo) → indirect_rows c p 0 [] [] ≡ []
  pub indirect_next : (c : Settings) (p : PointInfo) (earlier : List IndirectEntry) (a : IndirectEntry) →
      indirect_rows c p 0 [] (earlier ++ (a ∷ [])) ≡ indirect_rows c p 0 [] earlier ++ rows_at 2 (length earlier) (indirect_findings c p a).trail
  pub indirect_dropped : (c : Settings) (p : PointInfo) (a : IndirectEntry) → is_dropped a.entry.state ≡ true →
      (indirect_findings c p a).trail ≡ []
  pub either : (c : Settings) (required : Bool) (p : PointInfo) (es : List Entry) (ts : List IndirectEntry) →
      (is_empty (direct_rows c required (point_view p) 0 [] es) ≡ false →
      list_rows c required p es ts ≡ direct_rows c required (point_view p) 0 [] es)
      × (direct_rows c required (point_view p) 0 [] es ≡ [] → list_rows c required p es ts ≡ indirect_rows c p 0 [] ts)
  -- "15, the trail has space for fewer rows than there are, tested after judging"; with a number the peer buffer keeps its bytes too
  pub short : (x : Call) (size : ℕ) (v : verdict.Verdict) → judged x ≡ Given v → size < 8 * length (trail_of x) →
      fitted (judged x) (trail_of x) size ≡ Number 15
  pub fits : (x : Call) (size : ℕ) (v : verdict.Verdict) → judged x ≡ Given v → 8 * length (trail_of x) ≤ size →
      fitted (judged x) (trail_of x) size ≡ Given v
  -- a trail of list_len + 8 bytes has room for all rows, whatever the call
  pub room : (x : Call) → 8 * length (trail_of x) ≤ length x.list + 8
  pub number : (x : Call) (size n : ℕ) → judged x ≡ Number n → fitted (judged x) (trail_of x) size ≡ Number n
  pub buffer : (x : Call) (size n : ℕ) (peers : List ℕ) → fitted (judged x) (trail_of x) size ≡ Number n →
      verify_buffer (tested_of x) peers ≡ peers
  -- "a call that fills a lent output tells how many bytes or rows it wrote, and the output behind them keeps its bytes"; with a number
  -- all of it does
  pub written : (v : verdict.Verdict) (rows : List Row) (old : List ℕ) →
      trail_told (Given v) rows old ≡ rows_bytes rows ++ drop (8 * length rows) old
  pub counted : (v : verdict.Verdict) (rows : List Row) (old : ℕ) → rows_told (Given v) rows old ≡ length rows
  pub kept : (n : ℕ) (rows : List Row) (old : List ℕ) → trail_told (Number n) rows old ≡ old
  pub uncounted : (n : ℕ) (rows : List Row) (old : ℕ) → rows_told (Number n) rows old ≡ old
