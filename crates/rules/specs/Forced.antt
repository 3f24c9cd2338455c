-- Ticket U11 of document 02, "What the network can force": the game. "The author fixes point and entries, the network fixes arrival."
use Rattle.std.specs.Prelude.{ℕ, ◌+◌, ◌*◌, ◌≤◌, ◌<◌, ◌≡◌, ◌⊎◌, Bool, true, false, length, drop, eqb, Some, Err, Ok, Result}
use mathlib.Core.List.{List, [], ◌∷◌, ◌++◌, Memᴰ, Permᴰ}
use Rattle.base.specs.Base.{is_empty, last_of}
use Rattle.parts.specs.Limits.{peers_room}
use Rattle.point.specs.Point.{PointInfo}
use Rattle.point.specs.declared.data.PointMap.{PointMap}
use Rattle.schedule.specs.Settings.{Settings}
use Rattle.reasons.specs.Invalid.{InvalidReason, NoRoundInDag, DependencyRoundDropped, invalid_number}
use Rattle.reasons.specs.Verdict as verdict
use Rattle.rules.specs.DagPoint.{Entry, IndirectEntry, point_view, is_dropped}
use Rattle.rules.specs.Validate.{entry_findings, indirect_findings}
use Rattle.rules.specs.List.{Listed, read_list, directs, indirects}
use Rattle.rules.specs.Judge.{Input, Tested, admitted, Number, Given, needed, before, tested, flags_ok}
use Rattle.rules.specs.Told.{Call, judged}
use Rattle.rules.specs.AnyOrder.{AllEntries, with_list}
use Rattle.rules.specs.Fired.{reasons_in}
use Rattle.rules.specs.Trail.{Row, rule_row, rows_bytes}
use Rattle.rules.specs.Force.{direct_finals, finals, ranked, forceable_with, force_with, list_told, count_told}

-- ---- the game

-- what the author fixes: a call with a peer buffer that is large enough, but for its list; and the direct and the indirect entries of the
-- list, as handed in
pub record Game : Type 0 where
  pub call : Call
  pub directs : List (List ℕ)
  pub indirects : List (List ℕ)
  pub are_direct : AllEntries false directs
  pub are_indirect : AllEntries true indirects
  pub room : peers_room ≤ call.size

-- what the network fixes: "each kind in any order"
pub record Arrival (g : Game) : Type 0 where
  pub directs : List (List ℕ)
  pub indirects : List (List ℕ)
  pub same_directs : Permᴰ g.directs directs
  pub same_indirects : Permᴰ g.indirects indirects

-- the call as the author hands it in, and as the network does
abbrev pub handed_in : Game → Call
handed_in g = with_list g.call g.directs g.indirects

abbrev pub arrived : (g : Game) → Arrival g → Call
arrived g a = with_list g.call a.directs a.indirects

-- "some order gives" a reason, and "an author can force it": every order does
abbrev pub Gives : (g : Game) → Arrival g → InvalidReason → Type 0
Gives g a r = judged (arrived g a) ≡ Given (verdict.Invalid r)

abbrev pub SomeGives : Game → InvalidReason → Type 0
SomeGives g r = (a : Arrival g) × Gives g a r

abbrev pub Forces : Game → InvalidReason → Type 0
Forces g r = (a : Arrival g) → Gives g a r

-- ---- the list

-- what the call tests for 1 to 4: it takes no peer buffer
abbrev pub tested_of : Call → Tested
tested_of x = tested x.settings x.schedule x.point (flags_ok x.leader x.presence) peers_room

abbrev pub rows_of : Call → List Row
rows_of x = forceable_with x.leader x.presence x.list (tested_of x)

-- what the call gives of the author's list, with room for so many bytes
abbrev pub forcing : Call → ℕ → Result (List Row) ℕ
forcing x size = force_with x.leader x.presence x.list (tested_of x) size

abbrev pub Lists : Game → List Row → Type 0
Lists g rows = (size : ℕ) × (forcing (handed_in g) size ≡ Ok rows)

-- both ways
abbrev pub Same : Type 0 → Type 0 → Type 0
Same A B = (A → B) × (B → A)

abbrev pub NoneDropped : List Entry → Type 0
NoneDropped es = (e : Entry) → Memᴰ e es → is_dropped e.state ≡ false

-- a direct entry's, or an indirect one's, final reason
abbrev pub IsFinal : Settings → Bool → PointInfo → Entry → InvalidReason → Type 0
IsFinal c required p e r = (is_dropped e.state ≡ false) × (last_of (entry_findings c required (point_view p) e).trail ≡ Some r)

abbrev pub IsTargetFinal : Settings → PointInfo → IndirectEntry → InvalidReason → Type 0
IsTargetFinal c p a r = last_of (indirect_findings c p a).trail ≡ Some r

abbrev pub HasFinal : Settings → Bool → PointInfo → List Entry → InvalidReason → Type 0
HasFinal c required p es r = (e : Entry) × Memᴰ e es × IsFinal c required p e r

abbrev pub HasTarget : Settings → PointInfo → List IndirectEntry → InvalidReason → Type 0
HasTarget c p ts r = (a : IndirectEntry) × Memᴰ a ts × IsTargetFinal c p a r

-- an element at a place of a list
abbrev pub At : {A : Type 0} → List A → ℕ → A → Type 0
At {A} l place x = (before : List A) × (after : List A) × (l ≡ before ++ (x ∷ after)) × (length before ≡ place)

-- ---- the statement

pub record Forced : Type 0 where
  -- "List every reason that some order gives": each listed is given by some order of the bytes, and each given is listed
  pub listed : (g : Game) (rows : List Row) → Lists g rows → (r : InvalidReason) → Same (Memᴰ r (reasons_in rows)) (SomeGives g r)
  -- "each once", "by reason number and then by the entry's place", which takes two bytes
  pub once : (g : Game) (rows before after : List Row) (x y : Row) → Lists g rows → rows ≡ before ++ (x ∷ after) → Memᴰ y after →
      x.reason ≡ y.reason → ⊥
  pub order : (g : Game) (rows before after : List Row) (x y : Row) → Lists g rows → rows ≡ before ++ (x ∷ after) → Memᴰ y after →
      (invalid_number x.reason < invalid_number y.reason) ⊎ ((invalid_number x.reason ≡ invalid_number y.reason) × (x.place < y.place))
  pub places : (x : Call) (r : Row) → Memᴰ r (rows_of x) → r.place < 65535
  -- "equal reasons, and drops, take the earliest place"
  pub earliest : (c : Settings) (required : Bool) (p : PointInfo) (es : List Entry) (ts : List IndirectEntry) (x y : Row) →
      Memᴰ x (ranked (finals c required p es ts)) → Memᴰ y (finals c required p es ts) → x.reason ≡ y.reason →
      Memᴰ x (finals c required p es ts) × (x.place ≤ y.place)
  -- "An author who wants a particular reason can force it exactly when the list holds that reason and nothing else"
  pub forces : (g : Game) (rows : List Row) → Lists g rows → (r : InvalidReason) → Same (Forces g r) (reasons_in rows ≡ r ∷ [])
  -- "An empty list means that no order makes the point Invalid"
  pub never : (g : Game) (rows : List Row) → Lists g rows → Same (rows ≡ []) ((r : InvalidReason) → SomeGives g r → ⊥)
  -- a call over a list, whose reason is not the presence rule's, lists what the entries give
  pub over_list : (x : Call) (size : ℕ) (i : Input) (required : Bool) (l : List Listed) (rows : List Row) → tested_of x ≡ admitted i →
      before i.settings i.schedule (eqb x.leader 1) i.point ≡ needed required → read_list x.list ≡ Some l → forcing x size ≡ Ok rows →
      ((m : PointMap) → rows ≡ rule_row m → ⊥) → rows ≡ ranked (finals i.settings required i.point (directs l) (indirects l))
  -- "Without a dropped direct entry these are the final reasons of the direct entries that give one"
  pub undropped : (c : Settings) (required : Bool) (p : PointInfo) (es : List Entry) (r : InvalidReason) → NoneDropped es →
      Same (Memᴰ r (reasons_in (direct_finals c required (point_view p) 0 es))) (HasFinal c required p es r)
  -- "With a dropped one, `DependencyRoundDropped` joins them"
  pub dropped : (c : Settings) (required : Bool) (p : PointInfo) (es : List Entry) (r : InvalidReason) → (NoneDropped es → ⊥) →
      Same (Memᴰ r (reasons_in (direct_finals c required (point_view p) 0 es))) (HasFinal c required p es r ⊎ (r ≡ DependencyRoundDropped))
  -- "If the direct entries give none, the same is asked of the indirect entries, where dropped ones add nothing"
  pub direct : (c : Settings) (required : Bool) (p : PointInfo) (es : List Entry) (ts : List IndirectEntry) →
      is_empty (direct_finals c required (point_view p) 0 es) ≡ false → finals c required p es ts ≡ direct_finals c required (point_view p) 0 es
  pub indirect : (c : Settings) (required : Bool) (p : PointInfo) (es : List Entry) (ts : List IndirectEntry) (r : InvalidReason) →
      direct_finals c required (point_view p) 0 es ≡ [] → Same (Memᴰ r (reasons_in (finals c required p es ts))) (HasTarget c p ts r)
  pub indirect_dropped : (c : Settings) (p : PointInfo) (a : IndirectEntry) → is_dropped a.entry.state ≡ true →
      (indirect_findings c p a).trail ≡ []
  -- "in rows like the trail's", with "the entry's place in its list as handed in": one for each entry that gives a reason
  pub direct_rows : (c : Settings) (required : Bool) (p : PointInfo) (es : List Entry) (x : Row) →
      Same (Memᴰ x (direct_finals c required (point_view p) 0 es))
      ((x.list ≡ 1)
      × (e : Entry)
      × At es x.place e
      × (IsFinal c required p e x.reason ⊎ ((is_dropped e.state ≡ true) × (x.reason ≡ DependencyRoundDropped))))
  pub indirect_rows : (c : Settings) (required : Bool) (p : PointInfo) (es : List Entry) (ts : List IndirectEntry) (x : Row) →
      direct_finals c required (point_view p) 0 es ≡ [] →
      Same (Memᴰ x (finals c required p es ts)) ((x.list ≡ 2) × (a : IndirectEntry) × At ts x.place a × IsTargetFinal c p a x.reason)
  -- "The presence rules leave one reason only"
  pub rule : (g : Game) (rows : List Row) (m : PointMap) → Lists g rows →
      judged (handed_in g) ≡ Given (verdict.Invalid (NoRoundInDag m)) → rows ≡ rule_row m
  -- the numbers are judging's, without 5; "17, the lent list is too short for the reasons; it comes last"
  pub number : (g : Game) (size n : ℕ) → judged (handed_in g) ≡ Number n → forcing (handed_in g) size ≡ Err n
  pub no_five : (x : Call) (size : ℕ) → forcing x size ≡ Err 5 → ⊥
  pub short : (g : Game) (size : ℕ) (v : verdict.Verdict) → judged (handed_in g) ≡ Given v → size < 8 * length (rows_of (handed_in g)) →
      forcing (handed_in g) size ≡ Err 17
  pub only_short : (x : Call) (size : ℕ) → forcing x size ≡ Err 17 → size < 8 * length (rows_of x)
  pub fits : (g : Game) (size : ℕ) (v : verdict.Verdict) → judged (handed_in g) ≡ Given v → 8 * length (rows_of (handed_in g)) ≤ size →
      forcing (handed_in g) size ≡ Ok (rows_of (handed_in g))
  -- a list of list_len + 8 bytes has room for all rows, whatever the call
  pub room : (x : Call) → 8 * length (rows_of x) ≤ length x.list + 8
  -- "a call that fills a lent output tells how many bytes or rows it wrote, and the output behind them keeps its bytes"; with a number
  -- all of it does
  pub written : (rows : List Row) (old : List ℕ) → list_told (Ok rows) old ≡ rows_bytes rows ++ drop (8 * length rows) old
  pub counted : (rows : List Row) (old : ℕ) → count_told (Ok rows) old ≡ length rows
  pub kept : (n : ℕ) (old : List ℕ) → list_told (Err n) old ≡ old
  pub uncounted : (n old : ℕ) → count_told (Err n) old ≡ old
