-- The statement on found books: one claim about every list of offers since the opening. Quoted are docs/GUIDE.md's words for the
-- demand, and document 01's for the table of numbers, the book and its rule for marks, which document 02 makes wider.
use Rattle.std.specs.Prelude.{ℕ, ◌+◌, ◌-◌, ◌≤◌, ◌<◌, ◌≡◌, ◌⊎◌, ◌↔◌, Bool, true, false, not, length, T, ltb, eqb, Some}
use mathlib.Core.List.{List, [], ◌∷◌, ◌++◌, map, Memᴰ}
use Rattle.parts.specs.Bytes.{Bytes}
use Rattle.parts.specs.Limits.{entries_start, tag33_length, most_kept, longest_book}
use Rattle.map.specs.Rows.{Pair}
use Rattle.point.specs.Point.{PointId, Through, Includes, Witness, Indirect, PointInfo, is_anchor_proof, anchor_link, target, top, prev_id}
use Rattle.point.specs.Reading.{read_point}
use Rattle.point.specs.declared.data.AnchorStageRole.{AnchorStageRole}
use Rattle.point.specs.declared.data.AnchorStageRole.TheVariants.{Proof}
use Rattle.schedule.specs.Settings.{Settings, read_settings}
use Rattle.reasons.specs.IllFormed.{ill_formed_number}
use Rattle.reasons.specs.Invalid.{invalid_number, InvalidDependency}
use Rattle.reasons.specs.Verdict as verdict
use Rattle.reasons.specs.Verdict.{Verdict}
use Rattle.rules.specs.Judge.{Input, Tested, refused, admitted, tested, verify_buffer, JudgeAnswer, Number, Given}
use Rattle.rules.specs.Judge.{needed, before, flags_ok, judge_with}
use Rattle.rules.specs.Mismatch.{pair_id}
use Rattle.books.specs.Kept.{Status, Valid, TransInvalid, Invalid, IllFormed, Kept, Book, find_kept, Opened}
use Rattle.books.specs.Offer.{Offer, Result, offer}
use Rattle.books.specs.Run.{Moment, Run, moment_of, run, AreBytes}
use Rattle.books.specs.Layout.{read_book}
use Rattle.books.specs.ListFor.{list_for}
use Rattle.books.specs.Calls.{open_number, open_bytes, opened, laid_out, in_bytes, offer_bytes, IsOfferNumber}
use Rattle.books.specs.Following.{IsFormed, is_usable, IsReached, IsStopped, Way}

-- ---- what the offers did: their entries by their answers, their marks by the rule

-- an entry as an answer tells it: the record, and the verdict with reason, root cause, map and peer
pub record Left : Type 0 where
  pub bytes : List ℕ
  pub status : Status

abbrev pub leaves : List ℕ → JudgeAnswer → List Left
leaves bytes (Number n) = []
leaves bytes (Given (verdict.Fail u)) = []
leaves bytes (Given (verdict.IllFormed r)) = record { bytes = bytes; status = IllFormed (ill_formed_number r) } ∷ []
leaves bytes (Given (verdict.Invalid r)) = record { bytes = bytes; status = Invalid (invalid_number r) } ∷ []
leaves bytes (Given (verdict.TransInvalid d)) = record { bytes = bytes; status = TransInvalid d } ∷ []
leaves bytes (Given verdict.Valid) = record { bytes = bytes; status = Valid } ∷ []

unfoldable pub all_left : {S : Type 0} → List (Moment S) → List Left
all_left [] = []
all_left (m ∷ l) = leaves m.offer.bytes m.result.answer ++ all_left l

unfoldable pub left_in : Book → List Left
left_in b = map (λ k. record { bytes = k.bytes; status = k.status }) b

-- an earlier offer of an id was kept
abbrev pub WasKept : List Left → PointId → Type 0
WasKept l i = (x : Left) × (Memᴰ x l × ((p : PointInfo) × ((read_point x.bytes ≡ Some p) × (p.id ≡ i))))

unfoldable pub bytes_taken : List Left → ℕ
bytes_taken [] = 0
bytes_taken (x ∷ l) = length x.bytes + tag33_length + bytes_taken l

-- "4,096 entries, or record plus 108 bytes exceeds the rest" of a slice of `len` bytes
abbrev pub HasNoRoom : ℕ → List Left → List ℕ → Type 0
HasNoRoom len l bytes = (most_kept ≤ length l) ⊎ (len < entries_start + bytes_taken l + (length bytes + tag33_length))

-- what the call's own tests, the numbers 1 to 5, say of an offer
abbrev pub tested_as : List ℕ → Offer → Tested
tested_as settings o = tested settings o.schedule o.bytes (flags_ok o.leader 3) (length o.peers)

-- ---- the rule for marks, as chains of kept dependencies

-- an id is a dependency of a point through this map and peer: of its includes, one round down, or its witness, two
abbrev pub IsDependency : PointInfo → PointId → Through → Type 0
IsDependency p i t =
    ((q : Pair) × (Memᴰ q p.includes × ((i ≡ pair_id (p.id.round - 1) q) × (t ≡ Includes q.peer))))
    ⊎ ((q : Pair) × (Memᴰ q p.witness × ((i ≡ pair_id (p.id.round - 2) q) × (t ≡ Witness q.peer))))

-- a kept point that passes a mark on: above genesis and not ill-formed
abbrev pub PassesOn : Settings → Book → Kept → Type 0
PassesOn c b k = Memᴰ k b × ((c.genesis_round < k.point.id.round) × IsFormed k.status)

-- from an id a chain leads to i: no step, or one from a point that passes a mark on to a dependency, and a chain from there
pub data LeadsTo (c : Settings) (b : Book) (i : PointId) : PointId → Type 0 where
  there : LeadsTo c b i i
  down : (k : Kept) → PassesOn c b k → (j : PointId) (t : Through) → IsDependency k.point j t → LeadsTo c b i j → LeadsTo c b i k.point.id

-- "where the list is needed, .. the previous point, if kept, is marked certified", by an offer that got a verdict; and with it "kept
-- dependencies by the rule, and to the depth, that cert.rs sets" (document 02): each point kept at that moment that lies at most
-- commit_history_rounds below and to which a chain leads
pub record Marks (m : Moment Opened) (i : PointId) : Type 0 where
  pub input : Input
  pub taken : tested_as m.before.bytes m.offer ≡ admitted input
  pub list : (required : Bool) × (before input.settings input.schedule (eqb m.offer.leader 1) input.point ≡ needed required)
  pub given : (v : Verdict) × (m.result.answer ≡ Given v)
  pub kept : (k : Kept) × (Memᴰ k m.before.book × (k.point.id ≡ i))
  pub prev : PointId
  pub previous : prev_id input.point ≡ Some prev
  pub depth : prev.round ≤ i.round + input.settings.commit_history_rounds
  pub chain : LeadsTo input.settings m.before.book i prev

abbrev pub EverMarked : List (Moment Opened) → PointId → Type 0
EverMarked l i = (m : Moment Opened) × (Memᴰ m l × Marks m i)

-- a test says of each entry of a book whether it was marked
abbrev pub Tells : (PointId → Bool) → Book → List (Moment Opened) → Type 0
Tells marked b l = (k : Kept) → Memᴰ k b → (marked k.point.id ≡ true) ↔ EverMarked l k.point.id

-- the run with one offer more
abbrev pub with_next : Run Opened → Offer → List (Moment Opened)
with_next plain o = plain.moments ++ (moment_of offer plain.last o ∷ [])

-- a run over the plain book, each book in its slice
abbrev pub run_in_bytes : Run Opened → Run (List ℕ)
run_in_bytes x =
    record {
      moments = map (λ m. record { before = laid_out m.before; offer = m.offer; result = in_bytes m.result }) x.moments;
      last = laid_out x.last;
    }

-- ---- the statement: each sentence excludes a wrong book that no other sentence does (docs/RULES.md, the last section, has it)

-- of an offer that is made next, after the run `found` over a slice's bytes, and of what it gives: `plain` is the plain book's run
pub record NextOffer (found : Run (List ℕ)) (plain : Run Opened) (o : Offer) (x : Result (List ℕ)) : Type 0 where
  -- "the table's number": 2 to 5 first
  pub tests : (n : ℕ) → tested_as plain.last.bytes o ≡ refused n → x.answer ≡ Number n
  -- 11 "id already in the book"
  pub again : (i : Input) → tested_as plain.last.bytes o ≡ admitted i →
      (x.answer ≡ Number 11) ↔ WasKept (all_left found.moments) i.point.id
  -- 12 "4,096 entries, or record plus 108 bytes exceeds the rest"
  pub full : (i : Input) → tested_as plain.last.bytes o ≡ admitted i →
      (x.answer ≡ Number 12)
      ↔ ((WasKept (all_left found.moments) i.point.id → ⊥) × HasNoRoom plain.last.length (all_left found.moments) o.bytes)
  -- "A number comes without a verdict, with all lent bytes unchanged"
  pub unchanged : (n : ℕ) → x.answer ≡ Number n → IsOfferNumber n × ((x.after ≡ found.last) × (x.peers ≡ o.peers))
  -- "demand 2's verdict, reason and unknown peers": those of the public call `judge`, presence 3, over the list that the entries and
  -- the marks of this moment give, with the marks that this offer makes. There is a test that tells these marks, and with any such test
  -- the list consists of bytes.
  pub judged : ((marked : PointId → Bool) × Tells marked plain.last.book (with_next plain o))
      × ((p : PointInfo) → read_point o.bytes ≡ Some p → (x.answer ≡ Number 11 → ⊥) → (x.answer ≡ Number 12 → ⊥) →
      (marked : PointId → Bool) → Tells marked plain.last.book (with_next plain o) →
      Bytes (list_for plain.last.book marked p)
      × ((x.answer ≡ judge_with o.leader 3 (list_for plain.last.book marked p) (tested_as plain.last.bytes o))
      × (x.peers ≡ verify_buffer (tested_as plain.last.bytes o) o.peers)))

-- of a slice of `len` bytes that was opened with `settings`, which say c, after a list of offers to it: `found` is the run over its
-- bytes, `plain` the plain book's
pub record FoundBook (settings : List ℕ) (c : Settings) (len : ℕ) (found : Run (List ℕ)) (plain : Run Opened) : Type 0 where
  -- "each on the bytes the last one left: all answers, unknown peers with every byte of every peer buffer, and book bytes are the
  -- plain book's"
  pub same : found ≡ run_in_bytes plain
  -- the bytes read as that book, "behind the same settings in as long a slice": those that were given
  pub reads : read_book found.last ≡ Some plain.last
  pub stays : (plain.last.bytes ≡ settings) × ((plain.last.settings ≡ c) × (plain.last.length ≡ len))
  -- each entry's point is the one that its record says, and by an id the entry of that id is found, and nothing else
  pub says : (k : Kept) → Memᴰ k plain.last.book → read_point k.bytes ≡ Some k.point
  pub finds : (i : PointId) (k : Kept) → (find_kept plain.last.book i ≡ Some k) ↔ (Memᴰ k plain.last.book × (k.point.id ≡ i))
  -- "every offer that got no number and isn't Fail left one entry, in order", with the verdict that it got
  pub kept : left_in plain.last.book ≡ all_left found.moments
  -- "marked certified are exactly the entries that the rule for marks, applied in these offers, marked"
  pub marks : (k : Kept) → Memᴰ k plain.last.book → (k.certified ≡ true) ↔ EverMarked plain.moments k.point.id
  -- whatever is offered next
  pub next : (o : Offer) → Bytes o.bytes → NextOffer found plain o (offer_bytes found.last o)

-- ---- what follows speaks of bad ancestors

-- kept Invalid, or TransInvalid with its root cause inside the window of a point of this round
abbrev pub is_bad : Settings → ℕ → Status → Bool
is_bad c round Valid = false
is_bad c round (TransInvalid d) = ltb (round - 1) (d.to.round + c.commit_history_rounds)
is_bad c round (Invalid n) = true
is_bad c round (IllFormed n) = false

-- an id is a dependency of a point or the target of one of its indirect links, through this map and peer
abbrev pub DependsOn : PointInfo → PointId → Through → Type 0
DependsOn p i t = IsDependency p i t ⊎ ((g : AnchorStageRole) × (anchor_link g p ≡ Indirect i t))

-- the root cause and its reason, as an entry has them
abbrev pub IsRootOf : Kept → InvalidDependency → Status → Type 0
IsRootOf k d Valid = ⊥
IsRootOf k d (TransInvalid e) = (d.to ≡ e.to) × (d.reason ≡ e.reason)
IsRootOf k d (Invalid n) = (d.to ≡ k.point.id) × (d.reason ≡ n)
IsRootOf k d (IllFormed n) = ⊥

-- a bad one that a point depends on and that has no mark, from which a root cause comes
pub record Caught (c : Settings) (b : Book) (l : List (Moment Opened)) (p : PointInfo) (d : InvalidDependency) : Type 0 where
  pub entry : Kept
  pub kept : Memᴰ entry b
  pub depends : DependsOn p entry.point.id d.through
  pub bad : T (is_bad c p.id.round entry.status)
  pub unmarked : EverMarked l entry.point.id → ⊥
  pub root : IsRootOf entry d entry.status

-- ---- and of kept points

abbrev pub NoIdTwice : Book → Type 0
NoIdTwice [] = Unit
NoIdTwice (k ∷ b) = ((x : Kept) → Memᴰ x b → x.point.id ≡ k.point.id → ⊥) × NoIdTwice b

-- "every Valid or TransInvalid point above genesis"
pub record Usable (c : Settings) (b : Book) (k : Kept) : Type 0 where
  pub member : Memᴰ k b
  pub usable : T (is_usable k.status)
  pub above : c.genesis_round < k.point.id.round

-- a dependency is kept, not ill-formed, and not topped by an anchor of a greater round than the point links
pub record Held (b : Book) (p : PointInfo) (i : PointId) : Type 0 where
  pub entry : Kept
  pub kept : Memᴰ entry b
  pub named : entry.point.id ≡ i
  pub formed : IsFormed entry.status
  pub topped : (g : AnchorStageRole) → (top g entry.point).round ≤ (target g p).round

-- a link, followed through its sources, leads "within round minus genesis round steps" to e
abbrev pub Followed : Settings → Book → AnchorStageRole → PointInfo → Kept → Type 0
Followed c b g p e = Way b g (target g p) (p.id.round - c.genesis_round) p e

-- what each "Valid or TransInvalid point above genesis" of a book has
pub record Connected (c : Settings) (b : Book) : Type 0 where
  -- "all its includes and witness kept, none ill-formed, none topped by an anchor of a greater round than it links"
  pub dependencies : (k : Kept) → Usable c b k →
      ((q : Pair) → Memᴰ q k.point.includes → Held b k.point (pair_id (k.point.id.round - 1) q))
      × ((q : Pair) → Memᴰ q k.point.witness → Held b k.point (pair_id (k.point.id.round - 2) q))
  -- "either anchor link, followed through its sources, reaches within round minus genesis round steps the linked point in that
  -- role, or a point judged Invalid that links the same target"; every point on the way links it too (`IsPassed`)
  pub links : (k : Kept) → Usable c b k → (g : AnchorStageRole) →
      (e : Kept) × (Followed c b g k.point e × (IsReached g (target g k.point) e ⊎ IsStopped g (target g k.point) e))
  -- "if such a point is no proof and its proof link reaches the proof, both have one anchor time"; so has every point on the way
  pub times : (k : Kept) → Usable c b k → T (not (is_anchor_proof k.point.role)) → (e : Kept) → Followed c b Proof k.point e →
      e.point.anchor_time ≡ k.point.anchor_time

-- ---- what follows from the statement: proved of any plain runs of which the statement is so after every list (proofs/Implied.antt)

-- of the same slice and book
pub record Implied (c : Settings) (len : ℕ) (found : Run (List ℕ)) (plain : Run Opened) : Type 0 where
  -- from `reads` and `stays`, since other bytes don't read as that book: the slice is as long as it was; "no id twice", "at most 4,096
  -- entries"
  pub long : length found.last ≡ len
  pub once : NoIdTwice plain.last.book
  pub few : length plain.last.book ≤ most_kept
  -- from `tests`, `judged`, `kept` and `says` of every offer before, by which each entry was judged: kept dependencies, links and times
  pub connected : Connected c plain.last.book
  -- from `judged` and `marks`, by what `judge` gives over a list: a point above genesis is Valid only if each bad one that it depends on
  -- is marked, with the marks that this offer makes
  pub clean : (o : Offer) → Bytes o.bytes → (p : PointInfo) → read_point o.bytes ≡ Some p →
      (offer_bytes found.last o).answer ≡ Given verdict.Valid → c.genesis_round < p.id.round → (k : Kept) → Memᴰ k plain.last.book →
      (t : Through) → DependsOn p k.point.id t → T (is_bad c p.id.round k.status) → EverMarked (with_next plain o) k.point.id
  -- and is TransInvalid only by one that is not
  pub caught : (o : Offer) → Bytes o.bytes → (p : PointInfo) → read_point o.bytes ≡ Some p → (d : InvalidDependency) →
      (offer_bytes found.last o).answer ≡ Given (verdict.TransInvalid d) → Caught c plain.last.book (with_next plain o) p d

-- ---- of every list

-- "for every settings, every slice length that opens, every list": settings that are read open every slice of 47 to 16,777,216 bytes,
-- and refused and Fail offers stand in the list like any other
abbrev pub FoundBooks : Type 0
FoundBooks =
    (settings slice : List ℕ) (c : Settings) (l : List Offer) → read_settings settings ≡ Some c →
    entries_start ≤ length slice → length slice ≤ longest_book → AreBytes l →
    (open_number settings (length slice) ≡ 0)
    × (FoundBook settings c (length slice) (run offer_bytes (open_bytes settings slice) l) (run offer (opened settings c (length slice)) l)
    × Implied c (length slice) (run offer_bytes (open_bytes settings slice) l) (run offer (opened settings c (length slice)) l))
