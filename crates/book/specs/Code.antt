-- What the functions between reading a book and writing to it say to each other.
use Rattle.std.specs.Prelude.{ℕ, ◌+◌, ◌≤◌, ◌≡◌, true, List, length, leb, Some, Result, Ok, Err}
use Rattle.parts.specs.Bytes.{put_at}
use Rattle.parts.specs.Limits.{tag33_length}
use Rattle.point.specs.Point.{PointId, PointInfo, in_domain}
use Rattle.point.specs.Code.{point_of}
use Rattle.point.specs.Said.{said}
use Rattle.schedule.specs.Settings.{Settings}
use Rattle.schedule.specs.Schedule.{Schedule}
use Rattle.schedule.specs.Code.{settings_of}
use Rattle.schedule.specs.PeerSchedule.{peer_schedule_of}
use Rattle.reasons.specs.Verdict.{Verdict}
use Rattle.reasons.specs.Code.{verdict_of}
use Rattle.reasons.specs.Refusal.{refusal_number}
use Rattle.reasons.specs.declared.refusal.Refusal.{Refusal}
use Rattle.rules.specs.Judge.{Input, Tested, refused, admitted, tested_with, verify_buffer, Number, Given, needed}
use Rattle.books.specs.Kept.{Opened}
use Rattle.books.specs.Offer.{Offer, tested_room, offer_tested, before_in, left_by, covered_by}
use Rattle.books.specs.Layout.{entries_bytes, book_bytes, read_book}
use Rattle.books.specs.Calls.{offer_bytes}
use Rattle.book_read.specs.Code.{IsRead}
use Rattle.book_judge.specs.Code.{over_book}
use Rattle.point.specs.declared.info.PointInfo as code-info
use Rattle.id_index.specs.declared.Index as code-index
use Rattle.book.specs.declared.decide.Input as code-input
use Rattle.book.specs.declared.decide.Needs as code-needs
use Rattle.book.specs.declared.decide.Decided as code-decided
use Rattle.book.specs.declared.decide.Decided.TheVariants as case-decided

-- ---- the two writes

-- the entries get the marks that a point makes
abbrev pub Marked : Settings → PointInfo → List ℕ → List ℕ → Type 0
Marked c p s t = (z : Opened) → read_book s ≡ Some z → t ≡ book_bytes z.bytes (length s) (covered_by c p z.book)

-- what a verdict on a record leaves stands at a place; an entry's bytes have nothing of its point but the record
abbrev pub LeftAt : List ℕ → ℕ → List ℕ → Verdict → List ℕ → Type 0
LeftAt s end bytes v t = (q : PointInfo) → t ≡ put_at s end (entries_bytes (left_by bytes q v))

-- ---- the tests of an offer

-- what tests came to
abbrev pub passed_or : Result Unit Refusal → Input → Tested
passed_or (Ok u) i = admitted i
passed_or (Err r) i = refused (refusal_number r)

-- 4 and 5, of a record that was read
abbrev pub InputTested : List ℕ → code-info.PointInfo → ℕ → ℕ → Result Unit Refusal → Type 0
InputTested rec info leader room r =
    (c : Settings) (d : Schedule) → tested_with (Some c) (Some d) (Some (point_of rec info)) (leb leader 1) room
    ≡ passed_or r (record { settings = c; schedule = d; point = point_of rec info })

-- 11 and 12, of a book that was read
abbrev pub RoomTested : List ℕ → ℕ → code-index.Index → List ℕ → PointId → Result Unit Refusal → Type 0
RoomTested s end x bytes id r =
    (c : Settings) (h : IsRead s c end x) (i : Input) → i.point.id ≡ id → tested_room h.opened bytes (admitted i) ≡ passed_or r i

-- the book is read, and the offer gets none of the numbers 2 to 5, 11 and 12
pub record Ready (s : List ℕ) (o : Offer) (c : Settings) (end : ℕ) (x : code-index.Index) (i : Input) : Type 0 where
  pub read : IsRead s c end x
  pub taken : offer_tested read.opened o ≡ admitted i

abbrev pub input_of : code-input.Input → Input
input_of i = record { settings = settings_of i.conf; schedule = peer_schedule_of i.schedule; point = said i.point }

-- ---- what is decided of an offer before anything is written

-- a number, and the book's bytes as they were
abbrev pub Refuses : List ℕ → Offer → ℕ → List ℕ → Type 0
Refuses s o n buffer = offer_bytes s o ≡ record { answer = Number n; peers = buffer; after = s }

-- a verdict, to be kept where the entries end
pub record Judges (s : List ℕ) (o : Offer) (v : Verdict) (end : ℕ) (buffer : List ℕ) : Type 0 where
  pub answer : Given v ≡ (offer_bytes s o).answer
  pub peers : buffer ≡ (offer_bytes s o).peers
  pub room : end + length o.bytes + tag33_length ≤ length s
  pub bytes : LeftAt s end o.bytes v (offer_bytes s o).after

-- the list is needed
pub record Asks (s : List ℕ) (o : Offer) (n : code-needs.Needs) (x : code-index.Index) (buffer : List ℕ) : Type 0 where
  pub input : Input
  pub ready : Ready s o (settings_of n.conf) n.end x input
  pub bytes : n.point.rec.now ≡ o.bytes
  pub point : input.point ≡ said n.point
  pub list : before_in input o.leader ≡ needed n.required
  pub peers : buffer ≡ verify_buffer (admitted input) o.peers

abbrev pub Decides : List ℕ → Offer → Result code-decided.Decided Refusal → code-index.Index → List ℕ → Type 0
Decides s o (Err r) x buffer = Refuses s o (refusal_number r) buffer
Decides s o (Ok (case-decided.Judged v end)) x buffer = Judges s o (verdict_of v) end buffer
Decides s o (Ok (case-decided.Needed n)) x buffer = Asks s o n x buffer

-- a point was judged by the list over the book with its marks, and what it leaves stands there
abbrev pub ListJudged : List ℕ → code-index.Index → code-needs.Needs → Verdict → List ℕ → Type 0
ListJudged s x n v t =
    let c = settings_of n.conf in
    let p = said n.point in
    (h : IsRead s c n.end x) → in_domain p ≡ true →
    (v ≡ over_book c n.required p (covered_by c p h.opened.book))
    × LeftAt (book_bytes h.opened.bytes (length s) (covered_by c p h.opened.book)) n.end n.point.rec.now v t
