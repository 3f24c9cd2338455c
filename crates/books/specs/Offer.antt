-- What an offer does to the plain book (document 01, "The book"): "It is fed each offer's schedule, leader flag, record and peer
-- buffer alone, and gives the table's number, or demand 2's verdict, reason and unknown peers over the lists built of its entries".
use Rattle.std.specs.Prelude.{ℕ, ◌+◌, ◌-◌, Bool, true, false, ◌&&◌, ◌||◌, List, [], ◌∷◌, ◌++◌, length, leb, ltb, eqb, Some, is_some}
use Rattle.base.specs.Base.{pick}
use Rattle.parts.specs.Limits.{first_round, last_round, entries_start, tag33_length, most_kept}
use Rattle.map.specs.declared.Arrangement.{Arrangement}
use Rattle.map.specs.declared.Arrangement.TheVariants.{Columns}
use Rattle.point.specs.Point.{PointInfo, prev_id}
use Rattle.point.specs.Reading.{read_point_in}
use Rattle.schedule.specs.Settings.{Settings}
use Rattle.schedule.specs.Schedule.{read_schedule}
use Rattle.reasons.specs.IllFormed.{ill_formed_number}
use Rattle.reasons.specs.Invalid.{dag_round, invalid_number}
use Rattle.reasons.specs.Verdict as verdict
use Rattle.reasons.specs.Verdict.{Verdict}
use Rattle.rules.specs.DagPoint as dag
use Rattle.rules.specs.DagPoint.{DagPoint, Entry, IndirectEntry}
use Rattle.rules.specs.Judge.{Input, Tested, refused, admitted, tested_with, verify_buffer, JudgeAnswer, Number, Given}
use Rattle.rules.specs.Judge.{Before, answered, needed, before, over_entries}
use Rattle.rules.specs.List.{is_listable}
use Rattle.rules.specs.Mismatch.{entries_in}
use Rattle.books.specs.Kept.{Status, Valid, TransInvalid, Invalid, IllFormed, Kept, Book, find_kept, mark, Opened, with_entries}
use Rattle.books.specs.Lists.{direct_list, indirect_list}
use Rattle.books.specs.Spread.{covers}

pub record Offer : Type 0 where
  pub schedule : List ℕ
  pub leader : ℕ
  pub bytes : List ℕ
  pub peers : List ℕ

-- what an offer gives: its answer, the peer buffer, and the book after it, be it a value or bytes
pub record Result (S : Type 0) : Type 0 where
  pub answer : JudgeAnswer
  pub peers : List ℕ
  pub after : S

-- ---- what a book's state says of an offer

-- "All rounds are present"
abbrev pub presence_in : Opened → PointInfo → ℕ
presence_in z p = 3

-- entries begin right after the settings
abbrev pub start_in : Opened → ℕ
start_in z = entries_start

-- ---- the numbers 2 to 5, 11 and 12

-- the bytes that the entries take: "the point record and tag 33 (105 bytes)", which has 3 bytes before its content
unfoldable pub used : Book → ℕ
used [] = 0
used (k ∷ b) = length k.bytes + tag33_length + used b

-- 12: "4,096 entries, or record plus 108 bytes exceeds the rest"
unfoldable pub is_full : Opened → List ℕ → Bool
unfolding used
is_full z bytes = leb most_kept (length z.book) || ltb (z.length - start_in z - used z.book) (length bytes + tag33_length)

abbrev pub tested_room : Opened → List ℕ → Tested → Tested
tested_room z bytes (refused n) = refused n
tested_room z bytes (admitted i) =
    pick (is_some (find_kept z.book i.point.id)) (refused 11)
    (pick (is_full z bytes) (refused 12) (admitted i))

-- the numbers 2 to 5, of an offer to a book with these settings
abbrev pub input_tested_in : Arrangement → Settings → Offer → Tested
input_tested_in a c o = tested_with (Some c) (read_schedule o.schedule) (read_point_in a o.bytes) (leb o.leader 1) (length o.peers)

-- "An offer tests 10, then 2 to 5, 11, 12, then judges": 10 is tested of the book's bytes
unfoldable pub offer_tested_in : Arrangement → Opened → Offer → Tested
unfolding read_schedule read_point_in find_kept is_full
offer_tested_in a z o = tested_room z o.bytes (input_tested_in a z.settings o)

-- ---- judging

-- "Rule for marks: .. the previous point, if kept, is marked certified", and with it what its certificate covers
abbrev pub covered_by : Settings → PointInfo → Book → Book
covered_by c p b = mark (covers c b (prev_id p)) b

-- "where the list is needed, before its direct entries are judged"
abbrev pub marked_by : Settings → PointInfo → Book → Before → Book
marked_by c p b (answered a) = b
marked_by c p b (needed required) = covered_by c p b

-- the domain of a list, number 7: of records, root causes and reason numbers
abbrev pub is_state_ok : DagPoint → Bool
is_state_ok (dag.Valid q) = is_listable q
is_state_ok (dag.TransInvalid q root n) =
    is_listable q && (leb first_round root.round && (leb root.round last_round && is_some (dag_round n)))
is_state_ok (dag.Invalid q n) = is_listable q && is_some (dag_round n)
is_state_ok (dag.IllFormed i n) = leb 1 n && leb n 16
is_state_ok (dag.NotFound i) = true
is_state_ok dag.Dropped = true

unfoldable pub are_states_ok : List Entry → Bool
unfolding is_listable dag_round
are_states_ok [] = true
are_states_ok (e ∷ l) = is_state_ok e.state && are_states_ok l

-- demand 2 over two lists: 7 to 9, and the verdict
unfoldable pub answer_over : Settings → Bool → ℕ → PointInfo → List Entry → List IndirectEntry → JudgeAnswer
unfolding are_states_ok entries_in
answer_over c required presence p es ts =
    pick (are_states_ok es && are_states_ok (entries_in ts)) (over_entries c required presence p es ts) (Number 7)

-- over the lists that entries give
abbrev pub answer_with : Settings → ℕ → PointInfo → Book → Before → JudgeAnswer
answer_with c presence p b (answered a) = a
answer_with c presence p b (needed required) = answer_over c required presence p (direct_list b p) (indirect_list b p)

-- what is known before any list is built
unfoldable pub before_in : Input → ℕ → Before
unfolding before
before_in i leader = before i.settings i.schedule (eqb leader 1) i.point

unfoldable pub marked_in : Opened → Input → ℕ → Book
unfolding before_in covers
marked_in z i leader = marked_by i.settings i.point z.book (before_in i leader)

unfoldable pub answer_in : Opened → Input → ℕ → JudgeAnswer
unfolding marked_in before_in answer_over direct_list indirect_list
answer_in z i leader = answer_with i.settings (presence_in z i.point) i.point (marked_in z i leader) (before_in i leader)

-- ---- what an offer leaves

abbrev pub kept_as : List ℕ → PointInfo → Status → Kept
kept_as bytes p s = record { bytes = bytes; point = p; status = s; certified = false }

-- "Fail changes nothing; any other verdict appends the record with that verdict as one uncertified entry"
abbrev pub left_by : List ℕ → PointInfo → Verdict → List Kept
left_by bytes p (verdict.Fail u) = []
left_by bytes p (verdict.IllFormed r) = kept_as bytes p (IllFormed (ill_formed_number r)) ∷ []
left_by bytes p (verdict.Invalid r) = kept_as bytes p (Invalid (invalid_number r)) ∷ []
left_by bytes p (verdict.TransInvalid d) = kept_as bytes p (TransInvalid d) ∷ []
left_by bytes p verdict.Valid = kept_as bytes p Valid ∷ []

-- "A number comes without a verdict, with all lent bytes unchanged"
abbrev pub numbered : Opened → Offer → ℕ → Result Opened
numbered z o n = record { answer = Number n; peers = o.peers; after = z }

abbrev pub judged_as : Opened → Offer → Input → JudgeAnswer → Result Opened
judged_as z o i (Number n) = numbered z o n
judged_as z o i (Given v) =
    record {
      answer = Given v;
      peers = verify_buffer (admitted i) o.peers;
      after = with_entries z (marked_in z i o.leader ++ left_by o.bytes i.point v);
    }

unfoldable pub offer_with : Opened → Offer → Tested → Result Opened
unfolding answer_in marked_in
offer_with z o (refused n) = numbered z o n
offer_with z o (admitted i) = judged_as z o i (answer_in z i o.leader)

unfoldable pub offer_in : Arrangement → Opened → Offer → Result Opened
unfolding offer_with offer_tested_in
offer_in a z o = offer_with z o (offer_tested_in a z o)

-- ---- as the call reads an offer's record: columns

abbrev pub input_tested : Settings → Offer → Tested
input_tested c o = input_tested_in Columns c o

abbrev pub offer_tested : Opened → Offer → Tested
offer_tested z o = offer_tested_in Columns z o

abbrev pub offer : Opened → Offer → Result Opened
offer z o = offer_in Columns z o

abbrev pub offer_of : List ℕ → ℕ → List ℕ → List ℕ → Offer
offer_of schedule leader bytes peers = record { schedule = schedule; leader = leader; bytes = bytes; peers = peers }
