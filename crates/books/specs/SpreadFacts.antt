-- How far marks spread in small books, computed: each fact says of every entry, in order, whether it is marked. And what the wider marks do
-- to a verdict.
use Rattle.std.specs.Prelude.{ℕ, ◌≡◌, Bool, true, false, List, [], ◌∷◌, map, Option, None, Some}
use Rattle.map.specs.Rows.{Pair}
use Rattle.point.specs.Point.{PointId, Includes, Witness, Direct, Indirect, PointInfo, prev_id}
use Rattle.point.specs.declared.data.PointRole.TheVariants.{Regular}
use Rattle.schedule.specs.Settings.{Settings}
use Rattle.reasons.specs.Invalid.{InvalidDependency}
use Rattle.reasons.specs.Verdict as verdict
use Rattle.rules.specs.Judge.{Given, needed}
use Rattle.rules.specs.Mismatch.{is_id}
use Rattle.books.specs.Kept.{Status, Valid, TransInvalid, Invalid, IllFormed, Kept, Book, mark, Opened}
use Rattle.books.specs.Spread.{covers}
use Rattle.books.specs.Offer.{answer_with, kept_as, offer}
use Rattle.books.specs.Run.{Run, run}
use Rattle.books.specs.Calls.{opened}
use Rattle.books.specs.Example.{settings_bytes, conf, point_of, id_of, pair, genesis, at_eleven, first, second, third, dependent, offered, four}

-- ---- books of points that have a round, a number for author and digest, includes and witness

abbrev pub at : ℕ → ℕ → PointId
at round n = id_of round n n

abbrev pub pairs : List ℕ → List Pair
pairs l = map (λ n. pair n n) l

abbrev pub kept : ℕ → ℕ → List ℕ → List ℕ → Status → Bool → Kept
kept round n included witnessed status certified =
    record {
      bytes = [];
      point = point_of (at round n) (pairs included) (pairs witnessed) [] (Direct (Includes n)) Regular 0;
      status = status;
      certified = certified;
    }

-- genesis at round 10, and as many rounds of history
abbrev pub reaching : ℕ → Settings
reaching rounds =
    record {
      genesis_round = 10;
      genesis_digest = 1;
      payload_batch_bytes = 1000;
      sticky_anchors = 3;
      clock_skew_millis = 500;
      commit_history_rounds = rounds;
    }

-- whether each entry is marked after an offer with this previous point
abbrev pub marks_of : ℕ → Book → Option PointId → List Bool
marks_of rounds b prev = map (λ k. k.certified) (mark (covers (reaching rounds) b prev) b)

-- point 1 of each round includes that of the round below; that of 14 witnesses point 2 of 12. No point includes point 3 of 14.
abbrev pub ladder : Book
ladder =
    kept 12 1 [] [] Valid false
    ∷ kept 12 2 [] [] Valid false
    ∷ kept 13 1 (1 ∷ []) [] Valid false
    ∷ kept 14 1 (1 ∷ []) (2 ∷ []) Valid false
    ∷ kept 14 3 (1 ∷ []) [] Valid false
    ∷ kept 15 1 (1 ∷ []) [] Valid false
    ∷ []

-- point 1 of 13 between that of 14 and that of 12, in this state and with this mark
abbrev pub between : Status → Bool → Book
between status certified =
    kept 12 1 [] [] Valid false ∷ kept 13 1 (1 ∷ []) [] status certified ∷ kept 14 1 (1 ∷ []) [] Valid false ∷ []

-- point 1 of 12, and a point that includes the author's other version and another author's point of that digest
abbrev pub alike : Book
alike = kept 12 1 [] [] Valid false ∷ kept_as [] (point_of (at 13 1) (pair 1 2 ∷ pair 2 1 ∷ []) [] [] (Direct (Includes 1)) Regular 0) Valid ∷ []

abbrev pub root_cause : InvalidDependency
root_cause = record { to = at 12 1; reason = 4; through = Includes 1 }

-- ---- a verdict over wider marks, with Example's points up to round 12: `first` is invalid, and `dependent` includes it

abbrev pub fourth : PointInfo
fourth = at_eleven 114 4 []

-- at 12 without `first`
abbrev pub besides : ℕ → ℕ → List ℕ → PointInfo
besides digest author evidenced =
    point_of (id_of 12 digest author) (pair 2 112 ∷ pair 3 113 ∷ pair 4 114 ∷ []) [] evidenced (Indirect genesis.id (Includes 2)) Regular 7

-- its previous point is `dependent`, and its witness is `first`
abbrev pub follower : PointInfo
follower =
    point_of (id_of 13 132 2) (pair 2 122 ∷ pair 3 125 ∷ pair 4 126 ∷ []) (pair 1 111 ∷ []) (3 ∷ 4 ∷ []) (Indirect genesis.id (Includes 3)) Regular 8

-- the offers before it
abbrev pub earlier : Run Opened
earlier =
    run offer (opened (settings_bytes conf) conf 10000)
    (map (offered four 0) (genesis ∷ first ∷ second ∷ third ∷ fourth ∷ dependent ∷ besides 125 3 (2 ∷ 4 ∷ []) ∷ besides 126 4 (2 ∷ 3 ∷ []) ∷ []))

-- ---- the facts

pub record SpreadFacts : Type 0 where
  -- "its direct `includes`" with one round, their includes with two, the witness of an include with three
  pub one : marks_of 1 ladder (Some (at 15 1)) ≡ false ∷ false ∷ false ∷ true ∷ false ∷ true ∷ []
  pub two : marks_of 2 ladder (Some (at 15 1)) ≡ false ∷ false ∷ true ∷ true ∷ false ∷ true ∷ []
  pub three : marks_of 3 ladder (Some (at 15 1)) ≡ true ∷ true ∷ true ∷ true ∷ false ∷ true ∷ []
  -- a witness counts two; nothing above the previous point is marked
  pub witness_one : marks_of 1 ladder (Some (at 14 1)) ≡ false ∷ false ∷ true ∷ true ∷ false ∷ false ∷ []
  pub witness_two : marks_of 2 ladder (Some (at 14 1)) ≡ true ∷ true ∷ true ∷ true ∷ false ∷ false ∷ []
  -- without a previous point nothing is marked, nor where it is not kept
  pub no_previous : marks_of 3 ladder None ≡ false ∷ false ∷ false ∷ false ∷ false ∷ false ∷ []
  pub unkept : marks_of 3 ladder (Some (at 15 2)) ≡ false ∷ false ∷ false ∷ false ∷ false ∷ false ∷ []
  -- points are told apart by the whole id
  pub whole_id : marks_of 3 alike (Some (at 13 1)) ≡ false ∷ true ∷ []
  -- Valid, TransInvalid and Invalid entries pass a mark on; ill-formed ones take it and pass nothing on
  pub valid : marks_of 2 (between Valid false) (Some (at 14 1)) ≡ true ∷ true ∷ true ∷ []
  pub trans_invalid : marks_of 2 (between (TransInvalid root_cause) false) (Some (at 14 1)) ≡ true ∷ true ∷ true ∷ []
  pub invalid : marks_of 2 (between (Invalid 4) false) (Some (at 14 1)) ≡ true ∷ true ∷ true ∷ []
  pub ill_formed : marks_of 2 (between (IllFormed 16) false) (Some (at 14 1)) ≡ false ∷ true ∷ true ∷ []
  -- a point at the genesis round, 10, takes it and passes nothing on
  pub genesis_round :
      marks_of 3 (kept 9 1 [] [] (IllFormed 3) false ∷ kept 10 1 (1 ∷ []) [] Valid false ∷ kept 11 1 (1 ∷ []) [] Valid false ∷ []) (Some (at 11 1))
      ≡ false ∷ true ∷ true ∷ []
  -- the walk goes on through an entry that was marked before, and takes no mark away
  pub marked_before : marks_of 2 (between Valid true) (Some (at 14 1)) ≡ true ∷ true ∷ true ∷ []
  pub marked_stays : marks_of 1 (between Valid true) (Some (at 12 1)) ≡ true ∷ true ∷ false ∷ []
  -- where an entry on the way is not kept, nothing below it is marked
  pub missing : marks_of 2 (kept 12 1 [] [] Valid false ∷ kept 14 1 (1 ∷ []) [] Valid false ∷ []) (Some (at 14 1)) ≡ false ∷ true ∷ []
  -- marks are made before judging: the invalid witness is covered by the same offer's mark, and the point is Valid. With the previous
  -- point's mark alone it is not.
  pub wider : (offer earlier.last (offered four 0 follower)).answer ≡ Given verdict.Valid
  pub narrower : answer_with conf 3 follower (mark (is_id (prev_id follower)) earlier.last.book) (needed false)
      ≡ Given (verdict.TransInvalid (record { to = first.id; reason = 4; through = Witness 1 }))
