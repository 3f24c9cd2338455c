-- One book that the statement on found books speaks of: twelve offers, the answer to each, and the nine entries that they leave. There
-- are valid, trans-invalid, invalid, ill-formed and certified ones, numbers, and a failed verification.
use Rattle.std.specs.Prelude.{ℕ, ◌≤◌, ◌≡◌, Bool, true, false, List, [], ◌∷◌, ◌++◌, map, length, replicate, Some}
use Rattle.base.specs.Base.{concat}
use Rattle.parts.specs.Bytes.{big_bytes, little_bytes}
use Rattle.parts.specs.Limits.{entries_start, peers_room, longest_book}
use Rattle.map.specs.Rows.{Pair}
use Rattle.record.specs.Fields.{field_bytes}
use Rattle.point.specs.Point.{PointId, Includes, AnchorLink, Direct, Indirect, PointInfo}
use Rattle.point.specs.Written.{point_bytes}
use Rattle.point.specs.declared.data.PointRole.{PointRole}
use Rattle.point.specs.declared.data.PointRole.TheVariants.{Regular, AnchorProof, Genesis}
use Rattle.point.specs.declared.data.AnchorStageRole.TheVariants.{Proof}
use Rattle.point.specs.declared.data.PointMap.TheVariants as maps
use Rattle.schedule.specs.Settings.{Settings, read_settings}
use Rattle.schedule.specs.Schedule.{Span}
use Rattle.reasons.specs.Invalid.{NotTrigger, MustHaveReferencedPrevPoint, DepIllFormed, InvalidDependency}
use Rattle.reasons.specs.Verdict as verdict
use Rattle.reasons.specs.declared.ill_formed.IllFormedReason.TheVariants.{BadWaveLink}
use Rattle.rules.specs.Judge.{JudgeAnswer, Number, Given}
use Rattle.map.specs.Written.{peer_bytes}
use Rattle.books.specs.Kept.{Status, Valid, TransInvalid, Invalid, IllFormed, Kept, Book, Opened}
use Rattle.books.specs.Offer.{Offer, offer, offer_of}
use Rattle.books.specs.Run.{Run, run, AreBytes}
use Rattle.books.specs.Calls.{open_bytes, opened, offer_bytes}
use Rattle.books.specs.Following.{IsReached, IsStopped}
use Rattle.books.specs.FoundBook.{FoundBook, Followed}

-- ---- bytes of settings, schedules and points (docs/FORMAT.md)

unfoldable pub settings_bytes : Settings → List ℕ
unfolding field_bytes little_bytes big_bytes
settings_bytes c =
    field_bytes 32
    (little_bytes 4 c.genesis_round
    ++ big_bytes 32 c.genesis_digest
    ++ little_bytes 4 c.payload_batch_bytes
    ++ c.sticky_anchors ∷ little_bytes 2 c.clock_skew_millis
    ++ c.commit_history_rounds ∷ [])

-- spans, then the last known round
unfoldable pub schedule_bytes : List Span → ℕ → List ℕ
unfolding field_bytes little_bytes peer_bytes
schedule_bytes [] last = field_bytes 35 (little_bytes 4 last)
schedule_bytes (x ∷ l) last = field_bytes 34 (little_bytes 4 x.first ++ peer_bytes x.peers) ++ schedule_bytes l last

-- ---- the book: its settings, and a slice with room for nine entries of the points below and not for a tenth

abbrev pub conf : Settings
conf =
    record {
      genesis_round = 10;
      genesis_digest = 77;
      payload_batch_bytes = 1000;
      sticky_anchors = 3;
      clock_skew_millis = 500;
      commit_history_rounds = 21;
    }

abbrev pub slice : List ℕ
slice = replicate 5000 0

-- ---- the points: genesis, of peer 1, and three rounds above it, of peers 1 to 3. Peer 4 has none.

-- both links lead to genesis, whose time is then the anchor time
abbrev pub point_of : PointId → List Pair → List Pair → List ℕ → AnchorLink → PointRole → ℕ → PointInfo
point_of i included witnessed evidenced link role time =
    record {
      id = i;
      payload_len = 0;
      payload_bytes = 0;
      includes = included;
      witness = witnessed;
      evidence = evidenced;
      anchor_proof = link;
      anchor_trigger = link;
      role = role;
      time = time;
      anchor_time = 5;
    }

abbrev pub id_of : ℕ → ℕ → ℕ → PointId
id_of round digest author = record { round = round; digest = digest; author = author }

abbrev pub pair : ℕ → ℕ → Pair
pair peer digest = record { peer = peer; digest = digest }

abbrev pub genesis : PointInfo
genesis = point_of (id_of 10 77 1) (pair 1 0 ∷ []) [] [] (Direct (Includes 1)) Genesis 5

abbrev pub at_eleven : ℕ → ℕ → List ℕ → PointInfo
at_eleven digest author evidenced = point_of (id_of 11 digest author) (pair 1 77 ∷ []) [] evidenced (Direct (Includes 1)) Regular 6

-- its previous point is genesis, which is a proof: it had to be a trigger
abbrev pub first : PointInfo
first = at_eleven 111 1 (2 ∷ 3 ∷ [])

abbrev pub second : PointInfo
second = at_eleven 112 2 []

abbrev pub third : PointInfo
third = at_eleven 113 3 []

abbrev pub at_twelve : ℕ → ℕ → Pair → List ℕ → ℕ → PointRole → PointInfo
at_twelve digest author q evidenced peer role =
    point_of (id_of 12 digest author) (pair 1 111 ∷ pair 2 112 ∷ q ∷ []) [] evidenced (Indirect genesis.id (Includes peer)) role 7

-- it depends on `first`, which is invalid, and links genesis through it
abbrev pub dependent : PointInfo
dependent = at_twelve 122 2 (pair 3 113) (1 ∷ 3 ∷ []) 1 Regular

-- it depends on `first` too, as its previous point
abbrev pub covering : PointInfo
covering = at_twelve 121 1 (pair 3 113) (2 ∷ 3 ∷ []) 2 Regular

-- a proof two rounds after another one, where four are asked
abbrev pub near : PointInfo
near = at_twelve 123 3 (pair 3 113) (1 ∷ 2 ∷ []) 2 (AnchorProof 0 false)

-- it includes a point that is not kept, and then it doesn't include its author's `third`: the later reason counts
abbrev pub skipping : PointInfo
skipping = at_twelve 124 3 (pair 4 114) [] 2 Regular

-- its witness is not kept, and then it includes `near`, which is ill-formed: the later reason counts
abbrev pub last : PointInfo
last =
    point_of (id_of 13 131 1) (pair 1 121 ∷ pair 2 122 ∷ pair 3 123 ∷ []) (pair 4 114 ∷ []) (2 ∷ 3 ∷ [])
    (Indirect genesis.id (Includes 1)) Regular 8

-- ---- the offers: each with a schedule of one peer at genesis and of some above it, and with the leader flag

abbrev pub offered : List ℕ → ℕ → PointInfo → Offer
offered above leader p =
    offer_of (schedule_bytes (record { first = 10; peers = 1 ∷ [] } ∷ record { first = 11; peers = above } ∷ []) 40) leader (point_bytes p)
    (replicate peers_room 0)

abbrev pub four : List ℕ
four = 1 ∷ 2 ∷ 3 ∷ 4 ∷ []

-- `second` again; `covering` with too few peers, and again; at last another version of `second`
abbrev pub offers : List Offer
offers =
    offered four 0 genesis
    ∷ offered four 0 first
    ∷ offered four 0 second
    ∷ offered four 0 third
    ∷ offered four 0 second
    ∷ offered four 0 dependent
    ∷ offered (1 ∷ 2 ∷ []) 0 covering
    ∷ offered four 0 covering
    ∷ offered four 1 near
    ∷ offered four 0 skipping
    ∷ offered four 0 last
    ∷ offered four 0 (at_eleven 212 2 [])
    ∷ []

-- what they do to the plain book, and the answers that they get
abbrev pub plain : Run Opened
plain = run offer (opened (settings_bytes conf) conf (length slice)) offers

abbrev pub given : List JudgeAnswer
given = map (λ m. m.result.answer) plain.moments

-- ---- what is to be seen

abbrev pub root_cause : InvalidDependency
root_cause = record { to = first.id; reason = 4; through = Includes 1 }

abbrev pub expected_answers : List JudgeAnswer
expected_answers =
    Given verdict.Valid
    ∷ Given (verdict.Invalid (NotTrigger genesis.id))
    ∷ Given verdict.Valid
    ∷ Given verdict.Valid
    ∷ Number 11
    ∷ Given (verdict.TransInvalid root_cause)
    ∷ Given (verdict.Fail (record { len = 2; round = 12; map = maps.Evidence }))
    ∷ Given verdict.Valid
    ∷ Given (verdict.IllFormed (BadWaveLink true))
    ∷ Given (verdict.Invalid (MustHaveReferencedPrevPoint third.id))
    ∷ Given (verdict.Invalid (DepIllFormed near.id 16))
    ∷ Number 12
    ∷ []

abbrev pub entry : PointInfo → Status → Bool → Kept
entry p s certified = record { bytes = point_bytes p; point = p; status = s; certified = certified }

-- certified are the previous points of `first`, `dependent`, `covering` and `last`, and what their certificates cover: that of
-- `covering` also covers `third`. By `near`, whose previous point `third` is, nothing is: no list is needed of it.
abbrev pub expected_book : Book
expected_book =
    entry genesis Valid true
    ∷ entry first (Invalid 4) true
    ∷ entry second Valid true
    ∷ entry third Valid true
    ∷ entry dependent (TransInvalid root_cause) false
    ∷ entry covering Valid true
    ∷ entry near (IllFormed 16) false
    ∷ entry skipping (Invalid 9) false
    ∷ entry last (Invalid 18) false
    ∷ []

-- ---- the slice after them, its tags 33 written out: "state, certified, reason, root id, root's reason, map and peer it came through; zeros
-- where none", with the states "0 valid, 1 trans-invalid, 2 invalid, 3 ill-formed"

abbrev pub tag33 : ℕ → ℕ → ℕ → List ℕ → List ℕ
tag33 state certified reason root = 33 ∷ 105 ∷ 0 ∷ state ∷ certified ∷ reason ∷ root

abbrev pub no_root : List ℕ
no_root = replicate 102 0

-- `first`: its round 11, its digest 111 and its author 1; its reason 4; that it came through the includes, of peer 1
abbrev pub first_as_root : List ℕ
first_as_root =
    concat
    ((11 ∷ 0 ∷ 0 ∷ 0 ∷ [])
    ∷ replicate 31 0 ∷ (111 ∷ []) ∷ replicate 31 0 ∷ (1 ∷ [])
    ∷ (4 ∷ [])
    ∷ (0 ∷ []) ∷ replicate 31 0 ∷ (1 ∷ [])
    ∷ [])

abbrev pub expected_entries : List (List ℕ)
expected_entries =
    (point_bytes genesis ++ tag33 0 1 0 no_root)
    ∷ (point_bytes first ++ tag33 2 1 4 no_root)
    ∷ (point_bytes second ++ tag33 0 1 0 no_root)
    ∷ (point_bytes third ++ tag33 0 1 0 no_root)
    ∷ (point_bytes dependent ++ tag33 1 0 0 first_as_root)
    ∷ (point_bytes covering ++ tag33 0 1 0 no_root)
    ∷ (point_bytes near ++ tag33 3 0 16 no_root)
    ∷ (point_bytes skipping ++ tag33 2 0 9 no_root)
    ∷ (point_bytes last ++ tag33 2 0 18 no_root)
    ∷ []

-- settings, entries, and the seven zeros that are left of 5,000 bytes
abbrev pub expected_slice : List ℕ
expected_slice = settings_bytes conf ++ (concat expected_entries ++ replicate 7 0)

pub record Example : Type 0 where
  -- what the statement asks of settings, slice and offers
  pub readable : read_settings (settings_bytes conf) ≡ Some conf
  pub room : entries_start ≤ length slice
  pub short : length slice ≤ longest_book
  pub bytes : AreBytes offers
  -- what the offers get, and what they leave
  pub answers : given ≡ expected_answers
  pub book : plain.last.book ≡ expected_book
  pub laid : (run offer_bytes (open_bytes (settings_bytes conf) slice) offers).last ≡ expected_slice
  -- a link that leads to its target, and one that ends at an invalid point
  pub reaches : Followed conf expected_book Proof covering (entry genesis Valid true) × IsReached Proof genesis.id (entry genesis Valid true)
  pub stops : Followed conf expected_book Proof dependent (entry first (Invalid 4) true) × IsStopped Proof genesis.id (entry first (Invalid 4) true)
  -- the statement, of this book
  pub found : FoundBook (settings_bytes conf) conf (length slice) (run offer_bytes (open_bytes (settings_bytes conf) slice) offers) plain
