-- Which number comes for a draft, in the statement's words.
use Rattle.std.specs.Prelude.{Err, Ok}
use Prim.Native.Nat.{ℕ, ◌*◌, ◌/◌, ◌%◌, ◌≤◌, ◌<◌}
use native.Mathlib.Omega.{arith}
use mathlib.Core.Path.{◌≡◌, ap, sym, ◌∙◌}
use mathlib.Core.Logic.{⊎_elim}
use mathlib.Core.Bool.{true, false, not, ◌&&◌, ◌||◌}
use mathlib.Core.List.{List}
use lib.ListN.{length, get_or}
use lib.Dec.{leb, ltb, eqb}
use borrow.Author.Tests.{lt-ltb, le-ltb}
use Rattle.std.proofs.lemmas.Bool.Decides.{nat_tests}
use Rattle.base.specs.Base.{pick, is_some_and}
use Rattle.base.proofs.Bool.{cases, never, and_both, or_left, or_right, or_none, pick_true, pick-false}
use Rattle.parts.specs.Bytes.{Bytes, bytes_at, big, big_at, id_at, big_bytes, little_at}
use Rattle.write.proofs.Numbers.{big-of}
use Rattle.map.specs.Rows.{peer_at, peers_of}
use Rattle.map.specs.Risen.{has_twice}
use Rattle.map.proofs.Laws.{peers_of-length, peers_of-at, peers_room}
use Rattle.map.proofs.Risen.{once-apart, apart_once}
use Rattle.point.specs.Point.{in_domain}
use Rattle.compose.specs.Draft.{Draft, are_rows, are_maps, handed_over, composition}
use Rattle.compose.specs.Code.{any_row_twice, record_length}
use Rattle.compose.specs.Composed.{Lent, WholeRows, WholeMaps, Known, PeersDiffer, PeersOnce, Numbers}
use Rattle.compose.proofs.Tested.{link_some, role_some, domain_some}
use Rattle.compose.proofs.Rows.{are_rows_lem, rows_whole, rows_few}
use Rattle.compose.proofs.Called.{composition_unrowed, composition_outside, by_rows}

-- ---- 3

row-maps : (d : Draft) → are_maps d ≡ true → WholeMaps d
row-maps d h =
    let m = are_rows_lem d h in
    record {
      includes = (length d.includes / 64, rows_few 64 d.includes m.includes, omega (arith, rows_whole 64 d.includes m.includes));
      witness = (length d.witness / 64, rows_few 64 d.witness m.witness, omega (arith, rows_whole 64 d.witness m.witness));
      evidence = (length d.evidence / 32, rows_few 32 d.evidence m.evidence, omega (arith, rows_whole 32 d.evidence m.evidence));
    }

rows-are : (width : ℕ) (s : List ℕ) → length s % width ≡ 0 → length s / width ≤ 255 → are_rows width s ≡ true
rows-are width s w f = grind (arith, nat_tests)

pairs-are : (s : List ℕ) → WholeRows 64 s → are_rows 64 s ≡ true
pairs-are s h = rows-are 64 s (omega (arith, h.2)) (omega (arith, h.1, h.2))

peers-are : (s : List ℕ) → WholeRows 32 s → are_rows 32 s ≡ true
peers-are s h = rows-are 32 s (omega (arith, h.2)) (omega (arith, h.1, h.2))

pub maps-are : (d : Draft) → WholeMaps d → are_maps d ≡ true
maps-are d h =
    and_both (are_rows 64 d.includes) _ (pairs-are d.includes h.includes)
    (and_both (are_rows 64 d.witness) _ (pairs-are d.witness h.witness) (peers-are d.evidence h.evidence))

-- ---- 4

module _ (d : Draft) (l : Lent d) where
  known-is : is_some_and (handed_over d) in_domain
      ≡ ((leb (get_or d.anchor_proof 0 0) 1 && leb (get_or d.anchor_proof 1 0) 1)
      && ((leb (get_or d.anchor_trigger 0 0) 1 && leb (get_or d.anchor_trigger 1 0) 1)
      && ((leb d.role 3 && (not (eqb d.role 1) || leb d.is_last 1))
      && (leb 4 (little_at 4 d.id 0)
      && (leb (little_at 4 d.id 0) 2147483647
      && (leb d.time 9223372036854775807
      && leb d.anchor_time 9223372036854775807))))))
  known-is =
      domain_some d
      ∙ rw (link_some d.anchor_proof l.anchor_proof.1, link_some d.anchor_trigger l.anchor_trigger.1, role_some d)

  known-true : Known d → is_some_and (handed_over d) in_domain ≡ true
  known-true k =
      let a = k.anchor_proof in
      let b = k.anchor_trigger in
      let c = k.role in
      let e = k.is_last in
      let r = k.round in
      let t : d.time ≤ 9223372036854775807 = omega (arith, k.time) in
      let u : d.anchor_time ≤ 9223372036854775807 = omega (arith, k.anchor_time) in
      known-is ∙ grind (arith, nat_tests)

  true-known : is_some_and (handed_over d) in_domain ≡ true → Known d
  true-known h =
      let g = sym known-is ∙ h in
      record {
        anchor_proof = (grind (arith, nat_tests), grind (arith, nat_tests));
        anchor_trigger = (grind (arith, nat_tests), grind (arith, nat_tests));
        role = grind (arith, nat_tests);
        is_last = λ e. grind (arith, nat_tests);
        round = (grind (arith, nat_tests), grind (arith, nat_tests));
        time = (let t : d.time ≤ 9223372036854775807 = grind (arith, nat_tests) in omega arith);
        anchor_time = (let t : d.anchor_time ≤ 9223372036854775807 = grind (arith, nat_tests) in omega arith);
      }

-- ---- 13

module _ (width : ℕ) (s : List ℕ) (b : Bytes s) (h : 32 ≤ width) where
  abbrev many : ℕ
  many = length s / width

  row-peer : (i : ℕ) → i < many → get_or (peers_of width s) i 0 ≡ id_at s (32 * i)
  unfolding peer_at
  row-peer i k = peers_of-at width s i (omega (arith, peers_of-length width s))

  -- peers are equal as numbers exactly where their bytes are
  row-bytes : (i : ℕ) → i < many → big_bytes 32 (get_or (peers_of width s) i 0) ≡ bytes_at 32 s (32 * i)
  row-bytes i k =
      ap (big_bytes 32) (row-peer i k) ∙ big-of 32 s (32 * i) b (omega (arith, peers_room width s h, peers_of-length width s))

  same-peers : (i j : ℕ) → bytes_at 32 s (32 * i) ≡ bytes_at 32 s (32 * j) → id_at s (32 * i) ≡ id_at s (32 * j)
  unfolding big_at
  same-peers i j e = ap big e

  differ_once : PeersDiffer many s → has_twice (peers_of width s) ≡ false
  differ_once f =
      apart_once (peers_of width s) (λ i j g k e.
      let inside : j < many = omega (arith, peers_of-length width s) in
      f i j g inside (sym (row-bytes i (omega arith)) ∙ (ap (big_bytes 32) e ∙ row-bytes j inside)))

  once_differ : has_twice (peers_of width s) ≡ false → PeersDiffer many s
  once_differ t i j g k e =
      once-apart (peers_of width s) t i j g (omega (arith, peers_of-length width s))
      (row-peer i (omega arith) ∙ (same-peers i j e ∙ sym (row-peer j k)))

module _ (d : Draft) (l : Lent d) where
  once-none : PeersOnce d → any_row_twice d ≡ false
  once-none o =
      or_none (has_twice (peers_of 64 d.includes)) _ (differ_once 64 d.includes l.includes (omega arith) o.includes)
      (or_none (has_twice (peers_of 64 d.witness)) _ (differ_once 64 d.witness l.witness (omega arith) o.witness)
      (differ_once 32 d.evidence l.evidence (omega arith) o.evidence))

  none-once : any_row_twice d ≡ false → PeersOnce d
  none-once h =
      let later = or_right (has_twice (peers_of 64 d.includes)) _ h in
      record {
        includes = once_differ 64 d.includes l.includes (omega arith) (or_left (has_twice (peers_of 64 d.includes)) _ h);
        witness = once_differ 64 d.witness l.witness (omega arith) (or_left (has_twice (peers_of 64 d.witness)) _ later);
        evidence = once_differ 32 d.evidence l.evidence (omega arith) (or_right (has_twice (peers_of 64 d.witness)) _ later);
      }

  -- ---- in the order of the tests

  module _ (size : ℕ) where
    three_lem : (WholeMaps d → ⊥) → composition d size ≡ Err 3
    three_lem w = composition_unrowed d size (never (are_maps d) (λ t. w (row-maps d t)))

    module _ (w : WholeMaps d) where
      four_lem : (Known d → ⊥) → composition d size ≡ Err 4
      four_lem k = composition_outside d size (maps-are d w) (never (is_some_and (handed_over d) in_domain) (λ t. k (true-known d l t)))

      module _ (k : Known d) where
        tested : composition d size ≡ pick (any_row_twice d) (Err 13) (pick (ltb size (record_length d)) (Err 14) (Ok (record_length d)))
        tested = by_rows d size (maps-are d w) (known-true d l k)

        thirteen_lem : (PeersOnce d → ⊥) → composition d size ≡ Err 13
        thirteen_lem o = ⊎_elim (λ t. tested ∙ pick_true (any_row_twice d) _ _ t) (λ t. absurd (o (none-once t))) (cases (any_row_twice d))

        sized : PeersOnce d → composition d size ≡ pick (ltb size (record_length d)) (Err 14) (Ok (record_length d))
        sized o = tested ∙ pick-false (any_row_twice d) _ _ (once-none o)

  pub numbers_lem : (size : ℕ) → Numbers d size (record_length d)
  numbers_lem size =
      record {
        three = three_lem size;
        four = λ w. four_lem size w;
        thirteen = λ w k. thirteen_lem size w k;
        fourteen = λ w k o h. sized size w k o ∙ pick_true (ltb size (record_length d)) _ _ (lt-ltb size (record_length d) h);
        none = λ w k o h. sized size w k o ∙ pick-false (ltb size (record_length d)) _ _ (le-ltb size (record_length d) h);
      }
