-- Laws of what the call gives.
use Rattle.std.specs.Prelude.{Option, None, Some, Err, Ok}
use Prim.Native.Nat.{ℕ, ◌+◌, ◌≤◌, ◌<◌}
use native.Mathlib.Omega.{arith}
use mathlib.Core.Path.{◌≡◌, refl, ap, sym, ◌∙◌}
use mathlib.Core.Bool.{true, false, ◌&&◌, ◌||◌}
use mathlib.Core.List.{List, [], ◌∷◌, ◌++◌}
use lib.ListN.{length, get_or, length-append}
use lib.Dec.{ltb, eqb}
use borrow.Author.Tests.{eqb-true, lt-ltb, le-ltb}
use Rattle.base.specs.Base.{pick, is_some_and, concat}
use Rattle.base.proofs.Bool.{and_left, or_none, pick_true, pick-false}
use Rattle.base.proofs.Impossible.{impossible}
use Rattle.base.proofs.Option.{pick-has, then_has, has}
use Rattle.parts.specs.Bytes.{little_bytes, put_at}
use Rattle.map.specs.Rows.{peers, peers_of, pairs_of}
use Rattle.map.specs.Risen.{peer_of, itself, risen, has_twice}
use Rattle.map.specs.Written.{peer_bytes, pairs_bytes}
use Rattle.map.proofs.Laws.{peers-pairs_of, pairs_of-length, peers_of-length}
use Rattle.map.proofs.Risen.{risen-length}
use Rattle.map.proofs.Written.{peer_bytes-length, pairs_bytes-length}
use Rattle.record.proofs.Contents.{record-length}
use Rattle.point.specs.Point.{PointInfo, AnchorLink, in_domain}
use Rattle.point.specs.Reading.{point_id_at, read_through, read_link}
use Rattle.point.specs.Written.{id_bytes, link_bytes, role_bytes, point_contents, point_bytes}
use Rattle.point.proofs.PartsWritten.{id_length, direct-length, indirect-length, role-again}
use Rattle.compose.specs.Draft.{Draft, are_maps, link_part, role_part, handed_over, any_twice, rearranged, composed, composition_of, composition, put_composed}
use Rattle.compose.specs.Code.{any_row_twice, record_length, Ordered}
use Rattle.compose.specs.declared.draft.Orders.{Orders}
use Rattle.compose.proofs.Fields.{numbers-long}
use Rattle.compose.proofs.Rows.{Maps, are_rows_lem, rows_whole}
use Rattle.compose.proofs.Contents.{Handed, handed}

-- the point that was handed over, if it lies in the domain
handed_some : (d : Draft) → is_some_and (handed_over d) in_domain ≡ true → (p : PointInfo) × (handed_over d ≡ Some p)
handed_some d g = go (handed_over d) refl g
  where
    go : (o : Option PointInfo) → handed_over d ≡ o → is_some_and o in_domain ≡ true → (p : PointInfo) × (handed_over d ≡ Some p)
    go None e k = impossible (cc)
    go (Some p) e k = (p, e)

-- ---- how long the record is

-- a link that is read has as many bytes
link-long : (s : List ℕ) (l : AnchorLink) → read_link s ≡ Some l → length (link_bytes l) ≡ length s
unfolding read_link
link-long s l e =
    let P = λ (x : AnchorLink). length (link_bytes x) ≡ length s in
    has P (read_link s) l
    (then_has P (read_through s) _ (λ t f.
    pick-has P (eqb (length s) 34 && eqb (get_or s 0 0) 0) _ _
    (λ h. direct-length t ∙ sym (eqb-true (length s) 34 (and_left (eqb (length s) 34) _ h)))
    (pick-has P (eqb (length s) 102 && eqb (get_or s 0 0) 1) _ _
    (λ h. indirect-length (point_id_at s 34) t ∙ sym (eqb-true (length s) 102 (and_left (eqb (length s) 102) _ h))) tt)))
    e

-- nine contents
nine-long : (a b c d e f g h i : List ℕ) →
    length (concat (a ∷ b ∷ c ∷ d ∷ e ∷ f ∷ g ∷ h ∷ i ∷ []))
    ≡ length a + length b + length c + length d + length e + length f + length g + length h + length i
unfolding concat
nine-long a b c d e f g h i = simp (length-append) (omega arith)

module _ (d : Draft) (p : PointInfo) (h : Handed d p) (m : Maps d) where
  includes-long : length (pairs_bytes (risen peer_of p.includes)) ≡ length d.includes
  includes-long =
      omega (
        arith,
        pairs_bytes-length (risen peer_of p.includes),
        risen-length peer_of p.includes,
        ap (λ (q : PointInfo). length q.includes) h.point,
        pairs_of-length d.includes,
        rows_whole 64 d.includes m.includes,
      )

  witness-long : length (pairs_bytes (risen peer_of p.witness)) ≡ length d.witness
  witness-long =
      omega (
        arith,
        pairs_bytes-length (risen peer_of p.witness),
        risen-length peer_of p.witness,
        ap (λ (q : PointInfo). length q.witness) h.point,
        pairs_of-length d.witness,
        rows_whole 64 d.witness m.witness,
      )

  evidence-long : length (peer_bytes (risen itself p.evidence)) ≡ length d.evidence
  evidence-long =
      omega (
        arith,
        peer_bytes-length (risen itself p.evidence),
        risen-length itself p.evidence,
        ap (λ (q : PointInfo). length q.evidence) h.point,
        peers_of-length 32 d.evidence,
        rows_whole 32 d.evidence m.evidence,
      )

  composed-length : length (composed p) ≡ record_length d
  unfolding composed point_bytes point_contents rearranged
  composed-length =
      omega (
        arith,
        record-length (point_contents (rearranged p)) refl,
        nine-long
            (id_bytes p.id)
            (little_bytes 4 p.payload_len ++ little_bytes 4 p.payload_bytes)
            (pairs_bytes (risen peer_of p.includes))
            (pairs_bytes (risen peer_of p.witness))
            (peer_bytes (risen itself p.evidence))
            (link_bytes p.anchor_proof)
            (link_bytes p.anchor_trigger)
            (role_bytes p.role)
            (little_bytes 8 p.time ++ little_bytes 8 p.anchor_time),
        id_length p.id,
        numbers-long 4 p.payload_len p.payload_bytes,
        includes-long,
        witness-long,
        evidence-long,
        link-long (link_part d.anchor_proof) p.anchor_proof h.proof,
        link-long (link_part d.anchor_trigger) p.anchor_trigger h.trigger,
        ap length (role-again (role_part d) p.role h.role),
        numbers-long 8 p.time p.anchor_time,
      )

  -- whether a peer is there twice
  twice-same : any_twice p ≡ any_row_twice d
  twice-same =
      ap any_twice h.point
      ∙ (ap (λ l. has_twice l || (has_twice (peers (pairs_of d.witness)) || has_twice (peers_of 32 d.evidence))) (peers-pairs_of d.includes)
      ∙ ap (λ l. has_twice (peers_of 64 d.includes) || (has_twice l || has_twice (peers_of 32 d.evidence))) (peers-pairs_of d.witness))

-- where the maps have orders, none is
once : (d : Draft) (o : Orders) → Ordered d o → any_row_twice d ≡ false
unfolding peers_of
once d o r =
    or_none (has_twice (peers_of 64 d.includes)) _ r.includes.0
    (or_none (has_twice (peers_of 64 d.witness)) (has_twice (peers_of 32 d.evidence)) r.witness.0 r.evidence.0)

-- ---- the number or the count, in the order of the tests

module _ (d : Draft) (size : ℕ) where
  pub composition_unrowed : are_maps d ≡ false → composition d size ≡ Err 3
  unfolding composition
  composition_unrowed h = pick-false (are_maps d) _ _ h

  module _ (m : are_maps d ≡ true) where
    rowed : composition d size ≡ composition_of (handed_over d) size
    unfolding composition
    rowed = pick_true (are_maps d) _ _ m

    pub composition_outside : is_some_and (handed_over d) in_domain ≡ false → composition d size ≡ Err 4
    composition_outside h = rowed ∙ go (handed_over d) h
      where
        go : (o : Option PointInfo) → is_some_and o in_domain ≡ false → composition_of o size ≡ Err 4
        go None h = refl
        go (Some p) h = pick-false (in_domain p) _ _ h

    module _ (g : is_some_and (handed_over d) in_domain ≡ true) where
      inside : (p : PointInfo) → handed_over d ≡ Some p →
          composition d size ≡ pick (any_twice p) (Err 13) (pick (ltb size (length (composed p))) (Err 14) (Ok (length (composed p))))
      inside p e =
          let k : in_domain p ≡ true = rw e at g in
          rowed ∙ (ap (λ o. composition_of o size) e ∙ pick_true (in_domain p) _ _ k)

      pub by_rows : composition d size ≡ pick (any_row_twice d) (Err 13) (pick (ltb size (record_length d)) (Err 14) (Ok (record_length d)))
      by_rows =
          let q = handed_some d g in
          let h = handed d q.0 q.1 in
          let maps = are_rows_lem d m in
          let twice = twice-same d q.0 h maps in
          let long = composed-length d q.0 h maps in
          inside q.0 q.1
          ∙ (ap (λ b. pick b (Err 13) (pick (ltb size (length (composed q.0))) (Err 14) (Ok (length (composed q.0))))) twice
          ∙ ap (λ n. pick (any_row_twice d) (Err 13) (pick (ltb size n) (Err 14) (Ok n))) long)

      pub composition_twice : any_row_twice d ≡ true → composition d size ≡ Err 13
      composition_twice t = by_rows ∙ pick_true (any_row_twice d) _ _ t

      module _ (o : Orders) (r : Ordered d o) where
        ordered : composition d size ≡ pick (ltb size (record_length d)) (Err 14) (Ok (record_length d))
        ordered = by_rows ∙ pick-false (any_row_twice d) _ _ (once d o r)

        pub composition_short : size < record_length d → composition d size ≡ Err 14
        composition_short l = ordered ∙ pick_true (ltb size (record_length d)) _ _ (lt-ltb size (record_length d) l)

        pub composition_done : record_length d ≤ size → composition d size ≡ Ok (record_length d)
        composition_done l = ordered ∙ pick-false (ltb size (record_length d)) _ _ (le-ltb size (record_length d) l)

pub ruleset composed_facts = (composition_unrowed, composition_outside, composition_twice, composition_short, composition_done)

-- the output, where a point was handed over
pub put_done : (d : Draft) (out new : List ℕ) → is_some_and (handed_over d) in_domain ≡ true →
    ((p : PointInfo) → handed_over d ≡ Some p → new ≡ put_at out 0 (composed p)) → new ≡ put_composed (handed_over d) out
put_done d out new g f =
    let q = handed_some d g in
    f q.0 q.1 ∙ ap (λ o. put_composed o out) (sym q.1)
