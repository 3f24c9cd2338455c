-- Laws of the bytes of a point: written it is read back, and a record that was read as a point is written again, byte for byte.
use Rattle.std.specs.Prelude.{Option, Some}
use Prim.Native.Nat.{ℕ, ◌+◌, ◌^◌, ◌<◌}
use native.Mathlib.Nat.{zero-add}
use native.Mathlib.Omega.{arith}
use mathlib.Core.Path.{◌≡◌, ap, sym, ◌∙◌}
use mathlib.Core.Bool.{true, ◌&&◌}
use mathlib.Core.List.{List, [], ◌∷◌, ◌++◌, append-nil}
use lib.ListN.{length, get_or, length-append}
use lib.Seq.{take_all}
use Rattle.base.proofs.Bool.{and_both, pick_true}
use Rattle.parts.specs.Bytes.{bytes_at, little_at, little_bytes, Bytes}
use Rattle.parts.proofs.Laws.{at_split, little-length, little-back, little-of}
use Rattle.parts.proofs.AllBytes.{AllBytes, both, little-below}
use Rattle.map.specs.declared.Arrangement.TheVariants.{Columns}
use Rattle.map.specs.Rows.{pairs_of, peers_of, well_rowed, is_map}
use Rattle.map.specs.Written.{peer_bytes, pairs_bytes}
use Rattle.map.proofs.Written.{peer_bytes-length, pairs_bytes-length, peer_bytes-are, pairs_bytes-are, peers-back, pairs-back, pairs_bytes-map, peer_bytes-rowed, peers-again, pairs-again}
use Rattle.record.specs.Record.{rows, row_of, content_of, well_shaped}
use Rattle.record.specs.Fields.{record_bytes, contents}
use Rattle.record.proofs.Laws.{content-bytes, content-greatest}
use Rattle.record.proofs.Contents.{Within, record-parts, parts-record, within_none, within_cons, each_none, each_more, record-are}
use Rattle.point.specs.Point.{AnchorLink, PointInfo}
use Rattle.point.specs.declared.data.PointRole.{PointRole}
use Rattle.point.specs.Reading.{point_id_at, read_link, read_role, maps_ok, read_point, read_point_in}
use Rattle.point.specs.Written.{id_bytes, link_bytes, role_bytes, point_contents, point_bytes}
use Rattle.point.proofs.Laws.{id_long, payload_long, times_long, reads, readable, parts-of}
use Rattle.point.proofs.Fits.{PointFits}
use Rattle.point.proofs.PartsWritten.{id_length, link-least, link-greatest, role-length, id-bytes, link-bytes, role-bytes, id-first, link-back, role-back, id-again, link-again, role-again}

-- ---- two numbers, one after the other

module _ (n x y : ℕ) where
  two-length : length (little_bytes n x ++ little_bytes n y) ≡ n + n
  two-length = omega (arith, length-append (little_bytes n x) (little_bytes n y), little-length n x, little-length n y)

  two-bytes : AllBytes (little_bytes n x ++ little_bytes n y)
  two-bytes = both (little_bytes n x) (little-below n x) (little-below n y)

four-back : (x y : ℕ) → x < 256 ^ 4 → y < 256 ^ 4 →
    (little_at 4 (little_bytes 4 x ++ little_bytes 4 y) 0 ≡ x) × (little_at 4 (little_bytes 4 x ++ little_bytes 4 y) 4 ≡ y)
unfolding little_at little_bytes
four-back x y f g = (little-back 4 x f, little-back 4 y g)

eight-back : (x y : ℕ) → x < 256 ^ 8 → y < 256 ^ 8 →
    (little_at 8 (little_bytes 8 x ++ little_bytes 8 y) 0 ≡ x) × (little_at 8 (little_bytes 8 x ++ little_bytes 8 y) 8 ≡ y)
unfolding little_at little_bytes
eight-back x y f g = (little-back 8 x f, little-back 8 y g)

two-again : (n x y : ℕ) (s : List ℕ) → Bytes s → length s ≡ n + n → x ≡ little_at n s 0 → y ≡ little_at n s n →
    little_bytes n x ++ little_bytes n y ≡ s
two-again n x y s b h f g =
    rw (f, g, little-of n s 0 b (omega arith), little-of n s n b (omega arith))
    (ap (λ k. bytes_at n s 0 ++ bytes_at n s k) (sym (zero-add n)) ∙ (sym (at_split n n s 0) ∙ take_all (n + n) s (omega arith)))

-- ---- bytes

pub point-bytes-are : (p : PointInfo) → PointFits p → AllBytes (point_bytes p)
unfolding point_bytes point_contents
point-bytes-are p f =
    record-are (point_contents p)
    (each_more (id-bytes p.id)
    (each_more (two-bytes 4 p.payload_len p.payload_bytes)
    (each_more (pairs_bytes-are p.includes)
    (each_more (pairs_bytes-are p.witness)
    (each_more (peer_bytes-are p.evidence)
    (each_more (link-bytes p.anchor_proof)
    (each_more (link-bytes p.anchor_trigger)
    (each_more (role-bytes p.role f.role)
    (each_more (two-bytes 8 p.time p.anchor_time) each_none)))))))))

-- ---- read back

-- a point by its parts
read-parts : (s : List ℕ) (a b : Option AnchorLink) (r : Option PointRole) (p : PointInfo) →
    a ≡ Some p.anchor_proof → b ≡ Some p.anchor_trigger → r ≡ Some p.role →
    point_id_at (content_of s 0) 0 ≡ p.id → little_at 4 (content_of s 1) 0 ≡ p.payload_len → little_at 4 (content_of s 1) 4 ≡ p.payload_bytes →
    pairs_of (content_of s 2) ≡ p.includes → pairs_of (content_of s 3) ≡ p.witness → peers_of 32 (content_of s 4) ≡ p.evidence →
    little_at 8 (content_of s 8) 0 ≡ p.time → little_at 8 (content_of s 8) 8 ≡ p.anchor_time →
    reads Columns s a b r ≡ Some p
read-parts s a b r p ea eb er ei en em ec ew ev et es = rw (ea, eb, er, ei, en, em, ec, ew, ev, et, es)

module _ (p : PointInfo) (f : PointFits p) where
  within : Within rows (point_contents p)
  unfolding rows point_contents
  within =
      let pay = two-length 4 p.payload_len p.payload_bytes in
      let tim = two-length 8 p.time p.anchor_time in
      within_cons _ _ (id_bytes p.id) _ (omega (arith, id_length p.id)) (omega (arith, id_length p.id))
      (within_cons _ _ (little_bytes 4 p.payload_len ++ little_bytes 4 p.payload_bytes) _ (omega (arith, pay)) (omega (arith, pay))
      (within_cons _ _ (pairs_bytes p.includes) _ (omega arith) (omega (arith, pairs_bytes-length p.includes, f.includes.few))
      (within_cons _ _ (pairs_bytes p.witness) _ (omega arith) (omega (arith, pairs_bytes-length p.witness, f.witness.few))
      (within_cons _ _ (peer_bytes p.evidence) _ (omega arith) (omega (arith, peer_bytes-length p.evidence, f.evidence.few))
      (within_cons _ _ (link_bytes p.anchor_proof) _ (link-least p.anchor_proof) (link-greatest p.anchor_proof)
      (within_cons _ _ (link_bytes p.anchor_trigger) _ (link-least p.anchor_trigger) (link-greatest p.anchor_trigger)
      (within_cons _ _ (role_bytes p.role) _ (role-length p.role).0 (role-length p.role).1
      (within_cons _ _ (little_bytes 8 p.time ++ little_bytes 8 p.anchor_time) _ (omega (arith, tim)) (omega (arith, tim))
      within_none))))))))

  shaped : well_shaped (point_bytes p) ≡ true
  unfolding point_bytes
  shaped = (parts-record (point_contents p) within).0

  content-is : (k : ℕ) → k < 9 → content_of (point_bytes p) k ≡ get_or (point_contents p) k []
  unfolding point_bytes
  content-is k h = (parts-record (point_contents p) within).1 k h

  -- each content as it was written
  record Contents : Type 0 where
    id : content_of (point_bytes p) 0 ≡ id_bytes p.id ++ []
    payload : content_of (point_bytes p) 1 ≡ little_bytes 4 p.payload_len ++ little_bytes 4 p.payload_bytes
    includes : content_of (point_bytes p) 2 ≡ pairs_bytes p.includes
    witness : content_of (point_bytes p) 3 ≡ pairs_bytes p.witness
    evidence : content_of (point_bytes p) 4 ≡ peer_bytes p.evidence
    proof : content_of (point_bytes p) 5 ≡ link_bytes p.anchor_proof
    trigger : content_of (point_bytes p) 6 ≡ link_bytes p.anchor_trigger
    role : content_of (point_bytes p) 7 ≡ role_bytes p.role
    times : content_of (point_bytes p) 8 ≡ little_bytes 8 p.time ++ little_bytes 8 p.anchor_time

  are : Contents
  unfolding point_contents
  are =
      record {
        id = content-is 0 (omega arith) ∙ sym (append-nil (id_bytes p.id));
        payload = content-is 1 (omega arith);
        includes = content-is 2 (omega arith);
        witness = content-is 3 (omega arith);
        evidence = content-is 4 (omega arith);
        proof = content-is 5 (omega arith);
        trigger = content-is 6 (omega arith);
        role = content-is 7 (omega arith);
        times = content-is 8 (omega arith);
      }

  maps : maps_ok Columns (point_bytes p) ≡ true
  unfolding maps_ok
  maps =
      let s = point_bytes p in
      and_both (is_map Columns (content_of s 2)) _ (ap (is_map Columns) are.includes ∙ pairs_bytes-map p.includes f.includes.fit f.includes.rise)
      (and_both (is_map Columns (content_of s 3)) _ (ap (is_map Columns) are.witness ∙ pairs_bytes-map p.witness f.witness.fit f.witness.rise)
      (ap (well_rowed 32) are.evidence ∙ peer_bytes-rowed p.evidence f.evidence.fit f.evidence.rise))

  past_tests : read_point (point_bytes p)
      ≡ reads Columns (point_bytes p) (read_link (content_of (point_bytes p) 5)) (read_link (content_of (point_bytes p) 6))
      (read_role (content_of (point_bytes p) 7))
  unfolding read_point_in
  past_tests =
      pick_true (well_shaped (point_bytes p) && maps_ok Columns (point_bytes p)) _ _ (and_both (well_shaped (point_bytes p)) _ shaped maps)

  -- "The reader gives back the same point for whatever the writer wrote"
  pub point-back : read_point (point_bytes p) ≡ Some p
  point-back =
      let s = point_bytes p in
      let pay = four-back p.payload_len p.payload_bytes f.payload_len f.payload_bytes in
      let tim = eight-back p.time p.anchor_time f.time f.anchor_time in
      past_tests
      ∙ read-parts s (read_link (content_of s 5)) (read_link (content_of s 6)) (read_role (content_of s 7)) p
      (ap read_link are.proof ∙ link-back p.anchor_proof f.proof)
      (ap read_link are.trigger ∙ link-back p.anchor_trigger f.trigger)
      (ap read_role are.role ∙ role-back p.role)
      (ap (λ c. point_id_at c 0) are.id ∙ id-first p.id [] f.id)
      (ap (λ c. little_at 4 c 0) are.payload ∙ pay.0)
      (ap (λ c. little_at 4 c 4) are.payload ∙ pay.1)
      (ap pairs_of are.includes ∙ pairs-back p.includes f.includes.fit)
      (ap pairs_of are.witness ∙ pairs-back p.witness f.witness.fit)
      (ap (peers_of 32) are.evidence ∙ peers-back p.evidence f.evidence.fit)
      (ap (λ c. little_at 8 c 0) are.times ∙ tim.0)
      (ap (λ c. little_at 8 c 8) are.times ∙ tim.1)

-- ---- written again

nine_same : (a b c d e f g h i a₁ b₁ c₁ d₁ e₁ f₁ g₁ h₁ i₁ : List ℕ) →
    a ≡ a₁ → b ≡ b₁ → c ≡ c₁ → d ≡ d₁ → e ≡ e₁ → f ≡ f₁ → g ≡ g₁ → h ≡ h₁ → i ≡ i₁ →
    ◌≡◌ {A = List (List ℕ)} (a ∷ b ∷ c ∷ d ∷ e ∷ f ∷ g ∷ h ∷ i ∷ []) (a₁ ∷ b₁ ∷ c₁ ∷ d₁ ∷ e₁ ∷ f₁ ∷ g₁ ∷ h₁ ∷ i₁ ∷ [])
nine_same a b c d e f g h i a₁ b₁ c₁ d₁ e₁ f₁ g₁ h₁ i₁ pa pb pc pd pe pf pg ph pi = cc

id-all : (s : List ℕ) → Bytes s → length s ≡ 68 → id_bytes (point_id_at s 0) ≡ s
id-all s b h = id-again s 0 b (omega arith) ∙ take_all 68 s (omega arith)

-- the three fields of one length
module _ (s : List ℕ) (w : well_shaped s ≡ true) where
  id-exact : length (content_of s 0) ≡ 68
  unfolding row_of rows
  id-exact = omega (arith, id_long s w, content-greatest s w 0 (omega arith))

  payload-exact : length (content_of s 1) ≡ 8
  unfolding row_of rows
  payload-exact = omega (arith, payload_long s w, content-greatest s w 1 (omega arith))

  times-exact : length (content_of s 8) ≡ 16
  unfolding row_of rows
  times-exact = omega (arith, times_long s w, content-greatest s w 8 (omega arith))

module _ (s : List ℕ) (p : PointInfo) (b : Bytes s) (h : read_point s ≡ Some p) where
  contents-again : point_contents p ≡ contents s
  unfolding point_contents contents
  contents-again =
      let q = readable s p h in
      let m = parts-of s p h in
      let of = λ (k : ℕ). content-bytes s k b in
      nine_same _ _ _ _ _ _ _ _ _
      (content_of s 0) (content_of s 1) (content_of s 2) (content_of s 3) (content_of s 4) (content_of s 5) (content_of s 6) (content_of s 7) (content_of s 8)
      (ap id_bytes m.id ∙ id-all (content_of s 0) (of 0) (id-exact s q.shaped))
      (two-again 4 p.payload_len p.payload_bytes (content_of s 1) (of 1) (payload-exact s q.shaped) m.payload_len m.payload_bytes)
      (ap pairs_bytes m.includes ∙ pairs-again (content_of s 2) (of 2) (omega (arith, q.includes.whole)))
      (ap pairs_bytes m.witness ∙ pairs-again (content_of s 3) (of 3) (omega (arith, q.witness.whole)))
      (ap peer_bytes m.evidence ∙ peers-again (content_of s 4) (of 4) (omega (arith, q.evidence.whole)))
      (link-again (content_of s 5) (of 5) p.anchor_proof m.proof)
      (link-again (content_of s 6) (of 6) p.anchor_trigger m.trigger)
      (role-again (content_of s 7) p.role m.role)
      (two-again 8 p.time p.anchor_time (content_of s 8) (of 8) (times-exact s q.shaped) m.time m.anchor_time)

  -- "the writer gives back the same bytes for every record the reader took"
  pub point-again : point_bytes p ≡ s
  unfolding point_bytes
  point-again = ap record_bytes contents-again ∙ sym (record-parts s b (readable s p h).shaped)
