-- A record that was read is what is written of its parts.
use Rattle.std.specs.Prelude.{Some, Err, Ok}
use Prim.Native.Nat.{ℕ, ◌≤◌}
use native.Mathlib.Omega.{arith}
use mathlib.Core.Path.{◌≡◌, refl, ap, sym, ◌∙◌}
use mathlib.Core.Bool.{true, false}
use mathlib.Core.List.{List, [], ◌∷◌}
use lib.ListN.{length, get_or, take}
use lib.Seq.{take_all, get_or-take}
use lib.Dec.{ltb, eqb}
use borrow.Author.Tests.{eq-eqb, ne_eqb, le-ltb}
use Rattle.base.specs.Base.{pick}
use Rattle.base.proofs.Bool.{or_none, pick_true, pick-false}
use Rattle.parts.specs.Bytes.{Bytes}
use Rattle.map.specs.Rows.{Pair, rising, peers, pairs_of, peers_of}
use Rattle.map.specs.Risen.{peer_of, itself, risen, has_twice}
use Rattle.map.proofs.Pairs.{keys-peers, keys-themselves}
use Rattle.map.proofs.Risen.{rising-once, risen-alone}
use Rattle.record.specs.Record.{content_of}
use Rattle.record.proofs.Laws.{content-bytes}
use Rattle.point.specs.Point.{PointId, Through, PointInfo, AnchorLink, Direct, Indirect, in_domain}
use Rattle.point.specs.declared.data.PointRole.{PointRole}
use Rattle.point.specs.declared.data.PointRole.TheVariants.{Regular, AnchorProof, AnchorTrigger, Genesis}
use Rattle.point.specs.Reading.{point_id_at, read_link, read_role, read_point}
use Rattle.point.specs.Written.{link_bytes, role_bytes, point_bytes}
use Rattle.point.proofs.Laws.{readable, parts-of}
use Rattle.point.proofs.PartsWritten.{direct-length, indirect-length, link-again, role-again}
use Rattle.point.proofs.Written.{point-again}
use Rattle.compose.specs.Draft.{Draft, link_part, role_part, are_maps, handed_over, any_twice, rearranged, composed, composition_of, composition, point_by}
use Rattle.compose.specs.Composed.{Lent, PartsOf, WholeMaps}
use Rattle.compose.proofs.Numbered.{maps-are}

-- ---- the parts that are read

direct-kind : (t : Through) → get_or (link_bytes (Direct t)) 0 0 ≡ 0
unfolding link_bytes
direct-kind t = refl

indirect-kind : (to : PointId) (t : Through) → get_or (link_bytes (Indirect to t)) 0 0 ≡ 1
unfolding link_bytes
indirect-kind to t = refl

-- a link of which the record's content is the front
module _ (s c : List ℕ) (n : length s ≡ 102) (e : take (length c) s ≡ c) where
  link_front : (l : AnchorLink) → link_bytes l ≡ c → link_part s ≡ c
  link_front (Direct t) f =
      let long : length c ≡ 34 = sym (ap length f) ∙ direct-length t in
      let front : take 34 s ≡ c = ap (λ k. take k s) (sym long) ∙ e in
      let kind : get_or s 0 0 ≡ 0 =
      sym (get_or-take 34 s 0 0 (omega arith)) ∙ (ap (λ x. get_or x 0 0) (front ∙ sym f) ∙ direct-kind t) in
      pick_true (eqb (get_or s 0 0) 0) _ _ (eq-eqb (get_or s 0 0) 0 kind) ∙ front
  link_front (Indirect to t) f =
      let long : length c ≡ 102 = sym (ap length f) ∙ indirect-length to t in
      let whole : s ≡ c = sym (take_all (length c) s (omega arith)) ∙ e in
      let kind : get_or s 0 0 ≡ 1 = ap (λ x. get_or x 0 0) (whole ∙ sym f) ∙ indirect-kind to t in
      pick-false (eqb (get_or s 0 0) 0) _ _ (ne_eqb (get_or s 0 0) 0 (λ k. omega arith)) ∙ whole

  link_is : (l : AnchorLink) → Bytes c → read_link c ≡ Some l → read_link (link_part s) ≡ Some l
  link_is l b r = ap read_link (link_front l (link-again c b l r)) ∙ r

-- a role's bytes, where its number and, of a proof, the two bytes after it are the content's
module _ (d : Draft) (c : List ℕ) (e : d.role ≡ get_or c 0 0)
    (f : d.role ≡ 1 → (d.seq_no ≡ get_or c 1 0) × (d.is_last ≡ get_or c 2 0)) where
  one : (x : ℕ) → (x ≡ 1 → ⊥) → x ∷ [] ≡ c → role_part d ≡ c
  one x o g =
      let r : d.role ≡ x = e ∙ ap (λ y. get_or y 0 0) (sym g) in
      pick-false (eqb d.role 1) _ _ (ne_eqb d.role 1 (λ k. o (sym r ∙ k))) ∙ (ap (λ y. y ∷ []) r ∙ g)

  three : (x y : ℕ) → 1 ∷ x ∷ y ∷ [] ≡ c → role_part d ≡ c
  three x y g =
      let r : d.role ≡ 1 = e ∙ ap (λ z. get_or z 0 0) (sym g) in
      let a : d.seq_no ≡ x = (f r).0 ∙ ap (λ z. get_or z 1 0) (sym g) in
      let b : d.is_last ≡ y = (f r).1 ∙ ap (λ z. get_or z 2 0) (sym g) in
      pick_true (eqb d.role 1) _ _ (eq-eqb d.role 1 r) ∙ (rw (r, a, b) g)

  role_front : (r : PointRole) → role_bytes r ≡ c → role_part d ≡ c
  unfolding role_bytes
  role_front Regular g = one 0 (λ k. omega arith) g
  role_front (AnchorProof n l) g = three n (pick l 1 0) g
  role_front AnchorTrigger g = one 2 (λ k. omega arith) g
  role_front Genesis g = one 3 (λ k. omega arith) g

  role_is : (r : PointRole) → read_role c ≡ Some r → read_role (role_part d) ≡ Some r
  role_is r g = ap read_role (role_front r (role-again c r g)) ∙ g

-- ---- the point, and its maps

module _ (s : List ℕ) (p : PointInfo) (d : Draft) (b : Bytes s) (h : read_point s ≡ Some p) (l : Lent d) (q : PartsOf s d) where
  handed-parts : (x y : AnchorLink) (r : PointRole) →
      read_link (link_part d.anchor_proof) ≡ Some x → read_link (link_part d.anchor_trigger) ≡ Some y → read_role (role_part d) ≡ Some r →
      handed_over d ≡ Some (point_by d x y r)
  unfolding handed_over
  handed-parts x y r e f g = rw (e, f, g)

  draft_point : point_by d p.anchor_proof p.anchor_trigger p.role ≡ p
  draft_point =
      let m = parts-of s p h in
      let a : point_id_at d.id 0 ≡ p.id = ap (λ x. point_id_at x 0) q.id ∙ sym m.id in
      let n = q.payload_len ∙ sym m.payload_len in
      let k = q.payload_bytes ∙ sym m.payload_bytes in
      let i : pairs_of d.includes ≡ p.includes = ap pairs_of q.includes ∙ sym m.includes in
      let w : pairs_of d.witness ≡ p.witness = ap pairs_of q.witness ∙ sym m.witness in
      let e : peers_of 32 d.evidence ≡ p.evidence = ap (peers_of 32) q.evidence ∙ sym m.evidence in
      let t = q.time ∙ sym m.time in
      let u = q.anchor_time ∙ sym m.anchor_time in
      λ j. record {
        id = a j;
        payload_len = n j;
        payload_bytes = k j;
        includes = i j;
        witness = w j;
        evidence = e j;
        anchor_proof = p.anchor_proof;
        anchor_trigger = p.anchor_trigger;
        role = p.role;
        time = t j;
        anchor_time = u j;
      }

  pub parts_handed : handed_over d ≡ Some p
  parts_handed =
      let m = parts-of s p h in
      let of = λ (k : ℕ). content-bytes s k b in
      handed-parts p.anchor_proof p.anchor_trigger p.role
      (link_is d.anchor_proof (content_of s 5) l.anchor_proof.1 q.anchor_proof p.anchor_proof (of 5) m.proof)
      (link_is d.anchor_trigger (content_of s 6) l.anchor_trigger.1 q.anchor_trigger p.anchor_trigger (of 6) m.trigger)
      (role_is d (content_of s 7) q.role q.proof p.role m.role)
      ∙ ap Some draft_point

  parts_whole : WholeMaps d
  parts_whole =
      let r = readable s p h in
      record {
        includes = (length p.includes, r.includes.few, ap length q.includes ∙ r.includes.whole);
        witness = (length p.witness, r.witness.few, ap length q.witness ∙ r.witness.whole);
        evidence = (length p.evidence, r.evidence.few, ap length q.evidence ∙ r.evidence.whole);
      }

  parts_once : any_twice p ≡ false
  parts_once =
      let r = readable s p h in
      or_none (has_twice (peers p.includes)) _ (rising-once (peers p.includes) r.includes.rise)
      (or_none (has_twice (peers p.witness)) _ (rising-once (peers p.witness) r.witness.rise) (rising-once p.evidence r.evidence.rise))

  pairs-alone : (x : List Pair) → rising (peers x) ≡ true → risen peer_of x ≡ x
  pairs-alone x r = risen-alone peer_of x (ap rising (keys-peers x) ∙ r)

  peers-alone : (x : List ℕ) → rising x ≡ true → risen itself x ≡ x
  peers-alone x r = risen-alone itself x (ap rising (keys-themselves x) ∙ r)

  left_alone : rearranged p ≡ p
  unfolding rearranged
  left_alone =
      let r = readable s p h in
      let i = pairs-alone p.includes r.includes.rise in
      let w = pairs-alone p.witness r.witness.rise in
      let e = peers-alone p.evidence r.evidence.rise in
      λ j. record {
        id = p.id;
        payload_len = p.payload_len;
        payload_bytes = p.payload_bytes;
        includes = i j;
        witness = w j;
        evidence = e j;
        anchor_proof = p.anchor_proof;
        anchor_trigger = p.anchor_trigger;
        role = p.role;
        time = p.time;
        anchor_time = p.anchor_time;
      }

  pub composed_again : composed p ≡ s
  unfolding composed
  composed_again = ap point_bytes left_alone ∙ point-again s p b h

  pub parts_written : (size : ℕ) → in_domain p ≡ true → length s ≤ size → composition d size ≡ Ok (length s)
  unfolding composition
  parts_written size i r =
      pick_true (are_maps d) _ _ (maps-are d parts_whole)
      ∙ (ap (λ o. composition_of o size) parts_handed
      ∙ (pick_true (in_domain p) _ _ i
      ∙ (pick-false (any_twice p) _ _ parts_once
      ∙ (ap (λ n. pick (ltb size n) (Err 14) (Ok n)) (ap length composed_again)
      ∙ pick-false (ltb size (length s)) _ _ (le-ltb size (length s) r)))))
