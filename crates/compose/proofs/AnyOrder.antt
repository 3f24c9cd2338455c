-- Drafts that differ in the order of their rows alone are written alike.
use Rattle.std.specs.Prelude.{Result, Option, None, Some, option_map, Err, Ok}
use Prim.Native.Nat.{ℕ}
use mathlib.Core.Path.{◌≡◌, refl, ap, sym, ◌∙◌}
use mathlib.Core.Bool.{Bool, true, false}
use mathlib.Core.List.{List, Permᴰ}
use lib.ListN.{length}
use lib.Dec.{ltb}
use Rattle.base.specs.Base.{pick, and_then}
use Rattle.parts.specs.Bytes.{put_at}
use Rattle.map.specs.Rows.{Pair, peers}
use Rattle.map.specs.Risen.{peer_of, itself, risen, has_twice}
use Rattle.map.proofs.Pairs.{keys-peers, keys-themselves}
use Rattle.map.proofs.Risen.{twice-perm, twice-keys, risen-any_order}
use Rattle.point.specs.Point.{PointInfo, AnchorLink, in_domain}
use Rattle.point.specs.declared.data.PointRole.{PointRole}
use Rattle.point.specs.Reading.{point_id_at, read_link, read_role}
use Rattle.point.specs.Written.{point_bytes}
use Rattle.compose.specs.Draft.{Draft, link_part, role_part, point_by, are_maps, handed_over, any_twice, rearranged, composed, composition_of, composition, output, put_composed}
use Rattle.compose.specs.Composed.{SamePoint, SameRows, written}
use Rattle.compose.proofs.Inverse.{first_ok, once_each, fine}

-- ---- points that differ in the order of their rows

pairs-twice : {l m : List Pair} → Permᴰ l m → has_twice (peers m) ≡ has_twice (peers l)
pairs-twice {l} {m} d = ap has_twice (sym (keys-peers m)) ∙ (sym (twice-keys peer_of d) ∙ ap has_twice (keys-peers l))

pairs-order : {l m : List Pair} → Permᴰ l m → has_twice (peers l) ≡ false → risen peer_of m ≡ risen peer_of l
pairs-order {l} {m} d h = sym (risen-any_order peer_of d (ap has_twice (keys-peers l) ∙ h))

peers-order : {l m : List ℕ} → Permᴰ l m → has_twice l ≡ false → risen itself m ≡ risen itself l
peers-order {l} {m} d h = sym (risen-any_order itself d (ap has_twice (keys-themselves l) ∙ h))

module _ (p q : PointInfo) (s : SamePoint p q) where
  domain-same : in_domain q ≡ in_domain p
  unfolding in_domain
  domain-same = rw (s.id, s.time, s.anchor_time)

  twice-same : any_twice q ≡ any_twice p
  twice-same = rw (pairs-twice s.includes, pairs-twice s.witness, twice-perm s.evidence)

  risen-same : any_twice p ≡ false → rearranged q ≡ rearranged p
  unfolding rearranged
  risen-same h =
      let o = once_each p h in
      let i = pairs-order s.includes o.includes in
      let w = pairs-order s.witness o.witness in
      let e = peers-order s.evidence o.evidence in
      λ j. record {
        id = s.id j;
        payload_len = s.payload_len j;
        payload_bytes = s.payload_bytes j;
        includes = i j;
        witness = w j;
        evidence = e j;
        anchor_proof = s.anchor_proof j;
        anchor_trigger = s.anchor_trigger j;
        role = s.role j;
        time = s.time j;
        anchor_time = s.anchor_time j;
      }

  composed-same : any_twice p ≡ false → composed q ≡ composed p
  unfolding composed
  composed-same h = ap point_bytes (risen-same h)

-- ---- what the call gives

abbrev Alike : Option PointInfo → Option PointInfo → Type 0
Alike None None = Unit
Alike None (Some q) = ⊥
Alike (Some p) None = ⊥
Alike (Some p) (Some q) = SamePoint p q

module _ (size : ℕ) where
  abbrev tests : Bool → Bool → List ℕ → Result ℕ ℕ
  tests inside twice s = pick inside (pick twice (Err 13) (pick (ltb size (length s)) (Err 14) (Ok (length s)))) (Err 4)

  tested-same : (i t : Bool) (a b : List ℕ) → (t ≡ false → a ≡ b) → tests i t a ≡ tests i t b
  tested-same i true a b f = refl
  tested-same i false a b f = ap (tests i false) (f refl)

  points-alike : (p q : PointInfo) → SamePoint p q → composition_of (Some q) size ≡ composition_of (Some p) size
  points-alike p q s =
      ap (λ i. tests i (any_twice q) (composed q)) (domain-same p q s)
      ∙ (ap (λ t. tests (in_domain p) t (composed q)) (twice-same p q s)
      ∙ tested-same (in_domain p) (any_twice p) (composed q) (composed p) (composed-same p q s))

  answers-alike : (a b : Option PointInfo) → Alike a b → composition_of b size ≡ composition_of a size
  answers-alike None None h = refl
  answers-alike None (Some q) h = absurd h
  answers-alike (Some p) None h = absurd h
  answers-alike (Some p) (Some q) h = points-alike p q h

  outputs-alike : (a b : Option PointInfo) (out : List ℕ) (n : ℕ) → Alike a b → composition_of a size ≡ Ok n →
      put_composed b out ≡ put_composed a out
  outputs-alike None None out n h e = refl
  outputs-alike None (Some q) out n h e = absurd h
  outputs-alike (Some p) None out n h e = absurd h
  outputs-alike (Some p) (Some q) out n h e =
      let f = fine (Some p) size n e in
      let same : f.0 ≡ p = cc in
      ap (put_at out 0) (composed-same p q h (ap any_twice (sym same) ∙ f.2.once))

-- ---- drafts

module _ (d e : Draft) (s : SameRows d e) where
  maps-same : are_maps e ≡ are_maps d
  maps-same = rw (s.includes.1, s.witness.1, s.evidence.1)

  draft-points : (x y : AnchorLink) (r : PointRole) → SamePoint (point_by d x y r) (point_by e x y r)
  draft-points x y r =
      record {
        id = ap (λ i. point_id_at i 0) s.id;
        payload_len = s.payload_len;
        payload_bytes = s.payload_bytes;
        includes = s.includes.0;
        witness = s.witness.0;
        evidence = s.evidence.0;
        anchor_proof = refl;
        anchor_trigger = refl;
        role = refl;
        time = s.time;
        anchor_time = s.anchor_time;
      }

  read-alike : (a b : Option AnchorLink) (c : Option PointRole) →
      Alike (and_then a (λ x. and_then b (λ y. option_map (point_by d x y) c)))
      (and_then a (λ x. and_then b (λ y. option_map (point_by e x y) c)))
  read-alike None b c = tt
  read-alike (Some x) None c = tt
  read-alike (Some x) (Some y) None = tt
  read-alike (Some x) (Some y) (Some r) = draft-points x y r

  role-same : role_part e ≡ role_part d
  role-same = rw (s.role, s.seq_no, s.is_last)

  handed-alike : Alike (handed_over d) (handed_over e)
  unfolding handed_over
  handed-alike =
      rw (s.anchor_proof, s.anchor_trigger, role-same)
      (read-alike (read_link (link_part d.anchor_proof)) (read_link (link_part d.anchor_trigger)) (read_role (role_part d)))

  pub numbers-same : (size : ℕ) → composition e size ≡ composition d size
  unfolding composition
  numbers-same size =
      ap (λ t. pick t (composition_of (handed_over e) size) (Err 3)) maps-same
      ∙ ap (λ r. pick (are_maps d) r (Err 3)) (answers-alike size (handed_over d) (handed_over e) handed-alike)

  outputs-same : (out : List ℕ) (r : Result ℕ ℕ) → composition d (length out) ≡ r → output e out r ≡ output d out r
  unfolding composition
  outputs-same out (Err n) h = refl
  outputs-same out (Ok n) h =
      outputs-alike (length out) (handed_over d) (handed_over e) out n handed-alike (first_ok (are_maps d) _ 3 n h).1

  pub written-same : (out : List ℕ) → written e out ≡ written d out
  written-same out = ap (output e out) (numbers-same (length out)) ∙ outputs-same out (composition d (length out)) refl
