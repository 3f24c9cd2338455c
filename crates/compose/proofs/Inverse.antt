-- Laws of what a draft had if its record was written, and of what a written record's point is.
use Rattle.std.specs.Prelude.{Result, Option, None, Some, Err, Ok}
use Prim.Native.Nat.{ℕ, ◌+◌, ◌^◌, ◌≤◌, ◌<◌}
use native.Mathlib.Nat.{zero-add}
use native.Mathlib.Omega.{arith}
use mathlib.Core.Path.{◌≡◌, refl, ap, sym, ◌∙◌, subst}
use mathlib.Core.Bool.{Bool, true, false}
use mathlib.Core.List.{List, [], ◌∷◌}
use mathlib.Core.List.Permᴰ
use lib.ListN.{length, get_or, take, drop}
use lib.Seq.{length-take-le, drop_at}
use lib.Dec.{ltb, eqb}
use borrow.Author.Tests.{ltb-false}
use Rattle.base.specs.Base.{pick}
use Rattle.base.proofs.Bool.{or_left, or_right}
use Rattle.base.proofs.Impossible.{impossible}
use Rattle.base.proofs.Option.{has}
use Rattle.parts.specs.Bytes.{Bytes, put_at}
use Rattle.parts.proofs.Laws.{at-bytes}
use Rattle.parts.proofs.AllBytes.{AllBytes, none_more, one_more}
use Rattle.write.proofs.Laws.{put_read, put_length}
use Rattle.map.specs.Rows.{Pair, rising, peers}
use Rattle.map.specs.Risen.{peer_of, itself, risen, has_twice}
use Rattle.map.proofs.Laws.{pairs_of-length, peers_of-length}
use Rattle.map.proofs.Pairs.{keys-peers, keys-themselves}
use Rattle.map.proofs.Risen.{member-perm, risen-perm, risen-rises, risen-length}
use Rattle.map.proofs.Written.{IdsFit, PairsFit, peers_of-fit, pairs_of-fit}
use Rattle.point.specs.Point.{PointInfo, AnchorLink, in_domain}
use Rattle.point.specs.declared.data.PointRole.{PointRole}
use Rattle.point.specs.Reading.{read_link, read_role, read_point}
use Rattle.point.proofs.Fits.{IdFits, LinkFits, RoleFits, MapFits, SetFits, PointFits, id-fits, link-fits, role-fits}
use Rattle.point.proofs.Written.{point-bytes-are, point-back}
use Rattle.compose.specs.Draft.{Draft, link_part, role_part, point_by, are_maps, handed_over, any_twice, rearranged, composed, composition_of, composition, output, put_composed}
use Rattle.compose.specs.Composed.{Lent, SamePoint, written}
use Rattle.compose.proofs.Rows.{Maps, rows_few}
use Rattle.compose.proofs.Contents.{Handed}

-- ---- what was tested

module _ {A B : Type 0} where
  pub first_ok : (b : Bool) (r : Result A B) (e : B) (x : A) → pick b r (Err e) ≡ Ok x → (b ≡ true) × (r ≡ Ok x)
  first_ok true r e x h = (refl, h)
  first_ok false r e x h = impossible (cc)

  second_ok : (b : Bool) (r : Result A B) (e : B) (x : A) → pick b (Err e) r ≡ Ok x → (b ≡ false) × (r ≡ Ok x)
  second_ok true r e x h = impossible (cc)
  second_ok false r e x h = (refl, h)

-- a point of which n bytes are written into an output of `size`
pub record Fine (size n : ℕ) (p : PointInfo) : Type 0 where
  pub domain : in_domain p ≡ true
  pub once : any_twice p ≡ false
  pub long : n ≡ length (composed p)
  pub room : n ≤ size

pub fine : (o : Option PointInfo) (size n : ℕ) → composition_of o size ≡ Ok n → (p : PointInfo) × (o ≡ Some p) × Fine size n p
fine None size n h = impossible (cc)
fine (Some p) size n h =
    let a = first_ok (in_domain p) _ 4 n h in
    let b = second_ok (any_twice p) _ 13 n a.1 in
    let c = second_ok (ltb size (length (composed p))) _ 14 n b.1 in
    let long : n ≡ length (composed p) = cc in
    let room = ltb-false size (length (composed p)) c.0 in
    (p, refl, record { domain = a.0; once = b.0; long = long; room = omega arith })

pub record Done (d : Draft) (size n : ℕ) : Type 0 where
  pub rowed : are_maps d ≡ true
  pub point : PointInfo
  pub over : handed_over d ≡ Some point
  pub is : Fine size n point

pub done : (d : Draft) (size n : ℕ) → composition d size ≡ Ok n → Done d size n
unfolding composition
done d size n h =
    let a = first_ok (are_maps d) _ 3 n h in
    let f = fine (handed_over d) size n a.1 in
    record { rowed = a.0; point = f.0; over = f.1; is = f.2 }

-- no map has a peer twice
pub record Once (p : PointInfo) : Type 0 where
  pub includes : has_twice (peers p.includes) ≡ false
  pub witness : has_twice (peers p.witness) ≡ false
  pub evidence : has_twice p.evidence ≡ false

pub once_each : (p : PointInfo) → any_twice p ≡ false → Once p
once_each p h =
    let later = or_right (has_twice (peers p.includes)) _ h in
    record {
      includes = or_left (has_twice (peers p.includes)) _ h;
      witness = or_left (has_twice (peers p.witness)) _ later;
      evidence = or_right (has_twice (peers p.witness)) _ later;
    }

-- ---- the output

put-rest : (out c : List ℕ) (n : ℕ) → length c ≡ n → drop n (put_at out 0 c) ≡ drop n out
unfolding put_at
put-rest out c n e = drop_at c (drop (0 + length c) out) n e ∙ ap (λ k. drop k out) (zero-add (length c) ∙ e)

module _ (d : Draft) (out : List ℕ) (n : ℕ) (h : composition d (length out) ≡ Ok n) (o : Done d (length out) n) where
  written-is : written d out ≡ put_at out 0 (composed o.point)
  written-is = ap (output d out) h ∙ ap (λ x. put_composed x out) o.over

  pub written-length : length (written d out) ≡ length out
  written-length = ap length written-is ∙ put_length out 0 (composed o.point) (omega (arith, o.is.long, o.is.room))

  pub written-front : take n (written d out) ≡ composed o.point
  written-front = ap (take n) written-is ∙ put_read out 0 (composed o.point) n (sym o.is.long) (omega arith)

  pub written-rest : drop n (written d out) ≡ drop n out
  written-rest = ap (drop n) written-is ∙ put-rest out (composed o.point) n (sym o.is.long)

-- ---- the point of a written record

module _ (l : List Pair) (h : has_twice (peers l) ≡ false) where
  pub pairs-rise : rising (peers (risen peer_of l)) ≡ true
  pairs-rise = ap rising (sym (keys-peers (risen peer_of l))) ∙ risen-rises peer_of l (ap has_twice (keys-peers l) ∙ h)

  risen-pairs : length l ≤ 255 → PairsFit l → MapFits (risen peer_of l)
  risen-pairs few fit =
      record {
        few = omega (arith, risen-length peer_of l);
        rise = pairs-rise;
        fit = λ q m. fit q (member-perm q (Permᴰ.symm (risen-perm peer_of l)) m);
      }

module _ (l : List ℕ) (h : has_twice l ≡ false) where
  pub peers-rise : rising (risen itself l) ≡ true
  peers-rise = ap rising (sym (keys-themselves (risen itself l))) ∙ risen-rises itself l (ap has_twice (keys-themselves l) ∙ h)

  risen-peers : length l ≤ 255 → IdsFit l → SetFits (risen itself l)
  risen-peers few fit =
      record {
        few = omega (arith, risen-length itself l);
        rise = peers-rise;
        fit = λ x m. fit x (member-perm x (Permᴰ.symm (risen-perm itself l)) m);
      }

-- as much of a link as is read is bytes, and of a role
module _ (s : List ℕ) (b : Bytes s) (n : length s ≡ 102) where
  part-bytes : AllBytes (link_part s)
  part-bytes = go (eqb (get_or s 0 0) 0)
    where
      go : (t : Bool) → AllBytes (pick t (take 34 s) s)
      go true = record { bytes = at-bytes 34 s 0 b }
      go false = record { bytes = b }

  part-long : 34 ≤ length (link_part s)
  part-long = go (eqb (get_or s 0 0) 0)
    where
      go : (t : Bool) → 34 ≤ length (pick t (take 34 s) s)
      go true = omega (arith, length-take-le 34 s (omega arith))
      go false = omega arith

  part-fits : (l : AnchorLink) → read_link (link_part s) ≡ Some l → LinkFits l
  part-fits l e = has LinkFits (read_link (link_part s)) l (link-fits (link_part s) part-bytes.bytes part-long) e

role-fit : (d : Draft) → Lent d → (r : PointRole) → read_role (role_part d) ≡ Some r → RoleFits r
role-fit d l r e = has RoleFits (read_role (role_part d)) r (role-fits (role_part d) (go (eqb d.role 1)).bytes) e
  where
    go : (t : Bool) → AllBytes (pick t (d.role ∷ d.seq_no ∷ d.is_last ∷ []) (d.role ∷ []))
    go true = one_more l.role (one_more l.seq_no (one_more l.is_last none_more))
    go false = one_more l.role none_more

module _ (d : Draft) (l : Lent d) (p : PointInfo) (h : Handed d p) (m : Maps d) (o : Once p) where
  includes-few : length p.includes ≤ 255
  includes-few =
      omega (arith, ap (λ (q : PointInfo). length q.includes) h.point, pairs_of-length d.includes, rows_few 64 d.includes m.includes)

  witness-few : length p.witness ≤ 255
  witness-few =
      omega (arith, ap (λ (q : PointInfo). length q.witness) h.point, pairs_of-length d.witness, rows_few 64 d.witness m.witness)

  evidence-few : length p.evidence ≤ 255
  evidence-few =
      omega (arith, ap (λ (q : PointInfo). length q.evidence) h.point, peers_of-length 32 d.evidence, rows_few 32 d.evidence m.evidence)

  -- what is so of the draft's parts is so of the point's
  of : (T : PointInfo → Type 0) → T (point_by d p.anchor_proof p.anchor_trigger p.role) → T p
  of T x = subst T (sym h.point) x

  handed-fits : PointFits (rearranged p)
  unfolding rearranged
  handed-fits =
      record {
        id = of (λ q. IdFits q.id) (id-fits d.id 0 l.id.0 (omega (arith, l.id.1)));
        payload_len = of (λ q. q.payload_len < 256 ^ 4) l.payload_len;
        payload_bytes = of (λ q. q.payload_bytes < 256 ^ 4) l.payload_bytes;
        includes = risen-pairs p.includes o.includes includes-few (of (λ q. PairsFit q.includes) (pairs_of-fit d.includes l.includes));
        witness = risen-pairs p.witness o.witness witness-few (of (λ q. PairsFit q.witness) (pairs_of-fit d.witness l.witness));
        evidence = risen-peers p.evidence o.evidence evidence-few (of (λ q. IdsFit q.evidence) (peers_of-fit d.evidence l.evidence));
        proof = part-fits d.anchor_proof l.anchor_proof.0 l.anchor_proof.1 p.anchor_proof h.proof;
        trigger = part-fits d.anchor_trigger l.anchor_trigger.0 l.anchor_trigger.1 p.anchor_trigger h.trigger;
        role = role-fit d l p.role h.role;
        time = of (λ q. q.time < 256 ^ 8) l.time;
        anchor_time = of (λ q. q.anchor_time < 256 ^ 8) l.anchor_time;
      }

  pub composed-are : AllBytes (composed p)
  unfolding composed
  composed-are = point-bytes-are (rearranged p) handed-fits

  pub composed-back : read_point (composed p) ≡ Some (rearranged p)
  unfolding composed
  composed-back = point-back (rearranged p) handed-fits

pub same_point : (p : PointInfo) → SamePoint p (rearranged p)
unfolding rearranged
same_point p =
    record {
      id = refl;
      payload_len = refl;
      payload_bytes = refl;
      includes = risen-perm peer_of p.includes;
      witness = risen-perm peer_of p.witness;
      evidence = risen-perm itself p.evidence;
      anchor_proof = refl;
      anchor_trigger = refl;
      role = refl;
      time = refl;
      anchor_time = refl;
    }
