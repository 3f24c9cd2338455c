-- Laws of the bytes of ids, links and roles: what is written is read back, and what is read is written again.
use Rattle.std.specs.Prelude.{Some}
use Prim.Native.Nat.{ℕ, zero, suc, ◌+◌, ◌^◌, ◌≤◌, ◌<◌}
use native.Mathlib.Omega.{arith}
use mathlib.Core.Path.{◌≡◌, refl, ap, sym, ◌∙◌}
use mathlib.Core.Bool.{Bool, true, false, ◌&&◌}
use mathlib.Core.List.{List, [], ◌∷◌, ◌++◌}
use lib.ListN.{length, get_or, drop, length-append, length-drop}
use lib.Seq.{take_all, drop-cons}
use lib.Dec.{leb, eqb}
use borrow.Author.Tests.{leb-true, eqb-true}
use Rattle.base.specs.Base.{pick}
use Rattle.base.proofs.Bool.{and_left, and_right}
use Rattle.base.proofs.Option.{IfSome, pick-has, then_has, has}
use Rattle.parts.specs.Bytes.{bytes_at, little_at, big_at, id_at, big_bytes, little_bytes, Bytes}
use Rattle.parts.proofs.Laws.{at_split, big-fits, little-back, little-of}
use Rattle.parts.proofs.AllBytes.{AllBytes, none_more, one_more, both, little-below}
use Rattle.write.proofs.Laws.{bytes-length, bytes_below, big-bytes}
use Rattle.write.proofs.Numbers.{big-of}
use Rattle.point.specs.Point.{PointId, Through, Includes, Witness, AnchorLink, Direct, Indirect, through_peer}
use Rattle.point.specs.declared.data.PointRole.{PointRole}
use Rattle.point.specs.declared.data.PointRole.TheVariants.{Regular, AnchorProof, AnchorTrigger, Genesis}
use Rattle.point.specs.Reading.{point_id_at, through_at, read_through, read_link, read_role}
use Rattle.point.specs.Written.{id_bytes, through_bytes, link_bytes, role_bytes}
use Rattle.point.proofs.Fits.{IdFits, LinkFits, RoleFits}

-- ---- lengths

pub id_length : (i : PointId) → length (id_bytes i) ≡ 68
unfolding little_bytes big_bytes
id_length i = refl

pub through-length : (t : Through) → length (through_bytes t) ≡ 33
through-length (Includes x) = ap suc (bytes-length 32 x)
through-length (Witness x) = ap suc (bytes-length 32 x)

pub direct-length : (t : Through) → length (link_bytes (Direct t)) ≡ 34
unfolding link_bytes
direct-length t = ap suc (through-length t)

pub indirect-length : (to : PointId) (t : Through) → length (link_bytes (Indirect to t)) ≡ 102
unfolding link_bytes
indirect-length to t = omega (arith, length-append (through_bytes t) (id_bytes to), through-length t, id_length to)

pub link-least : (l : AnchorLink) → 34 ≤ length (link_bytes l)
link-least (Direct t) = omega (arith, direct-length t)
link-least (Indirect to t) = omega (arith, indirect-length to t)

pub link-greatest : (l : AnchorLink) → length (link_bytes l) ≤ 102
link-greatest (Direct t) = omega (arith, direct-length t)
link-greatest (Indirect to t) = omega (arith, indirect-length to t)

pub role-length : (r : PointRole) → (1 ≤ length (role_bytes r)) × (length (role_bytes r) ≤ 3)
unfolding role_bytes
role-length Regular = (omega arith, omega arith)
role-length (AnchorProof n last) = (omega arith, omega arith)
role-length AnchorTrigger = (omega arith, omega arith)
role-length Genesis = (omega arith, omega arith)

-- ---- they are bytes

pub id-bytes : (i : PointId) → AllBytes (id_bytes i)
id-bytes i =
    both (little_bytes 4 i.round) (little-below 4 i.round)
    (both (big_bytes 32 i.digest) (record { bytes = bytes_below 32 i.digest }) (record { bytes = bytes_below 32 i.author }))

pub through-bytes : (t : Through) → AllBytes (through_bytes t)
through-bytes (Includes x) = one_more (omega arith) (record { bytes = bytes_below 32 x })
through-bytes (Witness x) = one_more (omega arith) (record { bytes = bytes_below 32 x })

pub link-bytes : (l : AnchorLink) → AllBytes (link_bytes l)
unfolding link_bytes
link-bytes (Direct t) = one_more (omega arith) (through-bytes t)
link-bytes (Indirect to t) = one_more (omega arith) (both (through_bytes t) (through-bytes t) (id-bytes to))

pub role-bytes : (r : PointRole) → RoleFits r → AllBytes (role_bytes r)
unfolding role_bytes
role-bytes Regular f = one_more (omega arith) none_more
role-bytes (AnchorProof n last) f = one_more (omega arith) (one_more f (one_more (below last) none_more))
  where
    below : (b : Bool) → pick b 1 0 < 256
    below true = omega arith
    below false = omega arith
role-bytes AnchorTrigger f = one_more (omega arith) none_more
role-bytes Genesis f = one_more (omega arith) none_more

-- ---- read back

pub through-reads : (t : Through) → through_peer t < 256 ^ 32 → through_at (through_bytes t) 0 ≡ t
unfolding big_at big_bytes
through-reads (Includes x) h = ap Includes (big-bytes 32 x h)
through-reads (Witness x) h = ap Witness (big-bytes 32 x h)

-- an id that stands after three bytes, and one at the front
module _ (i : PointId) (rest : List ℕ) (f : IdFits i) where
  pub id-back : (x y z : ℕ) → point_id_at (x ∷ y ∷ z ∷ (id_bytes i ++ rest)) 3 ≡ i
  unfolding point_id_at little_at little_bytes big_at big_bytes
  id-back x y z = rw (little-back 4 i.round f.round, big-bytes 32 i.digest f.digest, big-bytes 32 i.author f.author)

  pub id-first : point_id_at (id_bytes i ++ rest) 0 ≡ i
  unfolding point_id_at little_at little_bytes big_at big_bytes
  id-first = rw (little-back 4 i.round f.round, big-bytes 32 i.digest f.digest, big-bytes 32 i.author f.author)

pub link-back : (l : AnchorLink) → LinkFits l → read_link (link_bytes l) ≡ Some l
unfolding read_link link_bytes little_at big_at
link-back (Direct (Includes x)) f = rw (big-bytes 32 x f.through)
link-back (Direct (Witness x)) f = rw (big-bytes 32 x f.through)
link-back (Indirect to (Includes x)) f =
    let i = f.target in
    rw (big-bytes 32 x f.through, little-back 4 to.round i.round, big-bytes 32 to.digest i.digest, big-bytes 32 to.author i.author)
link-back (Indirect to (Witness x)) f =
    let i = f.target in
    rw (big-bytes 32 x f.through, little-back 4 to.round i.round, big-bytes 32 to.digest i.digest, big-bytes 32 to.author i.author)

pub role-back : (r : PointRole) → read_role (role_bytes r) ≡ Some r
unfolding read_role role_bytes
role-back Regular = refl
role-back (AnchorProof n true) = refl
role-back (AnchorProof n false) = refl
role-back AnchorTrigger = refl
role-back Genesis = refl

-- ---- written again

last-again : (x : ℕ) → x ≤ 1 → pick (eqb x 1) 1 0 ≡ x
last-again zero h = refl
last-again (suc zero) h = refl
last-again (suc (suc x)) h = absurd (omega arith)

either-again : (x p : ℕ) → x ≤ 1 → through_bytes (pick (eqb x 0) (Includes p) (Witness p)) ≡ x ∷ big_bytes 32 p
either-again zero p h = refl
either-again (suc zero) p h = refl
either-again (suc (suc x)) p h = absurd (omega arith)

either-peer : (b : Bool) (p : ℕ) → through_peer (pick b (Includes p) (Witness p)) ≡ p
either-peer true p = refl
either-peer false p = refl

module _ (t : List ℕ) (at : ℕ) (b : Bytes t) where
  pub id-again : at + 68 ≤ length t → id_bytes (point_id_at t at) ≡ bytes_at 68 t at
  unfolding point_id_at
  id-again h =
      let e : at + 4 + 32 ≡ at + 36 = omega arith in
      rw (
        little-of 4 t at b (omega arith),
        big-of 32 t (at + 4) b (omega arith),
        big-of 32 t (at + 36) b (omega arith),
        at_split 4 64 t at,
        at_split 32 32 t (at + 4),
        e,
      )

  pub through-again : at + 33 ≤ length t → get_or t at 0 ≤ 1 → through_bytes (through_at t at) ≡ get_or t at 0 ∷ bytes_at 32 t (at + 1)
  through-again h m =
      either-again (get_or t at 0) (id_at t (at + 1)) m ∙ ap (λ (l : List ℕ). get_or t at 0 ∷ l) (big-of 32 t (at + 1) b (omega arith))

  pub through-fits : at + 33 ≤ length t → through_peer (through_at t at) < 256 ^ 32
  through-fits h = rw (either-peer (eqb (get_or t at 0) 0) (id_at t (at + 1))) (big-fits 32 t (at + 1) b (omega arith))

-- a list by its first two
two_first : (s : List ℕ) (x : ℕ) → 2 ≤ length s → get_or s 0 0 ≡ x → x ∷ get_or s 1 0 ∷ drop 2 s ≡ s
two_first s x h e =
    ap (λ (y : ℕ). y ∷ get_or s 1 0 ∷ drop 2 s) (sym e)
    ∙ sym (drop-cons s 0 0 (omega arith) ∙ ap (λ (l : List ℕ). get_or s 0 0 ∷ l) (drop-cons s 1 0 (omega arith)))

module _ (s : List ℕ) (b : Bytes s) where
  -- what a link's bytes say that it goes through
  abbrev Goes : Through → Type 0
  Goes t = through_bytes t ≡ get_or s 1 0 ∷ bytes_at 32 s 2

  goes-if : 34 ≤ length s → IfSome Goes (read_through s)
  unfolding read_through
  goes-if h =
      let peer = big-of 32 s 2 b (omega arith) in
      pick-has Goes (eqb (get_or s 1 0) 0) _ _ (λ x. (let e = eqb-true (get_or s 1 0) 0 x in rw (e, peer)))
      (pick-has Goes (eqb (get_or s 1 0) 1) _ _ (λ x. (let e = eqb-true (get_or s 1 0) 1 x in rw (e, peer))) tt)

  direct-again : (t : Through) → Goes t → length s ≡ 34 → get_or s 0 0 ≡ 0 → link_bytes (Direct t) ≡ s
  unfolding link_bytes
  direct-again t e l k =
      rw (e, take_all 32 (drop 2 s) (omega (arith, length-drop 2 s))) (two_first s 0 (omega arith) k)

  indirect-again : (t : Through) → Goes t → length s ≡ 102 → get_or s 0 0 ≡ 1 → link_bytes (Indirect (point_id_at s 34) t) ≡ s
  unfolding link_bytes
  indirect-again t e l k =
      rw (e, id-again s 34 b (omega arith), ← at_split 32 68 s 2, take_all 100 (drop 2 s) (omega (arith, length-drop 2 s)))
      (two_first s 1 (omega arith) k)

  link-if : IfSome (λ l. link_bytes l ≡ s) (read_link s)
  unfolding read_link
  link-if =
      let P = λ (l : AnchorLink). link_bytes l ≡ s in
      let k = get_or s 0 0 in
      let goes = λ (t : Through) (r : read_through s ≡ Some t) (h : 34 ≤ length s). has Goes (read_through s) t (goes-if h) r in
      then_has P (read_through s) _ (λ t r.
      pick-has P (eqb (length s) 34 && eqb k 0) _ _
      (λ x. (let l = eqb-true (length s) 34 (and_left (eqb (length s) 34) _ x) in
      direct-again t (goes t r (omega arith)) l (eqb-true k 0 (and_right (eqb (length s) 34) _ x))))
      (pick-has P (eqb (length s) 102 && eqb k 1) _ _
      (λ x. (let l = eqb-true (length s) 102 (and_left (eqb (length s) 102) _ x) in
      indirect-again t (goes t r (omega arith)) l (eqb-true k 1 (and_right (eqb (length s) 102) _ x))))
      tt))

  pub link-again : (l : AnchorLink) → read_link s ≡ Some l → link_bytes l ≡ s
  link-again l e = has (λ x. link_bytes x ≡ s) (read_link s) l link-if e

one_is : (s : List ℕ) (x : ℕ) → length s ≡ 1 → get_or s 0 0 ≡ x → x ∷ [] ≡ s
one_is [] x h e = absurd (omega arith)
one_is (y ∷ []) x h e = ap (λ (u : ℕ). u ∷ []) (sym e)
one_is (y ∷ z ∷ s) x h e = absurd (omega arith)

three_are : (s : List ℕ) (x : ℕ) → length s ≡ 3 → get_or s 0 0 ≡ x → x ∷ get_or s 1 0 ∷ get_or s 2 0 ∷ [] ≡ s
three_are [] x h e = absurd (omega arith)
three_are (y ∷ []) x h e = absurd (omega arith)
three_are (y ∷ z ∷ []) x h e = absurd (omega arith)
three_are (y ∷ z ∷ u ∷ []) x h e = ap (λ (v : ℕ). v ∷ z ∷ u ∷ []) (sym e)
three_are (y ∷ z ∷ u ∷ v ∷ s) x h e = absurd (omega arith)

module _ (s : List ℕ) where
  proof-again : (eqb (length s) 3 && (eqb (get_or s 0 0) 1 && leb (get_or s 2 0) 1)) ≡ true →
      role_bytes (AnchorProof (get_or s 1 0) (eqb (get_or s 2 0) 1)) ≡ s
  unfolding role_bytes
  proof-again h =
      let g = and_right (eqb (length s) 3) _ h in
      rw (last-again (get_or s 2 0) (leb-true _ 1 (and_right (eqb (get_or s 0 0) 1) _ g)))
      (three_are s 1 (eqb-true _ 3 (and_left (eqb (length s) 3) _ h)) (eqb-true _ 1 (and_left (eqb (get_or s 0 0) 1) _ g)))

  role-if : IfSome (λ r. role_bytes r ≡ s) (read_role s)
  unfolding read_role role_bytes
  role-if =
      let P = λ (r : PointRole). role_bytes r ≡ s in
      let k = get_or s 0 0 in
      pick-has P (eqb (length s) 1) _ _
      (λ h. (let one = λ (x : ℕ) (e : eqb k x ≡ true). one_is s x (eqb-true _ 1 h) (eqb-true k x e) in
      pick-has P (eqb k 0) _ _ (one 0) (pick-has P (eqb k 2) _ _ (one 2) (pick-has P (eqb k 3) _ _ (one 3) tt))))
      (pick-has P (eqb (length s) 3 && (eqb k 1 && leb (get_or s 2 0) 1)) _ _ proof-again tt)

  pub role-again : (r : PointRole) → read_role s ≡ Some r → role_bytes r ≡ s
  role-again r e = has (λ x. role_bytes x ≡ s) (read_role s) r role-if e
