-- Laws of what is tested of a draft.
use Rattle.std.specs.Prelude.{Option, None, Some, is_some, option_map}
use Prim.Native.Nat.{ℕ}
use native.Mathlib.Omega.{arith}
use native.Mathlib.Decide.{ℕ_discrete}
use mathlib.Core.Path.{◌≡◌, refl, ◌∙◌}
use mathlib.Core.Bool.{Bool, not, ◌&&◌, ◌||◌}
use mathlib.Core.List.{List}
use lib.ListN.{length, get_or, take}
use lib.Seq.{length-take-le, get_or-take}
use lib.Dec.{leb, eqb}
use borrow.Author.Tests.{eq-eqb, ne_eqb}
use Rattle.std.proofs.lemmas.Bool.Decides.{nat_tests}
use Rattle.base.specs.Base.{is_some_and, and_then}
use Rattle.parts.specs.Bytes.{little_at}
use Rattle.parts.specs.Limits.{first_round, last_round}
use Rattle.point.specs.Point.{AnchorLink, in_domain}
use Rattle.point.specs.declared.data.PointRole.{PointRole}
use Rattle.point.specs.Reading.{point_id_at, read_through, read_link, read_role}
use Rattle.compose.specs.Draft.{Draft, link_part, role_part, handed_over, point_by}

-- whether a link can be read
front_some : (s : List ℕ) → length s ≡ 34 → get_or s 0 0 ≡ 0 → is_some (read_link s) ≡ leb (get_or s 1 0) 1
unfolding read_link read_through
front_some s n e = rw (e, n) (grind (arith, nat_tests))

whole_some : (s : List ℕ) → length s ≡ 102 → is_some (read_link s) ≡ (eqb (get_or s 0 0) 1 && leb (get_or s 1 0) 1)
unfolding read_link read_through
whole_some s n = rw n (grind (arith, nat_tests))

module _ (s : List ℕ) (n : length s ≡ 102) where
  front : get_or s 0 0 ≡ 0 → is_some (read_link (take 34 s)) ≡ leb (get_or s 1 0) 1
  front e =
      let first = get_or-take 34 s 0 0 (omega arith) in
      let second = get_or-take 34 s 1 0 (omega arith) in
      rw second at (front_some (take 34 s) (length-take-le 34 s (omega arith)) (omega arith))

  pub link_some : is_some (read_link (link_part s)) ≡ (leb (get_or s 0 0) 1 && leb (get_or s 1 0) 1)
  link_some = elim (ℕ_discrete (get_or s 0 0) 0) [
    | yes e ↦ rw (eq-eqb (get_or s 0 0) 0 e, e) (front e)
    | no d ↦ rw (ne_eqb (get_or s 0 0) 0 d) (whole_some s n ∙ grind (arith, nat_tests))
  ]

-- whether a role can
pub role_some : (d : Draft) → is_some (read_role (role_part d)) ≡ (leb d.role 3 && (not (eqb d.role 1) || leb d.is_last 1))
unfolding read_role
role_some d = grind (arith, nat_tests)

-- whether these can, and round and times lie in the domain
module _ (d : Draft) where
  abbrev in_numbers : Bool
  in_numbers =
      leb first_round (little_at 4 d.id 0)
      && (leb (little_at 4 d.id 0) last_round && (leb d.time 9223372036854775807 && leb d.anchor_time 9223372036854775807))

  pub domain_some : is_some_and (handed_over d) in_domain
      ≡ (is_some (read_link (link_part d.anchor_proof))
      && (is_some (read_link (link_part d.anchor_trigger)) && (is_some (read_role (role_part d)) && in_numbers)))
  unfolding handed_over in_domain point_id_at
  domain_some = go (read_link (link_part d.anchor_proof)) (read_link (link_part d.anchor_trigger)) (read_role (role_part d))
    where
      go : (p t : Option AnchorLink) (r : Option PointRole) →
          is_some_and (and_then p (λ p. and_then t (λ t. option_map (point_by d p t) r))) in_domain
          ≡ (is_some p && (is_some t && (is_some r && in_numbers)))
      go None t r = refl
      go (Some p) None r = refl
      go (Some p) (Some t) None = refl
      go (Some p) (Some t) (Some r) = refl
