-- Laws of a point's tables.
use Rattle.std.specs.Prelude.{Option, None, Some, option_map}
use Rattle.std.specs.Option.{option_eq, option_or}
use Rattle.parts.specs.declared.Id.{Id}
use Rattle.parts.specs.Code.{number}
use Prim.Native.Nat.{◌<◌, ◌^◌}
use native.Mathlib.Omega.{arith}
use Rattle.parts.proofs.Laws.{number_zero}
use mathlib.Core.Path.{◌≡◌, refl, sym, ap, ◌∙◌}
use mathlib.Core.Bool.{Bool, true, false, not, ◌&&◌}
use mathlib.Core.List.{[], ◌∷◌}
use lib.Dec.{eqb, ltb}
use Rattle.base.specs.Base.{pick, when, concat, first_of}
use Rattle.base.proofs.Option.{map-some}
use Rattle.base.proofs.Lists.{empty-length}
use Rattle.base.proofs.Firsts.{row_steps, first_when, three_rows}
use Rattle.std.proofs.lemmas.Bool.Decides.{nat_tests}
use Rattle.schedule.specs.Settings.{Settings}
use Rattle.point.specs.Point.{Sticky, PointInfo}
use Rattle.point.proofs.Ids.{same_words}
use Rattle.point.proofs.Maps.{map_facts}
use Rattle.reasons.specs.declared.ill_formed.StructureIssue.{StructureIssue}
use Rattle.reasons.specs.declared.ill_formed.StructureIssue.TheVariants.{ExpectedGenesis}
use Rattle.reasons.specs.declared.ill_formed.IllFormedReason.TheVariants.{Structure, TooManyStickyAnchors, BadLastStickyFlag}
use Rattle.reasons.specs.declared.ill_formed.VerifyError.TheVariants.{IllFormed}
use Rattle.rules.specs.Verify.{structure, sticky_fault, equal, is_zero, is_genesis, structure_rows, own_point_rows, link_rows}

-- the row of a structure issue
pub first_structure : (o : Option StructureIssue) → first_of (structure o) ≡ option_map (λ i. IllFormed (Structure i)) o
unfolding first_of
first_structure None = refl
first_structure (Some i) = refl

-- the fault of a sequence
module _ (c : Settings) where
  pub sticky_none : first_of (sticky_fault c None) ≡ None
  unfolding sticky_fault first_of
  sticky_none = refl

  pub sticky_some : (k : Sticky) → first_of (sticky_fault c (Some k)) ≡ pick (ltb c.sticky_anchors k.seq_no) (Some (IllFormed (TooManyStickyAnchors k.seq_no))) (pick (equal k.is_last (eqb k.seq_no c.sticky_anchors)) None (Some (IllFormed BadLastStickyFlag)))
  unfolding sticky_fault first_of
  sticky_some k = go (ltb c.sticky_anchors k.seq_no) (equal k.is_last (eqb k.seq_no c.sticky_anchors))
    where
      go : (b d : Bool) → first_of (pick b (IllFormed (TooManyStickyAnchors k.seq_no) ∷ []) (when (not d) (IllFormed BadLastStickyFlag))) ≡ pick b (Some (IllFormed (TooManyStickyAnchors k.seq_no))) (pick d None (Some (IllFormed BadLastStickyFlag)))
      go true d = refl
      go false true = refl
      go false false = refl

pub ruleset sticky_facts = (nat_tests, sticky_none, sticky_some)

-- `==` of a digest and zeros
abbrev Whole : Option Id → Type 0
Whole None = Unit
Whole (Some x) = (x.a < 2 ^ 64) × (x.b < 2 ^ 64) × (x.c < 2 ^ 64) × (x.d < 2 ^ 64)

abbrev zeros : Id
zeros = record { a = 0; b = 0; c = 0; d = 0 }

pub zero_digest : (o : Option Id) → Whole o → option_eq (λ x y. eqb x.a y.a && (eqb x.b y.b && (eqb x.c y.c && eqb x.d y.d))) o (Some zeros) ≡ is_zero (option_map number o)
zero_digest None h = refl
zero_digest (Some x) h =
    sym (same_words x zeros h.0 h.1 h.2 h.3 (omega arith) (omega arith) (omega arith) (omega arith)) ∙ ap (eqb (number x)) number_zero

-- the table of a structure is made of two others
pub structure_first : (p : PointInfo) → first_of (concat (structure_rows p)) ≡
    option_or (first_of (when (is_genesis p.role) (ExpectedGenesis false))) (option_or (first_of (concat (own_point_rows p))) (first_of (concat (link_rows p))))
unfolding structure_rows
structure_first p = three_rows (when (is_genesis p.role) (ExpectedGenesis false)) (concat (own_point_rows p)) (concat (link_rows p))

pub ruleset structure_facts = (structure_first, first_when)

-- what the checks of a table need
pub ruleset point_rows = (row_steps, first_structure, empty-length, map-some, same_words, map_facts)
