-- What a pass of verification says of a point: it does not lie below genesis; at genesis it has both roles; above, the peer that a link
-- goes through stands in its map, and an indirect link's target lies below the round that the link goes through.
use Rattle.std.specs.Prelude.{Option, None, Some, is_some}
use Prim.Native.Nat.{ℕ, ◌≤◌, ◌<◌}
use native.Mathlib.Omega.{arith}
use mathlib.Core.Path.{◌≡◌, refl, sym, ap, ◌∙◌}
use mathlib.Core.Bool.{true, false, not}
use mathlib.Core.List.{List, [], ◌∷◌}
use lib.Dec.{eqb}
use borrow.Author.Tests.{leb-false, ltb-false, eq-eqb, ne_eqb, not-false}
use Rattle.base.specs.Base.{concat, first_of}
use Rattle.base.proofs.Bool.{pick_true, pick-false, or_left, or_right}
use Rattle.base.proofs.Tables.{AllNone, all_none, row_none, first-none}
use Rattle.base.proofs.Option.{some_of}
use Rattle.base.proofs.Impossible.{impossible}
use Rattle.point.specs.Point.{PointId, Through, Indirect, PointInfo, is_anchor_stage, digest_safe, through_round, through, anchor_link}
use Rattle.point.specs.declared.data.PointRole.{PointRole}
use Rattle.point.specs.declared.data.PointRole.TheVariants.{Regular, AnchorProof, AnchorTrigger, Genesis}
use Rattle.point.specs.declared.data.AnchorStageRole.{AnchorStageRole}
use Rattle.point.specs.declared.data.AnchorStageRole.TheVariants.{Proof, Trigger}
use Rattle.schedule.specs.Settings.{Settings}
use Rattle.schedule.specs.Schedule.{Schedule}
use Rattle.reasons.specs.declared.ill_formed.StructureIssue.{StructureIssue}
use Rattle.reasons.specs.declared.ill_formed.VerifyError.{VerifyError}
use Rattle.rules.specs.Verify.{new_rows, is_genesis, genesis_structure_rows, target_too_new, bad_link, link_rows, structure_rows, structure, genesis_rows, above_rows, well_formed_rows, scheduled, peer_rows, faults, verify}

pub no_issue : (o : Option StructureIssue) → structure o ≡ [] → o ≡ None
no_issue None e = refl
no_issue (Some i) e = impossible (cc)

-- the rows of a structure that raise no issue
issues_none : (l : List (List StructureIssue)) → structure (first_of (concat l)) ≡ [] → AllNone l
issues_none l h = all_none l (first-none (concat l) (no_issue (first_of (concat l)) h))

genesis_stage : (g : AnchorStageRole) (r : PointRole) → is_genesis r ≡ true → is_anchor_stage g r ≡ true
genesis_stage g Regular h = impossible (cc)
genesis_stage g (AnchorProof n l) h = impossible (cc)
genesis_stage g AnchorTrigger h = impossible (cc)
genesis_stage Proof Genesis h = refl
genesis_stage Trigger Genesis h = refl

module _ (c : Settings) (s : Schedule) (p : PointInfo) (pass : verify c s p ≡ None) where
  abbrev parts : List (List VerifyError)
  parts = concat (new_rows c s p) ∷ concat (well_formed_rows c p) ∷ concat (peer_rows c (scheduled c s p) p) ∷ []

  parts_none : AllNone parts
  unfolding verify faults
  parts_none = all_none parts (first-none (faults c s p) pass)

  pub pass_floor : c.genesis_round ≤ p.id.round
  unfolding new_rows
  pass_floor = ltb-false _ _ (row_none _ _ (all_none (new_rows c s p) parts_none.0).0)

  genesis-none : p.id.round ≡ c.genesis_round → AllNone (genesis_rows c p)
  unfolding well_formed_rows
  genesis-none e =
      all_none (genesis_rows c p)
      (ap concat (sym (pick_true (eqb p.id.round c.genesis_round) (genesis_rows c p) (above_rows c p) (eq-eqb _ _ e))) ∙ parts_none.1.0)

  above-none : c.genesis_round < p.id.round → AllNone (above_rows c p)
  unfolding well_formed_rows
  above-none a =
      let apart = ne_eqb p.id.round c.genesis_round (λ e. omega arith) in
      all_none (above_rows c p)
      (ap concat (sym (pick-false (eqb p.id.round c.genesis_round) (genesis_rows c p) (above_rows c p) apart)) ∙ parts_none.1.0)

  pub pass_genesis : p.id.round ≡ c.genesis_round → (g : AnchorStageRole) → is_anchor_stage g p.role ≡ true
  unfolding genesis_rows genesis_structure_rows
  pass_genesis e g = genesis_stage g p.role (not-false _ (row_none _ _ (issues_none (genesis_structure_rows p) (genesis-none e).1.1.0).0))

  link_ok : c.genesis_round < p.id.round → (g : AnchorStageRole) → bad_link p (anchor_link g p) ≡ false
  unfolding above_rows structure_rows link_rows
  link_ok a g =
      let links = all_none (link_rows p) (issues_none (structure_rows p) (above-none a).1.0).1.1.0 in
      go g (row_none _ _ links.1.0) (row_none _ _ links.1.1.0)
    where
      go : (g : AnchorStageRole) → bad_link p p.anchor_proof ≡ false → bad_link p p.anchor_trigger ≡ false → bad_link p (anchor_link g p) ≡ false
      go Proof x y = x
      go Trigger x y = y

  -- the digest beside the peer that a link goes through
  pub pass_link : c.genesis_round < p.id.round → (g : AnchorStageRole) → (d : ℕ) × (digest_safe p (through (anchor_link g p)) ≡ Some d)
  unfolding bad_link
  pass_link a g =
      some_of _ (not-false _ (or_left _ (target_too_new p.id.round (anchor_link g p)) (link_ok a g)))

  -- an indirect link's target lies below the round that the link goes through
  pub pass_target : c.genesis_round < p.id.round → (g : AnchorStageRole) (to : PointId) (t : Through) → anchor_link g p ≡ Indirect to t →
      to.round < through_round t p.id.round
  unfolding bad_link target_too_new
  pass_target a g to t e =
      leb-false _ _ (or_right (not (is_some (digest_safe p (through (Indirect to t))))) _ (ap (bad_link p) (sym e) ∙ link_ok a g))
