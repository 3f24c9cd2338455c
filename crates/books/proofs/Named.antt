-- The direct links of a point that passed verification name peers of its maps, so the book may keep it in states 0 to 2.
use Rattle.std.specs.Prelude.{Option, None, Some, is_some}
use Prim.Native.Nat.{ℕ}
use mathlib.Core.Path.{◌≡◌, refl}
use mathlib.Core.Bool.{Bool, true, false, not, ◌||◌}
use mathlib.Core.List.{List, [], ◌∷◌}
use lib.Dec.{eqb}
use borrow.Author.Tests.{eqb-true, not-false}
use Rattle.base.specs.Base.{pick, concat, first_of}
use Rattle.base.proofs.Tables.{all_none, row_none, first-none}
use Rattle.base.proofs.Bool.{or_left, or_right}
use Rattle.base.proofs.Impossible.{impossible}
use Rattle.map.specs.Rows.{get}
use Rattle.point.specs.Point.{Includes, Witness, AnchorLink, Direct, Indirect, PointInfo, digest_safe, prev_digest, in_domain}
use Rattle.schedule.specs.Settings.{Settings}
use Rattle.schedule.specs.Schedule.{Schedule}
use Rattle.reasons.specs.declared.ill_formed.VerifyError.{VerifyError}
use Rattle.rules.specs.Verify.{links_own, is_zero, genesis_structure_rows, bad_link, link_rows, structure_rows, genesis_rows, above_rows, well_formed_rows, peer_rows, scheduled, new_rows, faults, verify}
use Rattle.rules.specs.List.{is_named, is_listable}
use Rattle.rules.proofs.Verified.{no_issue}

module _ (p : PointInfo) where
  -- above genesis: PointData::check_non_genesis_structure found the peer
  named-above : (l : AnchorLink) → bad_link p l ≡ false → is_named p l ≡ true
  unfolding bad_link
  named-above (Direct t) h = not-false (is_some (digest_safe p t)) (or_left (not (is_some (digest_safe p t))) _ h)
  named-above (Indirect to t) h = refl

  zero_there : (o : Option ℕ) → is_zero o ≡ true → is_some o ≡ true
  zero_there None h = h
  zero_there (Some d) h = refl

  -- at genesis: the links go to the previous point, which includes name
  named-own : (l : AnchorLink) → is_zero (prev_digest p) ≡ true → links_own p.id.author l ≡ true → is_named p l ≡ true
  unfolding links_own digest_safe prev_digest
  named-own (Direct (Includes x)) z h = rw (eqb-true x p.id.author h) (zero_there (get p.includes p.id.author) z)
  named-own (Direct (Witness x)) z h = impossible (cc)
  named-own (Indirect to t) z h = refl

  above : (c : Settings) → concat (above_rows c p) ≡ [] → (is_named p p.anchor_proof ≡ true) × (is_named p p.anchor_trigger ≡ true)
  unfolding above_rows structure_rows link_rows
  above c h =
      let issues = first-none (concat (structure_rows p)) (no_issue (first_of (concat (structure_rows p))) (all_none (above_rows c p) h).1.0) in
      let links = all_none (link_rows p) (all_none (structure_rows p) issues).1.1.0 in (
        named-above p.anchor_proof (row_none _ _ links.1.0),
        named-above p.anchor_trigger (row_none _ _ links.1.1.0),
      )

  at-genesis : (c : Settings) → concat (genesis_rows c p) ≡ [] → (is_named p p.anchor_proof ≡ true) × (is_named p p.anchor_trigger ≡ true)
  unfolding genesis_rows genesis_structure_rows
  at-genesis c h =
      let issues = first-none (concat (genesis_structure_rows p)) (no_issue (first_of (concat (genesis_structure_rows p))) (all_none (genesis_rows c p) h).1.1.0) in
      let z : Bool = is_zero (prev_digest p) in
      let a : Bool = links_own p.id.author p.anchor_proof in
      let b : Bool = links_own p.id.author p.anchor_trigger in
      let f : (not z || (not a || not b)) ≡ false = row_none _ _ (all_none (genesis_structure_rows p) issues).1.1.0 in
      let links : (not a || not b) ≡ false = or_right (not z) _ f in
      let own : is_zero (prev_digest p) ≡ true = not-false z (or_left (not z) _ f) in (
        named-own p.anchor_proof own (not-false a (or_left (not a) (not b) links)),
        named-own p.anchor_trigger own (not-false b (or_right (not a) (not b) links)),
      )

module _ (c : Settings) (s : Schedule) (p : PointInfo) where
  pub listable : verify c s p ≡ None → in_domain p ≡ true → is_listable p ≡ true
  unfolding verify faults well_formed_rows is_listable
  listable h d =
      let table : List (List VerifyError) = concat (new_rows c s p) ∷ concat (well_formed_rows c p) ∷ concat (peer_rows c (scheduled c s p) p) ∷ [] in
      let formed : concat (well_formed_rows c p) ≡ [] = (all_none table (first-none (faults c s p) h)).1.0 in
      let both = go (eqb p.id.round c.genesis_round) formed in
      rw (d, both.0, both.1)
    where
      go : (t : Bool) → concat (pick t (genesis_rows c p) (above_rows c p)) ≡ [] → (is_named p p.anchor_proof ≡ true) × (is_named p p.anchor_trigger ≡ true)
      go true e = at-genesis p c e
      go false e = above p c e
