-- Laws of the quick test: what the bytes of a dependency say of its few numbers, and that a dependency which passes gives no reason.
use Rattle.std.specs.Prelude.{Option, None, Some}
use Prim.Native.Nat.{ℕ, ◌+◌, ◌-◌, ◌*◌, ◌/◌, ◌^◌, ◌≤◌, ◌<◌}
use native.Mathlib.Omega.{arith}
use mathlib.Core.Path.{◌≡◌, refl, ap, sym, ◌∙◌}
use mathlib.Core.Bool.{Bool, true, false, ◌&&◌, ◌||◌}
use mathlib.Core.List.{List}
use lib.ListN.{length, get_or}
use lib.Dec.{leb, ltb, eqb}
use borrow.Author.Tests.{eqb-true, eq-eqb, ne_eqb, lt-ltb, le-ltb, ltb-false}
use Rattle.base.specs.Base.{pick, concat}
use Rattle.base.proofs.Bool.{never, clash, and_left, and_right, and_both, or_left, or_right}
use Rattle.base.proofs.Option.{picked, none-some, and_then_lem, IfSome, pick-has, has}
use Rattle.parts.specs.Bytes.{little_at, big_at, id_at, Bytes}
use Rattle.parts.specs.Code.{number}
use Rattle.parts.specs.declared.Id.{Id}
use Rattle.parts.proofs.Laws.{Words, big_words, big-fits}
use Rattle.record.specs.Record.{content_of, well_shaped}
use Rattle.map.specs.declared.Arrangement.TheVariants.{Columns}
use Rattle.point.specs.Point.{PointId, Through, Includes, Witness, AnchorLink, Direct, Indirect, PointInfo, same_id, is_anchor_proof, is_anchor_trigger, is_anchor_stage, through_round, through, target_of, target_round_of, anchor_link, source, target, top}
use Rattle.point.specs.Reading.{point_id_at, through_at, read_through, read_link, read_role, maps_ok, read_point, read_point_in}
use Rattle.point.specs.declared.data.PointRole.{PointRole}
use Rattle.point.specs.declared.data.AnchorStageRole.{AnchorStageRole}
use Rattle.point.specs.declared.data.AnchorStageRole.TheVariants.{Proof, Trigger}
use Rattle.point.proofs.Ids.{same_fields}
use Rattle.point.proofs.Laws.{reads}
use Rattle.schedule.specs.Settings.{Settings}
use Rattle.rules.specs.DagPoint.{PointView, dep_view, is_by}
use Rattle.rules.specs.Validate.{time_row, newer_row, target_row, source_row, anchor_rows, point_rows}
use Rattle.judge_valid.specs.declared.brief.Brief as code-brief
use Rattle.judge_valid.specs.declared.quick.Quick as code-quick
use Rattle.judge_valid.specs.Code.{first_word, BriefOf, QuickOf, GivesNoReason}

-- ---- the first word of an id

low_off : (x d : ℕ) → d < 2 ^ 64 → (x * 2 ^ 64 + d) / 2 ^ 64 ≡ x
low_off x d h = omega arith

word_first : (a b c d : ℕ) → b < 2 ^ 64 → c < 2 ^ 64 → d < 2 ^ 64 → a ≡ (((a * 2 ^ 64 + b) * 2 ^ 64 + c) * 2 ^ 64 + d) / 2 ^ 64 / 2 ^ 64 / 2 ^ 64
word_first a b c d h g f = rw (low_off ((a * 2 ^ 64 + b) * 2 ^ 64 + c) d f, low_off (a * 2 ^ 64 + b) c g, low_off a b h)

pub first_of : (x : Id) → Words x → x.a ≡ first_word (number x)
unfolding first_word number
first_of x w = word_first x.a x.b x.c x.d w.wb w.wc w.wd

pub first-at : (s : List ℕ) (at : ℕ) → Bytes s → at + 32 ≤ length s → big_at 8 s at ≡ first_word (big_at 32 s at)
unfolding first_word
first-at s at b h =
    rw (big_words s at h) (word_first _ _ _ _ (big-fits 8 s (at + 8) b (omega arith)) (big-fits 8 s (at + 16) b (omega arith)) (big-fits 8 s (at + 24) b (omega arith)))

-- of an id that stands in a part of a record
pub word_read : (s t : List ℕ) (at w : ℕ) → Bytes s → at + 32 ≤ length s → t ≡ s → w ≡ big_at 8 t at → w ≡ first_word (big_at 32 s at)
word_read s t at w b h e f = f ∙ (ap (λ (l : List ℕ). big_at 8 l at) e ∙ first-at s at b h)

-- ---- a role, by its bytes

module _ (s : List ℕ) where
  pub proof-long : length s ≡ 3 → IfSome (λ (g : PointRole). true ≡ is_anchor_proof g) (read_role s)
  unfolding read_role
  proof-long n =
      pick-has (λ (g : PointRole). true ≡ is_anchor_proof g) (eqb (length s) 1) _ _
      (λ h. let m = eqb-true (length s) 1 h in absurd (omega arith))
      (pick-has (λ (g : PointRole). true ≡ is_anchor_proof g) (eqb (length s) 3 && (eqb (get_or s 0 0) 1 && leb (get_or s 2 0) 1)) _ _ (λ h. refl) tt)

  pub proof-short : (length s ≡ 3 → ⊥) → IfSome (λ (g : PointRole). eqb (get_or s 0 0) 3 ≡ is_anchor_proof g) (read_role s)
  unfolding read_role
  proof-short n =
      let P : PointRole → Type 0 = λ g. eqb (get_or s 0 0) 3 ≡ is_anchor_proof g in
      pick-has P (eqb (length s) 1) _ _
      (λ h.
      pick-has P (eqb (get_or s 0 0) 0) _ _ (λ k. let m = eqb-true (get_or s 0 0) 0 k in ne_eqb (get_or s 0 0) 3 (λ e. omega arith))
      (pick-has P (eqb (get_or s 0 0) 2) _ _ (λ k. let m = eqb-true (get_or s 0 0) 2 k in ne_eqb (get_or s 0 0) 3 (λ e. omega arith))
      (pick-has P (eqb (get_or s 0 0) 3) _ _ (λ k. k) tt)))
      (pick-has P (eqb (length s) 3 && (eqb (get_or s 0 0) 1 && leb (get_or s 2 0) 1)) _ _ (λ h. absurd (n (eqb-true (length s) 3 (and_left (eqb (length s) 3) _ h)))) tt)

  pub trigger-long : length s ≡ 3 → IfSome (λ (g : PointRole). ltb 0 (get_or s 1 0) ≡ is_anchor_trigger g) (read_role s)
  unfolding read_role
  trigger-long n =
      let P : PointRole → Type 0 = λ g. ltb 0 (get_or s 1 0) ≡ is_anchor_trigger g in
      pick-has P (eqb (length s) 1) _ _
      (λ h. let m = eqb-true (length s) 1 h in absurd (omega arith))
      (pick-has P (eqb (length s) 3 && (eqb (get_or s 0 0) 1 && leb (get_or s 2 0) 1)) _ _ (λ h. refl) tt)

  pub trigger-short : (length s ≡ 3 → ⊥) → IfSome (λ (g : PointRole). ltb 1 (get_or s 0 0) ≡ is_anchor_trigger g) (read_role s)
  unfolding read_role
  trigger-short n =
      let P : PointRole → Type 0 = λ g. ltb 1 (get_or s 0 0) ≡ is_anchor_trigger g in
      pick-has P (eqb (length s) 1) _ _
      (λ h.
      pick-has P (eqb (get_or s 0 0) 0) _ _ (λ k. let m = eqb-true (get_or s 0 0) 0 k in le-ltb 1 (get_or s 0 0) (omega arith))
      (pick-has P (eqb (get_or s 0 0) 2) _ _ (λ k. let m = eqb-true (get_or s 0 0) 2 k in lt-ltb 1 (get_or s 0 0) (omega arith))
      (pick-has P (eqb (get_or s 0 0) 3) _ _ (λ k. let m = eqb-true (get_or s 0 0) 3 k in lt-ltb 1 (get_or s 0 0) (omega arith)) tt)))
      (pick-has P (eqb (length s) 3 && (eqb (get_or s 0 0) 1 && leb (get_or s 2 0) 1)) _ _ (λ h. absurd (n (eqb-true (length s) 3 (and_left (eqb (length s) 3) _ h)))) tt)

-- ---- the round of a link's target, by its bytes

through-known : (a b : Bool) (x y t : Through) → pick a (Some x) (pick b (Some y) None) ≡ Some t → pick a x y ≡ t
through-known true b x y t h = cc
through-known false true x y t h = cc
through-known false false x y t h = none-some h

module _ (s : List ℕ) (round : ℕ) where
  through-read : (t : Through) → read_through s ≡ Some t → through_at s 1 ≡ t
  unfolding read_through
  through-read t = through-known (eqb (get_or s 1 0) 0) (eqb (get_or s 1 0) 1) (Includes (id_at s 2)) (Witness (id_at s 2)) t

  -- a link that goes through t, direct or not
  abbrev links : Through → Option AnchorLink
  links t =
      pick (eqb (length s) 34 && eqb (get_or s 0 0) 0) (Some (Direct t))
      (pick (eqb (length s) 102 && eqb (get_or s 0 0) 1) (Some (Indirect (point_id_at s 34) t)) None)

  links-near : (n : ℕ) (t : Through) → length s < 102 → n ≡ through_round t round → IfSome (λ (l : AnchorLink). n ≡ target_round_of round l) (links t)
  links-near n t h e =
      let P : AnchorLink → Type 0 = λ l. n ≡ target_round_of round l in
      pick-has P (eqb (length s) 34 && eqb (get_or s 0 0) 0) _ _ (λ k. e)
      (pick-has P (eqb (length s) 102 && eqb (get_or s 0 0) 1) _ _ (λ k. let m = eqb-true (length s) 102 (and_left (eqb (length s) 102) _ k) in absurd (omega arith)) tt)

  links-far : (t : Through) → 102 ≤ length s → IfSome (λ (l : AnchorLink). little_at 4 s 34 ≡ target_round_of round l) (links t)
  unfolding point_id_at
  links-far t h =
      let P : AnchorLink → Type 0 = λ l. little_at 4 s 34 ≡ target_round_of round l in
      pick-has P (eqb (length s) 34 && eqb (get_or s 0 0) 0) _ _ (λ k. let m = eqb-true (length s) 34 (and_left (eqb (length s) 34) _ k) in absurd (omega arith))
      (pick-has P (eqb (length s) 102 && eqb (get_or s 0 0) 1) _ _ (λ k. refl) tt)

  module _ (l : AnchorLink) (e : read_link s ≡ Some l) where
    pub target-far : 102 ≤ length s → little_at 4 s 34 ≡ target_round_of round l
    unfolding read_link
    target-far h =
        let x = and_then_lem (read_through s) _ l e in
        has (λ (m : AnchorLink). little_at 4 s 34 ≡ target_round_of round m) (links x.0) l (links-far x.0 h) x.2

    pub target-near : length s < 102 → through_round (through_at s 1) round ≡ target_round_of round l
    unfolding read_link
    target-near h =
        let x = and_then_lem (read_through s) _ l e in
        let n = through_round (through_at s 1) round in
        has (λ (m : AnchorLink). n ≡ target_round_of round m) (links x.0) l (links-near n x.0 h (ap (λ (t : Through). through_round t round) (through-read x.0 x.1))) x.2

-- ---- the few numbers of a point that was read

-- the round of a link's target, whatever its digest
target-round : (l : AnchorLink) (round d a : ℕ) (t : Through) → t ≡ through l → (target_of (record { round = through_round t round; digest = d; author = a }) l).round ≡ target_round_of round l
target-round (Direct t) round d a u e = rw e
target-round (Indirect to t) round d a u e = refl

top-is : (g : AnchorStageRole) (q : PointInfo) → (top g q).round ≡ pick (is_anchor_stage g q.role) q.id.round (target_round_of q.id.round (anchor_link g q))
unfolding top target source
top-is g q = go (is_anchor_stage g q.role)
  where
    go : (b : Bool) → (pick b q.id (target g q)).round ≡ pick b q.id.round (target_round_of q.id.round (anchor_link g q))
    go true = refl
    go false = target-round (anchor_link g q) q.id.round _ _ (through (anchor_link g q)) refl

pub top_read : (g : AnchorStageRole) (q : PointInfo) (own : Bool) (round r : ℕ) → r ≡ pick own round (target_round_of round (anchor_link g q)) →
    own ≡ is_anchor_stage g q.role → round ≡ q.id.round → r ≡ (top g q).round
top_read g q own round r h e f = h ∙ rw (e, f) (sym (top-is g q))

-- what a point has of its record, of what the test asks
pub record Asked (s : List ℕ) (q : PointInfo) : Type 0 where
  pub id : q.id ≡ point_id_at (content_of s 0) 0
  pub proof : read_link (content_of s 5) ≡ Some q.anchor_proof
  pub trigger : read_link (content_of s 6) ≡ Some q.anchor_trigger
  pub role : read_role (content_of s 7) ≡ Some q.role
  pub time : q.time ≡ little_at 8 (content_of s 8) 0

asked_with : (s : List ℕ) (a b : Option AnchorLink) (r : Option PointRole) (q : PointInfo) → reads Columns s a b r ≡ Some q →
    (q.id ≡ point_id_at (content_of s 0) 0) × (a ≡ Some q.anchor_proof) × (b ≡ Some q.anchor_trigger) × (r ≡ Some q.role) × (q.time ≡ little_at 8 (content_of s 8) 0)
asked_with s None b r q e = none-some e
asked_with s (Some x) None r q e = none-some e
asked_with s (Some x) (Some y) None q e = none-some e
asked_with s (Some x) (Some y) (Some r) q e = (cc, cc, cc, cc, cc)

pub asked : (s : List ℕ) (q : PointInfo) → read_point s ≡ Some q → Asked s q
unfolding read_point_in
asked s q h =
    let a = asked_with s (read_link (content_of s 5)) (read_link (content_of s 6)) (read_role (content_of s 7)) q (picked (well_shaped s && maps_ok Columns s) _ q h).1 in
    record { id = a.0; proof = a.1; trigger = a.2; role = a.3; time = a.4 }

-- ---- a dependency that passes

-- a dependency that is not the author's at the round before, nor a link's target or source, and neither newer nor too late
pub record Apart (c : Settings) (p : PointView) (q : PointInfo) : Type 0 where
  pub own : is_by (p.id.round - 1) p.id.author q.id ≡ false
  pub proof_target : same_id q.id p.proof.target ≡ false
  pub proof_source : same_id q.id p.proof.source ≡ false
  pub trigger_target : same_id q.id p.trigger.target ≡ false
  pub trigger_source : same_id q.id p.trigger.source ≡ false
  pub proof_round : (top Proof q).round ≤ p.proof.target.round
  pub trigger_round : (top Trigger q).round ≤ p.trigger.target.round
  pub time : q.time ≤ p.time + c.clock_skew_millis

pub apart_gives : (c : Settings) (p : PointView) (q : PointInfo) → Apart c p q → GivesNoReason c p q
unfolding concat point_rows time_row newer_row anchor_rows target_row source_row dep_view
apart_gives c p q a =
    record {
      other = a.own;
      rows = λ required. rw (le-ltb _ _ a.time, le-ltb _ _ a.proof_round, le-ltb _ _ a.trigger_round, a.proof_target, a.trigger_target, a.proof_source, a.trigger_source);
    }

-- other first words are other ids
other-id : (i j : PointId) (m n : ℕ) → m ≡ first_word i.digest → n ≡ first_word j.digest → eqb m n ≡ false → same_id i j ≡ false
other-id i j m n e f h = never _ (λ t. clash _ (eq-eqb m n (e ∙ (ap first_word (same_fields i j t).1 ∙ sym f))) h)

pub passes : (c : Settings) (p : PointView) (q : PointInfo) (r : code-quick.Quick) (b : code-brief.Brief) → QuickOf c p r → BriefOf q b →
    (eqb b.round r.before && eqb b.author r.author) ≡ false →
    (eqb b.digest r.proof_target || (eqb b.digest r.proof_source || (eqb b.digest r.trigger_target || eqb b.digest r.trigger_source))) ≡ false →
    (ltb r.proof_target_round b.proof_top_round || ltb r.trigger_target_round b.trigger_top_round) ≡ false → ltb (r.time + r.skew) b.time ≡ false → GivesNoReason c p q
passes c p q r b k f own linked newer late =
    let pt = eqb b.digest r.proof_target in
    let ps = eqb b.digest r.proof_source in
    let tt' = eqb b.digest r.trigger_target in
    let ts = eqb b.digest r.trigger_source in
    let rest = or_right pt (ps || (tt' || ts)) linked in
    let triggers = or_right ps (tt' || ts) rest in
    let proof = ltb-false r.proof_target_round b.proof_top_round (or_left (ltb r.proof_target_round b.proof_top_round) (ltb r.trigger_target_round b.trigger_top_round) newer) in
    let trigger = ltb-false r.trigger_target_round b.trigger_top_round (or_right (ltb r.proof_target_round b.proof_top_round) (ltb r.trigger_target_round b.trigger_top_round) newer) in
    let time = ltb-false (r.time + r.skew) b.time late in
    apart_gives c p q (record {
      own = never _ (λ t.
          let m = eqb-true q.id.round (p.id.round - 1) (and_left (eqb q.id.round (p.id.round - 1)) _ t) in
          let n = eqb-true q.id.author p.id.author (and_right (eqb q.id.round (p.id.round - 1)) _ t) in
          clash _ (and_both (eqb b.round r.before) (eqb b.author r.author) (eq-eqb _ _ (f.round ∙ (m ∙ sym k.before))) (eq-eqb _ _ (f.author ∙ (ap first_word n ∙ sym k.author)))) own);
      proof_target = other-id q.id p.proof.target _ _ f.digest k.proof_target (or_left pt (ps || (tt' || ts)) linked);
      proof_source = other-id q.id p.proof.source _ _ f.digest k.proof_source (or_left ps (tt' || ts) rest);
      trigger_target = other-id q.id p.trigger.target _ _ f.digest k.trigger_target (or_left tt' ts triggers);
      trigger_source = other-id q.id p.trigger.source _ _ f.digest k.trigger_source (or_right tt' ts triggers);
      proof_round = omega (arith, proof, f.proof_top_round, k.proof_target_round);
      trigger_round = omega (arith, trigger, f.trigger_top_round, k.trigger_target_round);
      time = omega (arith, time, f.time, k.time, k.skew);
    })

-- ---- a top
