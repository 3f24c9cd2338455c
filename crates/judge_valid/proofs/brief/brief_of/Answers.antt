-- `brief_of` meets its contract: each number by the field that it was read from.
use Rattle.std.proofs.Common.{rules}
use Prim.Native.Nat.{ℕ, ◌≤◌}
use native.Mathlib.Omega.{arith}
use mathlib.Core.Path.{ap, sym, ◌∙◌, subst}
use mathlib.Core.List.{List}
use lib.ListN.{length}
use Rattle.parts.specs.Bytes.{little_at, Bytes}
use Rattle.record.specs.Record.{content_of}
use Rattle.point.specs.Point.{PointId}
use Rattle.point.specs.Reading.{point_id_at, read_link, read_role}
use Rattle.point.specs.declared.data.AnchorStageRole.TheVariants.{Proof, Trigger}
use Rattle.point.proofs.Laws.{id_long}
use Rattle.judge_valid.specs.Code.{first_word}
use Rattle.judge_valid.proofs.QuickLaws.{word_read, top_read, asked}
use Rattle.judge_valid.proofs.brief.brief_of.Goals as goal

pub returns : goal.returns
unfolding point_id_at
returns c =
    λ q e.
    let s = c.args.fields.now.rec.now in
    let m = asked s q e in
    let id = c.id-id.ensures in
    let b : Bytes (content_of s 0) = subst Bytes id (λ i. search rules) in
    let long : 68 ≤ length (content_of s 0) = id_long s c.args.fields.now.shaped in
    let proof = c.anchor_proof.ensures in
    let trigger = c.anchor_trigger.ensures in
    let role = c.role-role.ensures in
    let round = c.u32_at-round.ensures ∙ (ap (λ (l : List ℕ). little_at 4 l 0) id ∙ sym (ap (λ (i : PointId). i.round) m.id)) in
    record {
      round = round;
      digest = word_read (content_of s 0) _ 4 _ b (omega arith) id c.big64_at.ensures ∙ sym (ap (λ (i : PointId). first_word i.digest) m.id);
      author = word_read (content_of s 0) _ 36 _ b (omega arith) id c.big64_at-2.ensures ∙ sym (ap (λ (i : PointId). first_word i.author) m.id);
      proof_top_round = top_read Proof q _ _ _ (c.top_round.ensures _ (ap read_link proof ∙ m.proof)) (c.is_proof.ensures _ (ap read_role role ∙ m.role)) round;
      trigger_top_round = top_read Trigger q _ _ _ (c.top_round-2.ensures _ (ap read_link trigger ∙ m.trigger)) (c.is_trigger.ensures _ (ap read_role role ∙ m.role)) round;
      time = c.u64_at.ensures ∙ (ap (λ (l : List ℕ). little_at 8 l 0) c.times.ensures ∙ sym m.time);
    }
