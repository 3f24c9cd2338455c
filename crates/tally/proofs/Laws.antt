-- Laws of the window.
use Prim.Native.Nat.{ℕ, ◌+◌, ◌-◌, ◌≤◌}
use native.Mathlib.Omega.{arith}
use mathlib.Core.Path.{◌≡◌, refl, ap, sym, ◌∙◌}
use mathlib.Core.List.{List}
use lib.ListN.{length, take, drop, length-drop}
use lib.Seq.{take_at, take-take, length-take-le}
use Rattle.std.proofs.lemmas.Grind.{common_steps}
use Rattle.std.specs.List.{copy_within}
use Rattle.std.specs.Prelude.{Result, Ok, Err, IfOk}
use Rattle.tally.specs.declared.window.Window.{Window}
use Rattle.parts.specs.Bytes.{put_at}
use Rattle.parts.specs.Limits.{settings_length}
use Rattle.tally_feed.proofs.AtHand.{drop_part}
use Rattle.tally.specs.Code.{at_hand, Lies, Filled, Refilled}

at_front : (start end n : ℕ) (b x : List ℕ) → start ≡ 0 → n ≤ end → take n b ≡ x → take n (take (end - start) (drop start b)) ≡ x
at_front start end n b x e h f =
    let z : end - 0 ≡ end = omega arith in
    ap (λ (k : ℕ). take n (take (end - k) (drop k b))) e ∙ ap (λ (k : ℕ). take n (take k b)) z ∙ take-take n end b h ∙ f

-- what is at hand was moved to the front
front : (buf : List ℕ) (w : Window) → Lies (length buf) w → take (w.end - w.start) (copy_within buf w.start w.end 0) ≡ at_hand buf w
front buf w l = grind (arith, common_steps)

-- and others were read after it
pub refilled : {E : Type 0} (buf : List ℕ) (w : Window) (b : List ℕ) (len : ℕ) (r : Result Window E) → Lies (length buf) w → 41127 ≤ length buf → len ≡ length buf →
    take (w.end - w.start) b ≡ take (w.end - w.start) (copy_within buf w.start w.end 0) → IfOk r (Filled (w.end - w.start) len) → IfOk r (Refilled buf w b)
refilled buf w b len (Ok v) l h e f r = record {
  lies = (omega (arith, r.start), omega (arith, r.within));
  same = at_front v.start v.end (w.end - w.start) b (at_hand buf w) r.start r.least (f ∙ front buf w l);
  enough = λ a. omega (arith, r.start, r.full a);
}
refilled buf w b len (Err e) l h g f r = tt

-- the bytes that are copied are the schedule's
pub first-schedule : (schedule out buf : List ℕ) (w : Window) (start : ℕ) → w.start ≡ 0 → start ≤ w.end → w.end ≤ length buf → settings_length ≤ start →
    out ≡ put_at schedule 0 (take (start - settings_length) (drop settings_length buf)) → take (start - settings_length) out ≡ drop settings_length (take start (at_hand buf w))
unfolding put_at
first-schedule schedule out buf w start z h l k e =
    let vs = take (start - settings_length) (drop settings_length buf) in
    let m : settings_length + (start - settings_length) ≡ start = omega arith in
    ap (take (start - settings_length)) e
    ∙ take_at vs (drop (0 + length vs) schedule) (start - settings_length) (length-take-le (start - settings_length) (drop settings_length buf) (omega (arith, length-drop settings_length buf)))
    ∙ sym (drop_part settings_length (start - settings_length) buf)
    ∙ ap (λ (n : ℕ). drop settings_length (take n buf)) m
    ∙ ap (drop settings_length) (sym (at_front w.start w.end start buf (take start buf) z h refl))
