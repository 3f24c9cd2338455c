-- `put_numbers` meets its contract: two stores and two numbers, one after the other.
use native.Mathlib.Omega.{arith}
use mathlib.Core.Path.{refl}
use mathlib.Core.List.{[], ◌∷◌}
use Rattle.parts.specs.Bytes.{little_bytes}
use Rattle.write.proofs.Laws.{put_is, put_three}
use Rattle.rules.specs.Answer.{number_bytes}
use Rattle.answer.proofs.put_numbers.Goals as goal

pub returns : goal.returns
unfolding number_bytes little_bytes
returns c =
    let l = c.args.out.now in
    let a = c.args.a.values in
    let xs = a.map ∷ a.role ∷ [] in
    rw (c.put_u32-2.ensures, c.put_u32.ensures, put_is l 70 xs (omega arith))
    (put_three l 70 xs (little_bytes 4 a.first) (little_bytes 4 a.second) 72 76 refl refl (omega arith))
