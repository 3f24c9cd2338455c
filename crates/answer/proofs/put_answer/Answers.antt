-- `put_answer` meets its contract: its three parts stand one after the other.
use mathlib.Core.Path.{refl}
use Rattle.answer.specs.Code.{answer_of}
use Rattle.rules.specs.Answer.{head_bytes, number_bytes, root_bytes, answer_bytes}
use Rattle.write.proofs.Laws.{put_three}
use Rattle.answer.proofs.put_answer.Goals as goal

pub returns : goal.returns
unfolding answer_bytes
returns c =
    let a = answer_of c.args.a in
    rw (c.put_root.ensures, c.put_numbers.ensures, c.put_head.ensures)
    (put_three c.args.out.now 0 (head_bytes a) (number_bytes a) (root_bytes a) 70 80 refl refl c.requires)
