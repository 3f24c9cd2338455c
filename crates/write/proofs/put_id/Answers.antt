use Rattle.std.proofs.Common.{◌∙◌, sym, arith}
use Rattle.parts.specs.Code.{number}
use Rattle.parts.proofs.Laws.{write_big}
use Rattle.write.proofs.Laws.{put_words}
use Rattle.write.proofs.put_id.Goals as goal

pub returns : goal.returns
unfolding number
returns c =
    rw (
      c.put_slice-4.ensures,
      c.put_slice-3.ensures,
      c.put_slice-2.ensures,
      c.put_slice.ensures,
      c.to_be_bytes-4.ensures ∙ sym (write_big 8 _),
      c.to_be_bytes-3.ensures ∙ sym (write_big 8 _),
      c.to_be_bytes-2.ensures ∙ sym (write_big 8 _),
      c.to_be_bytes.ensures ∙ sym (write_big 8 _),
    )
    (put_words _ _ _ _ _ _ c.requires (omega arith) (omega arith) (omega arith))
