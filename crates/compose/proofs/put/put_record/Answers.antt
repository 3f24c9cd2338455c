-- `put_record` meets its contract: nine fields, one after the other.
use Rattle.std.proofs.Common.{arith, ap, sym, subst, ◌∙◌, ◌++◌, ◌+◌, length}
use Rattle.parts.specs.Bytes.{Bytes, put_at, little_bytes}
use Rattle.record.specs.Fields.{field_bytes}
use Rattle.compose.specs.Draft.{link_part, role_part}
use Rattle.compose.specs.Code.{draft_of, map_by, set_by}
use Rattle.compose.proofs.Fields.{laid_none, laid_next, numbers-long}
use Rattle.compose.proofs.Rows.{are_rows_lem, rows_whole, map-whole, set-whole}
use Rattle.compose.proofs.Contents.{AreBytes, handed, record-laid, composed-is}
use Rattle.compose.proofs.put.put_record.Goals as goal

pub returns : goal.returns
returns c p h =
    let a = c.args in
    let d = draft_of a.draft.now in
    let o = a.orders.now in
    let maps = are_rows_lem d c.requires.maps in
    let includes = map-whole d.includes o.includes (rows_whole 64 d.includes maps.includes) c.requires.ordered.includes in
    let witness = map-whole d.witness o.witness (rows_whole 64 d.witness maps.witness) c.requires.ordered.witness in
    let evidence = set-whole d.evidence o.evidence (rows_whole 32 d.evidence maps.evidence) c.requires.ordered.evidence in
    let payload = little_bytes 4 d.payload_len ++ little_bytes 4 d.payload_bytes in
    let payload-long = numbers-long 4 d.payload_len d.payload_bytes in
    let times = little_bytes 8 d.time ++ little_bytes 8 d.anchor_time in
    let times-long = numbers-long 8 d.time d.anchor_time in
    let proof-long = ap length c.link_part.ensures.same in
    let trigger-long = ap length c.link_part-2.ensures.same in
    let proof = ap (λ l. put_at c.put_set-at.new.out c.put_set-at.result (field_bytes 6 l)) c.link_part.ensures.same in
    let trigger = ap (λ l. put_at c.put_field-at-2.new.out c.put_field-at-2.result (field_bytes 7 l)) c.link_part-2.ensures.same in
    let one = laid_next 1 d.id (laid_none a.out.now) c.put_field-at.ensures.written c.put_field-at.ensures.next (omega arith) in
    let two = laid_next 2 payload one c.put_payload-at.ensures.written (omega arith) (omega arith) in
    let three = laid_next 3 (map_by d.includes o.includes) two c.put_map-at.ensures.written (omega arith) (omega arith) in
    let four = laid_next 4 (map_by d.witness o.witness) three c.put_map-at-2.ensures.written (omega arith) (omega arith) in
    let five = laid_next 5 (set_by d.evidence o.evidence) four c.put_set-at.ensures.written (omega arith) (omega arith) in
    let six = laid_next 6 (link_part d.anchor_proof) five (c.put_field-at-2.ensures.written ∙ proof) (omega arith) (omega arith) in
    let seven = laid_next 7 (link_part d.anchor_trigger) six (c.put_field-at-3.ensures.written ∙ trigger) (omega arith) (omega arith) in
    let eight = laid_next 8 (role_part d) seven c.put_role-at.ensures.written c.put_role-at.ensures.next (omega arith) in
    let nine = laid_next {after = c.put_role-at.result + 19} 9 times eight c.put_times.ensures (omega arith) (omega arith) in
    let bytes : AreBytes d = record {
      id = c.put_field-at.ensures.bytes;
      includes = c.put_map-at.ensures.bytes;
      witness = c.put_map-at-2.ensures.bytes;
      evidence = c.put_set-at.ensures.bytes;
      proof = subst Bytes c.link_part.ensures.same c.put_field-at-2.ensures.bytes;
      trigger = subst Bytes c.link_part-2.ensures.same c.put_field-at-3.ensures.bytes;
    } in
    nine.bytes ∙ ap (put_at a.out.now 0) (record-laid d o ∙ sym (composed-is d o p (handed d p h) maps c.requires.ordered bytes (omega arith)))
