-- `compose` meets its contract once the rows have their orders: the output is too short, or has the record.
use Rattle.std.proofs.Common.{rules, arith, true, length, sym, ap, ◌∙◌, ◌≡◌, Ok}
use Rattle.base.specs.Base.{is_some_and}
use Rattle.point.specs.Point.{in_domain}
use Rattle.compose.specs.Draft.{are_maps, handed_over, output}
use Rattle.compose.specs.Code.{draft_of, Ordered}
use Rattle.compose.proofs.Called.{composition_short, composition_done, put_done}
use Rattle.compose.proofs.compose.Goals as goal

pub returns-then-out-len-clause-same : goal.returns-then-out-len-clause-same
returns-then-out-len-clause-same c =
    let d = draft_of c.args.draft.now in
    let rowed : are_maps d ≡ true = cc in
    let inside : is_some_and (handed_over d) in_domain ≡ true = cc in
    let ordered : Ordered d c.in_ok-orders.orders = search rules in
    sym (composition_short d (length c.args.out.now) rowed inside c.in_ok-orders.orders ordered (omega arith))

pub returns-then-out-len-clause-written : goal.returns-then-out-len-clause-written
returns-then-out-len-clause-written c = ap (output (draft_of c.args.draft.now) c.args.out.now) (returns-then-out-len-clause-same c)

pub returns-clause-same : goal.returns-clause-same
returns-clause-same c =
    let d = draft_of c.args.draft.now in
    let rowed : are_maps d ≡ true = cc in
    let inside : is_some_and (handed_over d) in_domain ≡ true = cc in
    let ordered : Ordered d c.in_ok-orders.orders = search rules in
    ap Ok c.record_len-len.ensures.same
    ∙ sym (composition_done d (length c.args.out.now) rowed inside c.in_ok-orders.orders ordered (omega arith))

pub returns-clause-written : goal.returns-clause-written
returns-clause-written c =
    let d = draft_of c.args.draft.now in
    let inside : is_some_and (handed_over d) in_domain ≡ true = cc in
    put_done d c.args.out.now c.put_record.new.out inside c.put_record.ensures ∙ ap (output d c.args.out.now) (returns-clause-same c)
