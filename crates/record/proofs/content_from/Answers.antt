-- `record::content_from` meets its contract: a field's content ends where the next field starts.
use Rattle.std.proofs.Common.{◌≤◌, ◌+◌, length, arith}
use Rattle.record.specs.Record.{content_at, content_of}
use Rattle.record.proofs.Laws.{start-next, field}
use Rattle.record.proofs.content_from.Goals as goal
use Rattle.record.proofs.content_from.Goals.{Start}

-- the field lies in the record
inside : (c : Start) → (c.args.at + 3 ≤ c.args.end) × (c.args.end ≤ length c.args.rec.now)
inside c =
    let f = field c.args.rec.now c.requires.rec_value.0 c.args.k c.requires.rec_value.1 in
    omega (arith, start-next c.args.rec.now c.args.k, f.next, f.end)

pub overflow_add-result : goal.overflow_add-result
overflow_add-result c = omega (arith, inside c, c.well_formed)

pub slice_bounds-result-count : goal.slice_bounds-result-count
slice_bounds-result-count c = (inside c).0

pub slice_bounds-result-start : goal.slice_bounds-result-start
slice_bounds-result-start c = omega (arith, inside c)

pub slice_bounds-result-end : goal.slice_bounds-result-end
slice_bounds-result-end c = omega (arith, inside c)

pub returns : goal.returns
unfolding content_of content_at
returns c = let n = start-next c.args.rec.now c.args.k in rw (c.requires.at_value.0, c.requires.at_value.1, n)
