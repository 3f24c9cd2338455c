-- `point` gives a point that was read from the entry's record.
use mathlib.Core.Path.{ap}
use mathlib.Core.Logic.{inl, inr}
use Rattle.judge_entries.specs.Code.{info_of}
use Rattle.judge_entries.proofs.entry.Entry.point.Goals as goal

pub invariant_of-result : goal.invariant_of-result
invariant_of-result c =
    let read = c.args.self.now.read _ in
    record {
      reads = elim c.in-Valid.is [ inl e ↦ read (ap info_of e) | inr w ↦ elim w [ inl x ↦ read (ap info_of x.2) | inr x ↦ read (ap info_of x.1) ] ];
    }
