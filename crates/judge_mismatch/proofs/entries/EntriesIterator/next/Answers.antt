-- `next` meets its contract: what is left after the entry at the place reads too.
use native.Mathlib.Omega.{arith}
use mathlib.Core.Path.{refl}
use Rattle.judge_mismatch.proofs.Heads.{reads_end, entry-given, entry-front, entry-within, entry-least, entry-left}
use Rattle.judge_mismatch.proofs.entries.EntriesIterator.next.Goals as goal

pub invariant_of-self : goal.invariant_of-self
invariant_of-self c =
    let e = c.args.self.now in
    record {
      within = entry-within _ _ e.reads c.if-self-at.false _ c.head_of-head.ensures;
      reads = entry-left _ _ e.reads c.if-self-at.false _ c.head_of-head.ensures;
    }

pub returns-then-self-at-clause-steps : goal.returns-then-self-at-clause-steps
returns-then-self-at-clause-steps c = (reads_end _ _ c.if-self-at.true, c.if-self-at.true)

pub returns-clause-steps : goal.returns-clause-steps
returns-clause-steps c =
    let e = c.args.self.now in
    record {
      front = entry-front _ _ e.reads c.if-self-at.false _ c.head_of-head.ensures;
      place = refl;
      inside = c.if-self-at.false;
      read = entry-given _ _ e.reads c.if-self-at.false _ c.head_of-head.ensures;
      list = refl;
      next = refl;
      least = omega (arith, entry-least _ _ e.reads c.if-self-at.false _ c.head_of-head.ensures);
    }
