-- `IndexedBook::lookup` meets its contract: what the index found, and what was read there.
use Rattle.std.specs.Prelude.{None, Some}
use mathlib.Core.Path.{refl, ap, ◌∙◌}
use Rattle.std.proofs.Math.Logic.{∥∥₁_elim}
use Rattle.rules.specs.DagPoint.{Entry}
use Rattle.judge_step.specs.Code.{as_first}
use Rattle.books.specs.Lists.{lookup}
use Rattle.point.specs.Code.{point_id_of}
use Rattle.id_index.proofs.Single.{is_index_prop}
use Rattle.book_judge.proofs.Looked.{looks_found, looks_absent, record_at}
use Rattle.book_judge.proofs.look.IndexedBook.lookup.Goals as goal

pub find-requires : goal.find-requires
find-requires c = ∥∥₁_elim c.args.self.now.entries is_index_prop (λ e. e.index)

pub kept-requires : goal.kept-requires
kept-requires c = c.in-Some.ensures.within

pub returns : goal.returns
returns c =
    let f = c.in-Some.ensures in
    let e = c.entry.ensures.shown in
    record {
      looked_up = λ b q a.
          (ap (λ (x : Entry). x.first_valid) e, ap (as_first (lookup b q (point_id_of c.args.id)).first_valid) e ∙ looks_found a (point_id_of c.args.id) c.in-Some.j f _ c.kept.ensures);
      rec = record {
        found = Some c.in-Some.j;
        there = f;
        is = rw c.entry.ensures.rec (record_at (∥∥₁_elim c.args.self.now.entries is_index_prop (λ e. e.index)) f.within c.kept.ensures);
      };
    }

pub returns-in_default : goal.returns-in_default
returns-in_default c =
    record {
      looked_up = λ b q a. (refl, looks_absent a (point_id_of c.args.id) c.is_prev.result c.is_prev.ensures c.in_default.ensures);
      rec = record { found = None; there = c.in_default.ensures; is = refl };
    }
