-- `are_lines_zero` meets its contract: the lines are zeros, and so is what is left after them.
use Rattle.std.proofs.Common.{◌≡◌, ◌∙◌, sym, ap, rules, tests, length, drop, ◌/◌, ◌*◌, ◌&&◌}
use Rattle.std.proofs.lemmas.Iterator.{YieldsList-from_slice}
use Rattle.std.proofs.lemmas.Iterator.Search.{all_from_yields_List}
use Rattle.std.specs.Simd.{first_chunks}
use Rattle.books.specs.Layout.{is_zeros}
use Rattle.book_layout.proofs.Laws.{zeros_lines}
use Rattle.book_layout.proofs.zeros.are_lines_zero.Goals as goal

pub returns-then-all : goal.returns-then-all
returns-then-all c =
    let s = c.args.s.now in
    let lines = all_from_yields_List is_zeros _ _ _ c.all.ensures.ran (YieldsList-from_slice (first_chunks 1024 (length s / 1024) s) (c.iter.ensures.rest ∙ c.as_chunks.ensures.front)) (λ x b q k. search (rules, tests)) in
    let rest = c.are_zeros.ensures ∙ ap is_zeros c.as_chunks.ensures.back in
    rest ∙ ap (λ b. b && is_zeros (drop (length s / 1024 * 1024) s)) (sym c.if-all.true ∙ lines) ∙ zeros_lines 1024 (length s / 1024) s

pub returns-else-all : goal.returns-else-all
returns-else-all c =
    let s = c.args.s.now in
    let lines = all_from_yields_List is_zeros _ _ _ c.all.ensures.ran (YieldsList-from_slice (first_chunks 1024 (length s / 1024) s) (c.iter.ensures.rest ∙ c.as_chunks.ensures.front)) (λ x b q k. search (rules, tests)) in
    c.if-all.false ∙ ap (λ b. b && is_zeros (drop (length s / 1024 * 1024) s)) (sym c.if-all.false ∙ lines) ∙ zeros_lines 1024 (length s / 1024) s
