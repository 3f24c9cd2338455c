-- `read_entries` meets its contract: entry by entry (`Reading`), each turn goes on in the book.
use Rattle.book_read.proofs.Steps.{none_read}
use Rattle.book_read.proofs.read_entries.Goals as goal

pub loop-index-init : goal.loop-index-init
loop-index-init c = none_read c.requires.entries_start_in_bounds.0 c.requires.index_value
