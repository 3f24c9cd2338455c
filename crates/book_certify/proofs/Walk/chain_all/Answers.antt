-- `chain_all` meets its contract: the entries before j are chained.
use mathlib.Core.Path.{refl}
use Rattle.book_certify.proofs.Chains.{chained_none}
use Rattle.book_certify.proofs.Walk.chain_all.Goals as goal

pub loop-j-init : goal.loop-j-init
loop-j-init c = record { chained = chained_none c.requires.unlinked; same_reached = refl }
