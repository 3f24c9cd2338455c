-- `reach_all` meets its contract: the chains, the entry of the previous point, and the depths below it.
use native.Mathlib.Omega.{arith}
use Prim.Native.Nat.{◌<◌}
use mathlib.Core.Bool.{Bool, false}
use mathlib.Core.Path.{ap, ◌∙◌}
use mathlib.Core.List.{List}
use lib.ListN.{length, get_or, get_or-replicate}
use Rattle.point.specs.Code.{point_id_of}
use Rattle.schedule.specs.Code.{settings_of}
use Rattle.book_certify.proofs.Adds.{with_entry, reached-here, reached-other}
use Rattle.book_certify.proofs.Chains.{heads_none}
use Rattle.book_certify.proofs.Entries.{stands}
use Rattle.book_certify.proofs.Depths.{first-sound, first_done}
use Rattle.book_certify.proofs.Walk.reach_all.Goals as goal

pub chain_all-requires-clause-unlinked : goal.chain_all-requires-clause-unlinked
chain_all-requires-clause-unlinked c = λ d h. heads_none c.args.self.now c.requires.fresh d

pub descend-requires-clause-sound : goal.descend-requires-clause-sound
descend-requires-clause-sound c =
    let by = c.args.by.now in
    let w = c.chain_all.new.self in
    first-sound (settings_of by.conf) (stands by.bytes c.requires.read) (point_id_of by.prev) c.args.first c.requires.first_bound c.requires.is_first (with_entry w c.args.first)
    (λ j lt d. reached-other w c.args.first j d
    ∙ (ap (λ (l : List Bool). get_or l j false) (c.chain_all.ensures.same_reached ∙ c.requires.fresh.unreached) ∙ get_or-replicate 4096 j false false (omega (arith, by.index.now.room))))

pub descend-requires-clause-done : goal.descend-requires-clause-done
descend-requires-clause-done c =
    let by = c.args.by.now in
    let w = c.chain_all.new.self in
    let lt : c.args.first < length w.reached = omega (arith, c.requires.first_bound, by.index.now.room) in
    first_done (settings_of by.conf) (stands by.bytes c.requires.read) (point_id_of by.prev) c.args.first c.requires.first_bound c.requires.is_first (with_entry w c.args.first) (reached-here w c.args.first lt)
