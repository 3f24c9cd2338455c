-- `round_of` meets its contract.
use Prim.Native.Nat.{ℕ, ◌+◌}
use mathlib.Core.Path.{ap, sym, ◌∙◌}
use Rattle.parts.specs.Bytes.{little_at}
use Rattle.id_index.specs.Code.{place_in}
use Rattle.book_certify.proofs.Entries.{id-round}
use Rattle.book_certify.proofs.spread.Spread.round_of.Goals as goal

pub returns : goal.returns
returns c =
    let by = c.args.self.now in
    c.u32_at.ensures ∙ (ap (λ (p : ℕ). little_at 4 by.book.now (p + 3)) c.place_at.ensures ∙ sym (id-round by.book.now (place_in by.index.now c.args.j)))
