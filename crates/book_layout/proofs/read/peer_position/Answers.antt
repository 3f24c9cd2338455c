-- `peer_position` meets its contract: the peer has a position in the link's map exactly if the link is named.
use Rattle.std.specs.Prelude.{Some, is_some}
use Prim.Native.Nat.{ℕ, ◌≤◌}
use native.Mathlib.Omega.{arith}
use mathlib.Core.Path.{◌≡◌}
use mathlib.Core.Bool.{true}
use mathlib.Core.List.{List}
use lib.ListN.{length}
use borrow.Author.Rules.{rules}
use Rattle.base.proofs.Option.{some_of}
use Rattle.parts.specs.Bytes.{id_at}
use Rattle.map.specs.Rows.{peers_of, rising, find}
use Rattle.point.specs.Point.{PointInfo, AnchorLink}
use Rattle.point.specs.Reading.{read_point, read_link}
use Rattle.point.proofs.Laws.{readable}
use Rattle.rules.specs.List.{is_named}
use Rattle.book_layout.proofs.Named.{map-rises, map-few, includes-named, witness-named}
use Rattle.book_layout.proofs.read.peer_position.Goals as goal
use Rattle.book_layout.proofs.read.peer_position.Goals.{After-id_at, in-0, in_default}

-- what the rows of the link's map have
record Told (q : PointInfo) (link rows : List ℕ) : Type 0 where
  rise : rising (peers_of 64 rows) ≡ true
  few : length (peers_of 64 rows) ≤ 255
  named : (l : AnchorLink) → read_link link ≡ Some l → is_some (find (peers_of 64 rows) (id_at link 2)) ≡ is_named q l

told : (c : After-id_at) (q : PointInfo) → read_point c.args.from.now.fields.rec.now ≡ Some q → Told q c.args.link.now c.match-link.rows.now
told c q h =
    let m = readable _ q h in
    elim c.match-link.branch [
      | in-0 w ↦ rw (w.rows-is, w.includes-rows.ensures) (record {
        rise = map-rises _ _ m.includes;
        few = map-few _ _ m.includes;
        named = λ l g. includes-named _ l g q c.requires.1 _ m.includes.are w.in-0.is;
      })
      | in_default w ↦ rw (w.rows-is, w.witness-rows.ensures) (record {
        rise = map-rises _ _ m.witness;
        few = map-few _ _ m.witness;
        named = λ l g. witness-named _ l g q c.requires.1 _ m.witness.are (λ e. search rules);
      })
    ]

found : (c : After-id_at) → (q : PointInfo) × (read_point c.args.from.now.fields.rec.now ≡ Some q)
found c = some_of _ c.args.from.now.reads

pub search-requires : goal.search-requires
search-requires c =
    let q = found c in
    let t = told c q.0 q.1 in
    record { le_width = (omega arith, t.rise); rows_len_bound = t.few }

pub returns : goal.returns
returns c = λ q l h g. rw (c.search.ensures, c.id_at.ensures) ((told (goal.at.returns c).After-id_at q h).named l g)
