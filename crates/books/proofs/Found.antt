-- What is so of every Valid or TransInvalid point above genesis in a book whose entries all stand.
use Prim.Native.Nat.{◌-◌, ◌<◌}
use native.Mathlib.Omega.{arith}
use mathlib.Core.Path.{◌≡◌, refl}
use mathlib.Core.Logic.{◌⊎◌}
use mathlib.Core.Bool.{not}
use mathlib.Core.List.{Memᴰ}
use lib.Dec.{T}
use Rattle.map.specs.Rows.{Pair}
use Rattle.point.specs.Point.{PointId, is_anchor_proof, target}
use Rattle.point.specs.declared.data.AnchorStageRole.{AnchorStageRole}
use Rattle.point.specs.declared.data.AnchorStageRole.TheVariants.{Proof}
use Rattle.schedule.specs.Settings.{Settings}
use Rattle.rules.specs.Mismatch.{pair_id}
use Rattle.books.specs.Kept.{Kept, Book}
use Rattle.books.specs.Following.{IsReached, IsStopped}
use Rattle.books.specs.FoundBook.{Usable, Held, Followed, Connected}
use Rattle.books.proofs.Find.{find-id, find-member}
use Rattle.books.proofs.Following.{HeldById, Stands, AllStand, no_is, follow_ends, follow_time}

module _ (c : Settings) (b : Book) (all : AllStand c b) (k : Kept) (u : Usable c b k) where
  stands : Stands c b k.point k.status
  stands = all k u.member

  held : (i : PointId) → HeldById b k.point i → Held b k.point i
  held i h =
      record {
        entry = h.entry;
        kept = find-member b i h.entry h.kept;
        named = find-id b i h.entry h.kept;
        formed = h.formed;
        topped = h.topped;
      }

  found-dependencies : ((q : Pair) → Memᴰ q k.point.includes → Held b k.point (pair_id (k.point.id.round - 1) q))
      × ((q : Pair) → Memᴰ q k.point.witness → Held b k.point (pair_id (k.point.id.round - 2) q))
  found-dependencies = (λ q m. held _ (stands.includes u.usable u.above q m), λ q m. held _ (stands.witness u.usable u.above q m))

  found-links : (g : AnchorStageRole) →
      (e : Kept) × (Followed c b g k.point e × (IsReached g (target g k.point) e ⊎ IsStopped g (target g k.point) e))
  found-links g =
      let a : c.genesis_round < k.point.id.round = u.above in
      follow_ends c b all g (target g k.point) (k.point.id.round - c.genesis_round) k.point k.status stands u.usable a refl (omega arith)

  found-times : T (not (is_anchor_proof k.point.role)) → (e : Kept) → Followed c b Proof k.point e → e.point.anchor_time ≡ k.point.anchor_time
  found-times r e h =
      follow_time c b all (target Proof k.point) (k.point.id.round - c.genesis_round) k.point k.status stands u.usable u.above (no_is _ r) e h

pub found-connected : (c : Settings) (b : Book) → AllStand c b → Connected c b
found-connected c b all = record { dependencies = found-dependencies c b all; links = found-links c b all; times = found-times c b all }
