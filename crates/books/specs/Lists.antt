-- The lists that the book builds for a point (document 01, "The book"): "witness rising, includes rising, then, with no previous
-- digest, kept versions of that author at r−1 in book order; indirect targets with the higher round first, proof first on a tie".
use Rattle.std.specs.Prelude.{ℕ, ◌-◌, Bool, true, false, ◌&&◌, List, [], ◌∷◌, ◌++◌, ltb, Option, None, Some, is_some}
use Rattle.base.specs.Base.{pick}
use Rattle.map.specs.Rows.{Pair}
use Rattle.point.specs.Point.{PointId, AnchorLink, Direct, Indirect, PointInfo, prev_digest, prev_id}
use Rattle.point.specs.declared.data.AnchorStageRole.{AnchorStageRole}
use Rattle.point.specs.declared.data.AnchorStageRole.TheVariants.{Proof, Trigger}
use Rattle.rules.specs.DagPoint as dag
use Rattle.rules.specs.DagPoint.{DagPoint, Entry, IndirectEntry, is_by}
use Rattle.rules.specs.Mismatch.{pair_id, is_id}
use Rattle.books.specs.Kept.{Status, Valid, TransInvalid, Invalid, IllFormed, Kept, Book, find_kept}

abbrev pub dag_point : PointInfo → Status → DagPoint
dag_point q Valid = dag.Valid q
dag_point q (TransInvalid d) = dag.TransInvalid q d.to d.reason
dag_point q (Invalid n) = dag.Invalid q n
dag_point q (IllFormed n) = dag.IllFormed q.id n

abbrev pub is_valid : Status → Bool
is_valid Valid = true
is_valid (TransInvalid d) = false
is_valid (Invalid n) = false
is_valid (IllFormed n) = false

-- an entry is a version of an author's point at a round
abbrev pub is_of : ℕ → ℕ → Kept → Bool
is_of round author k = is_by round author k.point.id

-- "First valid is the earliest Valid entry of that author and round"
unfoldable pub first_valid : Book → ℕ → ℕ → Option PointId
first_valid [] round author = None
first_valid (k ∷ b) round author =
    pick (is_valid k.status && is_of round author k) (Some k.point.id) (first_valid b round author)

unfoldable pub kept_entry : Book → Kept → Entry
unfolding first_valid
kept_entry b k =
    record {
      state = dag_point k.point k.status;
      certified = k.certified;
      first_valid = is_id (first_valid b k.point.id.round k.point.id.author) k.point.id;
    }

-- "unkept ids are not found"; the previous point "counts as certified even if not found"
abbrev pub entry_with : Book → PointInfo → PointId → Option Kept → Entry
entry_with b p i None = record { state = dag.NotFound i; certified = is_id (prev_id p) i; first_valid = false }
entry_with b p i (Some k) = kept_entry b k

unfoldable pub lookup : Book → PointInfo → PointId → Entry
unfolding kept_entry prev_id find_kept
lookup b p i = entry_with b p i (find_kept b i)

-- a map's dependencies, which rise
unfoldable pub lookups : Book → PointInfo → ℕ → List Pair → List Entry
unfolding lookup
lookups b p round [] = []
lookups b p round (q ∷ l) = lookup b p (pair_id round q) ∷ lookups b p round l

-- the versions of an author at a round among these entries of a book, in book order
unfoldable pub versions : Book → ℕ → ℕ → List Kept → List Entry
unfolding kept_entry
versions b round author [] = []
versions b round author (k ∷ l) =
    pick (is_of round author k) (kept_entry b k ∷ versions b round author l) (versions b round author l)

unfoldable pub direct_list : Book → PointInfo → List Entry
unfolding lookups prev_digest versions
direct_list b p =
    lookups b p (p.id.round - 2) p.witness
    ++ (lookups b p (p.id.round - 1) p.includes
    ++ pick (is_some (prev_digest p)) [] (versions b (p.id.round - 1) p.id.author b))

abbrev pub target_entry : Book → PointInfo → AnchorStageRole → AnchorLink → List IndirectEntry
target_entry b p g (Direct t) = []
target_entry b p g (Indirect to t) = record { role = g; entry = lookup b p to } ∷ []

-- the trigger link's target has the higher round
abbrev pub is_trigger_first : AnchorLink → AnchorLink → Bool
is_trigger_first (Direct t) trigger = false
is_trigger_first (Indirect to t) (Direct u) = false
is_trigger_first (Indirect to t) (Indirect other u) = ltb to.round other.round

unfoldable pub indirect_list : Book → PointInfo → List IndirectEntry
unfolding lookup
indirect_list b p =
    pick (is_trigger_first p.anchor_proof p.anchor_trigger)
    (target_entry b p Trigger p.anchor_trigger ++ target_entry b p Proof p.anchor_proof)
    (target_entry b p Proof p.anchor_proof ++ target_entry b p Trigger p.anchor_trigger)
