-- The list of dependencies that the entries of a book and their marks give (document 01, "The book"), as bytes that `judge` takes.
use Rattle.std.specs.Prelude.{ℕ, ◌-◌, Bool, true, false, ◌&&◌, List, [], ◌∷◌, ◌++◌, ltb, Option, None, Some, is_some}
use Rattle.base.specs.Base.{pick}
use Rattle.map.specs.Rows.{Pair}
use Rattle.point.specs.Point.{PointId, AnchorLink, Direct, Indirect, PointInfo, prev_digest, prev_id, target, same_id}
use Rattle.point.specs.declared.data.AnchorStageRole.{AnchorStageRole}
use Rattle.point.specs.declared.data.AnchorStageRole.TheVariants.{Proof, Trigger}
use Rattle.reasons.specs.Answer.{flag, role_number}
use Rattle.rules.specs.DagPoint.{is_by}
use Rattle.rules.specs.Mismatch.{pair_id, is_id}
use Rattle.books.specs.Kept.{Status, Valid, TransInvalid, Invalid, IllFormed, Kept, Book, find_kept}
use Rattle.point.specs.Written.{id_bytes}

-- tag 16: "state .., certified (0 or 1), first valid (0 or 1), reason number"
abbrev pub tag16 : ℕ → Bool → Bool → ℕ → List ℕ
tag16 state certified first_valid reason = 16 ∷ 4 ∷ 0 ∷ state ∷ flag certified ∷ flag first_valid ∷ reason ∷ []

abbrev pub tag17 : PointId → List ℕ
tag17 i = 17 ∷ 68 ∷ 0 ∷ id_bytes i

-- "for states 3 and 4 tag 17, the id; for state 1 tag 18, root cause id then its reason number (69 bytes); for states 0 to 2 the
-- point record"
abbrev pub entry_as : Kept → Bool → Bool → Status → List ℕ
entry_as k certified first Valid = tag16 0 certified first 0 ++ k.bytes
entry_as k certified first (TransInvalid d) = tag16 1 certified first 0 ++ ((18 ∷ 69 ∷ 0 ∷ (id_bytes d.to ++ (d.reason ∷ []))) ++ k.bytes)
entry_as k certified first (Invalid n) = tag16 2 certified first n ++ k.bytes
entry_as k certified first (IllFormed n) = tag16 3 certified first n ++ tag17 k.point.id

abbrev pub is_kept_valid : Status → Bool
is_kept_valid Valid = true
is_kept_valid (TransInvalid d) = false
is_kept_valid (Invalid n) = false
is_kept_valid (IllFormed n) = false

-- "First valid is the earliest Valid entry of that author and round"
unfoldable pub is_first_valid : Book → PointId → Bool
unfolding same_id
is_first_valid [] i = false
is_first_valid (k ∷ b) i =
    pick (is_kept_valid k.status && is_by i.round i.author k.point.id) (same_id k.point.id i) (is_first_valid b i)

-- with the test `marked`, which says what is certified
abbrev pub of_kept : Book → (PointId → Bool) → Kept → List ℕ
of_kept b marked k = entry_as k (marked k.point.id) (is_first_valid b k.point.id) k.status

-- "unkept ids are not found"; the previous point "counts as certified even if not found"
abbrev pub entry_for : Book → (PointId → Bool) → PointInfo → PointId → Option Kept → List ℕ
entry_for b marked p i None = tag16 4 (is_id (prev_id p) i) false 0 ++ tag17 i
entry_for b marked p i (Some k) = of_kept b marked k

unfoldable pub of_pairs : Book → (PointId → Bool) → PointInfo → ℕ → List Pair → List ℕ
unfolding find_kept prev_id is_first_valid
of_pairs b marked p round [] = []
of_pairs b marked p round (q ∷ l) = entry_for b marked p (pair_id round q) (find_kept b (pair_id round q)) ++ of_pairs b marked p round l

-- "with no previous digest, kept versions of that author at r−1 in book order"
unfoldable pub of_versions : Book → (PointId → Bool) → PointInfo → Book → List ℕ
unfolding is_first_valid
of_versions b marked p [] = []
of_versions b marked p (k ∷ l) = pick (is_by (p.id.round - 1) p.id.author k.point.id) (of_kept b marked k) [] ++ of_versions b marked p l

-- "Entries for indirect targets begin with tag 19: 0 proof, 1 trigger"
abbrev pub of_target : Book → (PointId → Bool) → PointInfo → AnchorStageRole → AnchorLink → List ℕ
of_target b marked p g (Direct t) = []
of_target b marked p g (Indirect to t) = (19 ∷ 1 ∷ 0 ∷ role_number g ∷ []) ++ entry_for b marked p to (find_kept b to)

-- "witness rising, includes rising, then .. versions ..; indirect targets with the higher round first, proof first on a tie"
unfoldable pub list_for : Book → (PointId → Bool) → PointInfo → List ℕ
unfolding of_pairs of_versions prev_digest find_kept prev_id is_first_valid target
list_for b marked p =
    of_pairs b marked p (p.id.round - 2) p.witness
    ++ (of_pairs b marked p (p.id.round - 1) p.includes
    ++ (pick (is_some (prev_digest p)) [] (of_versions b marked p b)
    ++ pick (ltb (target Proof p).round (target Trigger p).round)
    (of_target b marked p Trigger p.anchor_trigger ++ of_target b marked p Proof p.anchor_proof)
    (of_target b marked p Proof p.anchor_proof ++ of_target b marked p Trigger p.anchor_trigger)))
