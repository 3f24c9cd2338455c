-- Following an anchor link through a book (document 01: "A step goes there, the next along its link in that role, up to the target,
-- which is its own Top, or an Invalid point").
use Rattle.std.specs.Prelude.{ℕ, zero, suc, ◌≡◌, ◌⊎◌, Bool, true, false, not, T, Some}
use Rattle.point.specs.Point.{PointId, PointInfo, is_anchor_stage, source, target}
use Rattle.point.specs.declared.data.AnchorStageRole.{AnchorStageRole}
use Rattle.books.specs.Kept.{Status, Valid, TransInvalid, Invalid, IllFormed, Kept, Book, find_kept}

-- in any state but ill-formed
abbrev pub IsFormed : Status → Type 0
IsFormed s = (n : ℕ) → s ≡ IllFormed n → ⊥

abbrev pub is_usable : Status → Bool
is_usable Valid = true
is_usable (TransInvalid d) = true
is_usable (Invalid n) = false
is_usable (IllFormed n) = false

-- ---- from a point along its link in a role, towards the link's target

-- "the linked point in that role"
abbrev pub IsReached : AnchorStageRole → PointId → Kept → Type 0
IsReached g to k = (k.point.id ≡ to) × (T (is_anchor_stage g k.point.role) × IsFormed k.status)

-- "a point judged Invalid that links the same target"
abbrev pub IsStopped : AnchorStageRole → PointId → Kept → Type 0
IsStopped g to k = (target g k.point ≡ to) × ((n : ℕ) × (k.status ≡ Invalid n))

-- a point on the way links the same target too: it is Valid or TransInvalid, and no anchor of that role itself
abbrev pub IsPassed : AnchorStageRole → PointId → Kept → Type 0
IsPassed g to k = (target g k.point ≡ to) × (T (is_usable k.status) × T (not (is_anchor_stage g k.point.role)))

-- from p to e in at most n steps: each goes to a kept point, the source of the link of the point where it starts (FoundBook.antt,
-- `finds`, says what is found)
abbrev pub Way : Book → AnchorStageRole → PointId → ℕ → PointInfo → Kept → Type 0
Way b g to zero p e = ⊥
Way b g to (suc n) p e =
    (k : Kept) × ((find_kept b (source g p) ≡ Some k) × ((k ≡ e) ⊎ (IsPassed g to k × Way b g to n k.point e)))
