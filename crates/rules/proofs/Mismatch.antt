-- Laws on the ids of a list.
use mathlib.Core.Path.{◌≡◌, refl, ◌∙◌}
use mathlib.Core.Bool.{true, false, ◌||◌}
use mathlib.Core.List.{List, [], ◌∷◌}
use Rattle.point.specs.Point.{PointId, same_id}
use Rattle.point.proofs.Ids.{same_refl}
use Rattle.rules.specs.Mismatch.{has_id}

pub has-next : (x i : PointId) (l : List PointId) → has_id (x ∷ l) i ≡ (same_id x i || has_id l i)
unfolding has_id
has-next x i l = refl

pub has-none : (i : PointId) → has_id [] i ≡ false
unfolding has_id
has-none i = refl

pub has_first : (x : PointId) (l : List PointId) → has_id (x ∷ l) x ≡ true
has_first x l = has-next x x l ∙ rw (same_refl x)
