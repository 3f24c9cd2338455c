-- What a caller is told of a verdict, by numbers (docs/FORMAT.md, "Answers").
use Rattle.std.specs.Prelude.{ℕ, Bool, true, false}
use Rattle.point.specs.Point.{PointId}
use Rattle.point.specs.declared.data.AnchorStageRole.{AnchorStageRole}
use Rattle.point.specs.declared.data.AnchorStageRole.TheVariants.{Proof, Trigger}
use Rattle.point.specs.declared.data.PointMap.{PointMap}
use Rattle.point.specs.declared.data.PointMap.TheVariants as map

pub record Answer : Type 0 where
  pub kind : ℕ
  pub reason : ℕ
  pub id : PointId
  pub map : ℕ
  pub role : ℕ
  pub first : ℕ
  pub second : ℕ
  pub root_reason : ℕ
  pub peer : ℕ
  pub unknown : ℕ

-- the same in the order of its bytes
abbrev pub answer : ℕ → ℕ → PointId → ℕ → ℕ → ℕ → ℕ → ℕ → ℕ → ℕ → Answer
answer k n i m g a b r x u =
    record {
      kind = k;
      reason = n;
      id = i;
      map = m;
      role = g;
      first = a;
      second = b;
      root_reason = r;
      peer = x;
      unknown = u;
    }

-- 255 stands for none
abbrev pub map_number : PointMap → ℕ
map_number map.Evidence = 0
map_number map.Includes = 1
map_number map.Witness = 2

-- 255 stands for none
abbrev pub role_number : AnchorStageRole → ℕ
role_number Proof = 0
role_number Trigger = 1

abbrev pub flag : Bool → ℕ
flag true = 1
flag false = 0
