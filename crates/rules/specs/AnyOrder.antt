-- Ticket U9 of document 02, "The network's order does not choose the verdict": what two nodes can't differ in that judge one point, where
-- only the order differs in which its dependencies arrived. It is said of `judged`, the call `judge` on bytes.
use Rattle.std.specs.Prelude.{ℕ, ◌+◌, ◌-◌, ◌<◌, ◌≡◌, ◌⊎◌, Bool, true, false, length, Option, None, Some, is_some}
use mathlib.Core.List.{List, [], ◌∷◌, ◌++◌, Memᴰ, Permᴰ}
use Rattle.base.specs.Base.{concat}
use Rattle.point.specs.Point.{PointId, Through, PointInfo, prev_id, anchor_link, through}
use Rattle.point.specs.Reading.{read_point}
use Rattle.point.specs.declared.data.AnchorStageRole.{AnchorStageRole}
use Rattle.schedule.specs.Settings.{Settings, read_settings}
use Rattle.reasons.specs.Invalid.{InvalidReason, InvalidDependency, has_dag_round}
use Rattle.reasons.specs.Verdict as verdict
use Rattle.rules.specs.DagPoint.{DagPoint, Valid, TransInvalid, Invalid, IllFormed, NotFound, Dropped, entry_id}
use Rattle.rules.specs.List.{Listed, read_entry, read_list}
use Rattle.rules.specs.Validate.{direct_through}
use Rattle.rules.specs.Judge.{JudgeAnswer, Number, Given}
use Rattle.rules.specs.Passed.{has_reason}
use Rattle.rules.specs.Told.{Call, handing, judged}
use Rattle.rules.specs.Joined.{Newer}

-- ---- "the same direct and indirect entries, each kind in any order"

-- a piece of bytes that is an entry of a kind: it reads as one, from its first byte to its last; or, whatever follows it, it can't be
-- read or lies outside the domain
abbrev pub IsEntry : Bool → List ℕ → Type 0
IsEntry is_indirect e =
    ((x : Listed) × (read_entry e ≡ Some x) × (x.size ≡ length e) × (is_some x.aim ≡ is_indirect))
    ⊎ ((rest : List ℕ) → read_entry (e ++ rest) ≡ None)

abbrev pub AllEntries : Bool → List (List ℕ) → Type 0
AllEntries is_indirect es = (e : List ℕ) → Memᴰ e es → IsEntry is_indirect e

-- "one point, presence, settings, schedule and leader flag" and peer buffer, with a list of these direct and indirect entries
abbrev pub with_list : Call → List (List ℕ) → List (List ℕ) → Call
with_list x es ts = handing x x.point (concat es ++ concat ts)

-- "the kind of verdict, or the number, is the same. Where it is TransInvalid, the root's round is the same too, and so is whether its
-- reason has a DAG round." Of Fail and IllFormed all is the same.
abbrev pub Alike : JudgeAnswer → JudgeAnswer → Type 0
Alike (Number n) b = b ≡ Number n
Alike (Given (verdict.Fail u)) b = b ≡ Given (verdict.Fail u)
Alike (Given (verdict.IllFormed r)) b = b ≡ Given (verdict.IllFormed r)
Alike (Given (verdict.Invalid r)) b = (s : InvalidReason) × (b ≡ Given (verdict.Invalid s))
Alike (Given (verdict.TransInvalid d)) b =
    (e : InvalidDependency) × (b ≡ Given (verdict.TransInvalid e)) × (e.to.round ≡ d.to.round) × (has_dag_round e.reason ≡ has_dag_round d.reason)
Alike (Given verdict.Valid) b = b ≡ Given verdict.Valid

-- ---- "For one given order whose verdict is Valid or TransInvalid on a point above genesis"

pub record GivenOrder (x : Call) : Type 0 where
  pub settings : Settings
  pub point : PointInfo
  pub verdict : verdict.Verdict
  pub settings_read : read_settings x.settings ≡ Some settings
  pub point_read : read_point x.point ≡ Some point
  pub above_genesis : settings.genesis_round < point.id.round
  pub given : judged x ≡ Given verdict
  pub valid_or_trans_invalid : has_reason verdict ≡ false

-- the author's own point of r−1
abbrev pub IsOwn : PointInfo → PointId → Type 0
IsOwn p i = (i.round ≡ p.id.round - 1) × (i.author ≡ p.id.author)

-- "given to `dependency`, direct or indirect": every indirect entry; a direct one unless it is the author's own point of r−1 and not
-- the previous point
abbrev pub IsGiven : PointInfo → Option AnchorStageRole → PointId → Type 0
IsGiven p None i = (IsOwn p i → ⊥) ⊎ (prev_id p ≡ Some i)
IsGiven p (Some g) i = Unit

-- the map and the peer that an entry came through
abbrev pub came_through : PointInfo → Option AnchorStageRole → PointId → Through
came_through p None i = direct_through p.id.round i
came_through p (Some g) i = through (anchor_link g p)

-- "an .. invalid one or an .. trans-invalid one inside the window", which is while r−1 is less than the root's round plus
-- commit_history_rounds; with its root cause: the invalid one itself, or what the trans-invalid one has
abbrev pub IsCause : Settings → PointInfo → Through → DagPoint → InvalidDependency → Type 0
IsCause c p t (Valid q) d = ⊥
IsCause c p t (TransInvalid q root n) d =
    (p.id.round - 1 < root.round + c.commit_history_rounds) × (d ≡ record { to = root; reason = n; through = t })
IsCause c p t (Invalid q n) d = d ≡ record { to = q.id; reason = n; through = t }
IsCause c p t (IllFormed i n) d = ⊥
IsCause c p t (NotFound i) d = ⊥
IsCause c p t Dropped d = ⊥

-- an "entry given to `dependency`" that was "an uncertified invalid one or an uncertified trans-invalid one inside the window", and what it
-- brings to the record
abbrev pub Brings : Settings → PointInfo → Listed → InvalidDependency → Type 0
Brings c p x d =
    IsGiven p x.aim (entry_id x.entry.state)
    × (x.entry.certified ≡ false)
    × IsCause c p (came_through p x.aim (entry_id x.entry.state)) x.entry.state d

abbrev pub NoneBrings : Settings → PointInfo → List Listed → Type 0
NoneBrings c p l = (x : Listed) (d : InvalidDependency) → Memᴰ x l → Brings c p x d → ⊥

-- "the earliest of the greatest", "by root round, then by having a DAG round", which is what is newer by the rule of `dependency`: an
-- entry brings it, what the entries before bring is less, and none after brings a greater one
pub record Earliest (c : Settings) (p : PointInfo) (l : List Listed) (d : InvalidDependency) : Type 0 where
  pub before : List Listed
  pub entry : Listed
  pub after : List Listed
  pub place : l ≡ before ++ (entry ∷ after)
  pub brings : Brings c p entry d
  pub less_before : (x : Listed) (e : InvalidDependency) → Memᴰ x before → Brings c p x e → Newer e d
  pub no_greater_after : (x : Listed) (e : InvalidDependency) → Memᴰ x after → Brings c p x e → Newer d e → ⊥

pub record AnyOrder : Type 0 where
  -- every list that can be read is one of such entries; and one outside the domain is such a one: dropped, with a certified flag of 2
  pub entries : (s : List ℕ) (l : List Listed) → read_list s ≡ Some l →
      (es : List (List ℕ)) × (ts : List (List ℕ)) × AllEntries false es × AllEntries true ts × (s ≡ concat es ++ concat ts)
  pub outside : IsEntry false (16 ∷ 4 ∷ 0 ∷ 5 ∷ 2 ∷ 0 ∷ 0 ∷ [])
  -- "the kind of verdict, or the number, is the same": 7, 8 and 9 included
  pub alike : (x : Call) (es es' ts ts' : List (List ℕ)) → AllEntries false es → AllEntries true ts → Permᴰ es es' → Permᴰ ts ts' →
      Alike (judged (with_list x es ts)) (judged (with_list x es' ts'))
  -- such a call has read its list
  pub listed : (x : Call) → GivenOrder x → (l : List Listed) × (read_list x.list ≡ Some l)
  -- "the record is absent exactly if no entry given to `dependency` .. was" such a one; a verdict without a record is Valid
  pub absent : (x : Call) (o : GivenOrder x) (l : List Listed) → read_list x.list ≡ Some l → o.verdict ≡ verdict.Valid →
      NoneBrings o.settings o.point l
  pub absent_only : (x : Call) (o : GivenOrder x) (l : List Listed) → read_list x.list ≡ Some l → NoneBrings o.settings o.point l →
      o.verdict ≡ verdict.Valid
  -- "and otherwise is the earliest of the greatest"
  pub otherwise : (x : Call) (o : GivenOrder x) (l : List Listed) → read_list x.list ≡ Some l → (d : InvalidDependency) →
      o.verdict ≡ verdict.TransInvalid d → Earliest o.settings o.point l d
