-- From what holds of each entry's own links to the end of a link that is followed through the book.
use Rattle.std.specs.Prelude.{Some}
use Prim.Native.Nat.{ℕ, zero, suc, ◌+◌, ◌-◌, ◌≤◌, ◌<◌}
use native.Mathlib.Omega.{arith}
use mathlib.Core.Path.{◌≡◌, refl, sym, ap, ◌∙◌, subst}
use mathlib.Core.Logic.{◌⊎◌, inl, inr}
use mathlib.Core.Bool.{Bool, true, false, not}
use mathlib.Core.List.{Memᴰ}
use lib.Dec.{T}
use Rattle.base.proofs.Impossible.{impossible}
use Rattle.map.specs.Rows.{Pair}
use Rattle.point.specs.Point.{PointId, Through, Includes, Witness, PointInfo, is_anchor_proof, is_anchor_stage, through_round, through, anchor_link, source, target, top}
use Rattle.point.specs.declared.data.AnchorStageRole.{AnchorStageRole}
use Rattle.point.specs.declared.data.AnchorStageRole.TheVariants.{Proof, Trigger}
use Rattle.schedule.specs.Settings.{Settings}
use Rattle.rules.specs.Mismatch.{pair_id}
use Rattle.books.specs.Kept.{Status, Valid, TransInvalid, Invalid, IllFormed, Kept, Book, find_kept}
use Rattle.books.specs.Following.{IsFormed, is_usable, IsReached, IsStopped, IsPassed, Way}
use Rattle.books.proofs.Find.{find-id, find-member}

-- ---- what holds of an entry

-- unless it is a proof, a point has the anchor time of the source of its proof link
abbrev pub Inherited : AnchorStageRole → PointInfo → PointInfo → Type 0
Inherited Proof p q = is_anchor_proof p.role ≡ false → q.anchor_time ≡ p.anchor_time
Inherited Trigger p q = Unit

-- Held, with the entry found by its id
pub record HeldById (b : Book) (p : PointInfo) (i : PointId) : Type 0 where
  pub entry : Kept
  pub kept : find_kept b i ≡ Some entry
  pub formed : IsFormed entry.status
  pub topped : (g : AnchorStageRole) → (top g entry.point).round ≤ (target g p).round

-- the source of a link is kept, and its top is the link's target
pub record Linked (b : Book) (p : PointInfo) (g : AnchorStageRole) : Type 0 where
  pub entry : Kept
  pub kept : find_kept b (source g p) ≡ Some entry
  pub formed : IsFormed entry.status
  pub leads : top g entry.point ≡ target g p
  pub inherited : Inherited g p entry.point

-- of an entry by its point and its status; all of it stays true as the book grows
pub record Stands (c : Settings) (b : Book) (p : PointInfo) (s : Status) : Type 0 where
  pub floor : IsFormed s → c.genesis_round ≤ p.id.round
  pub genesis : IsFormed s → p.id.round ≡ c.genesis_round → (g : AnchorStageRole) → is_anchor_stage g p.role ≡ true
  pub includes : T (is_usable s) → c.genesis_round < p.id.round → (q : Pair) → Memᴰ q p.includes → HeldById b p (pair_id (p.id.round - 1) q)
  pub witness : T (is_usable s) → c.genesis_round < p.id.round → (q : Pair) → Memᴰ q p.witness → HeldById b p (pair_id (p.id.round - 2) q)
  pub linked : T (is_usable s) → c.genesis_round < p.id.round → (g : AnchorStageRole) → Linked b p g

abbrev pub AllStand : Settings → Book → Type 0
AllStand c b = (k : Kept) → Memᴰ k b → Stands c b k.point k.status

-- ---- one step

lower : (t : Through) (n : ℕ) → 0 < n → through_round t n < n
lower (Includes x) n h = omega arith
lower (Witness x) n h = omega arith

source-lower : (g : AnchorStageRole) (p : PointInfo) → 0 < p.id.round → (source g p).round < p.id.round
unfolding source
source-lower g p h = lower (through (anchor_link g p)) p.id.round h

module _ (g : AnchorStageRole) (q : PointInfo) where
  top-own : is_anchor_stage g q.role ≡ true → top g q ≡ q.id
  unfolding top
  top-own h = rw h

  top-linked : is_anchor_stage g q.role ≡ false → top g q ≡ target g q
  unfolding top
  top-linked h = rw h

pub no_is : (b : Bool) → T (not b) → b ≡ false
no_is true h = absurd h
no_is false h = refl

module _ (g : AnchorStageRole) (to : PointId) (k : Kept) where
  past : (s : Status) → k.status ≡ s → IsFormed s → is_anchor_stage g k.point.role ≡ false → target g k.point ≡ to → IsStopped g to k ⊎ IsPassed g to k
  past Valid q f r l = inr (l, (rw q tt, rw r tt))
  past (TransInvalid d) q f r l = inr (l, (rw q tt, rw r tt))
  past (Invalid n) q f r l = inl (l, (n, q))
  past (IllFormed n) q f r l = absurd (f n refl)

  -- a point whose top is the target is the target, or an Invalid point that links it, or one to go on from
  arrives : IsFormed k.status → top g k.point ≡ to → IsReached g to k ⊎ (IsStopped g to k ⊎ IsPassed g to k)
  arrives f e = go (is_anchor_stage g k.point.role) refl
    where
      go : (t : Bool) → is_anchor_stage g k.point.role ≡ t → IsReached g to k ⊎ (IsStopped g to k ⊎ IsPassed g to k)
      go true r = inl (sym (top-own g k.point r) ∙ e, (rw r tt, f))
      go false r = inr (past k.status refl f r (sym (top-linked g k.point r) ∙ e))

-- ---- the way

-- where a way ends
abbrev pub Ends : Book → AnchorStageRole → PointId → ℕ → PointInfo → Type 0
Ends b g to n p = (e : Kept) × (Way b g to n p e × (IsReached g to e ⊎ IsStopped g to e))

-- one step ends a way, or a way goes on after it
step : (b : Book) (g : AnchorStageRole) (to : PointId) (n : ℕ) (p : PointInfo) (k : Kept) → find_kept b (source g p) ≡ Some k →
    (IsPassed g to k → Ends b g to n k.point) → IsReached g to k ⊎ (IsStopped g to k ⊎ IsPassed g to k) → Ends b g to (suc n) p
step b g to n p k f next (inl r) = (k, ((k, (f, inl refl)), inl r))
step b g to n p k f next (inr (inl s)) = (k, ((k, (f, inl refl)), inr s))
step b g to n p k f next (inr (inr h)) = let x = next h in (x.0, ((k, (f, inr (h, x.1.0))), x.1.1))

module _ (c : Settings) (b : Book) (all : AllStand c b) where
  -- a point that is not ill-formed and has not the role stands above genesis
  above : (g : AnchorStageRole) (k : Kept) → Memᴰ k b → IsFormed k.status → is_anchor_stage g k.point.role ≡ false →
      c.genesis_round < k.point.id.round
  above g k m f s =
      let low : c.genesis_round ≤ k.point.id.round = (all k m).floor f in
      let apart : k.point.id.round ≡ c.genesis_round → ⊥ = λ e. (let t = (all k m).genesis f e g in impossible (cc)) in
      omega (arith, apart)

  pub follow_ends : (g : AnchorStageRole) (to : PointId) (n : ℕ) (p : PointInfo) (s : Status) → Stands c b p s → T (is_usable s) →
      c.genesis_round < p.id.round → target g p ≡ to → p.id.round ≤ c.genesis_round + n → Ends b g to n p
  follow_ends g to zero p s w u a e h = absurd (omega arith)
  follow_ends g to (suc n) p s w u a e h =
      let l : Linked b p g = w.linked u a g in
      let k : Kept = l.entry in
      let m : Memᴰ k b = find-member b (source g p) k l.kept in
      let less : (source g p).round < p.id.round = source-lower g p (omega arith) in
      let same : k.point.id.round ≡ (source g p).round = ap (λ (i : PointId). i.round) (find-id b (source g p) k l.kept) in
      step b g to n p k l.kept
      (λ v. follow_ends g to n k.point k.status (all k m) v.1.0 (above g k m l.formed (no_is _ v.1.1)) v.0 (omega arith))
      (arrives g to k l.formed (l.leads ∙ e))

  -- ---- the anchor time

  -- a step of a way carries it, if the rest of the way does
  carried : (to : PointId) (n time : ℕ) (k e : Kept) → k.point.anchor_time ≡ time →
      (IsPassed Proof to k → Way b Proof to n k.point e → e.point.anchor_time ≡ k.point.anchor_time) →
      (k ≡ e) ⊎ (IsPassed Proof to k × Way b Proof to n k.point e) → e.point.anchor_time ≡ time
  carried to n time k e own next (inl q) = ap (λ (y : Kept). y.point.anchor_time) (sym q) ∙ own
  carried to n time k e own next (inr h) = next h.0 h.1 ∙ own

  pub follow_time : (to : PointId) (n : ℕ) (p : PointInfo) (s : Status) → Stands c b p s → T (is_usable s) →
      c.genesis_round < p.id.round → is_anchor_proof p.role ≡ false → (e : Kept) → Way b Proof to n p e → e.point.anchor_time ≡ p.anchor_time
  follow_time to zero p s w u a r e h = absurd h
  follow_time to (suc n) p s w u a r e h =
      let x : Linked b p Proof = w.linked u a Proof in
      let k : Kept = h.0 in
      let m : Memᴰ k b = find-member b (source Proof p) k h.1.0 in
      let f : Some x.entry ≡ Some k = sym x.kept ∙ h.1.0 in
      let same : x.entry ≡ k = cc in
      let own : k.point.anchor_time ≡ p.anchor_time = subst (λ (y : Kept). y.point.anchor_time ≡ p.anchor_time) same (x.inherited r) in
      let formed : IsFormed k.status = subst (λ (y : Kept). IsFormed y.status) same x.formed in
      carried to n p.anchor_time k e own
      (λ v rest. follow_time to n k.point k.status (all k m) v.1.0 (above Proof k m formed (no_is _ v.1.1)) (no_is _ v.1.1) e rest)
      h.1.1
