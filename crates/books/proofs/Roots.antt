-- What judging records over entries of a book: a root cause in the domain, whose numbers fit their bytes.
use Rattle.std.specs.Prelude.{is_some}
use Prim.Native.Nat.{ℕ, ◌≤◌, ◌<◌}
use native.Mathlib.Omega.{arith}
use native.Mathlib.Decide.{dec_lt}
use mathlib.Core.Path.{◌≡◌, ap, subst}
use mathlib.Core.Logic.{◌⊎◌, inl, inr}
use mathlib.Core.Bool.{Bool, true, false}
use mathlib.Core.List.Memᴰ
use mathlib.Core.List.{List, [], ◌∷◌, Memᴰ}
use Rattle.base.proofs.Option.{IfSome}
use Rattle.base.proofs.Impossible.{impossible}
use Rattle.point.specs.Point.{PointId, PointInfo, through, anchor_link}
use Rattle.schedule.specs.Settings.{Settings}
use Rattle.reasons.specs.Invalid.{InvalidReason, InvalidDependency, dag_round}
use Rattle.reasons.specs.Verdict as verdict
use Rattle.reasons.specs.Verdict.{Verdict}
use Rattle.reasons.proofs.Laws.{no_reason-above}
use Rattle.rules.specs.DagPoint.{Entry, IndirectEntry}
use Rattle.rules.specs.Validate.{validate}
use Rattle.rules.proofs.Records.{IsRoot, validate-cases}
use Rattle.rules.specs.Mismatch.{entries_in}
use Rattle.point.proofs.Fits.{IdFits, PointFits}
use Rattle.rules.proofs.All.{All, all-member}
use Rattle.rules.proofs.Roots.{Recorded, Rooted, of-recorded, direct-recorded, link-peer}

-- the id of a root cause, and its reason's number
pub record Root (i : PointId) (n : ℕ) : Type 0 where
  pub id : IdFits i
  pub least : 4 ≤ i.round
  pub greatest : i.round ≤ 2147483647
  pub reason : is_some (dag_round n) ≡ true

-- a number that counts a reason fits its byte
pub reason-fits : (n : ℕ) → is_some (dag_round n) ≡ true → n < 256
reason-fits n h = elim (dec_lt 20 n) [
  | yes g ↦ (let f : is_some (dag_round n) ≡ false = rw (no_reason-above n g) in impossible (cc))
  | no g ↦ omega arith
]

abbrev pub RootedEntry : Entry → Type 0
RootedEntry e = Rooted Root e.state

-- ---- so of what judging gives

target_in : (ts : List IndirectEntry) (a : IndirectEntry) → Memᴰ a ts → Memᴰ a.entry (entries_in ts)
unfolding entries_in
target_in [] a m = absurd (Memᴰ.not-nil m)
target_in (x ∷ l) a m = go (target_in l a) (Memᴰ.cases_cons m)
  where
    go : (Memᴰ a l → Memᴰ a.entry (entries_in l)) → (a ≡ x) ⊎ Memᴰ a l → Memᴰ a.entry (x.entry ∷ entries_in l)
    go rec (inl q) = Memᴰ.head (ap (λ (y : IndirectEntry). y.entry) q)
    go rec (inr n) = Memᴰ.tail (rec n)

module _ (P : Verdict → Type 0) (invalid : (r : InvalidReason) → P (verdict.Invalid r)) (trans : (d : InvalidDependency) → Recorded Root d → P (verdict.TransInvalid d)) (valid : P verdict.Valid) where
  module _ (c : Settings) (required : Bool) (p : PointInfo) (es : List Entry) (ts : List IndirectEntry) (f : PointFits p)
      (g : All RootedEntry es) (h : All RootedEntry (entries_in ts)) where
    entry-root : (d : InvalidDependency) → IsRoot c p es ts d → Recorded Root d
    entry-root d (inl (e, m, w, k)) = subst (IfSome (Recorded Root)) k (direct-recorded Root c p.id.round e.certified e.state (all-member RootedEntry es g e m))
    entry-root d (inr (a, m, k)) =
        subst (IfSome (Recorded Root)) k
        (of-recorded Root c p.id.round a.entry.certified (through (anchor_link a.role p)) a.entry.state (link-peer p f a.role)
        (all-member RootedEntry (entries_in ts) h a.entry (target_in ts a m)))

    pub validated : (presence : ℕ) → P (validate c required presence p es ts)
    validated presence = validate-cases c required presence p es ts P invalid (λ d w. trans d (entry-root d w)) valid
