-- The verdict over lists of entries, for every order of them: what can't differ.
use Rattle.std.specs.Prelude.{Option, None, Some}
use Prim.Native.Nat.{ℕ, max}
use native.Mathlib.Omega.{arith}
use lib.Dec.{eqb}
use mathlib.Core.Path.{◌≡◌, refl, sym, ap, ◌∙◌}
use mathlib.Core.Bool.{Bool, true, false, not, ◌&&◌}
use mathlib.Core.List.{List, [], ◌∷◌, ◌++◌, Permᴰ}
use Rattle.base.specs.Base.{pick, when, last_of, is_empty}
use Rattle.base.proofs.Impossible.{impossible}
use Rattle.point.specs.Point.{PointInfo, prev_id}
use Rattle.point.specs.declared.data.PointMap.TheVariants as map
use Rattle.schedule.specs.Settings.{Settings}
use Rattle.reasons.specs.Invalid.{InvalidReason, NoRoundInDag, DependencyRoundDropped, InvalidDependency}
use Rattle.reasons.specs.Verdict as verdict
use Rattle.rules.specs.DagPoint.{Entry, IndirectEntry, is_dropped, PointView, point_view}
use Rattle.rules.specs.Validate.{join, dependency, entry_findings, indirect_findings, result_with, over_lists, validate}
use Rattle.rules.specs.Mismatch.{mismatch, uncovered}
use Rattle.rules.specs.Judge.{JudgeAnswer, Number, Given, over_entries}
use Rattle.rules.specs.AnyOrder.{Alike}
use Rattle.rules.proofs.Joins.{rank_of}
use Rattle.rules.proofs.Folds.{direct_trail, direct_record, indirect_trail, indirect_record, lists_apart}
use Rattle.rules.proofs.Records.{target_record}
use Rattle.rules.proofs.Perms.{all, all_perm}
use Rattle.rules.proofs.Places.{mismatch_perm, uncovered_perm}
use Rattle.rules.proofs.Greatest.{join_all, greatest, all-rank, greatest_perm, same_rank, rank-some}

-- ---- what an entry records, and whether it gives a reason

abbrev pub root_of : Settings → Bool → PointView → Entry → Option InvalidDependency
root_of c required v e = (entry_findings c required v e).root

module _ (c : Settings) (required : Bool) (v : PointView) where
  abbrev pub quiet : Entry → Bool
  quiet e = not (is_dropped e.state) && is_empty (entry_findings c required v e).trail

  pub direct-quiet : (es : List Entry) → is_empty (direct_trail c required v false es) ≡ all quiet es
  unfolding direct_trail all
  direct-quiet [] = refl
  direct-quiet (e ∷ l) = go (is_dropped e.state) (entry_findings c required v e).trail (direct-quiet l)
    where
      go : (b : Bool) (t : List InvalidReason) → is_empty (direct_trail c required v false l) ≡ all quiet l →
          is_empty (pick b (when true DependencyRoundDropped) (t ++ direct_trail c required v (not (is_empty t)) l)) ≡ ((not b && is_empty t) && all quiet l)
      go true t h = refl
      go false [] h = h
      go false (r ∷ t) h = refl

  -- without a reason the direct entries' record is a row joined
  pub direct_row : (es : List Entry) (old : Option InvalidDependency) → direct_trail c required v false es ≡ [] →
      direct_record c required v old es ≡ join_all (root_of c required v) old es
  unfolding direct_trail direct_record join_all
  direct_row [] old h = refl
  direct_row (e ∷ l) old h = go (is_dropped e.state) (entry_findings c required v e).trail h (direct_row l (join old (root_of c required v e)))
    where
      go : (b : Bool) (t : List InvalidReason) →
          pick b (when true DependencyRoundDropped) (t ++ direct_trail c required v (not (is_empty t)) l) ≡ [] →
          (direct_trail c required v false l ≡ [] →
          direct_record c required v (join old (root_of c required v e)) l ≡ join_all (root_of c required v) (join old (root_of c required v e)) l) →
          pick b old (direct_record c required v (join old (root_of c required v e)) l) ≡ join_all (root_of c required v) (join old (root_of c required v e)) l
      go true t k f = impossible (cc)
      go false [] k f = f k
      go false (x ∷ t) k f = impossible (cc)

module _ (c : Settings) (p : PointInfo) where
  abbrev pub quiet_target : IndirectEntry → Bool
  quiet_target a = is_empty (indirect_findings c p a).trail

  pub indirect-quiet : (ts : List IndirectEntry) → is_empty (indirect_trail c p ts) ≡ all quiet_target ts
  unfolding indirect_trail all
  indirect-quiet [] = refl
  indirect-quiet (a ∷ l) = go (indirect_findings c p a).trail (indirect-quiet l)
    where
      go : (t : List InvalidReason) → is_empty (indirect_trail c p l) ≡ all quiet_target l → is_empty (t ++ indirect_trail c p l) ≡ (is_empty t && all quiet_target l)
      go [] h = h
      go (r ∷ t) h = refl

  pub indirect_row_lem : (ts : List IndirectEntry) (old : Option InvalidDependency) → indirect_record c p old ts ≡ join_all (target_record c p) old ts
  unfolding indirect_record indirect_findings dependency join_all
  indirect_row_lem [] old = refl
  indirect_row_lem (a ∷ l) old = indirect_row_lem l (join old (target_record c p a))

-- ---- verdicts that are alike

pub alike_self : (a : JudgeAnswer) → Alike a a
alike_self (Number n) = refl
alike_self (Given (verdict.Fail u)) = refl
alike_self (Given (verdict.IllFormed r)) = refl
alike_self (Given (verdict.Invalid r)) = (r, refl)
alike_self (Given (verdict.TransInvalid d)) = (d, refl, refl, refl)
alike_self (Given verdict.Valid) = refl

record_alike : (a b : Option InvalidDependency) → rank_of a ≡ rank_of b → Alike (Given (result_with None a)) (Given (result_with None b))
record_alike None None h = refl
record_alike None (Some b) h = absurd (omega (arith, rank-some b))
record_alike (Some a) None h = absurd (omega (arith, rank-some a))
record_alike (Some a) (Some b) h = let s = same_rank b a (sym h) in (b, refl, s.round, s.dag_round_lem)

-- a reason, whatever is recorded
some-reason : (x : InvalidReason) (l : List InvalidReason) (d : Option InvalidDependency) →
    (r : InvalidReason) × (result_with (last_of (x ∷ l)) d ≡ verdict.Invalid r)
unfolding last_of
some-reason x [] d = (x, refl)
some-reason x (y ∷ l) d = some-reason y l d

result-alike : (t u : List InvalidReason) (a b : Option InvalidDependency) → is_empty t ≡ is_empty u → (is_empty t ≡ true → rank_of a ≡ rank_of b) →
    Alike (Given (result_with (last_of t) a)) (Given (result_with (last_of u) b))
unfolding last_of
result-alike [] [] a b e h = record_alike a b (h refl)
result-alike [] (y ∷ u) a b e h = impossible (cc)
result-alike (x ∷ t) [] a b e h = impossible (cc)
result-alike (x ∷ t) (y ∷ u) a b e h =
    let r = some-reason x t a in
    let s = some-reason y u b in
    rw (r.1, s.1) (s.0, refl)

both-empty : (a b : List InvalidReason) → is_empty (pick (is_empty a) b a) ≡ (is_empty a && is_empty b)
both-empty [] b = refl
both-empty (x ∷ a) b = refl

first-empty : (a b : List InvalidReason) → is_empty (pick (is_empty a) b a) ≡ true → a ≡ []
first-empty [] b h = refl
first-empty (x ∷ a) b h = impossible (cc)

-- ---- over lists

module _ (c : Settings) (required : Bool) (p : PointInfo) where
  abbrev reasons : List Entry → List IndirectEntry → List InvalidReason
  reasons es ts = pick (is_empty (direct_trail c required (point_view p) false es)) (indirect_trail c p ts) (direct_trail c required (point_view p) false es)

  abbrev pub recorded_over : List Entry → List IndirectEntry → Option InvalidDependency
  recorded_over es ts = indirect_record c p (direct_record c required (point_view p) None es) ts

  silent : (es : List Entry) (ts : List IndirectEntry) → is_empty (reasons es ts) ≡ (all (quiet c required (point_view p)) es && all (quiet_target c p) ts)
  silent es ts = both-empty (direct_trail c required (point_view p) false es) (indirect_trail c p ts) ∙ rw (direct-quiet c required (point_view p) es, indirect-quiet c p ts)

  lists-rank : (es : List Entry) (ts : List IndirectEntry) → is_empty (reasons es ts) ≡ true →
      rank_of (recorded_over es ts) ≡ max (max (rank_of None) (greatest (root_of c required (point_view p)) es)) (greatest (target_record c p) ts)
  lists-rank es ts h =
      ap rank_of (indirect_row_lem c p ts (direct_record c required (point_view p) None es))
      ∙ all-rank (target_record c p) (direct_record c required (point_view p) None es) ts
      ∙ ap (λ (n : ℕ). max n (greatest (target_record c p) ts))
      (ap rank_of (direct_row c required (point_view p) es None (first-empty _ _ h)) ∙ all-rank (root_of c required (point_view p)) None es)

  module _ {es es' : List Entry} {ts ts' : List IndirectEntry} (d : Permᴰ es es') (g : Permᴰ ts ts') where
    silent_perm : is_empty (reasons es ts) ≡ is_empty (reasons es' ts')
    silent_perm = silent es ts ∙ rw (all_perm (quiet c required (point_view p)) d, all_perm (quiet_target c p) g) (sym (silent es' ts'))

    lists-alike : Alike (Given (over_lists c required p es ts)) (Given (over_lists c required p es' ts'))
    lists-alike =
        rw (lists_apart c p ts required es, lists_apart c p ts' required es')
        (result-alike (reasons es ts) (reasons es' ts') (recorded_over es ts) (recorded_over es' ts') silent_perm (λ h.
        lists-rank es ts h
        ∙ rw (greatest_perm (root_of c required (point_view p)) d, greatest_perm (target_record c p) g) (sym (lists-rank es' ts' (sym silent_perm ∙ h)))))

    validate-alike : (presence : ℕ) → Alike (Given (validate c required presence p es ts)) (Given (validate c required presence p es' ts'))
    unfolding validate
    validate-alike presence = go (eqb presence 0) (eqb presence 1) (eqb presence 2 && not (is_empty p.witness))
      where
        go : (x y z : Bool) →
            Alike
            (Given (pick x (verdict.Invalid (NoRoundInDag map.Evidence))
            (pick y (verdict.Invalid (NoRoundInDag map.Includes)) (pick z (verdict.Invalid (NoRoundInDag map.Witness)) (over_lists c required p es ts)))))
            (Given (pick x (verdict.Invalid (NoRoundInDag map.Evidence))
            (pick y (verdict.Invalid (NoRoundInDag map.Includes)) (pick z (verdict.Invalid (NoRoundInDag map.Witness)) (over_lists c required p es' ts')))))
        go true y z = alike_self (Given (verdict.Invalid (NoRoundInDag map.Evidence)))
        go false true z = alike_self (Given (verdict.Invalid (NoRoundInDag map.Includes)))
        go false false true = alike_self (Given (verdict.Invalid (NoRoundInDag map.Witness)))
        go false false false = lists-alike

    pub entries-alike : (presence : ℕ) → Alike (over_entries c required presence p es ts) (over_entries c required presence p es' ts')
    entries-alike presence =
        rw (sym (mismatch_perm presence p d g), sym (uncovered_perm (prev_id p) d g))
        (go (mismatch presence p es ts) (uncovered (prev_id p) es ts))
      where
        go : (m u : Bool) →
            Alike
            (pick m (Number 8) (pick u (Number 9) (Given (validate c required presence p es ts))))
            (pick m (Number 8) (pick u (Number 9) (Given (validate c required presence p es' ts'))))
        go true u = refl
        go false true = refl
        go false false = validate-alike presence
