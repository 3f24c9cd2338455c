-- A book only grows: marks and new entries take no entry's point or status away.
use Rattle.std.specs.Prelude.{Some}
use Prim.Native.Nat.{◌-◌, ◌≤◌}
use mathlib.Core.Path.{◌≡◌, refl, sym, ap, ◌∙◌, subst}
use mathlib.Core.Logic.{◌⊎◌, inl, inr}
use mathlib.Core.Bool.{Bool}
use mathlib.Core.List.Memᴰ
use mathlib.Core.List.{◌++◌, map, Memᴰ}
use Rattle.point.specs.Point.{PointId, PointInfo, source, target, top}
use Rattle.point.specs.declared.data.AnchorStageRole.{AnchorStageRole}
use Rattle.schedule.specs.Settings.{Settings}
use Rattle.rules.specs.Mismatch.{pair_id}
use Rattle.books.specs.Kept.{Status, Kept, Book, find_kept}
use Rattle.books.specs.AnyMarks.{remark}
use Rattle.books.proofs.Find.{find-front, remarked_kept, remark-member}
use Rattle.books.specs.Following.{IsFormed}
use Rattle.books.proofs.Following.{Inherited, HeldById, Linked, Stands, AllStand}

-- ---- what an id finds, it finds in the grown book

-- an entry of the same point and status
record Still (b : Book) (i : PointId) (k : Kept) : Type 0 where
  pub entry : Kept
  pub kept : find_kept b i ≡ Some entry
  pub point : entry.point ≡ k.point
  pub status : entry.status ≡ k.status

abbrev Grows : Book → Book → Type 0
Grows b d = (i : PointId) (k : Kept) → find_kept b i ≡ Some k → Still d i k

grows-append : (b l : Book) → Grows b (b ++ l)
grows-append b l i k h = record { entry = k; kept = find-front b l i k h; point = refl; status = refl }

grows_remarked : (marks : Kept → Bool) (b : Book) → Grows b (map (remark marks) b)
grows_remarked marks b i k h = record { entry = remark marks k; kept = remarked_kept marks b i k h; point = refl; status = refl }

-- ---- what holds of an entry holds in the grown book

module _ (c : Settings) (b d : Book) (grow : Grows b d) where
  held-grows : (p : PointInfo) (i : PointId) → HeldById b p i → HeldById d p i
  held-grows p i h =
      let s : Still d i h.entry = grow i h.entry h.kept in
      record {
        entry = s.entry;
        kept = s.kept;
        formed = subst IsFormed (sym s.status) h.formed;
        topped = λ g. subst (λ (q : PointInfo). (top g q).round ≤ (target g p).round) (sym s.point) (h.topped g);
      }

  linked-grows : (p : PointInfo) (g : AnchorStageRole) → Linked b p g → Linked d p g
  linked-grows p g h =
      let s : Still d (source g p) h.entry = grow (source g p) h.entry h.kept in
      record {
        entry = s.entry;
        kept = s.kept;
        formed = subst IsFormed (sym s.status) h.formed;
        leads = ap (top g) s.point ∙ h.leads;
        inherited = subst (Inherited g p) (sym s.point) h.inherited;
      }

  stands-grows : (p : PointInfo) (x : Status) → Stands c b p x → Stands c d p x
  stands-grows p x h =
      record {
        floor = h.floor;
        genesis = h.genesis;
        includes = λ u a q m. held-grows p (pair_id (p.id.round - 1) q) (h.includes u a q m);
        witness = λ u a q m. held-grows p (pair_id (p.id.round - 2) q) (h.witness u a q m);
        linked = λ u a g. linked-grows p g (h.linked u a g);
      }

-- ---- and of every entry

-- what is said of points and statuses is said of those of a book with other marks
all_remarked : (P : PointInfo → Status → Type 0) (marks : Kept → Bool) (b : Book) → ((k : Kept) → Memᴰ k b → P k.point k.status) →
    (k : Kept) → Memᴰ k (map (remark marks) b) → P k.point k.status
all_remarked P marks b f k m =
    let x = remark-member marks b k m in subst (λ (y : Kept). P y.point y.status) (sym x.1.1) (f x.0 x.1.0)

module _ (c : Settings) where
  pub all_stand_remarked : (marks : Kept → Bool) (b : Book) → AllStand c b → AllStand c (map (remark marks) b)
  all_stand_remarked marks b all =
      all_remarked (Stands c (map (remark marks) b)) marks b
      (λ k m. stands-grows c b (map (remark marks) b) (grows_remarked marks b) k.point k.status (all k m))

  pub all_stand_append : (b l : Book) → AllStand c b → ((k : Kept) → Memᴰ k l → Stands c b k.point k.status) → AllStand c (b ++ l)
  all_stand_append b l all new k m = go (Memᴰ.append_cases b m)
    where
      grown : Stands c b k.point k.status → Stands c (b ++ l) k.point k.status
      grown = stands-grows c b (b ++ l) (grows-append b l) k.point k.status

      go : Memᴰ k b ⊎ Memᴰ k l → Stands c (b ++ l) k.point k.status
      go (inl n) = grown (all k n)
      go (inr n) = grown (new k n)
