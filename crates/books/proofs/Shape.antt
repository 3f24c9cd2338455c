-- The shape of a book: each entry's point is the one that its record says, it lies in the domain and its verdict fits tag 33, no id
-- stands twice, and at most 4,096 entries stand there. Marks keep it, and so does a new entry. Over such a book demand 2 gives a
-- verdict, never 7, 8 or 9.
use Rattle.std.specs.Prelude.{None, Some, is_some}
use Prim.Native.Nat.{ℕ, suc, ◌^◌, ◌≤◌, ◌<◌}
use native.Mathlib.Omega.{arith}
use mathlib.Core.Path.{◌≡◌, refl, ap, sym, ◌∙◌, subst}
use mathlib.Core.Logic.{◌⊎◌, inl, inr}
use mathlib.Core.Bool.{Bool, true, false, ◌&&◌}
use mathlib.Core.List.Memᴰ
use mathlib.Core.List.{List, [], ◌∷◌, ◌++◌, Memᴰ}
use lib.ListN.{length, length-append}
use lib.Dec.{leb}
use borrow.Author.Tests.{leb-true}
use Rattle.base.proofs.Bool.{and_left, and_right}
use Rattle.parts.specs.Bytes.{Bytes}
use Rattle.point.specs.Point.{PointId, PointInfo, through_peer, prev_id, in_domain}
use Rattle.point.specs.Reading.{read_point}
use Rattle.point.proofs.Laws.{readable}
use Rattle.schedule.specs.Settings.{Settings}
use Rattle.reasons.specs.Invalid.{InvalidDependency, dag_round}
use Rattle.rules.specs.Validate.{validate}
use Rattle.rules.specs.List.{is_listable}
use Rattle.rules.specs.Mismatch.{entries_in}
use Rattle.rules.specs.Judge.{Given}
use Rattle.books.specs.Kept.{Status, Valid, TransInvalid, Invalid, IllFormed, Kept, Book, find_kept, is_twice, mark_one, mark}
use Rattle.books.specs.Lists.{dag_point, kept_entry, direct_list, indirect_list}
use Rattle.books.specs.Offer.{is_state_ok, answer_over}
use Rattle.books.specs.Layout.{is_keepable}
use Rattle.rules.proofs.All.{All}
use Rattle.rules.proofs.Roots.{Rooted}
use Rattle.point.proofs.Fits.{IdFits, PointFits, read-fits}
use Rattle.books.proofs.Clear.{once_distinct, each_direct, each_indirect, Covered, clear}
use Rattle.books.proofs.Roots.{Root, RootedEntry}
use Rattle.books.proofs.Find.{once_more, marked-found, mark-member}

-- a root cause fits "root id, root's reason, map and peer it came through"
pub record RootFits (d : InvalidDependency) : Type 0 where
  pub to : IdFits d.to
  pub reason : d.reason < 256
  pub through : through_peer d.through < 256 ^ 32

abbrev pub StatusFits : Status → Type 0
StatusFits Valid = Unit
StatusFits (TransInvalid d) = RootFits d
StatusFits (Invalid n) = n < 256
StatusFits (IllFormed n) = n < 256

-- what the book may keep of a point
pub record StatusShape (p : PointInfo) (x : Status) : Type 0 where
  pub keepable : is_keepable p x ≡ true
  pub state : is_state_ok (dag_point p x) ≡ true
  pub fits : StatusFits x

pub record KeptShape (k : Kept) : Type 0 where
  pub bytes : Bytes k.bytes
  pub read : read_point k.bytes ≡ Some k.point
  pub domain : in_domain k.point ≡ true
  pub status : StatusShape k.point k.status

abbrev pub AllShaped : Book → Type 0
AllShaped b = (k : Kept) → Memᴰ k b → KeptShape k

pub record Shape (b : Book) : Type 0 where
  pub entries : AllShaped b
  pub once : is_twice b ≡ false
  pub few : length b ≤ 4096

pub empty-shape : Shape []
unfolding is_twice
empty-shape = record { entries = λ k m. absurd (Memᴰ.not-nil m); once = refl; few = omega arith }

-- ---- rounds of the domain

module _ (p : PointInfo) (h : in_domain p ≡ true) where
  pub domain-least : 4 ≤ p.id.round
  unfolding in_domain
  domain-least = leb-true 4 p.id.round (and_left (leb 4 p.id.round) _ h)

  pub domain-greatest : p.id.round ≤ 2147483647
  unfolding in_domain
  domain-greatest = leb-true p.id.round 2147483647 (and_left (leb p.id.round 2147483647) _ (and_right (leb 4 p.id.round) _ h))

-- ---- marks keep the shape

module _ (covers : PointId → Bool) where
  mark-one : (k : Kept) → KeptShape k → KeptShape (mark_one covers k)
  unfolding mark_one
  mark-one k h = record { bytes = h.bytes; read = h.read; domain = h.domain; status = h.status }

  mark-entries : (b : Book) → AllShaped b → AllShaped (mark covers b)
  mark-entries b f k m = let x = mark-member covers b k m in subst KeptShape (sym x.1.1) (mark-one x.0 (f x.0 x.1.0))

  mark-twice : (b : Book) → is_twice (mark covers b) ≡ is_twice b
  unfolding mark mark_one is_twice
  mark-twice [] = refl
  mark-twice (k ∷ b) = rw (marked-found covers b k.point.id, mark-twice b)

  pub mark-length : (b : Book) → length (mark covers b) ≡ length b
  unfolding mark
  mark-length [] = refl
  mark-length (k ∷ b) = ap suc (mark-length b)

  pub mark-shape : (b : Book) → Shape b → Shape (mark covers b)
  mark-shape b h = record { entries = mark-entries b h.entries; once = mark-twice b ∙ h.once; few = rw (mark-length b) h.few }

-- ---- a new entry keeps the shape

pub append-shape : (b : Book) (k : Kept) → Shape b → KeptShape k → find_kept b k.point.id ≡ None → length b < 4096 → Shape (b ++ (k ∷ []))
append-shape b k h s new few = record {
  entries = λ x m. either x (Memᴰ.append_cases b m);
  once = once_more b k h.once new;
  few = rw (length-append b (k ∷ [])) (omega arith);
}
  where
    either : (x : Kept) → Memᴰ x b ⊎ Memᴰ x (k ∷ []) → KeptShape x
    either x (inl m) = h.entries x m
    either x (inr m) = subst KeptShape (sym (Memᴰ.eq_of_singleton m)) s

-- ---- what its entries give judging

kept-rooted : (k : Kept) → KeptShape k → Rooted Root (dag_point k.point k.status)
kept-rooted k h = go k.status h.status
  where
    f : PointFits k.point
    f = read-fits k.bytes k.point h.bytes h.read

    root : (i : PointId) (n : ℕ) → IdFits i → (leb 4 i.round && (leb i.round 2147483647 && is_some (dag_round n))) ≡ true → Root i n
    root i n g e =
        let r = and_right (leb 4 i.round) _ e in
        record {
          id = g;
          least = leb-true 4 i.round (and_left (leb 4 i.round) _ e);
          greatest = leb-true i.round 2147483647 (and_left (leb i.round 2147483647) _ r);
          reason = and_right (leb i.round 2147483647) _ r;
        }

    go : (x : Status) → StatusShape k.point x → Rooted Root (dag_point k.point x)
    go Valid s = tt
    go (TransInvalid d) s = (f.id.author, root d.to d.reason s.fits.to (and_right (is_listable k.point) _ s.state))
    go (Invalid n) s = (
      f.id.author,
      record {
        id = f.id;
        least = domain-least k.point h.domain;
        greatest = domain-greatest k.point h.domain;
        reason = and_right (is_listable k.point) _ s.state;
      },
    )
    go (IllFormed n) s = tt

module _ (b : Book) (p : PointInfo) (h : Shape b) where
  pub direct-rooted : All RootedEntry (direct_list b p)
  direct-rooted = each_direct RootedEntry b p (λ i. tt) (λ k m. unfold kept_entry in kept-rooted k (h.entries k m))

  pub indirect-rooted : All RootedEntry (entries_in (indirect_list b p))
  indirect-rooted = each_indirect RootedEntry b p (λ i. tt) (λ k m. unfold kept_entry in kept-rooted k (h.entries k m))

-- ---- over the lists that such a book builds, demand 2 gives a verdict

module _ (c : Settings) (required : Bool) (bytes : List ℕ) (p : PointInfo) (b : Book) (h : Shape b) (v : Covered (prev_id p) b)
    (r : read_point bytes ≡ Some p) (d : in_domain p ≡ true) where
  pub whole : answer_over c required 3 p (direct_list b p) (indirect_list b p) ≡ Given (validate c required 3 p (direct_list b p) (indirect_list b p))
  whole =
      let w = readable bytes p r in
      clear c required p b (λ k m. (h.entries k m).status.state) (once_distinct b h.once) v w.includes.rise w.witness.rise (omega (arith, domain-least p d))
