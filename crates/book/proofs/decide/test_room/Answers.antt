-- `test_room` meets its contract: what the index and the room tell, and each number by its law.
use Rattle.std.specs.Prelude.{Option, None, Some, is_some}
use Prim.Native.Nat.{ℕ}
use mathlib.Core.Path.{◌≡◌, sym, ◌∙◌}
use mathlib.Core.Bool.{true, false}
use mathlib.Core.List.{List}
use Rattle.base.proofs.Impossible.{impossible}
use Rattle.point.specs.Point.{PointId}
use Rattle.point.specs.Code.{point_id_of}
use Rattle.schedule.specs.Settings.{Settings}
use Rattle.books.specs.Kept.{Book, find_kept}
use Rattle.books.specs.Offer.{is_full}
use Rattle.id_index.specs.Code.{FoundAt}
use Rattle.id_index.specs.declared.Index as code-index
use Rattle.book_read.specs.Code.{Holds, IsRead}
use Rattle.book_read.proofs.Laws.{found-kept, absent-kept}
use Rattle.book.proofs.Tests.{is-there, no_room, all-taken, full_is}
use Rattle.book.proofs.decide.test_room.Goals as goal
use Rattle.book.proofs.decide.test_room.Goals.{Else-is_some, After-is_full}

module _ (s : List ℕ) (x : code-index.Index) (b : Book) (id : PointId) (h : Holds s b x) where
  there : (r : Option ℕ) → FoundAt s x id r → is_some r ≡ true → is_some (find_kept b id) ≡ true
  there (Some j) f e = rw (found-kept h _ _ f).found
  there None f e = impossible (cc)

  absent : (r : Option ℕ) → FoundAt s x id r → is_some r ≡ false → find_kept b id ≡ None
  absent (Some j) f e = impossible (cc)
  absent None f e = absent-kept h _ f

is-new : (c : Else-is_some) (s : Settings) (h : IsRead c.args.book.now s c.args.end c.args.index.now) → find_kept h.opened.book (point_id_of c.args.id) ≡ None
is-new c s h = absent _ _ _ _ h.holds _ c.find.ensures (sym c.is_some.ensures ∙ c.if-is_some.false)

is-full-or-not : (c : After-is_full) (s : Settings) (h : IsRead c.args.book.now s c.args.end c.args.index.now) → c.is_full.result ≡ is_full h.opened c.args.rec.now
is-full-or-not c s h = c.is_full.ensures ∙ full_is h.opened _ _ _ _ h.whole (c.count.ensures ∙ h.holds.placed.count) h.ends

pub returns-then-is_some : goal.returns-then-is_some
returns-then-is_some c = λ s h i e. is-there h.opened _ i _ e (there _ _ _ _ h.holds _ c.find.ensures (sym c.is_some.ensures ∙ c.if-is_some.true))

pub returns-then-is_full : goal.returns-then-is_full
returns-then-is_full c = λ s h i e.
    let at = goal.at.returns-then-is_full c in
    no_room h.opened _ i _ e (is-new at.Else-is_some s h) (sym (is-full-or-not at.After-is_full s h) ∙ c.if-is_full.true)

pub returns : goal.returns
returns c = λ s h i e.
    let at = goal.at.returns c in
    all-taken h.opened _ i _ e (is-new at.Else-is_some s h) (sym (is-full-or-not at.After-is_full s h) ∙ c.if-is_full.false)
