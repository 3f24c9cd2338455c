-- Laws of the tests on the way to a decision: the numbers in their order, whether there is room, and the previous point's id.
use Rattle.std.specs.Prelude.{Option, None, Some, is_some}
use Prim.Native.Nat.{ℕ, ◌+◌, ◌-◌, ◌≤◌}
use native.Mathlib.Omega.{arith}
use mathlib.Core.Path.{◌≡◌, refl, ap, sym, ◌∙◌, subst}
use mathlib.Core.Bool.{Bool, true, false, not, ◌&&◌, ◌||◌}
use mathlib.Core.List.{List}
use lib.ListN.{length}
use lib.Dec.{leb, ltb}
use borrow.Author.Tests.{ltb-false}
use Rattle.base.specs.Base.{pick}
use Rattle.point.specs.Point.{PointId, PointInfo, prev_digest, prev_id, in_domain}
use Rattle.point.specs.Reading.{read_point}
use Rattle.schedule.specs.Settings.{Settings}
use Rattle.schedule.specs.Schedule.{Schedule, read_schedule}
use Rattle.rules.specs.Judge.{Input, Tested, refused, admitted, tested_with}
use Rattle.books.specs.Kept.{find_kept, Opened}
use Rattle.books.specs.Offer.{Offer, used, is_full, tested_room, input_tested, offer_tested, offer_tested_in}

-- ---- the previous point

module _ (p : PointInfo) where
  pub prev-none : prev_digest p ≡ None → prev_id p ≡ None
  unfolding prev_id
  prev-none h = rw h

  pub prev-some : (d round : ℕ) → prev_digest p ≡ Some d → round ≡ p.id.round - 1 →
      prev_id p ≡ Some (record { round = round; digest = d; author = p.id.author })
  unfolding prev_id
  prev-some d round h e = rw (h, e)

-- ---- the numbers 2 to 5 in their order

module _ (c : Settings) (o : Offer) where
  pub no_schedule : read_schedule o.schedule ≡ None → input_tested c o ≡ refused 2
  no_schedule h = rw h

  module _ (s : Schedule) (h : read_schedule o.schedule ≡ Some s) where
    pub no_point_lem : read_point o.bytes ≡ None → input_tested c o ≡ refused 3
    no_point_lem g = rw (h, g)

    pub with_point : (p : PointInfo) → read_point o.bytes ≡ Some p → input_tested c o ≡ tested_with (Some c) (Some s) (Some p) (leb o.leader 1) (length o.peers)
    with_point p g = rw (h, g)

abbrev Roomy : ℕ → Tested → Type 0
Roomy size (refused n) = Unit
Roomy size (admitted i) = 8160 ≤ size

-- an input that passed has room for peers
pub passed_buffer : (c : Settings) (o : Offer) (i : Input) → input_tested c o ≡ admitted i → 8160 ≤ length o.peers
passed_buffer c o i h = subst (Roomy (length o.peers)) h (all (read_schedule o.schedule) (read_point o.bytes))
  where
    all : (s : Option Schedule) (p : Option PointInfo) → Roomy (length o.peers) (tested_with (Some c) s p (leb o.leader 1) (length o.peers))
    all None p = tt
    all (Some s) None = tt
    all (Some s) (Some p) = go (not (in_domain p && leb o.leader 1)) (ltb (length o.peers) 8160) refl
      where
        go : (x y : Bool) → ltb (length o.peers) 8160 ≡ y → Roomy (length o.peers) (pick x (refused 4) (pick y (refused 5) (admitted (record { settings = c; schedule = s; point = p }))))
        go true y e = tt
        go false true e = tt
        go false false e = ltb-false (length o.peers) 8160 e

-- ---- 11 and 12

module _ (z : Opened) (c : Settings) (e : c ≡ z.settings) (o : Offer) where
  pub input-refused : (n : ℕ) → input_tested c o ≡ refused n → offer_tested z o ≡ refused n
  unfolding offer_tested_in
  input-refused n h = ap (λ (x : Settings). tested_room z o.bytes (input_tested x o)) (sym e) ∙ rw h

  pub after-input : (i : Input) → input_tested c o ≡ admitted i → offer_tested z o ≡ tested_room z o.bytes (admitted i)
  unfolding offer_tested_in
  after-input i h = ap (λ (x : Settings). tested_room z o.bytes (input_tested x o)) (sym e) ∙ ap (tested_room z o.bytes) h

module _ (z : Opened) (bytes : List ℕ) (i : Input) (id : PointId) (e : i.point.id ≡ id) where
  pub is-there : is_some (find_kept z.book id) ≡ true → tested_room z bytes (admitted i) ≡ refused 11
  is-there f = rw (e, f)

  module _ (f : find_kept z.book id ≡ None) where
    pub no_room : is_full z bytes ≡ true → tested_room z bytes (admitted i) ≡ refused 12
    no_room r = rw (e, f, r)

    pub all-taken : is_full z bytes ≡ false → tested_room z bytes (admitted i) ≡ admitted i
    all-taken r = rw (e, f, r)

-- of a book that was read, n entries that end at a place
pub full_is : (z : Opened) (bytes : List ℕ) (len n end : ℕ) → z.length ≡ len → n ≡ length z.book → end ≡ 47 + used z.book →
    (leb 4096 n || ltb (len - end) (length bytes + 108)) ≡ is_full z bytes
unfolding is_full
full_is z bytes len n end l h e =
    let f : len - end ≡ z.length - 47 - used z.book = omega arith in
    rw (h, f)
