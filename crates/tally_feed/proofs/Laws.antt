-- Laws of feeds: how far their parts reach, and that a part of a feed that is long enough gives what the whole gives.
use Rattle.std.specs.Prelude.{unwrap_or, Option, None, Some, Ok, Err}
use Prim.Native.Nat.{ℕ, zero, suc, ◌+◌, ◌≤◌, ◌<◌}
use native.Mathlib.Omega.{arith}
use native.Mathlib.Numerals.{add-one}
use mathlib.Core.Path.{◌≡◌, refl, ap, sym, ◌∙◌}
use mathlib.Core.Bool.{Bool, true, false}
use mathlib.Core.List.{List, [], ◌∷◌}
use lib.ListN.{length, get_or, take, drop, length-drop}
use lib.Dec.{eqb}
use borrow.Author.Tests.{ne_eqb}
use Rattle.base.specs.Base.{pick}
use Rattle.base.proofs.Option.{picked}
use Rattle.parts.specs.Limits.{settings_length}
use Rattle.record.specs.declared.Row.{Row}
use Rattle.record.specs.Record.{next_at, field_row, field_ok, end_from, record_end}
use Rattle.record.proofs.Laws.{next-within, fitting, end_after, end-most, end-within}
use Rattle.point.specs.Point.{PointInfo}
use Rattle.schedule.specs.Settings.{Settings, read_settings}
use Rattle.schedule.specs.Schedule.{Schedule, read_schedule}
use Rattle.reasons.specs.Refusal.{refusal_number}
use Rattle.reasons.specs.declared.refusal.Refusal.{Refusal}
use Rattle.reasons.specs.declared.refusal.Refusal.TheVariants as refusal
use Rattle.rules.specs.Judge.{JudgeAnswer}
use Rattle.books.specs.Offer.{Result}
use Rattle.books.specs.Calls.{open_number, opened_as, open_bytes}
use Rattle.tally_line.specs.declared.Line.{Line}
use Rattle.tally_feed.specs.declared.next.Next as code-next
use Rattle.tally_feed.specs.declared.next.Next.TheVariants as case-next
use Rattle.tally_feed.specs.Tally.{line_of, last_known_end, schedule_end_from, schedule_end, schedule_to, front_of, begin, record_size, Step, over, offered_as, offered, step}
use Rattle.tally_feed.specs.Code.{next_of, book_after, peers_after, Within}

-- ---- where fields end

abbrev pub span : Row
span = field_row 34 4 8164

abbrev pub last_known : Row
last_known = field_row 35 4 4

end-inside : (rs : List Row) (s : List ℕ) (at n : ℕ) → at ≤ length s → end_from rs s at ≡ Some n → n ≤ length s
unfolding end_from
end-inside [] s at n b h = let e : at ≡ n = cc in omega arith
end-inside (r ∷ rs) s at n b h =
    let p = picked (field_ok r s at) (end_from rs s (next_at s at)) n h in
    end-inside rs s (next_at s at) n (next-within s at) p.1

-- ---- where a schedule ends

-- what was picked was picked for one of two reasons
pub by-test : {X : Type 0} (t : Bool) (x y : Option ℕ) (n : ℕ) → pick t x y ≡ Some n → (t ≡ true → x ≡ Some n → X) → (t ≡ false → y ≡ Some n → X) → X
by-test true x y n h f g = f refl h
by-test false x y n h f g = g refl h

pub schedule-after : (k : ℕ) (s : List ℕ) (at n : ℕ) → schedule_end_from k s at ≡ Some n → at ≤ n
unfolding schedule_end_from
schedule-after zero s at n h = end_after (last_known ∷ []) s at n h
schedule-after (suc k) s at n h =
    by-test (field_ok span s at) (schedule_end_from k s (next_at s at)) (last_known_end s at) n h
    (λ t x. omega (arith, (fitting span s at t).next, schedule-after k s (next_at s at) n x))
    (λ t y. end_after (last_known ∷ []) s at n y)

-- the most bytes that n spans and the last known round take
abbrev most_spans : ℕ → ℕ
most_spans zero = 7
most_spans (suc k) = 8167 + most_spans k

from-most : (k : ℕ) (s : List ℕ) (at n : ℕ) → schedule_end_from k s at ≡ Some n → n ≤ at + most_spans k
unfolding schedule_end_from
from-most zero s at n h = end-most (last_known ∷ []) s at n h
from-most (suc k) s at n h =
    by-test (field_ok span s at) (schedule_end_from k s (next_at s at)) (last_known_end s at) n h
    (λ t x. let f = fitting span s at t in omega (arith, f.next, f.greatest, from-most k s (next_at s at) n x))
    (λ t y. omega (arith, end-most (last_known ∷ []) s at n y))

from-inside : (k : ℕ) (s : List ℕ) (at n : ℕ) → at ≤ length s → schedule_end_from k s at ≡ Some n → n ≤ length s
unfolding schedule_end_from
from-inside zero s at n b h = end-inside (last_known ∷ []) s at n b h
from-inside (suc k) s at n b h =
    by-test (field_ok span s at) (schedule_end_from k s (next_at s at)) (last_known_end s at) n h
    (λ t x. from-inside k s (next_at s at) n (next-within s at) x)
    (λ t y. end-inside (last_known ∷ []) s at n b y)

module _ (s : List ℕ) (n : ℕ) (h : schedule_end s ≡ Some n) where
  pub schedule-most : n ≤ 32675
  unfolding schedule_end
  schedule-most = from-most 4 s 0 n h

  pub schedule-inside : n ≤ length s
  unfolding schedule_end
  schedule-inside = from-inside 4 s 0 n (omega arith) h

-- the schedule ends where at most n spans from a place on, and the last known round, end
pub schedule-start : (s : List ℕ) → schedule_end s ≡ schedule_end_from 4 s 0
unfolding schedule_end
schedule-start s = refl

pub from_step : (n m : ℕ) (s : List ℕ) (at : ℕ) → n ≡ suc m →
    schedule_end_from n s at ≡ pick (field_ok span s at) (schedule_end_from m s (next_at s at)) (last_known_end s at)
unfolding schedule_end_from
from_step n m s at e = ap (λ (k : ℕ). schedule_end_from k s at) e

pub from-none : (s : List ℕ) (at : ℕ) → schedule_end_from 0 s at ≡ last_known_end s at
unfolding schedule_end_from
from-none s at = refl

-- ---- the front of a feed

unlike : (n m : ℕ) → n < m → eqb n m ≡ false
unlike n m h = ne_eqb n m (λ e. omega arith)

-- no settings are shorter than 47 bytes
pub short-settings : (s : List ℕ) → length s < settings_length → read_settings s ≡ None
unfolding read_settings
short-settings s h = simp (unlike (length s) settings_length h)

module _ (feed : List ℕ) where
  pub front_unset : read_settings (take settings_length feed) ≡ None → front_of feed ≡ Err 1
  unfolding front_of
  front_unset e = rw e

  module _ (c : Settings) (z : read_settings (take settings_length feed) ≡ Some c) where
    front-set : front_of feed ≡ schedule_to (drop settings_length feed) (schedule_end (drop settings_length feed))
    unfolding front_of
    front-set = rw z

    pub front_endless : schedule_end (drop settings_length feed) ≡ None → front_of feed ≡ Err 2
    front_endless e = front-set ∙ rw e

    module _ (n : ℕ) (e : schedule_end (drop settings_length feed) ≡ Some n) where
      pub front-unread : read_schedule (take n (drop settings_length feed)) ≡ None → front_of feed ≡ Err 2
      front-unread u = front-set ∙ rw (e, u)

      pub front_read : (d : Schedule) → read_schedule (take n (drop settings_length feed)) ≡ Some d → front_of feed ≡ Ok (settings_length + n)
      front_read d r = front-set ∙ rw (e, r)

  pub begins : (n : ℕ) → schedule_end (drop settings_length feed) ≡ Some n → settings_length ≤ length feed → (settings_length ≤ settings_length + n) × (settings_length + n ≤ length feed) × (settings_length + n ≤ 32722)
  begins n e h =
      let i = schedule-inside (drop settings_length feed) n e in
      (omega arith, omega (arith, length-drop settings_length feed), omega (arith, schedule-most (drop settings_length feed) n e))

-- ---- opening the book

module _ (len : ℕ) (feed : List ℕ) where
  pub begin-unread : (n : ℕ) → front_of feed ≡ Err n → begin len feed ≡ Err n
  unfolding begin
  begin-unread n e = rw e

  module _ (n : ℕ) (e : front_of feed ≡ Ok n) where
    pub begin-refused : (k : ℕ) → open_number (take settings_length feed) len ≡ k → (k ≡ 0 → ⊥) → begin len feed ≡ Err k
    unfolding begin
    begin-refused zero f d = absurd (d refl)
    begin-refused (suc k) f d = rw (e, f)

    pub begin_open : open_number (take settings_length feed) len ≡ 0 → begin len feed ≡ Ok n
    unfolding begin
    begin_open f = rw (e, f)

-- a refusal's number is not 0
pub refused-some : (r : Refusal) → refusal_number r ≡ 0 → ⊥
refused-some refusal.Settings e = omega (arith, e)
refused-some refusal.Schedule e = omega (arith, e)
refused-some refusal.Record e = omega (arith, e)
refused-some refusal.Domain e = omega (arith, e)
refused-some refusal.Short e = omega (arith, e)
refused-some refusal.Horizon e = omega (arith, e)
refused-some refusal.Entries e = omega (arith, e)
refused-some refusal.Mismatch e = omega (arith, e)
refused-some refusal.Uncovered e = omega (arith, e)
refused-some refusal.Book e = omega (arith, e)
refused-some refusal.Kept e = omega (arith, e)
refused-some refusal.Full e = omega (arith, e)
refused-some refusal.Twice e = omega (arith, e)
refused-some refusal.Output e = omega (arith, e)
refused-some refusal.Trail e = omega (arith, e)
refused-some refusal.Forced e = omega (arith, e)

-- a book that is not opened is as it was
pub unopened : (settings s : List ℕ) → (open_number settings (length s) ≡ 0 → ⊥) → open_bytes settings s ≡ s
unfolding open_bytes
unopened settings s d = go (open_number settings (length s)) d
  where
    go : (n : ℕ) → (n ≡ 0 → ⊥) → opened_as settings s n ≡ s
    go zero d = absurd (d refl)
    go (suc n) d = refl

-- ---- the next point

size_in : (s : List ℕ) (o : Option ℕ) → record_end s ≡ o → unwrap_or o (length s) ≤ length s
size_in s None e = omega arith
size_in s (Some n) e = end-within s n e

pub size-inside : (s : List ℕ) → record_size s ≤ length s
unfolding record_size
size-inside s = size_in s (record_end s) refl

pub size_of : (s : List ℕ) (o : Option ℕ) → record_end s ≡ o → record_size s ≡ unwrap_or o (length s)
unfolding record_size
size_of s o e = rw e

pub step-over : (schedule book peers : List ℕ) (place : ℕ) (feed : List ℕ) → length feed ≡ 0 → step schedule book peers place feed ≡ over
unfolding step
step-over schedule book peers place [] h = refl
step-over schedule book peers place (x ∷ s) h = absurd (omega arith)

pub step-offer : (schedule book peers : List ℕ) (place : ℕ) (feed : List ℕ) (n : ℕ) → (length feed ≡ 0 → ⊥) → n ≡ record_size (drop 1 feed) →
    step schedule book peers place feed ≡ offered schedule book peers place (get_or feed 0 0) (suc n) (take n (drop 1 feed))
unfolding step
step-offer schedule book peers place [] n h e = absurd (h refl)
step-offer schedule book peers place (x ∷ s) n h e = ap (λ (k : ℕ). offered schedule book peers place x (suc k) (take k s)) (sym e)

-- what a step gives, as its contract says it
abbrev pub Gives : List ℕ → List ℕ → ℕ → Step → code-next.Next ℕ → List ℕ → List ℕ → Type 0
Gives book peers len t r book' peers' = (r ≡ next_of t) × ((book' ≡ book_after book t) × ((peers' ≡ peers_after peers t) × Within len r))

module _ (book peers : List ℕ) (len : ℕ) where
  pub gives-over : (t : Step) → t ≡ over → Gives book peers len t case-next.Over book peers
  gives-over t e = rw e (refl, (refl, (refl, tt)))

  module _ (t : Step) (place n : ℕ) (r : Result (List ℕ)) (a : JudgeAnswer) (b p : List ℕ) (f : a ≡ r.answer) (g : b ≡ r.after) (h : p ≡ r.peers) where
    pub gives-last : (l : Line) → t ≡ offered_as place (suc n) r None → l ≡ line_of place 0 a → Gives book peers len t (case-next.Last l) b p
    gives-last l e d = rw (e, d, f) (refl, (g, (h, tt)))

    pub gives-point : (i : PointInfo) (l : Line) → t ≡ offered_as place (suc n) r (Some i) → l ≡ line_of place i.id.round a → n < len → Gives book peers len t (case-next.Point l (n + 1)) b p
    gives-point i l e d k = rw (e, d, f, add-one n) (refl, (g, (h, omega arith)))
