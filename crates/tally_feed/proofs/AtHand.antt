-- With enough of a feed at hand, the next step gives what it gives with all of the feed at hand: so a program may hold a part of its
-- feed only. And the lines of a feed are those of its steps, one after another.
use Rattle.std.specs.Prelude.{Option, None, Some, unwrap_or}
use Prim.Native.Nat.{ℕ, zero, suc, ◌+◌, ◌-◌, ◌≤◌}
use native.Mathlib.Omega.{arith}
use native.Mathlib.Decide.{dec_lt}
use mathlib.Core.Path.{◌≡◌, refl, ap, sym, ◌∙◌}
use Rattle.base.proofs.Bool.{never}
use mathlib.Core.Bool.{Bool, true, false}
use mathlib.Core.List.{List, [], ◌∷◌}
use lib.ListN.{length, take, drop, length-drop}
use lib.Seq.{take_all, take-length, take-nil, drop-nil, take-take, length-take-le}
use Rattle.base.proofs.Option.{picked}
use Rattle.parts.specs.Limits.{settings_length}
use Rattle.record.specs.Record.{length_at, next_at, field_ok, end_from, record_end, well_shaped}
use Rattle.record.proofs.Laws.{fitting, end_after, shaped-end, Agree, front_agrees, field-same, next-same, ends_same, end_same, end-within, record_most}
use Rattle.point.specs.Point.{PointInfo}
use Rattle.point.specs.Reading.{read_point, read_point_in}
use Rattle.schedule.specs.Settings.{Settings, read_settings}
use Rattle.schedule.specs.Schedule.{Schedule, read_schedule}
use Rattle.books.specs.Kept.{Opened}
use Rattle.books.specs.Offer.{Offer, Result, offer_tested_in, offer_with, offer, offer_in}
use Rattle.books.specs.Layout.{read_book}
use Rattle.books.specs.Calls.{open_number, in_bytes, offer_to, offer_bytes}
use Rattle.tally_feed.specs.Tally.{Front, last_known_end, schedule_end_from, schedule_end, schedule_to, front_with, front_of, opened_with, begin, record_size, offered_as, offered, step, Tally, step_then, points_from, points}
use Rattle.tally_feed.proofs.Laws.{span, last_known, by-test, schedule-after, schedule-most, schedule-inside, size_of}

-- ---- an end that lies in a part of a list is the whole list's

same_option : (x y : Option ℕ) → ((n : ℕ) → x ≡ Some n → y ≡ Some n) → ((n : ℕ) → y ≡ Some n → x ≡ Some n) → x ≡ y
same_option None None f g = refl
same_option None (Some n) f g = g n refl
same_option (Some n) y f g = sym (f n refl)

part_agrees : (n : ℕ) (s : List ℕ) → n ≤ length s → Agree n (take n s) s
part_agrees n s h = record { same = take-take n n s (omega arith); in_left = omega (arith, length-take-le n s h); in_right = h }

module _ (end : List ℕ → Option ℕ) (most : ℕ)
    (carries : (e : ℕ) (s t : List ℕ) → Agree e s t → (k : ℕ) → end s ≡ Some k → k ≤ e → end t ≡ Some k)
    (limit : (s : List ℕ) (k : ℕ) → end s ≡ Some k → k ≤ most)
    (within : (s : List ℕ) (k : ℕ) → end s ≡ Some k → k ≤ length s)
  where
    end_part : (n : ℕ) (s : List ℕ) → most ≤ n → end (take n s) ≡ end s
    end_part n s h = elim (dec_lt (length s) n) [
      | yes g ↦ ap end (take_all n s (omega arith))
      | no g ↦ same_option (end (take n s)) (end s)
          (λ k e. carries n (take n s) s (part_agrees n s (omega arith)) k e (omega (arith, within (take n s) k e, length-take-le n s (omega arith))))
          (λ k e. carries n s (take n s) (front_agrees n s (omega arith)) k e (omega (arith, limit s k e)))
    ]

-- ---- records

record_part : (n : ℕ) (s : List ℕ) → 41126 ≤ n → record_end (take n s) ≡ record_end s
record_part = end_part record_end 41126 (λ e s t a k h g. end_same e s t a k h g) record_most end-within

-- bytes where no record ends can't be read
shapeless : (s : List ℕ) → record_end s ≡ None → (x : Bool) → well_shaped s ≡ x → x ≡ false
shapeless s e true h = let z : ◌≡◌ {A = ℕ} 0 1 = cc (shaped-end s h) in absurd (omega arith)
shapeless s e false h = refl

endless_unread : (s : List ℕ) → record_end s ≡ None → read_point s ≡ None
unfolding read_point_in
endless_unread s e = rw (shapeless s e (well_shaped s) refl)

-- all records that can't be read are answered alike
module _ (schedule book peers : List ℕ) (leader : ℕ) (s t : List ℕ) (p : read_point s ≡ None) (q : read_point t ≡ None) where
  abbrev offering : List ℕ → Offer
  offering bytes = record { schedule = schedule; leader = leader; bytes = bytes; peers = peers }

  unread-offers : (z : Opened) (x : Option Schedule) → read_schedule schedule ≡ x → offer z (offering s) ≡ offer z (offering t)
  unfolding offer_in offer_tested_in offer_with
  unread-offers z None e = rw e
  unread-offers z (Some d) e = rw (e, p, q)

  unread-to : (z : Option Opened) → offer_to book (offering s) z ≡ offer_to book (offering t) z
  unread-to None = refl
  unread-to (Some z) = ap in_bytes (unread-offers z (read_schedule schedule) refl)

  unread-same : offer_bytes book (offering s) ≡ offer_bytes book (offering t)
  unfolding offer_bytes
  unread-same = unread-to (read_book book)

  unread-offered : (place k m : ℕ) → offered schedule book peers place leader k s ≡ offered schedule book peers place leader m t
  unread-offered place k m = rw (p, q, unread-same)

module _ (schedule book peers : List ℕ) (place leader n : ℕ) (s : List ℕ) where
  to_part : (o : Option ℕ) → record_end (take n s) ≡ o → record_end s ≡ o → ((k : ℕ) → o ≡ Some k → k ≤ n) →
      offered schedule book peers place leader (suc (unwrap_or o (length (take n s)))) (take (unwrap_or o (length (take n s))) (take n s))
      ≡ offered schedule book peers place leader (suc (unwrap_or o (length s))) (take (unwrap_or o (length s)) s)
  to_part None e f h =
      let a = take-length (take n s) in
      let b = take-length s in
      unread-offered schedule book peers leader (take (length (take n s)) (take n s)) (take (length s) s)
      (ap read_point a ∙ endless_unread (take n s) e) (ap read_point b ∙ endless_unread s f) place (suc (length (take n s))) (suc (length s))
  to_part (Some k) e f h = rw (take-take k n s (h k refl))

-- the longest leader byte and record take 41,127 bytes
pub step_part : (n : ℕ) (schedule book peers : List ℕ) (place : ℕ) (feed : List ℕ) → 41127 ≤ n →
    step schedule book peers place (take n feed) ≡ step schedule book peers place feed
unfolding step
step_part zero schedule book peers place feed h = absurd (omega arith)
step_part (suc n) schedule book peers place [] h = refl
step_part (suc n) schedule book peers place (x ∷ s) h =
    let e = record_part n s (omega arith) in
    ap (λ (k : ℕ). offered schedule book peers place x (suc k) (take k (take n s))) (size_of (take n s) (record_end s) e)
    ∙ to_part schedule book peers place x n s (record_end s) e refl (λ k f. omega (arith, record_most s k f))
    ∙ ap (λ (k : ℕ). offered schedule book peers place x (suc k) (take k s)) (sym (size_of s (record_end s) refl))

-- ---- schedules

no_span : (s : List ℕ) (at : ℕ) → field_ok last_known s at ≡ true → field_ok span s at ≡ false
no_span s at h = never (field_ok span s at) (λ g. omega (arith, (fitting span s at g).tag, (fitting last_known s at h).tag))

module _ (e : ℕ) (s t : List ℕ) (a : Agree e s t) where
  from-same : (k at n : ℕ) → schedule_end_from k s at ≡ Some n → n ≤ e → schedule_end_from k t at ≡ Some n
  unfolding schedule_end_from end_from
  from-same zero at n h g = ends_same e s t a (last_known ∷ []) at n h g
  from-same (suc k) at n h g =
      by-test (field_ok span s at) (schedule_end_from k s (next_at s at)) (last_known_end s at) n h
      (λ x i.
      let f = fitting span s at x in
      let b : at + 3 + length_at s at ≤ e = omega (arith, f.next, schedule-after k s (next_at s at) n i) in
      rw (field-same e s t a at b span f, next-same e s t a at b) (from-same k (next_at s at) n i g))
      (λ x i.
      let p = picked (field_ok last_known s at) (end_from [] s (next_at s at)) n i in
      let f = fitting last_known s at p.0 in
      let b : at + 3 + length_at s at ≤ e = omega (arith, f.next, end_after [] s (next_at s at) n p.1) in
      let o = field-same e s t a at b last_known f in
      rw (no_span t at o) (ends_same e s t a (last_known ∷ []) at n i g))

schedule-same : (e : ℕ) (s t : List ℕ) → Agree e s t → (k : ℕ) → schedule_end s ≡ Some k → k ≤ e → schedule_end t ≡ Some k
unfolding schedule_end
schedule-same e s t a k h g = from-same e s t a 4 0 k h g

schedule_part : (n : ℕ) (s : List ℕ) → 32675 ≤ n → schedule_end (take n s) ≡ schedule_end s
schedule_part = end_part schedule_end 32675 schedule-same schedule-most schedule-inside

schedule-to_part : (n : ℕ) (s : List ℕ) (o : Option ℕ) → ((k : ℕ) → o ≡ Some k → k ≤ n) → schedule_to (take n s) o ≡ schedule_to s o
schedule-to_part n s None f = refl
schedule-to_part n s (Some k) f = rw (take-take k n s (f k refl))

with_part : (n : ℕ) (s : List ℕ) (c : Option Settings) → 32675 ≤ n → front_with (take n s) c ≡ front_with s c
with_part n s None h = refl
with_part n s (Some c) h =
    ap (schedule_to (take n s)) (schedule_part n s h)
    ∙ schedule-to_part n s (schedule_end s) (λ k e. omega (arith, schedule-most s k e))

pub drop_part : (k n : ℕ) (s : List ℕ) → drop k (take (k + n) s) ≡ take n (drop k s)
drop_part zero n s = let e : 0 + n ≡ n = omega arith in ap (λ (m : ℕ). take m s) e
drop_part (suc k) n [] = simp (take-nil {A = ℕ}, drop-nil {A = ℕ})
drop_part (suc k) n (x ∷ s) = let e : suc k + n ≡ suc (k + n) = omega arith in rw e (drop_part k n s)

-- the longest settings and schedule take 32,722 bytes
pub begin_part : (n len : ℕ) (feed : List ℕ) → 32722 ≤ n → begin len (take n feed) ≡ begin len feed
unfolding begin front_of
begin_part n len feed h =
    let e : n ≡ settings_length + (n - settings_length) = omega arith in
    let d : drop settings_length (take n feed) ≡ take (n - settings_length) (drop settings_length feed) = ap (λ (m : ℕ). drop settings_length (take m feed)) e ∙ drop_part settings_length (n - settings_length) feed in
    rw (take-take settings_length n feed (omega arith), d) (ap (λ (x : Front). opened_with x (open_number (take settings_length feed) len)) (with_part (n - settings_length) (drop settings_length feed) (read_settings (take settings_length feed)) (omega arith)))

-- ---- the lines of a feed, step by step

module _ (f g : List ℕ → List ℕ → List ℕ → Tally) (book : List ℕ) (x : ℕ) (s : List ℕ)
    (same : (b p t : List ℕ) → length t ≤ length s → f b p t ≡ g b p t) where
  offered-same : (place k : ℕ) (r : Result (List ℕ)) (p : Option PointInfo) → step_then f book (x ∷ s) (offered_as place (suc k) r p) ≡ step_then g book (x ∷ s) (offered_as place (suc k) r p)
  offered-same place k r None = refl
  offered-same place k r (Some p) = rw (same r.after r.peers (drop k s) (omega (arith, length-drop k s)))

-- every number of turns that is enough gives the same
enough : (m n : ℕ) (schedule book peers : List ℕ) (place : ℕ) (feed : List ℕ) → length feed ≤ m → length feed ≤ n →
    points_from m schedule book peers place feed ≡ points_from n schedule book peers place feed
unfolding points_from step
enough zero zero schedule book peers place feed h g = refl
enough zero (suc n) schedule book peers place [] h g = refl
enough zero (suc n) schedule book peers place (x ∷ s) h g = absurd (omega arith)
enough (suc m) zero schedule book peers place [] h g = refl
enough (suc m) zero schedule book peers place (x ∷ s) h g = absurd (omega arith)
enough (suc m) (suc n) schedule book peers place [] h g = refl
enough (suc m) (suc n) schedule book peers place (x ∷ s) h g =
    offered-same (λ b p t. points_from m schedule b p (suc place) t) (λ b p t. points_from n schedule b p (suc place) t) book x s
    (λ b p t l. enough m n schedule b p (suc place) t (omega arith) (omega arith)) place (record_size s) _ (read_point (take (record_size s) s))

-- the lines of a feed are its first step's, and then those of what this leaves
pub points-step : (schedule book peers : List ℕ) (place : ℕ) (feed : List ℕ) →
    points schedule book peers place feed
    ≡ step_then (λ b p t. points schedule b p (suc place) t) book feed (step schedule book peers place feed)
unfolding points points_from step
points-step schedule book peers place [] = refl
points-step schedule book peers place (x ∷ s) =
    offered-same (λ b p t. points_from (length s) schedule b p (suc place) t) (λ b p t. points schedule b p (suc place) t) book x s
    (λ b p t l. enough (length s) (length t) schedule b p (suc place) t l (omega arith)) place (record_size s) _ (read_point (take (record_size s) s))
