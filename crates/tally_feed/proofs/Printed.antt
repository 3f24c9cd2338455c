-- The program prints the lines of `tally`, and leaves its book, if it always has enough of its feed at hand: the longest settings and
-- schedule, then each time the longest leader byte and record, or all that is left.
use Rattle.std.specs.Prelude.{Option, None, Some, is_some, Ok, Err}
use Prim.Native.Nat.{ℕ, zero, suc, ◌+◌, ◌≤◌}
use native.Mathlib.Omega.{arith}
use mathlib.Core.Path.{◌≡◌, refl, ap, sym, ◌∙◌}
use mathlib.Core.Bool.{Bool, true, false}
use mathlib.Core.List.{List, [], ◌∷◌}
use lib.ListN.{length, take, drop, replicate, length-drop}
use lib.Seq.{take-take}
use Rattle.base.specs.Base.{pick}
use Rattle.parts.specs.Limits.{settings_length}
use Rattle.point.specs.Point.{PointInfo}
use Rattle.point.specs.Reading.{read_point}
use Rattle.schedule.specs.Settings.{Settings, read_settings}
use Rattle.schedule.specs.Schedule.{read_schedule}
use Rattle.books.specs.Offer.{Result}
use Rattle.books.specs.Calls.{open_number, open_bytes}
use Rattle.tally_feed.specs.Tally.{Front, schedule_end, schedule_to, front_with, front_of, opened_with, begin, record_size, offered_as, step, Tally, step_then, points_from, points, tally_from, tally}
use Rattle.tally_feed.specs.Printed.{turn, printed_from, begun_then, printed}
use Rattle.tally_feed.proofs.Laws.{schedule-most}
use Rattle.tally_feed.proofs.AtHand.{step_part, begin_part, points-step}

-- ---- a turn

turn_step : (again f : List ℕ → List ℕ → List ℕ → Tally) (schedule book peers : List ℕ) (place n : ℕ) (feed : List ℕ) →
    length feed ≤ suc n → ((b p t : List ℕ) → length t ≤ n → again b p t ≡ f b p t) →
    turn again book peers feed (step schedule book peers place feed) ≡ step_then f book feed (step schedule book peers place feed)
unfolding step
turn_step again f schedule book peers place n [] h same = refl
turn_step again f schedule book peers place n (x ∷ s) h same = go (record_size s) _ (read_point (take (record_size s) s))
  where
    go : (k : ℕ) (r : Result (List ℕ)) (p : Option PointInfo) → turn again book peers (x ∷ s) (offered_as place (suc k) r p) ≡ step_then f book (x ∷ s) (offered_as place (suc k) r p)
    go k r None = refl
    go k r (Some p) = rw (same r.after r.peers (drop k s) (omega (arith, length-drop k s)))

module _ (held : ℕ → ℕ) (enough : (i : ℕ) → 41127 ≤ held i) where
  printed-points : (turns : ℕ) (schedule : List ℕ) (place : ℕ) (book peers feed : List ℕ) → length feed ≤ turns →
      printed_from turns held schedule place book peers feed ≡ points schedule book peers place feed
  unfolding printed_from points points_from
  printed-points zero schedule place book peers [] h = refl
  printed-points zero schedule place book peers (x ∷ s) h = absurd (omega arith)
  printed-points (suc n) schedule place book peers feed h =
      let again : List ℕ → List ℕ → List ℕ → Tally = λ b p f. printed_from n held schedule (suc place) b p f in
      ap (turn again book peers feed) (step_part (held place) schedule book peers place feed (enough place))
      ∙ turn_step again (λ b p t. points schedule b p (suc place) t) schedule book peers place n feed h (λ b p t l. printed-points n schedule (suc place) b p t l)
      ∙ sym (points-step schedule book peers place feed)

-- ---- the front

module _ (s : List ℕ) (n : ℕ) where
  to-most : (o : Option ℕ) → schedule_end s ≡ o → schedule_to s o ≡ Ok n → n ≤ 32722
  to-most None q e = let z : ◌≡◌ {A = ℕ} 0 1 = cc in absurd (omega arith)
  to-most (Some k) q e = go (is_some (read_schedule (take k s))) e
    where
      go : (t : Bool) → pick {A = Front} t (Ok (settings_length + k)) (Err 2) ≡ Ok n → n ≤ 32722
      go true f = let g : settings_length + k ≡ n = cc in omega (arith, schedule-most s k q)
      go false f = let z : ◌≡◌ {A = ℕ} 0 1 = cc in absurd (omega arith)

  with_most : (c : Option Settings) → front_with s c ≡ Ok n → n ≤ 32722
  with_most None e = let z : ◌≡◌ {A = ℕ} 0 1 = cc in absurd (omega arith)
  with_most (Some c) e = to-most (schedule_end s) refl e

-- opening moves no point
opened-front : (n : ℕ) (x : Front) (number : ℕ) → opened_with x number ≡ Ok n → x ≡ Ok n
opened-front n (Err m) number e = e
opened-front n (Ok m) zero e = e
opened-front n (Ok m) (suc k) e = let z : ◌≡◌ {A = ℕ} 0 1 = cc in absurd (omega arith)

begin-most : (len : ℕ) (feed : List ℕ) (n : ℕ) → begin len feed ≡ Ok n → n ≤ 32722
unfolding begin front_of
begin-most len feed n e = with_most (drop settings_length feed) n (read_settings (take settings_length feed)) (opened-front n (front_of feed) (open_number (take settings_length feed) len) e)

-- ---- a whole feed

module _ (turns room : ℕ) (held : ℕ → ℕ) (feed : List ℕ) (long : length feed ≤ turns) (front : 32722 ≤ room) (enough : (i : ℕ) → 41127 ≤ held i) where
  front-tally : (book peers : List ℕ) (x : Front) → begin 65536 feed ≡ x →
      begun_then turns held (take room feed) feed book peers x ≡ tally_from book peers feed x
  front-tally book peers (Err n) e = refl
  front-tally book peers (Ok n) e =
      rw (take-take settings_length room feed (omega arith), take-take n room feed (omega (arith, begin-most 65536 feed n e)))
      (printed-points held enough turns (drop settings_length (take n feed)) 1 (open_bytes (take settings_length feed) book) peers (drop n feed) (omega (arith, length-drop n feed)))

  -- a feed of at most as many bytes as there are turns
  pub printed-tally : printed turns room held feed ≡ tally feed
  unfolding printed tally
  printed-tally =
      ap (begun_then turns held (take room feed) feed (replicate 65536 0) (replicate 8160 0)) (begin_part room 65536 feed front)
      ∙ front-tally (replicate 65536 0) (replicate 8160 0) (begin 65536 feed) refl
