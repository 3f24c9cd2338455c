-- The book's bytes (document 01, "The book"): settings first, then entries of a point record and tag 33, then zeros. What bytes mean,
-- and how a book is laid out.
use Rattle.std.specs.Prelude.{ℕ, zero, suc, ◌+◌, ◌-◌, Bool, true, ◌&&◌, List, [], ◌∷◌, ◌++◌, length, get_or, take, drop, replicate, leb, eqb, Option, None, Some, option_map, is_some}
use Rattle.base.specs.Base.{pick, and_then}
use Rattle.parts.specs.Bytes.{big_bytes, little_bytes}
use Rattle.parts.specs.Limits.{first_round, last_round, settings_length, entries_start, tag33_length, most_kept, longest_book}
use Rattle.record.specs.Record.{field_row, field_ok, record_end}
use Rattle.point.specs.Point.{PointInfo, in_domain}
use Rattle.point.specs.Reading.{point_id_at, through_at, read_point, read_point_in}
use Rattle.point.specs.Written.{id_bytes, through_bytes}
use Rattle.schedule.specs.Settings.{read_settings}
use Rattle.reasons.specs.Answer.{flag}
use Rattle.reasons.specs.Invalid.{dag_round, InvalidDependency}
use Rattle.rules.specs.List.{is_listable}
use Rattle.books.specs.Kept.{Status, Valid, TransInvalid, Invalid, IllFormed, Kept, Book, is_twice, Opened}
use Rattle.books.specs.Offer.{used}

-- ---- how a book is laid out

-- tag 33: "state, certified, reason, root id, root's reason, map and peer it came through; zeros where none"
unfoldable pub status_bytes : Status → Bool → List ℕ
unfolding little_bytes big_bytes
status_bytes Valid certified = 0 ∷ flag certified ∷ replicate 103 0
status_bytes (TransInvalid d) certified =
    1 ∷ flag certified ∷ 0 ∷ (id_bytes d.to ++ (d.reason ∷ through_bytes d.through))
status_bytes (Invalid n) certified = 2 ∷ flag certified ∷ n ∷ replicate 102 0
status_bytes (IllFormed n) certified = 3 ∷ flag certified ∷ n ∷ replicate 102 0

-- "An entry is the point record and tag 33 (105 bytes)"
unfoldable pub kept_bytes : Kept → List ℕ
unfolding status_bytes
kept_bytes k = k.bytes ++ (33 ∷ 105 ∷ 0 ∷ status_bytes k.status k.certified)

unfoldable pub entries_bytes : Book → List ℕ
unfolding kept_bytes
entries_bytes [] = []
entries_bytes (k ∷ b) = kept_bytes k ++ entries_bytes b

-- a book in a slice of `len` bytes, its 47 bytes of settings first
unfoldable pub book_bytes : List ℕ → ℕ → Book → List ℕ
unfolding entries_bytes used
book_bytes settings len b = settings ++ (entries_bytes b ++ replicate (len - entries_start - used b) 0)

-- ---- what bytes mean; those that mean no book are number 10

unfoldable pub is_zeros : List ℕ → Bool
is_zeros [] = true
is_zeros (x ∷ l) = eqb x 0 && is_zeros l

abbrev pub root_at : List ℕ → InvalidDependency
root_at t = record { to = point_id_at t 3; reason = get_or t 71 0; through = through_at t 72 }

-- a root in the domain ("root-cause rounds 4 to 2,147,483,647"), its reason's number and the map that it came through
unfoldable pub is_root_ok : List ℕ → Bool
unfolding point_id_at dag_round
is_root_ok t =
    leb first_round (point_id_at t 3).round
    && (leb (point_id_at t 3).round last_round
    && (is_some (dag_round (get_or t 71 0))
    && leb (get_or t 72 0) 1))

-- "States 0 to 3", zeros where there is nothing: of the 105 bytes of tag 33
unfoldable pub read_status : List ℕ → Option Status
unfolding is_zeros is_root_ok point_id_at dag_round
read_status t =
    pick (eqb (get_or t 0 0) 0) (pick (is_zeros (drop 2 t)) (Some Valid) None)
    (pick (eqb (get_or t 0 0) 1) (pick (eqb (get_or t 2 0) 0 && is_root_ok t) (Some (TransInvalid (root_at t))) None)
    (pick (eqb (get_or t 0 0) 2) (pick (is_some (dag_round (get_or t 2 0)) && is_zeros (drop 3 t)) (Some (Invalid (get_or t 2 0))) None)
    (pick (eqb (get_or t 0 0) 3)
    (pick ((leb 1 (get_or t 2 0) && leb (get_or t 2 0) 16) && is_zeros (drop 3 t)) (Some (IllFormed (get_or t 2 0))) None)
    None)))

-- "an entry lies outside the domain": every record's round and times, and "In a record listed in state 0, 1 or 2, a direct link names
-- a peer of its map"
abbrev pub is_keepable : PointInfo → Status → Bool
is_keepable q Valid = is_listable q
is_keepable q (TransInvalid d) = is_listable q
is_keepable q (Invalid n) = is_listable q
is_keepable q (IllFormed n) = in_domain q

-- the 105 bytes of tag 33, after a record
unfoldable pub read_kept : List ℕ → PointInfo → List ℕ → Option Kept
unfolding read_status is_listable in_domain
read_kept bytes q t =
    pick (leb (get_or t 1 0) 1) (and_then (read_status t) (λ s.
    pick (is_keepable q s) (Some (record { bytes = bytes; point = q; status = s; certified = eqb (get_or t 1 0) 1 })) None)) None

-- an entry at the front of a slice, and how many bytes it takes
pub record KeptFront : Type 0 where
  pub kept : Kept
  pub size : ℕ

unfoldable pub kept_front : List ℕ → Option KeptFront
unfolding record_end read_point_in field_ok read_kept
kept_front s =
    and_then (record_end s) (λ n. and_then (read_point (take n s)) (λ q. pick (field_ok (field_row 33 105 105) s n)
    (option_map (λ k. record { kept = k; size = n + tag33_length }) (read_kept (take n s) q (take 105 (drop (n + 3) s)))) None))

-- "a 0 where an entry would begin, or the slice's end, ends the entries", and zeros stand after them; at most n entries
unfoldable pub entries_from : ℕ → List ℕ → Option Book
unfolding is_zeros kept_front
entries_from zero s = pick (is_zeros s) (Some []) None
entries_from (suc n) s =
    pick (eqb (get_or s 0 0) 0)
    (pick (is_zeros s) (Some []) None)
    (and_then (kept_front s) (λ x. option_map (λ b. x.kept ∷ b) (entries_from n (drop x.size s))))

-- number 10: "bytes don't read as settings, entries (states 0 to 3) and zeros; or an id stands twice, or over 4,096 entries, or an
-- entry lies outside the domain, or the slice is over 16,777,216 bytes"
unfoldable pub read_book : List ℕ → Option Opened
unfolding read_settings entries_from is_twice
read_book s =
    pick (leb (length s) longest_book)
    (and_then (read_settings (take settings_length s)) (λ c. and_then (entries_from most_kept (drop entries_start s)) (λ b.
    pick (is_twice b) None (Some (record { bytes = take settings_length s; settings = c; length = length s; book = b })))))
    None
