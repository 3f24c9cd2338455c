-- Laws of converted records: the same point in the other arrangement, there and back the same bytes, and which contents they have.
use Rattle.std.specs.Prelude.{Option, Some, None, option_map}
use Prim.Native.Nat.{ℕ, ◌+◌, ◌-◌, ◌≤◌, ◌<◌}
use native.Mathlib.Omega.{arith}
use mathlib.Core.Path.{◌≡◌, refl, ap, sym, ◌∙◌, subst}
use mathlib.Core.Logic.{⊎_elim}
use mathlib.Core.Bool.{true, false}
use mathlib.Core.List.{List, []}
use lib.ListN.{length, get_or, drop, set, length-drop}
use lib.Seq.{length-take-le}
use Rattle.base.specs.Base.{pick, and_then}
use Rattle.base.proofs.Bool.{cases, pick_true, pick-false}
use Rattle.parts.specs.Bytes.{put_at, Bytes}
use Rattle.parts.proofs.AllBytes.{put-bytes}
use Rattle.write.proofs.Laws.{put-over, put-same, put-either}
use Rattle.map.specs.declared.Arrangement.{Arrangement}
use Rattle.map.specs.Moved.{other, moved}
use Rattle.map.proofs.Moved.{moved-length, moved-bytes, moved-back, moved-means, moved-map}
use Rattle.record.specs.Record.{next_at, content_at, start_of, content_of, well_shaped}
use Rattle.record.specs.Fields.{record_bytes, contents}
use Rattle.record.proofs.Laws.{content-bytes, next-within}
use Rattle.record.proofs.Contents.{record-parts}
use Rattle.point.specs.Point.{PointInfo, AnchorLink}
use Rattle.point.specs.declared.data.PointRole.{PointRole}
use Rattle.point.specs.Reading.{read_link, read_role, maps_ok, point_in, read_point_in}
use Rattle.point.specs.Converted.{with_moved, converted}
use Rattle.point.proofs.Replaced.{replaced-ends, replaced-room, replaced-length, replaced-start, replaced-shaped, replaced-here, replaced-other}

-- ---- one map moved

module _ (a : Arrangement) (k : ℕ) (s : List ℕ) (w : well_shaped s ≡ true) (b : k < 9) where
  long : length (moved a (content_of s k)) ≡ length (content_of s k)
  long = moved-length a (content_of s k)

  with-length : length (with_moved a k s) ≡ length s
  unfolding with_moved
  with-length = replaced-length s w k b (moved a (content_of s k)) long

  with-shaped : well_shaped (with_moved a k s) ≡ true
  unfolding with_moved
  with-shaped = replaced-shaped s w k b (moved a (content_of s k)) long

  with-start : (j : ℕ) → j < 9 → start_of (with_moved a k s) j ≡ start_of s j
  unfolding with_moved
  with-start j h = replaced-start s w k b (moved a (content_of s k)) long j (omega arith)

  with-here : content_of (with_moved a k s) k ≡ moved a (content_of s k)
  unfolding with_moved
  with-here = replaced-here s w k b (moved a (content_of s k)) long

  with-other : (j : ℕ) → j < 9 → (j ≡ k → ⊥) → content_of (with_moved a k s) j ≡ content_of s j
  unfolding with_moved
  with-other j h d = replaced-other s w k b (moved a (content_of s k)) long j h d

reads-same : (f g : AnchorLink → AnchorLink → PointRole → PointInfo) → ((p t : AnchorLink) (r : PointRole) → f p t r ≡ g p t r) →
    (x y : Option AnchorLink) (o : Option PointRole) →
    and_then x (λ p. and_then y (λ t. option_map (f p t) o)) ≡ and_then x (λ p. and_then y (λ t. option_map (g p t) o))
reads-same f g h None y o = refl
reads-same f g h (Some p) None o = refl
reads-same f g h (Some p) (Some t) None = refl
reads-same f g h (Some p) (Some t) (Some r) = ap Some (h p t r)

-- what stands in a field is put there again
content-same : (s : List ℕ) (k : ℕ) → start_of s k + 3 + length (content_of s k) ≤ length s → put_at s (start_of s k + 3) (content_of s k) ≡ s
unfolding content_of content_at
content-same s k h =
    let n = length-take-le (next_at s (start_of s k) - (start_of s k + 3)) (drop (start_of s k + 3) s) (omega (arith, next-within s (start_of s k), length-drop (start_of s k + 3) s)) in
    put-same s (next_at s (start_of s k) - (start_of s k + 3)) (start_of s k + 3) (omega arith)

module _ (a : Arrangement) (k : ℕ) (s : List ℕ) (w : well_shaped s ≡ true) (b : k < 9) where
  there : start_of s k + 3 + length (content_of s k) ≤ length s
  there = replaced-room s w k b (content_of s k) refl

  with-back : with_moved (other a) k (with_moved a k s) ≡ s
  unfolding with_moved
  with-back =
      let at = start_of s k + 3 in
      let c = content_of s k in
      ap (λ i. put_at (with_moved a k s) (i + 3) (moved (other a) (content_of (with_moved a k s) k))) (with-start a k s w b k b)
      ∙ (ap (put_at (with_moved a k s) at) (ap (moved (other a)) (with-here a k s w b) ∙ moved-back a c)
      ∙ (put-over s at (moved a c) (omega (arith, there, moved-length a c)) c (sym (moved-length a c)) ∙ content-same s k there))

-- ---- both maps moved

module _ (a : Arrangement) (s : List ℕ) (w : well_shaped s ≡ true) where
  abbrev w2 : well_shaped (with_moved a 2 s) ≡ true
  w2 = with-shaped a 2 s w (omega arith)

  both-length : length (with_moved a 3 (with_moved a 2 s)) ≡ length s
  both-length = with-length a 3 (with_moved a 2 s) w2 (omega arith) ∙ with-length a 2 s w (omega arith)

  both-shaped : well_shaped (with_moved a 3 (with_moved a 2 s)) ≡ true
  both-shaped = with-shaped a 3 (with_moved a 2 s) w2 (omega arith)

  both-start : (j : ℕ) → j < 9 → start_of (with_moved a 3 (with_moved a 2 s)) j ≡ start_of s j
  both-start j h = with-start a 3 (with_moved a 2 s) w2 (omega arith) j h ∙ with-start a 2 s w (omega arith) j h

  both-includes : content_of (with_moved a 3 (with_moved a 2 s)) 2 ≡ moved a (content_of s 2)
  both-includes = with-other a 3 (with_moved a 2 s) w2 (omega arith) 2 (omega arith) (λ e. omega arith) ∙ with-here a 2 s w (omega arith)

  both-witness : content_of (with_moved a 3 (with_moved a 2 s)) 3 ≡ moved a (content_of s 3)
  both-witness =
      with-here a 3 (with_moved a 2 s) w2 (omega arith) ∙ ap (moved a) (with-other a 2 s w (omega arith) 3 (omega arith) (λ e. omega arith))

  both-other : (j : ℕ) → j < 9 → (j ≡ 2 → ⊥) → (j ≡ 3 → ⊥) → content_of (with_moved a 3 (with_moved a 2 s)) j ≡ content_of s j
  both-other j h d e = with-other a 3 (with_moved a 2 s) w2 (omega arith) j h e ∙ with-other a 2 s w (omega arith) j h d

  both-maps : maps_ok (other a) (with_moved a 3 (with_moved a 2 s)) ≡ maps_ok a s
  unfolding maps_ok
  both-maps = rw (both-includes, both-witness, both-other 4 (omega arith) (λ e. omega arith) (λ e. omega arith), moved-map, moved-map) refl

  both-point : (p t : AnchorLink) (r : PointRole) → point_in (other a) (with_moved a 3 (with_moved a 2 s)) p t r ≡ point_in a s p t r
  both-point p t r =
      rw (
        both-includes,
        both-witness,
        moved-means,
        moved-means,
        both-other 0 (omega arith) (λ e. omega arith) (λ e. omega arith),
        both-other 1 (omega arith) (λ e. omega arith) (λ e. omega arith),
        both-other 4 (omega arith) (λ e. omega arith) (λ e. omega arith),
        both-other 8 (omega arith) (λ e. omega arith) (λ e. omega arith),
      ) refl

  both-read : read_point_in (other a) (with_moved a 3 (with_moved a 2 s)) ≡ read_point_in a s
  unfolding read_point_in
  both-read =
      rw (
        both-shaped,
        w,
        both-maps,
        both-other 5 (omega arith) (λ e. omega arith) (λ e. omega arith),
        both-other 6 (omega arith) (λ e. omega arith) (λ e. omega arith),
        both-other 7 (omega arith) (λ e. omega arith) (λ e. omega arith),
      )
      (ap (λ o. pick (maps_ok a s) o None)
      (reads-same (point_in (other a) (with_moved a 3 (with_moved a 2 s))) (point_in a s) both-point
      (read_link (content_of s 5)) (read_link (content_of s 6)) (read_role (content_of s 7))))

  -- both maps are put where they stood
  pub both-put : with_moved a 3 (with_moved a 2 s)
      ≡ put_at (put_at s (start_of s 2 + 3) (moved a (content_of s 2))) (start_of s 3 + 3) (moved a (content_of s 3))
  unfolding with_moved
  both-put =
      let v = with_moved a 2 s in
      ap (λ i. put_at v (i + 3) (moved a (content_of v 3))) (with-start a 2 s w (omega arith) 3 (omega arith))
      ∙ ap (λ l. put_at v (start_of s 3 + 3) (moved a l)) (with-other a 2 s w (omega arith) 3 (omega arith) (λ e. omega arith))

  -- the includes are moved back, whatever became of the witness
  includes-back : with_moved (other a) 2 (with_moved a 3 (with_moved a 2 s)) ≡ with_moved a 3 s
  unfolding with_moved
  includes-back =
      let first = start_of s 2 + 3 in
      let second = start_of s 3 + 3 in
      let c = content_of s 2 in
      let m = moved a (content_of s 3) in
      let v = with_moved a 2 s in
      let u = with_moved a 3 v in
      let long = moved-length a c in
      let room = there a 2 s w (omega arith) in
      let apart : first + length c ≤ second = omega (arith, replaced-ends s w 2 (omega arith) c refl) in
      let within : second + length m ≤ length v =
      omega (arith, moved-length a (content_of s 3), there a 3 s w (omega arith), with-length a 2 s w (omega arith))
      in
      let is : u ≡ put_at v second m = both-put in
      ap (λ i. put_at u (i + 3) (moved (other a) (content_of u 2))) (both-start 2 (omega arith))
      ∙ (ap (put_at u first) (ap (moved (other a)) both-includes ∙ moved-back a c)
      ∙ (ap (λ l. put_at l first c) is
      ∙ (sym (put-either v first second c m apart within)
      ∙ ap (λ l. put_at l second m) (put-over s first (moved a c) (omega (arith, room, long)) c (sym long) ∙ content-same s 2 room))))

  both-back : with_moved (other a) 3 (with_moved (other a) 2 (with_moved a 3 (with_moved a 2 s))) ≡ s
  both-back = ap (with_moved (other a) 3) includes-back ∙ with-back a 3 s w (omega arith)

-- ---- converted records

unread : (a : Arrangement) (s : List ℕ) → well_shaped s ≡ false → read_point_in a s ≡ None
unfolding read_point_in
unread a s n = rw n refl

module _ (a : Arrangement) (s : List ℕ) where
  pub converted-is : well_shaped s ≡ true → converted a s ≡ with_moved a 3 (with_moved a 2 s)
  unfolding converted
  converted-is w = pick_true (well_shaped s) _ s w

  converted-not : well_shaped s ≡ false → converted a s ≡ s
  unfolding converted
  converted-not n = pick-false (well_shaped s) _ s n

-- what holds of both maps moved, and of bytes that are no record, holds of what is converted
by-shape : (P : List ℕ → Type 0) (a : Arrangement) (s : List ℕ) → (well_shaped s ≡ true → P (with_moved a 3 (with_moved a 2 s))) → (well_shaped s ≡ false → P s) →
    P (converted a s)
by-shape P a s f g = ⊎_elim (λ w. subst P (sym (converted-is a s w)) (f w)) (λ n. subst P (sym (converted-not a s n)) (g n)) (cases (well_shaped s))

module _ (a : Arrangement) (s : List ℕ) where
  -- a converted record reads, in the other arrangement, as the very same point; what can't be read can't be read then either
  pub same-point : read_point_in (other a) (converted a s) ≡ read_point_in a s
  same-point =
      by-shape (λ t. read_point_in (other a) t ≡ read_point_in a s) a s (both-read a s) (λ n. unread (other a) s n ∙ sym (unread a s n))

  pub converted-length : length (converted a s) ≡ length s
  converted-length = by-shape (λ t. length t ≡ length s) a s (both-length a s) (λ n. refl)

  -- a record of nine fields stays one
  pub converted-shaped : well_shaped (converted a s) ≡ well_shaped s
  converted-shaped = by-shape (λ t. well_shaped t ≡ well_shaped s) a s (λ w. both-shaped a s w ∙ sym w) (λ n. refl)

  -- there and back gives the same bytes
  pub converted-back : converted (other a) (converted a s) ≡ s
  converted-back =
      by-shape (λ t. converted (other a) t ≡ s) a s
      (λ w. converted-is (other a) (with_moved a 3 (with_moved a 2 s)) (both-shaped a s w) ∙ both-back a s w)
      (λ n. converted-not (other a) s n)

-- ---- the contents of a converted record

-- nine contents with the third and the fourth moved
abbrev pub moved_contents : Arrangement → List (List ℕ) → List (List ℕ)
moved_contents a cs = set (set cs 2 (moved a (get_or cs 2 []))) 3 (moved a (get_or cs 3 []))

module _ (a : Arrangement) (s : List ℕ) (w : well_shaped s ≡ true) where
  both-contents : contents (with_moved a 3 (with_moved a 2 s)) ≡ moved_contents a (contents s)
  unfolding contents
  both-contents =
      rw (
        both-includes a s w,
        both-witness a s w,
        both-other a s w 0 (omega arith) (λ e. omega arith) (λ e. omega arith),
        both-other a s w 1 (omega arith) (λ e. omega arith) (λ e. omega arith),
        both-other a s w 4 (omega arith) (λ e. omega arith) (λ e. omega arith),
        both-other a s w 5 (omega arith) (λ e. omega arith) (λ e. omega arith),
        both-other a s w 6 (omega arith) (λ e. omega arith) (λ e. omega arith),
        both-other a s w 7 (omega arith) (λ e. omega arith) (λ e. omega arith),
        both-other a s w 8 (omega arith) (λ e. omega arith) (λ e. omega arith),
      ) refl

with-bytes : (a : Arrangement) (k : ℕ) (s : List ℕ) → Bytes s → Bytes (with_moved a k s)
unfolding with_moved
with-bytes a k s b = (put-bytes s (start_of s k + 3) (moved a (content_of s k)) b (moved-bytes a (content_of s k) (content-bytes s k b))).bytes

-- a converted record is the record of these
pub converted-fields : (a : Arrangement) (s : List ℕ) → Bytes s → well_shaped s ≡ true →
    converted a s ≡ record_bytes (moved_contents a (contents s))
converted-fields a s b w =
    let v = with_moved a 2 s in
    converted-is a s w
    ∙ (record-parts (with_moved a 3 v) (with-bytes a 3 v (with-bytes a 2 s b)) (both-shaped a s w) ∙ ap record_bytes (both-contents a s w))
