-- Ticket U1's statement holds.
use Rattle.std.specs.Prelude.{Some, Ok}
use Prim.Native.Nat.{ℕ, ◌≤◌}
use mathlib.Core.Path.{◌≡◌, ap, sym, ◌∙◌, subst}
use mathlib.Core.Bool.{true}
use mathlib.Core.List.{List}
use lib.ListN.{length, take, drop}
use Rattle.parts.specs.Bytes.{Bytes}
use Rattle.map.specs.Rows.{peers, rising}
use Rattle.point.specs.Point.{PointInfo, in_domain}
use Rattle.point.specs.Reading.{read_point}
use Rattle.compose.specs.Draft.{Draft, rearranged, composed, handed_over, composition, output}
use Rattle.compose.specs.Code.{record_length}
use Rattle.compose.specs.Composed.{Lent, SamePoint, PartsOf, PointsComposed, written}
use Rattle.compose.proofs.Rows.{are_rows_lem}
use Rattle.compose.proofs.Contents.{handed}
use Rattle.compose.proofs.Inverse.{done, once_each, written-length, written-front, written-rest, pairs-rise, peers-rise, composed-are, composed-back, same_point}
use Rattle.compose.proofs.Numbered.{numbers_lem}
use Rattle.compose.proofs.Again.{parts_handed, composed_again, parts_written}
use Rattle.compose.proofs.AnyOrder.{numbers-same, written-same}

reads_lem : (d : Draft) (out : List ℕ) (n : ℕ) → Lent d → composition d (length out) ≡ Ok n →
    (p q : PointInfo)
    × (handed_over d ≡ Some p)
    × Bytes (take n (written d out))
    × (read_point (take n (written d out)) ≡ Some q)
    × SamePoint p q
    × (rising (peers q.includes) ≡ true)
    × (rising (peers q.witness) ≡ true)
    × (rising q.evidence ≡ true)
unfolding rearranged
reads_lem d out n l h =
    let o = done d (length out) n h in
    let p = o.point in
    let once = once_each p o.is.once in
    let over = handed d p o.over in
    let maps = are_rows_lem d o.rowed in (
      p,
      rearranged p,
      o.over,
      subst Bytes (sym (written-front d out n h o)) (composed-are d l p over maps once).bytes,
      ap read_point (written-front d out n h o) ∙ composed-back d l p over maps once,
      same_point p,
      pairs-rise p.includes once.includes,
      pairs-rise p.witness once.witness,
      peers-rise p.evidence once.evidence,
    )

rest_lem : (d : Draft) (out : List ℕ) (n : ℕ) → composition d (length out) ≡ Ok n →
    (n ≤ length out) × (length (written d out) ≡ length out) × (drop n (written d out) ≡ drop n out)
rest_lem d out n h =
    let o = done d (length out) n h in
    (o.is.room, written-length d out n h o, written-rest d out n h o)

again_lem : (s : List ℕ) (p : PointInfo) (d : Draft) (out : List ℕ) →
    Bytes s → read_point s ≡ Some p → in_domain p ≡ true → Lent d → PartsOf s d → length s ≤ length out →
    (composition d (length out) ≡ Ok (length s)) × (take (length s) (written d out) ≡ s)
again_lem s p d out b h i l q r =
    let ok = parts_written s p d b h l q (length out) i r in
    let o = done d (length out) (length s) ok in
    let over = parts_handed s p d b h l q in
    let over_too = o.over in
    let same : o.point ≡ p = cc in
    (ok, written-front d out (length s) ok o ∙ (ap composed same ∙ composed_again s p d b h l q))

pub points_composed : PointsComposed
points_composed =
    record {
      reads = reads_lem;
      rest = rest_lem;
      refused = λ d out n h. ap (output d out) h;
      numbers = λ d l. (record_length d, numbers_lem d l);
      again = again_lem;
      any_order = λ d e out s. (numbers-same d e s (length out), written-same d e s out);
    }
