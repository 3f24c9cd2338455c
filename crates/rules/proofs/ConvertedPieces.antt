-- Every list that can be read is made of pieces: bytes with a record after them, and entries without one.
use Rattle.std.specs.Prelude.{option_map, Option, Some, is_some}
use Prim.Native.Nat.{ℕ, zero, suc, ◌+◌, ◌≤◌}
use native.Mathlib.Omega.{arith}
use mathlib.Core.Path.{◌≡◌, sym, ap, ◌∙◌}
use mathlib.Core.Logic.{◌⊎◌, inl, inr}
use mathlib.Core.Bool.{Bool, false}
use mathlib.Core.List.{List, [], ◌∷◌, ◌++◌}
use lib.ListN.{length, take, drop, length-append, take-append-drop}
use lib.Seq.{take_at, drop_at, drop-drop, length-take-le}
use Rattle.base.proofs.Option.{some-injective, map-eq-some_iff}
use Rattle.map.specs.declared.Arrangement.{Arrangement}
use Rattle.record.proofs.Laws.{Agree, front-shaped}
use Rattle.point.specs.Point.{PointInfo}
use Rattle.point.specs.declared.data.AnchorStageRole.{AnchorStageRole}
use Rattle.rules.specs.DagPoint.{Entry}
use Rattle.rules.specs.List.{record_front_in, Listed, read_entry_in, list_from_in, read_list_in}
use Rattle.rules.specs.Converted.{Piece, recorded, bare, list_bytes, IsHead, IsPiece, ArePieces, as_it_is}
use Rattle.rules.proofs.All.{All, all-member}
use Rattle.rules.proofs.Fronts.{agree_self, entry_of, EntryFront, before_record, without_record, split_entry}
use Rattle.rules.proofs.Pieces.{record_front_lem, StepIn, list_zero_in, list_suc_in, empty-is}

-- ---- the piece of the entry at the front of bytes

record PieceAt (s : List ℕ) (x : Listed) : Type 0 where
  piece : Piece
  fits : IsPiece piece
  is : (l : List Piece) → drop x.size s ≡ list_bytes as_it_is l → s ≡ list_bytes as_it_is (piece ∷ l)

-- the first k bytes with anything after them
agree_front : (k : ℕ) (s t : List ℕ) → k ≤ length s → Agree k s (take k s ++ t)
agree_front k s t w =
    let n = length-take-le k s w in
    record { same = sym (take_at (take k s) t k n); in_left = w; in_right = omega (arith, length-append (take k s) t) }

is_front : (k : ℕ) (s : List ℕ) (aim : Option AnchorStageRole) (made : PointInfo → Entry) → k ≤ length s →
    ((b : Arrangement) (t : List ℕ) → Agree k s t → read_entry_in b t ≡ option_map (entry_of aim made (0 + k)) (record_front_in b (drop k t))) →
    IsHead (take k s)
is_front k s aim made w r =
    let n = length-take-le k s w in
    inl (
      aim,
      (
        made,
        λ b t.
            (r b (take k s ++ t) (agree_front k s t w)
            ∙ ap (λ (u : List ℕ). option_map (entry_of aim made (0 + k)) (record_front_in b u)) (drop_at (take k s) t k n)
            ∙ ap (λ (m : ℕ). option_map (entry_of aim made m) (record_front_in b t)) (omega arith)),
      ),
    )

piece_at : (a : Arrangement) (s : List ℕ) (x : Listed) → read_entry_in a s ≡ Some x → PieceAt s x
unfolding list_bytes
piece_at a s x h = go (split_entry a s x h)
  where
    go : EntryFront read_entry_in 0 s → PieceAt s x
    go (before_record k aim made l w r) =
        let y = (map-eq-some_iff _ (record_front_in a (drop k s))).0 (sym (r a s (agree_self k s w)) ∙ h) in
        let n = y.0.size in
        let e : 0 + k + n ≡ x.size = ap (λ (z : Listed). z.size) y.2 in
        record {
          piece = recorded (take k s) (take n (drop k s));
          fits = (is_front k s aim made w r, front-shaped (drop k s) n (record_front_lem a (drop k s) y.0 y.1).end);
          is =
              λ m g.
              sym (take-append-drop k s)
              ∙ ap (λ (u : List ℕ). take k s ++ u)
              (sym (take-append-drop n (drop k s))
              ∙ ap (λ (u : List ℕ). take n (drop k s) ++ u) (drop-drop n k s ∙ ap (λ (i : ℕ). drop i s) (omega arith) ∙ g));
        }
    go (without_record k y l w z r) =
        let e : Some y ≡ Some x = sym (r a s (agree_self k s w)) ∙ h in
        let m : y.size ≡ x.size = ap (λ (v : Listed). v.size) (some-injective _ _ e) in
        let n = length-take-le k s w in
        record {
          piece = bare (take k s);
          fits = inl (y, (omega arith, λ b t. r b (take k s ++ t) (agree_front k s t w)));
          is = λ p g. sym (take-append-drop k s) ∙ ap (λ (u : List ℕ). take k s ++ u) (ap (λ (i : ℕ). drop i s) (omega arith) ∙ g);
        }

-- ---- the pieces of a list

record InPieces (s : List ℕ) : Type 0 where
  parts : List Piece
  fit : All IsPiece parts
  is : s ≡ list_bytes as_it_is parts

no_pieces : (s : List ℕ) → length s ≡ 0 → InPieces s
unfolding list_bytes
no_pieces s e = record { parts = []; fit = tt; is = empty-is s e }

in_pieces : (a : Arrangement) (n : ℕ) (b : Bool) (s : List ℕ) (l : List Listed) → list_from_in a n b s ≡ Some l → InPieces s
in_pieces a zero b s l h = no_pieces s (list_zero_in a b s l h).0
in_pieces a (suc n) b s l h = go (list_suc_in a n b s l h) (in_pieces a n)
  where
    go : ((length s ≡ 0) × ([] ≡ l)) ⊎ StepIn a n b s l →
        ((c : Bool) (t : List ℕ) (m : List Listed) → list_from_in a n c t ≡ Some m → InPieces t) → InPieces s
    go (inl e) r = no_pieces s e.0
    go (inr u) r =
        let p = piece_at a s u.first u.reads in
        let w = r (is_some u.first.aim) (drop u.first.size s) u.rest u.more in
        record { parts = p.piece ∷ w.parts; fit = (p.fits, w.fit); is = p.is w.parts w.is }

pub pieces : (a : Arrangement) (s : List ℕ) (l : List Listed) → read_list_in a s ≡ Some l →
    (ps : List Piece) × (ArePieces ps × (s ≡ list_bytes as_it_is ps))
unfolding read_list_in
pieces a s l h = let w = in_pieces a 65535 false s l h in (w.parts, (all-member IsPiece w.parts w.fit, w.is))
