-- The 69 bytes of what is said of a trans-invalid point tell it.
use Rattle.std.specs.Prelude.{Err, Ok, Result}
use Prim.Native.Nat.{ℕ, ◌≤◌}
use native.Mathlib.Omega.{arith}
use mathlib.Core.Path.{◌≡◌, refl, sym, ap, ◌∙◌}
use mathlib.Core.Bool.{false}
use mathlib.Core.List.{List, [], ◌++◌}
use lib.ListN.{length, get_or, drop}
use Rattle.base.proofs.Impossible.{impossible}
use Rattle.parts.specs.Bytes.{bytes_at}
use Rattle.write.proofs.Laws.{put_read}
use Rattle.point.specs.Reading.{point_id_at}
use Rattle.point.proofs.Fits.{IdFits}
use Rattle.point.proofs.PartsWritten.{id_length, id-first}
use Rattle.rules.specs.DagPoint.{DagPoint, Valid, TransInvalid, Invalid, IllFormed, NotFound, Dropped, entry_id, is_dropped}
use Rattle.rules.specs.Clearing.{Clearing, NotWaiting, NoSingleMark, ClearedBy, clearing_bytes, clearing_number, clearing_answer}
use Rattle.rules.proofs.Reasons.{StateFits}

pub id_fits : (d : DagPoint) → is_dropped d ≡ false → StateFits d → IdFits (entry_id d)
id_fits (Valid q) e h = h.id
id_fits (TransInvalid q root n) e h = h.0.id
id_fits (Invalid q n) e h = h.id
id_fits (IllFormed i n) e h = h.0
id_fits (NotFound i) e h = h
id_fits Dropped e h = impossible (cc)

abbrev ClearingFits : Clearing → Type 0
ClearingFits NotWaiting = Unit
ClearingFits NoSingleMark = Unit
ClearingFits (ClearedBy i) = IdFits i

pub bytes-length : (y : Clearing) → length (clearing_bytes y) ≡ 69
bytes-length NotWaiting = refl
bytes-length NoSingleMark = refl
bytes-length (ClearedBy i) = let h = id_length i in omega arith

-- which of the three it is
abbrev first_byte : Clearing → ℕ
first_byte y = get_or (clearing_bytes y) 0 0

bytes-same : (y z : Clearing) → ClearingFits y → ClearingFits z → clearing_bytes y ≡ clearing_bytes z → y ≡ z
bytes-same y z f g h = go y z f g h (ap (λ (l : List ℕ). get_or l 0 0) h)
  where
    go : (y z : Clearing) → ClearingFits y → ClearingFits z → clearing_bytes y ≡ clearing_bytes z → first_byte y ≡ first_byte z → y ≡ z
    go NotWaiting NotWaiting f g h e = refl
    go NotWaiting NoSingleMark f g h e = absurd (omega arith)
    go NotWaiting (ClearedBy j) f g h e = absurd (omega arith)
    go NoSingleMark NotWaiting f g h e = absurd (omega arith)
    go NoSingleMark NoSingleMark f g h e = refl
    go NoSingleMark (ClearedBy j) f g h e = absurd (omega arith)
    go (ClearedBy i) NotWaiting f g h e = absurd (omega arith)
    go (ClearedBy i) NoSingleMark f g h e = absurd (omega arith)
    go (ClearedBy i) (ClearedBy j) f g h e =
        ap ClearedBy (sym (id-first i [] f) ∙ ap (λ (l : List ℕ). point_id_at (drop 1 l ++ []) 0) h ∙ id-first j [] g)

-- a number, or what is said, with the answer that is left
abbrev pub ResultFits : Result Clearing ℕ → Type 0
ResultFits (Err n) = 1 ≤ n
ResultFits (Ok y) = ClearingFits y

pub answer_told : (a b : Result Clearing ℕ) (s t : List ℕ) → ResultFits a → ResultFits b → clearing_number a ≡ clearing_number b →
    clearing_answer a s ≡ clearing_answer b t → a ≡ b
answer_told (Err n) (Err m) s t f g e h = ap Err e
answer_told (Err n) (Ok z) s t f g e h = absurd (omega arith)
answer_told (Ok y) (Err m) s t f g e h = absurd (omega arith)
answer_told (Ok y) (Ok z) s t f g e h =
    ap Ok
    (bytes-same y z f g
    (sym (put_read s 0 (clearing_bytes y) 69 (bytes-length y) (omega arith))
    ∙ ap (λ (l : List ℕ). bytes_at 69 l 0) h
    ∙ put_read t 0 (clearing_bytes z) 69 (bytes-length z) (omega arith)))
