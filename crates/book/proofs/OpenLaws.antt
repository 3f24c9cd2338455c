-- Laws of opening a book: zeros after the settings.
use Rattle.std.specs.Prelude.{None, Some}
use mathlib.Core.Logic.{◌⊎◌, inl, inr}
use Prim.Native.Nat.{ℕ, suc, ◌-◌, ◌≤◌, ◌<◌}
use native.Mathlib.Nat.{sub-zero}
use native.Mathlib.Omega.{arith}
use mathlib.Core.Path.{◌≡◌, ap, sym, ◌∙◌}
use mathlib.Core.Bool.{◌||◌}
use mathlib.Core.List.{List, ◌++◌, append-nil}
use lib.ListN.{length, take, drop, replicate, length-drop}
use Rattle.std.proofs.lemmas.List.{drop_all}
use borrow.Rule.Slice.PartMut.{put_mid}
use lib.Seq.{take_at, length-take-le}
use lib.Dec.{ltb}
use borrow.Author.Tests.{lt-ltb, le-ltb}
use Rattle.base.specs.Base.{pick}
use Rattle.parts.specs.Bytes.{put_at}
use Rattle.write.proofs.Laws.{put_length}
use Rattle.schedule.specs.Settings.{Settings, read_settings}
use Rattle.books.specs.Offer.{used}
use Rattle.books.specs.Layout.{entries_bytes, book_bytes}
use Rattle.books.specs.Calls.{open_number, opened_as, open_bytes}
use Rattle.books.proofs.RoundTrip.{settings-length}

-- ---- zeros from a place on

abbrev pub cleared : List ℕ → ℕ → List ℕ
cleared s from = take from s ++ replicate (length s - from) 0

pub zeroed : (s t : List ℕ) → 47 ≤ length s → t ≡ replicate (length (take (length s - 47) (drop 47 s))) 0 → put_mid 47 (length s - 47) s t ≡ cleared s 47
zeroed s t h e =
    let n : length (take (length s - 47) (drop 47 s)) ≡ length s - 47 = length-take-le (length s - 47) (drop 47 s) (omega (arith, length-drop 47 s)) in
    rw (e, n, drop_all (length s - 47) (drop 47 s) (omega (arith, length-drop 47 s))) (simp append-nil)

-- ---- the numbers of opening

module _ (settings s : List ℕ) where
  -- the number, and the bytes as they were
  abbrev pub Refused : ℕ → Type 0
  Refused n = (n ≡ open_number settings (length s)) × (s ≡ open_bytes settings s)

  refused-by : (n : ℕ) → open_number settings (length s) ≡ suc n → Refused (suc n)
  unfolding open_bytes
  refused-by n h = (sym h, rw h)

  pub no_settings : read_settings settings ≡ None → Refused 1
  no_settings h = refused-by 0 (unfold open_number in rw h)

  module _ (c : Settings) (h : read_settings settings ≡ Some c) where
    number_is : open_number settings (length s) ≡ pick (ltb (length s) 47 || ltb 16777216 (length s)) 5 0
    unfolding open_number
    number_is = rw h

    pub unfit : (length s < 47) ⊎ ((47 ≤ length s) × (16777216 < length s)) → Refused 5
    unfit (inl l) = refused-by 4 (number_is ∙ rw (lt-ltb (length s) 47 l))
    unfit (inr (l, g)) = refused-by 4 (number_is ∙ rw (le-ltb (length s) 47 l, lt-ltb 16777216 (length s) g))

    module _ (l : 47 ≤ length s) (g : length s ≤ 16777216) where
      number_open : open_number settings (length s) ≡ 0
      number_open = number_is ∙ rw (le-ltb (length s) 47 l, le-ltb 16777216 (length s) g)

      bytes_open : open_bytes settings s ≡ settings ++ replicate (length s - 47) 0
      unfolding open_bytes book_bytes entries_bytes used
      bytes_open = ap (opened_as settings s) number_open ∙ rw (sub-zero (length s - 47))

      -- the settings and zeros after them
      pub is_open : (0 ≡ open_number settings (length s)) × (cleared (put_at s 0 settings) 47 ≡ open_bytes settings s)
      unfolding put_at
      is_open =
          let n = settings-length settings c h in
          let e : length (put_at s 0 settings) ≡ length s = put_length s 0 settings (omega arith) in
          (sym number_open, rw (e, take_at settings _ 47 n) (sym bytes_open))
