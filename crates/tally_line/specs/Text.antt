-- What the program tally prints, as bytes (document 01, "Printing and calling"): "It prints place, round, verdict letter (F, L
-- ill-formed, I, T, V, or -), reason number (0 if none), refusal number; then `end` and the kept count". Bytes are ASCII codes.
use Rattle.std.specs.Prelude.{ℕ, zero, suc, ◌+◌, ◌/◌, ◌%◌, List, [], ◌∷◌, ◌++◌, ltb}
use Rattle.base.specs.Base.{pick}
use Rattle.tally_line.specs.declared.Line.{Line}

abbrev pub space : List ℕ
space = 32 ∷ []

abbrev pub newline : List ℕ
newline = 10 ∷ []

-- a number in decimal, with no zero before its first digit, in at most k digits
unfoldable pub decimal_in : ℕ → ℕ → List ℕ
decimal_in zero n = []
decimal_in (suc k) n = pick (ltb n 10) ((48 + n) ∷ []) (decimal_in k (n / 10) ++ ((48 + n % 10) ∷ []))

-- a 64-bit number has at most 20 digits
unfoldable pub decimal : ℕ → List ℕ
unfolding decimal_in
decimal n = decimal_in 20 n

-- the five parts of a line, with single spaces between them
unfoldable pub line_bytes : Line → List ℕ
unfolding decimal
line_bytes l =
    decimal l.place ++ space ++ decimal l.round ++ space ++ (l.letter ∷ []) ++ space ++ decimal l.reason ++ space
    ++ decimal l.number ++ newline

-- `end`, a space, and the kept count
unfoldable pub end_bytes : ℕ → List ℕ
unfolding decimal
end_bytes kept = (101 ∷ 110 ∷ 100 ∷ space) ++ decimal kept ++ newline

unfoldable pub lines_bytes : List Line → List ℕ
unfolding line_bytes
lines_bytes [] = []
lines_bytes (l ∷ ls) = line_bytes l ++ lines_bytes ls
