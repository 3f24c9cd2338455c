-- The numbers of the calls that give no verdict: document 01's, and those that tickets of document 02 add.
use Rattle.std.specs.Prelude.{ℕ, Result, Ok, Err}
use Rattle.reasons.specs.declared.refusal.Refusal.{Refusal}
use Rattle.reasons.specs.declared.refusal.Refusal.TheVariants.{Settings, Schedule, Record, Domain, Short, Horizon, Entries, Mismatch, Uncovered, Book, Kept, Full, Twice, Output, Trail, Forced}

abbrev pub refusal_number : Refusal → ℕ
refusal_number Settings = 1
refusal_number Schedule = 2
refusal_number Record = 3
refusal_number Domain = 4
refusal_number Short = 5
refusal_number Horizon = 6
refusal_number Entries = 7
refusal_number Mismatch = 8
refusal_number Uncovered = 9
refusal_number Book = 10
refusal_number Kept = 11
refusal_number Full = 12
refusal_number Twice = 13
refusal_number Output = 14
refusal_number Trail = 15
refusal_number Forced = 17

-- what a call gave, a refusal by its number
abbrev pub numbered : {A : Type 0} → Result A Refusal → Result A ℕ
numbered (Ok x) = Ok x
numbered (Err r) = Err (refusal_number r)

-- the number of a call that hands nothing else out, 0 where there is none
abbrev pub refused_number : Result Unit Refusal → ℕ
refused_number (Ok u) = 0
refused_number (Err r) = refusal_number r

-- of a call that fills a lent output: its number, 0 where there is none
abbrev pub filled_number : Result ℕ ℕ → ℕ
filled_number (Err n) = n
filled_number (Ok count) = 0

-- and what it "tells how many bytes or rows it wrote" (document 02, U1), where `old` stood before
abbrev pub filled_count : Result ℕ ℕ → ℕ → ℕ
filled_count (Err n) old = old
filled_count (Ok count) old = count
