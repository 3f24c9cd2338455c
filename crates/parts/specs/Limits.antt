-- The limits of document 01, each named once.
use Rattle.std.specs.Prelude.{ℕ}

-- "rounds 4 to 2,147,483,647"
abbrev pub first_round : ℕ
first_round = 4

abbrev pub last_round : ℕ
last_round = 2147483647

-- the peer buffer: 255 peers of 32 bytes
abbrev pub peers_room : ℕ
peers_room = 8160

-- tag 32 with its settings: 3 bytes and 44
abbrev pub settings_length : ℕ
settings_length = 47

-- where a book's entries begin: after its settings
abbrev pub entries_start : ℕ
entries_start = settings_length

-- tag 33 after an entry's record: 3 bytes and 105
abbrev pub tag33_length : ℕ
tag33_length = 108

-- the entries of a book
abbrev pub most_kept : ℕ
most_kept = 4096

-- the bytes of a book
abbrev pub longest_book : ℕ
longest_book = 16777216
