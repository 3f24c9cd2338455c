-- Which library this is, in parts under 256; docs/FORMAT.md says when each changes.
use Rattle.std.specs.Prelude.{ℕ, ◌+◌, ◌*◌}

-- the C calls: their names, parameters and results
abbrev pub abi : ℕ
abi = 1

-- the bytes that are lent and answered
abbrev pub format : ℕ
format = 2

-- the library's own version
abbrev pub major : ℕ
major = 0

abbrev pub minor : ℕ
minor = 1

-- the parts in one number, a byte each
abbrev pub version : ℕ
version = ((abi * 256 + format) * 256 + major) * 256 + minor
