-- `any_bytes` meets its contract.
use Rattle.books.proofs.Refused.{any-bytes}
use Rattle.books.proofs.any_bytes.Goals as goal

pub returns : goal.returns
returns c = any-bytes
