use Rattle.std.proofs.Common.{arith}
use Rattle.std.proofs.lemmas.Bool.Decides.{nat_tests}
use Rattle.compose.specs.Code.{draft_of}
use Rattle.compose.proofs.Tested.{role_some}
use Rattle.compose.proofs.draft.Draft.is_role.Goals as goal

pub returns-then-self-ne1 : goal.returns-then-self-ne1
returns-then-self-ne1 c = let s = role_some (draft_of c.args.self.now) in grind (arith, nat_tests)

pub returns-else-self-ne1 : goal.returns-else-self-ne1
returns-else-self-ne1 c = let s = role_some (draft_of c.args.self.now) in grind (arith, nat_tests)

pub returns-else-self-le3 : goal.returns-else-self-le3
returns-else-self-le3 c = let s = role_some (draft_of c.args.self.now) in grind (arith, nat_tests)
