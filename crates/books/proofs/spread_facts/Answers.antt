-- `spread_facts` meets its contract.
use Rattle.books.proofs.SpreadFacts.{spread_facts}
use Rattle.books.proofs.spread_facts.Goals as goal

pub returns : goal.returns
returns c = spread_facts
