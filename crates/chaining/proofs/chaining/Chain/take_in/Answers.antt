use Rattle.std.proofs.Common.{rules}
use Rattle.chaining.proofs.Taken.{filled_and_rest, ended_and_rest}
use Rattle.chaining.proofs.chaining.Chain.take_in.Goals as goal

pub returns-then-end-eq64-clause-absorbed : goal.returns-then-end-eq64-clause-absorbed
returns-then-end-eq64-clause-absorbed g c = search (rules, ended_and_rest)

pub returns-else-end-eq64-clause-absorbed : goal.returns-else-end-eq64-clause-absorbed
returns-else-end-eq64-clause-absorbed g c = search (rules, filled_and_rest)
