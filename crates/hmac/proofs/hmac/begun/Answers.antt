use Rattle.std.proofs.Common.{rules}
use Rattle.hmac.proofs.KeyBlock.{unpadded}
use Rattle.hmac.proofs.hmac.begun.Goals as goal

pub returns : goal.returns
returns g c = search (rules, unpadded)
