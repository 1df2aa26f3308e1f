use Rattle.std.proofs.Common.{rules}
use lib.Bits.{bit_xor}
use Rattle.std.proofs.lemmas.List.Edits.{map_over_more}
use Rattle.hmac.proofs.hmac.pad_each.Goals as goal

pub loop-b-preserved : goal.loop-b-preserved
loop-b-preserved c = search (rules, map_over_more (λ x. bit_xor x c.args.pad))
